use Rattle.std.proofs.Common.{◌≡◌, drop, map}
use Rattle.zarr_codecs_around.specs.Codecs.{all_encoded}
use Rattle.zarr_codecs_around.proofs.byte_codecs.encode_all.Given as goal

-- the codecs that are left make of what is made what all of them make of the bytes
abbrev pub invariant-loop-codec : goal.invariant-loop-codec
invariant-loop-codec g l =
    let meaning = g.B.BytesToBytesCodecTraits.meaning in
    all_encoded (map meaning (drop l.codec-index l.codecs)) l.made.items ≡ all_encoded (map meaning l.codecs) l.initial.made.items
