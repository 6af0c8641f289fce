use Rattle.std.proofs.Common.{◌≡◌, map, take}
use Rattle.zarr_codecs_around.proofs.byte_codecs.copies.Given as goal

-- the copies so far are those of the codecs so far
abbrev pub invariant-loop-codec : goal.invariant-loop-codec
invariant-loop-codec g l = map g.B.BytesToBytesCodecTraits.meaning l.copies.items ≡ map g.B.BytesToBytesCodecTraits.meaning (take l.codec-index l.codecs)
