use Rattle.std.proofs.Common.{◌≡◌, drop, map}
use Rattle.zarr_codecs_traits.specs.Representations.{known_size}
use Rattle.zarr_codecs_around.specs.Codecs.{all_represented, any_too_long}
use Rattle.zarr_codecs_around.proofs.byte_codecs.represent_all.Given as goal

-- the codecs that are left tell of what is known what all of them tell of what was known
abbrev pub invariant-loop-codec : goal.invariant-loop-codec
invariant-loop-codec g l =
    let meaning = g.B.BytesToBytesCodecTraits.meaning in
    let left = map meaning (drop l.codec-index l.codecs) in
    record {
      told : all_represented left (known_size l.known) ≡ all_represented (map meaning l.codecs) (known_size l.initial.known);
      long : any_too_long left (known_size l.known) ≡ any_too_long (map meaning l.codecs) (known_size l.initial.known);
    }
