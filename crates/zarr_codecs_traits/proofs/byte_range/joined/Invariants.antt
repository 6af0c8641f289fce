use Rattle.std.proofs.Common.{◌≡◌, flat_map, take}
use Rattle.zarr_codecs_traits.specs.Sources.{part_bytes}
use Rattle.zarr_codecs_traits.proofs.byte_range.joined.Given as goal

abbrev pub invariant-loop-part : goal.invariant-loop-part
invariant-loop-part l = l.bytes.items ≡ flat_map (λ part. part) (part_bytes (take l.part-index l.parts))
