use Rattle.std.proofs.Common.{◌≡◌, drop}
use Rattle.std.specs.List.{list_any}
use Rattle.zarr_codecs_traits.specs.Sources.{ends_past}
use Rattle.zarr_codecs_traits.proofs.byte_range.any_ends_past.Given as goal

abbrev pub invariant-loop-range : goal.invariant-loop-range
invariant-loop-range l = list_any (ends_past l.value) l.ranges ≡ list_any (ends_past l.value) (drop l.range-index l.ranges)
