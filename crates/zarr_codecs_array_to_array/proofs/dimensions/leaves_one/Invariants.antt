use Rattle.std.proofs.Common.{◌≡◌, ◌+◌, map, length, drop, if◌then◌else◌}
use Rattle.std.specs.List.{filter}
use Rattle.zarr_codecs_metadata.specs.ArrayCodecs.{is_left_over}
use Rattle.zarr_codecs_array_to_array.specs.Entries.{entry_of}
use Rattle.zarr_codecs_array_to_array.proofs.dimensions.leaves_one.Given as goal

-- the one that was found, and those that are left
abbrev pub invariant-loop-dimension : goal.invariant-loop-dimension
invariant-loop-dimension l = (if l.found then 1 else 0) + length (filter is_left_over (map entry_of (drop l.dimension-index l.dimensions))) ≡ length (filter is_left_over (map entry_of l.dimensions))
