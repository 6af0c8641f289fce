use Rattle.std.proofs.Common.{◌≡◌, map, drop}
use Rattle.std.specs.List.{list_any}
use Rattle.zarr_codecs_metadata.specs.ArrayCodecs.{is_zero_size}
use Rattle.zarr_codecs_array_to_array.specs.Entries.{entry_of}
use Rattle.zarr_codecs_array_to_array.proofs.dimensions.has_zero.Given as goal

-- the dimensions that are left answer as all do
abbrev pub invariant-loop-dimension : goal.invariant-loop-dimension
invariant-loop-dimension l = list_any is_zero_size (map entry_of l.dimensions) ≡ list_any is_zero_size (map entry_of (drop l.dimension-index l.dimensions))
