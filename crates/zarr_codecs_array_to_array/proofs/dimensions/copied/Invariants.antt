use Rattle.std.proofs.Common.{◌≡◌, map, take}
use Rattle.zarr_codecs_array_to_array.specs.Entries.{entry_of}
use Rattle.zarr_codecs_array_to_array.proofs.dimensions.copied.Given as goal

-- the dimensions so far
abbrev pub invariant-loop-dimension : goal.invariant-loop-dimension
invariant-loop-dimension l = map entry_of l.copies.items ≡ map entry_of (take l.dimension-index l.dimensions)
