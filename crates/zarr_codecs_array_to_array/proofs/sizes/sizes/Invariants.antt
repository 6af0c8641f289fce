use Rattle.std.proofs.Common.{◌≡◌, map, take}
use Rattle.zarr_codecs_array_to_array.specs.Entries.{entry_of}
use Rattle.zarr_codecs_array_to_array.specs.Sizes.{size_or}
use Rattle.zarr_codecs_array_to_array.proofs.sizes.sizes.Given as goal

-- the sizes so far
abbrev pub invariant-loop-dimension : goal.invariant-loop-dimension
invariant-loop-dimension l = l.sizes.items ≡ map (size_or l.left l.shape) (map entry_of (take l.dimension-index l.dimensions))
