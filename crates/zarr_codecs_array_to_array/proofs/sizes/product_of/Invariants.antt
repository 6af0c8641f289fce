use Rattle.std.proofs.Common.{◌≡◌, ◌*◌, ◌^◌, ◌<◌, map, drop}
use Rattle.zarr_grids_boxes.specs.Boxes.{product}
use Rattle.zarr_codecs_array_to_array.specs.Entries.{entry_of}
use Rattle.zarr_codecs_array_to_array.specs.Sizes.{capped, size_or}
use Rattle.zarr_codecs_array_to_array.proofs.sizes.product_of.Given as goal

-- the product so far, with the sizes that are left
abbrev pub invariant-loop-dimension : goal.invariant-loop-dimension
invariant-loop-dimension l = (l.product < 2 ^ 128) × (capped (l.product * product (map (size_or l.left l.shape) (map entry_of (drop l.dimension-index l.dimensions)))) ≡ capped (product (map (size_or l.left l.shape) (map entry_of l.dimensions))))
