use Rattle.std.proofs.Common.{◌≡◌, ◌*◌, ◌^◌, ◌<◌, map, slice_index, drop}
use Rattle.zarr_grids_boxes.specs.Boxes.{product}
use Rattle.zarr_codecs_array_to_array.specs.Sizes.{capped}
use Rattle.zarr_codecs_array_to_array.proofs.sizes.named_product.Given as goal

-- the product so far, with the sizes that are left
abbrev pub invariant-loop-dimension : goal.invariant-loop-dimension
invariant-loop-dimension l = (l.product < 2 ^ 128) × (capped (l.product * product (map (slice_index l.shape) (drop l.dimension-index l.named))) ≡ capped (product (map (slice_index l.shape) l.named)))
