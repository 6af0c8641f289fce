use Rattle.std.proofs.Common.{◌≡◌, ◌++◌, drop}
use Rattle.zarr_grids_boxes.specs.Boxes.{last_index}
use Rattle.zarr_grids_dimensions.proofs.boxes.last_place.Given as goal

-- what is left goes on from what was found
abbrev pub invariant-loop-k : goal.invariant-loop-k
invariant-loop-k l = last_index l.start l.shape ≡ l.place.items ++ last_index (drop l.k l.start) (drop l.k l.shape)
