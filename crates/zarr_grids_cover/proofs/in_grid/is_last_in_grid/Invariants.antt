use Rattle.std.proofs.Common.{◌≡◌, drop}
use Rattle.zarr_grids_boxes.specs.Boxes.{last_index}
use Rattle.zarr_grids_dimensions.specs.Dimensions.{grid_of}
use Rattle.zarr_grids_dimensions.specs.Lookups.{in_all}
use Rattle.zarr_grids_cover.specs.InGrid.{is_number_in_grid}
use Rattle.zarr_grids_cover.proofs.in_grid.is_last_in_grid.Given as goal

-- what is left answers as the whole
abbrev pub invariant-loop-k : goal.invariant-loop-k
invariant-loop-k l = in_all is_number_in_grid (grid_of l.grid) (last_index l.start l.shape) ≡ in_all is_number_in_grid (grid_of (drop l.k l.grid)) (drop l.k (last_index l.start l.shape))
