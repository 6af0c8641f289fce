use Rattle.std.proofs.Common.{◌≡◌, drop}
use Rattle.zarr_grids_dimensions.specs.Lookups.{in_all, place_inbounds}
use Rattle.zarr_grids_dimensions.specs.Dimensions.{grid_of}
use Rattle.zarr_grids_dimensions.proofs.lookups.are_places_inbounds.Given as goal

-- what is left answers as the whole
abbrev pub invariant-loop-k : goal.invariant-loop-k
invariant-loop-k l = in_all place_inbounds (grid_of l.grid) l.place ≡ in_all place_inbounds (grid_of (drop l.k l.grid)) (drop l.k l.place)
