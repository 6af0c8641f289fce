use Rattle.std.proofs.Common.{◌≡◌, drop, map}
use Rattle.zarr_grids_configurations.specs.Grids.{are_positive}
use Rattle.zarr_grids_configurations.specs.Views.{rectangular_view}
use Rattle.zarr_grids_configurations.proofs.reading.are_rectangular_positive.Given as goal

-- what is left answers as the whole
abbrev pub invariant-loop-edges : goal.invariant-loop-edges
invariant-loop-edges l = are_positive (map rectangular_view l.given) ≡ are_positive (map rectangular_view (drop l.edges-index l.given))
