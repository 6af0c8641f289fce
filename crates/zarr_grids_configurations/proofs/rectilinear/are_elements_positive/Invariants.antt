use Rattle.std.proofs.Common.{◌≡◌, drop, map}
use Rattle.zarr_grids_configurations.specs.Grids.{is_positive, covering}
use Rattle.zarr_grids_configurations.specs.Views.{repeat_of}
use Rattle.zarr_grids_configurations.proofs.rectilinear.are_elements_positive.Given as goal

-- what is left answers as the whole
abbrev pub invariant-loop-element : goal.invariant-loop-element
invariant-loop-element l = is_positive (covering (map repeat_of l.elements)) ≡ is_positive (covering (map repeat_of (drop l.element-index l.elements)))
