use Rattle.std.proofs.Common.{◌≡◌, map, take}
use Rattle.zarr_grids_configurations.specs.Views.{repeat_of}
use Rattle.zarr_grids_configurations.proofs.dimensions.element_repeats.Given as goal

-- the repeats of the elements so far
abbrev pub invariant-loop-element : goal.invariant-loop-element
invariant-loop-element l = l.repeats.items ≡ map repeat_of (take l.element-index l.elements)
