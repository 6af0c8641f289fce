use Rattle.std.proofs.Common.{◌≡◌, ◌++◌, drop, map, option_map}
use Rattle.serde_json.specs.View.{items_view}
use Rattle.zarr_grids_configurations.specs.Configurations.{repeats_of}
use Rattle.zarr_grids_configurations.specs.Views.{repeat_of}
use Rattle.zarr_grids_configurations.proofs.reading.elements_of.Given as goal

-- what is left goes on from the repeats so far
abbrev pub invariant-loop-item : goal.invariant-loop-item
invariant-loop-item l = repeats_of (items_view l.items) ≡ option_map (λ rest. map repeat_of l.found.items ++ rest) (repeats_of (items_view (drop l.item-index l.items)))
