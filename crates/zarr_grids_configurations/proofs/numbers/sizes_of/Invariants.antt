use Rattle.std.proofs.Common.{◌≡◌, ◌++◌, drop, option_map}
use Rattle.serde_json.specs.View.{items_view}
use Rattle.zarr_grids_configurations.specs.Numbers.{sizes_of}
use Rattle.zarr_grids_configurations.proofs.numbers.sizes_of.Given as goal

-- what is left goes on from the sizes so far
abbrev pub invariant-loop-item : goal.invariant-loop-item
invariant-loop-item l = sizes_of (items_view l.items) ≡ option_map (λ ns. l.sizes.items ++ ns) (sizes_of (items_view (drop l.item-index l.items)))
