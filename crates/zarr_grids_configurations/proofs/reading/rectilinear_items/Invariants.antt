use Rattle.std.proofs.Common.{◌≡◌, ◌++◌, drop, map, option_map}
use Rattle.serde_json.specs.View.{items_view}
use Rattle.zarr_grids_configurations.specs.Configurations.{in_each_item, rectilinear_edges}
use Rattle.zarr_grids_configurations.specs.Views.{rectilinear_view}
use Rattle.zarr_grids_configurations.proofs.reading.rectilinear_items.Given as goal

-- what is left goes on from the edges so far
abbrev pub invariant-loop-item : goal.invariant-loop-item
invariant-loop-item l = in_each_item rectilinear_edges (items_view l.items) ≡ option_map (λ rest. map rectilinear_view l.found.items ++ rest) (in_each_item rectilinear_edges (items_view (drop l.item-index l.items)))
