use Rattle.std.proofs.Common.{◌≡◌, ◌++◌, drop, map, option_map}
use Rattle.serde_json.specs.View.{items_view}
use Rattle.zarr_grids_metadata.specs.Views.{point_of}
use Rattle.zarr_codecs_metadata.specs.Chains.{points_in}
use Rattle.zarr_array_fields.proofs.parts.points_in.Given as goal

-- what is left goes on from the points so far
abbrev pub invariant-loop-value : goal.invariant-loop-value
invariant-loop-value l = points_in (items_view l.values) ≡ option_map (λ rest. map point_of l.points.items ++ rest) (points_in (items_view (drop l.value-index l.values)))
