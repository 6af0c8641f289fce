use Rattle.std.proofs.Common.{◌≡◌, ◌++◌, drop, option_map}
use Rattle.serde_json.specs.View.{items_view}
use Rattle.zarr_grids_configurations.specs.Numbers.{sizes_of}
use Rattle.zarr_run_commands.proofs.field.read_indices.Given as goal

-- what is left goes on from the indices so far
abbrev pub invariant-loop-index : goal.invariant-loop-index
invariant-loop-index l = sizes_of (items_view l.indices) ≡ option_map (λ ns. l.chunk.items ++ ns) (sizes_of (items_view (drop l.index-index l.indices)))
