use Rattle.std.proofs.Common.{◌≡◌, ◌++◌, map, drop, option_map}
use Rattle.serde_json.specs.View.{items_view}
use Rattle.zarr_codecs_metadata.specs.ArrayCodecs.{entries_of}
use Rattle.zarr_codecs_array_to_array.specs.Entries.{entry_of}
use Rattle.zarr_codecs_array_to_array.proofs.metadata.dimensions_of.Given as goal

-- what is left goes on from the dimensions so far
abbrev pub invariant-loop-item : goal.invariant-loop-item
invariant-loop-item l = entries_of (items_view l.items) ≡ option_map (λ ns. map entry_of l.dimensions.items ++ ns) (entries_of (items_view (drop l.item-index l.items)))
