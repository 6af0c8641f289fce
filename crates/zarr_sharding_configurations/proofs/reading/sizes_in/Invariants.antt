use Rattle.std.proofs.Common.{◌≡◌, ◌++◌, drop, option_map}
use Rattle.serde_json.specs.View.{items_view}
use Rattle.zarr_codecs_metadata.specs.ArrayCodecs.{naturals_of}
use Rattle.zarr_sharding_configurations.proofs.reading.sizes_in.Given as goal

-- what is left goes on from the sizes so far
abbrev pub invariant-loop-item : goal.invariant-loop-item
invariant-loop-item l = naturals_of (items_view l.items) ≡ option_map (λ ns. l.sizes.items ++ ns) (naturals_of (items_view (drop l.item-index l.items)))
