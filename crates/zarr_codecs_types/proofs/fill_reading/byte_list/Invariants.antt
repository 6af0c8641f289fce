use Rattle.std.proofs.Common.{◌≡◌, ◌++◌, drop, option_map}
use Rattle.serde_json.specs.View.{items_view}
use Rattle.zarr_codecs_types.specs.FillMetadata.{byte_list}
use Rattle.zarr_codecs_types.proofs.fill_reading.byte_list.Given as goal

-- the whole list says the bytes so far and those that the values left say
abbrev pub invariant-loop-item : goal.invariant-loop-item
invariant-loop-item l = byte_list (items_view l.items) ≡ option_map (λ rest. l.bytes.items ++ rest) (byte_list (items_view (drop l.item-index l.items)))
