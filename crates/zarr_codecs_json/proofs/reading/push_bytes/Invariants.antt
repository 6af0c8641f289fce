use Rattle.std.proofs.Common.{drop}
use Rattle.serde_json.specs.View.{items_view}
use Rattle.zarr_codecs_json.proofs.ReadLists.{BytesRead}
use Rattle.zarr_codecs_json.proofs.reading.push_bytes.Given as goal

abbrev pub invariant-loop-value : goal.invariant-loop-value
invariant-loop-value l = BytesRead l.fn.bytes.items l.bytes.items (items_view (drop l.value-index l.values)) (items_view l.values)
