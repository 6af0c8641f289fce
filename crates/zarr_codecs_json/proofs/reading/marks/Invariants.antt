use Rattle.std.proofs.Common.{drop}
use Rattle.serde_json.specs.View.{items_view}
use Rattle.zarr_codecs_json.specs.Inside.{mark_inside}
use Rattle.zarr_codecs_json.proofs.ReadLists.{AreRead}
use Rattle.zarr_codecs_json.proofs.reading.marks.Given as goal

abbrev pub invariant-loop-value : goal.invariant-loop-value
invariant-loop-value l = AreRead (mark_inside l.levels) l.marks.items (items_view (drop l.value-index l.values)) (items_view l.values)
