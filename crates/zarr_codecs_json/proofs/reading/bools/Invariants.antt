use Rattle.std.proofs.Common.{drop}
use Rattle.serde_json.specs.View.{items_view}
use Rattle.zarr_codecs_meaning.specs.Types.{bool}
use Rattle.zarr_codecs_json.specs.Inside.{cell_inside}
use Rattle.zarr_codecs_json.proofs.ReadLists.{FixedRead}
use Rattle.zarr_codecs_json.proofs.reading.bools.Given as goal

abbrev pub invariant-loop-value : goal.invariant-loop-value
invariant-loop-value l = FixedRead (cell_inside bool l.levels) 1 l.bytes.items (items_view (drop l.value-index l.values)) (items_view l.values)
