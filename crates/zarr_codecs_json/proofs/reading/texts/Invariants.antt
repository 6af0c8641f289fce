use Rattle.std.proofs.Common.{drop}
use Rattle.serde_json.specs.View.{items_view}
use Rattle.zarr_codecs_meaning.specs.Types.{string}
use Rattle.zarr_codecs_json.specs.Inside.{cell_inside}
use Rattle.zarr_codecs_json.proofs.ReadLists.{VariableRead}
use Rattle.zarr_codecs_json.proofs.reading.texts.Given as goal

abbrev pub invariant-loop-value : goal.invariant-loop-value
invariant-loop-value l = VariableRead (cell_inside string l.levels) l.bytes.items l.offsets.items (items_view (drop l.value-index l.values)) (items_view l.values)
