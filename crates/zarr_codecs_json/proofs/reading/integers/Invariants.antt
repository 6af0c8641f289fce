use Rattle.std.proofs.Common.{drop}
use Rattle.serde_json.specs.View.{items_view}
use Rattle.zarr_codecs_meaning.specs.Types.{integer}
use Rattle.zarr_codecs_types.specs.Views.{sign_of}
use Rattle.zarr_codecs_json.specs.Inside.{cell_inside}
use Rattle.zarr_codecs_json.proofs.ReadLists.{FixedRead}
use Rattle.zarr_codecs_json.proofs.reading.integers.Given as goal

abbrev pub invariant-loop-value : goal.invariant-loop-value
invariant-loop-value l = FixedRead (cell_inside (integer (sign_of l.sign) l.width) l.levels) l.count l.bytes.items (items_view (drop l.value-index l.values)) (items_view l.values)
