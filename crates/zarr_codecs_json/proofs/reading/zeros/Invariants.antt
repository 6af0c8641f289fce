use Rattle.std.proofs.Common.{◌≡◌, drop, List}
use Rattle.serde_json.specs.View.{items_view}
use Rattle.zarr_codecs_meaning.specs.Types.{Component, custom}
use Rattle.zarr_codecs_types.specs.Views.{type_of}
use Rattle.zarr_codecs_json.specs.Inside.{cell_inside}
use Rattle.zarr_codecs_json.proofs.ReadLists.{FixedRead}
use Rattle.zarr_codecs_json.proofs.reading.zeros.Given as goal

abbrev pub invariant-loop-value : goal.invariant-loop-value
invariant-loop-value l = (parts : List Component) → type_of l.data_type ≡ custom parts → FixedRead (cell_inside (custom parts) l.levels) l.width l.bytes.items (items_view (drop l.value-index l.values)) (items_view l.values)
