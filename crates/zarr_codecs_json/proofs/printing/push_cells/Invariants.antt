use Rattle.zarr_codecs_types.specs.Views.{type_of}
use Rattle.zarr_codecs_arrays.specs.Views.{payload_of}
use Rattle.zarr_codecs_json.specs.Texts.{all_cells}
use Rattle.zarr_codecs_json.proofs.PrintedCells.{AreListed}
use Rattle.zarr_codecs_json.proofs.printing.push_cells.Given as goal

abbrev pub invariant-loop-index : goal.invariant-loop-index
invariant-loop-index l = AreListed (type_of l.data_type) l.fn.text.items l.text.items l.index (all_cells (type_of l.data_type) (payload_of l.elements))
