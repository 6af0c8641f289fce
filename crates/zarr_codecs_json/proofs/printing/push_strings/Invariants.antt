use Rattle.zarr_codecs_meaning.specs.Types.{string}
use Rattle.zarr_codecs_meaning.specs.Payloads.{variable}
use Rattle.zarr_codecs_arrays.specs.Views.{numbers_of}
use Rattle.zarr_codecs_json.specs.Texts.{all_cells}
use Rattle.zarr_codecs_json.proofs.PrintedCells.{AreListed}
use Rattle.zarr_codecs_json.proofs.printing.push_strings.Given as goal

abbrev pub invariant-loop-index : goal.invariant-loop-index
invariant-loop-index l = AreListed string l.fn.text.items l.text.items l.index (all_cells string (variable l.bytes (numbers_of l.offsets)))
