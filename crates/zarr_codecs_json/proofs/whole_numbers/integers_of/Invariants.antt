use Rattle.std.proofs.Common.{drop}
use Rattle.zarr_codecs_meaning.specs.Types.{integer}
use Rattle.zarr_codecs_types.specs.Views.{sign_of}
use Rattle.zarr_codecs_json.specs.Inside.{cell_inside}
use Rattle.zarr_codecs_json.specs.Numbers.{number_items}
use Rattle.zarr_codecs_json.proofs.ReadLists.{FixedRead}
use Rattle.zarr_codecs_json.proofs.whole_numbers.integers_of.Given as goal

abbrev pub invariant-loop-number : goal.invariant-loop-number
invariant-loop-number l = FixedRead (cell_inside (integer (sign_of l.fn.sign) l.width) 0) l.count l.bytes.items (number_items (drop l.number-index l.numbers)) (number_items l.numbers)
