use Rattle.std.proofs.Common.{drop}
use Rattle.zarr_codecs_json.proofs.NumberLists.{AreValuesOf}
use Rattle.zarr_codecs_json.proofs.whole_numbers.values_of.Given as goal

abbrev pub invariant-loop-number : goal.invariant-loop-number
invariant-loop-number l = AreValuesOf l.values.items (drop l.number-index l.numbers) l.numbers
