use Rattle.std.proofs.Common.{arith}
use Rattle.zarr_codecs_json.proofs.NumberLists.{values_end}
use Rattle.zarr_codecs_json.proofs.whole_numbers.values_of.Goals as goal

pub returns : goal.returns
returns c = values_end c.loop-number.values.items c.args.numbers.now c.loop-number.number-index (omega arith) c.loop-number.invariant
