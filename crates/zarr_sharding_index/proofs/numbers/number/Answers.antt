use Rattle.std.proofs.Common.{◌∙◌, arith}
use Rattle.zarr_sharding_index.proofs.PairBytes.{eight_read}
use Rattle.zarr_sharding_index.proofs.numbers.number.Goals as goal

pub returns : goal.returns
returns c = c.from_le_bytes.ensures ∙ eight_read c.args.bytes.now (omega arith)
