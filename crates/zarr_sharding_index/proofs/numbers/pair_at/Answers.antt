use Rattle.std.proofs.Common.{◌+◌, ◌-◌, arith}
use Rattle.zarr_sharding_index.proofs.PairBytes.{pair_found_within}
use Rattle.zarr_sharding_index.proofs.numbers.pair_at.Goals as goal

pub returns : goal.returns
returns c =
    let s = c.pair_start-start.result in
    pair_found_within c.args.n s (s + 8 - s) (s + 16 - (s + 8)) c.args.bytes.now c.number.result c.number-2.result c.pair_start-start.ensures.start c.pair_start-start.ensures.within (omega arith) (omega arith) c.number.ensures c.number-2.ensures
