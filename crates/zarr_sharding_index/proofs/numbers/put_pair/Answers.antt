use Rattle.std.proofs.Common.{◌∙◌, ◌+◌, ◌-◌, arith}
use Rattle.zarr_sharding_index.proofs.PairBytes.{pair_put_within}
use Rattle.zarr_sharding_index.proofs.numbers.put_pair.Goals as goal

pub returns-clause-pairs : goal.returns-clause-pairs
returns-clause-pairs c =
    let s = c.pair_start-start.result in
    let new = c.pair_bytes-new.ensures in
    pair_put_within c.args.n s (s + 16 - s) c.args.bytes.now c.copy_from_slice.new.self c.args.pair.offset c.args.pair.length c.pair_start-start.ensures.start c.pair_start-start.ensures.within (omega arith) new.offset new.size (c.copy_from_slice.ensures.after ∙ new.bytes)
