use Rattle.zarr_sharding_index.proofs.PairBytes.{pair_more}
use Rattle.zarr_sharding_index.proofs.index.ShardIndex.push.Goals as goal

pub returns-clause-ok : goal.returns-clause-ok
returns-clause-ok c =
    let new = c.pair_bytes-bytes.ensures in
    pair_more c.extend_from_slice.result c.args.self.now.bytes.items c.extend_from_slice.new.self.items c.pair_bytes-bytes.result c.args.pair.offset c.args.pair.length c.extend_from_slice.ensures.items new.bytes c.args.self.now.whole new.offset new.size
