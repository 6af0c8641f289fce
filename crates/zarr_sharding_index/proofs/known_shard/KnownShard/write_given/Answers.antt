use Rattle.std.proofs.Common.{length}
use Rattle.zarr_sharding_index.specs.Known.{pairs_in}
use Rattle.zarr_sharding_index.proofs.OnlySlice.{only_below}
use Rattle.zarr_sharding_index.proofs.known_shard.KnownShard.write_given.Goals as goal

pub write_slice-requires-clause-below : goal.write_slice-requires-clause-below
write_slice-requires-clause-below g c = only_below (length (pairs_in c.args.self.now)) c.in-Some.number c.in-Some.slice.items c.args.changes.items c.in-Some.ensures.some c.requires.below
