use denote.Exit.{no}
use denote.Param.Send.{arg_sync, param_sync}
use Rattle.zarr_sharding_chains.proofs.Crossing.{plain_sync}
use Rattle.zarr_sharding_samples.proofs.Crossing.{reverse_sync, shard_sync}
use Rattle.zarr_sharding_builders_tests.proofs.builders.is_made_by_default.Goals as goal

pub makes-requires-sync-C : goal.makes-requires-sync-C
makes-requires-sync-C g c κs within = let chain = plain_sync _ reverse_sync in param_sync _ _ (arg_sync _ no _ (shard_sync _ _ chain chain))
