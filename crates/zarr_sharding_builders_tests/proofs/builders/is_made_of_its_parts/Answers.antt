use denote.Exit.{no}
use denote.Param.Send.{arg_sync, param_sync}
use Rattle.zarr_sharding_chains.proofs.Crossing.{plain_sync, sharded_sync}
use Rattle.zarr_sharding_samples.proofs.Crossing.{reverse_sync}
use Rattle.zarr_sharding_builders_tests.proofs.builders.is_made_of_its_parts.Goals as goal

pub makes-requires-sync-C : goal.makes-requires-sync-C
makes-requires-sync-C g c κs within = param_sync _ _ (arg_sync _ no _ (sharded_sync _ _ reverse_sync (plain_sync _ reverse_sync)))
