use denote.Exit.{no}
use denote.Param.Send.{arg_sync, param_sync}
use Rattle.zarr_sharding_chains.proofs.Crossing.{chain_sync}
use Rattle.zarr_sharding_samples.proofs.Crossing.{reverse_sync}
use Rattle.zarr_sharding_nesting_tests.proofs.options.array_is_row_major.Goals as goal

pub makes-requires-sync-C : goal.makes-requires-sync-C
makes-requires-sync-C g c κs within = param_sync _ _ (arg_sync _ no _ (chain_sync _ reverse_sync))
