use Rattle.zarr_grids_configurations.proofs.ReadsBack.{regular-back}
use Rattle.zarr_grids_configurations.proofs.laws.regular_reads_back.Goals as goal

pub returns : goal.returns
returns c = regular-back
