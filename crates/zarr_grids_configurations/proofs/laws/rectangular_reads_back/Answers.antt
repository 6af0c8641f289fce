use Rattle.zarr_grids_configurations.proofs.ReadsBack.{rectangular-back}
use Rattle.zarr_grids_configurations.proofs.laws.rectangular_reads_back.Goals as goal

pub returns : goal.returns
returns c = rectangular-back
