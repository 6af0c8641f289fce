use Rattle.zarr_grids_configurations.proofs.ReadsBack.{rectilinear-back}
use Rattle.zarr_grids_configurations.proofs.laws.rectilinear_reads_back.Goals as goal

pub returns : goal.returns
returns c = rectilinear-back
