use Rattle.zarr_grids_keys.proofs.ReadsBack.{keys_in-written}
use Rattle.zarr_grids_keys.proofs.metadata_laws.written_keys_read_back.Goals as goal

pub returns : goal.returns
returns c = keys_in-written
