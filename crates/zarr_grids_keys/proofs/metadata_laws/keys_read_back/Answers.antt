use Rattle.zarr_grids_keys.proofs.ReadsBack.{keys_made-written}
use Rattle.zarr_grids_keys.proofs.metadata_laws.keys_read_back.Goals as goal

pub returns : goal.returns
returns c = keys_made-written
