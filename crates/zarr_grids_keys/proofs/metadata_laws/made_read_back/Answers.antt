use Rattle.zarr_grids_keys.proofs.ReadsBack.{keys_made-twice}
use Rattle.zarr_grids_keys.proofs.metadata_laws.made_read_back.Goals as goal

pub returns : goal.returns
returns c = keys_made-twice
