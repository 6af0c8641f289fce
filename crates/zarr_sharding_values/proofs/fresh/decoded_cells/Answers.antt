use Rattle.zarr_sharding_values.proofs.StoredAfresh.{decoded_cells}
use Rattle.zarr_sharding_values.proofs.fresh.decoded_cells.Goals as goal

pub returns : goal.returns
returns c = decoded_cells
