use Rattle.zarr_grids_dimensions.proofs.OneChunk.{intervals_apart}
use Rattle.zarr_grids_dimensions.proofs.laws.intervals_apart.Goals as goal

pub returns : goal.returns
returns c = intervals_apart
