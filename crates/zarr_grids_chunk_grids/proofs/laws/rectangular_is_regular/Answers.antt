use Rattle.zarr_grids_chunk_grids.proofs.Made.{same-grid}
use Rattle.zarr_grids_chunk_grids.proofs.laws.rectangular_is_regular.Goals as goal

pub returns : goal.returns
returns c = same-grid _ _ _ _ _ _ c.requires.shape c.requires.edges c.args.rectangular.now.made c.args.regular.now.made
