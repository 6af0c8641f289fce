use Rattle.zarr_grids_dimensions.proofs.FixedIntervals.{answers-regular}
use Rattle.zarr_grids_dimensions.proofs.fixed.FixedEdge.chunk_of.Goals as goal

pub returns : goal.returns
returns c = λ chunk. answers-regular c.args.self.now.size c.args.self.now.edge c.args.place chunk c.args.self.now.positive
