use Rattle.std.proofs.Common.{◌<◌, arith}
use Rattle.zarr_grids_dimensions.proofs.FixedIntervals.{answers-clipped}
use Rattle.zarr_grids_dimensions.proofs.fixed.FixedEdge.clipped_chunk_of.Goals as goal

pub returns : goal.returns
returns c = let h : c.args.place < c.args.self.now.size = omega arith in λ chunk. answers-clipped c.args.self.now.size c.args.self.now.edge c.args.place chunk c.args.self.now.positive h
