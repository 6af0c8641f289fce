use Rattle.std.proofs.Common.{◌<◌, sym, arith}
use Rattle.zarr_grids_dimensions.proofs.FixedIntervals.{count-some}
use Rattle.zarr_grids_dimensions.proofs.fixed.FixedEdge.chunk_count.Goals as goal

pub returns : goal.returns
returns c = let h : 0 < c.args.self.now.size = omega arith in sym (count-some _ _ c.args.self.now.positive h)
