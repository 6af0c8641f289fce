use Rattle.std.proofs.Common.{arith}
use Rattle.zarr_grids_overlay.proofs.Steps.{block_len-div}
use Rattle.zarr_grids_overlay.proofs.extents.Extent.inner_len.Goals as goal

pub returns-else-self-eq1 : goal.returns-else-self-eq1
returns-else-self-eq1 c = block_len-div c.args.len c.args.width c.args.self.shape.now (omega arith) c.requires.positive c.requires.len
