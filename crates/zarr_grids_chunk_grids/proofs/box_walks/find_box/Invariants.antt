use Rattle.std.proofs.Common.{length}
use Rattle.zarr_grids_dimensions.specs.Dimensions.{grid_of}
use Rattle.zarr_grids_chunk_grids.specs.Walks.{chunks_left, PassesOver}
use Rattle.zarr_grids_chunk_grids.proofs.box_walks.find_box.Given as goal

-- what was passed over has no box
abbrev pub invariant-loop-chunks : goal.invariant-loop-chunks
invariant-loop-chunks l = PassesOver (grid_of l.grid) (chunks_left l.fn.chunks) (chunks_left l.chunks)

-- the chunks that are left
abbrev pub decreases-loop-chunks : goal.decreases-loop-chunks
decreases-loop-chunks l = length (chunks_left l.chunks)
