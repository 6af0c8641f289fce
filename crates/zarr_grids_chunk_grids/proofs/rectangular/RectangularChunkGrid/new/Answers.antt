use Rattle.zarr_grids_chunk_grids.proofs.Causes.{never_many}
use Rattle.zarr_grids_chunk_grids.proofs.rectangular.RectangularChunkGrid.new.Goals as goal

pub unreachable-requires : goal.unreachable-requires
unreachable-requires c = never_many _ _ _ c.in-Err-TooManyChunks.field-0-is c.in-Err-TooManyChunks.ensures.refused
