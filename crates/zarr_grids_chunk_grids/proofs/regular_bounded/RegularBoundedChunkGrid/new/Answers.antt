use Rattle.zarr_grids_configurations.specs.declared.error.GridError.TheVariants.{ZeroEdge, Sum, TooManyChunks}
use Rattle.zarr_grids_chunk_grids.proofs.Causes.{no_other_bounded}
use Rattle.zarr_grids_chunk_grids.proofs.regular_bounded.RegularBoundedChunkGrid.new.Goals as goal

pub unreachable-requires : goal.unreachable-requires
unreachable-requires c = no_other_bounded _ _ _ _ ZeroEdge c.as_slice.ensures.edges c.as_slice.ensures.positive c.in-Err-ZeroEdge.ensures.refused c.in-Err-ZeroEdge.field-0-is

pub unreachable-requires-in-Err-Sum : goal.unreachable-requires-in-Err-Sum
unreachable-requires-in-Err-Sum c = no_other_bounded _ _ _ _ Sum c.as_slice.ensures.edges c.as_slice.ensures.positive c.in-Err-Sum.ensures.refused c.in-Err-Sum.field-0-is

pub unreachable-requires-in-Err-TooManyChunks : goal.unreachable-requires-in-Err-TooManyChunks
unreachable-requires-in-Err-TooManyChunks c = no_other_bounded _ _ _ _ TooManyChunks c.as_slice.ensures.edges c.as_slice.ensures.positive c.in-Err-TooManyChunks.ensures.refused c.in-Err-TooManyChunks.field-0-is
