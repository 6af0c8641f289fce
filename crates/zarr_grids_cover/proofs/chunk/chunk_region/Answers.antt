use Rattle.std.proofs.Common.{rules}
use Rattle.zarr_grids_cover.proofs.ChunkBoxes.{rank-of}
use Rattle.zarr_grids_cover.proofs.chunk.chunk_region.Goals as goal

pub unreachable-requires-in-Err-Dimensionality : goal.unreachable-requires-in-Err-Dimensionality
unreachable-requires-in-Err-Dimensionality c = let r = rank-of c.args.grid.now c.args.chunk.now c.requires.below in search rules
