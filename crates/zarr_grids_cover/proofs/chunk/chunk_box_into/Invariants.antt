use Rattle.std.proofs.Common.{◌≡◌, take, drop, option_map}
use Rattle.zarr_grids_chunks.specs.Grids.{chunk_box}
use Rattle.zarr_grids_dimensions.specs.Dimensions.{grid_of}
use Rattle.zarr_grids_dimensions.proofs.BoxWalk.{after}
use Rattle.zarr_grids_cover.proofs.chunk.chunk_box_into.Given as goal

-- what is left goes on from what was written
abbrev pub invariant-loop-k : goal.invariant-loop-k
invariant-loop-k l = chunk_box (grid_of l.grid) l.chunk ≡ option_map (after (take l.k l.origin) (take l.k l.shape)) (chunk_box (grid_of (drop l.k l.grid)) (drop l.k l.chunk))
