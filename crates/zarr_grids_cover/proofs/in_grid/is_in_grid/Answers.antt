use Rattle.std.proofs.Common.{◌∙◌, sym}
use Rattle.zarr_grids_cover.proofs.ChunkBoxes.{rank-of}
use Rattle.zarr_grids_cover.proofs.NumbersInGrid.{each-IsInGrid, IsInGrid-each}
use Rattle.zarr_grids_cover.proofs.in_grid.is_in_grid.Goals as goal

pub returns-then-chunk-grid : goal.returns-then-chunk-grid
returns-then-chunk-grid c = (λ h. absurd (cc), λ i. absurd (c.if-chunk-grid.true (rank-of _ _ i)))

pub returns : goal.returns
returns c = (λ h. each-IsInGrid _ _ (sym c.is_index_in_grid.ensures ∙ h), λ i. c.is_index_in_grid.ensures ∙ IsInGrid-each _ _ i.0 i.1)
