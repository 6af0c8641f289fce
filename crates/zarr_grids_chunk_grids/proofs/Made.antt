-- Grids that configurations make.
use Rattle.std.proofs.Common.{◌≡◌, ◌∙◌, ℕ, List, Some, sym, ap}
use Rattle.zarr_grids_chunks.specs.Grids.{Grid}
use Rattle.zarr_grids_configurations.specs.Grids.{Edges, grid_in}
use Rattle.zarr_grids_chunk_grids.specs.Laws.{GridOfConfiguration, EqualEdgesEqualGrids}
use Rattle.zarr_grids_chunk_grids.specs.declared.chunk_grid.ChunkGrid.TheVariants.{Regular, RegularBounded, Rectangular, Rectilinear}

pub grid-of_configuration : GridOfConfiguration
grid-of_configuration (Regular grid) = grid.made
grid-of_configuration (RegularBounded grid) = grid.made
grid-of_configuration (Rectangular grid) = grid.made
grid-of_configuration (Rectilinear grid) = grid.made

-- equal shapes and edges make equal grids
pub same-grid : (shape other : List ℕ) (given edges : List Edges) (g h : Grid) → shape ≡ other → given ≡ edges → grid_in shape given ≡ Some g → grid_in other edges ≡ Some h → g ≡ h
same-grid shape other given edges g h s e m n = let q : Some g ≡ Some h = sym m ∙ ap (λ xs. grid_in xs given) s ∙ ap (grid_in other) e ∙ n in cc

pub equal-edges : EqualEdgesEqualGrids
equal-edges g h s e = same-grid _ _ _ _ _ _ s e (grid-of_configuration g) (grid-of_configuration h)
