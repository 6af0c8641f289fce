-- Equality of dimensions and of grids, as a test.
use Rattle.std.specs.Prelude.{◌==◌, ◌&&◌, [], ◌∷◌, bytes_eq, Bool, true, false}
use Rattle.zarr_grids_chunks.specs.Grids.{Dimension, regular, clipped, varying, Grid}

-- whether two dimensions are equal: of one kind and of equal sizes, with one edge of all chunks or with the same edges one after another
abbrev pub same_dimension : Dimension → Dimension → Bool
same_dimension (regular size edge) (regular other other_edge) = size == other && edge == other_edge
same_dimension (clipped size edge) (clipped other other_edge) = size == other && edge == other_edge
same_dimension (varying size edges) (varying other other_edges) = size == other && bytes_eq edges other_edges
same_dimension _ _ = false

-- whether two grids are equal
abbrev pub same_grid : Grid → Grid → Bool
same_grid [] [] = true
same_grid (d ∷ ds) (e ∷ es) = same_dimension d e && same_grid ds es
same_grid _ _ = false
