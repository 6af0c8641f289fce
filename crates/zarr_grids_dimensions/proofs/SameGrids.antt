-- Lists of dimensions in code that are equal one by one.
use Rattle.std.proofs.Common.{◌≡◌, List, [], ◌∷◌, Bool, ◌&&◌, refl, ap}
use Rattle.std.specs.Cmp.Lexicographic.{pointwise}
use Rattle.zarr_grids_dimensions.specs.declared.dimension.Dimension.{Dimension as DeclaredDimension}
use Rattle.zarr_grids_dimensions.specs.Dimensions.{dimension_of, grid_of}
use Rattle.zarr_grids_dimensions.specs.Same.{same_dimension, same_grid}

pub pointwise_grid : (ds es : List DeclaredDimension) → pointwise (λ d e. same_dimension (dimension_of d) (dimension_of e)) ds es ≡ same_grid (grid_of ds) (grid_of es)
pointwise_grid [] [] = refl
pointwise_grid [] (e ∷ es) = refl
pointwise_grid (d ∷ ds) [] = refl
pointwise_grid (d ∷ ds) (e ∷ es) = ap (λ (b : Bool). same_dimension (dimension_of d) (dimension_of e) && b) (pointwise_grid ds es)
