-- What each dimension in code keeps.
use Rattle.std.proofs.Common.{◌≡◌, true, List, [], ◌∷◌, refl}
use Rattle.std.proofs.lemmas.Bool.{lt-ltb}
use Rattle.zarr_grids_dimensions.specs.declared.dimension.Dimension.{Dimension as DeclaredDimension}
use Rattle.zarr_grids_dimensions.specs.declared.dimension.Dimension.TheVariants.{Regular, Clipped, Varying}
use Rattle.zarr_grids_dimensions.specs.Dimensions.{dimension_of, grid_of}
use Rattle.zarr_grids_dimensions.specs.Lookups.{is_dimension, are_dimensions}

pub always_dimension : (d : DeclaredDimension) → is_dimension (dimension_of d) ≡ true
always_dimension (Regular fixed) = lt-ltb 0 fixed.edge fixed.positive
always_dimension (Clipped fixed) = lt-ltb 0 fixed.edge fixed.positive
always_dimension (Varying edges) = edges.dimension

pub always_dimensions : (ds : List DeclaredDimension) → are_dimensions (grid_of ds) ≡ true
always_dimensions [] = refl
always_dimensions (d ∷ ds) = rw (always_dimension d, always_dimensions ds) refl
