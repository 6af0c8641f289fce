-- The dimensions of a grid have the sizes of the array's shape.
use Rattle.std.proofs.Common.{◌≡◌, ℕ, List, [], ◌∷◌, map, Bool, true, false, ◌&&◌, Option, Some, None, option_map, option_and_then, if◌then◌else◌, refl, sym, ap, ◌∙◌}
use Rattle.zarr_grids_chunks.specs.Grids.{Dimension, Grid}
use Rattle.zarr_grids_dimensions.specs.Lookups.{size_of}
use Rattle.zarr_grids_configurations.specs.Grids.{Edges, fixed, bounded, exact, covering, is_positive, suits, is_countable, dimension_with, dimension_in, grid_in}

size_with : (size : ℕ) (given : Edges) → size_of (dimension_with size given) ≡ size
size_with size (fixed e) = refl
size_with size (bounded e) = refl
size_with size (exact es) = refl
size_with size (covering runs) = refl

size_if : (size : ℕ) (given : Edges) (passed : Bool) (d : Dimension) → (if passed then Some (dimension_with size given) else None) ≡ Some d → size_of d ≡ size
size_if size given true d is = let e : dimension_with size given ≡ d = cc in ap size_of (sym e) ∙ size_with size given
size_if size given false d is = absurd (cc)

sizes_at : (size : ℕ) (shape : List ℕ) (first : Option Dimension) (rest : Option Grid) (grid : Grid)
    → ((d : Dimension) → first ≡ Some d → size_of d ≡ size) → ((ds : Grid) → rest ≡ Some ds → map size_of ds ≡ shape)
    → option_and_then (λ d. option_map (λ ds. d ∷ ds) rest) first ≡ Some grid → map size_of grid ≡ size ∷ shape
sizes_at size shape None rest grid h g is = absurd (cc)
sizes_at size shape (Some d) None grid h g is = absurd (cc)
sizes_at size shape (Some d) (Some ds) grid h g is =
    let e : d ∷ ds ≡ grid = cc in
    ap (map size_of) (sym e) ∙ ap (λ n. n ∷ map size_of ds) (h d refl) ∙ ap (λ ns. size ∷ ns) (g ds refl)

-- each dimension has the size of the shape
pub grid_sizes : (shape : List ℕ) (configuration : List Edges) (grid : Grid) → grid_in shape configuration ≡ Some grid → map size_of grid ≡ shape
grid_sizes [] [] grid is = let e : [] ≡ grid = cc in ap (map size_of) (sym e)
grid_sizes [] (given ∷ configuration) grid is = absurd (cc)
grid_sizes (size ∷ shape) [] grid is = absurd (cc)
grid_sizes (size ∷ shape) (given ∷ configuration) grid is =
    sizes_at size shape (dimension_in size given) (grid_in shape configuration) grid
    (λ d h. size_if size given (is_positive given && suits size given && is_countable given) d h) (λ ds h. grid_sizes shape configuration ds h) is
