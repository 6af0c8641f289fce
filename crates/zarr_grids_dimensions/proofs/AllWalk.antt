-- Walks that test a number of each dimension.
use Rattle.std.proofs.Common.{◌≡◌, ◌≢◌, ◌∙◌, ℕ, ◌+◌, ◌<◌, ◌≤◌, Bool, true, false, ◌&&◌, List, [], ◌∷◌, length, get_or, drop, refl, sym, ap, arith}
use Rattle.std.proofs.Math.ListN.{drop_of_length-le}
use Rattle.zarr_grids_chunks.specs.Grids.{Dimension}
use Rattle.zarr_grids_dimensions.specs.declared.dimension.Dimension.{Dimension as DeclaredDimension}
use Rattle.zarr_grids_dimensions.specs.Dimensions.{dimension_of, grid_of}
use Rattle.zarr_grids_dimensions.specs.Lookups.{in_all}
use Rattle.zarr_grids_dimensions.proofs.PlaceWalk.{grid-at, numbers-at}

-- what in_all answers at an index
here : (f : Dimension → ℕ → Bool) (ds : List DeclaredDimension) (ns : List ℕ) (i n : ℕ) (d : DeclaredDimension) → i < length ds → i < length ns → d ≡ get_or ds i d → n ≡ get_or ns i 0
    → in_all f (grid_of (drop i ds)) (drop i ns) ≡ f (dimension_of d) n && in_all f (grid_of (drop (i + 1) ds)) (drop (i + 1) ns)
here f ds ns i n d h l e g = ap (λ xs. in_all f xs (drop i ns)) (grid-at ds i d h e) ∙ ap (λ ms. in_all f (dimension_of d ∷ grid_of (drop (i + 1) ds)) ms) (numbers-at ns i n l g)

pub all-step : (f : Dimension → ℕ → Bool) (ds : List DeclaredDimension) (ns : List ℕ) (i n : ℕ) (d : DeclaredDimension) (whole : Bool) → i < length ds → i < length ns → d ≡ get_or ds i d → n ≡ get_or ns i 0
    → f (dimension_of d) n ≡ true → whole ≡ in_all f (grid_of (drop i ds)) (drop i ns) → whole ≡ in_all f (grid_of (drop (i + 1) ds)) (drop (i + 1) ns)
all-step f ds ns i n d whole h l e g t w = w ∙ here f ds ns i n d h l e g ∙ ap (λ b. b && in_all f (grid_of (drop (i + 1) ds)) (drop (i + 1) ns)) t

pub all-none : (f : Dimension → ℕ → Bool) (ds : List DeclaredDimension) (ns : List ℕ) (i n : ℕ) (d : DeclaredDimension) (whole : Bool) → i < length ds → i < length ns → d ≡ get_or ds i d → n ≡ get_or ns i 0
    → f (dimension_of d) n ≡ false → whole ≡ in_all f (grid_of (drop i ds)) (drop i ns) → false ≡ whole
all-none f ds ns i n d whole h l e g t w = sym (w ∙ here f ds ns i n d h l e g ∙ ap (λ b. b && in_all f (grid_of (drop (i + 1) ds)) (drop (i + 1) ns)) t)

pub all-end : (f : Dimension → ℕ → Bool) (ds : List DeclaredDimension) (ns : List ℕ) (i : ℕ) (whole : Bool) → length ds ≤ i → length ns ≤ i → whole ≡ in_all f (grid_of (drop i ds)) (drop i ns) → true ≡ whole
all-end f ds ns i whole h l w = sym (w ∙ ap (λ xs. in_all f (grid_of xs) (drop i ns)) (drop_of_length-le ds h) ∙ ap (λ ms. in_all f [] ms) (drop_of_length-le ns l))

-- lists of other lengths fail
pub all-length : (f : Dimension → ℕ → Bool) (ds : List DeclaredDimension) (ns : List ℕ) → length ns ≢ length ds → false ≡ in_all f (grid_of ds) ns
all-length f [] [] h = absurd (h refl)
all-length f [] (n ∷ ns) h = refl
all-length f (d ∷ ds) [] h = refl
all-length f (d ∷ ds) (n ∷ ns) h = go (f (dimension_of d) n) (all-length f ds ns (λ e. h (omega (arith, e)))) where
  go : (b : Bool) → false ≡ in_all f (grid_of ds) ns → false ≡ (b && in_all f (grid_of ds) ns)
  go true i = i
  go false i = refl
