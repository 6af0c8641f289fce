-- Edges that make a grid are positive.
use Rattle.std.proofs.Common.{◌≡◌, ◌∙◌, ℕ, List, [], ◌∷◌, map, true, ◌&&◌, nat_lt, Option, Some, None, option_map, option_and_then, refl, sym, ap}
use Rattle.std.proofs.lemmas.Bool.{and_from}
use Rattle.zarr_grids_chunks.specs.Grids.{Dimension, Grid}
use Rattle.zarr_grids_dimensions.specs.Lookups.{all_positive}
use Rattle.zarr_grids_configurations.specs.Grids.{Edges, fixed, bounded, is_positive, are_positive, suits, is_countable, dimension_with, dimension_in, grid_in}
use Rattle.zarr_grids_configurations.proofs.MakingWalk.{all-true}

parts : (o : Option Dimension) (p : Option Grid) (g : Grid) → option_and_then (λ d. option_map (λ ds. d ∷ ds) p) o ≡ Some g → (d : Dimension) × (ds : Grid) × (o ≡ Some d) × (p ≡ Some ds)
parts None p g h = absurd (cc)
parts (Some d) None g h = absurd (cc)
parts (Some d) (Some ds) g h = (d, ds, refl, refl)

pub grid-positive : (shape : List ℕ) (given : List Edges) (g : Grid) → grid_in shape given ≡ Some g → are_positive given ≡ true
grid-positive [] [] g h = refl
grid-positive [] (x ∷ given) g h = absurd (cc)
grid-positive (s ∷ shape) [] g h = absurd (cc)
grid-positive (s ∷ shape) (x ∷ given) g h =
    let p = parts (dimension_in s x) (grid_in shape given) g h in
    and_from (is_positive x) (are_positive given) (all-true (is_positive x) (suits s x) (is_countable x) (dimension_with s x) p.0 p.2).0 (grid-positive shape given p.1 p.3)

fixed-positive : (es : List ℕ) → are_positive (map fixed es) ≡ all_positive es
fixed-positive [] = refl
fixed-positive (e ∷ es) = ap (λ b. nat_lt 0 e && b) (fixed-positive es)

bounded-positive : (es : List ℕ) → are_positive (map bounded es) ≡ all_positive es
bounded-positive [] = refl
bounded-positive (e ∷ es) = ap (λ b. nat_lt 0 e && b) (bounded-positive es)

pub grid-fixed_positive : (shape es : List ℕ) (g : Grid) → grid_in shape (map fixed es) ≡ Some g → all_positive es ≡ true
grid-fixed_positive shape es g h = sym (fixed-positive es) ∙ grid-positive shape (map fixed es) g h

pub grid-bounded_positive : (shape es : List ℕ) (g : Grid) → grid_in shape (map bounded es) ≡ Some g → all_positive es ≡ true
grid-bounded_positive shape es g h = sym (bounded-positive es) ∙ grid-positive shape (map bounded es) g h
