-- What each dimension adds to numbers, listed from the last one to the first.
use Rattle.std.proofs.Common.{◌≡◌, ◌∙◌, ℕ, ◌<◌, ◌≤◌, List, [], ◌∷◌, ◌++◌, length, drop, get_or, reverse, refl, ap, arith}
use Rattle.std.proofs.lemmas.List.{reverse-append, reverse-reverse}
use Rattle.zarr_grids_boxes.specs.Boxes.{product}
use Rattle.zarr_codecs_meaning.specs.Places.{grid_of}
use Rattle.zarr_sharding_places.specs.Locating.{axes_of}
use Rattle.zarr_sharding_places.specs.declared.locating.Axis.{Axis}

-- without dimensions there is none
pub axes_none : (shape edges grid : List ℕ) → length grid ≡ 0 → axes_of shape edges grid ≡ []
axes_none [] edges grid none = refl
axes_none (size ∷ sizes) [] grid none = refl
axes_none (size ∷ sizes) (edge ∷ edges) [] none = refl
axes_none (size ∷ sizes) (edge ∷ edges) (count ∷ counts) none = absurd (omega (arith, none))

-- the first dimension, put after all later ones, is the first one once they are turned round
pub axes_whole : (shape edges grid : List ℕ) (listed made whole : List Axis) (first : Axis) → 0 < length grid → length grid ≤ length shape → length grid ≤ length edges
    → listed ≡ reverse (axes_of (drop 1 shape) (drop 1 edges) (drop 1 grid))
    → first ≡ record { size = get_or shape 0 0; edge = get_or edges 0 0; places = product (drop 1 shape); subchunks = product (drop 1 grid) }
    → made ≡ listed ++ first ∷ [] → whole ≡ reverse made → whole ≡ axes_of shape edges grid
axes_whole shape edges [] listed made whole first some sizes ends are is pushed turned = absurd (omega (arith, some))
axes_whole [] edges (count ∷ counts) listed made whole first some sizes ends are is pushed turned = absurd (omega (arith, sizes))
axes_whole (size ∷ sizes) [] (count ∷ counts) listed made whole first some low ends are is pushed turned = absurd (omega (arith, ends))
axes_whole (size ∷ sizes) (edge ∷ edges) (count ∷ counts) listed made whole first some low ends are is pushed turned =
    let others = axes_of sizes edges counts in
    let back : reverse listed ≡ others = ap reverse are ∙ reverse-reverse others in
    turned ∙ (ap reverse pushed ∙ (reverse-append listed (first ∷ []) ∙ (ap (λ xs. first ∷ xs) back ∙ ap (λ (a : Axis). a ∷ others) is)))

-- a grid has no more dimensions than the array and than the subchunk
pub record IsShort (shape edges grid : List ℕ) : Type 0 where
  pub in_shape : length grid ≤ length shape
  pub in_edges : length grid ≤ length edges

pub grid_short : (shape edges : List ℕ) → IsShort shape edges (grid_of shape edges)
grid_short [] edges = record { in_shape = omega arith; in_edges = omega arith }
grid_short (size ∷ sizes) [] = record { in_shape = omega arith; in_edges = omega arith }
grid_short (size ∷ sizes) (edge ∷ edges) = let rest = grid_short sizes edges in record { in_shape = omega (arith, rest.in_shape); in_edges = omega (arith, rest.in_edges) }
