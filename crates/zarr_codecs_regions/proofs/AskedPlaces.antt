-- The numbers of the places that are asked for.
use Rattle.std.proofs.Common.{◌≡◌, ℕ, ◌+◌, ◌-◌, ◌<◌, List, [], ◌∷◌, map, ap, ◌∙◌, refl, arith, true, ◌&&◌}
use Rattle.std.specs.Prelude.{nat_lt, nat_le}
use Rattle.std.specs.List.{list_all}
use Rattle.std.proofs.lemmas.Bool.{and_from, and_parts, lt-ltb}
use Rattle.zarr_grids_boxes.specs.Boxes.{is_in_box, places, product, ravel, each2}
use Rattle.zarr_grids_boxes.proofs.Dimensions.{ravel_below}
use Rattle.zarr_grids_boxes.proofs.Places.{in_box_below}
use Rattle.zarr_codecs_meaning.proofs.Covers.{zeros}
use Rattle.zarr_codecs_traits.specs.Indexers.{Asked, in_box, listed, are_inside, numbers_asked}
use Rattle.zarr_codecs_regions.proofs.InsideArray.{inside_places}

from_zero : (shape p : List ℕ) → is_in_box (zeros shape) shape p ≡ true → each2 (λ p s. p - s) p (zeros shape) ≡ p
from_zero [] [] h = refl
from_zero [] (n ∷ p) h = absurd (cc)
from_zero (e ∷ shape) [] h = refl
from_zero (e ∷ shape) (n ∷ p) h =
    let z : n - 0 ≡ n = omega arith in
    ap (λ k. k ∷ each2 (λ p s. p - s) p (zeros shape)) z ∙ ap (λ ks. n ∷ ks) (from_zero shape p (and_parts (nat_le 0 n && nat_lt n (0 + e)) (is_in_box (zeros shape) shape p) h).1)

number_below : (shape p : List ℕ) → is_in_box (zeros shape) shape p ≡ true → ravel p shape < product shape
number_below shape p h =
    let b = ravel_below (each2 (λ p s. p - s) p (zeros shape)) shape (in_box_below (zeros shape) shape p h) in
    omega (arith, b, ap (λ q. ravel q shape) (from_zero shape p h))

places_below : (shape : List ℕ) (ps : List (List ℕ)) → list_all (λ place. is_in_box (zeros shape) shape place) ps ≡ true → list_all (λ n. nat_lt n (product shape)) (map (λ place. ravel place shape) ps) ≡ true
places_below shape [] h = refl
places_below shape (p ∷ ps) h =
    let test = is_in_box (zeros shape) shape in
    let both = and_parts (test p) (list_all test ps) h in
    and_from (nat_lt (ravel p shape) (product shape)) (list_all (λ n. nat_lt n (product shape)) (map (λ place. ravel place shape) ps)) (lt-ltb (ravel p shape) (product shape) (number_below shape p both.0)) (places_below shape ps both.1)

-- the places that are asked for have numbers of the shape
pub asked_places : (shape : List ℕ) (asked : Asked) → are_inside shape asked ≡ true → list_all (λ n. nat_lt n (product shape)) (numbers_asked shape asked) ≡ true
asked_places shape (in_box region) h = places_below shape (places region.start region.shape) (inside_places shape region h)
asked_places shape (listed numbers) h = h
