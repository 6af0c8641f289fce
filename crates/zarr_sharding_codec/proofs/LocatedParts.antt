-- The subchunk that a place lies in, and where it stands in it.
use Rattle.std.proofs.Common.{◌≡◌, ◌∙◌, ℕ, suc, ◌+◌, ◌-◌, ◌*◌, ◌/◌, ◌%◌, ◌<◌, min, List, [], ◌∷◌, length, get_or, ap, sym, refl, arith, subst, true}
use Rattle.std.specs.Prelude.{nat_lt}
use Rattle.std.proofs.Math.Nat.{le-div_iff_mul-le}
use Rattle.std.proofs.lemmas.Bool.{and_parts, le-leb, lt-ltb, ltb-true}
use Rattle.zarr_grids_boxes.specs.Boxes.{product, place_at, ravel, each2, is_in_box, IsIndex}
use Rattle.zarr_grids_boxes.proofs.Places.{IsIndex-cons, IsIndex-nil}
use Rattle.zarr_grids_boxes.proofs.Dimensions.{IsIndex-tail}
use Rattle.zarr_codecs_meaning.specs.Fits.{can_cut}
use Rattle.zarr_codecs_meaning.specs.Places.{Part, grid_of, box_of, part_of, parts_of}
use Rattle.zarr_codecs_meaning.proofs.Covers.{zeros, place_is_index, place_ravel, places_at, box_places_at, ravel_place}
use Rattle.zarr_codecs_meaning.proofs.Parts.{LiesIn, block, inside, box_lengths, no_part, same_length}
use Rattle.zarr_codecs_meaning.proofs.PartsOnce.{number_in}
use Rattle.zarr_sharding_places.specs.Locating.{inside_of, part_shape, subchunk_of}

-- in one dimension: the subchunk that a place lies in is one of the grid, the place is one of it, and stands there
lies_along : (x n p : ℕ) → 0 < p → x < n → (x / p < (n + (p - 1)) / p) × (x % p < min p (n - x / p * p)) × (x / p * p + x % p ≡ x)
lies_along x n p some h =
    let split : p * (x / p) + x % p ≡ x = omega (arith, some) in
    let turn : x / p * p ≡ p * (x / p) = grind arith in
    let e : suc (x / p) * p ≡ p * (x / p) + p = grind arith in
    let low : x % p < p = omega (arith, some) in
    ((le-div_iff_mul-le {k = p} {x = suc (x / p)} {y = n + (p - 1)} some).1 (omega (arith, split, e, h, some)), omega (arith, split, turn, low, h), omega (arith, split, turn))

-- a place by the index of its subchunk and of itself in it
pub lies_in : (shape subchunk place : List ℕ) → can_cut shape subchunk ≡ true → IsIndex place shape → LiesIn shape subchunk place
lies_in [] [] [] cuts h = record { grid = IsIndex-nil; within = IsIndex-nil; is = refl }
lies_in [] [] (x ∷ xs) cuts h = let l = h.same in absurd (omega arith)
lies_in [] (p ∷ ps) place cuts h = cc
lies_in (n ∷ ns) [] place cuts h = cc
lies_in (n ∷ ns) (p ∷ ps) [] cuts h = let l = h.same in absurd (omega arith)
lies_in (n ∷ ns) (p ∷ ps) (x ∷ xs) cuts h =
    let both = and_parts (nat_lt 0 p) (can_cut ns ps) cuts in
    let low : x < n = h.below 0 (omega arith) in
    let rest = lies_in ns ps xs both.1 (IsIndex-tail x n xs ns h) in
    let here = lies_along x n p (ltb-true 0 p both.0) low in
    record {
      grid = IsIndex-cons (x / p) ((n + (p - 1)) / p) (block xs ps) (grid_of ns ps) here.0 rest.grid;
      within = IsIndex-cons (x % p) (min p (n - x / p * p)) (inside xs ps) (box_of ns ps (block xs ps)).shape here.1 rest.within;
      is = ap (λ k. k ∷ each2 (λ s i. s + i) (box_of ns ps (block xs ps)).start (inside xs ps)) here.2 ∙ ap (λ ks. x ∷ ks) rest.is;
    }

-- a place is one of the box of its subchunk
pub box_has : (shape subchunk place : List ℕ) → can_cut shape subchunk ≡ true → IsIndex place shape → is_in_box (box_of shape subchunk (block place subchunk)).start (box_of shape subchunk (block place subchunk)).shape place ≡ true
box_has [] [] [] cuts h = refl
box_has [] [] (x ∷ xs) cuts h = let l = h.same in absurd (omega arith)
box_has [] (p ∷ ps) place cuts h = cc
box_has (n ∷ ns) [] place cuts h = cc
box_has (n ∷ ns) (p ∷ ps) [] cuts h = let l = h.same in absurd (omega arith)
box_has (n ∷ ns) (p ∷ ps) (x ∷ xs) cuts h =
    let both = and_parts (nat_lt 0 p) (can_cut ns ps) cuts in
    let low : x < n = h.below 0 (omega arith) in
    let here = lies_along x n p (ltb-true 0 p both.0) low in
    let within = here.1 in
    let is = here.2 in
    let a = le-leb (x / p * p) x (omega (arith, is)) in
    let b = lt-ltb x (x / p * p + min p (n - x / p * p)) (omega (arith, within, is)) in
    rw (a, b, box_has ns ps xs both.1 (IsIndex-tail x n xs ns h)) refl

-- where a place stands among the subchunks
pub record IsLocated (shape subchunk : List ℕ) (n : ℕ) : Type 0 where
  pub part : subchunk_of shape subchunk n < length (parts_of shape subchunk)
  pub place : inside_of shape subchunk n < length (get_or (parts_of shape subchunk) (subchunk_of shape subchunk n) no_part).places
  pub here : number_in (parts_of shape subchunk) (subchunk_of shape subchunk n) (inside_of shape subchunk n) ≡ n

pub located_place : (shape subchunk : List ℕ) (n : ℕ) → can_cut shape subchunk ≡ true → n < product shape → IsLocated shape subchunk n
located_place shape subchunk n cuts h =
    let p = place_at (zeros shape) shape n in
    let lies = lies_in shape subchunk p cuts (place_is_index shape n h) in
    let g = block p subchunk in
    let box = box_of shape subchunk g in
    let found = places_at (λ index. part_of shape (box_of shape subchunk index)) (grid_of shape subchunk) g no_part lies.grid in
    let inner = box_places_at (λ place. ravel place shape) box.start box.shape (inside p subchunk) 0 (box_lengths shape subchunk g (same_length shape subchunk cuts)) lies.within in
    record {
      part = found.0;
      place = subst (λ (part : Part). inside_of shape subchunk n < length part.places) (sym found.1) inner.0;
      here = ap (λ (part : Part). get_or part.places (inside_of shape subchunk n) 0) found.1 ∙ (inner.1 ∙ (ap (λ place. ravel place shape) lies.is ∙ ravel_place shape n h));
    }

-- the shape of the subchunk that an index of the grid names
pub shape_there : (shape subchunk g : List ℕ) → IsIndex g (grid_of shape subchunk) → part_shape shape subchunk (ravel g (grid_of shape subchunk)) ≡ (box_of shape subchunk g).shape
shape_there shape subchunk g is = ap (λ (index : List ℕ). (box_of shape subchunk index).shape) (place_ravel (grid_of shape subchunk) g is)
