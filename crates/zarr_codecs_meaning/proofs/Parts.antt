-- The subchunks of a shape cover it.
use Rattle.std.proofs.Common.{◌≡◌, ℕ, zero, suc, ◌+◌, ◌-◌, ◌*◌, ◌/◌, ◌%◌, ◌<◌, min, List, [], ◌∷◌, ◌++◌, length, get_or, ap, ◌∙◌, sym, refl, arith, true, subst, inl, inr}
use Rattle.std.specs.Prelude.{nat_lt}
use Rattle.std.proofs.Math.Nat.{le-div_iff_mul-le}
use Rattle.std.proofs.lemmas.Bool.{ltb-true, and_parts}
use Rattle.std.proofs.lemmas.List.{length-map}
use Rattle.zarr_grids_boxes.specs.Boxes.{product, places, place_at, ravel, each2, IsIndex}
use Rattle.zarr_grids_boxes.proofs.Places.{IsIndex-cons, IsIndex-nil}
use Rattle.zarr_grids_boxes.proofs.Dimensions.{IsIndex-tail}
use Rattle.zarr_grids_boxes.proofs.InBox.{length-places}
use Rattle.zarr_codecs_meaning.specs.Places.{Part, grid_of, box_of, part_of, parts_of, places_of, index_shape}
use Rattle.zarr_codecs_meaning.specs.Fits.{can_cut}
use Rattle.zarr_codecs_meaning.proofs.Lists.{Each, each_map}
use Rattle.zarr_codecs_meaning.proofs.ArrayCodecs.{length-places_of}
use Rattle.zarr_codecs_meaning.proofs.Positions.{IsAmong, among_at}
use Rattle.zarr_codecs_meaning.proofs.Covers.{zeros, place_is_index, ravel_place, box_places_at, places_at}
use Rattle.zarr_codecs_meaning.proofs.Shards.{IsCovered}

pub same_length : (shape subchunk : List ℕ) → can_cut shape subchunk ≡ true → length shape ≡ length subchunk
same_length [] [] h = refl
same_length [] (p ∷ ps) h = cc
same_length (n ∷ ns) [] h = cc
same_length (n ∷ ns) (p ∷ ps) h = ap suc (same_length ns ps (and_parts (nat_lt 0 p) (can_cut ns ps) h).1)

pub box_lengths : (shape subchunk index : List ℕ) → length shape ≡ length subchunk → length (box_of shape subchunk index).start ≡ length (box_of shape subchunk index).shape
box_lengths [] [] [] l = refl
box_lengths [] [] (i ∷ is) l = refl
box_lengths [] (p ∷ ps) index l = absurd (omega arith)
box_lengths (n ∷ ns) [] index l = absurd (omega arith)
box_lengths (n ∷ ns) (p ∷ ps) [] l = refl
box_lengths (n ∷ ns) (p ∷ ps) (i ∷ is) l = ap suc (box_lengths ns ps is (omega arith))

-- each subchunk has as many places as its shape says
pub part_counts : (shape subchunk : List ℕ) → can_cut shape subchunk ≡ true → Each (λ (part : Part). length part.places ≡ product part.shape) (parts_of shape subchunk)
part_counts shape subchunk cuts = each_map (λ (part : Part). length part.places ≡ product part.shape) (λ index. part_of shape (box_of shape subchunk index)) (places_of (grid_of shape subchunk)) (λ index.
    let box = box_of shape subchunk index in
    length-map (places box.start box.shape) (λ place. ravel place shape) ∙ length-places box.start box.shape (box_lengths shape subchunk index (same_length shape subchunk cuts)))

pub length-parts : (shape subchunk : List ℕ) → length (parts_of shape subchunk) ≡ product (grid_of shape subchunk)
length-parts shape subchunk = length-map (places_of (grid_of shape subchunk)) (λ index. part_of shape (box_of shape subchunk index)) ∙ length-places_of (grid_of shape subchunk)

product-last : (ns : List ℕ) (n : ℕ) → product (ns ++ n ∷ []) ≡ n * product ns
product-last [] n = refl
product-last (m ∷ ms) n = let h = product-last ms n in ap (λ k. m * k) h ∙ grind arith

pub index_product : (shape subchunk : List ℕ) → product (index_shape shape subchunk) ≡ 2 * length (parts_of shape subchunk)
index_product shape subchunk = product-last (grid_of shape subchunk) 2 ∙ ap (λ n. 2 * n) (sym (length-parts shape subchunk))

block_is : (x n p : ℕ) → 0 < p → x < n → x / p < (n + (p - 1)) / p
block_is x n p some h =
    let split : p * (x / p) + x % p ≡ x = omega (arith, some) in
    let e : suc (x / p) * p ≡ p * (x / p) + p = grind arith in
    (le-div_iff_mul-le {k = p} {x = suc (x / p)} {y = n + (p - 1)} some).1 (omega (arith, split, e))

within_block : (x n p : ℕ) → 0 < p → x < n → (x % p < min p (n - x / p * p)) × (x / p * p + x % p ≡ x)
within_block x n p some h =
    let split : p * (x / p) + x % p ≡ x = omega (arith, some) in
    let e : x / p * p ≡ p * (x / p) = grind arith in
    let low : x % p < p = omega (arith, some) in
    (omega (arith, split, e, low), omega (arith, split, e))

abbrev pub block : List ℕ → List ℕ → List ℕ
block place subchunk = each2 (λ x p. x / p) place subchunk

abbrev pub inside : List ℕ → List ℕ → List ℕ
inside place subchunk = each2 (λ x p. x % p) place subchunk

-- the subchunk that a place lies in, and its place there
pub record LiesIn (shape subchunk place : List ℕ) : Type 0 where
  pub grid : IsIndex (block place subchunk) (grid_of shape subchunk)
  pub within : IsIndex (inside place subchunk) (box_of shape subchunk (block place subchunk)).shape
  pub is : each2 (λ s i. s + i) (box_of shape subchunk (block place subchunk)).start (inside place subchunk) ≡ place

lies_in : (shape subchunk place : List ℕ) → can_cut shape subchunk ≡ true → IsIndex place shape → LiesIn shape subchunk place
lies_in [] [] [] cuts h = record { grid = IsIndex-nil; within = IsIndex-nil; is = refl }
lies_in [] [] (x ∷ xs) cuts h = let l = h.same in absurd (omega arith)
lies_in [] (p ∷ ps) place cuts h = cc
lies_in (n ∷ ns) [] place cuts h = cc
lies_in (n ∷ ns) (p ∷ ps) [] cuts h = let l = h.same in absurd (omega arith)
lies_in (n ∷ ns) (p ∷ ps) (x ∷ xs) cuts h =
    let both = and_parts (nat_lt 0 p) (can_cut ns ps) cuts in
    let some = ltb-true 0 p both.0 in
    let low : x < n = h.below 0 (omega arith) in
    let rest = lies_in ns ps xs both.1 (IsIndex-tail x n xs ns h) in
    let here = within_block x n p some low in
    record {
      grid = IsIndex-cons (x / p) ((n + (p - 1)) / p) (block xs ps) (grid_of ns ps) (block_is x n p some low) rest.grid;
      within = IsIndex-cons (x % p) (min p (n - x / p * p)) (inside xs ps) (box_of ns ps (block xs ps)).shape here.0 rest.within;
      is = ap (λ k. k ∷ each2 (λ s i. s + i) (box_of ns ps (block xs ps)).start (inside xs ps)) here.1 ∙ ap (λ ks. x ∷ ks) rest.is;
    }

-- no subchunk
abbrev pub no_part : Part
no_part = record { shape = []; places = [] }

covered_at : (n : ℕ) (parts : List Part) (k : ℕ) → k < length parts → IsAmong n (get_or parts k no_part).places → IsCovered n parts
covered_at n [] k h is = absurd (omega arith)
covered_at n (part ∷ parts) zero h is = inl is
covered_at n (part ∷ parts) (suc k) h is = inr (covered_at n parts k (omega arith) is)

pub parts_cover : (shape subchunk : List ℕ) (n : ℕ) → can_cut shape subchunk ≡ true → n < product shape → IsCovered n (parts_of shape subchunk)
parts_cover shape subchunk n cuts h =
    let p = place_at (zeros shape) shape n in
    let lies = lies_in shape subchunk p cuts (place_is_index shape n h) in
    let g = block p subchunk in
    let box = box_of shape subchunk g in
    let found = places_at (λ index. part_of shape (box_of shape subchunk index)) (grid_of shape subchunk) g no_part lies.grid in
    let inner = box_places_at (λ place. ravel place shape) box.start box.shape (inside p subchunk) 0 (box_lengths shape subchunk g (same_length shape subchunk cuts)) lies.within in
    let is : get_or (part_of shape box).places (ravel (inside p subchunk) box.shape) 0 ≡ n = inner.1 ∙ (ap (λ place. ravel place shape) lies.is ∙ ravel_place shape n h) in
    covered_at n (parts_of shape subchunk) (ravel g (grid_of shape subchunk)) found.0 (subst (λ (part : Part). IsAmong n part.places) (sym found.1) (among_at (part_of shape box).places (ravel (inside p subchunk) box.shape) n inner.0 is))
