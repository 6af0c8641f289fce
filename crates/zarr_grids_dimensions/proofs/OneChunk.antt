-- Chunks of a dimension share no place and cover its size.
use Rattle.std.proofs.Common.{◌≡◌, ℕ, suc, ◌+◌, ◌-◌, ◌/◌, ◌<◌, ◌≤◌, Bool, true, false, ◌&&◌, List, [], ◌∷◌, length, map, replicate, get_or, take, refl, ap, ◌∙◌, arith}
use Rattle.std.specs.Prelude.{sum, nat_le, nat_lt}
use Rattle.std.proofs.Math.Dec.{ltb}
use Rattle.std.proofs.lemmas.Bool.{le-leb, lt-ltb, leb-true, ltb-true, ltb-false}
use Rattle.zarr_grids_boxes.specs.Boxes.{is_in_box}
use Rattle.zarr_grids_boxes.proofs.Places.{both}
use Rattle.zarr_grids_chunks.specs.Grids.{Dimension, regular, clipped, varying, chunk_count, Grid, grid_shape}
use Rattle.zarr_grids_dimensions.specs.Lookups.{is_dimension, size_of, interval_has, chunk_has, are_dimensions}
use Rattle.zarr_grids_dimensions.proofs.Running.{sum-cons}
use Rattle.zarr_grids_dimensions.proofs.VaryingIntervals.{InVarying, in_varying, varying_in, varying_apart}
use Rattle.zarr_grids_dimensions.proofs.FixedIntervals.{regular_in, in_regular, clipped_in, in_clipped, in_fixed, fixed_apart, below-count}

pub intervals_apart : (d : Dimension) (k m p : ℕ) → interval_has d k p ≡ true → interval_has d m p ≡ true → k ≡ m
intervals_apart (regular s e) k m p a b = fixed_apart e k m p (regular_in s e k p a) (regular_in s e m p b)
intervals_apart (clipped s e) k m p a b = fixed_apart e k m p (clipped_in s e k p a).fixed (clipped_in s e m p b).fixed
intervals_apart (varying s es) k m p a b = varying_apart es k m p (varying_in s es k p a) (varying_in s es m p b)

-- the chunk of a place below the sum
pub in_some : (es : List ℕ) (p : ℕ) → p < sum es → (k : ℕ) × InVarying es k p
in_some [] p h = absurd (omega arith)
in_some (x ∷ xs) p h = go (ltb p x) refl (in_some xs (p - x)) where
  go : (b : Bool) → ltb p x ≡ b → (p - x < sum xs → (k : ℕ) × InVarying xs k (p - x)) → (k : ℕ) × InVarying (x ∷ xs) k p
  go true q i = let l = ltb-true p x q in (0, record { below = omega arith; from = let g : 0 ≤ p = omega arith in g; to = let g : p < 0 + x = omega arith in g })
  go false q i =
      let l = ltb-false p x q in
      let s = sum-cons x xs in
      let r = i (omega arith) in
      let b = r.1.below in let f = r.1.from in let t = r.1.to in
      let s' = sum-cons x (take r.0 xs) in (
        suc r.0,
        record {
          below = omega arith;
          from = let g : sum (x ∷ take r.0 xs) ≤ p = omega arith in g;
          to = let g : p < sum (x ∷ take r.0 xs) + get_or xs r.0 0 = omega arith in g;
        },
      )

-- a chunk below the count
pub has_chunk : (d : Dimension) (p : ℕ) → is_dimension d ≡ true → p < size_of d → (k : ℕ) × (k < chunk_count d) × (interval_has d k p ≡ true)
has_chunk (regular s e) p t h = let pos = ltb-true 0 e t in (p / e, below-count s e p pos h, in_regular s e (p / e) p (in_fixed e p pos))
has_chunk (clipped s e) p t h = let pos = ltb-true 0 e t in (p / e, below-count s e p pos h, in_clipped s e (p / e) p (record { fixed = in_fixed e p pos; within = h }))
has_chunk (varying s es) p t h =
    let x = both _ _ t in
    let l = leb-true s (sum es) x.1 in
    let i = in_some es p (omega arith) in
    (i.0, i.1.below, in_varying s es i.0 p _ _ (record { below = i.1.below; first_is = refl; edge_is = refl }) i.1.from i.1.to)

pub place_in_one : (d : Dimension) (p : ℕ) → is_dimension d ≡ true → p < size_of d
    → (k : ℕ) × (k < chunk_count d) × (interval_has d k p ≡ true) × ((m : ℕ) → interval_has d m p ≡ true → m ≡ k)
place_in_one d p t h = let i = has_chunk d p t h in (i.0, i.1, i.2, λ m u. intervals_apart d m i.0 p u i.2)

-- ---- in all dimensions
pub chunks_apart : (grid : Grid) (c o p : List ℕ) → chunk_has grid c p ≡ true → chunk_has grid o p ≡ true → c ≡ o
chunks_apart [] [] [] p a b = refl
chunks_apart [] [] (y ∷ o) p a b = absurd (cc)
chunks_apart [] (x ∷ c) o p a b = absurd (cc)
chunks_apart (d ∷ ds) [] o p a b = absurd (cc)
chunks_apart (d ∷ ds) (x ∷ c) [] p a b = absurd (cc)
chunks_apart (d ∷ ds) (x ∷ c) (y ∷ o) [] a b = absurd (cc)
chunks_apart (d ∷ ds) (x ∷ c) (y ∷ o) (q ∷ p) a b =
    let r = both _ _ a in
    let s = both _ _ b in
    ap (λ z. z ∷ c) (intervals_apart d x y q r.0 s.0) ∙ ap (λ zs. y ∷ zs) (chunks_apart ds c o p r.1 s.1)

below-both : (n p : ℕ) (b : Bool) → (nat_le 0 p && nat_lt p (0 + n) && b) ≡ true → (p < n) × (b ≡ true)
below-both n p b h =
    let r = both _ _ h in
    let s = both _ _ r.0 in
    let t = ltb-true p (0 + n) s.1 in
    (omega arith, r.1)

both-below : (n p : ℕ) (b : Bool) → p < n → b ≡ true → (nat_le 0 p && nat_lt p (0 + n) && b) ≡ true
both-below n p b h t = let q : 0 ≤ p = omega arith in let r : p < 0 + n = omega arith in rw (le-leb 0 p q, lt-ltb p (0 + n) r, t) refl

some_chunk : (grid : Grid) (p : List ℕ) → are_dimensions grid ≡ true → is_in_box (replicate (length grid) 0) (map size_of grid) p ≡ true
    → (c : List ℕ) × (is_in_box (replicate (length grid) 0) (grid_shape grid) c ≡ true) × (chunk_has grid c p ≡ true)
some_chunk [] [] a h = ([], refl, refl)
some_chunk [] (q ∷ p) a h = absurd (cc)
some_chunk (d ∷ ds) [] a h = absurd (cc)
some_chunk (d ∷ ds) (q ∷ p) a h =
    let x = both _ _ a in
    let y = below-both (size_of d) q _ h in
    let i = has_chunk d q x.0 y.0 in
    let r = some_chunk ds p x.1 y.1 in
    (i.0 ∷ r.0, both-below (chunk_count d) i.0 _ i.1 r.1, rw (i.2, r.2) refl)

pub place_in_one_chunk : (grid : Grid) (p : List ℕ) → are_dimensions grid ≡ true → is_in_box (replicate (length grid) 0) (map size_of grid) p ≡ true
    → (c : List ℕ) × (is_in_box (replicate (length grid) 0) (grid_shape grid) c ≡ true) × (chunk_has grid c p ≡ true) × ((o : List ℕ) → chunk_has grid o p ≡ true → o ≡ c)
place_in_one_chunk grid p a h = let r = some_chunk grid p a h in (r.0, r.1, r.2, λ o t. chunks_apart grid o r.0 p t r.2)
