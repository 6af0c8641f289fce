-- Chunks of a dimension follow one another as their places do.
use Rattle.std.proofs.Common.{◌≡◌, ℕ, zero, suc, ◌*◌, ◌<◌, ◌≤◌, true, List, [], ◌∷◌, length, get_or, take, refl, arith}
use Rattle.std.specs.Prelude.{sum}
use Rattle.std.proofs.Math.Nat.{mul-le-mul_right}
use Rattle.std.proofs.lemmas.Bool.{ltb-true}
use Rattle.std.proofs.lemmas.Nat.{le-div}
use Rattle.zarr_grids_boxes.proofs.Places.{both}
use Rattle.zarr_grids_chunks.specs.Grids.{Dimension, regular, clipped, varying}
use Rattle.zarr_grids_dimensions.specs.Lookups.{all_positive, is_dimension, interval_has}
use Rattle.zarr_grids_dimensions.proofs.Running.{sum-cons, sum-later, sum-earlier}
use Rattle.zarr_grids_dimensions.proofs.Expanded.{positive-at}
use Rattle.zarr_grids_dimensions.proofs.VaryingIntervals.{InVarying, in_varying, varying_in}
use Rattle.zarr_grids_dimensions.proofs.FixedIntervals.{InFixed, regular_in, in_regular, clipped_in, in_clipped, fixed_number}

-- ---- of a later place a later chunk
fixed_monotone : (e k m p q : ℕ) → InFixed e k p → InFixed e m q → p ≤ q → k ≤ m
fixed_monotone e k m p q a b h =
    let f = a.from in let t = b.to in let g = b.from in
    let r = le-div k q e (omega arith) (omega arith) in
    let s = fixed_number e m q b in
    omega arith

varying_later : (es : List ℕ) (k m p q : ℕ) → InVarying es k p → InVarying es m q → p ≤ q → m < k → ⊥
varying_later es k m p q a b h l =
    let s = sum-later es m k l b.below in
    let f = a.from in let t = b.to in
    omega arith

pub monotone : (d : Dimension) (k m p q : ℕ) → interval_has d k p ≡ true → interval_has d m q ≡ true → p ≤ q → k ≤ m
monotone (regular s e) k m p q a b h = fixed_monotone e k m p q (regular_in s e k p a) (regular_in s e m q b) h
monotone (clipped s e) k m p q a b h = fixed_monotone e k m p q (clipped_in s e k p a).fixed (clipped_in s e m q b).fixed h
monotone (varying s es) k m p q a b h = let f = varying_later es k m p q (varying_in s es k p a) (varying_in s es m q b) h in omega (arith, f)

-- ---- each chunk before another begins at a place before
first_fixed : (e k m q : ℕ) → 0 < e → InFixed e m q → k ≤ m → InFixed e k (k * e) × (k * e ≤ q)
first_fixed e k m q pos b h =
    let r = mul-le-mul_right e h in
    let f = b.from in
    (record { from = omega arith; to = omega arith }, omega arith)

pub first_place : (d : Dimension) (k m q : ℕ) → is_dimension d ≡ true → interval_has d m q ≡ true → k ≤ m → (f : ℕ) × (interval_has d k f ≡ true) × (f ≤ q)
first_place (regular s e) k m q t b h = let r = first_fixed e k m q (ltb-true 0 e t) (regular_in s e m q b) h in (k * e, in_regular s e k (k * e) r.0, r.1)
first_place (clipped s e) k m q t b h =
    let i = clipped_in s e m q b in
    let w = i.within in
    let r = first_fixed e k m q (ltb-true 0 e t) i.fixed h in
    let l = r.1 in
    (k * e, in_clipped s e k (k * e) (record { fixed = r.0; within = omega arith }), r.1)
first_place (varying s es) k m q t b h =
    let i = varying_in s es m q b in
    let l = i.below in
    let x = both _ _ t in
    let below : k < length es = omega arith in
    let pos = positive-at es k below x.0 in
    let e = sum-earlier es k m h (omega arith) in
    let f = i.from in
    (sum (take k es), in_varying s es k (sum (take k es)) (sum (take k es)) (get_or es k 0) (record { below = below; first_is = refl; edge_is = refl }) (omega arith) (omega arith), omega arith)

-- ---- a chunk's number is no more than its places
sum-least : (es : List ℕ) (k : ℕ) → k ≤ length es → all_positive es ≡ true → k ≤ sum (take k es)
sum-least es zero h t = omega arith
sum-least [] (suc k) h t = absurd (omega arith)
sum-least (e ∷ es) (suc k) h t =
    let x = both _ _ t in
    let i = sum-least es k (omega arith) x.1 in
    let s = sum-cons e (take k es) in
    let p = ltb-true 0 e x.0 in
    let g : suc k ≤ sum (e ∷ take k es) = omega arith in g

fixed_least : (e k p : ℕ) → 0 < e → InFixed e k p → k ≤ p
fixed_least e k p pos i = let f = i.from in let g = mul-one k e pos in omega arith where
  mul-one : (k e : ℕ) → 0 < e → k ≤ k * e
  mul-one k e pos = grind arith

pub number_least : (d : Dimension) (k p : ℕ) → is_dimension d ≡ true → interval_has d k p ≡ true → k ≤ p
number_least (regular s e) k p t a = fixed_least e k p (ltb-true 0 e t) (regular_in s e k p a)
number_least (clipped s e) k p t a = fixed_least e k p (ltb-true 0 e t) (clipped_in s e k p a).fixed
number_least (varying s es) k p t a =
    let i = varying_in s es k p a in
    let b = i.below in
    let f = i.from in
    let l = sum-least es k (omega arith) (both _ _ t).0 in
    omega arith
