-- The interval of a chunk of the one edge.
use Rattle.std.proofs.Common.{◌≡◌, ◌∙◌, ℕ, ◌+◌, ◌-◌, ◌*◌, ◌/◌, ◌<◌, ◌≤◌, min, Bool, true, false, if◌then◌else◌, refl, sym, ap, subst, arith, Some, None}
use Rattle.std.specs.Option.{option_map_or}
use Rattle.std.proofs.Math.Dec.{ltb}
use Rattle.std.proofs.Math.Nat.{div-mul-le_self, lt-div-mul-add, add-mul-div_left, div-eq_of_lt}
use Rattle.std.proofs.lemmas.Bool.{le-ltb, lt-ltb, leb-true, ltb-true, false≢true}
use Rattle.std.proofs.lemmas.Nat.{le-div, div_below}
use Rattle.zarr_grids_boxes.proofs.Places.{both}
use Rattle.zarr_grids_chunks.specs.Grids.{Interval, regular, clipped, interval}
use Rattle.zarr_grids_dimensions.specs.Lookups.{lies_in_interval, interval_has}
use Rattle.zarr_grids_dimensions.proofs.VaryingIntervals.{lies_in_interval-of}

-- a number lies in one interval alone
number_of_interval : (k e p : ℕ) → 0 < e → k * e ≤ p → p < k * e + e → k ≡ p / e
number_of_interval k e p pos from below =
    let a = le-div k p e pos from in
    let b : p / e < k + 1 = div_below p e (k + 1) pos (grind arith) in
    omega arith

-- a place lies between a chunk's first place and the next chunk's
pub record InFixed (e k p : ℕ) : Type 0 where
  pub from : k * e ≤ p
  pub to : p < k * e + e

pub regular_in : (s e k p : ℕ) → interval_has (regular s e) k p ≡ true → InFixed e k p
regular_in s e k p h = let x = both _ _ h in record { from = leb-true (k * e) p x.0; to = ltb-true p (k * e + e) x.1 }

pub in_regular : (s e k p : ℕ) → InFixed e k p → interval_has (regular s e) k p ≡ true
in_regular s e k p h = lies_in_interval-of p (k * e) e h.from h.to

pub fixed_number : (e k p : ℕ) → InFixed e k p → k ≡ p / e
fixed_number e k p h = let a = h.from in let b = h.to in number_of_interval k e p (omega arith) a b

pub fixed_apart : (e k m p : ℕ) → InFixed e k p → InFixed e m p → k ≡ m
fixed_apart e k m p a b = fixed_number e k p a ∙ sym (fixed_number e m p b)

pub in_fixed : (e p : ℕ) → 0 < e → InFixed e (p / e) p
in_fixed e p h = record { from = div-mul-le_self p e; to = lt-div-mul-add h }

-- ---- clipped chunks
pub record InClipped (s e k p : ℕ) : Type 0 where
  pub fixed : InFixed e k p
  pub within : p < s

pub clipped-some : (s e k : ℕ) → k * e < s → interval (clipped s e) k ≡ Some (record { first = k * e; count = min e (s - k * e) })
clipped-some s e k h = rw (lt-ltb (k * e) s h) refl

pub clipped-none : (s e k : ℕ) → s ≤ k * e → interval (clipped s e) k ≡ None
clipped-none s e k h = rw (le-ltb (k * e) s h) refl

pub clipped_in : (s e k p : ℕ) → interval_has (clipped s e) k p ≡ true → InClipped s e k p
clipped_in s e k p h = go (ltb (k * e) s) refl h where
  go : (b : Bool) → ltb (k * e) s ≡ b → option_map_or (lies_in_interval p) (if b then Some (let i : Interval = record { first = k * e; count = min e (s - k * e) } in i) else None) false ≡ true → InClipped s e k p
  go false q t = absurd (false≢true t)
  go true q t =
      let x = both _ _ t in
      let a = leb-true (k * e) p x.0 in
      let b = ltb-true p (k * e + min e (s - k * e)) x.1 in
      let l = ltb-true (k * e) s q in
      record { fixed = record { from = a; to = omega arith }; within = omega arith }

pub in_clipped : (s e k p : ℕ) → InClipped s e k p → interval_has (clipped s e) k p ≡ true
in_clipped s e k p h =
    let a = h.fixed.from in let b = h.fixed.to in let w = h.within in
    ap (λ o. option_map_or (lies_in_interval p) o false) (clipped-some s e k (omega arith)) ∙ lies_in_interval-of p (k * e) (min e (s - k * e)) a (omega arith)

-- ---- what a lookup of a place answers
pub answers-regular : (s e p chunk : ℕ) → 0 < e → (Some (p / e) ≡ Some chunk → interval_has (regular s e) chunk p ≡ true) × (interval_has (regular s e) chunk p ≡ true → Some (p / e) ≡ Some chunk)
answers-regular s e p chunk h = (
  λ q. let r : p / e ≡ chunk = cc in subst (λ (k : ℕ). interval_has (regular s e) k p ≡ true) r (in_regular s e (p / e) p (in_fixed e p h)),
  λ t. ap (λ (k : ℕ). Some k) (sym (fixed_number e chunk p (regular_in s e chunk p t))),
)

pub answers-clipped : (s e p chunk : ℕ) → 0 < e → p < s → (Some (p / e) ≡ Some chunk → interval_has (clipped s e) chunk p ≡ true) × (interval_has (clipped s e) chunk p ≡ true → Some (p / e) ≡ Some chunk)
answers-clipped s e p chunk h w = (
  λ q. let r : p / e ≡ chunk = cc in subst (λ (k : ℕ). interval_has (clipped s e) k p ≡ true) r (in_clipped s e (p / e) p (record { fixed = in_fixed e p h; within = w })),
  λ t. ap (λ (k : ℕ). Some k) (sym (fixed_number e chunk p (clipped_in s e chunk p t).fixed)),
)

pub answers-clipped-past : (s e p chunk : ℕ) → s ≤ p → (None ≡ Some chunk → interval_has (clipped s e) chunk p ≡ true) × (interval_has (clipped s e) chunk p ≡ true → None ≡ Some chunk)
answers-clipped-past s e p chunk w = (λ q. absurd (cc), λ t. let x = (clipped_in s e chunk p t).within in absurd (omega arith))

-- ---- how many chunks there are
pub count-zero : (e : ℕ) → 0 < e → (0 + (e - 1)) / e ≡ 0
count-zero e h = let q : 0 + (e - 1) < e = omega arith in div-eq_of_lt q

pub count-some : (s e : ℕ) → 0 < e → 0 < s → (s + (e - 1)) / e ≡ (s - 1) / e + 1
count-some s e h p =
    let q : s + (e - 1) ≡ (s - 1) + e * 1 = omega arith in
    ap (λ (n : ℕ). n / e) q ∙ add-mul-div_left (s - 1) 1 h

pub below-count : (s e p : ℕ) → 0 < e → p < s → p / e < (s + (e - 1)) / e
below-count s e p h w =
    let a = div-mul-le_self p e in
    let b : (p / e + 1) * e ≡ p / e * e + e = omega arith in
    let c : p / e + 1 ≤ (s + (e - 1)) / e = le-div (p / e + 1) (s + (e - 1)) e h (omega arith) in
    omega arith
