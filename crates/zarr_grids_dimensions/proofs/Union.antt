-- The places of a box of chunks lie from the first chunk's first to the last chunk's last.
use Rattle.std.proofs.Common.{◌≡◌, ◌∙◌, ℕ, ◌+◌, ◌-◌, ◌*◌, ◌/◌, ◌<◌, ◌≤◌, min, Bool, true, false, if◌then◌else◌, length, get_or, take, refl, sym, ap, subst, arith, Some, None}
use Rattle.std.specs.Prelude.{sum}
use Rattle.std.specs.Option.{option_map_or}
use Rattle.std.proofs.Math.Dec.{ltb}
use Rattle.std.proofs.lemmas.Bool.{leb-true, ltb-true, ltb-false}
use Rattle.zarr_grids_boxes.proofs.Places.{both}
use Rattle.zarr_grids_chunks.specs.Grids.{Dimension, regular, clipped, varying, Interval, interval}
use Rattle.zarr_grids_dimensions.specs.Lookups.{lies_in_interval, is_dimension, interval_has}
use Rattle.zarr_grids_dimensions.proofs.Expanded.{positive-at}
use Rattle.zarr_grids_dimensions.proofs.VaryingIntervals.{in_varying, varying_in, varying_within, lies_in_interval-of}
use Rattle.zarr_grids_dimensions.proofs.FixedIntervals.{in_regular, clipped_in, in_clipped, in_fixed}
use Rattle.zarr_grids_dimensions.proofs.Monotone.{monotone}
use Rattle.zarr_grids_dimensions.proofs.OneChunk.{in_some}

-- ---- an interval and its places
pub in-of : (d : Dimension) (k p : ℕ) (i : Interval) → interval d k ≡ Some i → i.first ≤ p → p < i.first + i.count → interval_has d k p ≡ true
in-of d k p i e a b = ap (λ o. option_map_or (lies_in_interval p) o false) e ∙ lies_in_interval-of p i.first i.count a b

pub of-in : (d : Dimension) (k p : ℕ) (i : Interval) → interval d k ≡ Some i → interval_has d k p ≡ true → (i.first ≤ p) × (p < i.first + i.count)
of-in d k p i e t = let x = both _ _ (sym (ap (λ o. option_map_or (lies_in_interval p) o false) e) ∙ t) in (leb-true i.first p x.0, ltb-true p (i.first + i.count) x.1)

-- a chunk has a place
pub interval-positive : (d : Dimension) (k : ℕ) (i : Interval) → is_dimension d ≡ true → interval d k ≡ Some i → 0 < i.count
interval-positive (regular s e) k i t h = let q : e ≡ i.count = cc in let p = ltb-true 0 e t in omega arith
interval-positive (clipped s e) k i t h = go (ltb (k * e) s) refl h where
  go : (b : Bool) → ltb (k * e) s ≡ b → (if b then Some (let j : Interval = record { first = k * e; count = min e (s - k * e) } in j) else None) ≡ Some i → 0 < i.count
  go false q u = absurd (cc)
  go true q u =
      let c : min e (s - k * e) ≡ i.count = cc in
      let p = ltb-true 0 e t in
      let l = ltb-true (k * e) s q in
      omega arith
interval-positive (varying s es) k i t h = go (ltb k (length es)) refl h where
  go : (b : Bool) → ltb k (length es) ≡ b → (if b then Some (let j : Interval = record { first = sum (take k es); count = get_or es k 0 } in j) else None) ≡ Some i → 0 < i.count
  go false q u = absurd (cc)
  go true q u =
      let c : get_or es k 0 ≡ i.count = cc in
      let p = positive-at es k (ltb-true k (length es) q) (both _ _ t).0 in
      omega arith

-- each place before one of a chunk lies in a chunk
pub before : (d : Dimension) (m p q : ℕ) → is_dimension d ≡ true → interval_has d m q ≡ true → p ≤ q → (k : ℕ) × (interval_has d k p ≡ true)
before (regular s e) m p q t a h = (p / e, in_regular s e (p / e) p (in_fixed e p (ltb-true 0 e t)))
before (clipped s e) m p q t a h =
    let w = (clipped_in s e m q a).within in
    (p / e, in_clipped s e (p / e) p (record { fixed = in_fixed e p (ltb-true 0 e t); within = omega arith }))
before (varying s es) m p q t a h =
    let w = varying_within es m q (varying_in s es m q a) in
    let i = in_some es p (omega arith) in
    (i.0, in_varying s es i.0 p _ _ (record { below = i.1.below; first_is = refl; edge_is = refl }) i.1.from i.1.to)

-- ---- in one dimension: chunks a to a + (n - 1), whose first and last intervals are i and j
pub record Ends (d : Dimension) (a n : ℕ) (i j : Interval) : Type 0 where
  pub dimension : is_dimension d ≡ true
  pub some : 0 < n
  pub first : interval d a ≡ Some i
  pub last : interval d (a + (n - 1)) ≡ Some j

pub ends-order : (d : Dimension) (a n : ℕ) (i j : Interval) → Ends d a n i j → i.first ≤ j.first
ends-order d a n i j e = go (ltb j.first i.first) refl where
  go : (b : Bool) → ltb j.first i.first ≡ b → i.first ≤ j.first
  go false q = ltb-false j.first i.first q
  go true q =
      let l = ltb-true j.first i.first q in
      let pi = interval-positive d a i e.dimension e.first in
      let pj = interval-positive d (a + (n - 1)) j e.dimension e.last in
      let some = e.some in
      let x = in-of d a i.first i e.first (omega arith) (omega arith) in
      let y = in-of d (a + (n - 1)) j.first j e.last (omega arith) (omega arith) in
      let m = monotone d (a + (n - 1)) a j.first i.first y x (omega arith) in
      let s : a + (n - 1) ≡ a = omega arith in
      let z = of-in d a j.first i e.first (subst (λ (k : ℕ). interval_has d k j.first ≡ true) s y) in
      let z' = z.0 in
      omega arith

-- a chunk of those that has the place
pub record Among (d : Dimension) (a n p : ℕ) : Type 0 where
  pub chunk : ℕ
  pub from : a ≤ chunk
  pub to : chunk < a + n
  pub lies : interval_has d chunk p ≡ true

pub among-of : (d : Dimension) (a n p : ℕ) (i j : Interval) → Ends d a n i j → i.first ≤ p → p < i.first + (j.first + j.count - i.first) → Among d a n p
among-of d a n p i j e f g =
    let o = ends-order d a n i j e in
    let pi = interval-positive d a i e.dimension e.first in
    let pj = interval-positive d (a + (n - 1)) j e.dimension e.last in
    let some = e.some in
    let x = in-of d a i.first i e.first (omega arith) (omega arith) in
    let y = in-of d (a + (n - 1)) (j.first + j.count - 1) j e.last (omega arith) (omega arith) in
    pick some x y (before d (a + (n - 1)) p (j.first + j.count - 1) e.dimension y (omega arith)) (omega arith) where
      pick : 0 < n → interval_has d a i.first ≡ true → interval_has d (a + (n - 1)) (j.first + j.count - 1) ≡ true → (k : ℕ) × (interval_has d k p ≡ true) → p ≤ j.first + j.count - 1 → Among d a n p
      pick some x y (k, z) l =
          let u = monotone d a k i.first p x z f in
          let v = monotone d k (a + (n - 1)) p (j.first + j.count - 1) z y l in
          record { chunk = k; from = u; to = omega arith; lies = z }

pub of-among : (d : Dimension) (a n p k : ℕ) (i j : Interval) → Ends d a n i j → a ≤ k → k < a + n → interval_has d k p ≡ true → (i.first ≤ p) × (p < j.first + j.count)
of-among d a n p k i j e f g z = (low (ltb p i.first) refl, high (ltb p (j.first + j.count)) refl) where
  low : (b : Bool) → ltb p i.first ≡ b → i.first ≤ p
  low false q = ltb-false p i.first q
  low true q =
      let l = ltb-true p i.first q in
      let pi = interval-positive d a i e.dimension e.first in
      let x = in-of d a i.first i e.first (omega arith) (omega arith) in
      let m = monotone d k a p i.first z x (omega arith) in
      let s : k ≡ a = omega arith in
      (of-in d a p i e.first (subst (λ (c : ℕ). interval_has d c p ≡ true) s z)).0

  high : (b : Bool) → ltb p (j.first + j.count) ≡ b → p < j.first + j.count
  high true q = ltb-true p (j.first + j.count) q
  high false q =
      let l = ltb-false p (j.first + j.count) q in
      let pj = interval-positive d (a + (n - 1)) j e.dimension e.last in
      let some = e.some in
      let y = in-of d (a + (n - 1)) (j.first + j.count - 1) j e.last (omega arith) (omega arith) in
      let m = monotone d (a + (n - 1)) k (j.first + j.count - 1) p y z (omega arith) in
      let s : k ≡ a + (n - 1) = omega arith in
      (of-in d (a + (n - 1)) p j e.last (subst (λ (c : ℕ). interval_has d c p ≡ true) s z)).1
