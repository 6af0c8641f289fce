-- The interval of a chunk with an edge of its own.
use Rattle.std.proofs.Common.{◌≡◌, ◌∙◌, ℕ, ◌+◌, ◌<◌, ◌≤◌, Bool, true, false, if◌then◌else◌, List, length, get_or, take, refl, ap, arith, Some, None}
use Rattle.std.specs.Prelude.{sum}
use Rattle.std.specs.Option.{option_map_or}
use Rattle.std.proofs.Math.Dec.{ltb}
use Rattle.std.proofs.lemmas.List.Sums.{sum_by_more_le}
use Rattle.std.proofs.lemmas.Bool.{le-leb, lt-ltb, leb-true, ltb-true, false≢true}
use Rattle.zarr_grids_boxes.proofs.Places.{both}
use Rattle.zarr_grids_chunks.specs.Grids.{Interval, varying, interval}
use Rattle.zarr_grids_dimensions.specs.Lookups.{lies_in_interval, interval_has}
use Rattle.zarr_grids_dimensions.proofs.Running.{sum-later}
use Rattle.zarr_grids_dimensions.proofs.Expanded.{IsChunkAt}

pub interval-at : (size : ℕ) (es : List ℕ) (k first edge : ℕ) → IsChunkAt es k first edge → interval (varying size es) k ≡ Some (record { first = first; count = edge })
interval-at size es k first edge i = rw (lt-ltb k (length es) i.below, i.first_is, i.edge_is) refl

-- a place of an interval lies in it
pub lies_in_interval-of : (p first count : ℕ) → first ≤ p → p < first + count → lies_in_interval p (record { first = first; count = count }) ≡ true
lies_in_interval-of p first count a b = rw (le-leb first p a, lt-ltb p (first + count) b) refl

pub in_varying : (size : ℕ) (es : List ℕ) (k p first edge : ℕ) → IsChunkAt es k first edge → first ≤ p → p < first + edge → interval_has (varying size es) k p ≡ true
in_varying size es k p first edge i a b = ap (λ o. option_map_or (lies_in_interval p) o false) (interval-at size es k first edge i) ∙ lies_in_interval-of p first edge a b

-- where a place of a chunk lies
pub record InVarying (es : List ℕ) (k p : ℕ) : Type 0 where
  pub below : k < length es
  pub from : sum (take k es) ≤ p
  pub to : p < sum (take k es) + get_or es k 0

pub varying_in : (size : ℕ) (es : List ℕ) (k p : ℕ) → interval_has (varying size es) k p ≡ true → InVarying es k p
varying_in size es k p h = go (ltb k (length es)) refl h where
  i : Interval
  i = record { first = sum (take k es); count = get_or es k 0 }

  go : (b : Bool) → ltb k (length es) ≡ b → option_map_or (lies_in_interval p) (if b then Some (let i : Interval = record { first = sum (take k es); count = get_or es k 0 } in i) else None) false ≡ true → InVarying es k p
  go false e t = absurd (false≢true t)
  go true e t = let x = both _ _ t in record { below = ltb-true k (length es) e; from = leb-true _ p x.0; to = ltb-true p _ x.1 }

no_later : (es : List ℕ) (k m p : ℕ) → InVarying es k p → InVarying es m p → k < m → ⊥
no_later es k m p a b h =
    let f = sum-later es k m h a.below in
    let from = b.from in
    let to = a.to in
    omega arith

pub varying_apart : (es : List ℕ) (k m p : ℕ) → InVarying es k p → InVarying es m p → k ≡ m
varying_apart es k m p a b = let f = no_later es k m p a b in let g = no_later es m k p b a in omega (arith, f, g)

-- a place of a chunk is less than the edges' sum
pub varying_within : (es : List ℕ) (k p : ℕ) → InVarying es k p → p < sum es
varying_within es k p a =
    let f = sum_by_more_le (λ (x : ℕ). x) es k 0 a.below in
    let to = a.to in
    omega arith
