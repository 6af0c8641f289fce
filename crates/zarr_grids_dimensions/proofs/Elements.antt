-- A place and its chunk's first place.
use Rattle.std.proofs.Common.{◌≡◌, ◌∙◌, ℕ, zero, suc, ◌<◌, ◌≤◌, ◌^◌, true, false, if◌then◌else◌, List, [], ◌∷◌, length, get_or, refl, sym, ap, subst, arith, Option, Some, None, option_and_then, option_map}
use Rattle.std.specs.Prelude.{nat_lt}
use Rattle.std.specs.Option.{option_map_or}
use Rattle.std.proofs.lemmas.Bool.{lt-ltb, leb-true, false≢true}
use Rattle.zarr_grids_boxes.proofs.Places.{both}
use Rattle.zarr_grids_chunks.specs.Grids.{Dimension, Grid, Interval, interval}
use Rattle.zarr_grids_dimensions.specs.Lookups.{lies_in_interval, interval_has, chunk_has}
use Rattle.zarr_grids_dimensions.specs.Chunks.{first_of, in_each, origin}

pub lies-length : (grid : Grid) (chunk place : List ℕ) → chunk_has grid chunk place ≡ true → length chunk ≡ length grid
lies-length [] [] [] h = refl
lies-length [] [] (p ∷ ps) h = absurd (cc)
lies-length [] (k ∷ ks) ps h = absurd (cc)
lies-length (d ∷ ds) [] ps h = absurd (cc)
lies-length (d ∷ ds) (k ∷ ks) [] h = absurd (cc)
lies-length (d ∷ ds) (k ∷ ks) (p ∷ ps) h = ap (λ n. suc n) (lies-length ds ks ps (both _ _ h).1)

-- the first number of a chunk that a place below 2^64 lies in
pub record FirstOf (d : Dimension) (k p : ℕ) : Type 0 where
  pub first : ℕ
  pub is : first_of d k ≡ Some first
  pub from : first ≤ p

pub in-first : (d : Dimension) (k p : ℕ) → p < 2 ^ 64 → interval_has d k p ≡ true → FirstOf d k p
in-first d k p s h = go (interval d k) refl h where
  go : (o : Option Interval) → interval d k ≡ o → option_map_or (lies_in_interval p) o false ≡ true → FirstOf d k p
  go None e t = absurd (false≢true t)
  go (Some i) e t =
      let x = both _ _ t in
      let from = leb-true i.first p x.0 in
      let b : i.first < 2 ^ 64 = omega arith in
      record {
        first = i.first;
        is = ap (λ o. option_and_then (λ (j : Interval). if nat_lt j.first (2 ^ 64) then Some j.first else None) o) e ∙ ap (λ c. if c then Some i.first else None) (lt-ltb i.first (2 ^ 64) b);
        from = from;
      }

pub record OriginOf (grid : Grid) (chunk place : List ℕ) : Type 0 where
  pub first : List ℕ
  pub is : origin grid chunk ≡ Some first
  pub same : length first ≡ length place
  pub from : (j : ℕ) → j < length place → get_or first j 0 ≤ get_or place j 0

pub lies-origin : (grid : Grid) (chunk place : List ℕ) → ((j : ℕ) → j < length place → get_or place j 0 < 2 ^ 64) → chunk_has grid chunk place ≡ true → OriginOf grid chunk place
lies-origin [] [] [] s h = record { first = []; is = refl; same = refl; from = λ j g. absurd (omega arith) }
lies-origin [] [] (p ∷ ps) s h = absurd (cc)
lies-origin [] (k ∷ ks) ps s h = absurd (cc)
lies-origin (d ∷ ds) [] ps s h = absurd (cc)
lies-origin (d ∷ ds) (k ∷ ks) [] s h = absurd (cc)
lies-origin (d ∷ ds) (k ∷ ks) (p ∷ ps) s h =
    let x = both _ _ h in
    let f = in-first d k p (s 0 (omega arith)) x.0 in
    let r = lies-origin ds ks ps (λ j g. s (suc j) (omega arith)) x.1 in
    record {
      first = f.first ∷ r.first;
      is = ap (λ o. option_and_then (λ n. option_map (λ ns. n ∷ ns) (in_each first_of ds ks)) o) f.is ∙ ap (λ o. option_map (λ ns. f.first ∷ ns) o) r.is;
      same = ap (λ n. suc n) r.same;
      from = from f.first p r.first ps f.from r.from;
    } where
      from : (n p : ℕ) (ns ps : List ℕ) → n ≤ p → ((j : ℕ) → j < length ps → get_or ns j 0 ≤ get_or ps j 0) → (j : ℕ) → j < length (p ∷ ps) → get_or (n ∷ ns) j 0 ≤ get_or (p ∷ ps) j 0
      from n p ns ps a f zero g = a
      from n p ns ps a f (suc j) g = f j (omega arith)

-- the origin that a lookup found
pub first-below : (grid : Grid) (chunk place first : List ℕ) → ((j : ℕ) → j < length place → get_or place j 0 < 2 ^ 64) → chunk_has grid chunk place ≡ true → origin grid chunk ≡ Some first
    → (length first ≡ length place) × ((j : ℕ) → j < length place → get_or first j 0 ≤ get_or place j 0)
first-below grid chunk place first s h o =
    let r = lies-origin grid chunk place s h in
    let i = r.is in
    let e : r.first ≡ first = cc in
    (ap (λ ns. length ns) (sym e) ∙ r.same, subst (λ ns. (j : ℕ) → j < length place → get_or ns j 0 ≤ get_or place j 0) e r.from)

-- a lookup finds one
pub some-origin : (grid : Grid) (chunk place : List ℕ) → ((j : ℕ) → j < length place → get_or place j 0 < 2 ^ 64) → chunk_has grid chunk place ≡ true → None ≡ origin grid chunk → ⊥
some-origin grid chunk place s h o = let i = (lies-origin grid chunk place s h).is in absurd (cc)
