-- The places of a box of chunks, in all dimensions.
use Rattle.std.proofs.Common.{◌≡◌, ℕ, zero, suc, ◌+◌, ◌-◌, ◌<◌, ◌≤◌, ◌^◌, Bool, true, false, if◌then◌else◌, List, [], ◌∷◌, length, get_or, refl, sym, ap, subst, arith, Option, Some, None, option_map, option_and_then}
use Rattle.std.proofs.Math.Dec.{ltb}
use Rattle.std.proofs.lemmas.Bool.{le-leb, lt-ltb, leb-true, ltb-true, false≢true}
use Rattle.zarr_grids_boxes.specs.Boxes.{Region, product, is_in_box, EndsFit, last_index}
use Rattle.zarr_grids_boxes.proofs.Dimensions.{positive-drop}
use Rattle.zarr_grids_boxes.proofs.Places.{both}
use Rattle.zarr_grids_chunks.specs.Grids.{Dimension, Grid, Interval, interval, addressable, onto_box, chunk_box}
use Rattle.zarr_grids_dimensions.specs.Lookups.{chunk_has, are_dimensions}
use Rattle.zarr_grids_dimensions.specs.Chunks.{LiesAmong, lengths_to}
use Rattle.zarr_grids_dimensions.proofs.Union.{Ends, ends-order, among-of, of-among}

-- the box of a chunk in one dimension more
pub record BoxMore (d : Dimension) (ds : Grid) (k : ℕ) (ks : List ℕ) (box : Region) : Type 0 where
  pub along : Interval
  pub rest : Region
  pub along_is : interval d k ≡ Some along
  pub fit : along.first + along.count < 2 ^ 64
  pub rest_is : chunk_box ds ks ≡ Some rest
  pub is : box ≡ onto_box along rest

pub box-more : (d : Dimension) (ds : Grid) (k : ℕ) (ks : List ℕ) (box : Region) → chunk_box (d ∷ ds) (k ∷ ks) ≡ Some box → BoxMore d ds k ks box
box-more d ds k ks box h = go (interval d k) refl h where
  last : (i : Interval) (b : Bool) (o : Option Region) → interval d k ≡ Some i → ltb (i.first + i.count) (2 ^ 64) ≡ b → chunk_box ds ks ≡ o
      → option_and_then (λ j. option_map (onto_box j) o) (if b then Some i else None) ≡ Some box → BoxMore d ds k ks box
  last i false o e f g t = absurd (cc)
  last i true None e f g t = absurd (cc)
  last i true (Some r) e f g t = record { along = i; rest = r; along_is = e; fit = ltb-true (i.first + i.count) (2 ^ 64) f; rest_is = g; is = cc }

  go : (o : Option Interval) → interval d k ≡ o → option_and_then (λ i. option_map (onto_box i) (chunk_box ds ks)) (option_and_then addressable o) ≡ Some box → BoxMore d ds k ks box
  go None e t = absurd (cc)
  go (Some i) e t = last i (ltb (i.first + i.count) (2 ^ 64)) (chunk_box ds ks) e refl refl t

-- the box from the first chunk's box to the end of the last chunk's
abbrev pub United : Grid → List ℕ → List ℕ → Region → Region → List ℕ → Type 0
United grid fs ns b1 b2 p = (is_in_box b1.start (lengths_to b1.start b2.start b2.shape) p ≡ true → LiesAmong grid (record { start = fs; shape = ns }) p)
    × (LiesAmong grid (record { start = fs; shape = ns }) p → is_in_box b1.start (lengths_to b1.start b2.start b2.shape) p ≡ true)

pub record Joined (grid : Grid) (fs ns : List ℕ) (b1 b2 : Region) : Type 0 where
  pub rank : length b1.start ≡ length grid
  pub starts : length b2.start ≡ length b1.start
  pub counts : length b2.shape ≡ length b1.start
  pub lengths : length (lengths_to b1.start b2.start b2.shape) ≡ length b1.start
  pub order : (k : ℕ) → k < length b1.start → get_or b1.start k 0 ≤ get_or b2.start k 0
  pub box : EndsFit b1.start (lengths_to b1.start b2.start b2.shape)
  pub united : (p : List ℕ) → United grid fs ns b1 b2 p

united-more : (d : Dimension) (ds : Grid) (a n : ℕ) (fs ns : List ℕ) (i j : Interval) (r1 r2 : Region) → Ends d a n i j → ((p : List ℕ) → United ds fs ns r1 r2 p)
    → (p : List ℕ) → United (d ∷ ds) (a ∷ fs) (n ∷ ns) (onto_box i r1) (onto_box j r2) p
united-more d ds a n fs ns i j r1 r2 e r [] = (λ h. absurd (false≢true h), λ m. absurd (no m.0 m.2)) where
  no : (c : List ℕ) → chunk_has (d ∷ ds) c [] ≡ true → ⊥
  no [] t = false≢true t
  no (k ∷ ks) t = false≢true t
united-more d ds a n fs ns i j r1 r2 e r (q ∷ p) = (onward, λ m. back m.0 m.1 m.2) where
  onward : is_in_box (onto_box i r1).start (lengths_to (onto_box i r1).start (onto_box j r2).start (onto_box j r2).shape) (q ∷ p) ≡ true → LiesAmong (d ∷ ds) (record { start = a ∷ fs; shape = n ∷ ns }) (q ∷ p)
  onward h =
      let u = both _ _ h in
      let v = both _ _ u.0 in
      let c = among-of d a n q i j e (leb-true i.first q v.0) (ltb-true q (i.first + (j.first + j.count - i.first)) v.1) in
      let rest = (r p).0 u.1 in
      let x = le-leb a c.chunk c.from in
      let y = lt-ltb c.chunk (a + n) c.to in
      (c.chunk ∷ rest.0, rw (x, y, rest.1) refl, rw (c.lies, rest.2) refl)

  back : (c : List ℕ) → is_in_box (a ∷ fs) (n ∷ ns) c ≡ true → chunk_has (d ∷ ds) c (q ∷ p) ≡ true → is_in_box (onto_box i r1).start (lengths_to (onto_box i r1).start (onto_box j r2).start (onto_box j r2).shape) (q ∷ p) ≡ true
  back [] h g = absurd (false≢true h)
  back (k ∷ ks) h g =
      let u = both _ _ h in
      let v = both _ _ u.0 in
      let w = both _ _ g in
      let b = of-among d a n q k i j e (leb-true a k v.0) (ltb-true k (a + n) v.1) w.0 in
      let o = ends-order d a n i j e in
      let b1 = b.1 in
      let l : q < i.first + (j.first + j.count - i.first) = omega arith in
      let x = le-leb i.first q b.0 in
      let y = lt-ltb q (i.first + (j.first + j.count - i.first)) l in
      let z = (r p).1 (ks, u.1, w.1) in
      rw (x, y, z) refl

joined-more : (d : Dimension) (ds : Grid) (a n : ℕ) (fs ns : List ℕ) (i j : Interval) (r1 r2 : Region) → Ends d a n i j → j.first + j.count < 2 ^ 64 → Joined ds fs ns r1 r2
    → Joined (d ∷ ds) (a ∷ fs) (n ∷ ns) (onto_box i r1) (onto_box j r2)
joined-more d ds a n fs ns i j r1 r2 e f r = record {
  rank = ap (λ m. suc m) r.rank;
  starts = ap (λ m. suc m) r.starts;
  counts = ap (λ m. suc m) r.counts;
  lengths = ap (λ m. suc m) r.lengths;
  order = order;
  box = box;
  united = united-more d ds a n fs ns i j r1 r2 e r.united;
} where
  order : (k : ℕ) → k < length (i.first ∷ r1.start) → get_or (i.first ∷ r1.start) k 0 ≤ get_or (j.first ∷ r2.start) k 0
  order zero l = ends-order d a n i j e
  order (suc k) l = r.order k (omega arith)

  box : EndsFit (i.first ∷ r1.start) ((j.first + j.count - i.first) ∷ lengths_to r1.start r2.start r2.shape)
  box zero l = let o = ends-order d a n i j e in let q : i.first + (j.first + j.count - i.first) < 2 ^ 64 = omega arith in q
  box (suc k) l = r.box k (omega arith)

pub joined : (grid : Grid) (fs ns : List ℕ) (b1 b2 : Region) → are_dimensions grid ≡ true → 0 < product ns → length ns ≡ length fs → chunk_box grid fs ≡ Some b1 → chunk_box grid (last_index fs ns) ≡ Some b2 → Joined grid fs ns b1 b2
joined [] [] [] b1 b2 t pos l i j =
    let e : record { start = []; shape = [] } ≡ b1 = cc in
    let f : record { start = []; shape = [] } ≡ b2 = cc in
    subst (λ (b : Region). Joined [] [] [] b b2) e (subst (λ (b : Region). Joined [] [] [] (record { start = []; shape = [] }) b) f base) where
      united : (p : List ℕ) → United [] [] [] (record { start = []; shape = [] }) (record { start = []; shape = [] }) p
      united [] = (λ h. ([], refl, refl), λ m. refl)
      united (q ∷ p) = (λ h. absurd (false≢true h), λ m. absurd (no m.0 m.2)) where
        no : (c : List ℕ) → chunk_has [] c (q ∷ p) ≡ true → ⊥
        no [] t = false≢true t
        no (k ∷ ks) t = false≢true t

      base : Joined [] [] [] (record { start = []; shape = [] }) (record { start = []; shape = [] })
      base = record { rank = refl; starts = refl; counts = refl; lengths = refl; order = λ k h. absurd (omega arith); box = λ k h. absurd (omega arith); united = united }
joined [] [] (n ∷ ns) b1 b2 t pos l i j = absurd (omega arith)
joined [] (a ∷ fs) ns b1 b2 t pos l i j = absurd (cc)
joined (d ∷ ds) [] ns b1 b2 t pos l i j = absurd (cc)
joined (d ∷ ds) (a ∷ fs) [] b1 b2 t pos l i j = absurd (omega arith)
joined (d ∷ ds) (a ∷ fs) (n ∷ ns) b1 b2 t pos l i j =
    let u = both _ _ t in
    let p = positive-drop (n ∷ ns) 0 (omega arith) pos in
    let x = box-more d ds a fs b1 i in
    let y = box-more d ds (a + (n - 1)) (last_index fs ns) b2 j in
    let e : Ends d a n x.along y.along = record { dimension = u.0; some = p.0; first = x.along_is; last = y.along_is } in
    let r = joined ds fs ns x.rest y.rest u.1 p.1 (omega arith) x.rest_is y.rest_is in
    let m = joined-more d ds a n fs ns x.along y.along x.rest y.rest e y.fit r in
    subst (λ (b : Region). Joined (d ∷ ds) (a ∷ fs) (n ∷ ns) b b2) (sym x.is) (subst (λ (b : Region). Joined (d ∷ ds) (a ∷ fs) (n ∷ ns) (onto_box x.along x.rest) b) (sym y.is) m)
