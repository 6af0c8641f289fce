-- The chunks that a covered box intersects are those of a box of chunk indices.
use Rattle.std.proofs.Common.{◌≡◌, ◌∙◌, ℕ, zero, suc, ◌+◌, ◌-◌, ◌<◌, ◌≤◌, Bool, true, false, ◌&&◌, List, [], ◌∷◌, length, replicate, sym, ap, refl, subst, arith, Option, Some, None, ◌⊎◌, ⊎_elim}
use Rattle.std.specs.Option.{option_map_or}
use Rattle.std.proofs.Math.Dec.{ltb}
use Rattle.std.proofs.Math.Nat.{mul-le-mul}
use Rattle.std.proofs.lemmas.Bool.{leb-true, ltb-true, ltb-false, false≢true}
use Rattle.std.proofs.lemmas.List.{length-map, length-replicate}
use Rattle.zarr_grids_boxes.specs.Boxes.{Region, product, places, is_in_box, share_place, last_index}
use Rattle.zarr_grids_boxes.proofs.Places.{both}
use Rattle.zarr_grids_boxes.proofs.Walking.{start_in_box}
use Rattle.zarr_grids_chunks.specs.Grids.{Dimension, Grid, chunk_count, chunk_box, grid_shape, intersects, intersecting, IsInGrid, IsCovered}
use Rattle.zarr_grids_boxes.proofs.Sharing.{share_place-of, share_place-has}
use Rattle.zarr_grids_dimensions.specs.Lookups.{lies_in_interval, is_dimension, interval_has, chunk_has, are_dimensions}
use Rattle.zarr_grids_dimensions.specs.Chunks.{SharesPlace, LiesNowhere}
use Rattle.zarr_grids_dimensions.proofs.Intersecting.{lies_in_interval_some}
use Rattle.zarr_grids_dimensions.proofs.Monotone.{monotone, first_place}
use Rattle.zarr_grids_dimensions.proofs.OneChunk.{chunks_apart}
use Rattle.zarr_grids_dimensions.proofs.UnionBox.{box-more}
use Rattle.zarr_grids_cover.specs.Intersecting.{AreIntersecting}
use Rattle.zarr_grids_cover.proofs.PlacesKept.{agree, kept, last_index-in_box}

-- ---- the places of a chunk's box are those that lie in the chunk
pub box-lies : (grid : Grid) (chunk p : List ℕ) (box : Region) → chunk_box grid chunk ≡ Some box → is_in_box box.start box.shape p ≡ chunk_has grid chunk p
box-lies [] [] p box h = let e : record { start = []; shape = [] } ≡ box = cc in subst (λ (b : Region). is_in_box b.start b.shape p ≡ chunk_has [] [] p) e (none p) where
  none : (p : List ℕ) → is_in_box [] [] p ≡ chunk_has [] [] p
  none [] = refl
  none (q ∷ qs) = refl
box-lies [] (k ∷ ks) p box h = absurd (cc)
box-lies (d ∷ ds) [] p box h = absurd (cc)
box-lies (d ∷ ds) (k ∷ ks) [] box h = let b = box-more d ds k ks box h in subst (λ (r : Region). is_in_box r.start r.shape [] ≡ false) (sym b.is) refl
box-lies (d ∷ ds) (k ∷ ks) (q ∷ qs) box h =
    let b = box-more d ds k ks box h in
    subst (λ (r : Region). is_in_box r.start r.shape (q ∷ qs) ≡ (interval_has d k q && chunk_has ds ks qs)) (sym b.is)
    (ap (λ o. option_map_or (lies_in_interval q) o false && is_in_box b.rest.start b.rest.shape qs) (sym b.along_is) ∙ ap (λ c. interval_has d k q && c) (box-lies ds ks qs b.rest b.rest_is))

-- ---- a chunk that a covered box intersects lies in the grid, and its box shares a place
pub record IntersectingInGrid (grid : Grid) (region : Region) (chunk : List ℕ) : Type 0 where
  pub box : Region
  pub below : IsInGrid grid chunk box
  pub shares : intersects grid region chunk ≡ true

pub intersects-below : (grid : Grid) (region : Region) (chunk : List ℕ) → IsCovered grid region → SharesPlace grid region chunk → IntersectingInGrid grid region chunk
intersects-below grid region chunk covered m =
    let c = covered.covered m.0 m.1 in
    let same : c.0 ≡ chunk = chunks_apart grid c.0 chunk m.0 (sym (box-lies grid c.0 m.0 c.1 c.2.has_box) ∙ c.3) m.2 in
    let below : IsInGrid grid chunk c.1 = subst (λ (k : List ℕ). IsInGrid grid k c.1) same c.2 in
    record {
      box = c.1;
      below = below;
      shares = ap (λ o. option_map_or (λ (b : Region). share_place b.start b.shape region.start region.shape) o false) below.has_box ∙ share_place-of c.1.start c.1.shape region.start region.shape m.0 c.3 m.1;
    }

pub shares-intersects : (grid : Grid) (region : Region) (chunk : List ℕ) → intersects grid region chunk ≡ true → SharesPlace grid region chunk
shares-intersects grid region chunk h = go (chunk_box grid chunk) refl h where
  go : (o : Option Region) → chunk_box grid chunk ≡ o → option_map_or (λ (b : Region). share_place b.start b.shape region.start region.shape) o false ≡ true → SharesPlace grid region chunk
  go None e t = absurd (false≢true t)
  go (Some b) e t = let s = share_place-has b.start b.shape region.start region.shape t in (s.0, s.2, sym (box-lies grid chunk s.0 b e) ∙ s.1)

-- ---- each place of a covered box lies in a chunk, so its first and its last place do
covered-chunk : (grid : Grid) (region : Region) (place : List ℕ) → IsCovered grid region → is_in_box region.start region.shape place ≡ true → (chunk : List ℕ) × (chunk_has grid chunk place ≡ true)
covered-chunk grid region place covered t = let c = covered.covered place t in (c.0, sym (box-lies grid c.0 place c.1 c.2.has_box) ∙ c.3)

pub ends-lie : (grid : Grid) (region : Region) → IsCovered grid region → 0 < product region.shape → length region.shape ≡ length region.start → LiesNowhere grid region.start ⊎ LiesNowhere grid (last_index region.start region.shape) → ⊥
ends-lie grid region covered some same none =
    let first = covered-chunk grid region region.start covered (start_in_box region.start region.shape same some) in
    let last = covered-chunk grid region (last_index region.start region.shape) covered (last_index-in_box region.start region.shape same some) in
    ⊎_elim (λ n. n first.0 first.1) (λ n. n last.0 last.1) none

-- ---- a covered box of places, and a box of the chunks that it intersects
pub record Found (grid : Grid) (region chunks : Region) : Type 0 where
  pub covered : IsCovered grid region
  pub some : 0 < product region.shape
  pub same : length region.shape ≡ length region.start
  pub rank : length chunks.start ≡ length grid
  pub lengths : length chunks.shape ≡ length chunks.start
  pub here : (chunk : List ℕ) → is_in_box chunks.start chunks.shape chunk ≡ true → SharesPlace grid region chunk
  pub all : (chunk : List ℕ) → SharesPlace grid region chunk → is_in_box chunks.start chunks.shape chunk ≡ true

pub found-some : (grid : Grid) (region chunks : Region) → Found grid region chunks → 0 < product chunks.shape
found-some grid region chunks f =
    let first = start_in_box region.start region.shape f.same f.some in
    let c = covered-chunk grid region region.start f.covered first in
    lies_in_interval_some chunks.start chunks.shape c.0 (f.all c.0 (region.start, first, c.1))

pub found-below : (grid : Grid) (region chunks : Region) → Found grid region chunks → (chunk : List ℕ) → is_in_box chunks.start chunks.shape chunk ≡ true → IntersectingInGrid grid region chunk
found-below grid region chunks f chunk t = intersects-below grid region chunk f.covered (f.here chunk t)

found-tests : (grid : Grid) (region chunks : Region) → Found grid region chunks → (chunk : List ℕ) → is_in_box chunks.start chunks.shape chunk ≡ intersects grid region chunk
found-tests grid region chunks f chunk = go (is_in_box chunks.start chunks.shape chunk) (intersects grid region chunk) (λ t. (found-below grid region chunks f chunk t).shares) (λ t. f.all chunk (shares-intersects grid region chunk t)) where
  go : (a b : Bool) → (a ≡ true → b ≡ true) → (b ≡ true → a ≡ true) → a ≡ b
  go true b g h = sym (g refl)
  go false true g h = h refl
  go false false g h = refl

pub found-listed : (grid : Grid) (region chunks : Region) → Found grid region chunks → places chunks.start chunks.shape ≡ intersecting grid region
found-listed grid region chunks f =
    let zeros : List ℕ = replicate (length grid) 0 in
    let some = found-some grid region chunks f in
    let first = found-below grid region chunks f chunks.start (start_in_box chunks.start chunks.shape f.lengths some) in
    let last = found-below grid region chunks f (last_index chunks.start chunks.shape) (last_index-in_box chunks.start chunks.shape f.lengths some) in
    sym (kept zeros (grid_shape grid) chunks.start chunks.shape f.lengths some first.below.below last.below.below)
    ∙ agree (is_in_box chunks.start chunks.shape) (intersects grid region) zeros (grid_shape grid) (length-replicate (length grid) 0 ∙ sym (length-map grid chunk_count)) (λ chunk t. found-tests grid region chunks f chunk)

-- ---- in each dimension there are at most as many chunks from one place to another as places
pub places_ordered : (d : Dimension) (k m p q : ℕ) → interval_has d k p ≡ true → interval_has d m q ≡ true → k < m → p < q
places_ordered d k m p q i j h = go (ltb p q) refl where
  go : (b : Bool) → ltb p q ≡ b → p < q
  go true e = ltb-true p q e
  go false e = let f = ltb-false p q e in let l = monotone d m k q p j i f in absurd (omega arith)

steps_apart : (d : Dimension) (k n p q : ℕ) → is_dimension d ≡ true → interval_has d k p ≡ true → interval_has d (k + suc n) q ≡ true → p + n < q
steps_apart d k zero p q t i j = let l = places_ordered d k (k + 1) p q i j (omega arith) in omega arith
steps_apart d k (suc n) p q t i j =
    let f = first_place d (k + suc n) (k + suc (suc n)) q t j (omega arith) in
    let l = places_ordered d (k + suc n) (k + suc (suc n)) f.0 q f.1 j (omega arith) in
    let r = steps_apart d k n p f.0 t i f.1 in
    omega arith

few_along : (d : Dimension) (k c s x p q : ℕ) → is_dimension d ≡ true → s ≤ p → p < s + x → q < s + x → interval_has d k p ≡ true → interval_has d (k + (c - 1)) q ≡ true → c ≤ x
few_along d k zero s x p q t from to up i j = omega arith
few_along d k (suc zero) s x p q t from to up i j = omega arith
few_along d k (suc (suc n)) s x p q t from to up i j =
    let e : k + (suc (suc n) - 1) ≡ k + suc n = omega arith in
    let r = steps_apart d k n p q t i (subst (λ (m : ℕ). interval_has d m q ≡ true) e j) in
    omega arith

few_each : (grid : Grid) (fs cs ss xs p q : List ℕ) → are_dimensions grid ≡ true → length cs ≡ length fs → is_in_box ss xs p ≡ true → is_in_box ss xs q ≡ true → chunk_has grid fs p ≡ true → chunk_has grid (last_index fs cs) q ≡ true
    → product cs ≤ product xs
few_each [] [] [] [] [] p q t l a b i j = omega arith
few_each [] [] [] [] (x ∷ xs) p q t l a b i j = absurd (false≢true a)
few_each [] [] [] (s ∷ ss) [] p q t l a b i j = absurd (false≢true a)
few_each [] [] [] (s ∷ ss) (x ∷ xs) [] q t l a b i j = absurd (false≢true a)
few_each [] [] [] (s ∷ ss) (x ∷ xs) (p ∷ ps) q t l a b i j = absurd (false≢true i)
few_each [] [] (c ∷ cs) ss xs p q t l a b i j = absurd (omega arith)
few_each [] (f ∷ fs) cs ss xs p q t l a b i j = absurd (false≢true i)
few_each (d ∷ ds) [] cs ss xs p q t l a b i j = absurd (false≢true i)
few_each (d ∷ ds) (f ∷ fs) [] ss xs p q t l a b i j = absurd (omega arith)
few_each (d ∷ ds) (f ∷ fs) (c ∷ cs) [] [] [] q t l a b i j = absurd (false≢true i)
few_each (d ∷ ds) (f ∷ fs) (c ∷ cs) [] [] (p ∷ ps) q t l a b i j = absurd (false≢true a)
few_each (d ∷ ds) (f ∷ fs) (c ∷ cs) [] (x ∷ xs) p q t l a b i j = absurd (false≢true a)
few_each (d ∷ ds) (f ∷ fs) (c ∷ cs) (s ∷ ss) [] p q t l a b i j = absurd (false≢true a)
few_each (d ∷ ds) (f ∷ fs) (c ∷ cs) (s ∷ ss) (x ∷ xs) [] q t l a b i j = absurd (false≢true a)
few_each (d ∷ ds) (f ∷ fs) (c ∷ cs) (s ∷ ss) (x ∷ xs) (p ∷ ps) [] t l a b i j = absurd (false≢true b)
few_each (d ∷ ds) (f ∷ fs) (c ∷ cs) (s ∷ ss) (x ∷ xs) (p ∷ ps) (q ∷ qs) t l a b i j =
    let same : length cs ≡ length fs = omega arith in
    let u = both _ _ t in
    let v = both _ _ a in
    let w = both _ _ b in
    let y = both _ _ i in
    let z = both _ _ j in
    let from = both _ _ v.0 in
    let to = both _ _ w.0 in
    mul-le-mul (few_along d f c s x p q u.0 (leb-true s p from.0) (ltb-true p (s + x) from.1) (ltb-true q (s + x) to.1) y.0 z.0) (few_each ds fs cs ss xs ps qs u.1 same v.1 w.1 y.1 z.1)

pub found-are_intersecting : (grid : Grid) (region chunks : Region) → are_dimensions grid ≡ true → Found grid region chunks → AreIntersecting grid region chunks
found-are_intersecting grid region chunks t f =
    let some = found-some grid region chunks f in
    let first = f.here chunks.start (start_in_box chunks.start chunks.shape f.lengths some) in
    let last = f.here (last_index chunks.start chunks.shape) (last_index-in_box chunks.start chunks.shape f.lengths some) in
    record {
      listed = found-listed grid region chunks f;
      below = record { rank = f.rank; below = λ chunk h. let m = found-below grid region chunks f chunk h in (m.box, m.below) };
      few = few_each grid chunks.start chunks.shape region.start region.shape first.0 last.0 t f.lengths first.1 last.1 first.2 last.2;
    }
