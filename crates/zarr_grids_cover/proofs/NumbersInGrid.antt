-- Chunk numbers below the count whose intervals fit, the places in them, and both in all dimensions.
use Rattle.std.proofs.Common.{◌≡◌, ◌∙◌, ℕ, zero, suc, ◌+◌, ◌-◌, ◌^◌, ◌<◌, ◌≤◌, Bool, true, false, ◌&&◌, if◌then◌else◌, List, [], ◌∷◌, length, get_or, drop, refl, sym, ap, subst, arith, ⊎_elim, Option, Some, None, is_some, option_map, option_and_then}
use Rattle.std.specs.Option.{option_map_or}
use Rattle.std.specs.List.{range_with_len, list_any}
use Rattle.std.proofs.Math.Dec.{ltb}
use Rattle.std.proofs.lemmas.List.{length-map}
use Rattle.std.proofs.lemmas.Bool.{le-leb, lt-ltb, leb-true, ltb-true, false≢true, cases_Bool, cases_eq, or_cases, or_left, or_right, and_from, false_from_ne_true}
use Rattle.zarr_grids_boxes.specs.Boxes.{Region, product, is_in_box, last_index}
use Rattle.zarr_grids_boxes.proofs.Places.{both, length-each2}
use Rattle.zarr_grids_chunks.specs.Grids.{Dimension, Grid, Interval, interval, addressable, chunk_count, onto_box, chunk_box, IsInGrid, IsCovered, AreInGrid}
use Rattle.zarr_grids_dimensions.specs.declared.dimension.Dimension.{Dimension as DeclaredDimension}
use Rattle.zarr_grids_dimensions.specs.Dimensions.{dimension_of, grid_of}
use Rattle.zarr_grids_dimensions.specs.Lookups.{lies_in_interval, is_dimension, are_dimensions, interval_has, in_all}
use Rattle.zarr_grids_dimensions.proofs.AllWalk.{all-step, all-none, all-end}
use Rattle.zarr_grids_dimensions.proofs.Declared.{always_dimensions}
use Rattle.zarr_grids_dimensions.proofs.Intersecting.{lies_in_interval_some}
use Rattle.zarr_grids_dimensions.proofs.Monotone.{monotone, first_place}
use Rattle.zarr_grids_dimensions.proofs.OneChunk.{intervals_apart}
use Rattle.zarr_grids_dimensions.proofs.Union.{in-of, of-in, interval-positive, before, Ends, of-among}
use Rattle.zarr_grids_dimensions.proofs.UnionBox.{box-more}
use Rattle.zarr_grids_cover.proofs.PlacesKept.{last_index-in_box}
use Rattle.zarr_grids_cover.specs.InGrid.{is_number_in_grid, is_place_covered}

-- ---- one number of a range passes a test
any-range : (p : ℕ → Bool) (a n k : ℕ) → a ≤ k → k < a + n → p k ≡ true → list_any p (range_with_len a n) ≡ true
any-range p a zero k f g t = absurd (omega arith)
any-range p a (suc n) k f g t = ⊎_elim
    (λ e. or_left (p a) (list_any p (range_with_len (a + 1) n)) (ap p e ∙ t))
    (λ e. or_right (p a) (list_any p (range_with_len (a + 1) n)) (any-range p (a + 1) n k (omega (arith, e)) (omega arith) t))
    (cases_eq a k)

range-any : (p : ℕ → Bool) (a n : ℕ) → list_any p (range_with_len a n) ≡ true → (k : ℕ) × (a ≤ k) × (k < a + n) × (p k ≡ true)
range-any p a zero t = absurd (false≢true t)
range-any p a (suc n) t = ⊎_elim
    (λ e. (a, omega arith, omega arith, e))
    (λ e. let r = range-any p (a + 1) n e in let f = r.1 in let g = r.2 in (r.0, omega arith, omega arith, r.3))
    (or_cases (p a) (list_any p (range_with_len (a + 1) n)) t)

-- ---- along one dimension: a chunk number
pub record NumberInGrid (d : Dimension) (k : ℕ) : Type 0 where
  pub along : Interval
  pub below : k < chunk_count d
  pub along_is : interval d k ≡ Some along
  pub fit : along.first + along.count < 2 ^ 64

pub number_in_grid : (d : Dimension) (k : ℕ) → is_number_in_grid d k ≡ true → NumberInGrid d k
number_in_grid d k h = let b = both _ _ h in go (interval d k) refl (ltb-true k (chunk_count d) b.0) b.1 where
  last : (i : Interval) (b : Bool) → interval d k ≡ Some i → ltb (i.first + i.count) (2 ^ 64) ≡ b → k < chunk_count d → is_some (let o : Option Interval = if b then Some i else None in o) ≡ true → NumberInGrid d k
  last i false e f l t = absurd (false≢true t)
  last i true e f l t = record { along = i; below = l; along_is = e; fit = ltb-true (i.first + i.count) (2 ^ 64) f }

  go : (o : Option Interval) → interval d k ≡ o → k < chunk_count d → is_some (option_and_then addressable o) ≡ true → NumberInGrid d k
  go None e l t = absurd (false≢true t)
  go (Some i) e l t = last i (ltb (i.first + i.count) (2 ^ 64)) e refl l t

pub below_number : (d : Dimension) (k : ℕ) → NumberInGrid d k → is_number_in_grid d k ≡ true
below_number d k n =
    ap (λ b. b && is_some (option_and_then addressable (interval d k))) (lt-ltb k (chunk_count d) n.below)
    ∙ ap (λ o. is_some (option_and_then addressable o)) n.along_is
    ∙ ap (λ b. is_some (let o : Option Interval = if b then Some n.along else None in o)) (lt-ltb (n.along.first + n.along.count) (2 ^ 64) n.fit)

-- each number before such a one is one
pub before_number : (d : Dimension) (k m : ℕ) → is_dimension d ≡ true → k ≤ m → NumberInGrid d m → NumberInGrid d k
before_number d k m t h n =
    let p = interval-positive d m n.along t n.along_is in
    let q = in-of d m n.along.first n.along n.along_is (omega arith) (omega arith) in
    let f = first_place d k m n.along.first t q h in
    go (interval d k) refl f.0 f.1 where
      go : (o : Option Interval) → interval d k ≡ o → (f : ℕ) → option_map_or (lies_in_interval f) o false ≡ true → NumberInGrid d k
      go None e f u = absurd (false≢true u)
      go (Some i) e f u =
          let c : k + (m - k + 1 - 1) ≡ m = omega arith in
          let ends : Ends d k (m - k + 1) i n.along = record { dimension = t; some = omega arith; first = e; last = ap (λ j. interval d j) c ∙ n.along_is } in
          let p = interval-positive d k i t e in
          let z = in-of d k (i.first + i.count - 1) i e (omega arith) (omega arith) in
          let w = (of-among d k (m - k + 1) (i.first + i.count - 1) k i n.along ends (omega arith) (omega arith) z).1 in
          let b = n.below in
          let l = n.fit in
          record { along = i; below = omega arith; along_is = e; fit = omega arith }

-- ---- along one dimension: a place
pub record PlaceCovered (d : Dimension) (p : ℕ) : Type 0 where
  pub chunk : ℕ
  pub number : NumberInGrid d chunk
  pub lies : interval_has d chunk p ≡ true

pub place_covered : (d : Dimension) (p : ℕ) → is_place_covered d p ≡ true → PlaceCovered d p
place_covered d p t =
    let r = range-any (λ k. is_number_in_grid d k && interval_has d k p) 0 (chunk_count d) t in
    let b = both _ _ r.3 in
    record { chunk = r.0; number = number_in_grid d r.0 b.0; lies = b.1 }

pub covered_place : (d : Dimension) (p : ℕ) → PlaceCovered d p → is_place_covered d p ≡ true
covered_place d p c =
    let b = c.number.below in
    any-range (λ k. is_number_in_grid d k && interval_has d k p) 0 (chunk_count d) c.chunk (omega arith) (omega arith) (and_from _ _ (below_number d c.chunk c.number) c.lies)

-- each place before such a one is one
pub before_place : (d : Dimension) (p q : ℕ) → is_dimension d ≡ true → p ≤ q → PlaceCovered d q → PlaceCovered d p
before_place d p q t h c =
    let k = before d c.chunk p q t c.lies h in
    record { chunk = k.0; number = before_number d k.0 c.chunk t (monotone d k.0 c.chunk p q k.1 c.lies h) c.number; lies = k.1 }

-- what a lookup of the place's chunk tells
pub covered-found : (d : Dimension) (p k : ℕ) → interval_has d k p ≡ true → is_number_in_grid d k ≡ is_place_covered d p
covered-found d p k h = ⊎_elim
    (λ t. t ∙ sym (covered_place d p (record { chunk = k; number = number_in_grid d k t; lies = h })))
    (λ f. f ∙ sym (false_from_ne_true (is_place_covered d p) (λ t. let c = place_covered d p t in
    false≢true (sym f ∙ ap (λ m. is_number_in_grid d m) (intervals_apart d k c.chunk p h c.lies) ∙ below_number d c.chunk c.number))))
    (cases_Bool (is_number_in_grid d k))

pub covered-none : (d : Dimension) (p : ℕ) → ((k : ℕ) → interval_has d k p ≡ true → ⊥) → false ≡ is_place_covered d p
covered-none d p h = sym (false_from_ne_true (is_place_covered d p) (λ t. let c = place_covered d p t in h c.chunk c.lies))

-- ---- one chunk: the test of each dimension says what the definition says
below_more : (d : Dimension) (ds : Grid) (k : ℕ) (ks : List ℕ) (n : NumberInGrid d k) (rest : Region) → IsInGrid ds ks rest → IsInGrid (d ∷ ds) (k ∷ ks) (onto_box n.along rest)
below_more d ds k ks n rest b =
    let l = n.below in
    record {
      below = rw (le-leb 0 k (omega arith), lt-ltb k (0 + chunk_count d) (omega arith), b.below) refl;
      has_box =
          ap (λ o. option_and_then (λ i. option_map (onto_box i) (chunk_box ds ks)) (option_and_then addressable o)) n.along_is
          ∙ ap (λ c. option_and_then (λ i. option_map (onto_box i) (chunk_box ds ks)) (let o : Option Interval = if c then Some n.along else None in o)) (lt-ltb (n.along.first + n.along.count) (2 ^ 64) n.fit)
          ∙ ap (λ o. option_map (onto_box n.along) o) b.has_box;
    }

pub each-IsInGrid : (grid : Grid) (ks : List ℕ) → in_all is_number_in_grid grid ks ≡ true → (box : Region) × IsInGrid grid ks box
each-IsInGrid [] [] h = (record { start = []; shape = [] }, record { below = refl; has_box = refl })
each-IsInGrid [] (k ∷ ks) h = absurd (false≢true h)
each-IsInGrid (d ∷ ds) [] h = absurd (false≢true h)
each-IsInGrid (d ∷ ds) (k ∷ ks) h = let c = both _ _ h in let r = each-IsInGrid ds ks c.1 in let n = number_in_grid d k c.0 in (onto_box n.along r.0, below_more d ds k ks n r.0 r.1)

-- the chunk's number and box in the first dimension, and in the others
pub record BelowMore (d : Dimension) (ds : Grid) (k : ℕ) (ks : List ℕ) (box : Region) : Type 0 where
  pub number : NumberInGrid d k
  pub rest : Region
  pub below : IsInGrid ds ks rest
  pub is : box ≡ onto_box number.along rest

pub below-more : (d : Dimension) (ds : Grid) (k : ℕ) (ks : List ℕ) (box : Region) → IsInGrid (d ∷ ds) (k ∷ ks) box → BelowMore d ds k ks box
below-more d ds k ks box b =
    let m = box-more d ds k ks box b.has_box in
    let c = both _ _ b.below in
    let l : k < 0 + chunk_count d = ltb-true k (0 + chunk_count d) (both _ _ c.0).1 in
    record { number = record { along = m.along; below = omega arith; along_is = m.along_is; fit = m.fit }; rest = m.rest; below = record { below = c.1; has_box = m.rest_is }; is = m.is }

pub IsInGrid-each : (grid : Grid) (ks : List ℕ) (box : Region) → IsInGrid grid ks box → in_all is_number_in_grid grid ks ≡ true
IsInGrid-each [] [] box b = refl
IsInGrid-each [] (k ∷ ks) box b = absurd (false≢true b.below)
IsInGrid-each (d ∷ ds) [] box b = absurd (false≢true b.below)
IsInGrid-each (d ∷ ds) (k ∷ ks) box b =
    let m = below-more d ds k ks box b in
    and_from _ _ (below_number d k m.number) (IsInGrid-each ds ks m.rest m.below)

-- ---- the last index of a box
pub last_index-at : (ss xs : List ℕ) (k : ℕ) → k < length ss → length xs ≡ length ss → get_or ss k 0 + (get_or xs k 0 - 1) ≡ get_or (last_index ss xs) k 0
last_index-at [] xs k h l = absurd (omega arith)
last_index-at (s ∷ ss) [] k h l = absurd (omega arith)
last_index-at (s ∷ ss) (x ∷ xs) zero h l = refl
last_index-at (s ∷ ss) (x ∷ xs) (suc k) h l = last_index-at ss xs k (omega arith) (omega arith)

-- a test that passes for a number and so for all before it passes for each index of a box, if for the last
each-before : (f : Dimension → ℕ → Bool) → ((d : Dimension) (k m : ℕ) → is_dimension d ≡ true → k ≤ m → f d m ≡ true → f d k ≡ true)
    → (grid : Grid) (ss xs ks : List ℕ) → are_dimensions grid ≡ true → in_all f grid (last_index ss xs) ≡ true → is_in_box ss xs ks ≡ true → in_all f grid ks ≡ true
each-before f step [] [] [] [] t h i = refl
each-before f step [] [] [] (k ∷ ks) t h i = absurd (false≢true i)
each-before f step [] [] (x ∷ xs) ks t h i = absurd (false≢true i)
each-before f step [] (s ∷ ss) [] ks t h i = absurd (false≢true i)
each-before f step [] (s ∷ ss) (x ∷ xs) ks t h i = absurd (false≢true h)
each-before f step (d ∷ ds) [] xs ks t h i = absurd (false≢true h)
each-before f step (d ∷ ds) (s ∷ ss) [] ks t h i = absurd (false≢true h)
each-before f step (d ∷ ds) (s ∷ ss) (x ∷ xs) [] t h i = absurd (false≢true i)
each-before f step (d ∷ ds) (s ∷ ss) (x ∷ xs) (k ∷ ks) t h i =
    let u = both _ _ t in
    let c = both _ _ h in
    let b = both _ _ i in
    let before : k < s + x = ltb-true k (s + x) (both _ _ b.0).1 in
    and_from _ _ (step d k (s + (x - 1)) u.0 (omega arith) c.0) (each-before f step ds ss xs ks u.1 c.1 b.1)

-- ---- a box of chunks
pub each-AreInGrid : (grid : Grid) (ss xs : List ℕ) → are_dimensions grid ≡ true → length ss ≡ length grid → in_all is_number_in_grid grid (last_index ss xs) ≡ true → AreInGrid grid (record { start = ss; shape = xs })
each-AreInGrid grid ss xs t l h = record {
  rank = l;
  below = λ ks i. each-IsInGrid grid ks (each-before is_number_in_grid (λ d k m u g n. below_number d k (before_number d k m u g (number_in_grid d m n))) grid ss xs ks t h i);
}

pub AreInGrid-each : (grid : Grid) (ss xs : List ℕ) → length xs ≡ length ss → 0 < product xs → AreInGrid grid (record { start = ss; shape = xs }) → in_all is_number_in_grid grid (last_index ss xs) ≡ true
AreInGrid-each grid ss xs l some a = let b = a.below (last_index ss xs) (last_index-in_box ss xs l some) in IsInGrid-each grid (last_index ss xs) b.0 b.1

pub empty-AreInGrid : (grid : Grid) (ss xs : List ℕ) → length ss ≡ length grid → product xs ≡ 0 → AreInGrid grid (record { start = ss; shape = xs })
empty-AreInGrid grid ss xs l z = record { rank = l; below = λ ks i. let p = lies_in_interval_some ss xs ks i in absurd (omega arith) }

-- ---- a box of places
each-place : (grid : Grid) (ps : List ℕ) → in_all is_place_covered grid ps ≡ true → (chunk : List ℕ) × (box : Region) × IsInGrid grid chunk box × (is_in_box box.start box.shape ps ≡ true)
each-place [] [] h = ([], record { start = []; shape = [] }, record { below = refl; has_box = refl }, refl)
each-place [] (p ∷ ps) h = absurd (false≢true h)
each-place (d ∷ ds) [] h = absurd (false≢true h)
each-place (d ∷ ds) (p ∷ ps) h =
    let c = both _ _ h in
    let a = place_covered d p c.0 in
    let r = each-place ds ps c.1 in
    let i = of-in d a.chunk p a.number.along a.number.along_is a.lies in (
      a.chunk ∷ r.0,
      onto_box a.number.along r.1,
      below_more d ds a.chunk r.0 a.number r.1 r.2,
      rw (le-leb a.number.along.first p i.0, lt-ltb p (a.number.along.first + a.number.along.count) i.1, r.3) refl,
    )

place-each : (grid : Grid) (chunk ps : List ℕ) (box : Region) → IsInGrid grid chunk box → is_in_box box.start box.shape ps ≡ true → in_all is_place_covered grid ps ≡ true
place-each [] [] ps box b h =
    let e : record { start = []; shape = [] } ≡ box = let q = b.has_box in cc in
    none ps (subst (λ (r : Region). is_in_box r.start r.shape ps ≡ true) (sym e) h) where
      none : (ps : List ℕ) → is_in_box [] [] ps ≡ true → in_all is_place_covered [] ps ≡ true
      none [] h = refl
      none (p ∷ ps) h = absurd (false≢true h)
place-each [] (k ∷ ks) ps box b h = absurd (false≢true b.below)
place-each (d ∷ ds) [] ps box b h = absurd (false≢true b.below)
place-each (d ∷ ds) (k ∷ ks) [] box b h =
    let m = below-more d ds k ks box b in
    absurd (false≢true (subst (λ (r : Region). is_in_box r.start r.shape [] ≡ true) m.is h))
place-each (d ∷ ds) (k ∷ ks) (p ∷ ps) box b h =
    let m = below-more d ds k ks box b in
    let along = m.number.along in
    let x = both _ _ (subst (λ (r : Region). is_in_box r.start r.shape (p ∷ ps) ≡ true) m.is h) in
    let y = both _ _ x.0 in
    let i = in-of d k p along m.number.along_is (leb-true along.first p y.0) (ltb-true p (along.first + along.count) y.1) in
    and_from _ _ (covered_place d p (record { chunk = k; number = m.number; lies = i })) (place-each ds ks ps m.rest m.below x.1)

pub each-IsCovered : (grid : Grid) (ss xs : List ℕ) → are_dimensions grid ≡ true → length ss ≡ length grid → in_all is_place_covered grid (last_index ss xs) ≡ true → IsCovered grid (record { start = ss; shape = xs })
each-IsCovered grid ss xs t l h = record {
  rank = l;
  covered = λ ps i. each-place grid ps (each-before is_place_covered (λ d p q u g c. covered_place d p (before_place d p q u g (place_covered d q c))) grid ss xs ps t h i);
}

pub IsCovered-each : (grid : Grid) (ss xs : List ℕ) → length xs ≡ length ss → 0 < product xs → IsCovered grid (record { start = ss; shape = xs }) → in_all is_place_covered grid (last_index ss xs) ≡ true
IsCovered-each grid ss xs l some a = let c = a.covered (last_index ss xs) (last_index-in_box ss xs l some) in place-each grid c.0 (last_index ss xs) c.1 c.2 c.3

pub empty-IsCovered : (grid : Grid) (ss xs : List ℕ) → length ss ≡ length grid → product xs ≡ 0 → IsCovered grid (record { start = ss; shape = xs })
empty-IsCovered grid ss xs l z = record { rank = l; covered = λ ps i. let p = lies_in_interval_some ss xs ps i in absurd (omega arith) }

-- ---- the walk over the last index of a box
last-length : (ds : List DeclaredDimension) (ss xs : List ℕ) → length ss ≡ length ds → length xs ≡ length ss → length (last_index ss xs) ≡ length ds
last-length ds ss xs l m = length-each2 (λ s x. s + (x - 1)) ss xs (sym m) ∙ l

pub last-step : (f : Dimension → ℕ → Bool) (ds : List DeclaredDimension) (ss xs : List ℕ) (i : ℕ) (d : DeclaredDimension) (whole : Bool) → i < length ds → length ss ≡ length ds → length xs ≡ length ss → d ≡ get_or ds i d
    → f (dimension_of d) (get_or ss i 0 + (get_or xs i 0 - 1)) ≡ true
    → whole ≡ in_all f (grid_of (drop i ds)) (drop i (last_index ss xs)) → whole ≡ in_all f (grid_of (drop (i + 1) ds)) (drop (i + 1) (last_index ss xs))
last-step f ds ss xs i d whole h l m e t w =
    let n = last-length ds ss xs l m in
    all-step f ds (last_index ss xs) i (get_or ss i 0 + (get_or xs i 0 - 1)) d whole h (omega arith) e (last_index-at ss xs i (omega arith) m) t w

pub last-none : (f : Dimension → ℕ → Bool) (ds : List DeclaredDimension) (ss xs : List ℕ) (i : ℕ) (d : DeclaredDimension) (whole : Bool) → i < length ds → length ss ≡ length ds → length xs ≡ length ss → d ≡ get_or ds i d
    → f (dimension_of d) (get_or ss i 0 + (get_or xs i 0 - 1)) ≡ false → whole ≡ in_all f (grid_of (drop i ds)) (drop i (last_index ss xs)) → false ≡ whole
last-none f ds ss xs i d whole h l m e t w =
    let n = last-length ds ss xs l m in
    all-none f ds (last_index ss xs) i (get_or ss i 0 + (get_or xs i 0 - 1)) d whole h (omega arith) e (last_index-at ss xs i (omega arith) m) t w

pub last-end : (f : Dimension → ℕ → Bool) (ds : List DeclaredDimension) (ss xs : List ℕ) (i : ℕ) (whole : Bool) → length ds ≤ i → length ss ≡ length ds → length xs ≡ length ss
    → whole ≡ in_all f (grid_of (drop i ds)) (drop i (last_index ss xs)) → true ≡ whole
last-end f ds ss xs i whole h l m w =
    let n = last-length ds ss xs l m in
    all-end f ds (last_index ss xs) i whole h (omega arith) w

-- ---- what the tests of a box that is not empty answer, of its start and shape as slices
pub covered-last : (ds : List DeclaredDimension) (ss xs starts sizes : List ℕ) (r : Bool) → starts ≡ ss → sizes ≡ xs → length ss ≡ length ds → length xs ≡ length ss → (product xs ≡ 0 → ⊥)
    → r ≡ in_all is_place_covered (grid_of ds) (last_index starts sizes)
    → (r ≡ true → IsCovered (grid_of ds) (record { start = ss; shape = xs })) × (IsCovered (grid_of ds) (record { start = ss; shape = xs }) → r ≡ true)
covered-last ds ss xs starts sizes r a b l m some e =
    let f : r ≡ in_all is_place_covered (grid_of ds) (last_index ss xs) = e ∙ ap (λ ns. in_all is_place_covered (grid_of ds) (last_index ns sizes)) a ∙ ap (λ ns. in_all is_place_covered (grid_of ds) (last_index ss ns)) b in
    let p : 0 < product xs = omega (arith, some) in (
      λ t. each-IsCovered (grid_of ds) ss xs (always_dimensions ds) (l ∙ sym (length-map ds dimension_of)) (sym f ∙ t),
      λ i. f ∙ IsCovered-each (grid_of ds) ss xs m p i,
    )

pub below-last : (ds : List DeclaredDimension) (ss xs starts sizes : List ℕ) (r : Bool) → starts ≡ ss → sizes ≡ xs → length ss ≡ length ds → length xs ≡ length ss → (product xs ≡ 0 → ⊥)
    → r ≡ in_all is_number_in_grid (grid_of ds) (last_index starts sizes)
    → (r ≡ true → AreInGrid (grid_of ds) (record { start = ss; shape = xs })) × (AreInGrid (grid_of ds) (record { start = ss; shape = xs }) → r ≡ true)
below-last ds ss xs starts sizes r a b l m some e =
    let f : r ≡ in_all is_number_in_grid (grid_of ds) (last_index ss xs) = e ∙ ap (λ ns. in_all is_number_in_grid (grid_of ds) (last_index ns sizes)) a ∙ ap (λ ns. in_all is_number_in_grid (grid_of ds) (last_index ss ns)) b in
    let p : 0 < product xs = omega (arith, some) in (
      λ t. each-AreInGrid (grid_of ds) ss xs (always_dimensions ds) (l ∙ sym (length-map ds dimension_of)) (sym f ∙ t),
      λ i. f ∙ AreInGrid-each (grid_of ds) ss xs m p i,
    )
