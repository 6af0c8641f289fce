-- The chunks in the grid that have a box are the first ones of each dimension.
use Rattle.std.proofs.Common.{◌≡◌, ◌∙◌, ℕ, zero, suc, ◌+◌, ◌-◌, ◌*◌, ◌/◌, ◌^◌, ◌<◌, ◌≤◌, min, Bool, true, false, cond, ◌&&◌, if◌then◌else◌, List, [], ◌∷◌, ◌++◌, length, map, take, drop, get_or, replicate, refl, sym, ap, subst, arith, append_assoc, append-nil, div-mul-le_self, ⊎_elim, Option, Some, None, is_some, option_map, option_and_then}
use Rattle.std.specs.Prelude.{sum, slice_index}
use Rattle.std.specs.List.{filter, flat_map, range_with_len}
use Rattle.std.proofs.Math.Dec.{ltb}
use Rattle.std.proofs.Math.Nat.{mul-le-mul_right}
use Rattle.std.proofs.lemmas.Bool.{cases_Bool, cases_eq, and_from, lt-ltb, le-ltb, ltb-true, ltb-false, false≢true, false_from_ne_true}
use Rattle.std.proofs.lemmas.List.{drop_all, length-map, length-replicate}
use Rattle.zarr_grids_boxes.specs.Boxes.{Region, EndsFit, places, is_in_box}
use Rattle.zarr_grids_boxes.proofs.Places.{both, range_with_len-append}
use Rattle.zarr_grids_chunks.specs.Grids.{Interval, Dimension, regular, clipped, varying, Grid, interval, addressable, chunk_count, onto_box, chunk_box, grid_shape}
use Rattle.zarr_grids_chunks.proofs.Filters.{filter-append, filter-flat_map, none_kept, all_kept}
use Rattle.zarr_grids_dimensions.specs.declared.dimension.Dimension.{Dimension as DeclaredDimension}
use Rattle.zarr_grids_dimensions.specs.Dimensions.{dimension_of, grid_of}
use Rattle.zarr_grids_dimensions.specs.Lookups.{is_dimension, are_dimensions, interval_has, in_all}
use Rattle.zarr_grids_dimensions.proofs.Declared.{always_dimensions}
use Rattle.zarr_grids_dimensions.proofs.Monotone.{monotone, first_place}
use Rattle.zarr_grids_dimensions.proofs.PlaceWalk.{grid-at}
use Rattle.zarr_grids_dimensions.proofs.Union.{in-of, of-in, interval-positive, before}
use Rattle.zarr_grids_cover.specs.Boxed.{is_addressable, addressable_count, boxed_chunks, AreBoxed}
use Rattle.zarr_grids_cover.specs.InGrid.{is_number_in_grid}
use Rattle.zarr_grids_cover.proofs.ChunksIntersecting.{places_ordered}
use Rattle.zarr_grids_cover.proofs.NumbersInGrid.{NumberInGrid, below_number, before_number, each-IsInGrid}

-- ---- a range of which a test keeps the first numbers
-- a test that a number passes wherever a later one does
record First (p : ℕ → Bool) (a n : ℕ) : Type 0 where
  is : filter p (range_with_len a n) ≡ range_with_len a (length (filter p (range_with_len a n)))
  passes : (k : ℕ) → a ≤ k → k < a + length (filter p (range_with_len a n)) → (p k ≡ true) × (k < a + n)

filter_first : (p : ℕ → Bool) (a n : ℕ) → ((k m : ℕ) → a ≤ k → k ≤ m → m < a + n → p m ≡ true → p k ≡ true) → First p a n
filter_first p a zero h = record { is = refl; passes = λ k f l. absurd (omega arith) }
filter_first p a (suc n) h = go (λ d. filter_first p (a + 1) n d) (p a) refl where
  rest : List ℕ
  rest = filter p (range_with_len (a + 1) n)

  whole : (b : Bool) → p a ≡ b → filter p (range_with_len a (suc n)) ≡ cond b (a ∷ rest) rest
  whole b e = ap (λ c. cond c (a ∷ rest) rest) e

  Descends : Type 0
  Descends = (k m : ℕ) → a + 1 ≤ k → k ≤ m → m < a + 1 + n → p m ≡ true → p k ≡ true

  go : (Descends → First p (a + 1) n) → (b : Bool) → p a ≡ b → First p a (suc n)
  go others true e =
      let w = whole true e in
      let later = others (λ k m f l u t. h k m (omega arith) l (omega arith) t) in
      let many = ap (λ (ns : List ℕ). length ns) w in
      record {
        is = w ∙ ap (λ ns. a ∷ ns) later.is ∙ sym (ap (λ (ns : List ℕ). range_with_len a (length ns)) w);
        passes = λ k f l. ⊎_elim
            (λ s. (ap p (sym s) ∙ e, omega arith))
            (λ s. let r = later.passes k (omega (arith, s)) (omega (arith, many)) in let u = r.1 in (r.0, omega arith))
            (cases_eq a k);
      }
  go others false e =
      let w : filter p (range_with_len a (suc n)) ≡ [] = whole false e ∙ none_kept p (a + 1) n (λ k f u. false_from_ne_true (p k) (λ t. false≢true (sym e ∙ h a k (omega arith) (omega arith) (omega arith) t))) in
      let many = ap (λ (ns : List ℕ). length ns) w in
      record { is = w ∙ sym (ap (λ (ns : List ℕ). range_with_len a (length ns)) w); passes = λ k f l. absurd (omega (arith, many)) }

-- a test that the numbers before n pass, and no other
count_first : (p : ℕ → Bool) (n all : ℕ) → n ≤ all → ((k : ℕ) → k < all → p k ≡ ltb k n) → n ≡ length (filter p (range_with_len 0 all))
count_first p n all h is =
    let total : all ≡ n + (all - n) = omega arith in
    let kept : filter p (range_with_len 0 all) ≡ range_with_len 0 n =
    ap (λ k. filter p (range_with_len 0 k)) total
    ∙ ap (filter p) (range_with_len-append 0 n (all - n))
    ∙ filter-append p (range_with_len 0 n) (range_with_len (0 + n) (all - n))
    ∙ ap (λ ns. ns ++ filter p (range_with_len (0 + n) (all - n))) (all_kept p 0 n (λ k f u. is k (omega arith) ∙ lt-ltb k n (omega arith)))
    ∙ ap (λ ns. range_with_len 0 n ++ ns) (none_kept p (0 + n) (all - n) (λ k f u. is k (omega arith) ∙ le-ltb k n (omega arith)))
    ∙ append-nil (range_with_len 0 n) in
    sym (ap (λ (ns : List ℕ). length ns) kept ∙ length_range 0 n) where
      length_range : (a n : ℕ) → length (range_with_len a n) ≡ n
      length_range a zero = refl
      length_range a (suc n) = ap (λ k. suc k) (length_range (a + 1) n)

-- ---- along one dimension
pub record Addressable (d : Dimension) (k : ℕ) : Type 0 where
  pub along : Interval
  pub along_is : interval d k ≡ Some along
  pub fit : along.first + along.count < 2 ^ 64

some_addressable : (d : Dimension) (k : ℕ) → is_addressable d k ≡ true → Addressable d k
some_addressable d k h = go (interval d k) refl h where
  last : (i : Interval) (b : Bool) → interval d k ≡ Some i → ltb (i.first + i.count) (2 ^ 64) ≡ b → is_some (let o : Option Interval = if b then Some i else None in o) ≡ true → Addressable d k
  last i false e f t = absurd (false≢true t)
  last i true e f t = record { along = i; along_is = e; fit = ltb-true (i.first + i.count) (2 ^ 64) f }

  go : (o : Option Interval) → interval d k ≡ o → is_some (option_and_then addressable o) ≡ true → Addressable d k
  go None e t = absurd (false≢true t)
  go (Some i) e t = last i (ltb (i.first + i.count) (2 ^ 64)) e refl t

addressable_some : (d : Dimension) (k : ℕ) → Addressable d k → is_addressable d k ≡ true
addressable_some d k a =
    ap (λ o. is_some (option_and_then addressable o)) a.along_is
    ∙ ap (λ b. is_some (let o : Option Interval = if b then Some a.along else None in o)) (lt-ltb (a.along.first + a.along.count) (2 ^ 64) a.fit)

number_addressable : (d : Dimension) (k : ℕ) → k < chunk_count d → Addressable d k → NumberInGrid d k
number_addressable d k l a = record { along = a.along; below = l; along_is = a.along_is; fit = a.fit }

addressable_number : (d : Dimension) (k : ℕ) → NumberInGrid d k → Addressable d k
addressable_number d k n = record { along = n.along; along_is = n.along_is; fit = n.fit }

-- each chunk number has an interval
has_interval : (d : Dimension) (k : ℕ) → is_dimension d ≡ true → k < chunk_count d → (i : Interval) × (interval d k ≡ Some i)
has_interval (regular s e) k t h = (record { first = k * e; count = e }, refl)
has_interval (clipped s e) k t h =
    let pos = ltb-true 0 e t in
    let a = div-mul-le_self (s + (e - 1)) e in
    let b = mul-le-mul_right e (let g : k + 1 ≤ (s + (e - 1)) / e = omega arith in g) in
    let c : (k + 1) * e ≡ k * e + e = omega arith in
    let l : k * e < s = omega arith in
    (record { first = k * e; count = min e (s - k * e) }, ap (λ b. if b then Some (record { first = k * e; count = min e (s - k * e) }) else None) (lt-ltb (k * e) s l))
has_interval (varying s es) k t h =
    let i : Interval = record { first = sum (take k es); count = slice_index es k } in
    (i, ap (λ b. if b then Some i else None) (lt-ltb k (length es) h))

-- the chunk that the place 2^64 - 1 lies in, and those after it, are not addressable, and those before it are
pub before_last : (d : Dimension) (c k : ℕ) → is_dimension d ≡ true → interval_has d c (2 ^ 64 - 1) ≡ true → is_addressable d k ≡ ltb k c
before_last d c k t h = go (ltb k c) refl where
  fits : k < c → Addressable d k
  fits l = let f = first_place d k c (2 ^ 64 - 1) t h (omega arith) in found (interval d k) refl f.0 f.1 where
    found : (o : Option Interval) → interval d k ≡ o → (f : ℕ) → interval_has d k f ≡ true → Addressable d k
    found None e f u = absurd (cc)
    found (Some i) e f u =
        let p = interval-positive d k i t e in
        let last = in-of d k (i.first + i.count - 1) i e (omega arith) (omega arith) in
        let order = places_ordered d k c (i.first + i.count - 1) (2 ^ 64 - 1) last h l in
        record { along = i; along_is = e; fit = omega arith }

  passes : c ≤ k → Addressable d k → ⊥
  passes l a =
      let p = interval-positive d k a.along t a.along_is in
      let first = in-of d k a.along.first a.along a.along_is (omega arith) (omega arith) in
      let fit = a.fit in
      let order = monotone d k c a.along.first (2 ^ 64 - 1) first h (omega arith) in
      let same : k ≡ c = omega arith in
      let within = of-in d k (2 ^ 64 - 1) a.along a.along_is (subst (λ (m : ℕ). interval_has d m (2 ^ 64 - 1) ≡ true) (sym same) h) in
      absurd (omega (arith, within.1))

  go : (b : Bool) → ltb k c ≡ b → is_addressable d k ≡ ltb k c
  go true e = addressable_some d k (fits (ltb-true k c e)) ∙ sym e
  go false e = false_from_ne_true (is_addressable d k) (λ u. passes (ltb-false k c e) (some_addressable d k u)) ∙ sym e

-- where it lies in no chunk, all are
pub all_addressable : (d : Dimension) (k : ℕ) → is_dimension d ≡ true → ((c : ℕ) → interval_has d c (2 ^ 64 - 1) ≡ true → ⊥) → k < chunk_count d → is_addressable d k ≡ true
all_addressable d k t h l =
    let i = has_interval d k t l in
    let p = interval-positive d k i.0 t i.1 in
    ⊎_elim
    (λ b. addressable_some d k (record { along = i.0; along_is = i.1; fit = ltb-true (i.0.first + i.0.count) (2 ^ 64) b }))
    (λ b. let past = ltb-false (i.0.first + i.0.count) (2 ^ 64) b in
    let last = in-of d k (i.0.first + i.0.count - 1) i.0 i.1 (omega arith) (omega arith) in
    let other = before d k (2 ^ 64 - 1) (i.0.first + i.0.count - 1) t last (omega arith) in
    absurd (h other.0 other.1))
    (cases_Bool (ltb (i.0.first + i.0.count) (2 ^ 64)))

pub counted_before : (d : Dimension) (c n : ℕ) → is_dimension d ≡ true → interval_has d c (2 ^ 64 - 1) ≡ true → n ≡ min (chunk_count d) c → n ≡ addressable_count d
counted_before d c n t h e = count_first (is_addressable d) n (chunk_count d) (omega arith) (λ k l. before_last d c k t h ∙ same k (ltb k c) refl l) where
  same : (k : ℕ) (b : Bool) → ltb k c ≡ b → k < chunk_count d → ltb k c ≡ ltb k n
  same k true u l = let v = ltb-true k c u in u ∙ sym (lt-ltb k n (omega arith))
  same k false u l = let v = ltb-false k c u in u ∙ sym (le-ltb k n (omega arith))

pub counted_all : (d : Dimension) → is_dimension d ≡ true → ((c : ℕ) → interval_has d c (2 ^ 64 - 1) ≡ true → ⊥) → chunk_count d ≡ addressable_count d
counted_all d t h = count_first (is_addressable d) (chunk_count d) (chunk_count d) (omega arith) (λ k l. all_addressable d k t h l ∙ sym (lt-ltb k (chunk_count d) l))

-- the addressable chunks are the first ones
first_addressable : (d : Dimension) → is_dimension d ≡ true → First (is_addressable d) 0 (chunk_count d)
first_addressable d t = filter_first (is_addressable d) 0 (chunk_count d) (λ k m f l u h.
    addressable_some d k (addressable_number d k (before_number d k m t l (number_addressable d m (omega arith) (some_addressable d m h)))))

below_addressable : (d : Dimension) (k : ℕ) → is_dimension d ≡ true → k < addressable_count d → is_number_in_grid d k ≡ true
below_addressable d k t h =
    let r = (first_addressable d t).passes k (omega arith) (omega arith) in
    let l = r.1 in
    below_number d k (number_addressable d k (omega arith) (some_addressable d k r.0))

-- ---- in all dimensions
some_box : (d : Dimension) (ds : Grid) (k : ℕ) (ks : List ℕ) → is_some (chunk_box (d ∷ ds) (k ∷ ks)) ≡ (is_addressable d k && is_some (chunk_box ds ks))
some_box d ds k ks = go (option_and_then addressable (interval d k)) (chunk_box ds ks) where
  go : (o : Option Interval) (b : Option Region) → is_some (option_and_then (λ i. option_map (onto_box i) b) o) ≡ (is_some o && is_some b)
  go None b = refl
  go (Some i) None = refl
  go (Some i) (Some b) = refl

pub boxed_listed : (grid : Grid) → are_dimensions grid ≡ true → places (replicate (length grid) 0) (map addressable_count grid) ≡ boxed_chunks grid
boxed_listed [] t = refl
boxed_listed (d ∷ ds) t =
    let u = both _ _ t in
    let rest : List (List ℕ) = places (replicate (length ds) 0) (grid_shape ds) in
    sym (
    filter-flat_map (λ chunk. is_some (chunk_box (d ∷ ds) chunk)) (is_addressable d) (λ chunk. is_some (chunk_box ds chunk)) (some_box d ds) (range_with_len 0 (chunk_count d)) rest
    ∙ ap (λ (rs : List (List ℕ)). flat_map (λ k. map (λ r. k ∷ r) rs) (filter (is_addressable d) (range_with_len 0 (chunk_count d)))) (sym (boxed_listed ds u.1))
    ∙ ap (flat_map (λ k. map (λ r. k ∷ r) (places (replicate (length ds) 0) (map addressable_count ds)))) (first_addressable d u.0).is
    )

numbers_below : (grid : Grid) (chunk : List ℕ) → are_dimensions grid ≡ true → is_in_box (replicate (length grid) 0) (map addressable_count grid) chunk ≡ true → in_all is_number_in_grid grid chunk ≡ true
numbers_below [] [] t h = refl
numbers_below [] (k ∷ ks) t h = absurd (false≢true h)
numbers_below (d ∷ ds) [] t h = absurd (false≢true h)
numbers_below (d ∷ ds) (k ∷ ks) t h =
    let u = both _ _ t in
    let v = both _ _ h in
    let l : k < 0 + addressable_count d = ltb-true k (0 + addressable_count d) (both _ _ v.0).1 in
    and_from _ _ (below_addressable d k u.0 (omega arith)) (numbers_below ds ks u.1 v.1)

pub are_boxed : (grid : Grid) → are_dimensions grid ≡ true → AreBoxed grid (record { start = replicate (length grid) 0; shape = map addressable_count grid })
are_boxed grid t = record {
  listed = boxed_listed grid t;
  below = record { rank = length-replicate (length grid) 0; below = λ chunk h. each-IsInGrid grid chunk (numbers_below grid chunk t h) };
}

-- ---- of a grid in code, dimension by dimension
pub counted_more : (ds : List DeclaredDimension) (shape new : List ℕ) (i n : ℕ) (d : DeclaredDimension) → i < length ds → d ≡ get_or ds i d → n ≡ addressable_count (dimension_of d) → new ≡ shape ++ n ∷ []
    → map addressable_count (grid_of ds) ≡ shape ++ map addressable_count (grid_of (drop i ds)) → map addressable_count (grid_of ds) ≡ new ++ map addressable_count (grid_of (drop (i + 1) ds))
counted_more ds shape new i n d l e is more so =
    so ∙ ap (λ (rest : Grid). shape ++ map addressable_count rest) (grid-at ds i d l e)
    ∙ ap (λ m. shape ++ m ∷ map addressable_count (grid_of (drop (i + 1) ds))) (sym is)
    ∙ sym (ap (λ ns. ns ++ map addressable_count (grid_of (drop (i + 1) ds))) more ∙ append_assoc shape (n ∷ []) (map addressable_count (grid_of (drop (i + 1) ds))))

pub counted_end : (ds : List DeclaredDimension) (shape : List ℕ) (i : ℕ) → length ds ≤ i → map addressable_count (grid_of ds) ≡ shape ++ map addressable_count (grid_of (drop i ds)) → shape ≡ map addressable_count (grid_of ds)
counted_end ds shape i l so = sym (so ∙ ap (λ (rest : List DeclaredDimension). shape ++ map addressable_count (grid_of rest)) (drop_all i ds l) ∙ append-nil shape)

pub small_more : (shape new : List ℕ) (n : ℕ) → n < 2 ^ 64 → new ≡ shape ++ n ∷ [] → ((k : ℕ) → k < length shape → slice_index shape k < 2 ^ 64) → (k : ℕ) → k < length new → slice_index new k < 2 ^ 64
small_more shape new n fits more small k l = subst (λ (ns : List ℕ). k < length ns → slice_index ns k < 2 ^ 64) (sym more) (each shape small k) l where
  each : (xs : List ℕ) → ((k : ℕ) → k < length xs → slice_index xs k < 2 ^ 64) → (k : ℕ) → k < length (xs ++ n ∷ []) → slice_index (xs ++ n ∷ []) k < 2 ^ 64
  each [] h zero l = fits
  each [] h (suc k) l = absurd (omega arith)
  each (x ∷ xs) h zero l = h 0 (omega arith)
  each (x ∷ xs) h (suc k) l = each xs (λ j m. h (suc j) (omega arith)) k (omega arith)

-- a box from zeros has these ends
pub zeros_fit : (n : ℕ) (start shape : List ℕ) → start ≡ replicate n 0 → length shape ≡ n → ((k : ℕ) → k < length shape → slice_index shape k < 2 ^ 64) → EndsFit start shape
zeros_fit n start shape is long small k l =
    let many = ap (λ (ns : List ℕ). length ns) is ∙ length-replicate n 0 in
    let first = ap (λ (ns : List ℕ). slice_index ns k) is ∙ zero_at n k in
    let fits = small k (omega arith) in
    omega arith where
      zero_at : (n k : ℕ) → slice_index (replicate n 0) k ≡ 0
      zero_at zero k = refl
      zero_at (suc n) zero = refl
      zero_at (suc n) (suc k) = zero_at n k

pub boxed_of : (ds : List DeclaredDimension) (start shape : List ℕ) → start ≡ replicate (length ds) 0 → shape ≡ map addressable_count (grid_of ds) → AreBoxed (grid_of ds) (record { start = start; shape = shape })
boxed_of ds start shape a b =
    let zeros : start ≡ replicate (length (grid_of ds)) 0 = a ∙ ap (λ (n : ℕ). replicate n 0) (sym (length-map ds dimension_of)) in
    subst (λ (s : List ℕ). AreBoxed (grid_of ds) (record { start = s; shape = shape })) (sym zeros)
    (subst (λ (s : List ℕ). AreBoxed (grid_of ds) (record { start = replicate (length (grid_of ds)) 0; shape = s })) (sym b) (are_boxed (grid_of ds) (always_dimensions ds)))
