-- The largest edge of some chunks of a dimension, and the most places that a chunk of a box has.
use Rattle.std.proofs.Common.{◌≡◌, ◌∙◌, ℕ, zero, suc, ◌+◌, ◌-◌, ◌*◌, ◌^◌, ◌<◌, ◌≤◌, min, max, Bool, true, false, ◌&&◌, ◌⊎◌, if◌then◌else◌, List, [], ◌∷◌, length, get_or, take, drop, map, refl, sym, ap, subst, arith, ⊎_elim, inl, inr, Some, None, option_map, unwrap_or, cond, add-one}
use Rattle.std.specs.Prelude.{sum}
use Rattle.std.specs.List.{range_with_len}
use Rattle.std.proofs.Math.Dec.{leb, ltb}
use Rattle.std.proofs.Math.Nat.{mul-le-mul_right, mul-le-mul, mul_assoc, le-mul_of_pos_right}
use Rattle.std.proofs.Math.ListN.{drop_of_length-le}
use Rattle.std.proofs.lemmas.Bool.{lt-ltb, le-leb, ltb-true, ltb-false, leb-true, false≢true, cases_eq, cases_lt, and_from}
use Rattle.std.proofs.lemmas.List.{length-map, get_or-map, take_all}
use Rattle.zarr_grids_boxes.specs.Boxes.{Region, product, is_in_box, last_index}
use Rattle.zarr_grids_boxes.proofs.Dimensions.{positive-drop, positive-drop_all, product-drop}
use Rattle.zarr_grids_boxes.proofs.Places.{both}
use Rattle.zarr_grids_chunks.specs.Grids.{Dimension, regular, clipped, varying, Grid, Interval, IsInGrid, AreInGrid}
use Rattle.zarr_grids_dimensions.specs.declared.dimension.Dimension.{Dimension as DeclaredDimension}
use Rattle.zarr_grids_dimensions.specs.declared.dimension.Dimension.TheVariants.{Regular, Clipped, Varying}
use Rattle.zarr_grids_dimensions.specs.declared.fixed.FixedEdge.{FixedEdge}
use Rattle.zarr_grids_dimensions.specs.declared.repeat.RepeatedEdge.{RepeatedEdge}
use Rattle.zarr_grids_dimensions.specs.declared.varying.VaryingEdges.{VaryingEdges}
use Rattle.zarr_grids_dimensions.specs.Dimensions.{dimension_of, grid_of}
use Rattle.zarr_grids_dimensions.specs.RepeatedEdges.{expanded, counts}
use Rattle.zarr_grids_dimensions.specs.Lookups.{all_positive, are_dimensions, in_all}
use Rattle.zarr_grids_dimensions.proofs.Expanded.{in_repeat, sum-repeat, length-expanded, positive-at}
use Rattle.zarr_grids_dimensions.proofs.Intersecting.{lies_in_interval_some}
use Rattle.zarr_grids_cover.specs.InGrid.{is_number_in_grid}
use Rattle.zarr_grids_cover.specs.Sizes.{HasChunkOf, largest, edge_of, largest_edge, largest_edges}
use Rattle.zarr_grids_cover.proofs.ChunkBoxes.{chunk_box-some_places}
use Rattle.zarr_grids_cover.proofs.NumbersInGrid.{below-more, last_index-at, AreInGrid-each}

-- ---- the largest of the edges of a range
largest-bound : (f : ℕ → ℕ) (a n m : ℕ) → ((k : ℕ) → a ≤ k → k < a + n → f k ≤ m) → largest (map f (range_with_len a n)) ≤ m
largest-bound f a zero m h = omega arith
largest-bound f a (suc n) m h =
    let x = h a (omega arith) (omega arith) in
    let i = largest-bound f (a + 1) n m (λ k l g. h k (omega arith) (omega arith)) in
    let g : max (f a) (largest (map f (range_with_len (a + 1) n))) ≤ m = omega arith in g

largest-above : (f : ℕ → ℕ) (a n k : ℕ) → a ≤ k → k < a + n → f k ≤ largest (map f (range_with_len a n))
largest-above f a zero k l g = absurd (omega arith)
largest-above f a (suc n) k l g = ⊎_elim
    (λ e. let q = ap f e in let r : f k ≤ max (f a) (largest (map f (range_with_len (a + 1) n))) = omega arith in r)
    (λ e. let i = largest-above f (a + 1) n k (omega (arith, e)) (omega arith) in let r : f k ≤ max (f a) (largest (map f (range_with_len (a + 1) n))) = omega arith in r)
    (cases_eq a k)

-- one of a range that is not empty is the largest
largest-found : (f : ℕ → ℕ) (a n : ℕ) → 0 < n → (k : ℕ) × (a ≤ k) × (k < a + n) × (f k ≡ largest (map f (range_with_len a n)))
largest-found f a zero h = absurd (omega arith)
largest-found f a (suc zero) h = let g : f a ≡ max (f a) 0 = omega arith in (a, omega arith, omega arith, g)
largest-found f a (suc (suc n)) h =
    let i = largest-found f (a + 1) (suc n) (omega arith) in
    let i1 = i.1 in let i2 = i.2 in let i3 = i.3 in
    ⊎_elim
    (λ e. (i.0, omega arith, omega arith, let g : f i.0 ≡ max (f a) (largest (map f (range_with_len (a + 1) (suc n)))) = omega (arith, e) in g))
    (λ e. (a, omega arith, omega arith, let g : f a ≡ max (f a) (largest (map f (range_with_len (a + 1) (suc n)))) = omega (arith, e) in g))
    (cases_lt (f a) (f i.0))

pub largest-is : (d : Dimension) (a n k : ℕ) → a ≤ k → k < a + n → ((m : ℕ) → a ≤ m → m < a + n → edge_of d m ≤ edge_of d k) → edge_of d k ≡ largest_edge d a n
largest-is d a n k l g h =
    let x = largest-bound (edge_of d) a n (edge_of d k) h in
    let y = largest-above (edge_of d) a n k l g in
    omega arith

-- ---- of chunks of one edge the first is the largest
edge-clipped : (s e k : ℕ) → edge_of (clipped s e) k ≡ min e (s - k * e)
edge-clipped s e k = go (ltb (k * e) s) refl where
  go : (b : Bool) → ltb (k * e) s ≡ b → unwrap_or (option_map (λ (i : Interval). i.count) (if b then Some (let i : Interval = record { first = k * e; count = min e (s - k * e) } in i) else None)) 0 ≡ min e (s - k * e)
  go false q = let l = ltb-false (k * e) s q in omega arith
  go true q = refl

pub largest-regular : (s e a n : ℕ) → 0 < n → edge_of (regular s e) a ≡ largest_edge (regular s e) a n
largest-regular s e a n h = largest-is (regular s e) a n a (omega arith) (omega arith) (λ m l g. omega arith)

pub largest-clipped : (s e a n : ℕ) → 0 < n → edge_of (clipped s e) a ≡ largest_edge (clipped s e) a n
largest-clipped s e a n h = largest-is (clipped s e) a n a (omega arith) (omega arith) (λ m l g.
    let x = edge-clipped s e m in
    let y = edge-clipped s e a in
    let z = mul-le-mul_right e l in
    omega arith)

-- ---- chunks with edges of their own
edge-varying : (s : ℕ) (es : List ℕ) (k : ℕ) → k < length es → edge_of (varying s es) k ≡ get_or es k 0
edge-varying s es k h = ap (λ b. unwrap_or (option_map (λ (i : Interval). i.count) (if b then Some (let i : Interval = record { first = sum (take k es); count = get_or es k 0 } in i) else None)) 0) (lt-ltb k (length es) h)

pub largest-varying : (s : ℕ) (es : List ℕ) (a n e : ℕ) → 0 < n → a + (n - 1) < length es → ((k : ℕ) → a ≤ k → k ≤ a + (n - 1) → get_or es k 0 ≤ e)
    → ((k : ℕ) × (a ≤ k) × (k ≤ a + (n - 1)) × (get_or es k 0 ≡ e)) → e ≡ largest_edge (varying s es) a n
largest-varying s es a n e h l bound found =
    let f1 = found.1 in
    let f2 = found.2 in
    let f3 = found.3 in
    let at = edge-varying s es found.0 (omega arith) in
    sym f3 ∙ sym at ∙ largest-is (varying s es) a n found.0 (omega arith) (omega arith) (λ m u v.
    let x = edge-varying s es m (omega arith) in
    let y = bound m u (omega arith) in
    omega arith)

-- ---- the walk over repeats: what is the largest of the chunks before the next repeat
pub record LargestBefore (es : List ℕ) (first last next edge : ℕ) : Type 0 where
  pub bound : (k : ℕ) → first ≤ k → k ≤ last → k < next → get_or es k 0 ≤ edge
  pub found : (edge ≡ 0) ⊎ ((k : ℕ) × (first ≤ k) × (k ≤ last) × (get_or es k 0 ≡ edge))

pub largest-none : (es : List ℕ) (first last : ℕ) → LargestBefore es first last 0 0
largest-none es first last = record { bound = λ k a b c. absurd (omega arith); found = inl refl }

-- the chunks of a repeat have its edge
repeat-edges : (repeats : List RepeatedEdge) (j k : ℕ) (repeat : RepeatedEdge) → j < length repeats → get_or repeats j repeat ≡ repeat → sum (take j (counts repeats)) ≤ k → k < sum (take j (counts repeats)) + repeat.count → get_or (expanded repeats) k 0 ≡ repeat.edge
repeat-edges repeats j k repeat h at from to =
    let i = in_repeat repeats j (k - sum (take j (counts repeats))) repeat h at (omega arith) in
    let e : sum (take j (counts repeats)) + (k - sum (take j (counts repeats))) ≡ k = omega arith in
    ap (λ m. get_or (expanded repeats) m 0) (sym e) ∙ i.edge_is

pub largest-intersecting : (repeats : List RepeatedEdge) (j first last next edge : ℕ) (repeat : RepeatedEdge) → j < length repeats → repeat ≡ get_or repeats j repeat → next ≡ sum (take j (counts repeats)) → 0 < repeat.count → first ≤ last → next ≤ last → first < next + repeat.count
    → LargestBefore (expanded repeats) first last next edge → LargestBefore (expanded repeats) first last (next + repeat.count) (max edge repeat.edge)
largest-intersecting repeats j first last next edge repeat h at is some order from to b = record { bound = bound; found = found } where
  bound : (k : ℕ) → first ≤ k → k ≤ last → k < next + repeat.count → get_or (expanded repeats) k 0 ≤ max edge repeat.edge
  bound k u v w = ⊎_elim
      (λ l. let x = b.bound k u v l in omega arith)
      (λ l. let x = repeat-edges repeats j k repeat h (sym at) (omega (arith, l)) (omega arith) in omega arith)
      (cases_lt k next)

  here : (m : ℕ) → m ≡ max first next → (k : ℕ) × (first ≤ k) × (k ≤ last) × (get_or (expanded repeats) k 0 ≡ repeat.edge)
  here m e = (m, omega arith, omega arith, repeat-edges repeats j m repeat h (sym at) (omega arith) (omega arith))

  old : edge ≡ max edge repeat.edge → repeat.edge ≤ edge → (edge ≡ 0) ⊎ ((k : ℕ) × (first ≤ k) × (k ≤ last) × (get_or (expanded repeats) k 0 ≡ edge))
      → (max edge repeat.edge ≡ 0) ⊎ ((k : ℕ) × (first ≤ k) × (k ≤ last) × (get_or (expanded repeats) k 0 ≡ max edge repeat.edge))
  old e l f = subst (λ n. (n ≡ 0) ⊎ ((k : ℕ) × (first ≤ k) × (k ≤ last) × (get_or (expanded repeats) k 0 ≡ n))) e f

  found : (max edge repeat.edge ≡ 0) ⊎ ((k : ℕ) × (first ≤ k) × (k ≤ last) × (get_or (expanded repeats) k 0 ≡ max edge repeat.edge))
  found = ⊎_elim
      (λ l. let e : repeat.edge ≡ max edge repeat.edge = omega (arith, l) in let i = here (max first next) refl in inr (i.0, i.1, i.2, i.3 ∙ e))
      (λ l. old (omega (arith, l)) l b.found)
      (cases_lt edge repeat.edge)

pub largest-missed : (repeats : List RepeatedEdge) (first last next end edge : ℕ) → (next ≤ last → first < end → ⊥)
    → LargestBefore (expanded repeats) first last next edge → LargestBefore (expanded repeats) first last end edge
largest-missed repeats first last next end edge miss b = record { bound = bound; found = b.found } where
  bound : (k : ℕ) → first ≤ k → k ≤ last → k < end → get_or (expanded repeats) k 0 ≤ edge
  bound k u v w = ⊎_elim
      (λ l. b.bound k u v l)
      (λ l. absurd (miss (omega (arith, l)) (omega arith)))
      (cases_lt k next)

same-at : (repeats : List RepeatedEdge) (j : ℕ) (z y : RepeatedEdge) → j < length repeats → get_or repeats j z ≡ get_or repeats j y
same-at [] j z y h = absurd (omega arith)
same-at (r ∷ rs) zero z y h = refl
same-at (r ∷ rs) (suc j) z y h = same-at rs j z y (omega arith)

count-positive : (repeats : List RepeatedEdge) (j : ℕ) (repeat : RepeatedEdge) → j < length repeats → get_or repeats j repeat ≡ repeat → all_positive (counts repeats) ≡ true → 0 < repeat.count
count-positive repeats j repeat h at t =
    let l = length-map repeats (λ (r : RepeatedEdge). r.count) in
    let j' : j < length (counts repeats) = omega arith in
    let e : get_or (counts repeats) j 0 ≡ repeat.count = get_or-map (λ (r : RepeatedEdge). r.count) repeats j repeat 0 h ∙ ap (λ (r : RepeatedEdge). r.count) at in
    let p = positive-at (counts repeats) j j' t in
    omega arith

-- one repeat more
pub largest-step : (repeats : List RepeatedEdge) (j first last next edge new : ℕ) (z : RepeatedEdge) → j < length repeats → all_positive (counts repeats) ≡ true → next ≡ sum (take j (counts repeats)) → first ≤ last
    → new ≡ max edge (cond (leb next last && ltb first (next + (get_or repeats j z).count)) (get_or repeats j z).edge 0) → LargestBefore (expanded repeats) first last next edge
    → (next + (get_or repeats j z).count ≡ sum (take (j + 1) (counts repeats))) × LargestBefore (expanded repeats) first last (next + (get_or repeats j z).count) new
largest-step repeats j first last next edge new z h t is order e b = (total, go (leb next last && ltb first (next + (get_or repeats j z).count)) refl e) where
  at : get_or repeats j z ≡ get_or repeats j (get_or repeats j z)
  at = same-at repeats j z (get_or repeats j z) h

  total : next + (get_or repeats j z).count ≡ sum (take (j + 1) (counts repeats))
  total =
      let s : sum (take (j + 1) (counts repeats)) ≡ sum (take j (counts repeats)) + (get_or repeats j z).count = rw add-one (sum-repeat (λ (r : RepeatedEdge). r.count) repeats j (get_or repeats j z) h (sym at)) in
      omega arith

  go : (c : Bool) → (leb next last && ltb first (next + (get_or repeats j z).count)) ≡ c → new ≡ max edge (cond c (get_or repeats j z).edge 0) → LargestBefore (expanded repeats) first last (next + (get_or repeats j z).count) new
  go true q n =
      let x = both _ _ q in
      subst (λ m. LargestBefore (expanded repeats) first last (next + (get_or repeats j z).count) m) (sym n)
      (largest-intersecting repeats j first last next edge (get_or repeats j z) h at is (count-positive repeats j (get_or repeats j z) h (sym at) t) order (leb-true next last x.0) (ltb-true first (next + (get_or repeats j z).count) x.1) b)
  go false q n =
      let m : edge ≡ new = omega arith in
      subst (λ m. LargestBefore (expanded repeats) first last (next + (get_or repeats j z).count) m) m
      (largest-missed repeats first last next (next + (get_or repeats j z).count) edge (λ u v. false≢true (sym q ∙ and_from _ _ (le-leb next last u) (lt-ltb first (next + (get_or repeats j z).count) v))) b)

-- after all repeats
pub largest-all : (es : List ℕ) (first last next edge : ℕ) → first ≤ last → last < next → LargestBefore es first last next edge
    → ((k : ℕ) → first ≤ k → k ≤ last → get_or es k 0 ≤ edge) × ((k : ℕ) × (first ≤ k) × (k ≤ last) × (get_or es k 0 ≡ edge))
largest-all es first last next edge order l b = (
  λ k u v. b.bound k u v (omega arith),
  ⊎_elim
      (λ z. let x = b.bound first (omega arith) order (omega arith) in (first, omega arith, order, let g : get_or es first 0 ≡ edge = omega (arith, z) in g))
      (λ f. f)
      b.found,
)

pub largest-end : (repeats : List RepeatedEdge) (j first last next edge : ℕ) → length repeats ≤ j → next ≡ sum (take j (counts repeats)) → first ≤ last → last < length (expanded repeats) → LargestBefore (expanded repeats) first last next edge
    → ((k : ℕ) → first ≤ k → k ≤ last → get_or (expanded repeats) k 0 ≤ edge) × ((k : ℕ) × (first ≤ k) × (k ≤ last) × (get_or (expanded repeats) k 0 ≡ edge))
largest-end repeats j first last next edge h is order below b =
    let l = length-map repeats (λ (r : RepeatedEdge). r.count) in
    let n : length (counts repeats) ≤ j = omega arith in
    let e : sum (take j (counts repeats)) ≡ sum (counts repeats) = ap (λ (ns : List ℕ). sum ns) (take_all j (counts repeats) n) in
    let s = length-expanded repeats in
    largest-all (expanded repeats) first last next edge order (omega arith) b

-- ---- in all dimensions: the most places
-- no chunk of the box has more
most-bound : (grid : Grid) (ss xs ks : List ℕ) (box : Region) → is_in_box ss xs ks ≡ true → IsInGrid grid ks box → product box.shape ≤ product (largest_edges grid ss xs)
most-bound [] ss xs [] box i b = let e : record { start = []; shape = [] } ≡ box = let q = b.has_box in cc in subst (λ (r : Region). product r.shape ≤ 1) e (omega arith)
most-bound [] ss xs (k ∷ ks) box i b = absurd (false≢true b.below)
most-bound (d ∷ ds) ss xs [] box i b = absurd (false≢true b.below)
most-bound (d ∷ ds) [] [] (k ∷ ks) box i b = absurd (false≢true i)
most-bound (d ∷ ds) [] (x ∷ xs) (k ∷ ks) box i b = absurd (false≢true i)
most-bound (d ∷ ds) (s ∷ ss) [] (k ∷ ks) box i b = absurd (false≢true i)
most-bound (d ∷ ds) (s ∷ ss) (x ∷ xs) (k ∷ ks) box i b =
    let m = below-more d ds k ks box b in
    let u = both _ _ i in
    let v = both _ _ u.0 in
    let a = largest-above (edge_of d) s x k (leb-true s k v.0) (ltb-true k (s + x) v.1) in
    let e : edge_of d k ≡ m.number.along.count = ap (λ o. unwrap_or (option_map (λ (j : Interval). j.count) o) 0) m.number.along_is in
    let r = most-bound ds ss xs ks m.rest u.1 m.below in
    let p : m.number.along.count * product m.rest.shape ≤ largest_edge d s x * product (largest_edges ds ss xs) = mul-le-mul (omega arith) r in
    subst (λ (r : Region). product r.shape ≤ product (largest_edges (d ∷ ds) (s ∷ ss) (x ∷ xs))) (sym m.is) p

-- one chunk of the box has as many
record Most (grid : Grid) (ss xs : List ℕ) : Type 0 where
  chunk : List ℕ
  among : is_in_box ss xs chunk ≡ true
  has : (box : Region) → IsInGrid grid chunk box → product box.shape ≡ product (largest_edges grid ss xs)

most-found : (grid : Grid) (ss xs : List ℕ) → length ss ≡ length grid → length xs ≡ length ss → 0 < product xs → Most grid ss xs
most-found [] [] [] l m p = record { chunk = []; among = refl; has = λ box b. let e : record { start = []; shape = [] } ≡ box = let q = b.has_box in cc in sym (ap (λ (r : Region). product r.shape) e) }
most-found [] [] (x ∷ xs) l m p = absurd (omega arith)
most-found [] (s ∷ ss) xs l m p = absurd (omega arith)
most-found (d ∷ ds) [] xs l m p = absurd (omega arith)
most-found (d ∷ ds) (s ∷ ss) [] l m p = absurd (omega arith)
most-found (d ∷ ds) (s ∷ ss) (x ∷ xs) l m p =
    let t = positive-drop (x ∷ xs) 0 (omega arith) p in
    let f = largest-found (edge_of d) s x t.0 in
    let r = most-found ds ss xs (omega arith) (omega arith) t.1 in
    record {
      chunk = f.0 ∷ r.chunk;
      among = rw (le-leb s f.0 f.1, lt-ltb f.0 (s + x) f.2, r.among) refl;
      has = λ box b.
          let g = below-more d ds f.0 r.chunk box b in
          let e : edge_of d f.0 ≡ g.number.along.count = ap (λ o. unwrap_or (option_map (λ (j : Interval). j.count) o) 0) g.number.along_is in
          ap (λ (q : Region). product q.shape) g.is ∙ ap (λ n. n * product g.rest.shape) (sym e ∙ f.3) ∙ ap (λ n. largest_edge d s x * n) (r.has g.rest g.below);
    }

-- some chunk is as large as asked exactly where the largest edges' product is
pub most-HasChunkOf : (grid : Grid) (ss xs : List ℕ) (count : ℕ) → length xs ≡ length ss → 0 < product xs → AreInGrid grid (record { start = ss; shape = xs }) → count ≤ product (largest_edges grid ss xs) → HasChunkOf grid (record { start = ss; shape = xs }) count
most-HasChunkOf grid ss xs count m p a h =
    let f = most-found grid ss xs a.rank m p in
    let b = a.below f.chunk f.among in
    let e = f.has b.0 b.1 in
    (f.chunk, b.0, b.1, f.among, omega arith)

pub HasChunkOf-most : (grid : Grid) (ss xs : List ℕ) (count : ℕ) → HasChunkOf grid (record { start = ss; shape = xs }) count → count ≤ product (largest_edges grid ss xs)
HasChunkOf-most grid ss xs count (chunk, box, b, i, h) = let m = most-bound grid ss xs chunk box i b in omega arith

pub HasChunkOf-some : (grid : Grid) (ss xs : List ℕ) (count : ℕ) → HasChunkOf grid (record { start = ss; shape = xs }) count → 0 < product xs
HasChunkOf-some grid ss xs count (chunk, box, b, i, h) = lies_in_interval_some ss xs chunk i

-- the product is positive
pub most-positive : (grid : Grid) (ss xs : List ℕ) → are_dimensions grid ≡ true → length xs ≡ length ss → 0 < product xs → AreInGrid grid (record { start = ss; shape = xs }) → 0 < product (largest_edges grid ss xs)
most-positive grid ss xs t m p a =
    let f = most-found grid ss xs a.rank m p in
    let b = a.below f.chunk f.among in
    let e = f.has b.0 b.1 in
    let s = chunk_box-some_places grid f.chunk b.0 t b.1.has_box in
    omega arith

-- ---- the walk that multiplies, up to the largest number of 64 bits
largest_edges-length : (grid : Grid) (ss xs : List ℕ) → length ss ≡ length grid → length xs ≡ length ss → length (largest_edges grid ss xs) ≡ length grid
largest_edges-length [] ss xs l m = refl
largest_edges-length (d ∷ ds) [] xs l m = absurd (omega arith)
largest_edges-length (d ∷ ds) (s ∷ ss) [] l m = absurd (omega arith)
largest_edges-length (d ∷ ds) (s ∷ ss) (x ∷ xs) l m = ap (λ n. suc n) (largest_edges-length ds ss xs (omega arith) (omega arith))

largest_edges-at : (ds : List DeclaredDimension) (ss xs : List ℕ) (k : ℕ) (d : DeclaredDimension) → k < length ds → length ss ≡ length ds → length xs ≡ length ss → d ≡ get_or ds k d
    → get_or (largest_edges (grid_of ds) ss xs) k 0 ≡ largest_edge (dimension_of d) (get_or ss k 0) (get_or xs k 0)
largest_edges-at [] ss xs k d h l m e = absurd (omega arith)
largest_edges-at (c ∷ ds) [] xs k d h l m e = absurd (omega arith)
largest_edges-at (c ∷ ds) (s ∷ ss) [] k d h l m e = absurd (omega arith)
largest_edges-at (c ∷ ds) (s ∷ ss) (x ∷ xs) zero d h l m e = ap (λ b. largest_edge (dimension_of b) s x) (sym e)
largest_edges-at (c ∷ ds) (s ∷ ss) (x ∷ xs) (suc k) d h l m e = largest_edges-at ds ss xs k d (omega arith) (omega arith) (omega arith) e

saturated : (top a e r : ℕ) → 0 < r → min (a * (e * r)) top ≡ min (min (a * e) top * r) top
saturated top a e r h = ⊎_elim
    (λ l.
    let x = le-mul_of_pos_right (a * e) h in
    let y = le-mul_of_pos_right top h in
    let z = mul_assoc a e r in
    let q : min (a * e) top ≡ top = omega (arith, l) in
    let w : min (a * (e * r)) top ≡ min (top * r) top = omega (arith, l) in
    w ∙ ap (λ n. min (n * r) top) (sym q))
    (λ l. let z = mul_assoc a e r in let q : min (a * e) top ≡ a * e = omega (arith, l) in ap (λ n. min n top) (sym z) ∙ ap (λ n. min (n * r) top) (sym q))
    (cases_lt top (a * e))

pub most-step : (ds : List DeclaredDimension) (ss xs : List ℕ) (k top whole most edge : ℕ) (d : DeclaredDimension) → k < length ds → length ss ≡ length ds → length xs ≡ length ss → d ≡ get_or ds k d
    → 0 < product (largest_edges (grid_of ds) ss xs) → edge ≡ largest_edge (dimension_of d) (get_or ss k 0) (get_or xs k 0)
    → whole ≡ min (most * product (drop k (largest_edges (grid_of ds) ss xs))) top
    → whole ≡ min (min (most * edge) top * product (drop (k + 1) (largest_edges (grid_of ds) ss xs))) top
most-step ds ss xs k top whole most edge d h l m e p is w =
    let es : List ℕ = largest_edges (grid_of ds) ss xs in
    let n : length (grid_of ds) ≡ length ds = length-map ds dimension_of in
    let len : length es ≡ length (grid_of ds) = largest_edges-length (grid_of ds) ss xs (l ∙ sym n) m in
    let g : k < length es = omega arith in
    let at : get_or es k 0 ≡ edge = largest_edges-at ds ss xs k d h l m e ∙ sym is in
    let q = positive-drop es k g (positive-drop_all es k (omega arith) p) in
    w ∙ ap (λ z. min (most * z) top) (product-drop es k g ∙ ap (λ z. z * product (drop (k + 1) es)) at) ∙ saturated top most edge (product (drop (k + 1) es)) q.1

pub most-end : (ds : List DeclaredDimension) (ss xs : List ℕ) (k top whole most : ℕ) → length ds ≤ k → length ss ≡ length ds → length xs ≡ length ss → most ≤ top
    → whole ≡ min (most * product (drop k (largest_edges (grid_of ds) ss xs))) top → most ≡ whole
most-end ds ss xs k top whole most h l m b w =
    let es : List ℕ = largest_edges (grid_of ds) ss xs in
    let n : length (grid_of ds) ≡ length ds = length-map ds dimension_of in
    let len : length es ≡ length (grid_of ds) = largest_edges-length (grid_of ds) ss xs (l ∙ sym n) m in
    let x : most ≡ min (most * 1) top = omega arith in
    x ∙ ap (λ ns. min (most * product ns) top) (sym (drop_of_length-le es (let g : length es ≤ k = omega arith in g))) ∙ sym w

-- what a test of each dimension says of one
pub all-at : (f : Dimension → ℕ → Bool) (ds : List DeclaredDimension) (ns : List ℕ) (k : ℕ) (d : DeclaredDimension) → k < length ds → d ≡ get_or ds k d → in_all f (grid_of ds) ns ≡ true → f (dimension_of d) (get_or ns k 0) ≡ true
all-at f [] ns k d h e t = absurd (omega arith)
all-at f (c ∷ ds) [] k d h e t = absurd (false≢true t)
all-at f (c ∷ ds) (n ∷ ns) zero d h e t = ap (λ b. f (dimension_of b) n) e ∙ (both _ _ t).0
all-at f (c ∷ ds) (n ∷ ns) (suc k) d h e t = all-at f ds ns k d (omega arith) e (both _ _ t).1

-- the last chunk number of the box, in one dimension
pub last-below : (ds : List DeclaredDimension) (ss xs : List ℕ) (k : ℕ) (d : DeclaredDimension) → k < length ds → length xs ≡ length ss → 0 < product xs → d ≡ get_or ds k d → AreInGrid (grid_of ds) (record { start = ss; shape = xs })
    → is_number_in_grid (dimension_of d) (get_or ss k 0 + (get_or xs k 0 - 1)) ≡ true
last-below ds ss xs k d h m p e a =
    let r : length ss ≡ length ds = a.rank ∙ length-map ds dimension_of in
    ap (λ n. is_number_in_grid (dimension_of d) n) (last_index-at ss xs k (omega arith) m) ∙ all-at is_number_in_grid ds (last_index ss xs) k d h e (AreInGrid-each (grid_of ds) ss xs m p a)

-- ---- what the comparison answers for a box that is not empty, of its start and shape as slices
pub answers-most : (ds : List DeclaredDimension) (ss xs starts sizes : List ℕ) (count most : ℕ) → starts ≡ ss → sizes ≡ xs → length xs ≡ length ss → (product xs ≡ 0 → ⊥) → AreInGrid (grid_of ds) (record { start = ss; shape = xs }) → count < 2 ^ 64
    → most ≡ min (product (largest_edges (grid_of ds) starts sizes)) (2 ^ 64 - 1)
    → (leb count most ≡ true → HasChunkOf (grid_of ds) (record { start = ss; shape = xs }) count) × (HasChunkOf (grid_of ds) (record { start = ss; shape = xs }) count → leb count most ≡ true)
answers-most ds ss xs starts sizes count most a b m some below small is =
    let e : most ≡ min (product (largest_edges (grid_of ds) ss xs)) (2 ^ 64 - 1) =
    is ∙ ap (λ ns. min (product (largest_edges (grid_of ds) ns sizes)) (2 ^ 64 - 1)) a ∙ ap (λ ns. min (product (largest_edges (grid_of ds) ss ns)) (2 ^ 64 - 1)) b in
    let p : 0 < product xs = omega (arith, some) in (
      λ t. let l = leb-true count most t in most-HasChunkOf (grid_of ds) ss xs count m p below (omega arith),
      λ i. let l = HasChunkOf-most (grid_of ds) ss xs count i in le-leb count most (omega arith),
    )

-- ---- what each kind of dimension answers
pub regular-largest : (d : DeclaredDimension) (fixed : FixedEdge) (a n : ℕ) → d ≡ Regular fixed → 0 < n → fixed.edge ≡ largest_edge (dimension_of d) a n
regular-largest d fixed a n is h = subst (λ e. fixed.edge ≡ largest_edge (dimension_of e) a n) (sym is) (largest-regular fixed.size fixed.edge a n h)

pub clipped-largest : (d : DeclaredDimension) (fixed : FixedEdge) (a n edge : ℕ) → d ≡ Clipped fixed → 0 < n → edge ≡ edge_of (dimension_of d) a → edge ≡ largest_edge (dimension_of d) a n
clipped-largest d fixed a n edge is h e = e ∙ subst (λ c. edge_of (dimension_of c) a ≡ largest_edge (dimension_of c) a n) (sym is) (largest-clipped fixed.size fixed.edge a n h)

pub varying-largest : (d : DeclaredDimension) (edges : VaryingEdges) (repeats : List RepeatedEdge) (a n edge : ℕ) → d ≡ Varying edges → repeats ≡ edges.repeats.items → 0 < n → is_number_in_grid (dimension_of d) (a + (n - 1)) ≡ true
    → ((k : ℕ) → a ≤ k → k ≤ a + (n - 1) → get_or (expanded repeats) k 0 ≤ edge) → ((k : ℕ) × (a ≤ k) × (k ≤ a + (n - 1)) × (get_or (expanded repeats) k 0 ≡ edge)) → edge ≡ largest_edge (dimension_of d) a n
varying-largest d edges repeats a n edge is at h t bound found =
    let b : a + (n - 1) < length (expanded edges.repeats.items) = ltb-true (a + (n - 1)) (length (expanded edges.repeats.items)) (both _ _ (subst (λ c. is_number_in_grid (dimension_of c) (a + (n - 1)) ≡ true) is t)).0 in
    let x : (k : ℕ) → a ≤ k → k ≤ a + (n - 1) → get_or (expanded edges.repeats.items) k 0 ≤ edge = subst (λ rs. (k : ℕ) → a ≤ k → k ≤ a + (n - 1) → get_or (expanded rs) k 0 ≤ edge) at bound in
    let y : (k : ℕ) × (a ≤ k) × (k ≤ a + (n - 1)) × (get_or (expanded edges.repeats.items) k 0 ≡ edge) = subst (λ rs. (k : ℕ) × (a ≤ k) × (k ≤ a + (n - 1)) × (get_or (expanded rs) k 0 ≡ edge)) at found in
    subst (λ c. edge ≡ largest_edge (dimension_of c) a n) (sym is) (largest-varying edges.size (expanded edges.repeats.items) a n edge h b x y)

pub varying-few : (edges : VaryingEdges) (repeats : List RepeatedEdge) → repeats ≡ edges.repeats.items → sum (counts repeats) < 2 ^ 64
varying-few edges repeats at = let l = length-expanded edges.repeats.items in let f = edges.few in subst (λ rs. sum (counts rs) < 2 ^ 64) (sym at) (omega arith)
