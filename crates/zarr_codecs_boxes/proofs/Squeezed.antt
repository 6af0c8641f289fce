-- A box put over an array, through a codec that leaves out the dimensions of size one.
use Rattle.std.proofs.Common.{◌≡◌, ℕ, zero, suc, ◌+◌, ◌-◌, ◌*◌, ◌<◌, ◌≤◌, List, [], ◌∷◌, length, map, get_or, slice_index, ap, ◌∙◌, sym, refl, arith, Bool, true, false, not, cond, ◌==◌, ◌&&◌, if◌then◌else◌, inl, inr, subst}
use Rattle.std.specs.List.{filter, range_with_len}
use Rattle.std.proofs.Math.Dec.{leb, ltb}
use Rattle.std.proofs.lemmas.Bool.{cases_Bool, le-leb, lt-ltb}
use Rattle.std.proofs.lemmas.List.{length-map}
use Rattle.std.proofs.lemmas.List.FromFn.{fill_by_all, get_or-map-range_with_len, length-range_with_len}
use Rattle.std.proofs.lemmas.Map.Views.{exact_unsigned_eq}
use Rattle.zarr_grids_boxes.specs.Boxes.{Region, product, is_in_box, place_at, ravel, each2, IsIndex}
use Rattle.zarr_grids_boxes.proofs.Dimensions.{IsIndex-tail, ravel_below, positive-drop}
use Rattle.zarr_grids_boxes.proofs.Places.{in_box_below, IsIndex-cons, IsIndex-nil}
use Rattle.zarr_codecs_meaning.specs.Types.{Cell}
use Rattle.zarr_codecs_meaning.specs.Chains.ArrayCodec.{squeeze}
use Rattle.zarr_codecs_meaning.specs.Places.{gather, squeezed, source_places}
use Rattle.zarr_codecs_meaning.proofs.ArrayCodecs.{length-gather, product-squeezed}
use Rattle.zarr_codecs_meaning.proofs.Covers.{zeros, place_is_index, ravel_place, place_ravel}
use Rattle.zarr_sharding_changes.specs.Regions.{IsInside, whole, cell_after, overlaid}
use Rattle.zarr_sharding_changes.proofs.Overlays.{same_numbers}
use Rattle.zarr_codecs_boxes.specs.Regions.{kept_numbers, squeezed_numbers, squeezed_region}
use Rattle.zarr_codecs_boxes.proofs.Boxes.{same_choice}
use Rattle.zarr_codecs_boxes.proofs.Lying.{some_or_none, zeros_at}

-- ---- one dimension

-- whether a dimension is of size one decides what is kept of it
abbrev kept_step : Bool → ℕ → List ℕ → List ℕ
kept_step b x xs = if b then xs else x ∷ xs

-- what is of size one where the array is
abbrev pub AreNarrow : List ℕ → List ℕ → Type 0
AreNarrow [] [] = Unit {0}
AreNarrow [] (e ∷ es) = ⊥
AreNarrow (n ∷ ns) [] = ⊥
AreNarrow (n ∷ ns) (e ∷ es) = (n ≡ 1 → e ≡ 1) × AreNarrow ns es

pub self_narrow : (ns : List ℕ) → AreNarrow ns ns
self_narrow [] = tt
self_narrow (n ∷ ns) = (λ one. one, self_narrow ns)

kept_product : (ns es : List ℕ) → AreNarrow ns es → product (kept_numbers ns es) ≡ product es
kept_product [] [] h = refl
kept_product [] (e ∷ es) h = elim h [ ]
kept_product (n ∷ ns) [] h = elim h [ ]
kept_product (n ∷ ns) (e ∷ es) h = step (n == 1) refl (kept_product ns es h.1) where
  step : (b : Bool) → (n == 1) ≡ b → product (kept_numbers ns es) ≡ product es → product (kept_step b e (kept_numbers ns es)) ≡ e * product es
  step true is rest =
      let one : e ≡ 1 = h.0 (exact_unsigned_eq n 1 is) in
      rest ∙ (omega arith ∙ ap (λ k. k * product es) (sym one))
  step false is rest = ap (λ k. e * k) rest

kept_index : (ns es is : List ℕ) → AreNarrow ns es → IsIndex is es → IsIndex (kept_numbers ns is) (kept_numbers ns es)
kept_index [] [] is h at_ = IsIndex-nil
kept_index [] (e ∷ es) is h at_ = elim h [ ]
kept_index (n ∷ ns) [] is h at_ = elim h [ ]
kept_index (n ∷ ns) (e ∷ es) [] h at_ = let l = at_.same in absurd (omega arith)
kept_index (n ∷ ns) (e ∷ es) (i ∷ is) h at_ = step (n == 1) (kept_index ns es is h.1 (IsIndex-tail i e is es at_)) where
  step : (b : Bool) → IsIndex (kept_numbers ns is) (kept_numbers ns es) → IsIndex (kept_step b i (kept_numbers ns is)) (kept_step b e (kept_numbers ns es))
  step true rest = rest
  step false rest = IsIndex-cons i e (kept_numbers ns is) (kept_numbers ns es) (at_.below 0 (omega arith)) rest

-- the number of an index stays
kept_ravel : (ns es is : List ℕ) → AreNarrow ns es → IsIndex is es → ravel (kept_numbers ns is) (kept_numbers ns es) ≡ ravel is es
kept_ravel [] [] [] h at_ = refl
kept_ravel [] [] (i ∷ is) h at_ = let l = at_.same in absurd (omega arith)
kept_ravel [] (e ∷ es) is h at_ = elim h [ ]
kept_ravel (n ∷ ns) [] is h at_ = elim h [ ]
kept_ravel (n ∷ ns) (e ∷ es) [] h at_ = let l = at_.same in absurd (omega arith)
kept_ravel (n ∷ ns) (e ∷ es) (i ∷ is) h at_ = step (n == 1) refl (kept_ravel ns es is h.1 (IsIndex-tail i e is es at_)) where
  step : (b : Bool) → (n == 1) ≡ b → ravel (kept_numbers ns is) (kept_numbers ns es) ≡ ravel is es → ravel (kept_step b i (kept_numbers ns is)) (kept_step b e (kept_numbers ns es)) ≡ i * product es + ravel is es
  step true is_ rest =
      let one : e ≡ 1 = h.0 (exact_unsigned_eq n 1 is_) in
      let low : i < e = at_.below 0 (omega arith) in
      let none : i ≡ 0 = omega (arith, low, one) in
      rest ∙ (omega arith ∙ ap (λ k. k * product es + ravel is es) (sym none))
  step false is_ rest = ap (λ k. i * k + ravel (kept_numbers ns is) (kept_numbers ns es)) (kept_product ns es h.1) ∙ ap (λ k. i * product es + k) rest

-- ---- no dimension that is kept

-- another number alone where there is none
abbrev filled : ℕ → List ℕ → List ℕ
filled other xs = elim xs [ [] ↦ other ∷ [] | first ∷ rest ↦ first ∷ rest ]

filled_product : (es : List ℕ) → product (filled 1 es) ≡ product es
filled_product [] = refl
filled_product (e ∷ es) = refl

filled_index : (is es : List ℕ) → IsIndex is es → IsIndex (filled 0 is) (filled 1 es)
filled_index [] [] at_ = IsIndex-cons 0 1 [] [] (omega arith) IsIndex-nil
filled_index [] (e ∷ es) at_ = let l = at_.same in absurd (omega arith)
filled_index (i ∷ is) [] at_ = let l = at_.same in absurd (omega arith)
filled_index (i ∷ is) (e ∷ es) at_ = at_

filled_ravel : (is es : List ℕ) → IsIndex is es → ravel (filled 0 is) (filled 1 es) ≡ ravel is es
filled_ravel [] [] at_ = refl
filled_ravel [] (e ∷ es) at_ = let l = at_.same in absurd (omega arith)
filled_ravel (i ∷ is) [] at_ = let l = at_.same in absurd (omega arith)
filled_ravel (i ∷ is) (e ∷ es) at_ = refl

filled_box : (ss es ps : List ℕ) → length es ≡ length ss → length ps ≡ length ss → is_in_box (filled 0 ss) (filled 1 es) (filled 0 ps) ≡ is_in_box ss es ps
filled_box [] [] [] l m = refl
filled_box [] (e ∷ es) ps l m = absurd (omega arith)
filled_box [] [] (p ∷ ps) l m = absurd (omega arith)
filled_box (s ∷ ss) [] ps l m = absurd (omega arith)
filled_box (s ∷ ss) (e ∷ es) [] l m = absurd (omega arith)
filled_box (s ∷ ss) (e ∷ es) (p ∷ ps) l m = refl

-- ---- the sizes

filter_kept : (ns : List ℕ) → filter (λ size. not (size == 1)) ns ≡ kept_numbers ns ns
filter_kept [] = refl
filter_kept (n ∷ ns) = step (n == 1) (filter_kept ns) where
  step : (b : Bool) → filter (λ size. not (size == 1)) ns ≡ kept_numbers ns ns → cond (not b) (n ∷ filter (λ size. not (size == 1)) ns) (filter (λ size. not (size == 1)) ns) ≡ kept_step b n (kept_numbers ns ns)
  step true rest = rest
  step false rest = ap (λ ms. n ∷ ms) rest

pub squeezed_sizes : (shape : List ℕ) → squeezed shape ≡ squeezed_numbers 1 shape shape
squeezed_sizes shape = ap (filled 1) (filter_kept shape)

length-kept : (ns xs : List ℕ) → length xs ≡ length ns → length (kept_numbers ns xs) ≡ length (kept_numbers ns ns)
length-kept [] xs l = refl
length-kept (n ∷ ns) [] l = absurd (omega arith)
length-kept (n ∷ ns) (x ∷ xs) l = step (n == 1) (length-kept ns xs (omega arith)) where
  step : (b : Bool) → length (kept_numbers ns xs) ≡ length (kept_numbers ns ns) → length (kept_step b x (kept_numbers ns xs)) ≡ length (kept_step b n (kept_numbers ns ns))
  step true rest = rest
  step false rest = ap suc rest

length-filled : (k l : ℕ) (xs ys : List ℕ) → length xs ≡ length ys → length (filled k xs) ≡ length (filled l ys)
length-filled k l [] [] h = refl
length-filled k l [] (y ∷ ys) h = absurd (omega arith)
length-filled k l (x ∷ xs) [] h = absurd (omega arith)
length-filled k l (x ∷ xs) (y ∷ ys) h = h

pub length-squeezed : (other : ℕ) (shape xs : List ℕ) → length xs ≡ length shape → length (squeezed_numbers other shape xs) ≡ length (squeezed shape)
length-squeezed other shape xs l = length-filled other 1 (kept_numbers shape xs) (kept_numbers shape shape) (length-kept shape xs l) ∙ sym (ap (λ (ns : List ℕ). length ns) (squeezed_sizes shape))

-- ---- the places

-- an index, and the number of it
pub squeezed_index : (shape es is : List ℕ) → AreNarrow shape es → IsIndex is es → IsIndex (squeezed_numbers 0 shape is) (squeezed_numbers 1 shape es) × (ravel (squeezed_numbers 0 shape is) (squeezed_numbers 1 shape es) ≡ ravel is es)
squeezed_index shape es is h at_ =
    let kept = kept_index shape es is h at_ in
    (filled_index (kept_numbers shape is) (kept_numbers shape es) kept, filled_ravel (kept_numbers shape is) (kept_numbers shape es) kept ∙ kept_ravel shape es is h at_)

-- the place with a number
pub squeezed_place : (shape : List ℕ) (n : ℕ) → n < product shape → place_at (zeros (squeezed shape)) (squeezed shape) n ≡ squeezed_numbers 0 shape (place_at (zeros shape) shape n)
squeezed_place shape n below =
    let p = place_at (zeros shape) shape n in
    let q = squeezed_numbers 0 shape p in
    let found = squeezed_index shape shape p (self_narrow shape) (place_is_index shape n below) in
    let sizes = sym (squeezed_sizes shape) in
    let number : ravel q (squeezed shape) ≡ n = ap (ravel q) (squeezed_sizes shape) ∙ (found.1 ∙ ravel_place shape n below) in
    ap (place_at (zeros (squeezed shape)) (squeezed shape)) (sym number) ∙ place_ravel (squeezed shape) q (subst (IsIndex q) sizes found.0)

-- ---- the box

inside_tail : (s e n : ℕ) (ss es ns : List ℕ) → IsInside (s ∷ ss) (e ∷ es) (n ∷ ns) → IsInside ss es ns
inside_tail s e n ss es ns h = record { starts = let l = h.starts in omega arith; ends = let l = h.ends in omega arith; below = λ k l. h.below (suc k) (omega arith) }

inside_cons : (s e n : ℕ) (ss es ns : List ℕ) → s + e ≤ n → IsInside ss es ns → IsInside (s ∷ ss) (e ∷ es) (n ∷ ns)
inside_cons s e n ss es ns h rest = record { starts = ap suc rest.starts; ends = ap suc rest.ends; below = step } where
  step : (k : ℕ) → k < length (n ∷ ns) → slice_index (s ∷ ss) k + slice_index (e ∷ es) k ≤ slice_index (n ∷ ns) k
  step zero l = h
  step (suc k) l = rest.below k (omega arith)

inside_nil : IsInside [] [] []
inside_nil = record { starts = refl; ends = refl; below = λ k l. absurd (omega arith) }

kept_inside : (ss es ns : List ℕ) → IsInside ss es ns → IsInside (kept_numbers ns ss) (kept_numbers ns es) (kept_numbers ns ns)
kept_inside ss es [] h = inside_nil
kept_inside [] es (n ∷ ns) h = let l = h.starts in absurd (omega arith)
kept_inside (s ∷ ss) [] (n ∷ ns) h = let l = h.ends in absurd (omega arith)
kept_inside (s ∷ ss) (e ∷ es) (n ∷ ns) h = step (n == 1) (kept_inside ss es ns (inside_tail s e n ss es ns h)) where
  step : (b : Bool) → IsInside (kept_numbers ns ss) (kept_numbers ns es) (kept_numbers ns ns) → IsInside (kept_step b s (kept_numbers ns ss)) (kept_step b e (kept_numbers ns es)) (kept_step b n (kept_numbers ns ns))
  step true rest = rest
  step false rest = inside_cons s e n (kept_numbers ns ss) (kept_numbers ns es) (kept_numbers ns ns) (h.below 0 (omega arith)) rest

filled_inside : (ss es ns : List ℕ) → IsInside ss es ns → IsInside (filled 0 ss) (filled 1 es) (filled 1 ns)
filled_inside [] [] [] h = inside_cons 0 1 1 [] [] [] (omega arith) inside_nil
filled_inside [] (e ∷ es) [] h = let l = h.ends in absurd (omega arith)
filled_inside (s ∷ ss) es [] h = let l = h.starts in absurd (omega arith)
filled_inside [] es (n ∷ ns) h = let l = h.starts in absurd (omega arith)
filled_inside (s ∷ ss) [] (n ∷ ns) h = let l = h.ends in absurd (omega arith)
filled_inside (s ∷ ss) (e ∷ es) (n ∷ ns) h = h

-- a box with a place is of size one where the array is
inside_narrow : (ss es ns : List ℕ) → IsInside ss es ns → 0 < product es → AreNarrow ns es
inside_narrow ss [] [] h some = tt
inside_narrow ss (e ∷ es) [] h some = let l = h.ends in absurd (omega arith)
inside_narrow ss [] (n ∷ ns) h some = let l = h.ends in absurd (omega arith)
inside_narrow [] (e ∷ es) (n ∷ ns) h some = let l = h.starts in absurd (omega arith)
inside_narrow (s ∷ ss) (e ∷ es) (n ∷ ns) h some =
    let both = positive-drop (e ∷ es) 0 (omega arith) some in
    (λ one. let end = h.below 0 (omega arith) in let p = both.0 in omega arith, inside_narrow ss es ns (inside_tail s e n ss es ns h) both.1)

kept_box : (ss es ns ps : List ℕ) → IsInside ss es ns → 0 < product es → IsIndex ps ns → is_in_box (kept_numbers ns ss) (kept_numbers ns es) (kept_numbers ns ps) ≡ is_in_box ss es ps
kept_box [] [] [] [] h some at_ = refl
kept_box ss es [] (p ∷ ps) h some at_ = let l = at_.same in absurd (omega arith)
kept_box ss (e ∷ es) [] [] h some at_ = let l = h.ends in absurd (omega arith)
kept_box (s ∷ ss) [] [] [] h some at_ = let l = h.starts in absurd (omega arith)
kept_box ss es (n ∷ ns) [] h some at_ = let l = at_.same in absurd (omega arith)
kept_box [] es (n ∷ ns) (p ∷ ps) h some at_ = let l = h.starts in absurd (omega arith)
kept_box (s ∷ ss) [] (n ∷ ns) (p ∷ ps) h some at_ = let l = h.ends in absurd (omega arith)
kept_box (s ∷ ss) (e ∷ es) (n ∷ ns) (p ∷ ps) h some at_ =
    let both = positive-drop (e ∷ es) 0 (omega arith) some in
    step (n == 1) refl both.0 (kept_box ss es ns ps (inside_tail s e n ss es ns h) both.1 (IsIndex-tail p n ps ns at_)) where
      step : (b : Bool) → (n == 1) ≡ b → 0 < e → is_in_box (kept_numbers ns ss) (kept_numbers ns es) (kept_numbers ns ps) ≡ is_in_box ss es ps
          → is_in_box (kept_step b s (kept_numbers ns ss)) (kept_step b e (kept_numbers ns es)) (kept_step b p (kept_numbers ns ps)) ≡ (leb s p && ltb p (s + e) && is_in_box ss es ps)
      step true is wide rest =
          let one : n ≡ 1 = exact_unsigned_eq n 1 is in
          let end : s + e ≤ n = h.below 0 (omega arith) in
          let low : p < n = at_.below 0 (omega arith) in
          let a : leb s p ≡ true = le-leb s p (omega arith) in
          let b : ltb p (s + e) ≡ true = lt-ltb p (s + e) (omega arith) in
          rest ∙ sym (rw (a, b) refl)
      step false is wide rest = ap (λ (t : Bool). leb s p && ltb p (s + e) && t) rest

-- what the box is, where it has a place, and where it has none
choice_of : {X : Type 0} (m : ℕ) (x y : X) → 0 < m → (if m == 0 then x else y) ≡ y
choice_of {X} m x y some = step (m == 0) refl where
  step : (b : Bool) → (m == 0) ≡ b → (if b then x else y) ≡ y
  step true is = let none = exact_unsigned_eq m 0 is in absurd (omega arith)
  step false is = refl

squeezed_some : (shape : List ℕ) (region : Region) → 0 < product region.shape → (squeezed_region shape region).shape ≡ squeezed_numbers 1 shape region.shape
squeezed_some shape region some = choice_of (product region.shape) (map (λ size. 0) (squeezed shape)) (squeezed_numbers 1 shape region.shape) some

pub squeezed_none : (shape : List ℕ) (region : Region) → product region.shape ≡ 0 → (squeezed_region shape region).shape ≡ map (λ size. 0) (squeezed shape)
squeezed_none shape region none = ap (λ n. if n == 0 then map (λ size. 0) (squeezed shape) else squeezed_numbers 1 shape region.shape) none

pub product_zeros : (ns : List ℕ) → product (map (λ size. 0) (filled 1 ns)) ≡ 0
product_zeros [] = refl
product_zeros (n ∷ ns) = omega arith

-- the box has as many places
squeezed_places : (shape : List ℕ) (region : Region) → IsInside region.start region.shape shape → product (squeezed_region shape region).shape ≡ product region.shape
squeezed_places shape region within = elim (some_or_none (product region.shape)) as (λ _. product (squeezed_region shape region).shape ≡ product region.shape) [
  | inl some ↦ ap product (squeezed_some shape region some) ∙ (filled_product (kept_numbers shape region.shape) ∙ kept_product shape region.shape (inside_narrow region.start region.shape shape within some))
  | inr none ↦ ap product (squeezed_none shape region none) ∙ (product_zeros (filter (λ size. not (size == 1)) shape) ∙ sym none)
]

-- and lies in the encoded array
pub squeezed_inside : (shape : List ℕ) (region : Region) → IsInside region.start region.shape shape → IsInside (squeezed_region shape region).start (squeezed_region shape region).shape (squeezed shape)
squeezed_inside shape region within = elim (some_or_none (product region.shape)) as (λ _. IsInside start (squeezed_region shape region).shape (squeezed shape)) [
  | inl some ↦ subst (λ lengths. IsInside start lengths (squeezed shape)) (sym (squeezed_some shape region some)) all
  | inr none ↦ subst (λ lengths. IsInside start lengths (squeezed shape)) (sym (squeezed_none shape region none)) (record {
    starts = all.starts;
    ends = length-map (squeezed shape) (λ size. 0);
    below = λ k l. let b = all.below k l in omega (arith, b, zeros_at (squeezed shape) k);
  })
] where
  start : List ℕ
  start = squeezed_numbers 0 shape region.start

  all : IsInside start (squeezed_numbers 1 shape region.shape) (squeezed shape)
  all = subst (IsInside start (squeezed_numbers 1 shape region.shape)) (sym (squeezed_sizes shape)) (filled_inside (kept_numbers shape region.start) (kept_numbers shape region.shape) (kept_numbers shape shape) (kept_inside region.start region.shape shape within))

-- ---- the cells

kept_minus : (ns ps ss : List ℕ) → length ps ≡ length ns → length ss ≡ length ns → each2 (λ p s. p - s) (kept_numbers ns ps) (kept_numbers ns ss) ≡ kept_numbers ns (each2 (λ p s. p - s) ps ss)
kept_minus [] ps ss l m = refl
kept_minus (n ∷ ns) [] ss l m = absurd (omega arith)
kept_minus (n ∷ ns) (p ∷ ps) [] l m = absurd (omega arith)
kept_minus (n ∷ ns) (p ∷ ps) (s ∷ ss) l m = step (n == 1) (kept_minus ns ps ss (omega arith) (omega arith)) where
  step : (b : Bool) → each2 (λ p s. p - s) (kept_numbers ns ps) (kept_numbers ns ss) ≡ kept_numbers ns (each2 (λ p s. p - s) ps ss)
      → each2 (λ p s. p - s) (kept_step b p (kept_numbers ns ps)) (kept_step b s (kept_numbers ns ss)) ≡ kept_step b (p - s) (kept_numbers ns (each2 (λ p s. p - s) ps ss))
  step true rest = rest
  step false rest = ap (λ ms. (p - s) ∷ ms) rest

filled_minus : (ps ss : List ℕ) → length ps ≡ length ss → each2 (λ p s. p - s) (filled 0 ps) (filled 0 ss) ≡ filled 0 (each2 (λ p s. p - s) ps ss)
filled_minus [] [] l = refl
filled_minus [] (s ∷ ss) l = absurd (omega arith)
filled_minus (p ∷ ps) [] l = absurd (omega arith)
filled_minus (p ∷ ps) (s ∷ ss) l = refl

squeezed_minus : (ns ps ss : List ℕ) → length ps ≡ length ns → length ss ≡ length ns → each2 (λ p s. p - s) (squeezed_numbers 0 ns ps) (squeezed_numbers 0 ns ss) ≡ squeezed_numbers 0 ns (each2 (λ p s. p - s) ps ss)
squeezed_minus ns ps ss l m =
    filled_minus (kept_numbers ns ps) (kept_numbers ns ss) (length-kept ns ps l ∙ sym (length-kept ns ss m)) ∙ ap (filled 0) (kept_minus ns ps ss l m)

-- no place lies in a box that has none
pub empty_box : (ss es ps : List ℕ) → product es ≡ 0 → is_in_box ss es ps ≡ false
empty_box ss es ps none = elim (cases_Bool (is_in_box ss es ps)) [
  | inl h ↦ let low = ravel_below (each2 (λ p s. p - s) ps ss) es (in_box_below ss es ps h) in absurd (omega arith)
  | inr h ↦ h
]

-- a place lies in a box where the place that it becomes lies in the box that this becomes
in_box_squeezed : (shape index : List ℕ) (region : Region) → IsInside region.start region.shape shape → IsIndex index shape
    → is_in_box region.start region.shape index ≡ is_in_box (squeezed_region shape region).start (squeezed_region shape region).shape (squeezed_numbers 0 shape index)
in_box_squeezed shape index region within at_ = elim (some_or_none (product region.shape)) as (λ _. is_in_box region.start region.shape index ≡ is_in_box moved.start moved.shape q) [
  | inl some ↦
      sym (ap (λ lengths. is_in_box moved.start lengths q) (squeezed_some shape region some)
      ∙ (filled_box (kept_numbers shape region.start) (kept_numbers shape region.shape) (kept_numbers shape index)
      (length-kept shape region.shape within.ends ∙ sym (length-kept shape region.start within.starts)) (length-kept shape index at_.same ∙ sym (length-kept shape region.start within.starts))
      ∙ kept_box region.start region.shape shape index within some at_))
  | inr none ↦
      empty_box region.start region.shape index none
      ∙ sym (empty_box moved.start moved.shape q (squeezed_places shape region within ∙ none))
] where
  moved : Region
  moved = squeezed_region shape region

  q : List ℕ
  q = squeezed_numbers 0 shape index

-- the cell of a place of the array, and of the place that it becomes
cell_squeezed : (fill old : Cell) (shape index : List ℕ) (region : Region) (new : List Cell) → IsInside region.start region.shape shape → IsIndex index shape
    → cell_after fill region new index old ≡ cell_after fill (squeezed_region shape region) new (squeezed_numbers 0 shape index) old
cell_squeezed fill old shape index region new within at_ =
    let ss = region.start in
    let es = region.shape in
    let i = each2 (λ p s. p - s) index ss in
    let q = squeezed_numbers 0 shape index in
    let moved = squeezed_region shape region in
    same_choice (is_in_box ss es index) (is_in_box moved.start moved.shape q) (get_or new (ravel i es) fill) (get_or new (ravel (each2 (λ p s. p - s) q moved.start) moved.shape) fill) old
    (in_box_squeezed shape index region within at_)
    (λ h.
    let inner = in_box_below ss es index h in
    let some : 0 < product es = let low = ravel_below i es inner in omega arith in
    let number : ravel (each2 (λ p s. p - s) q moved.start) moved.shape ≡ ravel i es =
    ap (λ lengths. ravel (each2 (λ p s. p - s) q moved.start) lengths) (squeezed_some shape region some)
    ∙ (ap (λ (place : List ℕ). ravel place (squeezed_numbers 1 shape es)) (squeezed_minus shape index ss at_.same within.starts)
    ∙ (squeezed_index shape es i (inside_narrow ss es shape within some) inner).1) in
    sym (ap (λ n. get_or new n fill) number))

-- cells in the order of their places
pub in_order : (fill : Cell) (cells : List Cell) (count : ℕ) → length cells ≡ count → gather fill cells (range_with_len 0 count) ≡ cells
in_order fill cells count l = sym (fill_by_all (λ n. get_or cells n fill) cells count fill l (λ k h. refl))

pub overlaid_squeezed : (fill : Cell) (shape : List ℕ) (region : Region) (new cells : List Cell) → IsInside region.start region.shape shape → length new ≡ product region.shape
    → gather fill (overlaid fill (whole shape) region new cells) (source_places squeeze shape)
    ≡ overlaid fill (whole (squeezed shape)) (squeezed_region shape region) (gather fill new (source_places squeeze region.shape)) (gather fill cells (source_places squeeze shape))
overlaid_squeezed fill shape region new cells within count =
    ap (λ k. map (λ n. get_or after n fill) (range_with_len 0 k)) (sym (product-squeezed shape))
    ∙ same_numbers (λ n. get_or after n fill) (λ n. cell_after fill moved own (place_at (zeros (squeezed shape)) (squeezed shape) n) (get_or before n fill)) (product (squeezed shape)) at_ where
      moved : Region
      moved = squeezed_region shape region

      after : List Cell
      after = overlaid fill (whole shape) region new cells

      own : List Cell
      own = gather fill new (source_places squeeze region.shape)

      before : List Cell
      before = gather fill cells (source_places squeeze shape)

      at_ : (n : ℕ) → n < product (squeezed shape) → get_or after n fill ≡ cell_after fill moved own (place_at (zeros (squeezed shape)) (squeezed shape) n) (get_or before n fill)
      at_ n low =
          let below : n < product shape = omega (arith, low, product-squeezed shape) in
          let p = place_at (zeros shape) shape n in
          let old = get_or cells n fill in
          let read : get_or before n fill ≡ old = get_or-map-range_with_len (λ n. get_or cells n fill) 0 (product shape) n n fill below (omega arith) in
          get_or-map-range_with_len (λ n. cell_after fill region new (place_at (zeros shape) shape n) (get_or cells n fill)) 0 (product shape) n n fill below (omega arith)
          ∙ (cell_squeezed fill old shape p region new within (place_is_index shape n below)
          ∙ (ap (λ (given : List Cell). cell_after fill moved given (squeezed_numbers 0 shape p) old) (sym (in_order fill new (product region.shape) count))
          ∙ (ap (λ (place : List ℕ). cell_after fill moved own place old) (sym (squeezed_place shape n below))
          ∙ ap (cell_after fill moved own (place_at (zeros (squeezed shape)) (squeezed shape) n)) (sym read))))

-- the box has as many cells as before
pub squeezed_count : (fill : Cell) (shape : List ℕ) (region : Region) (new : List Cell) → IsInside region.start region.shape shape → length (gather fill new (source_places squeeze region.shape)) ≡ product (squeezed_region shape region).shape
squeezed_count fill shape region new within = length-gather fill new (source_places squeeze region.shape) ∙ (length-range_with_len 0 (product region.shape) ∙ sym (squeezed_places shape region within))
