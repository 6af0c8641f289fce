-- Numbers of which each stands in a list once: cells put back are gathered again.
use Rattle.std.proofs.Common.{◌≡◌, ℕ, zero, suc, ◌+◌, ◌<◌, ◌≤◌, List, [], ◌∷◌, ◌++◌, length, map, get_or, slice_index, ap, ◌∙◌, sym, refl, arith, Bool, true, false, cond, not, ◌==◌, ◌⊎◌, inl, inr, if◌then◌else◌, length-append}
use Rattle.std.specs.List.{range_with_len}
use Rattle.std.proofs.lemmas.Bool.{eq-eqb, and_parts}
use Rattle.std.proofs.lemmas.List.{get_or-map, length-map}
use Rattle.std.proofs.lemmas.List.FromFn.{length-range_with_len, get_or-range_with_len, fill_by_all, get_or-map-range_with_len}
use Rattle.std.proofs.lemmas.Map.Views.{exact_unsigned_eq}
use Rattle.zarr_grids_boxes.specs.Boxes.{product, place_at, ravel, IsIndex}
use Rattle.zarr_grids_boxes.proofs.Dimensions.{ravel_below}
use Rattle.zarr_codecs_meaning.specs.Types.{Cell}
use Rattle.zarr_codecs_meaning.specs.Chains.{ArrayCodec}
use Rattle.zarr_codecs_meaning.specs.Chains.ArrayCodec.{transpose, reshape, squeeze}
use Rattle.zarr_codecs_meaning.specs.Places.{encoded_shape, gather, position_of, places_of, untransposed, source_places, undone_places}
use Rattle.zarr_codecs_meaning.specs.Fits.{array_codec_fits, is_permutation}
use Rattle.zarr_codecs_meaning.proofs.ArrayCodecs.{array_codec_count, length-places_of}
use Rattle.zarr_codecs_meaning.proofs.Positions.{IsAmong, among_at, position_found, position_read}
use Rattle.zarr_codecs_meaning.proofs.Covers.{zeros, place_is_index, ravel_place, place_ravel, places_at, IsOrder, is_order, array_codec_covers}

-- ---- as many numbers as are covered

abbrev without : ℕ → List ℕ → List ℕ
without x [] = []
without x (m ∷ ms) = if m == x then ms else m ∷ without x ms

shorter_step : (b : Bool) (x m : ℕ) (ms : List ℕ) → (m == x) ≡ b → (IsAmong x ms → suc (length (without x ms)) ≡ length ms) → IsAmong x (m ∷ ms) → suc (length (if b then ms else m ∷ without x ms)) ≡ suc (length ms)
shorter_step true x m ms e rest h = refl
shorter_step false x m ms e rest (inl is) = let yes : true ≡ false = sym (eq-eqb m x (sym is)) ∙ e in cc
shorter_step false x m ms e rest (inr is) = ap suc (rest is)

shorter : (x : ℕ) (ns : List ℕ) → IsAmong x ns → suc (length (without x ns)) ≡ length ns
shorter x [] h = elim h [ ]
shorter x (m ∷ ms) h = shorter_step (m == x) x m ms refl (shorter x ms) h

among_step : (b : Bool) (x n m : ℕ) (ms : List ℕ) → (m == x) ≡ b → (IsAmong n ms → (n ≡ x) ⊎ IsAmong n (without x ms)) → IsAmong n (m ∷ ms) → (n ≡ x) ⊎ IsAmong n (if b then ms else m ∷ without x ms)
among_step true x n m ms e rest (inl is) = inl (is ∙ exact_unsigned_eq m x e)
among_step true x n m ms e rest (inr is) = inr is
among_step false x n m ms e rest (inl is) = inr (inl is)
among_step false x n m ms e rest (inr is) = elim (rest is) [ inl k ↦ inl k | inr k ↦ inr (inr k) ]

among_without : (x n : ℕ) (ns : List ℕ) → IsAmong n ns → (n ≡ x) ⊎ IsAmong n (without x ns)
among_without x n [] h = elim h [ ]
among_without x n (m ∷ ms) h = among_step (m == x) x n m ms refl (among_without x n ms) h

-- a list of all numbers below a count is at least as long
pub covering_long : (count : ℕ) (ns : List ℕ) → ((n : ℕ) → n < count → IsAmong n ns) → count ≤ length ns
covering_long zero ns covers = omega arith
covering_long (suc c) ns covers =
    let less = shorter c ns (covers c (omega arith)) in
    let rest : c ≤ length (without c ns) = covering_long c (without c ns) (λ n h. elim (among_without c n ns (covers n (omega arith))) [ inl e ↦ absurd (omega (arith, h, e)) | inr k ↦ k ]) in
    omega (arith, less, rest)

among_both : (n : ℕ) (xs ys : List ℕ) → IsAmong n xs ⊎ IsAmong n ys → IsAmong n (xs ++ ys)
among_both n [] ys (inl h) = elim h [ ]
among_both n [] ys (inr h) = h
among_both n (x ∷ xs) ys (inl (inl e)) = inl e
among_both n (x ∷ xs) ys (inl (inr h)) = inr (among_both n xs ys (inl h))
among_both n (x ∷ xs) ys (inr h) = inr (among_both n xs ys (inr h))

-- no number stands again behind itself
abbrev IsApart : List ℕ → Type 0
IsApart [] = Unit {0}
IsApart (m ∷ ms) = (IsAmong m ms → ⊥) × IsApart ms

covering_apart : (seen ns : List ℕ) (count : ℕ) → ((n : ℕ) → n < count → IsAmong n seen ⊎ IsAmong n ns) → length seen + length ns ≤ count → IsApart ns
covering_apart seen [] count covers few = tt
covering_apart seen (m ∷ ms) count covers few = (
  λ again.
      let long = covering_long count (seen ++ ms) (λ n h. among_both n seen ms (elim (covers n h) [
        | inl k ↦ inl k
        | inr k ↦ elim k as (λ _. IsAmong n seen ⊎ IsAmong n ms) [ inl e ↦ inr (is_among n m ms (sym e) again) | inr l ↦ inr l ]
      ])) in
      absurd (omega (arith, long, few, length-append seen ms)),
  covering_apart (m ∷ seen) ms count (λ n h. elim (covers n h) [
    | inl k ↦ inl (inr k)
    | inr k ↦ elim k as (λ _. IsAmong n (m ∷ seen) ⊎ IsAmong n ms) [ inl e ↦ inl (inl e) | inr l ↦ inr l ]
  ]) (omega arith),
) where
  is_among : (n m : ℕ) (ms : List ℕ) → m ≡ n → IsAmong m ms → IsAmong n ms
  is_among n m [] e h = elim h [ ]
  is_among n m (k ∷ ks) e (inl is) = inl (sym e ∙ is)
  is_among n m (k ∷ ks) e (inr is) = inr (is_among n m ks e is)

apart_step : (b : Bool) (n m : ℕ) (ms : List ℕ) (i : ℕ) → (m == n) ≡ b → (IsAmong m ms → ⊥) → get_or ms i 0 ≡ n → i < length ms → position_of n ms ≡ i → cond (not b) (1 + position_of n ms) 0 ≡ suc i
apart_step true n m ms i e once is below rest = absurd (once (among_at ms i m below (is ∙ sym (exact_unsigned_eq m n e))))
apart_step false n m ms i e once is below rest = omega (arith, rest)

apart_position : (ns : List ℕ) (i : ℕ) → IsApart ns → i < length ns → position_of (get_or ns i 0) ns ≡ i
apart_position [] i h below = absurd (omega arith)
apart_position (m ∷ ms) zero h below = ap (λ (b : Bool). cond (not b) (1 + position_of m ms) 0) (eq-eqb m m refl)
apart_position (m ∷ ms) (suc i) h below = apart_step (m == get_or ms i 0) (get_or ms i 0) m ms i refl h.0 refl (omega arith) (apart_position ms i h.1 (omega arith))

-- ---- where each number stands

-- each number of a list is below a count, and stands once
pub record IsOnce (count : ℕ) (ns : List ℕ) : Type 0 where
  pub below : (i : ℕ) → i < length ns → get_or ns i 0 < count
  pub position : (i : ℕ) → i < length ns → position_of (get_or ns i 0) ns ≡ i

-- a number stands where a function tells
position_told : (told : ℕ → ℕ) (ns : List ℕ) → ((i : ℕ) → i < length ns → told (get_or ns i 0) ≡ i) → (i : ℕ) → i < length ns → position_of (get_or ns i 0) ns ≡ i
position_told told ns law i h =
    let n = get_or ns i 0 in
    let found = position_found n ns (among_at ns i n h refl) in
    sym (law (position_of n ns) found) ∙ (ap told (position_read n 0 ns found) ∙ law i h)

-- cells that were put back to places that differ are gathered again
pub gathered_again : (fill : Cell) (cells : List Cell) (ns : List ℕ) (count : ℕ) → length cells ≡ length ns → IsOnce count ns → gather fill (gather fill cells (map (λ n. position_of n ns) (range_with_len 0 count))) ns ≡ cells
gathered_again fill cells ns count whole once =
    let back = map (λ n. position_of n ns) (range_with_len 0 count) in
    let put = gather fill cells back in
    let f = λ (i : ℕ). get_or cells i fill in
    let read : (i : ℕ) → i < length ns → get_or (gather fill put ns) i fill ≡ f i = λ i h.
    let n = get_or ns i 0 in
    let below = once.below i h in
    let number : get_or back n 0 ≡ i = get_or-map-range_with_len (λ k. position_of k ns) 0 count n n 0 below (omega arith) ∙ once.position i h in
    let long : n < length back = omega (arith, below, length-map (range_with_len 0 count) (λ k. position_of k ns), length-range_with_len 0 count) in
    get_or-map (λ k. get_or put k fill) ns i 0 fill h ∙ (get_or-map (λ k. get_or cells k fill) back n 0 fill long ∙ ap f number) in
    fill_by_all f (gather fill put ns) (length ns) fill (length-map ns (λ k. get_or put k fill)) read ∙ sym (fill_by_all f cells (length ns) fill whole (λ k h. refl))

-- ---- array codecs

-- an order names each dimension once
order_position : (order : List ℕ) → IsOrder order → (i : ℕ) → i < length order → position_of (get_or order i 0) order ≡ i
order_position order is i h = apart_position order i (covering_apart [] order (length order) (λ d below. inr (is.among d below)) (omega arith)) h

untransposed_index : (order q shape : List ℕ) → IsOrder order → length order ≡ length shape → IsIndex q (map (slice_index shape) order) → IsIndex (untransposed order q) shape
untransposed_index order q shape is same h = record {
  same = length-map (range_with_len 0 (length order)) (λ d. slice_index q (position_of d order)) ∙ (length-range_with_len 0 (length order) ∙ same);
  below = λ k l.
      let inside : k < length order = omega (arith, l, same) in
      let j = position_of k order in
      let found : j < length order = position_found k order (is.among k inside) in
      let low : get_or q j 0 < get_or (map (slice_index shape) order) j 0 = h.below j (omega (arith, found, length-map order (slice_index shape))) in
      let size : get_or (map (slice_index shape) order) j 0 ≡ get_or shape k 0 = get_or-map (slice_index shape) order j 0 0 found ∙ ap (slice_index shape) (position_read k 0 order found) in
      let here : get_or (untransposed order q) k 0 ≡ get_or q j 0 = get_or-map-range_with_len (λ d. slice_index q (position_of d order)) 0 (length order) k k 0 inside (omega arith) in
      omega (arith, low, size, here);
}

transposed_back : (order q : List ℕ) → IsOrder order → length q ≡ length order → map (slice_index (untransposed order q)) order ≡ q
transposed_back order q is same =
    let n = length order in
    let u = untransposed order q in
    let read : (i : ℕ) → i < n → get_or (map (slice_index u) order) i 0 ≡ get_or q i 0 = λ i h.
    let d = get_or order i 0 in
    get_or-map (slice_index u) order i 0 0 h ∙ (get_or-map-range_with_len (λ k. slice_index q (position_of k order)) 0 n d d 0 (is.low i h) (omega arith) ∙ ap (slice_index q) (order_position order is i h)) in
    fill_by_all (λ i. get_or q i 0) (map (slice_index u) order) n 0 (length-map order (slice_index u)) read ∙ sym (fill_by_all (λ i. get_or q i 0) q n 0 same (λ k h. refl))

range_once : (count : ℕ) → IsOnce count (range_with_len 0 count)
range_once count =
    let at_ : (i : ℕ) → i < length (range_with_len 0 count) → get_or (range_with_len 0 count) i 0 ≡ i = λ i h. get_or-range_with_len 0 count i 0 (omega (arith, h, length-range_with_len 0 count)) ∙ omega arith in
    record {
      below = λ i h. omega (arith, h, at_ i h, length-range_with_len 0 count);
      position = position_told (λ n. n) (range_with_len 0 count) at_;
    }

-- an array codec takes each cell to one place
pub array_codec_once : (codec : ArrayCodec) (shape : List ℕ) → array_codec_fits codec shape ≡ true → IsOnce (product shape) (source_places codec shape)
array_codec_once (transpose order) shape fit =
    let one = and_parts (length order == length shape) (is_permutation order) fit in
    let same = exact_unsigned_eq (length order) (length shape) one.0 in
    let is = is_order order one.1 in
    let new_shape = map (slice_index shape) order in
    let ns = source_places (transpose order) shape in
    let f = λ (place : List ℕ). ravel (untransposed order place) shape in
    let found : (i : ℕ) → i < length ns → (q : List ℕ) × IsIndex q new_shape × (ravel q new_shape ≡ i) × (get_or ns i 0 ≡ f q) = λ i h.
    let low : i < product new_shape = omega (arith, h, length-map (places_of new_shape) f, length-places_of new_shape) in
    let q = place_at (zeros new_shape) new_shape i in
    let index = place_is_index new_shape i low in
    let number = ravel_place new_shape i low in
    (q, index, number, ap (λ k. get_or ns k 0) (sym number) ∙ (places_at f new_shape q 0 index).1) in
    let told = λ (n : ℕ). ravel (map (slice_index (place_at (zeros shape) shape n)) order) new_shape in
    record {
      below = λ i h. let k = found i h in let b = ravel_below (untransposed order k.0) shape (untransposed_index order k.0 shape is same k.1) in omega (arith, b, k.3);
      position = position_told told ns (λ i h.
          let k = found i h in
          let u = untransposed order k.0 in
          let wide : length k.0 ≡ length order = k.1.same ∙ length-map order (slice_index shape) in
          ap told k.3 ∙ (ap (λ place. ravel (map (slice_index place) order) new_shape) (place_ravel shape u (untransposed_index order k.0 shape is same k.1)) ∙ (ap (λ place. ravel place new_shape) (transposed_back order k.0 is wide) ∙ k.2)));
    }
array_codec_once (reshape entries) shape fit = range_once (product shape)
array_codec_once squeeze shape fit = range_once (product shape)

-- an array codec keeps the number of places
pub product_moved : (codec : ArrayCodec) (shape : List ℕ) → array_codec_fits codec shape ≡ true → product shape ≡ product (encoded_shape codec shape)
product_moved codec shape fit =
    let ns = source_places codec shape in
    let count = product shape in
    let back = undone_places codec shape in
    let once = array_codec_once codec shape fit in
    let many = array_codec_count codec shape fit in
    let long : length back ≡ count = length-map (range_with_len 0 count) (λ n. position_of n ns) ∙ length-range_with_len 0 count in
    let one = covering_long count ns (array_codec_covers codec shape fit) in
    let two = covering_long (length ns) back (λ i h.
    let n = get_or ns i 0 in
    let below = once.below i h in
    among_at back n i (omega (arith, below, long)) (get_or-map-range_with_len (λ k. position_of k ns) 0 count n n 0 below (omega arith) ∙ once.position i h)) in
    omega (arith, one, two, many, long)
