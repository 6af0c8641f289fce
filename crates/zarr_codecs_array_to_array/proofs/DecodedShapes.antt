-- Which shapes array codecs encode to a shape.
use Rattle.std.proofs.Common.{◌≡◌, ◌⊎◌, inl, inr, ℕ, zero, suc, ◌+◌, ◌*◌, ◌/◌, ◌<◌, ◌≤◌, ◌^◌, List, [], ◌∷◌, ◌++◌, length, map, get_or, slice_index, Bool, true, false, ◌&&◌, ◌==◌, not, cond, ap, sym, subst, refl, ◌∙◌, arith, true≢false, length-append, append-nil}
use Rattle.std.specs.Prelude.{nat_lt}
use Rattle.std.specs.List.{list_all, filter, range_with_len}
use Rattle.std.proofs.lemmas.Bool.{and_parts, eq-eqb, ltb-true, lt-ltb}
use Rattle.std.proofs.lemmas.List.{length-map, get_or-map, get_or_append_left}
use Rattle.std.proofs.lemmas.List.Elements.{filter-append}
use Rattle.std.proofs.lemmas.List.FromFn.{length-range_with_len, get_or-map-range_with_len, fill_by_all}
use Rattle.std.proofs.lemmas.Map.Views.{exact_unsigned_eq}
use Rattle.std.proofs.lemmas.Simd.{map-map}
use Rattle.zarr_grids_boxes.specs.Boxes.{product}
use Rattle.zarr_codecs_meaning.specs.Chains.{ArrayCodec, ShapeEntry}
use Rattle.zarr_codecs_meaning.specs.Chains.ArrayCodec.{transpose, reshape, squeeze}
use Rattle.zarr_codecs_meaning.specs.Chains.ShapeEntry.{size_entry, product_entry, left_over}
use Rattle.zarr_codecs_meaning.specs.Fits.{array_codec_fits, entry_fits, is_permutation}
use Rattle.zarr_codecs_meaning.specs.Places.{encoded_shape, entry_size, known_product, position_of, squeezed, untransposed}
use Rattle.zarr_codecs_meaning.proofs.Covers.{IsOrder, is_order, untransposed_back}
use Rattle.zarr_codecs_meaning.proofs.Once.{covering_long}
use Rattle.zarr_codecs_meaning.proofs.Positions.{IsAmong, among_at}
use Rattle.zarr_codecs_traits.specs.Outcomes.{IsEncodedTo, IsDecodedShape}
use Rattle.zarr_codecs_array_to_array.proofs.Routes.{inverse_of, map_below}

-- ---- an order names each dimension once

abbrev IsApart : List ℕ → Type 0
IsApart [] = Unit {0}
IsApart (m ∷ ms) = (IsAmong m ms → ⊥) × IsApart ms

among_both : (n : ℕ) (xs ys : List ℕ) → IsAmong n xs ⊎ IsAmong n ys → IsAmong n (xs ++ ys)
among_both n [] ys (inl h) = elim h [ ]
among_both n [] ys (inr h) = h
among_both n (x ∷ xs) ys (inl (inl e)) = inl e
among_both n (x ∷ xs) ys (inl (inr h)) = inr (among_both n xs ys (inl h))
among_both n (x ∷ xs) ys (inr h) = inr (among_both n xs ys (inr h))

is_among : (n m : ℕ) (ms : List ℕ) → m ≡ n → IsAmong m ms → IsAmong n ms
is_among n m [] e h = elim h [ ]
is_among n m (k ∷ ks) e (inl is) = inl (sym e ∙ is)
is_among n m (k ∷ ks) e (inr is) = inr (is_among n m ks e is)

covering_apart : (seen ns : List ℕ) (count : ℕ) → ((n : ℕ) → n < count → IsAmong n seen ⊎ IsAmong n ns) → length seen + length ns ≤ count → IsApart ns
covering_apart seen [] count covers few = tt
covering_apart seen (m ∷ ms) count covers few = (
  λ again.
      let long = covering_long count (seen ++ ms) (λ n h. among_both n seen ms (elim (covers n h) [
        | inl k ↦ inl k
        | inr k ↦ elim k as (λ _. IsAmong n seen ⊎ IsAmong n ms) [ inl e ↦ inr (is_among n m ms (sym e) again) | inr l ↦ inr l ]
      ])) in
      absurd (omega (arith, long, few, length-append seen ms)),
  covering_apart (m ∷ seen) ms count (λ n h. elim (covers n h) [
    | inl k ↦ inl (inr k)
    | inr k ↦ elim k as (λ _. IsAmong n (m ∷ seen) ⊎ IsAmong n ms) [ inl e ↦ inl (inl e) | inr l ↦ inr l ]
  ]) (omega arith),
)

apart_step : (b : Bool) (n m : ℕ) (ms : List ℕ) (i : ℕ) → (m == n) ≡ b → (IsAmong m ms → ⊥) → get_or ms i 0 ≡ n → i < length ms → position_of n ms ≡ i → cond (not b) (1 + position_of n ms) 0 ≡ suc i
apart_step true n m ms i e once is below rest = absurd (once (among_at ms i m below (is ∙ sym (exact_unsigned_eq m n e))))
apart_step false n m ms i e once is below rest = omega (arith, rest)

apart_position : (ns : List ℕ) (i : ℕ) → IsApart ns → i < length ns → position_of (get_or ns i 0) ns ≡ i
apart_position [] i h below = absurd (omega arith)
apart_position (m ∷ ms) zero h below = ap (λ (b : Bool). cond (not b) (1 + position_of m ms) 0) (eq-eqb m m refl)
apart_position (m ∷ ms) (suc i) h below = apart_step (m == get_or ms i 0) (get_or ms i 0) m ms i refl h.0 refl (omega arith) (apart_position ms i h.1 (omega arith))

order_position : (order : List ℕ) → IsOrder order → (i : ℕ) → i < length order → position_of (get_or order i 0) order ≡ i
order_position order is i h = apart_position order i (covering_apart [] order (length order) (λ d below. inr (is.among d below)) (omega arith)) h

-- ---- `transpose`

length-untransposed : (order shape : List ℕ) → length (untransposed order shape) ≡ length order
length-untransposed order shape = length-map (range_with_len 0 (length order)) (λ d. slice_index shape (position_of d order)) ∙ length-range_with_len 0 (length order)

transposed_back : (order shape : List ℕ) → IsOrder order → length shape ≡ length order → map (slice_index (untransposed order shape)) order ≡ shape
transposed_back order shape is same =
    let n = length order in
    let u = untransposed order shape in
    let read : (i : ℕ) → i < n → get_or (map (slice_index u) order) i 0 ≡ get_or shape i 0 = λ i h.
    let d = get_or order i 0 in
    get_or-map (slice_index u) order i 0 0 h ∙ (get_or-map-range_with_len (λ k. slice_index shape (position_of k order)) 0 n d d 0 (is.low i h) (omega arith) ∙ ap (slice_index shape) (order_position order is i h)) in
    fill_by_all (λ i. get_or shape i 0) (map (slice_index u) order) n 0 (length-map order (slice_index u)) read ∙ sym (fill_by_all (λ i. get_or shape i 0) shape n 0 same (λ k h. refl))

-- the sizes at the places where the dimensions stand in the order are the only shape
pub only_untransposed : (order shape : List ℕ) → array_codec_fits (transpose order) shape ≡ true → IsDecodedShape (transpose order) shape (map (slice_index shape) (inverse_of order))
only_untransposed order shape fit =
    let one = and_parts (length order == length shape) (is_permutation order) fit in
    let same = exact_unsigned_eq (length order) (length shape) one.0 in
    let is = is_order order one.1 in
    let u = untransposed order shape in
    let picked : map (slice_index shape) (inverse_of order) ≡ u = map-map (slice_index shape) (λ d. position_of d order) (range_with_len 0 (length order)) in
    let many : (length order == length u) ≡ true = eq-eqb (length order) (length u) (sym (length-untransposed order shape)) in
    let found : IsDecodedShape (transpose order) shape u = record {
      encodes = (ap (λ (b : Bool). b && is_permutation order) many ∙ one.1, transposed_back order shape is (sym same));
      only = λ other e.
          let two = and_parts (length order == length other) (is_permutation order) e.0 in
          let long = exact_unsigned_eq (length order) (length other) two.0 in
          sym (untransposed_back order other (sym long) is.among) ∙ ap (untransposed order) e.1;
    } in
    subst (IsDecodedShape (transpose order) shape) (sym picked) found

-- ---- codecs that encode a shape and one more dimension of size one alike

-- the shape with one more dimension
abbrev longer : List ℕ → List ℕ
longer shape = shape ++ 1 ∷ []

length-longer : (shape : List ℕ) → length (longer shape) ≡ length shape + 1
length-longer shape = length-append shape (1 ∷ [])

none_only : (codec : ArrayCodec) (shape : List ℕ) → ((decoded : List ℕ) → IsEncodedTo codec decoded shape → IsEncodedTo codec (longer decoded) shape) → (decoded : List ℕ) → IsDecodedShape codec shape decoded → ⊥
none_only codec shape more decoded is =
    let same = ap length (is.only (longer decoded) (more decoded is.encodes)) in
    absurd (omega (arith, same, length-longer decoded))

pub none_squeezed : (shape decoded : List ℕ) → IsDecodedShape squeeze shape decoded → ⊥
none_squeezed shape = none_only squeeze shape (λ decoded e. (refl, same decoded ∙ e.1)) where
  same : (decoded : List ℕ) → squeezed (longer decoded) ≡ squeezed decoded
  same decoded =
      let f : List ℕ → List ℕ = λ sizes. elim sizes as (λ _. List ℕ) [ [] ↦ 1 ∷ [] | size ∷ sizes ↦ size ∷ sizes ] in
      ap f (filter-append (λ size. not (size == 1)) decoded (1 ∷ []) ∙ append-nil (filter (λ size. not (size == 1)) decoded))

product_longer : (shape : List ℕ) → product (longer shape) ≡ product shape
product_longer [] = refl
product_longer (size ∷ shape) = ap (λ k. size * k) (product_longer shape)

-- the dimensions that are named have the same sizes
named_longer : (shape named : List ℕ) → list_all (λ d. nat_lt d (length shape)) named ≡ true → map (slice_index (longer shape)) named ≡ map (slice_index shape) named
named_longer shape named there = map_below (slice_index (longer shape)) (slice_index shape) (length shape) named there (λ d h. get_or_append_left shape (1 ∷ []) 0 d h)

there_longer : (shape named : List ℕ) → list_all (λ d. nat_lt d (length shape)) named ≡ true → list_all (λ d. nat_lt d (length (longer shape))) named ≡ true
there_longer shape [] there = refl
there_longer shape (d ∷ ds) there =
    let both = and_parts (nat_lt d (length shape)) (list_all (λ d. nat_lt d (length shape)) ds) there in
    let low = ltb-true d (length shape) both.0 in
    ap (λ (b : Bool). b && list_all (λ d. nat_lt d (length (longer shape))) ds) (lt-ltb d (length (longer shape)) (omega (arith, low, length-longer shape))) ∙ there_longer shape ds both.1

known_longer : (known : ℕ) (shape : List ℕ) (entries : List ShapeEntry) → list_all (entry_fits known (length shape)) entries ≡ true → known_product entries (longer shape) ≡ known_product entries shape
known_longer known shape [] fit = refl
known_longer known shape (size_entry size ∷ entries) fit = ap (λ k. size * k) (known_longer known shape entries fit)
known_longer known shape (product_entry named ∷ entries) fit =
    let both = and_parts (list_all (λ d. nat_lt d (length shape)) named) (list_all (entry_fits known (length shape)) entries) fit in
    ap (λ sizes. product sizes * known_product entries (longer shape)) (named_longer shape named both.0) ∙ ap (λ k. product (map (slice_index shape) named) * k) (known_longer known shape entries both.1)
known_longer known shape (left_over ∷ entries) fit = known_longer known shape entries (and_parts (nat_lt 0 known) (list_all (entry_fits known (length shape)) entries) fit).1

fits_longer : (known : ℕ) (shape : List ℕ) (entries : List ShapeEntry) → list_all (entry_fits known (length shape)) entries ≡ true → list_all (entry_fits known (length (longer shape))) entries ≡ true
fits_longer known shape [] fit = refl
fits_longer known shape (size_entry size ∷ entries) fit = fits_longer known shape entries fit
fits_longer known shape (product_entry named ∷ entries) fit =
    let both = and_parts (list_all (λ d. nat_lt d (length shape)) named) (list_all (entry_fits known (length shape)) entries) fit in
    ap (λ (b : Bool). b && list_all (entry_fits known (length (longer shape))) entries) (there_longer shape named both.0) ∙ fits_longer known shape entries both.1
fits_longer known shape (left_over ∷ entries) fit =
    let both = and_parts (nat_lt 0 known) (list_all (entry_fits known (length shape)) entries) fit in
    ap (λ (b : Bool). b && list_all (entry_fits known (length (longer shape))) entries) both.0 ∙ fits_longer known shape entries both.1

sizes_longer : (known : ℕ) (shape : List ℕ) (entries : List ShapeEntry) → list_all (entry_fits known (length shape)) entries ≡ true → map (entry_size known (longer shape)) entries ≡ map (entry_size known shape) entries
sizes_longer known shape [] fit = refl
sizes_longer known shape (size_entry size ∷ entries) fit = ap (λ sizes. size ∷ sizes) (sizes_longer known shape entries fit)
sizes_longer known shape (product_entry named ∷ entries) fit =
    let both = and_parts (list_all (λ d. nat_lt d (length shape)) named) (list_all (entry_fits known (length shape)) entries) fit in
    ap (λ sizes. product sizes ∷ map (entry_size known (longer shape)) entries) (named_longer shape named both.0) ∙ ap (λ sizes. product (map (slice_index shape) named) ∷ sizes) (sizes_longer known shape entries both.1)
sizes_longer known shape (left_over ∷ entries) fit =
    let both = and_parts (nat_lt 0 known) (list_all (entry_fits known (length shape)) entries) fit in
    ap (λ k. k / known ∷ map (entry_size known (longer shape)) entries) (product_longer shape) ∙ ap (λ sizes. product shape / known ∷ sizes) (sizes_longer known shape entries both.1)

pub none_reshaped : (entries : List ShapeEntry) (shape decoded : List ℕ) → IsDecodedShape (reshape entries) shape decoded → ⊥
none_reshaped entries shape = none_only (reshape entries) shape (λ decoded e. (fit decoded e.0, same decoded (there decoded e.0) ∙ e.1)) where
  rest : ℕ → List ℕ → Bool
  rest count sizes = (product sizes == count) && (nat_lt count (2 ^ 63) && list_all (λ size. nat_lt size (2 ^ 64)) sizes)

  there : (decoded : List ℕ) → array_codec_fits (reshape entries) decoded ≡ true → list_all (entry_fits (known_product entries decoded) (length decoded)) entries ≡ true
  there decoded h = (and_parts (list_all (entry_fits (known_product entries decoded) (length decoded)) entries) (rest (product decoded) (encoded_shape (reshape entries) decoded)) h).0

  same : (decoded : List ℕ) → list_all (entry_fits (known_product entries decoded) (length decoded)) entries ≡ true → encoded_shape (reshape entries) (longer decoded) ≡ encoded_shape (reshape entries) decoded
  same decoded h = ap (λ k. map (entry_size k (longer decoded)) entries) (known_longer (known_product entries decoded) decoded entries h) ∙ sizes_longer (known_product entries decoded) decoded entries h

  fit : (decoded : List ℕ) → array_codec_fits (reshape entries) decoded ≡ true → array_codec_fits (reshape entries) (longer decoded) ≡ true
  fit decoded h =
      let known = known_product entries decoded in
      let all = there decoded h in
      let first : list_all (entry_fits (known_product entries (longer decoded)) (length (longer decoded))) entries ≡ true = ap (λ k. list_all (entry_fits k (length (longer decoded))) entries) (known_longer known decoded entries all) ∙ fits_longer known decoded entries all in
      let later = (and_parts (list_all (entry_fits known (length decoded)) entries) (rest (product decoded) (encoded_shape (reshape entries) decoded)) h).1 in
      ap (λ (b : Bool). b && rest (product (longer decoded)) (encoded_shape (reshape entries) (longer decoded))) first
      ∙ (ap (λ count. rest count (encoded_shape (reshape entries) (longer decoded))) (product_longer decoded) ∙ (ap (rest (product decoded)) (same decoded all) ∙ later))
