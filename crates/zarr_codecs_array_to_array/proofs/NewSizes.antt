-- The sizes of the shape that `reshape` gives to an array, counted up to a limit.
use Rattle.std.proofs.Common.{◌≡◌, ℕ, zero, suc, ◌+◌, ◌-◌, ◌*◌, ◌/◌, ◌^◌, ◌<◌, ◌≤◌, min, List, [], ◌∷◌, ◌++◌, length, map, take, get_or, slice_index, Bool, true, false, ◌&&◌, ◌==◌, refl, ap, ◌∙◌, sym, arith, inl, inr}
use Rattle.std.specs.Prelude.{nat_lt}
use Rattle.std.specs.List.{list_all}
use Rattle.std.proofs.Math.Nat.{min-eq_left, min-eq_right, mul_comm, mul_assoc, le-mul_of_pos_right, div-eq_of_lt}
use Rattle.std.proofs.lemmas.Bool.{cases_lt, lt-ltb, ltb-true, eq-eqb, ne_eqb, and_parts}
use Rattle.std.proofs.lemmas.List.{take_more, map-append}
use Rattle.zarr_grids_boxes.specs.Boxes.{product}
use Rattle.zarr_codecs_meaning.specs.Chains.{ShapeEntry}
use Rattle.zarr_codecs_meaning.specs.Chains.ArrayCodec.{reshape}
use Rattle.zarr_codecs_meaning.specs.Chains.ShapeEntry.{size_entry, product_entry, left_over}
use Rattle.zarr_codecs_meaning.specs.Fits.{array_codec_fits, entry_fits}
use Rattle.zarr_codecs_meaning.specs.Places.{known_product, entry_size, encoded_shape}
use Rattle.zarr_codecs_array_to_array.specs.Sizes.{capped, size_or, IsSized}

-- ---- products up to a limit

cap_left : (L a b : ℕ) → min (min a L * b) L ≡ min (a * b) L
cap_left L a b = elim (cases_lt a L) [
  | inl less ↦ ap (λ k. min (k * b) L) (min-eq_left (let h : a ≤ L = omega (arith, less) in h))
  | inr more ↦ ap (λ k. min (k * b) L) (min-eq_right more) ∙ large b more
] where
  large : (b : ℕ) → L ≤ a → min (L * b) L ≡ min (a * b) L
  large zero more = ap (λ k. min k L) (let e : L * 0 ≡ a * 0 = omega arith in e)
  large (suc k) more =
      let one = le-mul_of_pos_right L (let h : 0 < suc k = omega arith in h) in
      let two = le-mul_of_pos_right a (let h : 0 < suc k = omega arith in h) in
      min-eq_right one ∙ sym (min-eq_right (let h : L ≤ a * suc k = omega (arith, two, more) in h))

-- one size more is counted
pub counted_size : (p s r total next : ℕ) → next ≡ min (p * s) (2 ^ 128 - 1) → capped (p * (s * r)) ≡ total → capped (next * r) ≡ total
counted_size p s r total next is h = ap (λ k. capped (k * r)) is ∙ (cap_left (2 ^ 128 - 1) (p * s) r ∙ (ap capped (mul_assoc p s r) ∙ h))

pub counted_capped : (p s t r total next : ℕ) → t ≡ capped s → next ≡ min (p * t) (2 ^ 128 - 1) → capped (p * (s * r)) ≡ total → capped (next * r) ≡ total
counted_capped p s t r total next same is h =
    ap (λ k. capped (k * r)) is ∙ (cap_left (2 ^ 128 - 1) (p * t) r ∙ (ap capped (turned p t r) ∙ (ap (λ k. capped (k * (p * r))) same
    ∙ (cap_left (2 ^ 128 - 1) s (p * r) ∙ (ap capped (sym (turned p s r) ∙ mul_assoc p s r) ∙ h))))) where
      turned : (p t r : ℕ) → p * t * r ≡ t * (p * r)
      turned p t r = ap (λ k. k * r) (mul_comm p t) ∙ mul_assoc t p r

-- what is counted when nothing is left
pub counted_all : (p total : ℕ) → p < 2 ^ 128 → capped (p * 1) ≡ total → p ≡ total
counted_all p total small h = (let e : p ≡ capped (p * 1) = omega (arith, small) in e) ∙ h

eq_capped : (n count : ℕ) → count < 2 ^ 63 → (capped n == count) ≡ (n == count)
eq_capped n count small = elim (cases_lt n (2 ^ 128 - 1)) [
  | inl less ↦ ap (λ k. k == count) (min-eq_left (let h : n ≤ 2 ^ 128 - 1 = omega (arith, less) in h))
  | inr more ↦ ap (λ k. k == count) (min-eq_right more) ∙ (ne_eqb (2 ^ 128 - 1) count (λ e. let f : ⊥ = omega (arith, e, small) in f) ∙ sym (ne_eqb n count (λ e. let f : ⊥ = omega (arith, e, small, more) in f)))
]

divided_capped : (count k : ℕ) → count < 2 ^ 63 → count / capped k ≡ count / k
divided_capped count k small = elim (cases_lt k (2 ^ 128 - 1)) [
  | inl less ↦ ap (λ n. count / n) (min-eq_left (let h : k ≤ 2 ^ 128 - 1 = omega (arith, less) in h))
  | inr more ↦ ap (λ n. count / n) (min-eq_right more) ∙ (div-eq_of_lt (let h : count < 2 ^ 128 - 1 = omega (arith, small) in h) ∙ sym (div-eq_of_lt (let h : count < k = omega (arith, small, more) in h)))
]

-- ---- entries

known_is : (entries : List ShapeEntry) (shape : List ℕ) → product (map (size_or 1 shape) entries) ≡ known_product entries shape
known_is [] shape = refl
known_is (size_entry size ∷ entries) shape = ap (λ k. size * k) (known_is entries shape)
known_is (product_entry dimensions ∷ entries) shape = ap (λ k. product (map (slice_index shape) dimensions) * k) (known_is entries shape)
known_is (left_over ∷ entries) shape = (let e : 1 * product (map (size_or 1 shape) entries) ≡ product (map (size_or 1 shape) entries) = omega arith in e) ∙ known_is entries shape

positive_capped : (k : ℕ) → nat_lt 0 (capped k) ≡ nat_lt 0 k
positive_capped zero = refl
positive_capped (suc k) = lt-ltb 0 (capped (suc k)) (let h : 0 < capped (suc k) = omega arith in h) ∙ sym (lt-ltb 0 (suc k) (let h : 0 < suc k = omega arith in h))

fit_capped : (k rank : ℕ) (entries : List ShapeEntry) → list_all (entry_fits (capped k) rank) entries ≡ list_all (entry_fits k rank) entries
fit_capped k rank [] = refl
fit_capped k rank (size_entry size ∷ entries) = fit_capped k rank entries
fit_capped k rank (product_entry dimensions ∷ entries) = ap (λ (b : Bool). list_all (λ d. nat_lt d rank) dimensions && b) (fit_capped k rank entries)
fit_capped k rank (left_over ∷ entries) = ap (λ (b : Bool). b && list_all (entry_fits (capped k) rank) entries) (positive_capped k) ∙ ap (λ (b : Bool). nat_lt 0 k && b) (fit_capped k rank entries)

sizes_are : (k : ℕ) (shape : List ℕ) (entries : List ShapeEntry) → map (size_or (product shape / k) shape) entries ≡ map (entry_size k shape) entries
sizes_are k shape [] = refl
sizes_are k shape (size_entry size ∷ entries) = ap (λ ns. size ∷ ns) (sizes_are k shape entries)
sizes_are k shape (product_entry dimensions ∷ entries) = ap (λ ns. product (map (slice_index shape) dimensions) ∷ ns) (sizes_are k shape entries)
sizes_are k shape (left_over ∷ entries) = ap (λ ns. product shape / k ∷ ns) (sizes_are k shape entries)

-- ---- whether `reshape` suits a shape

-- what is counted of the product that is known
abbrev pub IsKnown : List ShapeEntry → List ℕ → ℕ → Type 0
IsKnown entries shape known = known ≡ capped (product (map (size_or 1 shape) entries))

known_capped : (entries : List ShapeEntry) (shape : List ℕ) (known : ℕ) → IsKnown entries shape known → known ≡ capped (known_product entries shape)
known_capped entries shape known is = is ∙ ap capped (known_is entries shape)

entries_fit : (entries : List ShapeEntry) (shape : List ℕ) (known : ℕ) → IsKnown entries shape known → list_all (entry_fits known (length shape)) entries ≡ list_all (entry_fits (known_product entries shape) (length shape)) entries
entries_fit entries shape known is = ap (λ k. list_all (entry_fits k (length shape)) entries) (known_capped entries shape known is) ∙ fit_capped (known_product entries shape) (length shape) entries

-- what `array_codec_fits` asks of `reshape`, where one that is left over has this size
abbrev asks : List ShapeEntry → List ℕ → Bool → ℕ → Bool
asks entries shape there left =
    there && ((product (map (size_or left shape) entries) == product shape) && (nat_lt (product shape) (2 ^ 63) && list_all (λ size. nat_lt size (2 ^ 64)) (map (size_or left shape) entries)))

left_is : (entries : List ShapeEntry) (shape : List ℕ) (known count left : ℕ) → IsKnown entries shape known → product shape < 2 ^ 63 → count ≡ product shape → left ≡ count / known → left ≡ product shape / known_product entries shape
left_is entries shape known count left is small same divided =
    divided ∙ (ap (λ n. n / known) same ∙ (ap (λ k. product shape / k) (known_capped entries shape known is) ∙ divided_capped (product shape) (known_product entries shape) small))

encoded_is : (entries : List ShapeEntry) (shape : List ℕ) (left : ℕ) → left ≡ product shape / known_product entries shape → map (size_or left shape) entries ≡ encoded_shape (reshape entries) shape
encoded_is entries shape left is = ap (λ k. map (size_or k shape) entries) is ∙ sizes_are (known_product entries shape) shape entries

asked_is : (entries : List ShapeEntry) (shape : List ℕ) (known count left : ℕ) → IsKnown entries shape known → product shape < 2 ^ 63 → count ≡ product shape → left ≡ count / known
    → array_codec_fits (reshape entries) shape ≡ asks entries shape (list_all (entry_fits known (length shape)) entries) left
asked_is entries shape known count left is small same divided =
    let all = λ (there : Bool) (sizes : List ℕ). there && ((product sizes == product shape) && (nat_lt (product shape) (2 ^ 63) && list_all (λ size. nat_lt size (2 ^ 64)) sizes)) in
    ap (λ (b : Bool). all b (encoded_shape (reshape entries) shape)) (sym (entries_fit entries shape known is))
    ∙ ap (all (list_all (entry_fits known (length shape)) entries)) (sym (encoded_is entries shape left (left_is entries shape known count left is small same divided)))

-- an array has too many elements
pub too_many : (entries : List ShapeEntry) (shape : List ℕ) → (product shape < 2 ^ 63 → ⊥) → array_codec_fits (reshape entries) shape ≡ false
too_many entries shape many =
    never (list_all (entry_fits (known_product entries shape) (length shape)) entries) (product (encoded_shape (reshape entries) shape) == product shape) (nat_lt (product shape) (2 ^ 63)) (list_all (λ size. nat_lt size (2 ^ 64)) (encoded_shape (reshape entries) shape)) (λ e. many (ltb-true (product shape) (2 ^ 63) e)) where
      never : (a b c d : Bool) → (c ≡ true → ⊥) → (a && (b && (c && d))) ≡ false
      never true true true d h = absurd (h refl)
      never true true false d h = refl
      never true false c d h = refl
      never false b c d h = refl

-- a dimension that is named is not there, or what is left over comes from no division
pub not_there : (entries : List ShapeEntry) (shape : List ℕ) (known : ℕ) → IsKnown entries shape known → list_all (entry_fits known (length shape)) entries ≡ false → array_codec_fits (reshape entries) shape ≡ false
not_there entries shape known is none =
    ap (λ (b : Bool). b && ((product (encoded_shape (reshape entries) shape) == product shape) && (nat_lt (product shape) (2 ^ 63) && list_all (λ size. nat_lt size (2 ^ 64)) (encoded_shape (reshape entries) shape)))) (sym (entries_fit entries shape known is) ∙ none)

equal_capped : (entries : List ShapeEntry) (shape : List ℕ) (count left : ℕ) → product shape < 2 ^ 63 → count ≡ product shape → (product (map (size_or left shape) entries) == product shape) ≡ (capped (product (map (size_or left shape) entries)) == count)
equal_capped entries shape count left small counted = ap (λ k. product (map (size_or left shape) entries) == k) (sym counted) ∙ sym (eq_capped (product (map (size_or left shape) entries)) count (omega (arith, small, counted)))

-- the sizes have another product
pub other_product : (entries : List ShapeEntry) (shape : List ℕ) (known count left : ℕ) → IsKnown entries shape known → product shape < 2 ^ 63 → count ≡ product shape → left ≡ count / known
    → (capped (product (map (size_or left shape) entries)) ≡ count → ⊥) → array_codec_fits (reshape entries) shape ≡ false
other_product entries shape known count left is small counted divided other =
    let sizes = map (size_or left shape) entries in
    asked_is entries shape known count left is small counted divided
    ∙ never (list_all (entry_fits known (length shape)) entries) (product sizes == product shape) (nat_lt (product shape) (2 ^ 63) && list_all (λ size. nat_lt size (2 ^ 64)) sizes) (equal_capped entries shape count left small counted ∙ ne_eqb (capped (product sizes)) count other) where
      never : (a b c : Bool) → b ≡ false → (a && (b && c)) ≡ false
      never true b c h = ap (λ (k : Bool). k && c) h
      never false b c h = refl

-- a size is too large
pub too_large : (entries : List ShapeEntry) (shape : List ℕ) (known count left : ℕ) → IsKnown entries shape known → product shape < 2 ^ 63 → count ≡ product shape → left ≡ count / known
    → list_all (λ size. nat_lt size (2 ^ 64)) (map (size_or left shape) entries) ≡ false → array_codec_fits (reshape entries) shape ≡ false
too_large entries shape known count left is small counted divided large =
    let sizes = map (size_or left shape) entries in
    asked_is entries shape known count left is small counted divided
    ∙ never (list_all (entry_fits known (length shape)) entries) (product sizes == product shape) (nat_lt (product shape) (2 ^ 63)) (list_all (λ size. nat_lt size (2 ^ 64)) sizes) large where
      never : (a b c d : Bool) → d ≡ false → (a && (b && (c && d))) ≡ false
      never true true true d h = h
      never true true false d h = refl
      never true false c d h = refl
      never false b c d h = refl

-- `reshape` suits a shape
pub sized : (entries : List ShapeEntry) (shape : List ℕ) (known count left : ℕ) → IsKnown entries shape known → product shape < 2 ^ 63 → count ≡ product shape → left ≡ count / known
    → list_all (entry_fits known (length shape)) entries ≡ true → capped (product (map (size_or left shape) entries)) ≡ count → list_all (λ size. nat_lt size (2 ^ 64)) (map (size_or left shape) entries) ≡ true → IsSized entries shape left
sized entries shape known count left is small counted divided there equal below =
    let sizes = map (size_or left shape) entries in
    let e : (product sizes == product shape) ≡ true = equal_capped entries shape count left small counted ∙ eq-eqb (capped (product sizes)) count equal in
    record {
      fit = asked_is entries shape known count left is small counted divided ∙ all_true (list_all (entry_fits known (length shape)) entries) (product sizes == product shape) (nat_lt (product shape) (2 ^ 63)) (list_all (λ size. nat_lt size (2 ^ 64)) sizes) there e (lt-ltb (product shape) (2 ^ 63) small) below;
      sizes = encoded_is entries shape left (left_is entries shape known count left is small counted divided);
      small = below;
    } where
      all_true : (a b c d : Bool) → a ≡ true → b ≡ true → c ≡ true → d ≡ true → (a && (b && (c && d))) ≡ true
      all_true true true true true ha hb hc hd = refl
      all_true false b c d ha hb hc hd = absurd (cc)
      all_true true false c d ha hb hc hd = absurd (cc)
      all_true true true false d ha hb hc hd = absurd (cc)
      all_true true true true false ha hb hc hd = absurd (cc)

-- ---- the sizes one by one

pub size_small : {A : Type 0} (f : ShapeEntry → ℕ) (g : A → ShapeEntry) (xs : List A) (i : ℕ) (x : A) → list_all (λ size. nat_lt size (2 ^ 64)) (map f (map g xs)) ≡ true → i < length xs → x ≡ get_or xs i x → f (g x) < 2 ^ 64
size_small f g [] i x all h is = absurd (omega arith)
size_small f g (y ∷ xs) zero x all h is = ltb-true (f (g x)) (2 ^ 64) (ap (λ z. nat_lt (f (g z)) (2 ^ 64)) is ∙ (and_parts (nat_lt (f (g y)) (2 ^ 64)) (list_all (λ size. nat_lt size (2 ^ 64)) (map f (map g xs))) all).0)
size_small f g (y ∷ xs) (suc i) x all h is = size_small f g xs i x (and_parts (nat_lt (f (g y)) (2 ^ 64)) (list_all (λ size. nat_lt size (2 ^ 64)) (map f (map g xs))) all).1 (omega (arith, h)) is

pub pushed_size : {A : Type 0} (f : ShapeEntry → ℕ) (g : A → ShapeEntry) (xs : List A) (i : ℕ) (x : A) (sizes : List ℕ) (size : ℕ) → i < length xs → x ≡ get_or xs i x → sizes ≡ map f (map g (take i xs)) → size ≡ f (g x) → sizes ++ size ∷ [] ≡ map f (map g (take (i + 1) xs))
pushed_size f g xs i x sizes size h is so_far e =
    ap (λ ns. ns ++ size ∷ []) so_far ∙ (ap (λ k. map f (map g (take i xs)) ++ k ∷ []) (e ∙ ap (λ y. f (g y)) is)
    ∙ sym (ap (λ ys. map f (map g ys)) (take_more xs i x h) ∙ (ap (map f) (map-append g (take i xs) (get_or xs i x ∷ [])) ∙ map-append f (map g (take i xs)) (g (get_or xs i x) ∷ []))))

-- the sizes are those of the encoded shape
pub encoded_by : (those entries : List ShapeEntry) (shape made : List ℕ) (left : ℕ) → those ≡ entries → IsSized those shape left → made ≡ map (size_or left shape) those → (array_codec_fits (reshape entries) shape ≡ true) × (made ≡ encoded_shape (reshape entries) shape)
encoded_by those entries shape made left same is made_is = (ap (λ es. array_codec_fits (reshape es) shape) (sym same) ∙ is.fit, made_is ∙ (is.sizes ∙ ap (λ es. encoded_shape (reshape es) shape) same))
