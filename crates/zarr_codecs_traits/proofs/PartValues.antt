-- Values that are decoded by their size.
use Rattle.std.proofs.Common.{◌≡◌, ◌∙◌, ℕ, zero, suc, ◌+◌, ◌-◌, ◌*◌, ◌<◌, ◌≤◌, Bool, true, false, if◌then◌else◌, List, [], ◌∷◌, length, map, take, drop, refl, sym, ap, arith, Option, Some, None, option_map, option_and_then, length-drop}
use mathlib.Core.List.{reverse_aux}
use Rattle.std.specs.Prelude.{nat_lt}
use Rattle.std.specs.List.{range_with_len}
use Rattle.std.proofs.lemmas.Bool.{and_parts, eq-eqb, eqb-true, ltb-true}
use Rattle.std.proofs.lemmas.List.{length-take-le}
use Rattle.zarr_grids_boxes.specs.Boxes.{product}
use Rattle.zarr_codecs_meaning.specs.Types.{DataType, Component, Cell, of_bytes, components, bytes_in, is_fixed, is_value}
use Rattle.zarr_codecs_meaning.specs.Chains.{Endianness}
use Rattle.zarr_codecs_meaning.specs.Chains.Chain.{bytes, packbits, vlen, optional, after_array_codec, then_bytes, sharded}
use Rattle.zarr_codecs_meaning.specs.Chains.Endianness.{little, big}
use Rattle.zarr_codecs_meaning.specs.Encoding.{in_order, ordered}
use Rattle.zarr_codecs_meaning.specs.Decoding.{all_there, element_at, is_whole}
use Rattle.zarr_codecs_meaning.specs.Fits.{fits, order_fits}
use Rattle.zarr_codecs_meaning.specs.Places.{place_numbers}
use Rattle.zarr_codecs_meaning.proofs.Lists.{Each, each_append, each_passes, each_weaker}
use Rattle.zarr_codecs_meaning.proofs.Digits.{each-take, each-drop}
use Rattle.zarr_codecs_meaning.proofs.Elements.{on_true}
use Rattle.zarr_codecs_meaning.proofs.Values.{length-ordered}
use Rattle.zarr_codecs_arrays.specs.Values.{takes_all_bytes}
use Rattle.zarr_codecs_arrays.proofs.ElementValues.{taken_one}
use Rattle.zarr_codecs_traits.specs.PartEncoding.{PatchedDecode}

-- ---- bytes in another order are bytes

each_onto : {X : Type 0} (P : X → Type 0) (xs ys : List X) → Each P xs → Each P ys → Each P (reverse_aux xs ys)
each_onto P [] ys h k = k
each_onto P (x ∷ xs) ys h k = each_onto P xs (x ∷ ys) h.1 (h.0, k)

each_in_order : (P : ℕ → Type 0) (order : Option Endianness) (component : List ℕ) → Each P component → Each P (in_order order component)
each_in_order P None component h = h
each_in_order P (Some little) component h = h
each_in_order P (Some big) component h = each_onto P component [] h tt

each_ordered : (P : ℕ → Type 0) (order : Option Endianness) (parts : List Component) (element : List ℕ) → Each P element → Each P (ordered order parts element)
each_ordered P order [] element h = tt
each_ordered P order (c ∷ cs) element h =
    each_append P (in_order order (take c.byte_count element)) (ordered order cs (drop c.byte_count element)) (each_in_order P order (take c.byte_count element) (each-take P c.byte_count element h))
    (each_ordered P order cs (drop c.byte_count element) (each-drop P c.byte_count element h))

-- ---- elements one after another

all_found : (f : ℕ → Option Cell) (a n : ℕ) → ((i : ℕ) → i < n → (cell : Cell) × (f (a + i) ≡ Some cell)) → (cells : List Cell) × (all_there (map f (range_with_len a n)) ≡ Some cells)
all_found f a zero law = ([], refl)
all_found f a (suc n) law =
    let start : a ≡ a + 0 = omega arith in
    let first = law 0 (omega arith) in
    let others = all_found f (a + 1) n (λ i below. let found = law (suc i) (omega arith) in let e : a + 1 + i ≡ a + suc i = omega arith in (found.0, ap f e ∙ found.1)) in
    let rest = all_there (map f (range_with_len (a + 1) n)) in (first.0 ∷ others.0, ap (option_and_then (λ y. option_map (λ ys. y ∷ ys) rest)) (ap f start ∙ first.1) ∙ ap (option_map (λ ys. first.0 ∷ ys)) others.1)

-- an element of bytes of the right number is one of the type
element_found : (order : Option Endianness) (type : DataType) (value : List ℕ) (count n : ℕ) → is_fixed type ≡ true → takes_all_bytes type ≡ true → Each (λ b. b < 256) value → length value ≡ count * bytes_in (components type) → n < count
    → (cell : Cell) × (element_at order type value n ≡ Some cell)
element_found order type value count n fixed takes holds long below =
    let parts = components type in
    let width = bytes_in parts in
    let element = take width (drop (n * width) value) in
    let more : (count : ℕ) → n < count → n * width + width ≤ count * width = λ count below. mul_le count below in
    let enough = more count below in
    let wide : length element ≡ width = length-take-le width (drop (n * width) value) (omega (arith, enough, long, length-drop (n * width) value)) in
    let is : is_value type (of_bytes (ordered order parts element)) ≡ true =
    taken_one type width (ordered order parts element) takes (ap (λ (b : Bool). if b then Some width else None) fixed)
    (each_ordered (λ b. b < 256) order parts element (each-take (λ b. b < 256) width (drop (n * width) value) (each-drop (λ b. b < 256) (n * width) value holds))) (length-ordered order parts element wide) in
    (of_bytes (ordered order parts element), ap (λ (b : Bool). if b then Some (of_bytes (ordered order parts element)) else None) is) where
      mul_le : (count : ℕ) → n < count → n * bytes_in (components type) + bytes_in (components type) ≤ count * bytes_in (components type)
      mul_le count h =
          let width = bytes_in (components type) in
          let e : count ≡ suc n + (count - suc n) = omega arith in
          let f : count * width ≡ n * width + width + (count - suc n) * width = ap (λ k. k * width) e ∙ grind arith in
          omega arith

-- ---- the law

pub whole_where_decoded : (whole : Bool) (o : Option (List Cell)) (cells : List Cell) → elim whole [ true ↦ o | false ↦ None ] ≡ Some cells → whole ≡ true
whole_where_decoded true o cells h = refl
whole_where_decoded false o cells h = cc

pub patched_decode : PatchedDecode
patched_decode (bytes order) elements shape value takes holds =
    let type = elements.type in
    let width = bytes_in (components type) in
    let both = and_parts (fits (bytes order) type []) (takes_all_bytes type) takes in
    let fixed = (and_parts (is_fixed type) (order_fits order (components type)) both.0).0 in
    let each = each_weaker (λ b. nat_lt b 256 ≡ true) (λ b. b < 256) value (λ b l. ltb-true b 256 l) (each_passes (λ b. nat_lt b 256) value holds) in
    let turned : product shape * width ≡ width * product shape = grind arith in
    let all = all_there (map (element_at order type value) (place_numbers shape)) in
    record {
      fit = both.0;
      sized = λ long.
          let found = all_found (element_at order type value) 0 (product shape) (λ i below. let start : 0 + i ≡ i = omega arith in let one = element_found order type value (product shape) i fixed both.1 each long below in (one.0, ap (element_at order type value) start ∙ one.1)) in
          (found.0, on_true (is_whole type shape value) all None (eq-eqb (length value) (width * product shape) (long ∙ turned)) ∙ found.1);
      only = λ cells is. eqb-true (length value) (width * product shape) (whole_where_decoded (is_whole type shape value) all cells is) ∙ sym turned;
    }
patched_decode (packbits padding first last) elements shape value takes holds = cc
patched_decode (vlen index «data» width location) elements shape value takes holds = cc
patched_decode (optional mask values) elements shape value takes holds = cc
patched_decode (after_array_codec codec chain) elements shape value takes holds = cc
patched_decode (then_bytes chain codec) elements shape value takes holds = cc
patched_decode (sharded subchunk inner index location) elements shape value takes holds = cc
