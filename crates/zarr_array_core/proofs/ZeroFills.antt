-- The value of a new chunk whose fill value is zeros.
use Rattle.std.proofs.Common.{◌≡◌, ◌∙◌, ℕ, zero, suc, ◌+◌, ◌-◌, ◌*◌, ◌<◌, ◌≤◌, List, [], ◌∷◌, length, map, take, drop, replicate, refl, sym, ap, subst, arith, Bool, ◌&&◌, true, if◌then◌else◌, Option, Some, None, option_map, option_and_then, length-drop}
use mathlib.Core.List.{reverse_aux}
use Rattle.std.specs.Prelude.{◌==◌, OnOk, Result, Ok, Err}
use Rattle.std.specs.FinMap.{get, insert}
use Rattle.std.specs.List.{list_all, range_with_len}
use Rattle.std.proofs.lemmas.Bool.{and_parts, eq-eqb, eqb-true}
use Rattle.std.proofs.lemmas.List.{length-replicate, length-take-le}
use Rattle.zarr_grids_boxes.specs.Boxes.{Region, product}
use Rattle.zarr_codecs_meaning.specs.Chains.{Chain, Endianness}
use Rattle.zarr_codecs_meaning.specs.Chains.Chain.{bytes, packbits, vlen, optional, after_array_codec, then_bytes, sharded}
use Rattle.zarr_codecs_meaning.specs.Chains.Endianness.{little, big}
use Rattle.zarr_codecs_meaning.specs.Decoding.{all_there, decoded, element_at, is_whole}
use Rattle.zarr_codecs_meaning.specs.Encoding.{in_order, ordered}
use Rattle.zarr_codecs_meaning.specs.Fits.{fits, order_fits}
use Rattle.zarr_codecs_meaning.specs.Places.{place_numbers}
use Rattle.zarr_codecs_meaning.specs.Types.{Cell, Component, DataType, Elements, of_bytes, components, bytes_in, is_fixed, is_value, is_variable, are_bytes, are_components}
use Rattle.zarr_codecs_meaning.proofs.Digits.{each-take, each-drop}
use Rattle.zarr_codecs_meaning.proofs.Elements.{on_true}
use Rattle.zarr_codecs_meaning.proofs.Lists.{Each, each_append, each_passes, each_weaker}
use Rattle.zarr_codecs_meaning.proofs.Values.{length-ordered}
use Rattle.zarr_codecs_arrays.specs.Values.{takes_all_bytes}
use Rattle.zarr_codecs_traits.specs.Patches.{Patch, patched}
use Rattle.zarr_codecs_traits.specs.PartEncoding.{takes_patches}
use Rattle.zarr_array_meaning.specs.StoreMaps.{StoreMap}
use Rattle.zarr_array_meaning.specs.Writes.{Write}
use Rattle.zarr_array_core.specs.ChunkValues.{MakesValue, with_value}
use Rattle.zarr_array_core.specs.PartWrites.{PatchesChunk}

-- ---- zeros

abbrev AreZeros : List ℕ → Type 0
AreZeros xs = Each (λ b. b ≡ 0) xs

as_many : (xs : List ℕ) → AreZeros xs → xs ≡ replicate (length xs) 0
as_many [] h = refl
as_many (x ∷ xs) h = ap (λ y. y ∷ xs) h.0 ∙ ap (λ ys. 0 ∷ ys) (as_many xs h.1)

are_zeros : (n : ℕ) → AreZeros (replicate n 0)
are_zeros zero = tt
are_zeros (suc n) = (refl, are_zeros n)

passed : (xs : List ℕ) → list_all (λ b. b == 0) xs ≡ true → AreZeros xs
passed xs h = each_weaker (λ b. (b == 0) ≡ true) (λ b. b ≡ 0) xs (λ b e. eqb-true b 0 e) (each_passes (λ b. b == 0) xs h)

turned : (xs ys : List ℕ) → AreZeros xs → AreZeros ys → AreZeros (reverse_aux xs ys)
turned [] ys h k = k
turned (x ∷ xs) ys h k = turned xs (x ∷ ys) h.1 (h.0, k)

one_ordered : (order : Option Endianness) (component : List ℕ) → AreZeros component → AreZeros (in_order order component)
one_ordered None component h = h
one_ordered (Some little) component h = h
one_ordered (Some big) component h = turned component [] h tt

all_ordered : (order : Option Endianness) (parts : List Component) (element : List ℕ) → AreZeros element → AreZeros (ordered order parts element)
all_ordered order [] element h = tt
all_ordered order (c ∷ cs) element h =
    each_append (λ b. b ≡ 0) (in_order order (take c.byte_count element)) (ordered order cs (drop c.byte_count element)) (one_ordered order (take c.byte_count element) (each-take (λ b. b ≡ 0) c.byte_count element h))
    (all_ordered order cs (drop c.byte_count element) (each-drop (λ b. b ≡ 0) c.byte_count element h))

-- ---- elements of zeros

same_found : (f : ℕ → Option Cell) (fill : Cell) (a n : ℕ) → ((i : ℕ) → i < n → f (a + i) ≡ Some fill) → all_there (map f (range_with_len a n)) ≡ Some (replicate n fill)
same_found f fill a zero law = refl
same_found f fill a (suc n) law =
    let start : a ≡ a + 0 = omega arith in
    let first = law 0 (omega arith) in
    let others = same_found f fill (a + 1) n (λ i below. let e : a + 1 + i ≡ a + suc i = omega arith in ap f e ∙ law (suc i) (omega (arith, below))) in
    let rest = all_there (map f (range_with_len (a + 1) n)) in
    ap (option_and_then (λ x. option_map (λ xs. x ∷ xs) rest)) (ap f start ∙ first) ∙ ap (option_map (λ xs. fill ∷ xs)) others

fixed_long : (type : DataType) (element : List ℕ) → is_fixed type ≡ true → is_value type (of_bytes element) ≡ true → length element ≡ bytes_in (components type)
fixed_long type element fixed h =
    let told = (and_parts (are_bytes element) (if is_fixed type then (length element == bytes_in (components type)) && are_components (components type) element else is_variable type) h).1 in
    let some : ((length element == bytes_in (components type)) && are_components (components type) element) ≡ true = sym (ap (λ (b : Bool). if b then (length element == bytes_in (components type)) && are_components (components type) element else is_variable type) fixed) ∙ told in
    eqb-true (length element) (bytes_in (components type)) (and_parts (length element == bytes_in (components type)) (are_components (components type) element) some).0

element_of_zeros : (order : Option Endianness) (type : DataType) (element : List ℕ) (count size n : ℕ) → AreZeros element → length element ≡ bytes_in (components type) → is_value type (of_bytes element) ≡ true → size ≡ count * bytes_in (components type) → n < count
    → element_at order type (replicate size 0) n ≡ Some (of_bytes element)
element_of_zeros order type element count size n zeros long fine sized below =
    let parts = components type in
    let width = bytes_in parts in
    let value = replicate size 0 in
    let cut = take width (drop (n * width) value) in
    let enough : n * width + width ≤ count * width = mul_le count below in
    let wide : length cut ≡ width = length-take-le width (drop (n * width) value) (omega (arith, enough, sized, length-drop (n * width) value, length-replicate {A = ℕ} size 0)) in
    let shown = ordered order parts cut in
    let none : AreZeros shown = all_ordered order parts cut (each-take (λ b. b ≡ 0) width (drop (n * width) value) (each-drop (λ b. b ≡ 0) (n * width) value (are_zeros size))) in
    let same : shown ≡ element = as_many shown none ∙ (ap (λ k. replicate k 0) (length-ordered order parts cut wide ∙ sym long) ∙ sym (as_many element zeros)) in
    ap (λ (xs : List ℕ). if is_value type (of_bytes xs) then Some (of_bytes xs) else None) same ∙ ap (λ (b : Bool). if b then Some (of_bytes element) else None) fine where
      mul_le : (count : ℕ) → n < count → n * bytes_in (components type) + bytes_in (components type) ≤ count * bytes_in (components type)
      mul_le count h =
          let width = bytes_in (components type) in
          let e : count ≡ suc n + (count - suc n) = omega arith in
          let f : count * width ≡ n * width + width + (count - suc n) * width = ap (λ k. k * width) e ∙ grind arith in
          omega arith

-- zeros are decoded to fill values of zeros
pub zeros_decoded : (chain : Chain) (elements : Elements) (shape : List ℕ) (size : ℕ) (element : List ℕ) → takes_patches chain elements.type ≡ true → elements.fill ≡ of_bytes element → is_value elements.type elements.fill ≡ true → list_all (λ b. b == 0) element ≡ true
    → size ≡ product shape * bytes_in (components elements.type) → decoded chain elements shape (replicate size 0) ≡ Some (replicate (product shape) elements.fill)
zeros_decoded (bytes order) elements shape size element takes is fine zeros sized =
    let type = elements.type in
    let width = bytes_in (components type) in
    let count = product shape in
    let both = and_parts (fits (bytes order) type []) (takes_all_bytes type) takes in
    let fixed = (and_parts (is_fixed type) (order_fits order (components type)) both.0).0 in
    let value : is_value type (of_bytes element) ≡ true = ap (is_value type) (sym is) ∙ fine in
    let long = fixed_long type element fixed value in
    let all = all_there (map (element_at order type (replicate size 0)) (place_numbers shape)) in
    let whole : length (replicate {A = ℕ} size 0) ≡ width * count = let turn : count * width ≡ width * count = grind arith in length-replicate {A = ℕ} size 0 ∙ (sized ∙ turn) in
    on_true (is_whole type shape (replicate size 0)) all None (eq-eqb (length (replicate size 0)) (width * count) whole)
    ∙ same_found (element_at order type (replicate size 0)) elements.fill 0 count
    (λ i below. let start : 0 + i ≡ i = omega arith in ap (element_at order type (replicate size 0)) start ∙ (element_of_zeros order type element count size i (passed element zeros) long value sized below ∙ ap Some (sym is)))
zeros_decoded (packbits padding first last) elements shape size element takes is fine zeros sized = cc
zeros_decoded (vlen index «data» width location) elements shape size element takes is fine zeros sized = cc
zeros_decoded (optional mask values) elements shape size element takes is fine zeros sized = cc
zeros_decoded (after_array_codec codec chain) elements shape size element takes is fine zeros sized = cc
zeros_decoded (then_bytes chain codec) elements shape size element takes is fine zeros sized = cc
zeros_decoded (sharded subchunk inner index location) elements shape size element takes is fine zeros sized = cc

-- ---- the new value

pub on_ok : {A E : Type 0} (result : Result A E) (P Q : Type 0) → (P → Q) → OnOk result P → OnOk result Q
on_ok (Ok value) P Q f h = f h
on_ok (Err e) P Q f h = tt

-- zeros into which the ranges were written are the value of a chunk that has none
pub zeros_part : (write : Write) (box : Region) (patches : List Patch) (held new : StoreMap) (key value : List ℕ) (size : ℕ)
    → decoded write.array.document.chain write.array.document.elements box.shape (replicate size 0) ≡ Some (replicate (product box.shape) write.array.document.elements.fill) → PatchesChunk write box patches → get held key ≡ None
    → value ≡ patched (replicate size 0) patches → new ≡ insert held key value
    → (made : Option (List ℕ)) × MakesValue write box (get held key) made × (new ≡ with_value held key made)
zeros_part write box patches held new key value size is h none same e =
    let document = write.array.document in
    let zeros = replicate size 0 in
    let made : Option (List ℕ) = Some (patched zeros patches) in
    let makes = h.makes zeros (replicate (product box.shape) document.elements.fill) is in
    let now : MakesValue write box None made = record {
      fit = makes.fit;
      cells = makes.cells;
      becomes = record {
        many = makes.becomes.many;
        values = makes.becomes.values;
        written = makes.becomes.written;
        kept = λ no. let before = makes.becomes.kept no in (before.0, sym is ∙ before.1, before.2);
      };
      is = makes.is;
    } in (
      made,
      subst (λ (stored : Option (List ℕ)). MakesValue write box stored made) (sym none) now,
      e ∙ ap (λ (v : List ℕ). insert held key v) same,
    )
