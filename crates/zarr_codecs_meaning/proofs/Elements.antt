-- Elements of fixed types, written and read back.
use Rattle.std.proofs.Common.{◌≡◌, ℕ, zero, suc, ◌+◌, ◌-◌, ◌*◌, ◌/◌, ◌%◌, ◌^◌, ◌<◌, ◌≤◌, List, [], ◌∷◌, ◌++◌, length, map, get_or, take, drop, replicate, ap, ◌∙◌, sym, refl, arith, Option, Some, None, option_and_then, option_map, Bool, true, false, ◌&&◌, ◌==◌, if◌then◌else◌, length-append, length-take, length-drop, take-append-drop, div-one}
use Rattle.std.specs.List.{flat_map, range_with_len}
use Rattle.std.proofs.lemmas.Bool.{eq-eqb, and_parts}
use Rattle.std.proofs.lemmas.List.{length-map, get_or-map, reverse-reverse, take-append-le, drop-append-le}
use Rattle.std.proofs.lemmas.List.FromFn.{fill_by_all}
use Rattle.std.proofs.lemmas.Map.Views.{exact_unsigned_eq}
use Rattle.std.proofs.Math.Seq.{take-append_seam, drop-append_seam, drop-drop}
use Rattle.zarr_grids_boxes.specs.Boxes.{product}
use Rattle.zarr_codecs_meaning.specs.Numbers.{digits, number}
use Rattle.zarr_codecs_meaning.specs.Types.{DataType, Sign, Component, components, bytes_in, is_fixed, is_value, is_component, are_components, extended, Cell, of_bytes, cell_bytes, Elements}
use Rattle.zarr_codecs_meaning.specs.Chains.{Endianness, Padding}
use Rattle.zarr_codecs_meaning.specs.Chains.Chain.{bytes, packbits}
use Rattle.zarr_codecs_meaning.specs.Chains.Endianness.{little, big}
use Rattle.zarr_codecs_meaning.specs.Chains.Padding.{no_padding_byte, first_byte, last_byte}
use Rattle.zarr_codecs_meaning.specs.Places.{place_numbers}
use Rattle.zarr_codecs_meaning.specs.Fits.{last_kept, kept_bits, bits_in, packed_size, padding_size}
use Rattle.zarr_codecs_meaning.specs.Encoding.{in_order, ordered, element_bits, element_of_bits, packed, padding_bits, with_padding}
use Rattle.zarr_codecs_meaning.specs.Decoding.{all_there, tested, element_at, is_whole, without_padding, unpacked, decoded}
use Rattle.zarr_codecs_meaning.specs.Laws.{AreCells}
use Rattle.zarr_codecs_meaning.proofs.Lists.{Each, every, each_passes, each_weaker, each_get, each_append}
use Rattle.zarr_codecs_meaning.proofs.Values.{fixed_value, length-digits, length-in_order, length-ordered, length-element_bits}
use Rattle.zarr_codecs_meaning.proofs.Sizes.{bytes_length, bits_length, length-with_padding}
use Rattle.zarr_codecs_meaning.proofs.Digits.{number_digits, digits_number, digits_below, bytes_below, each-take, each-drop, unpacked_packed}

pub on_true : {X : Type 0} (b : Bool) (x y : X) → b ≡ true → elim b [ true ↦ x | false ↦ y ] ≡ x
on_true true x y h = refl
on_true false x y h = cc

-- the n-th of elements of one width
pub slice_flat : {X : Type 0} (f : X → List ℕ) (width : ℕ) (xs : List X) (n : ℕ) (d : X) → Each (λ x. length (f x) ≡ width) xs → n < length xs → take width (drop (n * width) (flat_map f xs)) ≡ f (get_or xs n d)
slice_flat f width [] n d h below = absurd (omega arith)
slice_flat f width (x ∷ xs) zero d h below =
    let none : zero * width ≡ 0 = omega arith in
    ap (λ k. take width (drop k (f x ++ flat_map f xs))) none ∙ (ap (λ k. take k (f x ++ flat_map f xs)) (sym h.0) ∙ take-append_seam (f x) (flat_map f xs))
slice_flat f width (x ∷ xs) (suc n) d h below =
    let more : suc n * width ≡ width + n * width = grind arith in
    let seam : drop width (f x ++ flat_map f xs) ≡ flat_map f xs = ap (λ k. drop k (f x ++ flat_map f xs)) (sym h.0) ∙ drop-append_seam (f x) (flat_map f xs) in
    ap (λ k. take width (drop k (f x ++ flat_map f xs))) more
    ∙ (ap (take width) (sym (drop-drop (n * width) width (f x ++ flat_map f xs)) ∙ ap (drop (n * width)) seam) ∙ slice_flat f width xs n d h.1 (omega arith))

-- what is read one after another
pub all_read : {X : Type 0} (f : ℕ → Option X) (xs : List X) (a : ℕ) (d : X) → ((i : ℕ) → i < length xs → f (a + i) ≡ Some (get_or xs i d)) → all_there (map f (range_with_len a (length xs))) ≡ Some xs
all_read f [] a d h = refl
all_read f (x ∷ xs) a d h =
    let start : a ≡ a + 0 = omega arith in
    let first : f a ≡ Some x = ap f start ∙ h 0 (omega arith) in
    let others = all_read f xs (a + 1) d (λ i below. let e : a + 1 + i ≡ a + suc i = omega arith in ap f e ∙ h (suc i) (omega arith)) in
    let rest = all_there (map f (range_with_len (a + 1) (length xs))) in
    ap (option_and_then (λ y. option_map (λ ys. y ∷ ys) rest)) first ∙ ap (option_map (λ ys. x ∷ ys)) others

-- ---- `bytes`

in_order_twice : (order : Option Endianness) (element : List ℕ) → in_order order (in_order order element) ≡ element
in_order_twice None element = refl
in_order_twice (Some little) element = refl
in_order_twice (Some big) element = reverse-reverse element

pub ordered_twice : (order : Option Endianness) (parts : List Component) (element : List ℕ) → length element ≡ bytes_in parts → ordered order parts (ordered order parts element) ≡ element
ordered_twice order [] [] h = refl
ordered_twice order [] (b ∷ element) h = absurd (omega arith)
ordered_twice order (c ∷ cs) element h =
    let n = c.byte_count in
    let front = in_order order (take n element) in
    let back = ordered order cs (drop n element) in
    let long : length front ≡ n = length-in_order order (take n element) ∙ (length-take n element ∙ omega (arith, h)) in
    let one : take n (front ++ back) ≡ front = ap (λ k. take k (front ++ back)) (sym long) ∙ take-append_seam front back in
    let two : drop n (front ++ back) ≡ back = ap (λ k. drop k (front ++ back)) (sym long) ∙ drop-append_seam front back in
    ap (λ ns. in_order order ns ++ ordered order cs (drop n (front ++ back))) one
    ∙ (ap (λ ns. in_order order front ++ ordered order cs ns) two
    ∙ (ap (λ ns. ns ++ ordered order cs back) (in_order_twice order (take n element))
    ∙ (ap (λ ns. take n element ++ ns) (ordered_twice order cs (drop n element) (length-drop n element ∙ omega (arith, h))) ∙ take-append-drop n element)))

bytes_open : (order : Option Endianness) (elements : Elements) (shape : List ℕ) (cells : List Cell) → is_fixed elements.type ≡ true → AreCells elements shape cells
    → is_whole elements.type shape (flat_map (λ cell. ordered order (components elements.type) (cell_bytes cell)) cells) ≡ true
bytes_open order elements shape cells fixed are =
    let width = bytes_in (components elements.type) in
    let value = flat_map (λ cell. ordered order (components elements.type) (cell_bytes cell)) cells in
    let turned : product shape * width ≡ width * product shape = grind arith in
    eq-eqb (length value) (width * product shape) (bytes_length order elements cells fixed are.values ∙ (ap (λ n. n * width) are.whole ∙ turned))

element_read : (order : Option Endianness) (elements : Elements) (shape : List ℕ) (cells : List Cell) → is_fixed elements.type ≡ true → AreCells elements shape cells → (i : ℕ) → i < length cells
    → element_at order elements.type (flat_map (λ cell. ordered order (components elements.type) (cell_bytes cell)) cells) i ≡ Some (get_or cells i elements.fill)
element_read order elements shape cells fixed are i below =
    let type = elements.type in
    let parts = components type in
    let width = bytes_in parts in
    let element = λ (cell : Cell). ordered order parts (cell_bytes cell) in
    let value = flat_map element cells in
    let fine : Each (λ cell. is_value type cell ≡ true) cells = each_passes (is_value type) cells are.values in
    let wide : Each (λ cell. length (element cell) ≡ width) cells = each_weaker (λ cell. is_value type cell ≡ true) (λ cell. length (element cell) ≡ width) cells
    (λ cell h. let v = fixed_value type cell fixed h in length-ordered order parts (cell_bytes cell) (ap (λ (c : Cell). length (cell_bytes c)) v.is ∙ v.long)) fine in
    let cell = get_or cells i elements.fill in
    let is = each_get (λ c. is_value type c ≡ true) cells i elements.fill fine are.fill in
    let v = fixed_value type cell fixed is in
    let same : of_bytes (cell_bytes cell) ≡ cell = ap (λ (c : Cell). of_bytes (cell_bytes c)) v.is ∙ sym v.is in
    let stored_back : ordered order parts (take width (drop (i * width) value)) ≡ cell_bytes cell =
    ap (ordered order parts) (slice_flat element width cells i elements.fill wide below) ∙ ordered_twice order parts (cell_bytes cell) (ap (λ (c : Cell). length (cell_bytes c)) v.is ∙ v.long) in
    ap (λ ns. tested type (of_bytes ns)) stored_back ∙ (ap (tested type) same ∙ ap (λ (b : Bool). if b then Some cell else None) is)

pub bytes_back : (order : Option Endianness) (elements : Elements) (shape : List ℕ) (cells : List Cell) → is_fixed elements.type ≡ true → AreCells elements shape cells
    → decoded (bytes order) elements shape (flat_map (λ cell. ordered order (components elements.type) (cell_bytes cell)) cells) ≡ Some cells
bytes_back order elements shape cells fixed are =
    let type = elements.type in
    let value = flat_map (λ cell. ordered order (components type) (cell_bytes cell)) cells in
    let read : (i : ℕ) → i < length cells → element_at order type value (0 + i) ≡ Some (get_or cells i elements.fill) = λ i below.
    let start : 0 + i ≡ i = omega arith in ap (element_at order type value) start ∙ element_read order elements shape cells fixed are i below in
    on_true (is_whole type shape value) (all_there (map (element_at order type value) (place_numbers shape))) None (bytes_open order elements shape cells fixed are)
    ∙ (ap (λ n. all_there (map (element_at order type value) (range_with_len 0 n))) (sym are.whole) ∙ all_read (element_at order type value) cells 0 elements.fill read)

-- ---- `packbits`

component_back : (sign : Sign) (width byte_count : ℕ) (element : List ℕ) → length element ≡ byte_count → Each (λ b. b < 256) element → (number 256 element == extended sign width byte_count (number 256 element % 2 ^ width)) ≡ true
    → digits 256 byte_count (extended sign width byte_count (number 2 (digits 2 width (number 256 element)))) ≡ element
component_back sign width byte_count element long below is =
    let n = number 256 element in
    ap (λ m. digits 256 byte_count (extended sign width byte_count m)) (number_digits 2 width n (omega arith))
    ∙ (ap (digits 256 byte_count) (sym (exact_unsigned_eq n (extended sign width byte_count (n % 2 ^ width)) is))
    ∙ (ap (λ k. digits 256 k n) (sym long) ∙ digits_number 256 element below))

-- where all bits of a component are kept
pub record KeepsAll (first : ℕ) (last : Option ℕ) (c : Component) : Type 0 where
  pub from_zero : first ≡ 0
  pub to_last : last_kept last c + 1 ≡ c.width

pub keeps_all : (first : ℕ) (last : Option ℕ) (c : Component) → ((first == 0) && (last_kept last c + 1 == c.width)) ≡ true → KeepsAll first last c
keeps_all first last c h =
    let both = and_parts (first == 0) (last_kept last c + 1 == c.width) h in
    record { from_zero = exact_unsigned_eq first 0 both.0; to_last = exact_unsigned_eq (last_kept last c + 1) c.width both.1 }

pub element_back : (first : ℕ) (last : Option ℕ) (parts : List Component) (element : List ℕ) → Each (KeepsAll first last) parts → length element ≡ bytes_in parts → Each (λ b. b < 256) element → are_components parts element ≡ true
    → element_of_bits first last parts (element_bits first last parts element) ≡ element
element_back first last [] [] keeps h below fine = refl
element_back first last [] (b ∷ element) keeps h below fine = absurd (omega arith)
element_back first last (c ∷ cs) element keeps h below fine =
    let n = c.byte_count in
    let front = take n element in
    let kept = kept_bits first last c in
    let zero_ = keeps.0.from_zero in
    let to_ = keeps.0.to_last in
    let all : kept ≡ c.width = omega (arith, zero_, to_) in
    let bits = digits 2 kept (number 256 front / 2 ^ first) in
    let others = element_bits first last cs (drop n element) in
    let long : length bits ≡ kept = length-digits 2 kept (number 256 front / 2 ^ first) in
    let one : take kept (bits ++ others) ≡ bits = ap (λ k. take k (bits ++ others)) (sym long) ∙ take-append_seam bits others in
    let two : drop kept (bits ++ others) ≡ others = ap (λ k. drop k (bits ++ others)) (sym long) ∙ drop-append_seam bits others in
    let both = and_parts (is_component c front) (are_components cs (drop n element)) fine in
    let whole : number 256 front / 2 ^ first ≡ number 256 front = ap (λ k. number 256 front / 2 ^ k) zero_ ∙ div-one (number 256 front) in
    let same_bits : bits ≡ digits 2 c.width (number 256 front) = ap (λ k. digits 2 k (number 256 front / 2 ^ first)) all ∙ ap (digits 2 c.width) whole in
    let scaled : number 2 bits * 2 ^ first ≡ number 2 (digits 2 c.width (number 256 front)) = ap (λ k. number 2 bits * 2 ^ k) zero_ ∙ (omega arith ∙ ap (number 2) same_bits) in
    let here : digits 256 n (extended c.sign (last_kept last c + 1) n (number 2 bits * 2 ^ first)) ≡ front =
    ap (λ k. digits 256 n (extended c.sign k n (number 2 bits * 2 ^ first))) to_
    ∙ (ap (λ m. digits 256 n (extended c.sign c.width n m)) scaled ∙ component_back c.sign c.width n front (length-take n element ∙ omega (arith, h)) (each-take (λ b. b < 256) n element below) both.0) in
    ap (λ ns. digits 256 n (extended c.sign (last_kept last c + 1) n (number 2 ns * 2 ^ first)) ++ element_of_bits first last cs (drop kept (bits ++ others))) one
    ∙ (ap (λ ns. digits 256 n (extended c.sign (last_kept last c + 1) n (number 2 bits * 2 ^ first)) ++ element_of_bits first last cs ns) two
    ∙ (ap (λ ns. ns ++ element_of_bits first last cs others) here
    ∙ (ap (λ ns. front ++ ns) (element_back first last cs (drop n element) keeps.1 (length-drop n element ∙ omega (arith, h)) (each-drop (λ b. b < 256) n element below) both.1) ∙ take-append-drop n element)))

pub are_bits : (first : ℕ) (last : Option ℕ) (parts : List Component) (element : List ℕ) → Each (λ b. b < 2) (element_bits first last parts element)
are_bits first last [] element = tt
are_bits first last (c ∷ cs) element =
    each_append (λ b. b < 2) (digits 2 (kept_bits first last c) (number 256 (take c.byte_count element) / 2 ^ first)) (element_bits first last cs (drop c.byte_count element))
    (digits_below 2 (kept_bits first last c) (number 256 (take c.byte_count element) / 2 ^ first) (omega arith)) (are_bits first last cs (drop c.byte_count element))

pub each-flat_map : {X : Type 0} (P : ℕ → Type 0) (f : X → List ℕ) (xs : List X) → ((x : X) → Each P (f x)) → Each P (flat_map f xs)
each-flat_map P f [] law = tt
each-flat_map P f (x ∷ xs) law = each_append P (f x) (flat_map f xs) (law x) (each-flat_map P f xs law)

without_with : (padding : Padding) (bits : List ℕ) → without_padding padding (with_padding padding bits) ≡ packed bits
without_with no_padding_byte bits = refl
without_with first_byte bits = refl
without_with last_byte bits =
    let content = packed bits in
    let count : length (content ++ padding_bits bits ∷ []) - 1 ≡ length content = omega (arith, length-append content (padding_bits bits ∷ [])) in
    ap (λ n. take n (content ++ padding_bits bits ∷ [])) count ∙ take-append_seam content (padding_bits bits ∷ [])

-- what is kept of an element's cell
abbrev pub kept_cell : ℕ → Option ℕ → DataType → Cell → Cell
kept_cell first last type cell = of_bytes (element_of_bits first last (components type) (element_bits first last (components type) (cell_bytes cell)))

-- where all bits are kept, all cells are
pub packbits_lossless : (first : ℕ) (last : Option ℕ) (type : DataType) (cells : List Cell) → is_fixed type ≡ true → Each (KeepsAll first last) (components type) → Each (λ c. is_value type c ≡ true) cells → map (kept_cell first last type) cells ≡ cells
packbits_lossless first last type [] fixed keeps values = refl
packbits_lossless first last type (c ∷ cs) fixed keeps values =
    let v = fixed_value type c fixed values.0 in
    let parts = components type in
    let here : kept_cell first last type c ≡ c =
    ap (λ (x : Cell). of_bytes (element_of_bits first last parts (element_bits first last parts (cell_bytes x)))) v.is ∙ (ap of_bytes (element_back first last parts v.element keeps v.long (bytes_below v.element v.bytes) v.fine) ∙ sym v.is) in
    ap (λ (x : Cell). x ∷ map (kept_cell first last type) cs) here ∙ ap (λ (xs : List Cell). c ∷ xs) (packbits_lossless first last type cs fixed keeps values.1)

-- what is packed is unpacked to the kept cells
pub packbits_kept : (padding : Padding) (first : ℕ) (last : Option ℕ) (elements : Elements) (shape : List ℕ) (cells : List Cell) → length cells ≡ product shape
    → decoded (packbits padding first last) elements shape (with_padding padding (flat_map (λ cell. element_bits first last (components elements.type) (cell_bytes cell)) cells)) ≡ Some (map (kept_cell first last elements.type) cells)
packbits_kept padding first last elements shape cells many =
    let type = elements.type in
    let parts = components type in
    let width = bits_in first last parts in
    let cell_bits = λ (cell : Cell). element_bits first last parts (cell_bytes cell) in
    let kept_one = kept_cell first last type in
    let bits = flat_map cell_bits cells in
    let value = with_padding padding bits in
    let total : length bits ≡ length cells * width = bits_length first last elements cells in
    let count : length bits ≡ width * product shape = total ∙ (ap (λ n. n * width) many ∙ grind arith) in
    let long : length value ≡ packed_size padding first last parts (product shape) = length-with_padding padding bits ∙ ap (λ n. padding_size padding + (n + 7) / 8) count in
    let back = unpacked_packed bits (each-flat_map (λ b. b < 2) cell_bits cells (λ cell. are_bits first last parts (cell_bytes cell))) in
    let found : flat_map (digits 2 8) (without_padding padding value) ≡ bits ++ replicate back.0 0 = ap (flat_map (digits 2 8)) (without_with padding bits) ∙ back.1 in
    let wide : Each (λ cell. length (cell_bits cell) ≡ width) cells = every (λ cell. length (cell_bits cell) ≡ width) cells (λ cell. length-element_bits first last parts (cell_bytes cell)) in
    let read : (i : ℕ) → i < product shape → get_or (map kept_one cells) i elements.fill ≡ unpacked first last type (flat_map (digits 2 8) (without_padding padding value)) i = λ i h.
    let below : i < length cells = omega (arith, h, many) in
    let within : i * width + width ≤ length bits = let e : suc i * width ≡ i * width + width = grind arith in let l : suc i * width ≤ length cells * width = grind arith in omega (arith, total, e, l) in
    let early : drop (i * width) (bits ++ replicate back.0 0) ≡ drop (i * width) bits ++ replicate back.0 0 = drop-append-le (i * width) bits (replicate back.0 0) (omega arith) in
    let enough : width ≤ length (drop (i * width) bits) = omega (arith, length-drop (i * width) bits) in
    let slice : take width (drop (i * width) (bits ++ replicate back.0 0)) ≡ cell_bits (get_or cells i elements.fill) = ap (take width) early ∙ (take-append-le width (drop (i * width) bits) (replicate back.0 0) enough ∙ slice_flat cell_bits width cells i elements.fill wide below) in
    get_or-map kept_one cells i elements.fill elements.fill below
    ∙ sym (ap (λ ns. of_bytes (element_of_bits first last parts (take width (drop (i * width) ns)))) found ∙ ap (λ ns. of_bytes (element_of_bits first last parts ns)) slice) in
    on_true (length value == packed_size padding first last parts (product shape)) (Some (map (unpacked first last type (flat_map (digits 2 8) (without_padding padding value))) (place_numbers shape))) None (eq-eqb (length value) (packed_size padding first last parts (product shape)) long)
    ∙ ap Some (sym (fill_by_all (unpacked first last type (flat_map (digits 2 8) (without_padding padding value))) (map kept_one cells) (product shape) elements.fill (length-map cells kept_one ∙ many) read))
