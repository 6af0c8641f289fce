-- The bytes of elements in values of `bytes`, and elements as plain bytes: what is put into a value of such elements leaves the bytes of the others, also where they are no values of the array's type.
use Rattle.std.proofs.Common.{◌≡◌, ◌∙◌, ℕ, suc, ◌*◌, ◌%◌, ◌^◌, ◌+◌, ◌<◌, ◌≤◌, Bool, true, false, ◌&&◌, ◌||◌, ◌==◌, if◌then◌else◌, List, [], ◌∷◌, ◌++◌, length, map, take, drop, reverse, refl, sym, ap, subst, arith, Option, Some, None, is_some, option_and_then, inl, inr, length-take, length-drop, mod-eq_of_lt}
use Rattle.std.specs.Prelude.{IfSome, MatchBool, MatchOption, nat_le}
use Rattle.std.specs.List.{list_all}
use Rattle.std.proofs.Math.Nat.{mul-le-mul_right}
use Rattle.std.proofs.lemmas.Bool.{and_parts, eq-eqb, false≢true}
use Rattle.std.proofs.lemmas.List.{reverse-append}
use Rattle.std.proofs.lemmas.Map.Views.{exact_unsigned_eq}
use Rattle.zarr_grids_boxes.specs.Boxes.{Region, product, is_in_box}
use Rattle.zarr_codecs_meaning.specs.Chains.{Chain, Endianness}
use Rattle.zarr_codecs_meaning.specs.Chains.Chain.{bytes, packbits, vlen, optional, after_array_codec, then_bytes, sharded}
use Rattle.zarr_codecs_meaning.specs.Chains.Endianness.{little, big}
use Rattle.zarr_codecs_meaning.specs.Chunks.{chunk_part}
use Rattle.zarr_codecs_meaning.specs.Decoding.{all_there, cell_at, element_at, opens, part_decoded, tested}
use Rattle.zarr_codecs_meaning.specs.Encoding.{in_order, ordered}
use Rattle.zarr_codecs_meaning.specs.Fits.{array_codec_fits, fits, order_fits}
use Rattle.zarr_codecs_meaning.specs.Numbers.{number}
use Rattle.zarr_codecs_meaning.specs.Payloads.{Payload, fixed, variable, optional as optional_payload, cells_in, fixed_in, masked_in, variable_in}
use Rattle.zarr_codecs_meaning.specs.Places.{encoded_shape, position_of, source_places}
use Rattle.zarr_codecs_meaning.specs.Types.{Cell, Component, DataType, Elements, IsTooLarge, are_bytes, are_components, bool, byte_width, bytes_in, cell_bytes, components, custom, inner_type, integer, is_fixed, is_value, is_variable, of_bytes, optional_of, string, variable_bytes}
use Rattle.zarr_codecs_meaning.proofs.ArrayCodecs.{array_codec_count}
use Rattle.zarr_codecs_meaning.proofs.Covers.{array_codec_covers}
use Rattle.zarr_codecs_meaning.proofs.Digits.{bytes_below, each-drop, each-take}
use Rattle.zarr_codecs_meaning.proofs.Elements.{ordered_twice}
use Rattle.zarr_codecs_meaning.proofs.KeptBits.{number_below as digits_below_power}
use Rattle.zarr_codecs_meaning.proofs.Lists.{Each, each_append, each_passes, each_weaker, all_pass, if_some, some_same}
use Rattle.zarr_codecs_meaning.proofs.Positions.{position_found}
use Rattle.zarr_codecs_meaning.proofs.Values.{fixed_value, length-ordered}
use Rattle.zarr_codecs_meaning.proofs.Words.{bytes_power}
use Rattle.zarr_codecs_types.proofs.Bytes.{are_bytes_each}
use Rattle.zarr_array_elements.proofs.FixedCells.{number_below}
use Rattle.zarr_array_meaning.specs.Chunks.{ReadsCell, fits_box, number_in, part_at}
use Rattle.zarr_array_meaning.specs.Documents.{Document}
use Rattle.zarr_array_meaning.specs.ElementBytes.{KeepsBytes, element_bytes}
use Rattle.zarr_array_meaning.specs.Writes.{Write}
use Rattle.zarr_array_meaning.specs.Writing.{given_cell, opens_in}
use Rattle.zarr_array_core.specs.ChunkValues.{CellsBecome, PutStops, PutsCells, ShowsPart, plain_component, plain_elements, plain_type, plain_write}
use Rattle.zarr_array_core.specs.declared.error.ChunkError.{ChunkError}
use Rattle.zarr_array_core.specs.declared.error.ChunkError.TheVariants as error
use Rattle.zarr_array_core.proofs.ChunkCells.{cell_value}
use Rattle.zarr_array_core.proofs.InParts.{IsInPart, inner, keeps_bits}

-- ---- the bytes of one element

-- the byte order of the `bytes` that a chain ends in
abbrev pub order_of : Chain → Option Endianness
order_of (bytes order) = order
order_of (packbits padding first last) = None
order_of (vlen index «data» width location) = None
order_of (optional mask values) = None
order_of (after_array_codec codec chain) = order_of chain
order_of (then_bytes chain codec) = None
order_of (sharded subchunk within index location) = None

-- the element that stands at a place, whether it is a value of its type or not
abbrev cell_there : Chain → DataType → List ℕ → List ℕ → ℕ → Cell
cell_there chain type shape value n = of_bytes (ordered (order_of chain) (components type) (element_bytes chain type shape value n))

-- it is tested where it is read
read_there : (chain : Chain) (elements : Elements) (shape value : List ℕ) (n : ℕ) → IsInPart chain → opens chain elements shape value ≡ true → cell_at chain elements shape value n ≡ tested elements.type (cell_there chain elements.type shape value n)
read_there (bytes order) elements shape value n is h = ap (λ (b : Bool). if b then element_at order elements.type value n else None) h
read_there (packbits padding first last) elements shape value n is h = absurd (false≢true is.partly)
read_there (vlen index «data» width location) elements shape value n is h = absurd (false≢true is.partly)
read_there (optional mask values) elements shape value n is h = absurd (false≢true is.partly)
read_there (after_array_codec codec chain) elements shape value n is h = read_there chain elements (encoded_shape codec shape) value (position_of n (source_places codec shape)) (inner codec chain is) h
read_there (then_bytes chain codec) elements shape value n is h = absurd (false≢true is.partly)
read_there (sharded subchunk within index location) elements shape value n is h = absurd (false≢true is.plain)

long_there : (chain : Chain) (elements : Elements) (shape value : List ℕ) (n : ℕ) → IsInPart chain → fits chain elements.type shape ≡ true → opens chain elements shape value ≡ true → n < product shape
    → length (element_bytes chain elements.type shape value n) ≡ bytes_in (components elements.type)
long_there (bytes order) elements shape value n is fit h below =
    let width = bytes_in (components elements.type) in
    let long : length value ≡ width * product shape = exact_unsigned_eq (length value) (width * product shape) h in
    let least : suc n * width ≤ product shape * width = mul-le-mul_right width below in
    let more : suc n * width ≡ n * width + width = grind arith in
    let turned : product shape * width ≡ width * product shape = grind arith in
    length-take width (drop (n * width) value) ∙ omega (arith, length-drop (n * width) value, long, least, more, turned)
long_there (packbits padding first last) elements shape value n is fit h below = absurd (false≢true is.partly)
long_there (vlen index «data» width location) elements shape value n is fit h below = absurd (false≢true is.partly)
long_there (optional mask values) elements shape value n is fit h below = absurd (false≢true is.partly)
long_there (after_array_codec codec chain) elements shape value n is fit h below =
    let both = and_parts (array_codec_fits codec shape) (fits chain elements.type (encoded_shape codec shape)) fit in
    let found = position_found n (source_places codec shape) (array_codec_covers codec shape both.0 n below) in
    long_there chain elements (encoded_shape codec shape) value (position_of n (source_places codec shape)) (inner codec chain is) both.1 h (omega (arith, found, array_codec_count codec shape both.0))
long_there (then_bytes chain codec) elements shape value n is fit h below = absurd (false≢true is.partly)
long_there (sharded subchunk within index location) elements shape value n is fit h below = absurd (false≢true is.plain)

each_there : (P : ℕ → Type 0) (chain : Chain) (type : DataType) (shape value : List ℕ) (n : ℕ) → Each P value → Each P (element_bytes chain type shape value n)
each_there P (bytes order) type shape value n h = each-take P (bytes_in (components type)) (drop (n * bytes_in (components type)) value) (each-drop P (n * bytes_in (components type)) value h)
each_there P (packbits padding first last) type shape value n h = tt
each_there P (vlen index «data» width location) type shape value n h = tt
each_there P (optional mask values) type shape value n h = tt
each_there P (after_array_codec codec chain) type shape value n h = each_there P chain type (encoded_shape codec shape) value (position_of n (source_places codec shape)) h
each_there P (then_bytes chain codec) type shape value n h = tt
each_there P (sharded subchunk within index location) type shape value n h = tt

only_there : (found : Option Cell) (cell : Cell) → all_there (found ∷ []) ≡ Some (cell ∷ []) → found ≡ Some cell
only_there None cell h = cc
only_there (Some other) cell h = cc

-- where a place is read, its cell tells the bytes of the element
pub told_bytes : (chain : Chain) (elements : Elements) (shape value : List ℕ) (n : ℕ) (cell : Cell) → IsInPart chain → fits chain elements.type shape ≡ true → n < product shape → chunk_part chain elements shape (Some value) (n ∷ []) ≡ Some (cell ∷ [])
    → element_bytes chain elements.type shape value n ≡ ordered (order_of chain) (components elements.type) (cell_bytes cell)
told_bytes chain elements shape value n cell is fit below h =
    let type = elements.type in
    let order = order_of chain in
    let parts = components type in
    let element = element_bytes chain type shape value n in
    let there = cell_there chain type shape value n in
    let opened = if_some (opens chain elements shape value) (all_there (cell_at chain elements shape value n ∷ [])) (cell ∷ []) h in
    let read : cell_at chain elements shape value n ≡ Some cell = only_there (cell_at chain elements shape value n) cell opened.1 in
    let told = if_some (is_value type there) (Some there) cell (sym (read_there chain elements shape value n is opened.0) ∙ read) in
    let same : ordered order parts element ≡ cell_bytes cell = ap cell_bytes (some_same told.1) in
    sym (ordered_twice order parts element (long_there chain elements shape value n is fit opened.0 below)) ∙ ap (ordered order parts) same

-- ---- components as plain bytes

bytes_in_plain : (parts : List Component) → bytes_in (map plain_component parts) ≡ bytes_in parts
bytes_in_plain [] = refl
bytes_in_plain (c ∷ cs) = ap (λ n. c.byte_count + n) (bytes_in_plain cs)

ordered_plain : (order : Option Endianness) (parts : List Component) (element : List ℕ) → ordered order (map plain_component parts) element ≡ ordered order parts element
ordered_plain order [] element = refl
ordered_plain order (c ∷ cs) element = ap (λ (ns : List ℕ). in_order order (take c.byte_count element) ++ ns) (ordered_plain order cs (drop c.byte_count element))

singles_plain : (parts : List Component) → list_all (λ (c : Component). nat_le c.byte_count 1) (map plain_component parts) ≡ list_all (λ (c : Component). nat_le c.byte_count 1) parts
singles_plain [] = refl
singles_plain (c ∷ cs) = ap (λ (b : Bool). nat_le c.byte_count 1 && b) (singles_plain cs)

-- any bytes are plain components
are_plain : (parts : List Component) (element : List ℕ) → Each (λ b. b < 256) element → length element ≡ bytes_in parts → are_components (map plain_component parts) element ≡ true
are_plain [] element small long = refl
are_plain (c ∷ cs) element small long =
    let n = c.byte_count in
    let front = take n element in
    let whole = number 256 front in
    let count : length front ≡ n = length-take n element ∙ omega (arith, long) in
    let below : whole < 256 ^ length front = digits_below_power 256 front (each-take (λ b. b < 256) n element small) in
    let same : 256 ^ length front ≡ 256 ^ n = ap (λ k. 256 ^ k) count in
    let turned : 8 * n ≡ n * 8 = omega arith in
    let power : 256 ^ n ≡ 2 ^ (n * 8) = bytes_power n ∙ ap (λ k. 2 ^ k) turned in
    let kept : whole % 2 ^ (n * 8) ≡ whole = mod-eq_of_lt (omega (arith, below, same, power)) in
    ap (λ (b : Bool). b && are_components (map plain_component cs) (drop n element)) (eq-eqb whole (whole % 2 ^ (n * 8)) (sym kept))
    ∙ are_plain cs (drop n element) (each-drop (λ b. b < 256) n element small) (length-drop n element ∙ omega (arith, long))

each_reverse : (P : ℕ → Type 0) (xs : List ℕ) → Each P xs → Each P (reverse xs)
each_reverse P [] h = tt
each_reverse P (x ∷ xs) h = subst (λ (ys : List ℕ). Each P ys) (sym (reverse-append (x ∷ []) xs)) (each_append P (reverse xs) (x ∷ []) (each_reverse P xs h.1) (h.0, tt))

each_in_order : (P : ℕ → Type 0) (order : Option Endianness) (xs : List ℕ) → Each P xs → Each P (in_order order xs)
each_in_order P None xs h = h
each_in_order P (Some little) xs h = h
each_in_order P (Some big) xs h = each_reverse P xs h

each_ordered : (P : ℕ → Type 0) (order : Option Endianness) (parts : List Component) (xs : List ℕ) → Each P xs → Each P (ordered order parts xs)
each_ordered P order [] xs h = tt
each_ordered P order (c ∷ cs) xs h =
    each_append P (in_order order (take c.byte_count xs)) (ordered order cs (drop c.byte_count xs)) (each_in_order P order (take c.byte_count xs) (each-take P c.byte_count xs h))
    (each_ordered P order cs (drop c.byte_count xs) (each-drop P c.byte_count xs h))

-- ---- types as plain bytes

plain_value : (type : DataType) (element : List ℕ) → are_bytes element ≡ true → length element ≡ bytes_in (components type) → is_value (plain_type type) (of_bytes element) ≡ true
plain_value type element are long =
    let plain = map plain_component (components type) in
    ap (λ (b : Bool). b && ((length element == bytes_in plain) && are_components plain element)) are
    ∙ (ap (λ (b : Bool). b && are_components plain element) (eq-eqb (length element) (bytes_in plain) (long ∙ sym (bytes_in_plain (components type))))
    ∙ are_plain (components type) element (bytes_below element are) long)

-- a value of the type is one of the plain type
pub value_plain : (type : DataType) (cell : Cell) → is_fixed type ≡ true → is_value type cell ≡ true → is_value (plain_type type) cell ≡ true
value_plain type cell one h =
    let v = fixed_value type cell one h in
    ap (is_value (plain_type type)) v.is ∙ plain_value type v.element v.bytes v.long

values_plain : (type : DataType) (cells : List Cell) → is_fixed type ≡ true → list_all (is_value type) cells ≡ true → list_all (is_value (plain_type type)) cells ≡ true
values_plain type cells one h =
    all_pass (is_value (plain_type type)) cells
    (each_weaker (λ (c : Cell). is_value type c ≡ true) (λ (c : Cell). is_value (plain_type type) c ≡ true) cells (λ c is. value_plain type c one is) (each_passes (is_value type) cells h))

width_plain : (type : DataType) → is_fixed type ≡ true → byte_width (plain_type type) ≡ byte_width type
width_plain type one = ap Some (bytes_in_plain (components type)) ∙ sym (ap (λ (b : Bool). if b then Some (bytes_in (components type)) else None) one)

pub large_plain : (type : DataType) (count : ℕ) → is_fixed type ≡ true → IsTooLarge (plain_type type) count → IsTooLarge type count
large_plain type count one large = elim large [
  | inl many ↦ inl many
  | inr wide ↦ inr (subst (λ (o : Option ℕ). MatchOption o ⊥ (λ width. 2 ^ 63 ≤ count * width)) (width_plain type one) wide)
]

not_variable : (type : DataType) → is_fixed type ≡ true → is_variable type ≡ false
not_variable bool h = refl
not_variable (integer sign width) h = refl
not_variable (custom parts) h = refl
not_variable string h = absurd (false≢true h)
not_variable variable_bytes h = absurd (false≢true h)
not_variable (optional_of type) h = refl

not_optional : (type : DataType) → is_fixed type ≡ true → inner_type type ≡ None
not_optional bool h = refl
not_optional (integer sign width) h = refl
not_optional (custom parts) h = refl
not_optional string h = refl
not_optional variable_bytes h = refl
not_optional (optional_of type) h = absurd (false≢true h)

-- a payload is the same elements
pub cells_plain : (type : DataType) (payload : Payload) → is_fixed type ≡ true → cells_in (plain_type type) payload ≡ cells_in type payload
cells_plain type (fixed content) one = ap (option_and_then (λ width. fixed_in width content)) (width_plain type one)
cells_plain type (variable content offsets) one = sym (ap (λ (b : Bool). if b then variable_in offsets content else None) (not_variable type one))
cells_plain type (optional_payload payload mask) one =
    sym (ap (option_and_then (λ (of_type : DataType). option_and_then (λ cells. masked_in cells mask) (cells_in of_type payload))) (not_optional type one))

-- ---- chains

pub fixed_of_fit : (chain : Chain) (type : DataType) (shape : List ℕ) → IsInPart chain → fits chain type shape ≡ true → is_fixed type ≡ true
fixed_of_fit (bytes order) type shape is fit = (and_parts (is_fixed type) (order_fits order (components type)) fit).0
fixed_of_fit (packbits padding first last) type shape is fit = absurd (false≢true is.partly)
fixed_of_fit (vlen index «data» width location) type shape is fit = absurd (false≢true is.partly)
fixed_of_fit (optional mask values) type shape is fit = absurd (false≢true is.partly)
fixed_of_fit (after_array_codec codec chain) type shape is fit =
    fixed_of_fit chain type (encoded_shape codec shape) (inner codec chain is) (and_parts (array_codec_fits codec shape) (fits chain type (encoded_shape codec shape)) fit).1
fixed_of_fit (then_bytes chain codec) type shape is fit = absurd (false≢true is.partly)
fixed_of_fit (sharded subchunk within index location) type shape is fit = absurd (false≢true is.plain)

pub fits_plain : (chain : Chain) (type : DataType) (shape : List ℕ) → IsInPart chain → fits chain type shape ≡ true → fits chain (plain_type type) shape ≡ true
fits_plain (bytes order) type shape is fit =
    ap (λ (b : Bool). is_some order || b) (singles_plain (components type)) ∙ (and_parts (is_fixed type) (order_fits order (components type)) fit).1
fits_plain (packbits padding first last) type shape is fit = absurd (false≢true is.partly)
fits_plain (vlen index «data» width location) type shape is fit = absurd (false≢true is.partly)
fits_plain (optional mask values) type shape is fit = absurd (false≢true is.partly)
fits_plain (after_array_codec codec chain) type shape is fit =
    let both = and_parts (array_codec_fits codec shape) (fits chain type (encoded_shape codec shape)) fit in
    ap (λ (b : Bool). b && fits chain (plain_type type) (encoded_shape codec shape)) both.0 ∙ fits_plain chain type (encoded_shape codec shape) (inner codec chain is) both.1
fits_plain (then_bytes chain codec) type shape is fit = absurd (false≢true is.partly)
fits_plain (sharded subchunk within index location) type shape is fit = absurd (false≢true is.plain)

opens_plain : (chain : Chain) (elements : Elements) (shape value : List ℕ) → IsInPart chain → opens chain (plain_elements elements) shape value ≡ opens chain elements shape value
opens_plain (bytes order) elements shape value is = ap (λ n. length value == n * product shape) (bytes_in_plain (components elements.type))
opens_plain (packbits padding first last) elements shape value is = absurd (false≢true is.partly)
opens_plain (vlen index «data» width location) elements shape value is = absurd (false≢true is.partly)
opens_plain (optional mask values) elements shape value is = absurd (false≢true is.partly)
opens_plain (after_array_codec codec chain) elements shape value is = opens_plain chain elements (encoded_shape codec shape) value (inner codec chain is)
opens_plain (then_bytes chain codec) elements shape value is = absurd (false≢true is.partly)
opens_plain (sharded subchunk within index location) elements shape value is = absurd (false≢true is.plain)

bytes_plain : (chain : Chain) (type : DataType) (shape value : List ℕ) (n : ℕ) → element_bytes chain (plain_type type) shape value n ≡ element_bytes chain type shape value n
bytes_plain (bytes order) type shape value n = ap (λ width. take width (drop (n * width) value)) (bytes_in_plain (components type))
bytes_plain (packbits padding first last) type shape value n = refl
bytes_plain (vlen index «data» width location) type shape value n = refl
bytes_plain (optional mask values) type shape value n = refl
bytes_plain (after_array_codec codec chain) type shape value n = bytes_plain chain type (encoded_shape codec shape) value (position_of n (source_places codec shape))
bytes_plain (then_bytes chain codec) type shape value n = refl
bytes_plain (sharded subchunk within index location) type shape value n = refl

there_plain : (chain : Chain) (type : DataType) (shape value : List ℕ) (n : ℕ) → cell_there chain (plain_type type) shape value n ≡ cell_there chain type shape value n
there_plain chain type shape value n =
    ap of_bytes (ordered_plain (order_of chain) (components type) (element_bytes chain (plain_type type) shape value n) ∙ ap (ordered (order_of chain) (components type)) (bytes_plain chain type shape value n))

-- a place that is read as plain bytes tells those of the element
pub told_plain : (chain : Chain) (elements : Elements) (shape value : List ℕ) (n : ℕ) (cell : Cell) → IsInPart chain → fits chain elements.type shape ≡ true → n < product shape → chunk_part chain (plain_elements elements) shape (Some value) (n ∷ []) ≡ Some (cell ∷ [])
    → element_bytes chain elements.type shape value n ≡ ordered (order_of chain) (components elements.type) (cell_bytes cell)
told_plain chain elements shape value n cell is fit below h =
    sym (bytes_plain chain elements.type shape value n)
    ∙ (told_bytes chain (plain_elements elements) shape value n cell is (fits_plain chain elements.type shape is fit) below h
    ∙ ordered_plain (order_of chain) (components elements.type) (cell_bytes cell))

-- of bytes each place is read so
read_plain : (chain : Chain) (elements : Elements) (shape value : List ℕ) (n : ℕ) → IsInPart chain → fits chain elements.type shape ≡ true → opens chain elements shape value ≡ true → are_bytes value ≡ true → n < product shape
    → chunk_part chain (plain_elements elements) shape (Some value) (n ∷ []) ≡ Some (cell_there chain elements.type shape value n ∷ [])
read_plain chain elements shape value n is fit opened are below =
    let type = elements.type in
    let plain = plain_elements elements in
    let order = order_of chain in
    let there = cell_there chain type shape value n in
    let element = element_bytes chain type shape value n in
    let made = ordered order (components type) element in
    let opened_plain : opens chain plain shape value ≡ true = opens_plain chain elements shape value is ∙ opened in
    let small : are_bytes made ≡ true = are_bytes_each made (each_ordered (λ b. b < 256) order (components type) element (each_there (λ b. b < 256) chain type shape value n (bytes_below value are))) in
    let long : length made ≡ bytes_in (components type) = length-ordered order (components type) element (long_there chain elements shape value n is fit opened below) in
    let read : cell_at chain plain shape value n ≡ Some there =
    read_there chain plain shape value n is opened_plain ∙ (ap (tested plain.type) (there_plain chain type shape value n) ∙ ap (λ (b : Bool). if b then Some there else None) (plain_value type made small long)) in
    ap (λ (b : Bool). if b then all_there (cell_at chain plain shape value n ∷ []) else None) opened_plain ∙ ap (λ (o : Option Cell). all_there (o ∷ [])) read

-- ---- what is read as plain bytes, read as elements of the type

-- cells, where each is a value of a type
abbrev retested : DataType → Option (List Cell) → Option (List Cell)
retested type found = option_and_then (λ (cells : List Cell). all_there (map (tested type) cells)) found

one_tested : (type : DataType) (cell : Cell) → is_value type cell ≡ true → all_there (tested type cell ∷ []) ≡ Some (cell ∷ [])
one_tested type cell h = ap (λ (b : Bool). all_there ((if b then Some cell else None) ∷ [])) h

none_tested : (type : DataType) (cell : Cell) → is_value type cell ≡ false → all_there (tested type cell ∷ []) ≡ None
none_tested type cell h = ap (λ (b : Bool). all_there ((if b then Some cell else None) ∷ [])) h

lost_again : (type : DataType) (cell : Cell) (t : Bool) → is_value type cell ≡ false → retested type (all_there ((if t then Some cell else None) ∷ [])) ≡ None
lost_again type cell true h = none_tested type cell h
lost_again type cell false h = refl

tested_again : (type : DataType) (cell : Cell) (t : Bool) → is_fixed type ≡ true → is_value type cell ≡ t → all_there (tested type cell ∷ []) ≡ retested type (all_there (tested (plain_type type) cell ∷ []))
tested_again type cell true one h = sym (ap (λ (b : Bool). retested type (all_there ((if b then Some cell else None) ∷ []))) (value_plain type cell one h))
tested_again type cell false one h = none_tested type cell h ∙ sym (lost_again type cell (is_value (plain_type type) cell) h)

part_again : (chain : Chain) (elements : Elements) (shape value : List ℕ) (n : ℕ) (t : Bool) → IsInPart chain → is_fixed elements.type ≡ true → opens chain elements shape value ≡ t
    → part_decoded chain elements shape value (n ∷ []) ≡ retested elements.type (part_decoded chain (plain_elements elements) shape value (n ∷ []))
part_again chain elements shape value n true is one h =
    let type = elements.type in
    let plain = plain_elements elements in
    let there = cell_there chain type shape value n in
    let opened : opens chain plain shape value ≡ true = opens_plain chain elements shape value is ∙ h in
    let read : cell_at chain plain shape value n ≡ tested plain.type there = read_there chain plain shape value n is opened ∙ ap (tested plain.type) (there_plain chain type shape value n) in
    ap (λ (b : Bool). if b then all_there (cell_at chain elements shape value n ∷ []) else None) h
    ∙ (ap (λ (o : Option Cell). all_there (o ∷ [])) (read_there chain elements shape value n is h)
    ∙ (tested_again type there (is_value type there) one refl
    ∙ sym (ap (λ (b : Bool). retested type (if b then all_there (cell_at chain plain shape value n ∷ []) else None)) opened ∙ ap (λ (o : Option Cell). retested type (all_there (o ∷ []))) read)))
part_again chain elements shape value n false is one h =
    let plain = plain_elements elements in
    ap (λ (b : Bool). if b then all_there (cell_at chain elements shape value n ∷ []) else None) h
    ∙ sym (ap (λ (b : Bool). retested elements.type (if b then all_there (cell_at chain plain shape value n ∷ []) else None)) (opens_plain chain elements shape value is ∙ h))

read_again : (chain : Chain) (elements : Elements) (shape : List ℕ) (stored : Option (List ℕ)) (n : ℕ) → IsInPart chain → is_fixed elements.type ≡ true → is_value elements.type elements.fill ≡ true
    → chunk_part chain elements shape stored (n ∷ []) ≡ retested elements.type (chunk_part chain (plain_elements elements) shape stored (n ∷ []))
read_again chain elements shape None n is one fine = sym (one_tested elements.type elements.fill fine)
read_again chain elements shape (Some value) n is one fine = part_again chain elements shape value n (opens chain elements shape value) is one refl

-- ---- a write of a part, as plain bytes

-- a write of values of an array's type to a part of a chunk that fits
pub record IsPartWrite (write : Write) (box : Region) : Type 0 where
  pub chain : IsInPart write.array.document.chain
  pub fit : fits_box write.array.document box ≡ true
  pub fine : is_value write.array.document.elements.type write.array.document.elements.fill ≡ true
  pub values : list_all (is_value write.array.document.elements.type) write.cells ≡ true

opens_in_plain : (write : Write) (box : Region) (stored : Option (List ℕ)) → IsInPart write.array.document.chain → opens_in (plain_write write).array.document box stored ≡ opens_in write.array.document box stored
opens_in_plain write box None is = refl
opens_in_plain write box (Some value) is = opens_plain write.array.document.chain write.array.document.elements box.shape value is

-- why it stops is the same
pub stops_plain : (write : Write) (box : Region) (stored : Option (List ℕ)) (e : ChunkError) → IsInPart write.array.document.chain → PutStops (plain_write write).array.document box stored e → PutStops write.array.document box stored e
stops_plain write box stored error.Fit is h = h
stops_plain write box stored (error.Storage s) is h = h
stops_plain write box stored error.Damage is h = sym (opens_in_plain write box stored is) ∙ h
stops_plain write box stored error.Codec is h = h
stops_plain write box stored error.Size is h = h
stops_plain write box stored error.Memory is h = tt

-- its cells are values of plain bytes
pub become_plain : (write : Write) (shared : Region) (cells : List Cell) → is_fixed write.array.document.elements.type ≡ true → CellsBecome write shared None cells → CellsBecome (plain_write write) shared None cells
become_plain write shared cells one becomes = record {
  many = becomes.many;
  values = values_plain write.array.document.elements.type cells one becomes.values;
  written = becomes.written;
  kept = becomes.kept;
}

module _ (write : Write) (box : Region) (is : IsPartWrite write box) where
  abbrev document : Document
  document = write.array.document

  one_size : is_fixed document.elements.type ≡ true
  one_size = fixed_of_fit document.chain document.elements.type box.shape is.chain is.fit

  -- what a place shows
  again : (stored : Option (List ℕ)) (place : List ℕ) → part_at document box stored place ≡ retested document.elements.type (part_at (plain_write write).array.document box stored place)
  again stored place = read_again document.chain document.elements box.shape stored (number_in box place) is.chain one_size is.fine

  shows_again : (old new : Option (List ℕ)) (place : List ℕ) (t : Bool)
      → MatchBool t (ReadsCell (plain_write write).array.document box new place (given_cell write place)) (part_at (plain_write write).array.document box new place ≡ part_at (plain_write write).array.document box old place)
      → MatchBool t (ReadsCell document box new place (given_cell write place)) (part_at document box new place ≡ part_at document box old place)
  shows_again old new place true h =
      again new place ∙ (ap (retested document.elements.type) h
      ∙ one_tested document.elements.type (given_cell write place) (cell_value (is_value document.elements.type) write.region write.cells document.elements.fill place is.fine is.values))
  shows_again old new place false h = again new place ∙ (ap (retested document.elements.type) h ∙ sym (again old place))

  shows_plain : (old new : Option (List ℕ)) → PutsCells (plain_write write) box old new → ShowsPart (plain_write write) box old new
  shows_plain old new puts = puts.shows (keeps_bits document.chain (plain_type document.elements.type) is.chain)

  -- cells that were put as plain bytes were put
  pub puts_back : (old new : Option (List ℕ)) → PutsCells (plain_write write) box old new → PutsCells write box old new
  puts_back old new puts = record {
    opened = sym (opens_in_plain write box old is.chain) ∙ puts.opened;
    shows = λ lossless place t. shows_again old new place (is_in_box write.region.start write.region.shape place) (shows_plain old new puts place t);
  }

  -- outside of the box
  stays_plain : (old new : Option (List ℕ)) (place : List ℕ) → PutsCells (plain_write write) box old new → is_in_box write.region.start write.region.shape place ≡ false → is_in_box box.start box.shape place ≡ true
      → part_at (plain_write write).array.document box new place ≡ part_at (plain_write write).array.document box old place
  stays_plain old new place puts r t =
      let plain = (plain_write write).array.document in
      subst (λ (b : Bool). MatchBool b (ReadsCell plain box new place (given_cell write place)) (part_at plain box new place ≡ part_at plain box old place)) r (shows_plain old new puts place t)

  -- the bytes that are told of what is read at a place
  told_at : (value : List ℕ) (place : List ℕ) (cell : Cell) → is_in_box box.start box.shape place ≡ true → ReadsCell (plain_write write).array.document box (Some value) place cell
      → element_bytes document.chain document.elements.type box.shape value (number_in box place) ≡ ordered (order_of document.chain) (components document.elements.type) (cell_bytes cell)
  told_at value place cell t h = told_plain document.chain document.elements box.shape value (number_in box place) cell is.chain is.fit (number_below box place t) h

  -- the other elements keep their bytes
  pub keeps_bytes : (stored : Option (List ℕ)) (made : List ℕ) → IfSome stored (λ value. are_bytes value ≡ true) → PutsCells (plain_write write) box stored (Some made) → KeepsBytes write box stored (Some made)
  keeps_bytes None made are puts = tt
  keeps_bytes (Some value) made are puts = λ place r t.
      let n = number_in box place in
      let cell = cell_there document.chain document.elements.type box.shape value n in
      let opened : opens document.chain document.elements box.shape value ≡ true = sym (opens_in_plain write box (Some value) is.chain) ∙ puts.opened in
      let before = read_plain document.chain document.elements box.shape value n is.chain is.fit opened are (number_below box place t) in
      told_at made place cell t (stays_plain (Some value) (Some made) place puts r t ∙ before) ∙ sym (told_at value place cell t before)

  -- also where no value was left, and then the fill value encoded
  pub keeps_filled : (stored : Option (List ℕ)) (made : List ℕ) → ((n : ℕ) → n < product box.shape → chunk_part document.chain document.elements box.shape (Some made) (n ∷ []) ≡ Some (document.elements.fill ∷ []))
      → PutsCells (plain_write write) box stored None → KeepsBytes write box stored (Some made)
  keeps_filled None made filled puts = tt
  keeps_filled (Some value) made filled puts = λ place r t.
      let n = number_in box place in
      let below = number_below box place t in
      told_bytes document.chain document.elements box.shape made n document.elements.fill is.chain is.fit below (filled n below)
      ∙ sym (told_at value place document.elements.fill t (sym (stays_plain (Some value) None place puts r t)))
