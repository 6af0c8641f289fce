-- What `packbits` makes of elements, and what it decodes a value to.
use Rattle.std.proofs.Common.{◌≡◌, ℕ, zero, suc, ◌+◌, ◌-◌, ◌*◌, ◌/◌, ◌%◌, ◌^◌, ◌<◌, ◌≤◌, List, [], ◌∷◌, length, map, take, drop, ap, ◌∙◌, sym, subst, refl, arith, Option, Some, None, option_and_then, Bool, true, false, Err, ◌==◌, if◌then◌else◌, length-append, length-drop, length-take, inl, inr}
use Rattle.std.proofs.lemmas.Bool.{and_parts, eq-eqb, ne_eqb, leb-true, lt-ltb, cases_lt}
use Rattle.std.proofs.lemmas.List.FromFn.{length-range_with_len}
use Rattle.std.proofs.Math.Nat.{mul-mod_left, mul_comm, le-mul_of_pos_right}
use Rattle.std.specs.List.{flat_map, list_all, range_with_len}
use Rattle.std.specs.Prelude.{nat_lt, nat_le}
use Rattle.zarr_grids_boxes.specs.Boxes.{product}
use Rattle.zarr_codecs_meaning.specs.Numbers.{digits, number}
use Rattle.zarr_codecs_meaning.specs.Types.{DataType, Component, components, bytes_in, byte_width, is_fixed, is_value, extended, Cell, of_bytes, cell_bytes, Elements}
use Rattle.zarr_codecs_meaning.specs.Chains.{Padding}
use Rattle.zarr_codecs_meaning.specs.Chains.Chain.{packbits}
use Rattle.zarr_codecs_meaning.specs.Chains.Padding.{no_padding_byte, first_byte, last_byte}
use Rattle.zarr_codecs_meaning.specs.Places.{place_numbers}
use Rattle.zarr_codecs_meaning.specs.Encoding.{encoded, packed, with_padding, element_bits, element_of_bits}
use Rattle.zarr_codecs_meaning.specs.Decoding.{decoded, without_padding, unpacked}
use Rattle.zarr_codecs_meaning.specs.Fits.{fits, bits_fit, bits_in, kept_bits, last_kept, padding_size, packed_size}
use Rattle.zarr_codecs_meaning.specs.Laws.{AreCells}
use Rattle.zarr_codecs_meaning.specs.Payloads.{Payload, fixed, fixed_cells, fixed_in, cells_in}
use Rattle.zarr_codecs_meaning.proofs.Lists.{Each, every, each_append, length-flat_map}
use Rattle.zarr_codecs_meaning.proofs.Digits.{digits_below}
use Rattle.zarr_codecs_meaning.proofs.Elements.{on_true, are_bits, each-flat_map}
use Rattle.zarr_codecs_meaning.proofs.Values.{length-digits}
use Rattle.zarr_codecs_meaning.proofs.Representations.{encoded_size}
use Rattle.zarr_codecs_arrays.specs.Outcomes.{IsValid}
use Rattle.zarr_codecs_arrays.specs.declared.error.CodecError.{CodecError}
use Rattle.zarr_codecs_arrays.specs.declared.error.CodecError.TheVariants as error
use Rattle.zarr_codecs_arrays.proofs.FixedCells.{fixed_in-some, fixed_in-whole, fixed_cells-cons, fixed_cells-nil, length-fixed_cells, whole_length}
use Rattle.zarr_codecs_types.specs.Parts.{word_sized}
use Rattle.zarr_codecs_traits.specs.Arrays.{coded}
use Rattle.zarr_codecs_traits.specs.Outcomes.{Decodes, IsEncoded, IsDecoded}
use Rattle.zarr_codecs_packbits.specs.Packing.{IsUncounted, kept_of, element_in, bytes_of}
use Rattle.zarr_codecs_packbits.specs.Turning as turning
use Rattle.zarr_codecs_packbits.specs.Turning.{bits_of, element_bits_read, turn_by}
use Rattle.zarr_codecs_packbits.specs.declared.turning.Turn.{Turn}
use Rattle.zarr_codecs_packbits.specs.declared.turning.Way.TheVariants.{Keep, Restore}
use Rattle.zarr_codecs_packbits.proofs.BitLists.{are_bits_each, bits_of_bits, length-bits_of, packed_bits}
use Rattle.zarr_codecs_packbits.proofs.Turns.{keep_read, keep_all, restore_read, restore_all}

-- ---- bits

pub kept_are_bits : (first : ℕ) (last : Option ℕ) (parts : List Component) (bytes : List ℕ) → turning.are_bits (kept_of first last parts bytes) ≡ true
kept_are_bits first last parts bytes =
    are_bits_each (kept_of first last parts bytes) (each-flat_map (λ b. b < 2) (λ (cell : Cell). element_bits first last parts (cell_bytes cell)) (fixed_cells (bytes_in parts) bytes) (λ cell. are_bits first last parts (cell_bytes cell)))

pub enough_to_keep : (first : ℕ) (last : Option ℕ) (parts : List Component) (count : ℕ) (bytes : List ℕ) → length bytes ≡ count * bytes_in parts → count * element_bits_read Keep first last parts ≤ length (bits_of bytes)
enough_to_keep first last parts count bytes long =
    let turned : count * (8 * bytes_in parts) ≡ 8 * (count * bytes_in parts) = grind arith in
    let read : count * element_bits_read Keep first last parts ≡ count * (8 * bytes_in parts) = ap (λ n. count * n) (keep_read first last parts) in
    omega (arith, turned, read, long, length-bits_of bytes)

length-without_padding : (padding : Padding) (value : List ℕ) → padding_size padding ≤ length value → length (without_padding padding value) + padding_size padding ≡ length value
length-without_padding no_padding_byte value h = omega arith
length-without_padding first_byte value h = omega (arith, h, length-drop 1 value)
length-without_padding last_byte value h = omega (arith, h, length-take (length value - 1) value)

pub enough_to_restore : (padding : Padding) (first : ℕ) (last : Option ℕ) (parts : List Component) (count : ℕ) (value : List ℕ) → length value ≡ packed_size padding first last parts count
    → count * element_bits_read Restore first last parts ≤ length (bits_of (without_padding padding value))
enough_to_restore padding first last parts count value long =
    let inner = without_padding padding value in
    let all = bits_in first last parts * count in
    let read : count * element_bits_read Restore first last parts ≡ all = ap (λ n. count * n) (restore_read first last parts) ∙ grind arith in
    let some : length inner + padding_size padding ≡ length value = length-without_padding padding value (omega (arith, long)) in
    omega (arith, read, some, long, length-bits_of inner)

pub all_bits : (bytes bits : List ℕ) → bits ≡ bits_of bytes → turning.are_bits bits ≡ true
all_bits bytes bits is = ap turning.are_bits is ∙ are_bits_each (bits_of bytes) (bits_of_bits bytes)

-- what was kept of elements
pub kept_is : (turn : Turn) (first : ℕ) (last : Option ℕ) (parts : List Component) (count : ℕ) (bytes bits kept : List ℕ) → turn ≡ record { way = Keep; first = first; last = last } → bits ≡ bits_of bytes
    → kept ≡ turning.turned turn parts count bits → 0 < bytes_in parts → length bytes ≡ count * bytes_in parts → Each (λ b. b < 256) bytes → kept ≡ kept_of first last parts bytes
kept_is turn first last parts count bytes bits kept t b k some long h =
    k ∙ (ap (λ (u : Turn). turning.turned u parts count bits) t ∙ (ap (turning.turned (turn_by Keep first last) parts count) b ∙ keep_all first last parts count bytes some long h))

-- what was restored of kept bits
pub restored_is : (turn : Turn) (first : ℕ) (last : Option ℕ) (parts : List Component) (count : ℕ) (given bits all : List ℕ) → turn ≡ record { way = Restore; first = first; last = last } → bits ≡ given
    → all ≡ turning.turned turn parts count bits → all ≡ bits_of (bytes_of first last parts count given)
restored_is turn first last parts count given bits all t b k =
    k ∙ (ap (λ (u : Turn). turning.turned u parts count bits) t ∙ (ap (turning.turned (turn_by Restore first last) parts count) b ∙ restore_all first last parts count given))

element_bytes : (first : ℕ) (last : Option ℕ) (parts : List Component) (bits : List ℕ) → Each (λ b. b < 256) (element_of_bits first last parts bits)
element_bytes first last [] bits = tt
element_bytes first last (c ∷ cs) bits =
    let kept = kept_bits first last c in
    let made = extended c.sign (last_kept last c + 1) c.byte_count (number 2 (take kept bits) * 2 ^ first) in
    each_append (λ b. b < 256) (digits 256 c.byte_count made) (element_of_bits first last cs (drop kept bits)) (digits_below 256 c.byte_count made (omega arith)) (element_bytes first last cs (drop kept bits))

-- the bytes that restored bits are packed to
pub restored_bytes : (first : ℕ) (last : Option ℕ) (parts : List Component) (count : ℕ) (given all : List ℕ) → all ≡ bits_of (bytes_of first last parts count given) → packed all ≡ bytes_of first last parts count given
restored_bytes first last parts count given all is =
    ap packed is
    ∙ packed_bits (bytes_of first last parts count given)
    (each-flat_map (λ b. b < 256) (element_in first last parts given) (range_with_len 0 count) (λ n. element_bytes first last parts (take (bits_in first last parts) (drop (n * bits_in first last parts) given))))

-- ---- encoding

-- the elements that valid bytes are
pub record AreGiven (type : DataType) (given : List ℕ) (count : ℕ) (cells : List Cell) : Type 0 where
  pub are : cells ≡ fixed_cells (bytes_in (components type)) given
  pub long : length given ≡ count * bytes_in (components type)
  pub positive : 0 < bytes_in (components type)

pub fixed_cells_in : (type : DataType) (value : List ℕ) → is_fixed type ≡ true → cells_in type (fixed value) ≡ fixed_in (bytes_in (components type)) value
fixed_cells_in type value h = ap (λ (b : Bool). option_and_then (λ width. fixed_in width value) (if b then Some (bytes_in (components type)) else None)) h

pub given_cells : (type : DataType) (given : List ℕ) (count : ℕ) (cells : List Cell) → is_fixed type ≡ true → IsValid type (fixed given) count cells → AreGiven type given count cells
given_cells type given count cells fit valid =
    let width = bytes_in (components type) in
    let w = fixed_in-whole width given cells (sym (fixed_cells_in type given fit) ∙ valid.is.lists) in
    let many : length given / width ≡ count = sym (ap length w.is ∙ length-fixed_cells width given) ∙ valid.is.many in
    record { are = w.is; long = whole_length width given w.whole ∙ ap (λ n. n * width) many; positive = w.positive }

pub fixed_where : (padding : Padding) (first : ℕ) (last : Option ℕ) (type : DataType) (shape : List ℕ) → fits (packbits padding first last) type shape ≡ true → is_fixed type ≡ true
fixed_where padding first last type shape fit = (and_parts (is_fixed type) (list_all (bits_fit first last) (components type)) fit).0

pub IsValid-at : {type other : DataType} {payload : Payload} {count places : ℕ} {cells : List Cell} → type ≡ other → count ≡ places → IsValid type payload count cells → IsValid other payload places cells
IsValid-at {other = other} {payload = payload} {count = count} {cells = cells} t n valid = subst (λ k. IsValid other payload k cells) n (subst (λ y. IsValid y payload count cells) t valid)

pub packbits_encodes : (padding : Padding) (first : ℕ) (last : Option ℕ) (elements : Elements) (shape given made : List ℕ) (cells : List Cell) → is_value elements.type elements.fill ≡ true → fits (packbits padding first last) elements.type shape ≡ true
    → IsValid elements.type (fixed given) (product shape) cells → made ≡ with_padding padding (kept_of first last (components elements.type) given) → IsEncoded (coded (packbits padding first last) elements shape) true (fixed given) cells made
packbits_encodes padding first last elements shape given made cells fill fit valid is =
    let parts = components elements.type in
    let chain = packbits padding first last in
    let g = given_cells elements.type given (product shape) cells (fixed_where padding first last elements.type shape fit) valid in
    let whole : encoded chain elements shape cells ≡ Some made = ap (λ (cs : List Cell). Some (with_padding padding (flat_map (λ cell. element_bits first last parts (cell_bytes cell)) cs))) g.are ∙ ap Some (sym is) in
    let are : AreCells elements shape cells = record { fill = fill; values = valid.values; whole = valid.is.many } in
    record {
      valid = valid;
      fit = fit;
      made = whole;
      encodes = λ _. whole;
      stands = λ _. whole;
      sized = encoded_size chain elements shape made cells tt fit are whole;
      gapless = tt;
    }

-- ---- decoding

length_made : (first : ℕ) (last : Option ℕ) (parts : List Component) (bits : List ℕ) → length (element_of_bits first last parts bits) ≡ bytes_in parts
length_made first last [] bits = refl
length_made first last (c ∷ cs) bits =
    let kept = kept_bits first last c in
    let made = extended c.sign (last_kept last c + 1) c.byte_count (number 2 (take kept bits) * 2 ^ first) in
    let rest = length_made first last cs (drop kept bits) in
    length-append (digits 256 c.byte_count made) (element_of_bits first last cs (drop kept bits)) ∙ omega (arith, rest, length-digits 256 c.byte_count made)

pub length-element_in : (first : ℕ) (last : Option ℕ) (parts : List Component) (bits : List ℕ) (n : ℕ) → length (element_in first last parts bits n) ≡ bytes_in parts
length-element_in first last parts bits n = length_made first last parts (take (bits_in first last parts) (drop (n * bits_in first last parts) bits))

cells_from : (first : ℕ) (last : Option ℕ) (parts : List Component) (bits : List ℕ) (start count : ℕ) → 0 < bytes_in parts
    → fixed_cells (bytes_in parts) (flat_map (element_in first last parts bits) (range_with_len start count)) ≡ map (λ n. of_bytes (element_in first last parts bits n)) (range_with_len start count)
cells_from first last parts bits start zero some = fixed_cells-nil (bytes_in parts)
cells_from first last parts bits start (suc count) some =
    let make = element_in first last parts bits in
    fixed_cells-cons (bytes_in parts) (make start) (flat_map make (range_with_len (start + 1) count)) some (length-element_in first last parts bits start)
    ∙ ap (λ (cs : List Cell). of_bytes (make start) ∷ cs) (cells_from first last parts bits (start + 1) count some)

pub packbits_decodes : (padding : Padding) (first : ℕ) (last : Option ℕ) (elements : Elements) (shape value made : List ℕ) → fits (packbits padding first last) elements.type shape ≡ true → 0 < bytes_in (components elements.type)
    → length value ≡ packed_size padding first last (components elements.type) (product shape) → made ≡ bytes_of first last (components elements.type) (product shape) (bits_of (without_padding padding value))
    → IsDecoded (coded (packbits padding first last) elements shape) value (fixed made)
packbits_decodes padding first last elements shape value made fit some long is =
    let type = elements.type in
    let parts = components type in
    let width = bytes_in parts in
    let count = product shape in
    let bits = bits_of (without_padding padding value) in
    let cells = map (unpacked first last type bits) (place_numbers shape) in
    let make = element_in first last parts bits in
    let total : length made ≡ count * width = ap length is ∙ (length-flat_map make width (range_with_len 0 count) (every (λ n. length (make n) ≡ width) (range_with_len 0 count) (length-element_in first last parts bits)) ∙ ap (λ n. n * width) (length-range_with_len 0 count)) in
    let whole : length made % width ≡ 0 = ap (λ n. n % width) total ∙ mul-mod_left count width in
    let found : fixed_cells width made ≡ cells = ap (fixed_cells width) is ∙ cells_from first last parts bits 0 count some in
    record {
      cells = cells;
      fit = fit;
      lists = fixed_cells_in type made (fixed_where padding first last type shape fit) ∙ (fixed_in-some width made some whole ∙ ap Some found);
      is = on_true (length value == packed_size padding first last parts count) (Some cells) None (eq-eqb (length value) (packed_size padding first last parts count) long);
    }

-- ---- arrays of 2^63 elements or more

keeps_a_bit : (first : ℕ) (last : Option ℕ) (parts : List Component) → list_all (bits_fit first last) parts ≡ true → 0 < bytes_in parts → 0 < bits_in first last parts
keeps_a_bit first last [] fit some = absurd (omega (arith, some))
keeps_a_bit first last (c ∷ cs) fit some =
    let one = and_parts (bits_fit first last c) (list_all (bits_fit first last) cs) fit in
    let in_order = leb-true first (last_kept last c) (and_parts (nat_le first (last_kept last c)) (nat_lt (last_kept last c) c.width) one.0).0 in
    omega (arith, in_order)

packed_long : (padding bits count : ℕ) → 0 < bits → 2 ^ 63 ≤ count → 2 ^ 60 ≤ padding + (bits * count + 7) / 8
packed_long padding bits count some many =
    let more : count ≤ bits * count = ap-le (mul_comm count bits) (le-mul_of_pos_right count some) in
    omega (arith, more, many) where
      ap-le : {a b n : ℕ} → a ≡ b → n ≤ a → n ≤ b
      ap-le e h = omega (arith, e, h)

-- a value of fewer bytes than so many elements are packed to
pub too_short : (padding : Padding) (first : ℕ) (last : Option ℕ) (elements : Elements) (shape value : List ℕ) → fits (packbits padding first last) elements.type shape ≡ true → 0 < bytes_in (components elements.type) → (product shape < 2 ^ 63 → ⊥) → length value < 2 ^ 60
    → decoded (packbits padding first last) elements shape value ≡ None
too_short padding first last elements shape value fit some many short =
    let parts = components elements.type in
    let bits = keeps_a_bit first last parts (and_parts (is_fixed elements.type) (list_all (bits_fit first last) parts) fit).1 some in
    let count : 2 ^ 63 ≤ product shape = elim (cases_lt (product shape) (2 ^ 63)) [ inl less ↦ absurd (many less) | inr more ↦ more ] in
    let long = packed_long (padding_size padding) (bits_in first last parts) (product shape) bits count in
    let cells = map (unpacked first last elements.type (bits_of (without_padding padding value))) (place_numbers shape) in
    ap (λ (b : Bool). elim b [ true ↦ Some cells | false ↦ None ]) (ne_eqb (length value) (packed_size padding first last parts (product shape)) (λ e. let f : ⊥ = omega (arith, e, long, short) in f))

-- why a value is not decoded to so many
pub uncounted : (padding : Padding) (first : ℕ) (last : Option ℕ) (elements : Elements) (shape value : List ℕ) (e : CodecError) → fits (packbits padding first last) elements.type shape ≡ true → 0 < bytes_in (components elements.type) → (product shape < 2 ^ 63 → ⊥) → IsUncounted value e
    → Decodes (coded (packbits padding first last) elements shape) value (Err e)
uncounted padding first last elements shape value error.Damage fit some many h = (fit, too_short padding first last elements shape value fit some many h)
uncounted padding first last elements shape value error.Size fit some many h = elim (cases_lt (product shape) (2 ^ 63)) [ inl less ↦ absurd (many less) | inr more ↦ inl more ]
uncounted padding first last elements shape value e fit some many h = absurd h

-- ---- types without bytes

pub wide_has_bytes : (type : DataType) → None ≡ option_and_then word_sized (byte_width type) → is_fixed type ≡ true → 0 < bytes_in (components type)
wide_has_bytes type h one_size =
    let width = bytes_in (components type) in
    let known : byte_width type ≡ Some width = ap (λ (b : Bool). if b then Some width else None) one_size in
    elim (cases_lt width (2 ^ 64)) [
      | inl less ↦ let e : None ≡ Some width = h ∙ (ap (option_and_then word_sized) known ∙ ap (λ (b : Bool). if b then Some width else None) (lt-ltb width (2 ^ 64) less)) in absurd (no_some width e)
      | inr more ↦ omega (arith, more)
    ] where
      no_some : (n : ℕ) → None ≡ Some n → ⊥
      no_some n e = cc
