-- What a part of a value is decoded to: the elements at its places in the other order, where each is a value.
use Rattle.std.proofs.Common.{◌≡◌, ℕ, zero, suc, ◌+◌, ◌*◌, ◌/◌, ◌^◌, ◌<◌, ◌≤◌, List, [], ◌∷◌, length, get_or, map, take, drop, ap, ◌∙◌, sym, refl, arith, Option, Some, None, option_and_then, Bool, true, inl, inr, if◌then◌else◌, Result, Ok, Err, Vec, Global, subst, zero-mul}
use Rattle.std.proofs.lemmas.Bool.{eq-eqb, ne_eqb, cases_lt, lt-ltb}
use Rattle.std.proofs.lemmas.Simd.{map-map}
use Rattle.std.proofs.lemmas.List.{get_or_past, drop_all}
use Rattle.std.proofs.Math.Seq.{take-nil}
use Rattle.std.proofs.Math.Nat.{mul-div_left, mul-le-mul_right}
use Rattle.std.specs.Prelude.{IfOk, ◌≢◌}
use Rattle.std.specs.List.{list_all}
use Rattle.zarr_grids_boxes.specs.Boxes.{Region, product, places, ravel}
use Rattle.zarr_grids_boxes.proofs.InBox.{length-places}
use Rattle.zarr_codecs_meaning.specs.Types.{DataType, components, bytes_in, is_fixed, byte_width, Cell, of_bytes, cell_bytes, is_value, Elements, IsTooLarge}
use Rattle.zarr_codecs_meaning.specs.Chains.{Endianness, Chain}
use Rattle.zarr_codecs_meaning.specs.Chains.Chain.{bytes}
use Rattle.zarr_codecs_meaning.specs.Places.{gather}
use Rattle.zarr_codecs_meaning.specs.Encoding.{ordered}
use Rattle.zarr_codecs_meaning.specs.Decoding.{all_there, tested, element_at, is_whole, cell_at, part_decoded}
use Rattle.zarr_codecs_meaning.specs.Fits.{fits}
use Rattle.zarr_codecs_meaning.specs.Payloads.{fixed, fixed_cells}
use Rattle.zarr_codecs_meaning.proofs.Lists.{some_same}
use Rattle.zarr_codecs_arrays.specs.Outcomes.{IsValid, Validates}
use Rattle.zarr_codecs_arrays.specs.declared.error.CodecError.{CodecError}
use Rattle.zarr_codecs_arrays.specs.declared.error.CodecError.TheVariants as error
use Rattle.zarr_codecs_types.specs.Parts.{word_sized}
use Rattle.zarr_codecs_arrays.proofs.Counts.{known_width}
use Rattle.zarr_codecs_arrays.proofs.FixedCells.{fixed_cells-nil, get_or-fixed_cells, length-fixed_cells}
use Rattle.zarr_codecs_traits.specs.Indexers.{Asked, in_box, are_inside, shape_has, numbers_asked, numbers_of}
use Rattle.zarr_codecs_traits.specs.Arrays.{coded}
use Rattle.zarr_codecs_traits.specs.Outcomes.{DecodesPart, IsPart}
use Rattle.zarr_codecs_regions.proofs.InsideArray.{inside_product}
use Rattle.zarr_codecs_regions.proofs.FillValues.{larger_too}
use Rattle.zarr_codecs_bytes.specs.Orders.{all_ordered}
use Rattle.zarr_codecs_bytes.specs.Parts.{IsExtracted, fixed_array}
use Rattle.zarr_codecs_bytes.proofs.Decoding.{tested_all, IsRead, made_counted, refused_value}
use Rattle.zarr_codecs_bytes.proofs.Orders.{cells_ordered}

-- ---- elements

-- what is past the end is an element of no bytes
abbrev pub nothing : Cell
nothing = of_bytes []

-- the element with this number, also past the end
element_in : (width count : ℕ) (value : List ℕ) (n : ℕ) → 0 < width → length value ≡ count * width → get_or (fixed_cells width value) n nothing ≡ of_bytes (take width (drop (n * width) value))
element_in width count value n some long = elim (cases_lt n count) [
  | inl below ↦ get_or-fixed_cells width value n nothing (omega (arith, below, many))
  | inr past ↦
      let all : count * width ≤ n * width = mul-le-mul_right width past in
      get_or_past (fixed_cells width value) n nothing (omega (arith, many, past, length-fixed_cells width value)) ∙ sym (ap (λ ns. of_bytes (take width ns)) (drop_all (n * width) value (omega (arith, all, long))) ∙ ap of_bytes (take-nil width))
] where
  many : length value / width ≡ count
  many = ap (λ n. n / width) long ∙ mul-div_left count some

-- what is known of the elements of a part once they are put in the other order
pub record IsPartRead (order : Option Endianness) (type : DataType) (shape : List ℕ) (asked : Asked) (count : ℕ) (value extracted made : List ℕ) : Type 0 where
  pub fit : fits (bytes order) type [] ≡ true
  pub positive : 0 < bytes_in (components type)
  pub whole : length value ≡ product shape * bytes_in (components type)
  pub inside : are_inside shape asked ≡ true
  pub long : length extracted ≡ count * bytes_in (components type)
  pub elements : fixed_cells (bytes_in (components type)) extracted ≡ gather nothing (fixed_cells (bytes_in (components type)) value) (numbers_asked shape asked)
  pub is : made ≡ all_ordered order (components type) extracted

part_as_read : (order : Option Endianness) (type : DataType) (shape : List ℕ) (asked : Asked) (count : ℕ) (value extracted made : List ℕ) → IsPartRead order type shape asked count value extracted made → IsRead order type count extracted made
part_as_read order type shape asked count value extracted made read = record { fit = read.fit; positive = read.positive; long = read.long; is = read.is }

-- a part of a value is the elements of its places in the other order, where each is a value
pub part_made : (order : Option Endianness) (elements : Elements) (shape : List ℕ) (asked : Asked) (count : ℕ) (value extracted made : List ℕ) → IsPartRead order elements.type shape asked count value extracted made
    → part_decoded (bytes order) elements shape value (numbers_asked shape asked)
    ≡ (if list_all (is_value elements.type) (fixed_cells (bytes_in (components elements.type)) made) then Some (fixed_cells (bytes_in (components elements.type)) made) else None)
part_made order elements shape asked count value extracted made read =
    let type = elements.type in
    let parts = components type in
    let width = bytes_in parts in
    let ns = numbers_asked shape asked in
    let step = λ (cell : Cell). of_bytes (ordered order parts (cell_bytes cell)) in
    let turned : product shape * width ≡ width * product shape = grind arith in
    let is : is_whole type shape value ≡ true = eq-eqb (length value) (width * product shape) (read.whole ∙ turned) in
    let cells : fixed_cells width made ≡ map (λ n. step (get_or (fixed_cells width value) n nothing)) ns =
    ap (fixed_cells width) read.is ∙ (cells_ordered order parts count extracted read.positive read.long ∙ (ap (map step) read.elements ∙ map-map step (λ n. get_or (fixed_cells width value) n nothing) ns)) in
    let each : map (tested type) (fixed_cells width made) ≡ map (element_at order type value) ns =
    ap (map (tested type)) cells ∙ (map-map (tested type) (λ n. step (get_or (fixed_cells width value) n nothing)) ns
    ∙ ap (λ (f : ℕ → Option Cell). map f ns) (λ i n. (ap (λ cell. tested type (step cell)) (element_in width (product shape) value n read.positive read.whole)) i)) in
    ap (λ (b : Bool). if b then all_there (map (λ n. if b then element_at order type value n else None) ns) else None) is
    ∙ (ap all_there (sym each) ∙ tested_all type (fixed_cells width made))

-- ---- what the test of values says

pub part_valid : (order : Option Endianness) (elements : Elements) (shape : List ℕ) (asked : Asked) (count : ℕ) (value extracted made : List ℕ) (cells : List Cell) → IsPartRead order elements.type shape asked count value extracted made
    → IsValid elements.type (fixed made) count cells → IsPart (coded (bytes order) elements shape) (Some value) asked (fixed made)
part_valid order elements shape asked count value extracted made cells read valid =
    let width = bytes_in (components elements.type) in
    let counted = made_counted order elements.type count extracted made (part_as_read order elements.type shape asked count value extracted made read) in
    let same : cells ≡ fixed_cells width made = some_same (sym valid.is.lists ∙ counted.lists) in
    let values : list_all (is_value elements.type) (fixed_cells width made) ≡ true = ap (list_all (is_value elements.type)) (sym same) ∙ valid.values in
    record {
      cells = cells;
      fit = read.fit;
      inside = read.inside;
      lists = valid.is.lists;
      is = part_made order elements shape asked count value extracted made read ∙ (ap (λ (b : Bool). if b then Some (fixed_cells width made) else None) values ∙ ap Some (sym same));
    }

pub part_damaged : (order : Option Endianness) (elements : Elements) (shape : List ℕ) (asked : Asked) (count : ℕ) (value extracted made : List ℕ) (e : CodecError) → IsPartRead order elements.type shape asked count value extracted made
    → Validates {A = Unit {0}} elements.type (fixed made) count (Err e) → part_decoded (bytes order) elements shape value (numbers_asked shape asked) ≡ None
part_damaged order elements shape asked count value extracted made e read refused =
    let cells = fixed_cells (bytes_in (components elements.type)) made in
    let counted = made_counted order elements.type count extracted made (part_as_read order elements.type shape asked count value extracted made read) in
    part_made order elements shape asked count value extracted made read ∙ ap (λ (b : Bool). if b then Some cells else None) (refused_value elements.type made count cells e counted refused)

-- a value of another length has no part
pub part_not_whole : (order : Option Endianness) (elements : Elements) (shape value ns : List ℕ) → (length value ≡ product shape * bytes_in (components elements.type) → ⊥) → part_decoded (bytes order) elements shape value ns ≡ None
part_not_whole order elements shape value ns other =
    let width = bytes_in (components elements.type) in
    let turned : product shape * width ≡ width * product shape = grind arith in
    ap (λ (b : Bool). if b then all_there (map (cell_at (bytes order) elements shape value) ns) else None) (ne_eqb (length value) (width * product shape) (λ e. other (e ∙ sym turned)))

-- ---- the bytes of a part

-- a number that is not below a limit
pub at_least : (n limit : ℕ) → (n < limit → ⊥) → limit ≤ n
at_least n limit h = elim (cases_lt n limit) [ inl below ↦ absurd (h below) | inr above ↦ above ]

-- the width that a type of one size has
pub fixed_width : (type : DataType) (width : ℕ) → is_fixed type ≡ true → Some width ≡ option_and_then word_sized (byte_width type) → width ≡ bytes_in (components type)
fixed_width type width one_size h =
    let known : byte_width type ≡ Some (bytes_in (components type)) = ap (λ (b : Bool). if b then Some (bytes_in (components type)) else None) one_size in
    some_same (sym (known_width type width h) ∙ known)

pub extracted_by : {E : Type 0} (r : Result (Vec ℕ Global) E) (width other_width : ℕ) (value shape : List ℕ) (region : Region) → width ≡ other_width
    → ((other : Cell) → IfOk r (λ v. fixed_cells width v.items ≡ gather other (fixed_cells width value) (numbers_of shape region))) → IfOk r (λ v. length v.items ≡ product region.shape * width)
    → (other : Cell) → IfOk r (λ v. IsExtracted (fixed_array other_width value shape) region other v.items)
extracted_by (Ok v) width other_width value shape region same elements long other = subst (λ w. IsExtracted (fixed_array w value shape) region other v.items) same (record { long = long; elements = elements other })
extracted_by (Err e) width other_width value shape region same elements long other = tt

-- elements that are too wide for a slice are none
pub no_places : (n width m : ℕ) → m ≤ n → n * width < 2 ^ 64 → 2 ^ 64 ≤ width → m ≡ 0
no_places zero width m few small wide = omega arith
no_places (suc n) width m few small wide = let more : suc n * width ≡ width + n * width = grind arith in absurd (omega (arith, more, small, wide))

-- the width of a type whose elements are too wide for a slice
pub too_wide : (type : DataType) → is_fixed type ≡ true → None ≡ option_and_then word_sized (byte_width type) → 2 ^ 64 ≤ bytes_in (components type)
too_wide type one_size h =
    let width = bytes_in (components type) in
    let known : byte_width type ≡ Some width = ap (λ (b : Bool). if b then Some width else None) one_size in
    at_least width (2 ^ 64) (λ below. let e : None ≡ Some width = h ∙ (ap (option_and_then word_sized) known ∙ ap (λ (b : Bool). if b then Some width else None) (lt-ltb width (2 ^ 64) below)) in cc)

-- an array whose elements are too wide for a slice has none
pub nothing_extracted : (type : DataType) (value shape : List ℕ) (region : Region) (extracted : List ℕ) → is_fixed type ≡ true → None ≡ option_and_then word_sized (byte_width type) → length value ≡ product shape * bytes_in (components type) → length value < 2 ^ 64
    → length region.shape ≡ length region.start → shape_has shape region ≡ true → extracted ≡ [] → (other : Cell) → IsExtracted (fixed_array (bytes_in (components type)) value shape) region other extracted
nothing_extracted type value shape region extracted one_size h whole few l inside empty other =
    let width = bytes_in (components type) in
    let wide : 2 ^ 64 ≤ width = too_wide type one_size h in
    let none : product region.shape ≡ 0 = no_places (product shape) width (product region.shape) (inside_product shape region l inside) (omega (arith, whole, few)) wide in
    let no_numbers : numbers_of shape region ≡ [] = ap (map (λ place. ravel place shape)) (no_elements (places region.start region.shape) (length-places region.start region.shape (sym l) ∙ none)) in
    record {
      long = ap length empty ∙ sym (ap (λ n. n * width) none ∙ zero-mul width);
      elements = ap (fixed_cells width) empty ∙ (fixed_cells-nil width ∙ sym (ap (gather other (fixed_cells width value)) no_numbers));
    } where
      no_elements : (ps : List (List ℕ)) → length ps ≡ 0 → ps ≡ []
      no_elements [] h = refl
      no_elements (p ∷ ps) h = absurd (omega arith)

-- a part whose elements have no width has none
pub no_width : (type : DataType) (shape : List ℕ) (region : Region) (size : ℕ) → is_fixed type ≡ true → None ≡ option_and_then word_sized (byte_width type) → size ≡ product shape * bytes_in (components type) → size < 2 ^ 63
    → length region.shape ≡ length region.start → shape_has shape region ≡ true → product region.shape ≡ 0
no_width type shape region size one_size h all small l inside =
    no_places (product shape) (bytes_in (components type)) (product region.shape) (inside_product shape region l inside) (omega (arith, all, small)) (too_wide type one_size h)

-- ---- a part that is too large

-- elements of a part that cannot be counted
pub uncounted_part : (chain : Chain) (elements : Elements) (shape : List ℕ) (stored : Option (List ℕ)) (region : Region) (type : DataType) (count : ℕ) (e : CodecError) → length region.shape ≡ length region.start → shape_has shape region ≡ true → type ≡ elements.type → count ≡ product region.shape
    → (e ≢ error.Memory → (e ≡ error.Size) × IsTooLarge type count) → DecodesPart (coded chain elements shape) stored (in_box region) (Err e)
uncounted_part chain elements shape stored region type count error.Memory l inside same many large = tt
uncounted_part chain elements shape stored region type count error.Size l inside same many large = larger_too elements.type shape region l inside (subst (λ t. IsTooLarge t (product region.shape)) same (subst (IsTooLarge type) many (large (λ q. cc)).1))
uncounted_part chain elements shape stored region type count error.Source l inside same many large = tt
uncounted_part chain elements shape stored region type count error.Fit l inside same many large = absurd (let h = (large (λ q. cc)).0 in cc)
uncounted_part chain elements shape stored region type count error.IncompatibleIndexer l inside same many large = absurd (let h = (large (λ q. cc)).0 in cc)
uncounted_part chain elements shape stored region type count error.Damage l inside same many large = absurd (let h = (large (λ q. cc)).0 in cc)
uncounted_part chain elements shape stored region type count error.Codec l inside same many large = absurd (let h = (large (λ q. cc)).0 in cc)
uncounted_part chain elements shape stored region type count error.CellOutOfRange l inside same many large = absurd (let h = (large (λ q. cc)).0 in cc)
uncounted_part chain elements shape stored region type count error.InvalidNumberOfElements l inside same many large = absurd (let h = (large (λ q. cc)).0 in cc)
uncounted_part chain elements shape stored region type count error.ExpectedFixedLengthBytes l inside same many large = absurd (let h = (large (λ q. cc)).0 in cc)
uncounted_part chain elements shape stored region type count error.ExpectedVariableLengthBytes l inside same many large = absurd (let h = (large (λ q. cc)).0 in cc)
uncounted_part chain elements shape stored region type count error.ExpectedOptionalBytes l inside same many large = absurd (let h = (large (λ q. cc)).0 in cc)
uncounted_part chain elements shape stored region type count error.Unsupported l inside same many large = absurd (let h = (large (λ q. cc)).0 in cc)
uncounted_part chain elements shape stored region type count (error.Other text) l inside same many large = absurd (let h = (large (λ q. cc)).0 in cc)
