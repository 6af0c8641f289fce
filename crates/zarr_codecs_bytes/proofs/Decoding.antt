-- What `bytes` decodes a value to: the elements that its bytes are in the other order, where each is a value.
use Rattle.std.proofs.Common.{◌≡◌, ℕ, ◌*◌, ◌/◌, ◌%◌, ◌<◌, List, [], ◌∷◌, length, map, take, drop, ap, ◌∙◌, sym, refl, arith, Option, Some, None, option_and_then, option_map, Bool, true, false, ◌&&◌, if◌then◌else◌, Result, Err, subst, inl, inr}
use Rattle.std.specs.List.{list_all, range_with_len}
use Rattle.std.proofs.lemmas.Bool.{eq-eqb, and_parts}
use Rattle.std.proofs.lemmas.Simd.{map-map}
use Rattle.std.proofs.Math.Nat.{mul-div_left, mul-mod_left}
use Rattle.zarr_grids_boxes.specs.Boxes.{product}
use Rattle.zarr_codecs_meaning.specs.Types.{DataType, components, bytes_in, is_fixed, Cell, of_bytes, cell_bytes, is_value, Elements}
use Rattle.zarr_codecs_meaning.specs.Chains.{Endianness}
use Rattle.zarr_codecs_meaning.specs.Chains.Chain.{bytes}
use Rattle.zarr_codecs_meaning.specs.Places.{place_numbers}
use Rattle.zarr_codecs_meaning.specs.Encoding.{ordered}
use Rattle.zarr_codecs_meaning.specs.Decoding.{all_there, tested, element_at, is_whole, decoded}
use Rattle.zarr_codecs_meaning.specs.Fits.{fits, order_fits}
use Rattle.zarr_codecs_meaning.specs.Payloads.{Payload, fixed, fixed_cells, fixed_in, cells_in}
use Rattle.zarr_codecs_meaning.proofs.Lists.{some_same}
use Rattle.zarr_codecs_meaning.proofs.Elements.{on_true}
use Rattle.zarr_codecs_arrays.specs.Outcomes.{IsCounted, IsValid, Validates}
use Rattle.zarr_codecs_arrays.specs.declared.error.CodecError.{CodecError}
use Rattle.zarr_codecs_arrays.specs.declared.error.CodecError.TheVariants as error
use Rattle.zarr_codecs_arrays.proofs.FixedCells.{fixed_in-some, length-fixed_cells}
use Rattle.zarr_codecs_traits.specs.Arrays.{coded}
use Rattle.zarr_codecs_traits.specs.Outcomes.{IsDecoded}
use Rattle.zarr_codecs_bytes.specs.Orders.{all_ordered}
use Rattle.zarr_codecs_bytes.proofs.Orders.{cells_ordered, length-all_ordered}

-- ---- values

both_tested : (a b : Bool) (cell : Cell) (cells : List Cell)
    → option_and_then (λ x. option_map (λ xs. x ∷ xs) (if b then Some cells else None)) (if a then Some cell else None) ≡ (if a && b then Some (cell ∷ cells) else None)
both_tested true true cell cells = refl
both_tested true false cell cells = refl
both_tested false b cell cells = refl

-- all cells, where each is a value
pub tested_all : (type : DataType) (cells : List Cell) → all_there (map (tested type) cells) ≡ (if list_all (is_value type) cells then Some cells else None)
tested_all type [] = refl
tested_all type (cell ∷ cells) =
    ap (λ o. option_and_then (λ x. option_map (λ xs. x ∷ xs) o) (tested type cell)) (tested_all type cells) ∙ both_tested (is_value type cell) (list_all (is_value type) cells) cell cells

-- ---- elements

-- what is known of a value once it is as long as the elements are, and its bytes are put in the other order
pub record IsRead (order : Option Endianness) (type : DataType) (count : ℕ) (value made : List ℕ) : Type 0 where
  pub fit : fits (bytes order) type [] ≡ true
  pub positive : 0 < bytes_in (components type)
  pub long : length value ≡ count * bytes_in (components type)
  pub is : made ≡ all_ordered order (components type) value

-- the same, of an equal type and an equal number of elements
pub read_as : (order : Option Endianness) (type other : DataType) (count places : ℕ) (value made : List ℕ) → type ≡ other → count ≡ places
    → fits (bytes order) type [] ≡ true → 0 < bytes_in (components type) → length value ≡ count * bytes_in (components type) → made ≡ all_ordered order (components type) value → IsRead order other places value made
read_as order type other count places value made t n fit positive long is =
    subst (λ k. IsRead order other k value made) n (subst (λ y. IsRead order y count value made) t (record { fit = fit; positive = positive; long = long; is = is }))

pub IsValid-at : {type other : DataType} {payload : Payload} {count places : ℕ} {cells : List Cell} → type ≡ other → count ≡ places → IsValid type payload count cells → IsValid other payload places cells
IsValid-at {other = other} {payload = payload} {count = count} {cells = cells} t n valid = subst (λ k. IsValid other payload k cells) n (subst (λ y. IsValid y payload count cells) t valid)

pub Validates-at : {type other : DataType} (payload : Payload) {count places : ℕ} (r : Result (Unit {0}) CodecError) → type ≡ other → count ≡ places → Validates type payload count r → Validates other payload places r
Validates-at {other = other} payload {count = count} r t n found = subst (λ k. Validates other payload k r) n (subst (λ y. Validates y payload count r) t found)

-- the elements of a type of one size that bytes are
pub fixed_cells_in : (type : DataType) (value : List ℕ) → is_fixed type ≡ true → cells_in type (fixed value) ≡ fixed_in (bytes_in (components type)) value
fixed_cells_in type value h = ap (λ (b : Bool). option_and_then (λ width. fixed_in width value) (if b then Some (bytes_in (components type)) else None)) h

-- as many elements as were asked for
pub made_counted : (order : Option Endianness) (type : DataType) (count : ℕ) (value made : List ℕ) → IsRead order type count value made → IsCounted type (fixed made) count (fixed_cells (bytes_in (components type)) made)
made_counted order type count value made read =
    let width = bytes_in (components type) in
    let long : length made ≡ count * width = ap length read.is ∙ length-all_ordered order (components type) count value read.positive read.long in
    let whole : length made % width ≡ 0 = ap (λ n. n % width) long ∙ mul-mod_left count width in
    record {
      lists = fixed_cells_in type made (and_parts (is_fixed type) (order_fits order (components type)) read.fit).0 ∙ fixed_in-some width made read.positive whole;
      many = length-fixed_cells width made ∙ (ap (λ n. n / width) long ∙ mul-div_left count read.positive);
    }

-- the elements that a value is decoded to are those that its bytes are in the other order, where each is a value
pub decoded_made : (order : Option Endianness) (elements : Elements) (shape value made : List ℕ) → IsRead order elements.type (product shape) value made
    → decoded (bytes order) elements shape value ≡ (if list_all (is_value elements.type) (fixed_cells (bytes_in (components elements.type)) made) then Some (fixed_cells (bytes_in (components elements.type)) made) else None)
decoded_made order elements shape value made read =
    let type = elements.type in
    let parts = components type in
    let width = bytes_in parts in
    let place = λ (n : ℕ). of_bytes (take width (drop (n * width) value)) in
    let step = λ (cell : Cell). of_bytes (ordered order parts (cell_bytes cell)) in
    let places = place_numbers shape in
    let turned : product shape * width ≡ width * product shape = grind arith in
    let count : length value / width ≡ product shape = ap (λ n. n / width) read.long ∙ mul-div_left (product shape) read.positive in
    let cells : fixed_cells width made ≡ map step (map place places) = ap (fixed_cells width) read.is ∙ (cells_ordered order parts (product shape) value read.positive read.long ∙ ap (λ n. map step (map place (range_with_len 0 n))) count) in
    let each : map (tested type) (map step (map place places)) ≡ map (element_at order type value) places = ap (map (tested type)) (map-map step place places) ∙ map-map (tested type) (λ n. step (place n)) places in
    on_true (is_whole type shape value) (all_there (map (element_at order type value) places)) None (eq-eqb (length value) (width * product shape) (read.long ∙ turned))
    ∙ (ap all_there (sym each ∙ ap (map (tested type)) (sym cells)) ∙ tested_all type (fixed_cells width made))

-- ---- what the test of values says

pub read_valid : (order : Option Endianness) (elements : Elements) (shape value made : List ℕ) (cells : List Cell) → IsRead order elements.type (product shape) value made → IsValid elements.type (fixed made) (product shape) cells
    → IsDecoded (coded (bytes order) elements shape) value (fixed made)
read_valid order elements shape value made cells read valid =
    let width = bytes_in (components elements.type) in
    let counted = made_counted order elements.type (product shape) value made read in
    let same : cells ≡ fixed_cells width made = some_same (sym valid.is.lists ∙ counted.lists) in
    let values : list_all (is_value elements.type) (fixed_cells width made) ≡ true = ap (list_all (is_value elements.type)) (sym same) ∙ valid.values in
    record {
      cells = cells;
      fit = read.fit;
      lists = valid.is.lists;
      is = decoded_made order elements shape value made read ∙ (ap (λ (b : Bool). if b then Some (fixed_cells width made) else None) values ∙ ap Some (sym same));
    }

-- a refusal of elements that are as many as asked for says that one is no value
pub refused_value : (type : DataType) (value : List ℕ) (count : ℕ) (cells : List Cell) (e : CodecError) → IsCounted type (fixed value) count cells → Validates {A = Unit {0}} type (fixed value) count (Err e) → list_all (is_value type) cells ≡ false
refused_value type value count cells error.Fit counted h = absurd h
refused_value type value count cells error.Damage counted h = absurd h
refused_value type value count cells error.Codec counted h = absurd h
refused_value type value count cells error.Source counted h = absurd h
refused_value type value count cells error.Size counted h = absurd h
refused_value type value count cells error.CellOutOfRange counted h =
    let same : h.0 ≡ cells = some_same (sym h.1.lists ∙ counted.lists) in
    ap (list_all (is_value type)) (sym same) ∙ h.2
refused_value type value count cells error.IncompatibleIndexer counted h = absurd h
refused_value type value count cells error.InvalidNumberOfElements counted (inl h) = let k = sym counted.lists ∙ h.0 in cc
refused_value type value count cells error.InvalidNumberOfElements counted (inr h) = absurd (h.2 (ap length (some_same (sym h.1 ∙ counted.lists)) ∙ counted.many))
refused_value type value count cells error.ExpectedFixedLengthBytes counted h = let k = sym counted.lists ∙ h.0 in cc
refused_value type value count cells error.ExpectedVariableLengthBytes counted h = let k = sym counted.lists ∙ h.0 in cc
refused_value type value count cells error.ExpectedOptionalBytes counted h = let k = sym counted.lists ∙ h.0 in cc
refused_value type value count cells error.Unsupported counted h = absurd h
refused_value type value count cells error.Memory counted h = absurd h
refused_value type value count cells (error.Other text) counted h = absurd h

pub read_damaged : (order : Option Endianness) (elements : Elements) (shape value made : List ℕ) (e : CodecError) → IsRead order elements.type (product shape) value made → Validates {A = Unit {0}} elements.type (fixed made) (product shape) (Err e)
    → decoded (bytes order) elements shape value ≡ None
read_damaged order elements shape value made e read refused =
    let cells = fixed_cells (bytes_in (components elements.type)) made in
    let counted = made_counted order elements.type (product shape) value made read in
    decoded_made order elements shape value made read ∙ ap (λ (b : Bool). if b then Some cells else None) (refused_value elements.type made (product shape) cells e counted refused)
