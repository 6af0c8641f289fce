-- Bytes that are values of a type of one number.
use Rattle.std.proofs.Common.{◌≡◌, ℕ, ◌/◌, ◌<◌, List, [], ◌∷◌, length, map, ap, ◌∙◌, sym, refl, subst, arith, inl, inr, Option, Some, None, Result, Ok, Err, Bool, true, false, if◌then◌else◌, is_ok, option_map, option_and_then}
use Rattle.std.specs.List.{list_all}
use Rattle.std.proofs.lemmas.Bool.{and_parts, and_cases}
use Rattle.serde_json.specs.Data.{Data, array, Items, no_items, item}
use Rattle.serde_json.specs.View.{items_of}
use Rattle.zarr_codecs_meaning.specs.Types.{DataType, bool, integer, custom, string, variable_bytes, optional_of, byte_width, is_fixed, Cell, of_bytes, absent, present, cell_bytes, is_value, is_value_in_bytes}
use Rattle.zarr_codecs_meaning.specs.Payloads.{Payload, fixed, fixed_cells, fixed_in, cells_in}
use Rattle.zarr_codecs_meaning.proofs.Lists.{some_same}
use Rattle.zarr_codecs_meaning.proofs.Values.{fixed_value}
use Rattle.zarr_codecs_types.specs.FillMetadata.{bytes_data, cell_data}
use Rattle.zarr_codecs_arrays.specs.Outcomes.{Validates}
use Rattle.zarr_codecs_arrays.specs.declared.error.CodecError.{CodecError}
use Rattle.zarr_codecs_arrays.specs.declared.error.CodecError.TheVariants as error
use Rattle.zarr_codecs_arrays.proofs.FixedCells.{IsWhole, fixed_in-whole, fixed_in-some, length-fixed_cells}
use Rattle.zarr_codecs_json.specs.Texts.{single_width, element_data, fixed_data}
use Rattle.zarr_codecs_json.specs.Outcomes.{elements_data, payload_data, AreValues}

-- a type of one number has elements of one width
pub known_width : (type : DataType) (width : ℕ) → single_width type ≡ Some width → byte_width type ≡ Some width
known_width bool width h = ap Some (omega (arith, some_same h))
known_width (integer sign bits) width h = ap Some (omega (arith, some_same h))
known_width (custom parts) width h = cc
known_width string width h = cc
known_width variable_bytes width h = cc
known_width (optional_of inner) width h = cc

pub known_fixed : (type : DataType) (width : ℕ) → single_width type ≡ Some width → is_fixed type ≡ true
known_fixed bool width h = refl
known_fixed (integer sign bits) width h = refl
known_fixed (custom parts) width h = cc
known_fixed string width h = cc
known_fixed variable_bytes width h = cc
known_fixed (optional_of inner) width h = cc

-- ---- elements that are no values

no_data : (type : DataType) (cell : Cell) → is_value type cell ≡ false → cell_data type cell ≡ None
no_data type (of_bytes bytes) h = ap (λ (b : Bool). if b then bytes_data type bytes else None) h
no_data bool absent h = refl
no_data (integer sign bits) absent h = refl
no_data (custom parts) absent h = refl
no_data string absent h = refl
no_data variable_bytes absent h = refl
no_data (optional_of inner) absent h = cc
no_data bool (present cell) h = refl
no_data (integer sign bits) (present cell) h = refl
no_data (custom parts) (present cell) h = refl
no_data string (present cell) h = refl
no_data variable_bytes (present cell) h = refl
no_data (optional_of inner) (present cell) h = ap (option_map (λ d. array (item d no_items))) (no_data inner cell h)

and_none : (o : Option Data) → option_and_then (λ d. option_map (λ ds. item d ds) None) o ≡ None
and_none None = refl
and_none (Some d) = refl

no_list : (type : DataType) (cells : List Cell) → list_all (is_value type) cells ≡ false → elements_data type cells ≡ None
no_list type [] h = cc
no_list type (cell ∷ cells) h = elim (and_cases (is_value type cell) (list_all (is_value type) cells) h) [
  | inl e ↦ ap (option_and_then (λ d. option_map (λ ds. item d ds) (elements_data type cells))) (no_data type cell e)
  | inr e ↦ ap (λ (o : Option Items). option_and_then (λ d. option_map (λ ds. item d ds) o) (cell_data type cell)) (no_list type cells e) ∙ and_none (cell_data type cell)
]

none_of : (type : DataType) (o : Option (List Cell)) → o ≡ None → option_and_then (elements_data type) o ≡ None
none_of type o h = ap (option_and_then (elements_data type)) h

count_of : (type : DataType) (width : ℕ) (bytes : List ℕ) (cells : List Cell) → byte_width type ≡ Some width → cells_in type (fixed bytes) ≡ Some cells → IsWhole width bytes cells
count_of type width bytes cells wide is = fixed_in-whole width bytes cells (sym (ap (λ (o : Option ℕ). option_and_then (λ n. fixed_in n bytes) o) wide) ∙ is)

pub refused : {A : Type 0} (type : DataType) (width : ℕ) (bytes : List ℕ) (r : Result A CodecError) → single_width type ≡ Some width → Validates type (fixed bytes) (length bytes / width) r → is_ok r ≡ false → payload_data type (fixed bytes) ≡ None
refused type width bytes (Ok v) wide h e = cc
refused type width bytes (Err error.ExpectedFixedLengthBytes) wide h e = none_of type (cells_in type (fixed bytes)) h.0
refused type width bytes (Err error.ExpectedVariableLengthBytes) wide h e = none_of type (cells_in type (fixed bytes)) h.0
refused type width bytes (Err error.ExpectedOptionalBytes) wide h e = none_of type (cells_in type (fixed bytes)) h.0
refused type width bytes (Err error.InvalidNumberOfElements) wide (inl h) e = none_of type (cells_in type (fixed bytes)) h.0
refused type width bytes (Err error.InvalidNumberOfElements) wide (inr h) e =
    let w = count_of type width bytes h.0 (known_width type width wide) h.1 in
    absurd (h.2 (ap length w.is ∙ length-fixed_cells width bytes))
refused type width bytes (Err error.CellOutOfRange) wide h e = ap (option_and_then (elements_data type)) h.1.lists ∙ no_list type h.0 h.2
refused type width bytes (Err error.Fit) wide h e = elim h [ ]
refused type width bytes (Err error.Damage) wide h e = elim h [ ]
refused type width bytes (Err error.Codec) wide h e = elim h [ ]
refused type width bytes (Err error.Source) wide h e = elim h [ ]
refused type width bytes (Err error.Size) wide h e = elim h [ ]
refused type width bytes (Err error.IncompatibleIndexer) wide h e = elim h [ ]
refused type width bytes (Err error.Unsupported) wide h e = elim h [ ]
refused type width bytes (Err error.Memory) wide h e = elim h [ ]
refused type width bytes (Err (error.Other text)) wide h e = elim h [ ]

pub accepted : {A : Type 0} (type : DataType) (width : ℕ) (payload : Payload) (bytes : List ℕ) (r : Result A CodecError) → single_width type ≡ Some width → payload ≡ fixed bytes → Validates type (fixed bytes) (length bytes / width) r → is_ok r ≡ true → AreValues type width payload bytes
accepted type width payload bytes (Ok v) wide p h e =
    let valid = h.1 in
    let w = count_of type width bytes h.0 (known_width type width wide) valid.is.lists in
    record { is = p; whole = w.whole; values = ap (list_all (is_value type)) (sym w.is) ∙ valid.values }
accepted type width payload bytes (Err x) wide p h e = cc

-- ---- elements that are values

pub some_data : (type : DataType) (width : ℕ) (bytes : List ℕ) → single_width type ≡ Some width → bytes_data type bytes ≡ Some (element_data type bytes)
some_data bool width bytes h = refl
some_data (integer sign bits) width bytes h = refl
some_data (custom parts) width bytes h = cc
some_data string width bytes h = cc
some_data variable_bytes width bytes h = cc
some_data (optional_of inner) width bytes h = cc

value_data : (type : DataType) (width : ℕ) (cell : Cell) → single_width type ≡ Some width → is_value type cell ≡ true → cell_data type cell ≡ Some (element_data type (cell_bytes cell))
value_data type width cell wide h =
    let v = fixed_value type cell (known_fixed type width wide) h in
    let inside : is_value_in_bytes type v.element ≡ true = ap (is_value type) (sym v.is) ∙ h in
    ap (cell_data type) v.is ∙ (ap (λ (b : Bool). if b then bytes_data type v.element else None) inside
    ∙ (some_data type width v.element wide ∙ ap (λ (c : Cell). Some (element_data type (cell_bytes c))) (sym v.is)))

list_data : (type : DataType) (width : ℕ) (cells : List Cell) → single_width type ≡ Some width → list_all (is_value type) cells ≡ true → elements_data type cells ≡ Some (items_of (map (λ cell. element_data type (cell_bytes cell)) cells))
list_data type width [] wide h = refl
list_data type width (cell ∷ cells) wide h =
    let both = and_parts (is_value type cell) (list_all (is_value type) cells) h in
    ap (option_and_then (λ d. option_map (λ ds. item d ds) (elements_data type cells))) (value_data type width cell wide both.0)
    ∙ ap (option_map (λ ds. item (element_data type (cell_bytes cell)) ds)) (list_data type width cells wide both.1)

pub whole_data : (type : DataType) (width : ℕ) (payload : Payload) (bytes : List ℕ) → 0 < width → single_width type ≡ Some width → AreValues type width payload bytes → payload_data type payload ≡ Some (fixed_data type width bytes)
whole_data type width payload bytes h wide are =
    ap (payload_data type) are.is
    ∙ (ap (λ (o : Option ℕ). option_and_then (elements_data type) (option_and_then (λ n. fixed_in n bytes) o)) (known_width type width wide)
    ∙ (ap (option_and_then (elements_data type)) (fixed_in-some width bytes h are.whole)
    ∙ list_data type width (fixed_cells width bytes) wide are.values))

pub refused_at : {A : Type 0} (type : DataType) (width count : ℕ) (payload : Payload) (bytes : List ℕ) (r : Result A CodecError) → single_width type ≡ Some width → payload ≡ fixed bytes → count ≡ length bytes / width → Validates type payload count r → is_ok r ≡ false → payload_data type payload ≡ None
refused_at type width count payload bytes r wide p n h e = ap (payload_data type) p ∙ refused type width bytes r wide (subst (λ k. Validates type (fixed bytes) k r) n (subst (λ q. Validates type q count r) p h)) e
