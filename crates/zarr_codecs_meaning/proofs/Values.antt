-- Cells that are values, and their bytes.
use Rattle.std.proofs.Common.{◌≡◌, ℕ, zero, suc, ◌/◌, ◌^◌, List, [], ◌∷◌, length, take, drop, ap, ◌∙◌, sym, refl, arith, Option, Some, None, Bool, true, ◌&&◌, ◌==◌, if◌then◌else◌, length-append, length-take, length-drop}
use Rattle.std.proofs.lemmas.List.{length-reverse}
use Rattle.std.proofs.lemmas.Map.Views.{exact_unsigned_eq}
use Rattle.std.proofs.lemmas.Bool.{and_parts}
use Rattle.zarr_codecs_meaning.specs.Numbers.{digits, number}
use Rattle.zarr_codecs_meaning.specs.Types.{DataType, bool, integer, custom, string, variable_bytes, optional_of, Component, components, bytes_in, is_fixed, is_variable, is_value, are_bytes, are_components, Cell, of_bytes, absent, present}
use Rattle.zarr_codecs_meaning.specs.Chains.{Endianness}
use Rattle.zarr_codecs_meaning.specs.Chains.Endianness.{little, big}
use Rattle.zarr_codecs_meaning.specs.Fits.{kept_bits, bits_in}
use Rattle.zarr_codecs_meaning.specs.Encoding.{in_order, ordered, element_bits}

-- a value of a fixed type
pub record IsFixedValue (type : DataType) (cell : Cell) : Type 0 where
  pub element : List ℕ
  pub is : cell ≡ of_bytes element
  pub bytes : are_bytes element ≡ true
  pub long : length element ≡ bytes_in (components type)
  pub fine : are_components (components type) element ≡ true

pub fixed_value : (type : DataType) (cell : Cell) → is_fixed type ≡ true → is_value type cell ≡ true → IsFixedValue type cell
fixed_value type (of_bytes element) fixed h =
    let parts = components type in
    let open_ = ap (λ (b : Bool). are_bytes element && (if b then (length element == bytes_in parts) && are_components parts element else is_variable type)) (sym fixed) ∙ h in
    let one = and_parts (are_bytes element) ((length element == bytes_in parts) && are_components parts element) open_ in
    let two = and_parts (length element == bytes_in parts) (are_components parts element) one.1 in
    record { element = element; is = refl; bytes = one.0; long = exact_unsigned_eq (length element) (bytes_in parts) two.0; fine = two.1 }
fixed_value bool absent fixed h = cc
fixed_value (integer sign width) absent fixed h = cc
fixed_value (custom parts) absent fixed h = cc
fixed_value string absent fixed h = cc
fixed_value variable_bytes absent fixed h = cc
fixed_value (optional_of inner) absent fixed h = cc
fixed_value bool (present cell) fixed h = cc
fixed_value (integer sign width) (present cell) fixed h = cc
fixed_value (custom parts) (present cell) fixed h = cc
fixed_value string (present cell) fixed h = cc
fixed_value variable_bytes (present cell) fixed h = cc
fixed_value (optional_of inner) (present cell) fixed h = cc

pub length-digits : (base count n : ℕ) → length (digits base count n) ≡ count
length-digits base zero n = refl
length-digits base (suc count) n = ap suc (length-digits base count (n / base))

pub length-in_order : (order : Option Endianness) (element : List ℕ) → length (in_order order element) ≡ length element
length-in_order None element = refl
length-in_order (Some little) element = refl
length-in_order (Some big) element = length-reverse element

pub length-ordered : (order : Option Endianness) (parts : List Component) (element : List ℕ) → length element ≡ bytes_in parts → length (ordered order parts element) ≡ bytes_in parts
length-ordered order [] element h = refl
length-ordered order (c ∷ cs) element h =
    let n = c.byte_count in
    let rest = length-ordered order cs (drop n element) (length-drop n element ∙ omega (arith, h)) in
    let first = length-in_order order (take n element) ∙ length-take n element in
    length-append (in_order order (take n element)) (ordered order cs (drop n element)) ∙ omega (arith, h, rest, first)

pub length-element_bits : (first : ℕ) (last : Option ℕ) (parts : List Component) (element : List ℕ) → length (element_bits first last parts element) ≡ bits_in first last parts
length-element_bits first last [] element = refl
length-element_bits first last (c ∷ cs) element =
    let rest = length-element_bits first last cs (drop c.byte_count element) in
    let here = length-digits 2 (kept_bits first last c) (number 256 (take c.byte_count element) / 2 ^ first) in
    length-append (digits 2 (kept_bits first last c) (number 256 (take c.byte_count element) / 2 ^ first)) (element_bits first last cs (drop c.byte_count element)) ∙ omega (arith, rest, here)
