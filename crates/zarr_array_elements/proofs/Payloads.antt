-- Payloads of elements of one size.
use Rattle.std.proofs.Common.{◌≡◌, ◌∙◌, ℕ, ◌*◌, ◌/◌, ◌%◌, ◌<◌, List, length, refl, sym, ap, arith, Some, None, Bool, false, if◌then◌else◌, option_and_then}
use Rattle.std.specs.Prelude.{nat_lt, ◌==◌, ◌&&◌}
use Rattle.std.proofs.lemmas.Bool.{eqb-true, and_parts}
use Rattle.std.proofs.lemmas.Nat.{div-add-mod'}
use Rattle.std.proofs.lemmas.List.FromFn.{length-map-range_with_len}
use Rattle.zarr_codecs_meaning.specs.Payloads.{Payload, fixed, variable, optional, cells_in, fixed_in, fixed_cells, variable_in, masked_in}
use Rattle.zarr_codecs_meaning.specs.Types.{DataType, bool, integer, custom, string, variable_bytes, optional_of, byte_width, is_variable, inner_type, Cell, of_bytes}
use Rattle.zarr_codecs_meaning.proofs.Lists.{if_some, some_same}
use Rattle.zarr_array_elements.proofs.FixedCells.{text_of, fixed_read}

-- bytes that are whole elements
pub record AreElements (width : ℕ) (bytes : List ℕ) (cells : List Cell) : Type 0 where
  pub is : cells ≡ fixed_cells width bytes
  pub long : length bytes ≡ length cells * width

pub fixed_elements : (type : DataType) (width : ℕ) (bytes : List ℕ) (cells : List Cell) → byte_width type ≡ Some width → cells_in type (fixed bytes) ≡ Some cells → AreElements width bytes cells
fixed_elements type width bytes cells sized h =
    let found : fixed_in width bytes ≡ Some cells = sym (ap (option_and_then (λ w. fixed_in w bytes)) sized) ∙ h in
    let both = if_some (nat_lt 0 width && (length bytes % width == 0)) (Some (fixed_cells width bytes)) cells found in
    let tests = and_parts (nat_lt 0 width) (length bytes % width == 0) both.0 in
    let whole = eqb-true (length bytes % width) 0 tests.1 in
    let same : fixed_cells width bytes ≡ cells = some_same both.1 in
    let many : length cells ≡ length bytes / width = ap length (sym same) ∙ length-map-range_with_len (λ k. of_bytes (text_of width bytes k)) 0 (length bytes / width) in
    record {
      is = sym same;
      long = sym (div-add-mod' (length bytes) width) ∙ (omega (arith, whole) ∙ ap (λ n. n * width) (sym many));
    }

-- elements of one size have no other form
not_variable : (type : DataType) (width : ℕ) → byte_width type ≡ Some width → is_variable type ≡ false
not_variable bool width h = refl
not_variable (integer sign bits) width h = refl
not_variable (custom parts) width h = refl
not_variable string width h = cc
not_variable variable_bytes width h = cc
not_variable (optional_of inner) width h = refl

not_optional : (type : DataType) (width : ℕ) → byte_width type ≡ Some width → inner_type type ≡ None
not_optional bool width h = refl
not_optional (integer sign bits) width h = refl
not_optional (custom parts) width h = refl
not_optional string width h = refl
not_optional variable_bytes width h = refl
not_optional (optional_of inner) width h = cc

pub never_variable : (type : DataType) (width : ℕ) (bytes offsets : List ℕ) (cells : List Cell) → byte_width type ≡ Some width → cells_in type (variable bytes offsets) ≡ Some cells → ⊥
never_variable type width bytes offsets cells sized h =
    let e : None ≡ Some cells = sym (ap (λ (b : Bool). if b then variable_in offsets bytes else None) (not_variable type width sized)) ∙ h in
    cc

pub never_optional : (type : DataType) (width : ℕ) (inner : Payload) (mask : List ℕ) (cells : List Cell) → byte_width type ≡ Some width → cells_in type (optional inner mask) ≡ Some cells → ⊥
never_optional type width inner mask cells sized h =
    let e : None ≡ Some cells = sym (ap (option_and_then (λ (of_type : DataType). option_and_then (λ cells. masked_in cells mask) (cells_in of_type inner))) (not_optional type width sized)) ∙ h in
    cc

-- as many bytes as the elements take are those elements
pub fixed_listed : (type : DataType) (width count : ℕ) (bytes : List ℕ) → byte_width type ≡ Some width → 0 < width → length bytes ≡ count * width → cells_in type (fixed bytes) ≡ Some (fixed_cells width bytes)
fixed_listed type width count bytes sized some long = ap (option_and_then (λ w. fixed_in w bytes)) sized ∙ fixed_read width count bytes some long
