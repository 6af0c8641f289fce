-- Elements of one width that are values.
use Rattle.std.proofs.Common.{◌≡◌, ℕ, ◌*◌, ◌<◌, ◌≤◌, List, [], ◌∷◌, length, map, take, drop, get_or, ap, ◌∙◌, sym, refl, arith, Some, Bool, true, false, ◌&&◌, length-take, take-append-drop}
use Rattle.std.specs.List.{list_all, range_with_len}
use Rattle.std.proofs.lemmas.Bool.{agree_below, agree_below_at}
use Rattle.std.proofs.Math.Nat.{div-eq_of_lt}
use mir.Val.{Fits}
use mir.Syntax.{w8}
use Rattle.zarr_codecs_meaning.specs.Types.{DataType, byte_width, of_bytes, is_value, is_value_in_bytes}
use Rattle.zarr_codecs_meaning.specs.Payloads.{fixed_cells}
use Rattle.zarr_codecs_meaning.proofs.Lists.{Each, some_same}
use Rattle.zarr_codecs_types.proofs.Bytes.{each_byte}
use Rattle.zarr_codecs_arrays.proofs.FixedCells.{fixed_cells-nil, fixed_cells-cons}

-- bytes with at least one element
pub first_value : (type : DataType) (width : ℕ) (bytes : List ℕ) → 0 < width → width ≤ length bytes
    → list_all (is_value type) (fixed_cells width bytes) ≡ (is_value_in_bytes type (take width bytes) && list_all (is_value type) (fixed_cells width (drop width bytes)))
first_value type width bytes h enough =
    let long : length (take width bytes) ≡ width = length-take width bytes ∙ omega arith in
    ap (λ ns. list_all (is_value type) (fixed_cells width ns)) (sym (take-append-drop width bytes))
    ∙ ap (list_all (is_value type)) (fixed_cells-cons width (take width bytes) (drop width bytes) h long)

pub first_no_value : (type : DataType) (width : ℕ) (bytes : List ℕ) (first : Bool) → 0 < width → width ≤ length bytes → first ≡ is_value_in_bytes type (take width bytes) → first ≡ false → false ≡ list_all (is_value type) (fixed_cells width bytes)
first_no_value type width bytes first h enough is wrong =
    sym (first_value type width bytes h enough ∙ ap (λ (b : Bool). b && list_all (is_value type) (fixed_cells width (drop width bytes))) (sym is ∙ wrong))

pub first_is_value : (type : DataType) (width : ℕ) (bytes : List ℕ) (first : Bool) → 0 < width → width ≤ length bytes → first ≡ is_value_in_bytes type (take width bytes) → first ≡ true
    → list_all (is_value type) (fixed_cells width bytes) ≡ list_all (is_value type) (fixed_cells width (drop width bytes))
first_is_value type width bytes first h enough is right =
    first_value type width bytes h enough ∙ ap (λ (b : Bool). b && list_all (is_value type) (fixed_cells width (drop width bytes))) (sym is ∙ right)

-- bytes with no whole element
pub no_values : (type : DataType) (width : ℕ) (bytes : List ℕ) → length bytes < width → list_all (is_value type) (fixed_cells width bytes) ≡ true
no_values type width bytes few = ap (λ n. list_all (is_value type) (map (λ k. of_bytes (take width (drop (k * width) bytes))) (range_with_len 0 n))) (div-eq_of_lt few)

-- ---- elements of one byte

byte_values : (type : DataType) (test : ℕ → Bool) (bytes : List ℕ) → agree_below test (λ b. is_value_in_bytes type (b ∷ [])) 256 ≡ true → Each (λ b. b < 256) bytes → list_all test bytes ≡ list_all (is_value type) (fixed_cells 1 bytes)
byte_values type test [] agree h = sym (ap (list_all (is_value type)) (fixed_cells-nil 1))
byte_values type test (b ∷ bytes) agree h =
    ap (λ (t : Bool). t && list_all test bytes) (agree_below_at test (λ n. is_value_in_bytes type (n ∷ [])) 256 b agree h.0)
    ∙ (ap (λ (t : Bool). is_value_in_bytes type (b ∷ []) && t) (byte_values type test bytes agree h.1)
    ∙ sym (ap (list_all (is_value type)) (fixed_cells-cons 1 (b ∷ []) bytes (omega arith) refl)))

-- by a test of each byte, of a type whose elements have one byte
pub one_byte_values : (known type : DataType) (test : ℕ → Bool) (width : ℕ) (bytes : List ℕ) → byte_width known ≡ Some 1 → agree_below test (λ b. is_value_in_bytes known (b ∷ [])) 256 ≡ true → type ≡ known → byte_width type ≡ Some width
    → ((i : ℕ) → Fits w8 (get_or bytes i 0)) → list_all test bytes ≡ list_all (is_value type) (fixed_cells width bytes)
one_byte_values known type test width bytes one agree is wide fits =
    let single : 1 ≡ width = some_same (sym one ∙ (ap byte_width (sym is) ∙ wide)) in
    byte_values known test bytes agree (each_byte bytes fits)
    ∙ (ap (λ t. list_all (is_value t) (fixed_cells 1 bytes)) (sym is) ∙ ap (λ n. list_all (is_value type) (fixed_cells n bytes)) single)
