-- Bytes that are values of a type.
use Rattle.std.proofs.Common.{◌≡◌, ℕ, ◌+◌, ◌<◌, ◌^◌, arith, List, ◌∷◌, [], get_or, Bool, true, false, ◌&&◌, if◌then◌else◌, Option, Some, None, ap, ◌∙◌, sym}
use Rattle.std.proofs.lemmas.Bool.{lt-ltb}
use mir.Val.{Fits}
use mir.Syntax.{w8}
use Rattle.zarr_codecs_meaning.specs.Types.{DataType, bool, integer, custom, string, variable_bytes, optional_of, Component, components, is_fixed, is_variable, are_bytes, bytes_in, is_value_in_bytes}
use Rattle.zarr_codecs_types.specs.Parts.{are_components_of, single_component, word_sized}
use Rattle.zarr_codecs_types.proofs.Bytes.{are_bytes_all}

of_bytes : (type : DataType) (bytes : List ℕ) → are_bytes bytes ≡ true → is_value_in_bytes type bytes ≡ (if is_fixed type then are_components_of (components type) bytes else is_variable type)
of_bytes type bytes h = ap (λ (b : Bool). b && (if is_fixed type then are_components_of (components type) bytes else is_variable type)) h

pub custom_value : (parts : List Component) (bytes : List ℕ) → ((i : ℕ) → Fits w8 (get_or bytes i 0)) → are_components_of parts bytes ≡ is_value_in_bytes (custom parts) bytes
custom_value parts bytes h = sym (of_bytes (custom parts) bytes (are_bytes_all bytes h))

abbrev of_part : Option Component → List ℕ → Bool
of_part None bytes = true
of_part (Some part) bytes = are_components_of (part ∷ []) bytes

pub single_value : (type : DataType) (part : Component) (bytes : List ℕ) → Some part ≡ single_component type → ((i : ℕ) → Fits w8 (get_or bytes i 0)) → are_components_of (part ∷ []) bytes ≡ is_value_in_bytes type bytes
single_value bool part bytes e h = ap (λ (o : Option Component). of_part o bytes) e ∙ sym (of_bytes bool bytes (are_bytes_all bytes h))
single_value (integer sign width) part bytes e h = ap (λ (o : Option Component). of_part o bytes) e ∙ sym (of_bytes (integer sign width) bytes (are_bytes_all bytes h))
single_value (custom parts) part bytes e h = cc
single_value string part bytes e h = cc
single_value variable_bytes part bytes e h = cc
single_value (optional_of inner) part bytes e h = cc

pub variable_value : (type : DataType) (bytes : List ℕ) → is_fixed type ≡ false → is_variable type ≡ true → ((i : ℕ) → Fits w8 (get_or bytes i 0)) → true ≡ is_value_in_bytes type bytes
variable_value type bytes fixed variable h =
    sym (of_bytes type bytes (are_bytes_all bytes h) ∙ (ap (λ (b : Bool). if b then are_components_of (components type) bytes else is_variable type) fixed ∙ variable))

-- the bytes of all components, where a count came to their end
pub counted : (count n : ℕ) (rest : List Component) → n ≡ count + bytes_in rest → rest ≡ [] → count < 2 ^ 64 → Some count ≡ word_sized n
counted count n rest e none small =
    let same : n ≡ count = e ∙ (ap (λ cs. count + bytes_in cs) none ∙ omega arith) in
    ap (λ (b : Bool). if b then Some count else None) (sym (lt-ltb count (2 ^ 64) small)) ∙ ap word_sized (sym same)
