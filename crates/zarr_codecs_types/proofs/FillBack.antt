-- What is written for a fill value reads as that value.
use Rattle.std.proofs.Common.{◌≡◌, ℕ, zero, suc, ◌+◌, ◌*◌, ◌/◌, ◌%◌, ◌<◌, ℤ, pos, negsuc, List, [], ◌∷◌, length, Bool, true, not, if◌then◌else◌, Some, None, option_map, option_and_then, ap, ◌∙◌, sym, refl, arith}
use Rattle.std.specs.Prelude.{bytes_eq}
use Rattle.std.specs.Str.{is_utf8}
use Rattle.std.proofs.lemmas.Bool.{lt-ltb, and_parts}
use Rattle.serde_json.specs.Data.{unsigned as natural, Data, number as numeral, string as text, array, item, no_items}
use Rattle.serde_json.specs.Find.{as_integer, of_integer}
use Rattle.zarr_codecs_meaning.specs.Types.{Sign, unsigned, DataType, bool, integer, custom, string, variable_bytes, optional_of, Cell, of_bytes, absent, present, are_bytes, is_value_in_bytes}
use Rattle.zarr_codecs_meaning.proofs.Lists.{Each, map_some, if_some, some_same}
use Rattle.zarr_codecs_meaning.proofs.Digits.{bytes_below}
use Rattle.zarr_codecs_types.specs.Integers.{integer_bytes}
use Rattle.zarr_codecs_types.specs.FillMetadata.{integer_fits, integer_in, integer_from, bool_bytes, byte_in, byte_list, byte_items, bytes_data, cell_data, cell_in}
use Rattle.zarr_codecs_types.proofs.IntegerValues.{integer_value, from_fits, from_back}

-- ---- integers

same_integer : (z : ℤ) → as_integer (of_integer z) ≡ Some z
same_integer (pos n) = refl
same_integer (negsuc n) = refl

in_back : (sign : Sign) (width : ℕ) (z : ℤ) → integer_fits sign width z ≡ true → integer_in sign width (numeral (of_integer z)) ≡ Some z
in_back sign width z h =
    ap (option_and_then (λ n. if integer_fits sign width n then Some n else None)) (same_integer z) ∙ ap (λ (b : Bool). if b then Some z else None) h

integer_back : (sign : Sign) (width : ℕ) (bytes : List ℕ) → is_value_in_bytes (integer sign width) bytes ≡ true
    → cell_in (integer sign width) (numeral (of_integer (integer_from sign width bytes))) ≡ Some (of_bytes bytes)
integer_back sign width bytes h =
    let value = integer_value sign width bytes h in
    let z = integer_from sign width bytes in
    ap (option_map (λ n. of_bytes (integer_bytes ((width + 7) / 8) n))) (in_back sign width z (from_fits sign width bytes value)) ∙ ap (λ bs. Some (of_bytes bs)) (from_back sign width bytes value)

-- ---- booleans

-- a boolean's number is zero or one
bool_byte : (bytes : List ℕ) → is_value_in_bytes (integer unsigned 1) bytes ≡ true → bool_bytes (not (bytes_eq bytes (0 ∷ []))) ≡ bytes
bool_byte [] h = cc
bool_byte (zero ∷ []) h = refl
bool_byte (suc zero ∷ []) h = refl
bool_byte (suc (suc n) ∷ []) h =
    let value = integer_value unsigned 1 (suc (suc n) ∷ []) h in
    let e : suc (suc n) + 256 * 0 ≡ (suc (suc n) + 256 * 0) % 2 = value.fine in
    absurd (omega arith)
bool_byte (b ∷ c ∷ bytes) h = let value = integer_value unsigned 1 (b ∷ c ∷ bytes) h in let long : suc (suc (length bytes)) ≡ 1 = value.long in absurd (omega arith)

-- ---- lists of bytes

items_back : (bytes : List ℕ) → Each (λ b. b < 256) bytes → byte_list (byte_items bytes) ≡ Some bytes
items_back [] h = refl
items_back (b ∷ bytes) h =
    let here : byte_in (numeral (natural b)) ≡ Some b = ap (λ (t : Bool). if t then Some b else None) (lt-ltb b 256 h.0) in
    ap (option_and_then (λ n. option_map (λ ns. n ∷ ns) (byte_list (byte_items bytes)))) here ∙ ap (option_map (λ ns. b ∷ ns)) (items_back bytes h.1)

-- ---- cells

bytes_back : (type : DataType) (bytes : List ℕ) (d : Data) → is_value_in_bytes type bytes ≡ true → bytes_data type bytes ≡ Some d → cell_in type d ≡ Some (of_bytes bytes)
bytes_back bool bytes d h is = ap (cell_in bool) (sym (some_same is)) ∙ ap (λ bs. Some (of_bytes bs)) (bool_byte bytes h)
bytes_back (integer sign width) bytes d h is = ap (cell_in (integer sign width)) (sym (some_same is)) ∙ integer_back sign width bytes h
bytes_back (custom parts) bytes d h is = absurd (cc)
bytes_back string bytes d h is = let kept = if_some (is_utf8 bytes) (Some (text bytes)) d is in ap (cell_in string) (sym (some_same kept.1))
bytes_back variable_bytes bytes d h is =
    let below = bytes_below bytes (and_parts (are_bytes bytes) true h).0 in
    ap (cell_in variable_bytes) (sym (some_same is)) ∙ ap (option_map of_bytes) (items_back bytes below)
bytes_back (optional_of inner) bytes d h is = absurd (cc)

pub fill_back : (cell : Cell) (type : DataType) (d : Data) → cell_data type cell ≡ Some d → cell_in type d ≡ Some cell
fill_back (of_bytes bytes) type d is = let kept = if_some (is_value_in_bytes type bytes) (bytes_data type bytes) d is in bytes_back type bytes d kept.0 kept.1
fill_back absent (optional_of inner) d is = ap (cell_in (optional_of inner)) (sym (some_same is))
fill_back (present cell) (optional_of inner) d is =
    let found = map_some (λ e. array (item e no_items)) (cell_data inner cell) d is in
    ap (cell_in (optional_of inner)) (sym found.2) ∙ ap (option_map present) (fill_back cell inner found.0 found.1)
fill_back absent bool d is = absurd (cc)
fill_back absent (integer sign width) d is = absurd (cc)
fill_back absent (custom parts) d is = absurd (cc)
fill_back absent string d is = absurd (cc)
fill_back absent variable_bytes d is = absurd (cc)
fill_back (present cell) bool d is = absurd (cc)
fill_back (present cell) (integer sign width) d is = absurd (cc)
fill_back (present cell) (custom parts) d is = absurd (cc)
fill_back (present cell) string d is = absurd (cc)
fill_back (present cell) variable_bytes d is = absurd (cc)
