-- What is read as a fill value is a value of the data type.
use Rattle.std.proofs.Common.{◌≡◌, ℕ, zero, suc, ◌+◌, ◌-◌, ◌*◌, ◌/◌, ◌%◌, ◌^◌, ◌<◌, ◌≤◌, ℤ, pos, negsuc, List, length, take, Bool, true, false, ◌&&◌, ◌==◌, if◌then◌else◌, Option, Some, None, option_map, ap, ◌∙◌, sym, refl, subst, arith, mod-eq_of_lt, pow-add, pow-suc, pow_mono, lt_of_lt_of_le}
use Rattle.std.specs.Prelude.{nat_lt}
use Rattle.std.proofs.lemmas.Bool.{eq-eqb, lt-ltb, ltb-true, le-ltb}
use Rattle.std.proofs.lemmas.List.{take_all}
use Rattle.std.proofs.lemmas.Nat.{pow_pos, mod-mul-add}
use Rattle.serde_json.specs.Data.{Data}
use Rattle.serde_json.specs.Find.{as_bool, as_str}
use Rattle.zarr_codecs_meaning.specs.Numbers.{digits, number}
use Rattle.zarr_codecs_meaning.specs.Types.{Sign, unsigned, signed, Component, DataType, bool, integer, custom, string, variable_bytes, optional_of, Cell, of_bytes, present, extended, are_bytes, is_component, is_value, is_value_in_bytes}
use Rattle.zarr_codecs_meaning.proofs.Lists.{map_some, bind_some, some_same}
use Rattle.zarr_codecs_meaning.proofs.Values.{length-digits}
use Rattle.zarr_codecs_meaning.proofs.Digits.{number_digits, digits_below}
use Rattle.zarr_codecs_types.specs.Integers.{integer_bytes}
use Rattle.zarr_codecs_types.specs.FillMetadata.{integer_fits, integer_in, bool_bytes, bytes_in, option_in, option_cell, cell_in, holds_bytes}
use Rattle.zarr_codecs_types.proofs.Bytes.{are_bytes_each}
use Rattle.zarr_codecs_types.proofs.Skipped.{bytes_power}
use Rattle.zarr_codecs_types.proofs.Integers.{in_range}

-- ---- integers

-- a number as its bytes, where its bits above its own are as they should be
digits_value : (sign : Sign) (width n : ℕ) → n < 256 ^ ((width + 7) / 8) → n ≡ extended sign width ((width + 7) / 8) (n % 2 ^ width) → is_value_in_bytes (integer sign width) (digits 256 ((width + 7) / 8) n) ≡ true
digits_value sign width n small fine =
    let count = (width + 7) / 8 in
    let bytes = digits 256 count n in
    let part : Component = record { width = width; byte_count = count; sign = sign } in
    let back : number 256 bytes ≡ n = number_digits 256 count n (omega arith) ∙ mod-eq_of_lt small in
    let one : are_bytes bytes ≡ true = are_bytes_each bytes (digits_below 256 count n (omega arith)) in
    let two : (length bytes == count + 0) ≡ true = eq-eqb (length bytes) (count + 0) (length-digits 256 count n ∙ omega arith) in
    let all : take count bytes ≡ bytes = take_all count bytes (omega (arith, length-digits 256 count n)) in
    let three : is_component part (take count bytes) ≡ true =
    ap (is_component part) all ∙ (ap (λ m. m == extended sign width count (m % 2 ^ width)) back ∙ eq-eqb n (extended sign width count (n % 2 ^ width)) fine) in
    ap (λ (b : Bool). b && ((length bytes == count + 0) && (is_component part (take count bytes) && true))) one
    ∙ (ap (λ (b : Bool). b && (is_component part (take count bytes) && true)) two ∙ ap (λ (b : Bool). b && true) three)

-- so many bits are in so many bytes
power_within : (width : ℕ) → 2 ^ width ≤ 256 ^ ((width + 7) / 8)
power_within width = subst (λ m. 2 ^ width ≤ m) (sym (bytes_power ((width + 7) / 8))) (pow_mono (let P : width ≤ 8 * ((width + 7) / 8) = omega arith in P))

power_parts : (width : ℕ) → 256 ^ ((width + 7) / 8) ≡ 2 ^ (8 * ((width + 7) / 8) - width) * 2 ^ width
power_parts width =
    let e : 8 * ((width + 7) / 8) ≡ (8 * ((width + 7) / 8) - width) + width = omega arith in
    bytes_power ((width + 7) / 8) ∙ (ap (λ n. 2 ^ n) e ∙ pow-add 2 (8 * ((width + 7) / 8) - width) width)

half_of : (width : ℕ) → 0 < width → 2 ^ width ≡ 2 * 2 ^ (width - 1)
half_of zero h = absurd (omega arith)
half_of (suc w) h = let e : suc w - 1 ≡ w = omega arith in let g = ap (λ n. 2 ^ n) e in omega (arith, pow-suc 2 w)

low_value : (width n : ℕ) → n < 2 ^ (width - 1) → is_value_in_bytes (integer signed width) (digits 256 ((width + 7) / 8) n) ≡ true
low_value width n h =
    let less : width - 1 ≤ width = omega arith in
    let small : n < 2 ^ width = lt_of_lt_of_le h (pow_mono less) in
    let same : n % 2 ^ width ≡ n = mod-eq_of_lt small in
    let count = (width + 7) / 8 in
    digits_value signed width n (lt_of_lt_of_le small (power_within width))
    (sym (ap (extended signed width count) same ∙ ap (λ (b : Bool). if b then n else n + (256 ^ count - 2 ^ width)) (lt-ltb n (2 ^ (width - 1)) h)))

negative_mod : (q p n : ℕ) → 0 < q → n < p → (q * p - suc n) % p ≡ p - suc n
negative_mod zero p n h small = absurd (omega arith)
negative_mod (suc q) p n h small =
    let turned : suc q * p ≡ q * p + p = grind arith in
    let e : suc q * p - suc n ≡ q * p + (p - suc n) = ap (λ m. m - suc n) turned ∙ omega arith in
    ap (λ m. m % p) e ∙ mod-mul-add q p (p - suc n) (omega arith)

high_value : (width n : ℕ) → 0 < width → n < 2 ^ (width - 1) → is_value_in_bytes (integer signed width) (digits 256 ((width + 7) / 8) (256 ^ ((width + 7) / 8) - suc n)) ≡ true
high_value width n h less =
    let count = (width + 7) / 8 in
    let all = 256 ^ count in
    let half = half_of width h in
    let within = power_within width in
    let m = all - suc n in
    let same : m % 2 ^ width ≡ 2 ^ width - suc n =
    ap (λ k. (k - suc n) % 2 ^ width) (power_parts width) ∙ negative_mod (2 ^ (8 * count - width)) (2 ^ width) n (pow_pos (8 * count - width)) (omega arith) in
    let test : nat_lt (2 ^ width - suc n) (2 ^ (width - 1)) ≡ false = le-ltb (2 ^ width - suc n) (2 ^ (width - 1)) (omega arith) in
    let sum : m ≡ (2 ^ width - suc n) + (all - 2 ^ width) = omega arith in
    digits_value signed width m (omega arith)
    (sum ∙ sym (ap (extended signed width count) same ∙ ap (λ (b : Bool). if b then (2 ^ width - suc n) else (2 ^ width - suc n) + (all - 2 ^ width)) test))

integer_is_value : (sign : Sign) (width : ℕ) (z : ℤ) → integer_fits sign width z ≡ true → is_value_in_bytes (integer sign width) (integer_bytes ((width + 7) / 8) z) ≡ true
integer_is_value unsigned width (pos n) h =
    let small = ltb-true n (2 ^ width) h in
    digits_value unsigned width n (lt_of_lt_of_le small (power_within width)) (sym (mod-eq_of_lt small))
integer_is_value unsigned width (negsuc n) h = cc
integer_is_value signed width (pos n) h = low_value width n (ltb-true n (2 ^ (width - 1)) h)
integer_is_value signed zero (negsuc n) h = refl
integer_is_value signed (suc w) (negsuc n) h = high_value (suc w) n (omega arith) (ltb-true n (2 ^ (suc w - 1)) h)

-- ---- cells

bool_is_value : (flag : Bool) → is_value bool (of_bytes (bool_bytes flag)) ≡ true
bool_is_value true = refl
bool_is_value false = refl

string_is_value : (o : Option (List ℕ)) (cell : Cell) → option_map of_bytes o ≡ Some cell → holds_bytes cell ≡ true → is_value string cell ≡ true
string_is_value o cell is h =
    let found = map_some of_bytes o cell is in
    ap (is_value string) (sym found.2) ∙ ap (λ (b : Bool). b && true) (ap holds_bytes found.2 ∙ h)

bytes_are_value : (o : Option (List ℕ)) (cell : Cell) → option_map of_bytes o ≡ Some cell → holds_bytes cell ≡ true → is_value variable_bytes cell ≡ true
bytes_are_value o cell is h =
    let found = map_some of_bytes o cell is in
    ap (is_value variable_bytes) (sym found.2) ∙ ap (λ (b : Bool). b && true) (ap holds_bytes found.2 ∙ h)

option_is_value : (inner : DataType) → ((d : Data) (cell : Cell) → cell_in inner d ≡ Some cell → holds_bytes cell ≡ true → is_value inner cell ≡ true)
    → (o : Option Data) (cell : Cell) → option_cell (cell_in inner) o ≡ Some cell → holds_bytes cell ≡ true → is_value (optional_of inner) cell ≡ true
option_is_value inner law None cell is h = ap (is_value (optional_of inner)) (sym (some_same is))
option_is_value inner law (Some d) cell is h =
    let found = map_some present (cell_in inner d) cell is in
    ap (is_value (optional_of inner)) (sym found.2) ∙ law d found.0 found.1 (ap holds_bytes found.2 ∙ h)

pub fill_is_value : (type : DataType) (d : Data) (cell : Cell) → cell_in type d ≡ Some cell → holds_bytes cell ≡ true → is_value type cell ≡ true
fill_is_value bool d cell is h = let found = map_some (λ flag. of_bytes (bool_bytes flag)) (as_bool d) cell is in ap (is_value bool) (sym found.2) ∙ bool_is_value found.0
fill_is_value (integer sign width) d cell is h =
    let found = map_some (λ z. of_bytes (integer_bytes ((width + 7) / 8) z)) (integer_in sign width d) cell is in
    ap (is_value (integer sign width)) (sym found.2) ∙ integer_is_value sign width found.0 (in_range sign width d found.0 found.1)
fill_is_value (custom parts) d cell is h = absurd (cc)
fill_is_value string d cell is h = string_is_value (as_str d) cell is h
fill_is_value variable_bytes d cell is h = bytes_are_value (bytes_in d) cell is h
fill_is_value (optional_of inner) d cell is h =
    let found = bind_some (option_cell (cell_in inner)) (option_in d) cell is in
    option_is_value inner (fill_is_value inner) found.0 cell found.2 h

-- the same, for a cell that was found
pub found_is_value : (type : DataType) (d : Data) (o : Option Cell) (found cell : Cell) → o ≡ cell_in type d → o ≡ Some found → holds_bytes found ≡ true → cell ≡ found → is_value type cell ≡ true
found_is_value type d o found cell said is h same = ap (is_value type) same ∙ fill_is_value type d found (sym said ∙ is) h
