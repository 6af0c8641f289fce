-- Elements that are values of their type.
use Rattle.std.proofs.Common.{◌≡◌, ℕ, zero, suc, ◌+◌, ◌-◌, ◌*◌, ◌/◌, ◌%◌, ◌^◌, ◌<◌, ◌≤◌, List, [], ◌∷◌, length, get_or, map, take, drop, ap, ◌∙◌, sym, refl, subst, arith, Option, Some, None, Bool, true, false, ◌&&◌, ◌==◌, if◌then◌else◌, option_map, option_and_then, length-take, length-drop, mod-eq_of_lt}
use Rattle.std.specs.Prelude.{nat_lt, nat_le}
use Rattle.std.specs.List.{list_all}
use Rattle.std.proofs.lemmas.Bool.{ltb-false, eq-eqb, eqb-true, and_parts}
use Rattle.std.proofs.lemmas.List.{take_all}
use Rattle.std.proofs.lemmas.Nat.{div_below}
use Rattle.std.proofs.Math.Nat.{div-eq_of_lt}
use mir.Val.{Fits}
use mir.Syntax.{w8}
use Rattle.zarr_codecs_meaning.specs.Numbers.{number}
use Rattle.zarr_codecs_meaning.specs.Types.{DataType, bool, integer, custom, string, variable_bytes, optional_of, Sign, unsigned, signed, byte_width, extended, Cell, of_bytes, absent, is_value, is_value_in_bytes}
use Rattle.zarr_codecs_meaning.specs.Payloads.{fixed_cells, fixed_in, bytes_between, variable_in, fixed, variable, cells_in}
use Rattle.zarr_codecs_meaning.proofs.Lists.{Each, map_some, if_some, some_same}
use Rattle.zarr_codecs_meaning.proofs.Digits.{each-take, each-drop}
use Rattle.zarr_codecs_meaning.proofs.Words.{bytes_power}
use Rattle.zarr_codecs_types.specs.Parts.{word_sized}
use Rattle.zarr_codecs_types.proofs.Bytes.{each_byte, are_bytes_each}
use Rattle.zarr_codecs_types.proofs.Extended.{number_below}
use Rattle.zarr_codecs_arrays.specs.Values.{takes_all_bytes}
use Rattle.zarr_codecs_arrays.proofs.FixedCells.{IsWhole, fixed_in-whole, length-fixed_cells, get_or-fixed_cells, whole_length}
use Rattle.zarr_codecs_arrays.proofs.FixedValues.{first_value, no_values}
use Rattle.zarr_codecs_arrays.proofs.Counts.{known_width}

-- ---- elements of one width

pub whole_cells : (type : DataType) (width : ℕ) (bytes : List ℕ) (cells : List Cell) → Some width ≡ option_and_then word_sized (byte_width type) → cells_in type (fixed bytes) ≡ Some cells → IsWhole width bytes cells
whole_cells type width bytes cells h is = fixed_in-whole width bytes cells (sym (ap (λ (o : Option ℕ). option_and_then (λ n. fixed_in n bytes) o) (known_width type width h)) ∙ is)

no_cells_at : (o : Option ℕ) (bytes : List ℕ) (cells : List Cell) → None ≡ option_and_then word_sized o → length bytes < 2 ^ 64 → option_and_then (λ n. fixed_in n bytes) o ≡ Some cells → length cells ≡ 0
no_cells_at None bytes cells h few is = cc
no_cells_at (Some width) bytes cells h few is = at_test (nat_lt width (2 ^ 64)) refl h where
  at_test : (b : Bool) → nat_lt width (2 ^ 64) ≡ b → None ≡ (if b then Some width else None) → length cells ≡ 0
  at_test true e k = cc
  at_test false e k =
      let more = ltb-false width (2 ^ 64) e in
      let w = fixed_in-whole width bytes cells is in
      ap length w.is ∙ (length-fixed_cells width bytes ∙ div-eq_of_lt (omega (arith, more)))

pub no_cells : (type : DataType) (bytes : List ℕ) (cells : List Cell) → None ≡ option_and_then word_sized (byte_width type) → length bytes < 2 ^ 64 → cells_in type (fixed bytes) ≡ Some cells → length cells ≡ 0
no_cells type bytes cells h few is = no_cells_at (byte_width type) bytes cells h few is

pub all_of_none : (type : DataType) (cells : List Cell) → length cells ≡ 0 → true ≡ list_all (is_value type) cells
all_of_none type [] h = refl
all_of_none type (c ∷ cells) h = absurd (omega arith)

-- the element at an index, and whether there is one
pub fixed_value_at : (type : DataType) (width index : ℕ) (bytes : List ℕ) (cells : List Cell) → Some width ≡ option_and_then word_sized (byte_width type) → cells_in type (fixed bytes) ≡ Some cells → index < length cells
    → is_value type (get_or cells index absent) ≡ is_value_in_bytes type (take width (drop (index * width) bytes))
fixed_value_at type width index bytes cells h is below =
    let w = whole_cells type width bytes cells h is in
    let less : index < length bytes / width = subst (λ n. index < n) (ap length w.is ∙ length-fixed_cells width bytes) below in
    ap (λ (cs : List Cell). is_value type (get_or cs index absent)) w.is ∙ ap (is_value type) (get_or-fixed_cells width bytes index absent less)

pub fixed_within : (type : DataType) (width index : ℕ) (bytes : List ℕ) (cells : List Cell) → Some width ≡ option_and_then word_sized (byte_width type) → cells_in type (fixed bytes) ≡ Some cells → index < length cells
    → length bytes < index * width + width → ⊥
fixed_within type width index bytes cells h is below few =
    let w = whole_cells type width bytes cells h is in
    let less : index < length bytes / width = subst (λ n. index < n) (ap length w.is ∙ length-fixed_cells width bytes) below in
    let more : index * width + width ≡ suc index * width = grind arith in
    let short : length bytes / width < suc index = div_below (length bytes) width (suc index) w.positive (omega (arith, few, more)) in
    omega (arith, less, short)

-- ---- types of which all bytes are values

extended_whole : (sign : Sign) (bits count n : ℕ) → 256 ^ count ≡ 2 ^ bits → extended sign bits count n ≡ n
extended_whole unsigned bits count n h = refl
extended_whole signed bits count n h = at_test (nat_lt n (2 ^ (bits - 1))) where
  at_test : (b : Bool) → (if b then n else n + (256 ^ count - 2 ^ bits)) ≡ n
  at_test true = refl
  at_test false = omega (arith, h)

whole_number : (sign : Sign) (bits : ℕ) (element : List ℕ) → bits % 8 ≡ 0 → Each (λ b. b < 256) element → length element ≡ (bits + 7) / 8 → is_value_in_bytes (integer sign bits) element ≡ true
whole_number sign bits element whole bytes long =
    let k = (bits + 7) / 8 in
    let eight : 8 * k ≡ bits = omega (arith, whole) in
    let power : 256 ^ k ≡ 2 ^ bits = bytes_power k ∙ ap (λ n. 2 ^ n) eight in
    let n = number 256 element in
    let all : take k element ≡ element = take_all k element (omega (arith, long)) in
    let small : n < 2 ^ bits = subst (λ m. n < m) (ap (λ m. 256 ^ m) long ∙ power) (number_below element bytes) in
    let same : n ≡ extended sign bits k (n % 2 ^ bits) = sym (extended_whole sign bits k (n % 2 ^ bits) power ∙ mod-eq_of_lt small) in
    let one = are_bytes_each element bytes in
    let two : (length element == k + 0) ≡ true = eq-eqb (length element) (k + 0) (long ∙ omega arith) in
    let three : (number 256 (take k element) == extended sign bits k (number 256 (take k element) % 2 ^ bits)) ≡ true =
    ap (λ ns. number 256 ns == extended sign bits k (number 256 ns % 2 ^ bits)) all ∙ eq-eqb n (extended sign bits k (n % 2 ^ bits)) same in
    ap (λ (b : Bool). b && ((length element == k + 0) && ((number 256 (take k element) == extended sign bits k (number 256 (take k element) % 2 ^ bits)) && true))) one
    ∙ (ap (λ (b : Bool). b && ((number 256 (take k element) == extended sign bits k (number 256 (take k element) % 2 ^ bits)) && true)) two ∙ ap (λ (b : Bool). b && true) three)

pub taken_one : (type : DataType) (width : ℕ) (element : List ℕ) → takes_all_bytes type ≡ true → byte_width type ≡ Some width → Each (λ b. b < 256) element → length element ≡ width → is_value_in_bytes type element ≡ true
taken_one bool width element takes wide bytes long = cc
taken_one (integer sign bits) width element takes wide bytes long =
    let is : (bits + 7) / 8 + 0 ≡ width = some_same wide in
    whole_number sign bits element (eqb-true (bits % 8) 0 takes) bytes (long ∙ omega (arith, is))
taken_one (custom parts) width element takes wide bytes long = cc
taken_one string width element takes wide bytes long = cc
taken_one variable_bytes width element takes wide bytes long = cc
taken_one (optional_of inner) width element takes wide bytes long = cc

taken_at : (count : ℕ) (type : DataType) (width : ℕ) (bytes : List ℕ) → takes_all_bytes type ≡ true → byte_width type ≡ Some width → 0 < width → Each (λ b. b < 256) bytes → length bytes ≡ count * width → list_all (is_value type) (fixed_cells width bytes) ≡ true
taken_at zero type width bytes takes wide h each long = no_values type width bytes (omega (arith, long))
taken_at (suc count) type width bytes takes wide h each long =
    let sum : suc count * width ≡ width + count * width = grind arith in
    let enough : width ≤ length bytes = omega (arith, long, sum) in
    let one = taken_one type width (take width bytes) takes wide (each-take (λ b. b < 256) width bytes each) (length-take width bytes ∙ omega (arith, enough)) in
    first_value type width bytes h enough
    ∙ (ap (λ (b : Bool). b && list_all (is_value type) (fixed_cells width (drop width bytes))) one
    ∙ taken_at count type width (drop width bytes) takes wide h (each-drop (λ b. b < 256) width bytes each) (length-drop width bytes ∙ omega (arith, long, sum)))

pub taken_values : (type : DataType) (width : ℕ) (bytes : List ℕ) (cells : List Cell) → takes_all_bytes type ≡ true → Some width ≡ option_and_then word_sized (byte_width type) → ((i : ℕ) → Fits w8 (get_or bytes i 0)) → cells_in type (fixed bytes) ≡ Some cells
    → true ≡ list_all (is_value type) cells
taken_values type width bytes cells takes h fits is =
    let w = whole_cells type width bytes cells h is in
    sym (ap (list_all (is_value type)) w.is ∙ taken_at (length bytes / width) type width bytes takes (known_width type width h) w.positive (each_byte bytes fits) (whole_length width bytes w.whole))

-- ---- elements of variable length

between_values : (type : DataType) (start : ℕ) (ends bytes : List ℕ) (pieces : List (List ℕ)) → ((element : List ℕ) → Each (λ b. b < 256) element → is_value type (of_bytes element) ≡ true) → Each (λ b. b < 256) bytes → bytes_between start ends bytes ≡ Some pieces
    → list_all (is_value type) (map of_bytes pieces) ≡ true
between_values type start [] bytes pieces law each is =
    let found = if_some (start == length bytes) (Some []) pieces is in
    ap (λ ps. list_all (is_value type) (map of_bytes ps)) (sym (some_same found.1))
between_values type start (end ∷ ends) bytes pieces law each is =
    let element = take (end - start) (drop start bytes) in
    let found = if_some (nat_le start end) (option_map (λ rest. element ∷ rest) (bytes_between end ends bytes)) pieces is in
    let rest = map_some (λ rest. element ∷ rest) (bytes_between end ends bytes) pieces found.1 in
    let one = law element (each-take (λ b. b < 256) (end - start) (drop start bytes) (each-drop (λ b. b < 256) start bytes each)) in
    ap (λ ps. list_all (is_value type) (map of_bytes ps)) (sym rest.2)
    ∙ (ap (λ (b : Bool). b && list_all (is_value type) (map of_bytes rest.0)) one ∙ between_values type end ends bytes rest.0 law each rest.1)

in_values : (type : DataType) (offsets bytes : List ℕ) (cells : List Cell) → ((element : List ℕ) → Each (λ b. b < 256) element → is_value type (of_bytes element) ≡ true) → Each (λ b. b < 256) bytes → variable_in offsets bytes ≡ Some cells
    → list_all (is_value type) cells ≡ true
in_values type [] bytes cells law each is = cc
in_values type (start ∷ ends) bytes cells law each is =
    let found = map_some (map of_bytes) (bytes_between start ends bytes) cells is in
    ap (list_all (is_value type)) (sym found.2) ∙ between_values type start ends bytes found.0 law each found.1

pub variable_values : (type : DataType) (bytes offsets : List ℕ) (cells : List Cell) → ((i : ℕ) → Fits w8 (get_or bytes i 0)) → cells_in type (variable bytes offsets) ≡ Some cells → true ≡ list_all (is_value type) cells
variable_values bool bytes offsets cells fits is = cc
variable_values (integer sign bits) bytes offsets cells fits is = cc
variable_values (custom parts) bytes offsets cells fits is = cc
variable_values string bytes offsets cells fits is = sym (in_values string offsets bytes cells (λ e h. ap (λ (b : Bool). b && true) (are_bytes_each e h)) (each_byte bytes fits) is)
variable_values variable_bytes bytes offsets cells fits is = sym (in_values variable_bytes offsets bytes cells (λ e h. ap (λ (b : Bool). b && true) (are_bytes_each e h)) (each_byte bytes fits) is)
variable_values (optional_of inner) bytes offsets cells fits is = cc

-- one of values
pub value_of_all : (type : DataType) (cells : List Cell) (index : ℕ) (r : Bool) → r ≡ true → r ≡ list_all (is_value type) cells → index < length cells → r ≡ is_value type (get_or cells index absent)
value_of_all type cells index r yes_ all below = yes_ ∙ sym (each cells index (sym all ∙ yes_) below) where
  each : (cells : List Cell) (index : ℕ) → list_all (is_value type) cells ≡ true → index < length cells → is_value type (get_or cells index absent) ≡ true
  each [] index h below = absurd (omega arith)
  each (c ∷ cells) zero h below = (and_parts (is_value type c) (list_all (is_value type) cells) h).0
  each (c ∷ cells) (suc index) h below = each cells index (and_parts (is_value type c) (list_all (is_value type) cells) h).1 (omega arith)
