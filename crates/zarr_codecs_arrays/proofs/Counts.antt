-- How many elements a payload is.
use Rattle.std.proofs.Common.{◌≡◌, ℕ, zero, suc, inl, ◌-◌, ◌/◌, ◌%◌, ◌^◌, ◌<◌, List, [], ◌∷◌, length, get_or, map, take, drop, ap, ◌∙◌, sym, refl, arith, Option, Some, None, Err, Bool, true, false, ◌&&◌, ◌==◌, if◌then◌else◌, option_map, option_and_then}
use Rattle.std.specs.Prelude.{is_some, nat_lt, nat_le}
use Rattle.std.specs.List.{list_all}
use Rattle.std.proofs.lemmas.Bool.{ltb-false, le-ltb, eq-eqb, ne_eqb, and_parts}
use Rattle.std.proofs.lemmas.Bool.Decides.{same_from_decides, Decides-eqb, Decides-like}
use Rattle.std.proofs.lemmas.List.{length-map}
use Rattle.std.proofs.Math.Nat.{mod-eq_of_lt}
use Rattle.zarr_codecs_meaning.specs.Types.{DataType, string, variable_bytes, byte_width, is_fixed, is_variable, inner_type, Cell, of_bytes, absent, present}
use Rattle.zarr_codecs_meaning.specs.Payloads.{Payload, fixed_cells, fixed_in, fixed, variable, optional, cells_in, bytes_between, variable_in, masked, masked_in}
use Rattle.zarr_codecs_meaning.proofs.Lists.{bind_some, if_some, some_same}
use Rattle.zarr_codecs_types.specs.Parts.{word_sized}
use Rattle.zarr_codecs_arrays.specs.Offsets.{are_rising}
use Rattle.zarr_codecs_arrays.specs.Views.{numbers_of}
use Rattle.zarr_codecs_arrays.specs.declared.offsets.ArrayBytesOffsets.{ArrayBytesOffsets}
use Rattle.zarr_codecs_arrays.specs.Outcomes.{IsMiscounted, IsMisformed, Validates, form_error, form_expected}
use Rattle.zarr_codecs_arrays.specs.declared.error.CodecError.{CodecError}
use Rattle.zarr_codecs_arrays.specs.declared.error.CodecError.TheVariants as error
use Rattle.zarr_codecs_arrays.proofs.FixedCells.{fixed_in-some, length-fixed_cells}

-- a width that a `usize` holds
pub known_width : (type : DataType) (width : ℕ) → Some width ≡ option_and_then word_sized (byte_width type) → byte_width type ≡ Some width
known_width type width h =
    let found = bind_some word_sized (byte_width type) width (sym h) in
    let kept = if_some (nat_lt found.0 (2 ^ 64)) (Some found.0) width found.2 in
    found.1 ∙ kept.1

pub count_whole : (type : DataType) (width : ℕ) (bytes : List ℕ) → Some width ≡ option_and_then word_sized (byte_width type) → (width ≡ 0 → ⊥) → length bytes % width ≡ 0
    → Some (length bytes / width) ≡ option_map length (cells_in type (fixed bytes))
count_whole type width bytes h some whole =
    sym (ap (λ (o : Option ℕ). option_map length (option_and_then (λ n. fixed_in n bytes) o)) (known_width type width h)
    ∙ (ap (option_map length) (fixed_in-some width bytes (omega arith) whole) ∙ ap Some (length-fixed_cells width bytes)))

pub right_false : (b : Bool) → (b && false) ≡ false
right_false true = refl
right_false false = refl

-- bytes that are fewer than an element has
wide : (o : Option ℕ) (bytes : List ℕ) → None ≡ option_and_then word_sized o → length bytes < 2 ^ 64 → (length bytes ≡ 0 → ⊥) → None ≡ option_map length (option_and_then (λ n. fixed_in n bytes) o)
wide None bytes h few some = refl
wide (Some width) bytes h few some = at_test (nat_lt width (2 ^ 64)) refl h where
  at_test : (b : Bool) → nat_lt width (2 ^ 64) ≡ b → None ≡ (if b then Some width else None) → None ≡ option_map length (fixed_in width bytes)
  at_test true e h = cc
  at_test false e h =
      let more = ltb-false width (2 ^ 64) e in
      let rest : length bytes % width ≡ length bytes = mod-eq_of_lt (omega (arith, more)) in
      let test : (length bytes % width == 0) ≡ false = ap (λ n. n == 0) rest ∙ ne_eqb (length bytes) 0 some in
      ap (λ (b : Bool). option_map length (if b then Some (fixed_cells width bytes) else None)) (sym (ap (λ (b : Bool). nat_lt 0 width && b) test ∙ right_false (nat_lt 0 width)))

pub count_wide : (type : DataType) (bytes : List ℕ) → None ≡ option_and_then word_sized (byte_width type) → length bytes < 2 ^ 64 → (length bytes ≡ 0 → ⊥) → None ≡ option_map length (cells_in type (fixed bytes))
count_wide type bytes h few some = wide (byte_width type) bytes h few some

-- ---- elements of variable length

when_equal : (b : Bool) (n : ℕ) → option_map length (if◌then◌else◌ {A = Option (List (List ℕ))} b (Some []) None) ≡ (if b then Some 0 else None)
when_equal true n = refl
when_equal false n = refl

option_map-map : {X Y Z : Type 0} (f : Y → Z) (g : X → Y) (o : Option X) → option_map f (option_map g o) ≡ option_map (λ x. f (g x)) o
option_map-map f g None = refl
option_map-map f g (Some x) = refl

more_if : (b : Bool) (n : ℕ) → option_map suc (if b then Some n else None) ≡ (if b then Some (suc n) else None)
more_if true n = refl
more_if false n = refl

pub between_count : (start : ℕ) (ends bytes : List ℕ) → are_rising (start ∷ ends) ≡ true → option_map length (bytes_between start ends bytes) ≡ (if get_or (start ∷ ends) (length ends) 0 == length bytes then Some (length ends) else None)
between_count start [] bytes h = when_equal (start == length bytes) 0
between_count start (end ∷ ends) bytes h =
    let both = and_parts (nat_le start end) (are_rising (end ∷ ends)) h in
    ap (λ (b : Bool). option_map length (if b then option_map (λ rest. take (end - start) (drop start bytes) ∷ rest) (bytes_between end ends bytes) else None)) both.0
    ∙ (option_map-map length (λ rest. take (end - start) (drop start bytes) ∷ rest) (bytes_between end ends bytes)
    ∙ (sym (option_map-map suc length (bytes_between end ends bytes))
    ∙ (ap (option_map suc) (between_count end ends bytes both.1) ∙ more_if (get_or (end ∷ ends) (length ends) 0 == length bytes) (length ends))))

-- the offsets do not fall
rising_of : (offsets : ArrayBytesOffsets) → are_rising (numbers_of offsets) ≡ true
rising_of offsets = offsets.rising

same_length : (o : Option (List (List ℕ))) → option_map length (option_map (map of_bytes) o) ≡ option_map length o
same_length None = refl
same_length (Some pieces) = ap Some (length-map pieces of_bytes)

variable_count_is : (offsets bytes : List ℕ) → are_rising offsets ≡ true → option_map length (variable_in offsets bytes) ≡ (if get_or offsets (length offsets - 1) 0 == length bytes then Some (length offsets - 1) else None)
variable_count_is [] bytes h = cc
variable_count_is (start ∷ ends) bytes h = same_length (bytes_between start ends bytes) ∙ (between_count start ends bytes h ∙ ap (λ n. if get_or (start ∷ ends) n 0 == length bytes then Some n else None) (omega arith))

pub variable_count_then : (offsets : ArrayBytesOffsets) (bytes ns : List ℕ) → ns ≡ numbers_of offsets → get_or ns (length ns - 1) 0 ≡ length bytes → Some (length ns - 1) ≡ option_map length (variable_in (numbers_of offsets) bytes)
variable_count_then offsets bytes ns same is =
    ap (λ ms. Some (length ms - 1)) same
    ∙ sym (variable_count_is (numbers_of offsets) bytes (rising_of offsets) ∙ ap (λ (b : Bool). if b then Some (length (numbers_of offsets) - 1) else None) (eq-eqb (get_or (numbers_of offsets) (length (numbers_of offsets) - 1) 0) (length bytes) (sym (ap (λ ms. get_or ms (length ms - 1) 0) same) ∙ is)))

pub variable_count_else : (offsets : ArrayBytesOffsets) (bytes ns : List ℕ) → ns ≡ numbers_of offsets → (get_or ns (length ns - 1) 0 ≡ length bytes → ⊥) → None ≡ option_map length (variable_in (numbers_of offsets) bytes)
variable_count_else offsets bytes ns same is =
    sym (variable_count_is (numbers_of offsets) bytes (rising_of offsets) ∙ ap (λ (b : Bool). if b then Some (length (numbers_of offsets) - 1) else None) (ne_eqb (get_or (numbers_of offsets) (length (numbers_of offsets) - 1) 0) (length bytes) (λ e. is (ap (λ ms. get_or ms (length ms - 1) 0) same ∙ e))))

-- ---- elements that may be absent

pub same_suc : (a b : ℕ) → (a == b) ≡ (suc a == suc b)
same_suc a b = same_from_decides (a == b) (suc a == suc b) (Decides-eqb a b) (Decides-like (suc a == suc b) (λ (e : suc a ≡ suc b). omega arith) (λ (e : a ≡ b). ap suc e) (Decides-eqb (suc a) (suc b)))

pub masked_length : (cells : List Cell) (mask : List ℕ) → option_map length (masked_in cells mask) ≡ (if (length cells == length mask) && list_all (λ b. nat_lt b 2) mask then Some (length cells) else None)
masked_length [] [] = refl
masked_length [] (m ∷ mask) = sym (ap (λ (b : Bool). if b && list_all (λ b. nat_lt b 2) (m ∷ mask) then Some 0 else None) (ne_eqb 0 (suc (length mask)) (λ e. omega arith)))
masked_length (c ∷ cells) [] = sym (ap (λ (b : Bool). if b && true then Some (suc (length cells)) else None) (ne_eqb (suc (length cells)) 0 (λ e. omega arith)))
masked_length (c ∷ cells) (m ∷ mask) =
    at_mark m c (length cells == length mask) (masked_in cells mask) cells mask (masked_length cells mask)
    ∙ ap (λ (b : Bool). if b && (nat_lt m 2 && list_all (λ b. nat_lt b 2) mask) then Some (suc (length cells)) else None) (same_suc (length cells) (length mask)) where
      after_first : (first : Cell) (b : Bool) (o : Option (List Cell)) (n : ℕ) → option_map length o ≡ (if b then Some n else None) → option_map length (option_map (λ others. first ∷ others) o) ≡ (if b then Some (suc n) else None)
      after_first first b o n h = option_map-map length (λ others. first ∷ others) o ∙ (sym (option_map-map suc length o) ∙ (ap (option_map suc) h ∙ more_if b n))

      at_mark : (m : ℕ) (c : Cell) (long : Bool) (o : Option (List Cell)) (cells : List Cell) (mask : List ℕ) → option_map length o ≡ (if long && list_all (λ b. nat_lt b 2) mask then Some (length cells) else None)
          → option_map length (option_and_then (λ first. option_map (λ others. first ∷ others) o) (masked c m)) ≡ (if long && (nat_lt m 2 && list_all (λ b. nat_lt b 2) mask) then Some (suc (length cells)) else None)
      at_mark zero c long o cells mask h = after_first absent (long && list_all (λ b. nat_lt b 2) mask) o (length cells) h
      at_mark (suc zero) c long o cells mask h = after_first (present c) (long && list_all (λ b. nat_lt b 2) mask) o (length cells) h
      at_mark (suc (suc m)) c long o cells mask h =
          let n = suc (suc m) in
          let no_mark : masked c n ≡ None = ap (λ (b : Bool). if b then Some absent else (if n == 1 then Some (present c) else None)) (ne_eqb n 0 (λ e. omega arith)) ∙ ap (λ (b : Bool). if b then Some (present c) else None) (ne_eqb n 1 (λ e. omega arith)) in
          ap (λ (k : Option Cell). option_map length (option_and_then (λ first. option_map (λ others. first ∷ others) o) k)) no_mark
          ∙ sym (ap (λ (b : Bool). if long && (b && list_all (λ b. nat_lt b 2) mask) then Some (suc (length cells)) else None) (le-ltb n 2 (omega arith))
          ∙ ap (λ (b : Bool). if b then Some (suc (length cells)) else None) (right_false long))

pub masked_count_then : (count : Option ℕ) (mask : List ℕ) (n : ℕ) (below : Option (List Cell)) → count ≡ Some n → n ≡ length mask → list_all (λ b. nat_lt b 2) mask ≡ true → count ≡ option_map length below
    → count ≡ option_map length (option_and_then (λ cells. masked_in cells mask) below)
masked_count_then count mask n None some long marks h = cc
masked_count_then count mask n (Some cells) some long marks h =
    let many : length cells ≡ length mask = some_same (sym h ∙ (some ∙ ap Some long)) in
    h ∙ sym (masked_length cells mask ∙ (ap (λ (b : Bool). if b && list_all (λ b. nat_lt b 2) mask then Some (length cells) else None) (eq-eqb (length cells) (length mask) many)
    ∙ ap (λ (b : Bool). if b then Some (length cells) else None) marks))

pub masked_count_long : (count : Option ℕ) (mask : List ℕ) (n : ℕ) (below : Option (List Cell)) → count ≡ Some n → (n ≡ length mask → ⊥) → count ≡ option_map length below
    → None ≡ option_map length (option_and_then (λ cells. masked_in cells mask) below)
masked_count_long count mask n None some other h = refl
masked_count_long count mask n (Some cells) some other h =
    let many : n ≡ length cells = some_same (sym some ∙ h) in
    sym (masked_length cells mask ∙ ap (λ (b : Bool). if b && list_all (λ b. nat_lt b 2) mask then Some (length cells) else None) (ne_eqb (length cells) (length mask) (λ e. other (many ∙ e))))

pub masked_count_marks : (count : Option ℕ) (mask : List ℕ) (below : Option (List Cell)) → list_all (λ b. nat_lt b 2) mask ≡ false → count ≡ option_map length below
    → None ≡ option_map length (option_and_then (λ cells. masked_in cells mask) below)
masked_count_marks count mask None marks h = refl
masked_count_marks count mask (Some cells) marks h =
    sym (masked_length cells mask ∙ ap (λ (b : Bool). if b then Some (length cells) else None) (ap (λ (b : Bool). (length cells == length mask) && b) marks ∙ right_false (length cells == length mask)))

-- ---- forms

no_length : {X : Type 0} (o : Option (List X)) → None ≡ option_map length o → o ≡ None
no_length None h = refl
no_length (Some xs) h = cc

pub none_counted : (type : DataType) (payload : Payload) → None ≡ option_map length (cells_in type payload) → cells_in type payload ≡ None
none_counted type payload h = no_length (cells_in type payload) h

-- whether elements of a wrong form or number may have an error
abbrev is_counting : CodecError → Bool
is_counting error.ExpectedFixedLengthBytes = true
is_counting error.ExpectedVariableLengthBytes = true
is_counting error.ExpectedOptionalBytes = true
is_counting error.InvalidNumberOfElements = true
is_counting e = false

expected_counts : (type : DataType) → is_counting (form_expected type) ≡ true
expected_counts type = by_tests (is_fixed type) (is_variable type) where
  by_tests : (sized long : Bool) → is_counting (if sized then error.ExpectedFixedLengthBytes else (if long then error.ExpectedVariableLengthBytes else error.ExpectedOptionalBytes)) ≡ true
  by_tests true long = refl
  by_tests false true = refl
  by_tests false false = refl

either : (b : Bool) (x y : CodecError) → is_counting x ≡ true → is_counting y ≡ true → is_counting (if b then x else y) ≡ true
either true x y h k = h
either false x y h k = k

form_counts : (type : DataType) (payload : Payload) → is_counting (form_error type payload) ≡ true
form_counts type (fixed bytes) = either (is_fixed type) error.InvalidNumberOfElements (form_expected type) refl (expected_counts type)
form_counts type (variable bytes offsets) = expected_counts type
form_counts type (optional inner mask) = below (inner_type type) (λ of_type. form_counts of_type inner) where
  below : (o : Option DataType) → ((of_type : DataType) → is_counting (form_error of_type inner) ≡ true)
      → is_counting (elim o [ None ↦ form_expected type | Some of_type ↦ (if is_some (cells_in of_type inner) then error.ExpectedOptionalBytes else form_error of_type inner) ]) ≡ true
  below None inside = expected_counts type
  below (Some of_type) inside = either (is_some (cells_in of_type inner)) error.ExpectedOptionalBytes (form_error of_type inner) refl (inside of_type)

misformed : (e : CodecError) (type : DataType) (payload : Payload) (count : ℕ) → is_counting e ≡ true → IsMisformed type payload e → IsMiscounted type payload count e
misformed error.ExpectedFixedLengthBytes type payload count one h = h
misformed error.ExpectedVariableLengthBytes type payload count one h = h
misformed error.ExpectedOptionalBytes type payload count one h = h
misformed error.InvalidNumberOfElements type payload count one h = inl h
misformed e type payload count one h = absurd (cc)

-- elements of variable length are wanted, whatever the payload is
pub string_form : (payload : Payload) → error.ExpectedVariableLengthBytes ≡ form_error string payload
string_form (fixed bytes) = refl
string_form (variable bytes offsets) = refl
string_form (optional inner mask) = refl

pub bytes_form : (payload : Payload) → error.ExpectedVariableLengthBytes ≡ form_error variable_bytes payload
bytes_form (fixed bytes) = refl
bytes_form (variable bytes offsets) = refl
bytes_form (optional inner mask) = refl

-- the error of its form is why a payload is not so many elements of a type
pub form_refused : (e : CodecError) (type : DataType) (payload : Payload) (count : ℕ) → e ≡ form_error type payload → None ≡ option_map length (cells_in type payload) → IsMiscounted type payload count e
form_refused e type payload count is none = misformed e type payload count (ap is_counting is ∙ form_counts type payload) (none_counted type payload none, is)

-- what are not so many elements are not so many values
pub count_refused : (A : Type 0) (e : CodecError) (type : DataType) (payload : Payload) (count : ℕ) → IsMiscounted type payload count e → Validates {A = A} type payload count (Err e)
count_refused A error.CellOutOfRange type payload count h = absurd h
count_refused A e type payload count h = h
