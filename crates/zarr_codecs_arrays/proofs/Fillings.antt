-- Elements made of one element.
use Rattle.std.proofs.Common.{◌≡◌, ℕ, zero, suc, ◌+◌, ◌-◌, ◌*◌, ◌%◌, ◌<◌, List, [], ◌∷◌, ◌++◌, length, map, take, drop, replicate, ap, ◌∙◌, sym, refl, arith, Option, Some, None, Bool, true, false, if◌then◌else◌, option_map, option_and_then}
use Rattle.std.specs.List.{repeat, range_with_len}
use Rattle.std.proofs.lemmas.Bool.{eq-eqb, le-leb, and_parts}
use Rattle.std.proofs.lemmas.List.{take_at, drop_at}
use Rattle.std.proofs.lemmas.List.FromFn.{map-range_with_len_more}
use Rattle.std.proofs.Math.Nat.{mul-mod_left}
use Rattle.zarr_codecs_meaning.specs.Types.{DataType, bool, integer, custom, string, variable_bytes, optional_of, is_fixed, is_variable, is_value, are_bytes, Cell, of_bytes, absent, present}
use Rattle.zarr_codecs_meaning.specs.Payloads.{Payload, fixed, variable, optional, fixed_cells, fixed_in, bytes_between, variable_in, masked_in, cells_in}
use Rattle.zarr_codecs_arrays.proofs.FixedCells.{fixed_in-some, fixed_cells-repeat, length-repeat}
use Rattle.zarr_codecs_arrays.proofs.Repeats.{repeat-add}
use Rattle.zarr_codecs_arrays.proofs.Filled.{value_width}

-- how deep optional types nest
abbrev pub levels : DataType → ℕ
levels bool = 0
levels (integer sign bits) = 0
levels (custom parts) = 0
levels string = 0
levels variable_bytes = 0
levels (optional_of inner) = suc (levels inner)

-- ---- elements of one size

pub fixed_filled : (type : DataType) (element bytes : List ℕ) (count : ℕ) → is_fixed type ≡ true → is_value type (of_bytes element) ≡ true → (length element ≡ 0 → ⊥) → bytes ≡ repeat count element
    → cells_in type (fixed bytes) ≡ Some (replicate count (of_bytes element))
fixed_filled type element bytes count fixed_ value some is =
    let width = length element in
    let positive : 0 < width = omega arith in
    let whole : length bytes % width ≡ 0 = ap (λ n. n % width) (ap length is ∙ length-repeat count element) ∙ mul-mod_left count width in
    ap (λ (o : Option ℕ). option_and_then (λ n. fixed_in n bytes) o) (value_width type element fixed_ value)
    ∙ (fixed_in-some width bytes positive whole ∙ ap Some (ap (fixed_cells width) is ∙ fixed_cells-repeat count width element positive refl))

-- ---- elements of any length

variable_type : (type : DataType) (element : List ℕ) → is_fixed type ≡ false → is_value type (of_bytes element) ≡ true → is_variable type ≡ true
variable_type bool element f v = cc
variable_type (integer sign bits) element f v = cc
variable_type (custom parts) element f v = cc
variable_type string element f v = refl
variable_type variable_bytes element f v = refl
variable_type (optional_of inner) element f v = let no_value = (and_parts (are_bytes element) false v).1 in cc

map_replicate : (n : ℕ) (element : List ℕ) → map of_bytes (replicate n element) ≡ replicate n (of_bytes element)
map_replicate zero element = refl
map_replicate (suc n) element = ap (λ (cells : List Cell). of_bytes element ∷ cells) (map_replicate n element)

between_repeat : (n k size : ℕ) (element bytes : List ℕ) → length element ≡ size → bytes ≡ repeat (k + n) element → bytes_between (k * size) (map (λ j. j * size) (range_with_len (k + 1) n)) bytes ≡ Some (replicate n element)
between_repeat zero k size element bytes long is =
    let all : k * size ≡ length bytes = sym (ap length is ∙ (length-repeat (k + 0) element ∙ (ap (λ m. (k + 0) * m) long ∙ omega arith))) in
    ap (λ (b : Bool). if b then Some [] else None) (eq-eqb (k * size) (length bytes) all)
between_repeat (suc n) k size element bytes long is =
    let more : (k + 1) * size ≡ k * size + size = grind arith in
    let width : (k + 1) * size - k * size ≡ size = omega (arith, more) in
    let test = le-leb (k * size) ((k + 1) * size) (omega (arith, more)) in
    let split : bytes ≡ repeat k element ++ repeat (suc n) element = is ∙ repeat-add k (suc n) element in
    let front : length (repeat k element) ≡ k * size = length-repeat k element ∙ ap (λ m. k * m) long in
    let rest : drop (k * size) bytes ≡ repeat (suc n) element = ap (drop (k * size)) split ∙ drop_at (repeat k element) (repeat (suc n) element) (k * size) front in
    let piece : take ((k + 1) * size - k * size) (drop (k * size) bytes) ≡ element = ap (λ m. take m (drop (k * size) bytes)) width ∙ (ap (take size) rest ∙ take_at element (repeat n element) size long) in
    let count : k + suc n ≡ (k + 1) + n = omega arith in
    let others = between_repeat n (k + 1) size element bytes long (is ∙ ap (λ m. repeat m element) count) in
    ap (λ (b : Bool). if b then option_map (λ rest. take ((k + 1) * size - k * size) (drop (k * size) bytes) ∷ rest) (bytes_between ((k + 1) * size) (map (λ j. j * size) (range_with_len (k + 1 + 1) n)) bytes) else None) test
    ∙ (ap (option_map (λ rest. take ((k + 1) * size - k * size) (drop (k * size) bytes) ∷ rest)) others
    ∙ ap (λ (p : List ℕ). Some (p ∷ replicate n element)) piece)

pub variable_filled : (type : DataType) (element bytes offsets : List ℕ) (count : ℕ) → is_fixed type ≡ false → is_value type (of_bytes element) ≡ true → bytes ≡ repeat count element → offsets ≡ map (λ n. n * length element) (range_with_len 0 (count + 1))
    → cells_in type (variable bytes offsets) ≡ Some (replicate count (of_bytes element))
variable_filled type element bytes offsets count fixed_ value is even =
    let one : count + 1 ≡ suc count = omega arith in
    let none : 0 + count ≡ count = omega arith in
    let given : offsets ≡ map (λ n. n * length element) (range_with_len 0 (suc count)) = even ∙ ap (λ m. map (λ n. n * length element) (range_with_len 0 m)) one in
    let pieces = between_repeat count 0 (length element) element bytes refl (is ∙ ap (λ m. repeat m element) (sym none)) in
    ap (λ (b : Bool). if b then variable_in offsets bytes else None) (variable_type type element fixed_ value)
    ∙ (ap (λ ns. variable_in ns bytes) given ∙ (ap (option_map (map of_bytes)) pieces ∙ ap Some (map_replicate count element)))

-- ---- elements that may be absent

all_absent : (n : ℕ) (cell : Cell) → masked_in (replicate n cell) (replicate n 0) ≡ Some (replicate n absent)
all_absent zero cell = refl
all_absent (suc n) cell = ap (option_map (λ others. absent ∷ others)) (all_absent n cell)

all_present : (n : ℕ) (cell : Cell) → masked_in (replicate n cell) (replicate n 1) ≡ Some (replicate n (present cell))
all_present zero cell = refl
all_present (suc n) cell = ap (option_map (λ others. present cell ∷ others)) (all_present n cell)

pub absent_filled : (whole type : DataType) (payload inner : Payload) (count : ℕ) (cell : Cell) → whole ≡ optional_of type → payload ≡ optional inner (replicate count 0) → cells_in type inner ≡ Some (replicate count cell) → cells_in whole payload ≡ Some (replicate count absent)
absent_filled whole type payload inner count cell t p is =
    ap (λ x. cells_in x payload) t ∙ (ap (cells_in (optional_of type)) p ∙ (ap (option_and_then (λ cells. masked_in cells (replicate count 0))) is ∙ all_absent count cell))

pub present_filled : (whole type : DataType) (payload inner : Payload) (count : ℕ) (cell : Cell) → whole ≡ optional_of type → payload ≡ optional inner (replicate count 1) → cells_in type inner ≡ Some (replicate count cell) → cells_in whole payload ≡ Some (replicate count (present cell))
present_filled whole type payload inner count cell t p is =
    ap (λ x. cells_in x payload) t ∙ (ap (cells_in (optional_of type)) p ∙ (ap (option_and_then (λ cells. masked_in cells (replicate count 1))) is ∙ all_present count cell))

-- ---- one offset more

pub even_more : (size k end next : ℕ) (old new : List ℕ) → old ≡ map (λ n. n * size) (range_with_len 0 (k + 1)) → end ≡ k * size → next ≡ end + size → new ≡ old ++ next ∷ []
    → (new ≡ map (λ n. n * size) (range_with_len 0 (k + 1 + 1))) × (next ≡ (k + 1) * size)
even_more size k end next old new before at_ is pushed =
    let more : (k + 1) * size ≡ k * size + size = grind arith in
    let here : next ≡ (k + 1) * size = omega (arith, more, at_, is) in
    (pushed ∙ (ap (λ ns. ns ++ next ∷ []) before ∙ (ap (λ n. map (λ n. n * size) (range_with_len 0 (k + 1)) ++ n ∷ []) here ∙ sym (map-range_with_len_more (λ n. n * size) 0 (k + 1) (k + 1) (omega arith)))), here)
