-- Elements of variable length, written and read back.
use Rattle.std.proofs.Common.{◌≡◌, ℕ, suc, ◌+◌, ◌-◌, ◌^◌, ◌<◌, List, [], ◌∷◌, ◌++◌, length, map, take, drop, ap, ◌∙◌, sym, refl, arith, Some, None, option_map, Bool, true, ◌&&◌, if◌then◌else◌, append_assoc, length-append, mod-eq_of_lt, subst}
use Rattle.std.specs.Prelude.{nat_le}
use Rattle.std.specs.List.{flat_map, list_all}
use Rattle.std.proofs.lemmas.Bool.{le-leb, and_parts}
use Rattle.std.proofs.Math.Seq.{take-append_seam, drop-append_seam, drop-drop}
use Rattle.zarr_codecs_meaning.specs.Numbers.{number, word}
use Rattle.zarr_codecs_meaning.specs.Types.{DataType, bool, integer, custom, string, variable_bytes, optional_of, unsigned, uint8, is_variable, is_value, are_bytes, Cell, of_bytes, absent, present, cell_bytes}
use Rattle.zarr_codecs_meaning.specs.Chains.{Location}
use Rattle.zarr_codecs_meaning.specs.Chains.Location.{at_start, at_end}
use Rattle.zarr_codecs_meaning.specs.Encoding.{ends_from, number_cells, byte_cells, sections, last_number}
use Rattle.zarr_codecs_meaning.specs.Decoding.{sections_of, elements_between}
use Rattle.zarr_codecs_meaning.proofs.Lists.{Each}
use Rattle.zarr_codecs_meaning.proofs.Shards.{number_word}
use Rattle.zarr_codecs_meaning.proofs.Words.{number_back, number_is_value}

-- a value of a type of variable length
pub record IsVariable (cell : Cell) : Type 0 where
  pub is : of_bytes (cell_bytes cell) ≡ cell
  pub bytes : are_bytes (cell_bytes cell) ≡ true

pub variable_value : (type : DataType) (cell : Cell) → is_variable type ≡ true → is_value type cell ≡ true → IsVariable cell
variable_value string (of_bytes element) v h = record { is = refl; bytes = (and_parts (are_bytes element) true h).0 }
variable_value variable_bytes (of_bytes element) v h = record { is = refl; bytes = (and_parts (are_bytes element) true h).0 }
variable_value bool (of_bytes element) v h = cc
variable_value (integer sign width) (of_bytes element) v h = cc
variable_value (custom parts) (of_bytes element) v h = cc
variable_value (optional_of inner) (of_bytes element) v h = cc
variable_value string absent v h = cc
variable_value variable_bytes absent v h = cc
variable_value bool absent v h = cc
variable_value (integer sign width) absent v h = cc
variable_value (custom parts) absent v h = cc
variable_value (optional_of inner) absent v h = cc
variable_value string (present cell) v h = cc
variable_value variable_bytes (present cell) v h = cc
variable_value bool (present cell) v h = cc
variable_value (integer sign width) (present cell) v h = cc
variable_value (custom parts) (present cell) v h = cc
variable_value (optional_of inner) (present cell) v h = cc

-- the offsets are below what the last one is below
pub ends_below : (cells : List Cell) (offset bound : ℕ) → last_number offset (ends_from offset (map cell_bytes cells)) < bound → (offset < bound) × Each (λ n. n < bound) (ends_from offset (map cell_bytes cells))
ends_below [] offset bound h = (h, tt)
ends_below (c ∷ cs) offset bound h = let rest = ends_below cs (offset + length (cell_bytes c)) bound h in (omega (arith, rest.0), (rest.0, rest.1))

pub last_end : (cells : List Cell) (offset : ℕ) → last_number offset (ends_from offset (map cell_bytes cells)) ≡ offset + length (flat_map cell_bytes cells)
last_end [] offset = omega arith
last_end (c ∷ cs) offset = let rest = last_end cs (offset + length (cell_bytes c)) in rest ∙ omega (arith, length-append (cell_bytes c) (flat_map cell_bytes cs))

pub length-ends : (cells : List Cell) (offset : ℕ) → length (ends_from offset (map cell_bytes cells)) ≡ length cells
length-ends [] offset = refl
length-ends (c ∷ cs) offset = ap suc (length-ends cs (offset + length (cell_bytes c)))

pub between_back : (cells : List Cell) (offset : ℕ) → elements_between offset (ends_from offset (map cell_bytes cells)) (flat_map cell_bytes cells) ≡ Some (map cell_bytes cells)
between_back [] offset = refl
between_back (c ∷ cs) offset =
    let element = cell_bytes c in
    let others = flat_map cell_bytes cs in
    let end = offset + length element in
    let ends = ends_from end (map cell_bytes cs) in
    let long : end - offset ≡ length element = omega arith in
    let one = le-leb offset end (omega arith) in
    let two = le-leb (end - offset) (length (element ++ others)) (omega (arith, length-append element others)) in
    let front : take (end - offset) (element ++ others) ≡ element = ap (λ n. take n (element ++ others)) long ∙ take-append_seam element others in
    let back : drop (end - offset) (element ++ others) ≡ others = ap (λ n. drop n (element ++ others)) long ∙ drop-append_seam element others in
    let result = option_map (λ (rest : List (List ℕ)). take (end - offset) (element ++ others) ∷ rest) (elements_between end ends (drop (end - offset) (element ++ others))) in
    ap (λ (t : Bool). if t && nat_le (end - offset) (length (element ++ others)) then result else None) one
    ∙ (ap (λ (t : Bool). if t then result else None) two
    ∙ (ap (λ (ns : List ℕ). option_map (λ (rest : List (List ℕ)). take (end - offset) (element ++ others) ∷ rest) (elements_between end ends ns)) back
    ∙ (ap (option_map (λ (rest : List (List ℕ)). take (end - offset) (element ++ others) ∷ rest)) (between_back cs end)
    ∙ ap (λ (ns : List ℕ). Some (ns ∷ map cell_bytes cs)) front)))

pub numbers_again : (width : ℕ) (ns : List ℕ) → Each (λ n. n < 2 ^ width) ns → map (λ (c : Cell). number 256 (cell_bytes c)) (number_cells width ns) ≡ ns
numbers_again width [] h = refl
numbers_again width (n ∷ ns) h = ap (λ m. m ∷ map (λ (c : Cell). number 256 (cell_bytes c)) (number_cells width ns)) (number_back width n h.0) ∙ ap (λ ms. n ∷ ms) (numbers_again width ns h.1)

pub numbers_are_values : (width : ℕ) (ns : List ℕ) → Each (λ n. n < 2 ^ width) ns → list_all (is_value (integer unsigned width)) (number_cells width ns) ≡ true
numbers_are_values width [] h = refl
numbers_are_values width (n ∷ ns) h = ap (λ (b : Bool). b && list_all (is_value (integer unsigned width)) (number_cells width ns)) (number_is_value width n h.0) ∙ numbers_are_values width ns h.1

pub bytes_are_values : («data» : List ℕ) → Each (λ b. b < 256) «data» → list_all (is_value uint8) (byte_cells «data») ≡ true
bytes_are_values [] h = refl
bytes_are_values (b ∷ «data») h =
    let is : is_value uint8 (of_bytes (b ∷ [])) ≡ true = subst (λ n. is_value uint8 (of_bytes (n ∷ [])) ≡ true) (mod-eq_of_lt h.0) (number_is_value 8 b h.0) in
    ap (λ (t : Bool). t && list_all (is_value uint8) (byte_cells «data»)) is ∙ bytes_are_values «data» h.1

pub bytes_again : («data» : List ℕ) → flat_map cell_bytes (byte_cells «data») ≡ «data»
bytes_again [] = refl
bytes_again (b ∷ «data») = ap (λ ns. b ∷ ns) (bytes_again «data»)

pub sections_back : (location : Location) (index «data» : List ℕ) → length index < 2 ^ 64 → sections_of location (sections location index «data») ≡ Some (index, «data»)
sections_back at_start index «data» short =
    let n = length index in
    let value = word n ++ (index ++ «data») in
    let test = le-leb (8 + n) (length value) (omega (arith, length-append (word n) (index ++ «data»), length-append index «data»)) in
    let back : drop (8 + n) value ≡ «data» = sym (drop-drop n 8 value) ∙ drop-append_seam index «data» in
    ap (λ m. if nat_le (8 + m) (length value) then Some (take m (index ++ «data»), drop (8 + m) value) else None) (number_word n short)
    ∙ (ap (λ (t : Bool). if t then Some (take n (index ++ «data»), drop (8 + n) value) else None) test
    ∙ (ap (λ (ns : List ℕ). Some (ns, drop (8 + n) value)) (take-append_seam index «data») ∙ ap (λ (ns : List ℕ). Some (index, ns)) back))
sections_back at_end index «data» short =
    let n = length index in
    let value = «data» ++ (index ++ word n) in
    let count : length value ≡ length «data» + (n + 8) = length-append «data» (index ++ word n) ∙ ap (λ m. length «data» + m) (length-append index (word n)) in
    let test = le-leb (8 + n) (length value) (omega (arith, count)) in
    let turned : value ≡ («data» ++ index) ++ word n = sym (append_assoc «data» index (word n)) in
    let skip : length value - 8 ≡ length («data» ++ index) = omega (arith, count, length-append «data» index) in
    let told : drop (length value - 8) value ≡ word n = ap (λ m. drop m value) skip ∙ (ap (drop (length («data» ++ index))) turned ∙ drop-append_seam («data» ++ index) (word n)) in
    let long : number 256 (drop (length value - 8) value) ≡ n = ap (number 256) told ∙ number_word n short in
    let front : length value - (8 + n) ≡ length «data» = omega (arith, count) in
    let one : take n (drop (length value - (8 + n)) value) ≡ index = ap (λ m. take n (drop m value)) front ∙ (ap (take n) (drop-append_seam «data» (index ++ word n)) ∙ take-append_seam index (word n)) in
    let two : take (length value - (8 + n)) value ≡ «data» = ap (λ m. take m value) front ∙ take-append_seam «data» (index ++ word n) in
    ap (λ m. if nat_le (8 + m) (length value) then Some (take m (drop (length value - (8 + m)) value), take (length value - (8 + m)) value) else None) long
    ∙ (ap (λ (t : Bool). if t then Some (take n (drop (length value - (8 + n)) value), take (length value - (8 + n)) value) else None) test
    ∙ (ap (λ (ns : List ℕ). Some (ns, take (length value - (8 + n)) value)) one ∙ ap (λ (ns : List ℕ). Some (index, ns)) two))
