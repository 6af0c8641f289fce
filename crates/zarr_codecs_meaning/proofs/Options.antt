-- Elements that may be absent, written and read back.
use Rattle.std.proofs.Common.{◌≡◌, ℕ, suc, ◌+◌, ◌<◌, ◌≤◌, ◌^◌, List, [], ◌∷◌, ◌++◌, length, map, take, drop, ap, ◌∙◌, sym, refl, arith, Some, None, Bool, true, false, ◌&&◌, ◌==◌, if◌then◌else◌, length-append}
use Rattle.std.specs.Prelude.{nat_le}
use Rattle.std.specs.List.{filter_map, list_all}
use Rattle.std.proofs.lemmas.Bool.{le-leb, eq-eqb, and_parts}
use Rattle.std.proofs.Math.Seq.{take-append_seam, drop-append_seam, drop-drop}
use Rattle.zarr_codecs_meaning.specs.Numbers.{number, word}
use Rattle.zarr_codecs_meaning.specs.Types.{DataType, bool, integer, custom, string, variable_bytes, optional_of, inner_type, is_value, are_bytes, Cell, of_bytes, absent, present}
use Rattle.zarr_codecs_meaning.specs.Encoding.{mask_cell, present_cell}
use Rattle.zarr_codecs_meaning.specs.Keeping.{spread}
use Rattle.zarr_codecs_meaning.specs.Decoding.{masked_of, count_present}
use Rattle.zarr_codecs_meaning.proofs.Lists.{Each}
use Rattle.zarr_codecs_meaning.proofs.Shards.{number_word}

-- a value of an optional type
abbrev pub IsOption : DataType → Cell → Type 0
IsOption inner (of_bytes element) = ⊥
IsOption inner absent = Unit {0}
IsOption inner (present cell) = is_value inner cell ≡ true

pub option_value : (type inner : DataType) (cell : Cell) → inner_type type ≡ Some inner → is_value type cell ≡ true → IsOption inner cell
option_value bool inner cell e h = cc
option_value (integer sign width) inner cell e h = cc
option_value (custom parts) inner cell e h = cc
option_value string inner cell e h = cc
option_value variable_bytes inner cell e h = cc
option_value (optional_of type) inner (of_bytes element) e h = let no : false ≡ true = (and_parts (are_bytes element) false h).1 in cc
option_value (optional_of type) inner absent e h = tt
option_value (optional_of type) inner (present cell) e h = let same : type ≡ inner = cc in sym (ap (λ t. is_value t cell) same) ∙ h

pub masks_are_values : (cells : List Cell) → list_all (is_value bool) (map mask_cell cells) ≡ true
masks_are_values [] = refl
masks_are_values (of_bytes element ∷ cells) = masks_are_values cells
masks_are_values (absent ∷ cells) = masks_are_values cells
masks_are_values (present cell ∷ cells) = masks_are_values cells

pub found_are_values : (inner : DataType) (cells : List Cell) → Each (IsOption inner) cells → list_all (is_value inner) (filter_map present_cell cells) ≡ true
found_are_values inner [] h = refl
found_are_values inner (of_bytes element ∷ cells) h = elim h.0 [ ]
found_are_values inner (absent ∷ cells) h = found_are_values inner cells h.1
found_are_values inner (present cell ∷ cells) h = ap (λ (b : Bool). b && list_all (is_value inner) (filter_map present_cell cells)) h.0 ∙ found_are_values inner cells h.1

pub absent_first : (masks found : List Cell) → spread (of_bytes (0 ∷ []) ∷ masks) found ≡ absent ∷ spread masks found
absent_first masks [] = refl
absent_first masks (cell ∷ found) = refl

pub spread_back : (inner : DataType) (cells : List Cell) → Each (IsOption inner) cells → spread (map mask_cell cells) (filter_map present_cell cells) ≡ cells
spread_back inner [] h = refl
spread_back inner (of_bytes element ∷ cells) h = elim h.0 [ ]
spread_back inner (absent ∷ cells) h = absent_first (map mask_cell cells) (filter_map present_cell cells) ∙ ap (λ xs. absent ∷ xs) (spread_back inner cells h.1)
spread_back inner (present cell ∷ cells) h = ap (λ xs. present cell ∷ xs) (spread_back inner cells h.1)

pub count_found : (cells : List Cell) → count_present (map mask_cell cells) ≡ length (filter_map present_cell cells)
count_found [] = refl
count_found (of_bytes element ∷ cells) = count_found cells
count_found (absent ∷ cells) = count_found cells
count_found (present cell ∷ cells) = ap suc (count_found cells)

pub length-found : (cells : List Cell) → length (filter_map present_cell cells) ≤ length cells
length-found [] = omega arith
length-found (of_bytes element ∷ cells) = omega (arith, length-found cells)
length-found (absent ∷ cells) = omega (arith, length-found cells)
length-found (present cell ∷ cells) = omega (arith, length-found cells)

pub masked_back : (mask «data» : List ℕ) → length mask < 2 ^ 64 → length «data» < 2 ^ 64 → masked_of (word (length mask) ++ (word (length «data») ++ (mask ++ «data»))) ≡ Some (mask, «data»)
masked_back mask «data» one two =
    let m = length mask in
    let n = length «data» in
    let value = word m ++ (word n ++ (mask ++ «data»)) in
    let count : length value ≡ 16 + m + n = length-append (word m) (word n ++ (mask ++ «data»)) ∙ (ap (λ k. 8 + k) (length-append (word n) (mask ++ «data») ∙ ap (λ k. 8 + k) (length-append mask «data»)) ∙ omega arith) in
    let some = le-leb 16 (length value) (omega (arith, count)) in
    let exact = eq-eqb (length value) (16 + m + n) count in
    let back : drop (16 + m) value ≡ «data» = sym (drop-drop m 16 value) ∙ drop-append_seam mask «data» in
    ap (λ k. if nat_le 16 (length value) && (length value == 16 + k + number 256 (word n)) then Some (take k (mask ++ «data»), drop (16 + k) value) else None) (number_word m one)
    ∙ (ap (λ k. if nat_le 16 (length value) && (length value == 16 + m + k) then Some (take m (mask ++ «data»), drop (16 + m) value) else None) (number_word n two)
    ∙ (ap (λ (t : Bool). if t && (length value == 16 + m + n) then Some (take m (mask ++ «data»), drop (16 + m) value) else None) some
    ∙ (ap (λ (t : Bool). if t then Some (take m (mask ++ «data»), drop (16 + m) value) else None) exact
    ∙ (ap (λ (ns : List ℕ). Some (ns, drop (16 + m) value)) (take-append_seam mask «data») ∙ ap (λ (ns : List ℕ). Some (mask, ns)) back))))
