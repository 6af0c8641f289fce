-- Elements that are all one element, of types whose elements have no one size.
use Rattle.std.proofs.Common.{◌≡◌, ℕ, zero, suc, ◌+◌, ◌-◌, ◌<◌, ◌≤◌, List, [], ◌∷◌, length, get_or, map, take, drop, ap, ◌∙◌, sym, refl, arith, Option, Some, None, Bool, true, false, ◌&&◌, ◌==◌, if◌then◌else◌, option_map, option_and_then, unwrap_or}
use Rattle.std.specs.Prelude.{nat_le, bytes_eq}
use Rattle.std.specs.List.{list_all}
use Rattle.std.proofs.lemmas.Bool.{ne_eqb, eq-eqb, leb-false, leb-true}
use Rattle.zarr_codecs_meaning.specs.Types.{DataType, bytes_in, components, cell_bytes, byte_width, is_fixed, Cell, of_bytes, absent, present, same_cell, is_fill, is_value}
use Rattle.zarr_codecs_meaning.specs.Payloads.{bytes_between, variable_in, masked, masked_in}
use Rattle.zarr_codecs_meaning.proofs.Lists.{some_same}
use Rattle.std.proofs.lemmas.List.{drop_more}
use Rattle.zarr_codecs_meaning.proofs.Values.{fixed_value}
use Rattle.zarr_codecs_arrays.proofs.Counts.{right_false, same_suc}

-- whether elements, where they are some, are all one element
abbrev pub all_fill : Cell → Option (List Cell) → Bool
all_fill fill cells = unwrap_or (option_map (is_fill fill) cells) false

-- ---- elements of one size

pub value_width : (type : DataType) (element : List ℕ) → is_fixed type ≡ true → is_value type (of_bytes element) ≡ true → byte_width type ≡ Some (length element)
value_width type element fixed_ value =
    let v = fixed_value type (of_bytes element) fixed_ value in
    ap (λ (b : Bool). if b then Some (bytes_in (components type)) else None) fixed_
    ∙ ap Some (sym (ap (λ (c : Cell). length (cell_bytes c)) v.is ∙ v.long))

-- ---- elements of any length

abbrev pub fill_between : List ℕ → List ℕ → ℕ → List ℕ → Bool
fill_between element bytes start ends = all_fill (of_bytes element) (option_map (map of_bytes) (bytes_between start ends bytes))

fill_after : (fill : Cell) (element : List ℕ) (o : Option (List (List ℕ))) → all_fill fill (option_map (map of_bytes) (option_map (λ rest. element ∷ rest) o)) ≡ (same_cell (of_bytes element) fill && all_fill fill (option_map (map of_bytes) o))
fill_after fill element None = sym (right_false (same_cell (of_bytes element) fill))
fill_after fill element (Some pieces) = refl

past_end : (element bytes : List ℕ) (start : ℕ) (ends : List ℕ) → length bytes < start → fill_between element bytes start ends ≡ false
past_end element bytes start [] h = ap (λ (b : Bool). all_fill (of_bytes element) (option_map (map of_bytes) (if b then Some [] else None))) (ne_eqb start (length bytes) (λ e. omega arith))
past_end element bytes start (end ∷ ends) h = at_test (nat_le start end) refl (λ more. past_end element bytes end ends (omega (arith, more))) where
  piece : List ℕ
  piece = take (end - start) (drop start bytes)

  at_test : (b : Bool) → nat_le start end ≡ b → (start ≤ end → fill_between element bytes end ends ≡ false) → all_fill (of_bytes element) (option_map (map of_bytes) (if b then option_map (λ rest. piece ∷ rest) (bytes_between end ends bytes) else None)) ≡ false
  at_test false e law = refl
  at_test true e law =
      fill_after (of_bytes element) piece (bytes_between end ends bytes)
      ∙ (ap (λ (b : Bool). same_cell (of_bytes piece) (of_bytes element) && b) (law (leb-true start end e)) ∙ right_false (same_cell (of_bytes piece) (of_bytes element)))

pub fill_step : (element bytes : List ℕ) (start end : ℕ) (ends : List ℕ)
    → fill_between element bytes start (end ∷ ends) ≡ ((nat_le start end && (nat_le end (length bytes) && bytes_eq (take (end - start) (drop start bytes)) element)) && fill_between element bytes end ends)
fill_step element bytes start end ends = at_test (nat_le start end) (nat_le end (length bytes)) refl where
  piece : List ℕ
  piece = take (end - start) (drop start bytes)

  at_test : (a b : Bool) → nat_le end (length bytes) ≡ b → all_fill (of_bytes element) (option_map (map of_bytes) (if a then option_map (λ rest. piece ∷ rest) (bytes_between end ends bytes) else None)) ≡ ((a && (b && bytes_eq piece element)) && fill_between element bytes end ends)
  at_test false b e = refl
  at_test true true e = fill_after (of_bytes element) piece (bytes_between end ends bytes)
  at_test true false e =
      let more = leb-false end (length bytes) e in
      fill_after (of_bytes element) piece (bytes_between end ends bytes)
      ∙ (ap (λ (b : Bool). bytes_eq piece element && b) (past_end element bytes end ends more) ∙ right_false (bytes_eq piece element))

pub fill_end : (element bytes : List ℕ) (start : ℕ) → (start == length bytes) ≡ fill_between element bytes start []
fill_end element bytes start = at_test (start == length bytes) where
  at_test : (b : Bool) → b ≡ all_fill (of_bytes element) (option_map (map of_bytes) (if b then Some [] else None))
  at_test true = refl
  at_test false = refl

-- ---- elements that may be absent

fill_first : (fill first : Cell) (o : Option (List Cell)) → all_fill fill (option_map (λ others. first ∷ others) o) ≡ (same_cell first fill && all_fill fill o)
fill_first fill first None = sym (right_false (same_cell first fill))
fill_first fill first (Some cells) = refl

pub absent_fill : (cells : List Cell) (mask : List ℕ) → all_fill absent (masked_in cells mask) ≡ ((length cells == length mask) && list_all (λ b. b == 0) mask)
absent_fill [] [] = refl
absent_fill [] (m ∷ mask) = sym (ap (λ (b : Bool). b && list_all (λ b. b == 0) (m ∷ mask)) (ne_eqb 0 (suc (length mask)) (λ e. omega arith)))
absent_fill (c ∷ cells) [] = sym (ap (λ (b : Bool). b && true) (ne_eqb (suc (length cells)) 0 (λ e. omega arith)))
absent_fill (c ∷ cells) (m ∷ mask) =
    at_marks (m == 0) (m == 1) (length cells == length mask) (list_all (λ b. b == 0) mask) (masked_in cells mask) (absent_fill cells mask)
    ∙ ap (λ (b : Bool). b && ((m == 0) && list_all (λ b. b == 0) mask)) (same_suc (length cells) (length mask)) where
      at_marks : (zero_ one_ long marks : Bool) (o : Option (List Cell)) → all_fill absent o ≡ (long && marks)
          → all_fill absent (option_and_then (λ first. option_map (λ others. first ∷ others) o) (if zero_ then Some absent else (if one_ then Some (present c) else None))) ≡ (long && (zero_ && marks))
      at_marks true one_ long marks o h = fill_first absent absent o ∙ h
      at_marks false true long marks o h = fill_first absent (present c) o ∙ sym (right_false long)
      at_marks false false long marks o h = sym (right_false long)

pub present_fill : (cell : Cell) (cells : List Cell) (mask : List ℕ) → all_fill (present cell) (masked_in cells mask) ≡ ((length cells == length mask) && (list_all (λ b. b == 1) mask && is_fill cell cells))
present_fill cell [] [] = refl
present_fill cell [] (m ∷ mask) = sym (ap (λ (b : Bool). b && (list_all (λ b. b == 1) (m ∷ mask) && true)) (ne_eqb 0 (suc (length mask)) (λ e. omega arith)))
present_fill cell (c ∷ cells) [] = sym (ap (λ (b : Bool). b && (true && is_fill cell (c ∷ cells))) (ne_eqb (suc (length cells)) 0 (λ e. omega arith)))
present_fill cell (c ∷ cells) (m ∷ mask) =
    at_marks m (length cells == length mask) (list_all (λ b. b == 1) mask) (same_cell c cell) (is_fill cell cells) (masked_in cells mask) refl (present_fill cell cells mask)
    ∙ ap (λ (b : Bool). b && (((m == 1) && list_all (λ b. b == 1) mask) && (same_cell c cell && is_fill cell cells))) (same_suc (length cells) (length mask)) where
      moved : (long marks same rest : Bool) → (same && (long && (marks && rest))) ≡ (long && (marks && (same && rest)))
      moved true true same rest = refl
      moved true false same rest = right_false same
      moved false marks same rest = right_false same

      by_test : (one_ long marks same rest : Bool) (o : Option (List Cell)) → same_cell c cell ≡ same → all_fill (present cell) o ≡ (long && (marks && rest))
          → all_fill (present cell) (option_and_then (λ first. option_map (λ others. first ∷ others) o) (if one_ then Some (present c) else None)) ≡ (long && ((one_ && marks) && (same && rest)))
      by_test true long marks same rest o e h = fill_first (present cell) (present c) o ∙ (ap (λ (b : Bool). same_cell c cell && b) h ∙ (ap (λ (b : Bool). b && (long && (marks && rest))) e ∙ moved long marks same rest))
      by_test false long marks same rest o e h = sym (right_false long)

      at_marks : (m : ℕ) (long marks same rest : Bool) (o : Option (List Cell)) → same_cell c cell ≡ same → all_fill (present cell) o ≡ (long && (marks && rest))
          → all_fill (present cell) (option_and_then (λ first. option_map (λ others. first ∷ others) o) (masked c m)) ≡ (long && (((m == 1) && marks) && (same && rest)))
      at_marks zero long marks same rest o e h = fill_first (present cell) absent o ∙ sym (right_false long)
      at_marks (suc m) long marks same rest o e h =
          ap (λ (b : Bool). all_fill (present cell) (option_and_then (λ first. option_map (λ others. first ∷ others) o) (if b then Some absent else (if suc m == 1 then Some (present c) else None)))) (ne_eqb (suc m) 0 (λ e. omega arith))
          ∙ by_test (suc m == 1) long marks same rest o e h

-- ---- by what the code tests

pub fill_stops : (element bytes ends : List ℕ) (first start index : ℕ) (r : Bool) → fill_between element bytes first ends ≡ fill_between element bytes start (drop index ends) → index < length ends
    → r ≡ (nat_le start (get_or ends index 0) && (nat_le (get_or ends index 0) (length bytes) && bytes_eq (take (get_or ends index 0 - start) (drop start bytes)) element)) → r ≡ false → false ≡ fill_between element bytes first ends
fill_stops element bytes ends first start index r h less is wrong =
    let end = get_or ends index 0 in
    sym (h ∙ (ap (fill_between element bytes start) (drop_more ends index 0 less)
    ∙ (fill_step element bytes start end (drop (index + 1) ends) ∙ ap (λ (b : Bool). b && fill_between element bytes end (drop (index + 1) ends)) (sym is ∙ wrong))))

pub fill_of_offsets : (element bytes offsets ends : List ℕ) (first : ℕ) → offsets ≡ first ∷ ends → false ≡ fill_between element bytes first ends → false ≡ all_fill (of_bytes element) (variable_in offsets bytes)
fill_of_offsets element bytes offsets ends first is h = h ∙ sym (ap (λ ns. all_fill (of_bytes element) (variable_in ns bytes)) is)

pub absent_long : (count : Option ℕ) (n : ℕ) (mask : List ℕ) (below : Option (List Cell)) → count ≡ Some n → (n ≡ length mask → ⊥) → count ≡ option_map length below → false ≡ all_fill absent (option_and_then (λ cells. masked_in cells mask) below)
absent_long count n mask None some other h = refl
absent_long count n mask (Some cells) some other h =
    let many : n ≡ length cells = some_same (sym some ∙ h) in
    sym (absent_fill cells mask ∙ ap (λ (b : Bool). b && list_all (λ b. b == 0) mask) (ne_eqb (length cells) (length mask) (λ e. other (many ∙ e))))

pub absent_marks : (count : Option ℕ) (n : ℕ) (mask : List ℕ) (below : Option (List Cell)) (r : Bool) → count ≡ Some n → n ≡ length mask → count ≡ option_map length below → r ≡ list_all (λ b. b == 0) mask
    → r ≡ all_fill absent (option_and_then (λ cells. masked_in cells mask) below)
absent_marks count n mask None r some same h is = cc
absent_marks count n mask (Some cells) r some same h is =
    let many : length cells ≡ length mask = some_same (sym h ∙ some) ∙ same in
    is ∙ sym (absent_fill cells mask ∙ ap (λ (b : Bool). b && list_all (λ b. b == 0) mask) (eq-eqb (length cells) (length mask) many))

pub present_long : (count : Option ℕ) (n : ℕ) (mask : List ℕ) (cell : Cell) (below : Option (List Cell)) → count ≡ Some n → (n ≡ length mask → ⊥) → count ≡ option_map length below → false ≡ all_fill (present cell) (option_and_then (λ cells. masked_in cells mask) below)
present_long count n mask cell None some other h = refl
present_long count n mask cell (Some cells) some other h =
    let many : n ≡ length cells = some_same (sym some ∙ h) in
    sym (present_fill cell cells mask ∙ ap (λ (b : Bool). b && (list_all (λ b. b == 1) mask && is_fill cell cells)) (ne_eqb (length cells) (length mask) (λ e. other (many ∙ e))))

pub present_marks : (count : Option ℕ) (n : ℕ) (mask : List ℕ) (cell : Cell) (below : Option (List Cell)) (r all : Bool) → count ≡ Some n → n ≡ length mask → count ≡ option_map length below → all ≡ all_fill cell below
    → (list_all (λ b. b == 1) mask && all) ≡ r → r ≡ all_fill (present cell) (option_and_then (λ cells. masked_in cells mask) below)
present_marks count n mask cell None r all some same h is e = cc
present_marks count n mask cell (Some cells) r all some same h is e =
    let many : length cells ≡ length mask = some_same (sym h ∙ some) ∙ same in
    sym e ∙ (ap (λ (b : Bool). list_all (λ b. b == 1) mask && b) is
    ∙ sym (present_fill cell cells mask ∙ ap (λ (b : Bool). b && (list_all (λ b. b == 1) mask && is_fill cell cells)) (eq-eqb (length cells) (length mask) many)))
