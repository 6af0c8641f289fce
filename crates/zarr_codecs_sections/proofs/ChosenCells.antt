-- Elements whose marks are 1, alone.
use Rattle.std.proofs.Common.{◌≡◌, ℕ, suc, ◌+◌, ◌-◌, ◌*◌, ◌%◌, ◌<◌, List, [], ◌∷◌, ◌++◌, length, map, take, drop, flat_map, ap, ◌∙◌, sym, refl, arith, Option, Some, None, option_and_then, option_map, Bool, true, false, ◌==◌, if◌then◌else◌, append_assoc, length-append, length-take, length-drop, take-append-drop}
use Rattle.std.specs.Prelude.{nat_le}
use Rattle.std.specs.List.{list_all}
use Rattle.std.proofs.lemmas.Bool.{le-leb, eq-eqb}
use Rattle.std.proofs.lemmas.List.{nil_from_length}
use Rattle.std.proofs.Math.Nat.{mul-mod_left}
use Rattle.std.proofs.Math.Seq.{take-append_seam, drop-append_seam}
use Rattle.zarr_codecs_meaning.specs.Types.{DataType, byte_width, is_variable, is_value, Cell, of_bytes}
use Rattle.zarr_codecs_meaning.specs.Payloads.{Payload, fixed, variable, fixed_cells, fixed_in, bytes_between, variable_in, cells_in}
use Rattle.zarr_codecs_meaning.proofs.Lists.{bind_some, map_some, if_some, some_same}
use Rattle.zarr_codecs_arrays.specs.Outcomes.{IsValid}
use Rattle.zarr_codecs_arrays.proofs.FixedCells.{fixed_cells-nil, fixed_cells-cons, fixed_in-some, fixed_in-whole, length-fixed_cells, whole_length}
use Rattle.zarr_codecs_sections.specs.Marks.{AreMarked, chosen, chosen_bytes, chosen_pieces, count_ones, ends_from, pieces_at}
use Rattle.zarr_codecs_sections.proofs.Choices.{chosen_all, chosen_map, chosen_none, chosen_one, count_chosen, count_none, count_one}

-- ---- of one size

-- bytes that are elements of one width
pub record AreFixed (type : DataType) (bytes : List ℕ) (cells : List Cell) : Type 0 where
  pub width : ℕ
  pub told : byte_width type ≡ Some width
  pub inside : fixed_in width bytes ≡ Some cells

pub fixed_parts : (type : DataType) (payload : Payload) (bytes : List ℕ) (cells : List Cell) → payload ≡ fixed bytes → cells_in type payload ≡ Some cells → AreFixed type bytes cells
fixed_parts type payload bytes cells p h =
    let found = bind_some (λ n. fixed_in n bytes) (byte_width type) cells (sym (ap (cells_in type) p) ∙ h) in
    record { width = found.0; told = found.1; inside = found.2 }

-- the first of several elements, and the others
pub record IsFirst (width count : ℕ) (bytes : List ℕ) : Type 0 where
  pub one : length (take width bytes) ≡ width
  pub rest : length (drop width bytes) ≡ count * width
  pub cells : fixed_cells width bytes ≡ of_bytes (take width bytes) ∷ fixed_cells width (drop width bytes)

pub front_of : (width count : ℕ) (bytes : List ℕ) → 0 < width → length bytes ≡ suc count * width → IsFirst width count bytes
front_of width count bytes h long =
    let sum : suc count * width ≡ width + count * width = grind arith in
    let one : length (take width bytes) ≡ width = length-take width bytes ∙ omega (arith, long, sum) in
    record {
      one = one;
      rest = length-drop width bytes ∙ omega (arith, long, sum);
      cells = ap (fixed_cells width) (sym (take-append-drop width bytes)) ∙ fixed_cells-cons width (take width bytes) (drop width bytes) h one;
    }

pub no_cells : (width : ℕ) (bytes : List ℕ) → length bytes ≡ 0 * width → fixed_cells width bytes ≡ []
no_cells width bytes long = ap (fixed_cells width) (nil_from_length bytes (long ∙ omega arith)) ∙ fixed_cells-nil width

pub one_longer : (width count : ℕ) (front back : List ℕ) → length front ≡ width → length back ≡ count * width → length (front ++ back) ≡ suc count * width
one_longer width count front back one rest =
    let sum : suc count * width ≡ width + count * width = grind arith in
    length-append front back ∙ omega (arith, one, rest, sum)

-- bytes that are those elements whose marks are 1
record AreChosen (width : ℕ) (marks bytes : List ℕ) : Type 0 where
  long : length (chosen_bytes width marks bytes) ≡ count_ones marks * width
  are : fixed_cells width (chosen_bytes width marks bytes) ≡ chosen marks (fixed_cells width bytes)

chosen_fixed : (width : ℕ) (marks bytes : List ℕ) → 0 < width → length bytes ≡ length marks * width → AreChosen width marks bytes
chosen_fixed width [] bytes h long = record { long = omega arith; are = fixed_cells-nil width }
chosen_fixed width (m ∷ ms) bytes h long = by_mark (m == 1) refl (chosen_fixed width ms (drop width bytes) h first.rest) where
  first : IsFirst width (length ms) bytes
  first = front_of width (length ms) bytes h long

  made : List ℕ
  made = chosen_bytes width ms (drop width bytes)

  by_mark : (b : Bool) → (m == 1) ≡ b → AreChosen width ms (drop width bytes) → AreChosen width (m ∷ ms) bytes
  by_mark true mark rest =
      let is : chosen_bytes width (m ∷ ms) bytes ≡ take width bytes ++ made = ap (λ (b : Bool). if b then take width bytes ++ made else made) mark in
      record {
        long = ap length is ∙ (one_longer width (count_ones ms) (take width bytes) made first.one rest.long ∙ ap (λ n. n * width) (sym (count_one m ms mark)));
        are = ap (fixed_cells width) is
            ∙ (fixed_cells-cons width (take width bytes) made h first.one
            ∙ (ap (λ cs. of_bytes (take width bytes) ∷ cs) rest.are
            ∙ sym (ap (λ cs. chosen (m ∷ ms) cs) first.cells ∙ chosen_one m ms (of_bytes (take width bytes)) (fixed_cells width (drop width bytes)) mark)));
      }
  by_mark false mark rest =
      let is : chosen_bytes width (m ∷ ms) bytes ≡ made = ap (λ (b : Bool). if b then take width bytes ++ made else made) mark in
      record {
        long = ap length is ∙ (rest.long ∙ ap (λ n. n * width) (sym (count_none m ms mark)));
        are = ap (fixed_cells width) is
            ∙ (rest.are ∙ sym (ap (λ cs. chosen (m ∷ ms) cs) first.cells ∙ chosen_none m ms (of_bytes (take width bytes)) (fixed_cells width (drop width bytes)) mark));
      }

-- whole elements of one width have as many bytes as elements
pub fixed_length : (width : ℕ) (bytes : List ℕ) (cells : List Cell) → fixed_in width bytes ≡ Some cells → length bytes ≡ length cells * width
fixed_length width bytes cells h =
    let w = fixed_in-whole width bytes cells h in
    whole_length width bytes w.whole ∙ ap (λ n. n * width) (sym (ap length w.is ∙ length-fixed_cells width bytes))

pub fixed_is : (width count : ℕ) (bytes : List ℕ) → 0 < width → length bytes ≡ count * width → fixed_in width bytes ≡ Some (fixed_cells width bytes)
fixed_is width count bytes h long = fixed_in-some width bytes h (ap (λ n. n % width) long ∙ mul-mod_left count width)

-- elements that are chosen are values where all that are marked are
chosen_valid : (type : DataType) (payload made : Payload) (marks : List ℕ) (cells : List Cell) → (are : AreMarked type marks cells payload) → list_all (is_value type) cells ≡ true → cells_in type made ≡ Some (chosen marks are.all) → IsValid type made (count_ones marks) cells
chosen_valid type payload made marks cells are values h = record {
  is = record {
    lists = h ∙ ap Some are.are;
    many = sym (ap length are.are) ∙ count_chosen marks are.all are.many;
  };
  values = values;
}

pub all_valid : (type : DataType) (payload : Payload) (marks : List ℕ) (cells : List Cell) → list_all (λ m. m == 1) marks ≡ true → AreMarked type marks cells payload → list_all (is_value type) cells ≡ true → IsValid type payload (count_ones marks) cells
all_valid type payload marks cells all are values = chosen_valid type payload payload marks cells are values (are.lists ∙ ap Some (sym (chosen_all marks are.all all are.many)))

pub fixed_valid : (type : DataType) (payload made : Payload) (width : ℕ) (bytes marks : List ℕ) (cells : List Cell) → (are : AreMarked type marks cells payload) → list_all (is_value type) cells ≡ true → byte_width type ≡ Some width → fixed_in width bytes ≡ Some are.all
    → made ≡ fixed (chosen_bytes width marks bytes) → IsValid type made (count_ones marks) cells
fixed_valid type payload made width bytes marks cells are values told inside is =
    let whole = fixed_in-whole width bytes are.all inside in
    let long : length bytes ≡ length marks * width = fixed_length width bytes are.all inside ∙ ap (λ n. n * width) are.many in
    let found = chosen_fixed width marks bytes whole.positive long in
    chosen_valid type payload made marks cells are values
    (ap (cells_in type) is
    ∙ (ap (option_and_then (λ n. fixed_in n (chosen_bytes width marks bytes))) told
    ∙ (fixed_is width (count_ones marks) (chosen_bytes width marks bytes) whole.positive found.long
    ∙ (ap Some found.are ∙ ap (λ cs. Some (chosen marks cs)) (sym whole.is)))))

-- ---- of variable length

-- the first element that offsets cut off, and the others
pub record IsCutOff (start end : ℕ) (ends bytes : List ℕ) (pieces : List (List ℕ)) : Type 0 where
  pub less : nat_le start end ≡ true
  pub others : List (List ℕ)
  pub rest : bytes_between end ends bytes ≡ Some others
  pub are : take (end - start) (drop start bytes) ∷ others ≡ pieces

pub cut_off : (start end : ℕ) (ends bytes : List ℕ) (pieces : List (List ℕ)) → bytes_between start (end ∷ ends) bytes ≡ Some pieces → IsCutOff start end ends bytes pieces
cut_off start end ends bytes pieces h =
    let both = if_some (nat_le start end) (option_map (λ rest. take (end - start) (drop start bytes) ∷ rest) (bytes_between end ends bytes)) pieces h in
    let found = map_some (λ rest. take (end - start) (drop start bytes) ∷ rest) (bytes_between end ends bytes) pieces both.1 in
    record { less = both.0; others = found.0; rest = found.1; are = found.2 }

pub put_before : (start end : ℕ) (ends bytes : List ℕ) (pieces : List (List ℕ)) → nat_le start end ≡ true → bytes_between end ends bytes ≡ Some pieces → bytes_between start (end ∷ ends) bytes ≡ Some (take (end - start) (drop start bytes) ∷ pieces)
put_before start end ends bytes pieces less rest =
    ap (λ (b : Bool). if b then option_map (λ rest. take (end - start) (drop start bytes) ∷ rest) (bytes_between end ends bytes) else None) less
    ∙ ap (option_map (λ rest. take (end - start) (drop start bytes) ∷ rest)) rest

pieces_chosen : (marks : List ℕ) (start : ℕ) (ends bytes : List ℕ) (pieces : List (List ℕ)) → bytes_between start ends bytes ≡ Some pieces → chosen_pieces marks start ends bytes ≡ chosen marks pieces
pieces_chosen [] start ends bytes pieces h = refl
pieces_chosen (m ∷ ms) start [] bytes pieces h = ap (λ ps. chosen (m ∷ ms) ps) (some_same (if_some (start == length bytes) (Some []) pieces h).1)
pieces_chosen (m ∷ ms) start (end ∷ ends) bytes pieces h =
    let cut = cut_off start end ends bytes pieces h in
    let piece = take (end - start) (drop start bytes) in
    ap (λ (others : List (List ℕ)). if m == 1 then piece ∷ others else others) (pieces_chosen ms end ends bytes cut.others cut.rest) ∙ ap (λ ps. chosen (m ∷ ms) ps) cut.are

pieces_joined : (front : List ℕ) (start : ℕ) (pieces : List (List ℕ)) → start ≡ length front → bytes_between start (ends_from start pieces) (front ++ flat_map (λ piece. piece) pieces) ≡ Some pieces
pieces_joined front start [] is =
    ap (λ (b : Bool). if◌then◌else◌ {A = Option (List (List ℕ))} b (Some []) None) (eq-eqb start (length (front ++ [])) (omega (arith, is, length-append {A = ℕ} front [])))
pieces_joined front start (piece ∷ pieces) is =
    let rest = flat_map (λ (piece : List ℕ). piece) pieces in
    let end = start + length piece in
    let ends = ends_from end pieces in
    let bytes = front ++ (piece ++ rest) in
    let same : take (end - start) (drop start bytes) ≡ piece =
    ap (λ k. take k (drop start bytes)) (omega arith)
    ∙ (ap (λ k. take (length piece) (drop k bytes)) is
    ∙ (ap (take (length piece)) (drop-append_seam front (piece ++ rest)) ∙ take-append_seam piece rest)) in
    let others : bytes_between end ends bytes ≡ Some pieces =
    ap (bytes_between end ends) (sym (append_assoc front piece rest)) ∙ pieces_joined (front ++ piece) end pieces (omega (arith, is, length-append front piece)) in
    put_before start end ends bytes pieces (le-leb start end (omega arith)) others ∙ ap (λ p. Some (p ∷ pieces)) same

pub variable_valid : (type : DataType) (payload made : Payload) (bytes offsets marks : List ℕ) (cells : List Cell) → AreMarked type marks cells payload → list_all (is_value type) cells ≡ true → payload ≡ variable bytes offsets
    → made ≡ variable (flat_map (λ piece. piece) (pieces_at marks offsets bytes)) (0 ∷ ends_from 0 (pieces_at marks offsets bytes)) → IsValid type made (count_ones marks) cells
variable_valid type payload made bytes offsets marks cells are values p is =
    let found = if_some (is_variable type) (variable_in offsets bytes) are.all (sym (ap (cells_in type) p) ∙ are.lists) in
    let pieces = pieces_at marks offsets bytes in
    chosen_valid type payload made marks cells are values
    (ap (cells_in type) is
    ∙ (ap (λ (b : Bool). if b then variable_in (0 ∷ ends_from 0 pieces) (flat_map (λ piece. piece) pieces) else None) found.0
    ∙ (ap (option_map (map of_bytes)) (pieces_joined [] 0 pieces refl) ∙ ap Some (at_offsets offsets found.1)))) where
      at_offsets : (offsets : List ℕ) → variable_in offsets bytes ≡ Some are.all → map of_bytes (pieces_at marks offsets bytes) ≡ chosen marks are.all
      at_offsets [] h = cc
      at_offsets (start ∷ ends) h =
          let found = map_some (map of_bytes) (bytes_between start ends bytes) are.all h in
          ap (map of_bytes) (pieces_chosen marks start ends bytes found.0 found.1) ∙ (sym (chosen_map of_bytes marks found.0) ∙ ap (λ cs. chosen marks cs) found.2)
