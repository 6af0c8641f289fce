-- Elements spread to where marks are 1.
use Rattle.std.proofs.Common.{◌≡◌, ℕ, suc, ◌-◌, ◌*◌, ◌/◌, ◌<◌, List, [], ◌∷◌, ◌++◌, length, map, take, drop, replicate, ap, ◌∙◌, sym, refl, arith, Some, None, option_and_then, option_map, Bool, true, false, ◌==◌, if◌then◌else◌}
use Rattle.std.specs.List.{list_all}
use Rattle.std.proofs.lemmas.Bool.{le-leb}
use Rattle.std.proofs.lemmas.List.{length-map, length-replicate}
use Rattle.std.proofs.Math.Nat.{mul-div_left}
use Rattle.zarr_codecs_meaning.specs.Types.{DataType, byte_width, is_variable, Cell, of_bytes}
use Rattle.zarr_codecs_meaning.specs.Payloads.{Payload, fixed, variable, fixed_cells, fixed_in, bytes_between, variable_in, cells_in}
use Rattle.zarr_codecs_meaning.proofs.Lists.{map_some, if_some, some_same}
use Rattle.zarr_codecs_arrays.proofs.FixedCells.{fixed_cells-cons, fixed_in-whole, length-fixed_cells}
use Rattle.zarr_codecs_sections.specs.Marks.{AreMarked, chosen, count_ones, spread_bytes, spread_ends, spread_offsets}
use Rattle.zarr_codecs_sections.proofs.Choices.{chosen_all, chosen_map, chosen_none, chosen_one, count_all, count_none, count_one}
use Rattle.zarr_codecs_sections.proofs.ChosenCells.{front_of, fixed_is, fixed_length, no_cells, one_longer, cut_off, put_before}

pub all_marked : (type : DataType) (payload : Payload) (marks : List ℕ) (cells : List Cell) → list_all (λ m. m == 1) marks ≡ true → cells_in type payload ≡ Some cells → length cells ≡ count_ones marks → AreMarked type marks cells payload
all_marked type payload marks cells all lists count =
    let long : length cells ≡ length marks = count ∙ count_all marks all in
    record { all = cells; lists = lists; many = long; are = chosen_all marks cells all long }

-- ---- of one size

-- bytes that are elements, of which those whose marks are 1 are these
record AreSpread (width : ℕ) (marks bytes : List ℕ) : Type 0 where
  long : length (spread_bytes width marks bytes) ≡ length marks * width
  are : chosen marks (fixed_cells width (spread_bytes width marks bytes)) ≡ fixed_cells width bytes

spread_fixed : (width : ℕ) (marks bytes : List ℕ) → 0 < width → length bytes ≡ count_ones marks * width → AreSpread width marks bytes
spread_fixed width [] bytes h long = record { long = omega arith; are = sym (no_cells width bytes long) }
spread_fixed width (m ∷ ms) bytes h long = by_mark (m == 1) refl (λ rest count. spread_fixed width ms rest h count) where
  by_mark : (b : Bool) → (m == 1) ≡ b → ((rest : List ℕ) → length rest ≡ count_ones ms * width → AreSpread width ms rest) → AreSpread width (m ∷ ms) bytes
  by_mark true mark law =
      let first = front_of width (count_ones ms) bytes h (long ∙ ap (λ n. n * width) (count_one m ms mark)) in
      let rest = law (drop width bytes) first.rest in
      let element = take width bytes in
      let made = spread_bytes width ms (drop width bytes) in
      let is : spread_bytes width (m ∷ ms) bytes ≡ element ++ made = ap (λ (b : Bool). if b then element ++ made else replicate width 0 ++ spread_bytes width ms bytes) mark in
      record {
        long = ap length is ∙ one_longer width (length ms) element made first.one rest.long;
        are = ap (λ bs. chosen (m ∷ ms) (fixed_cells width bs)) is
            ∙ (ap (λ cs. chosen (m ∷ ms) cs) (fixed_cells-cons width element made h first.one)
            ∙ (chosen_one m ms (of_bytes element) (fixed_cells width made) mark ∙ (ap (λ cs. of_bytes element ∷ cs) rest.are ∙ sym first.cells)));
      }
  by_mark false mark law =
      let rest = law bytes (long ∙ ap (λ n. n * width) (count_none m ms mark)) in
      let zeros = replicate width 0 in
      let made = spread_bytes width ms bytes in
      let is : spread_bytes width (m ∷ ms) bytes ≡ zeros ++ made = ap (λ (b : Bool). if b then take width bytes ++ spread_bytes width ms (drop width bytes) else zeros ++ made) mark in
      record {
        long = ap length is ∙ one_longer width (length ms) zeros made (length-replicate width 0) rest.long;
        are = ap (λ bs. chosen (m ∷ ms) (fixed_cells width bs)) is
            ∙ (ap (λ cs. chosen (m ∷ ms) cs) (fixed_cells-cons width zeros made h (length-replicate width 0)) ∙ (chosen_none m ms (of_bytes zeros) (fixed_cells width made) mark ∙ rest.are));
      }

pub fixed_marked : (type : DataType) (made : Payload) (width : ℕ) (bytes marks : List ℕ) (cells : List Cell) → length cells ≡ count_ones marks → byte_width type ≡ Some width → fixed_in width bytes ≡ Some cells → made ≡ fixed (spread_bytes width marks bytes) → AreMarked type marks cells made
fixed_marked type made width bytes marks cells count told inside is =
    let whole = fixed_in-whole width bytes cells inside in
    let spread = spread_fixed width marks bytes whole.positive (fixed_length width bytes cells inside ∙ ap (λ n. n * width) count) in
    let bs = spread_bytes width marks bytes in
    let lists = fixed_is width (length marks) bs whole.positive spread.long in
    record {
      all = fixed_cells width bs;
      lists = ap (cells_in type) is ∙ (ap (option_and_then (λ n. fixed_in n bs)) told ∙ lists);
      many = length-fixed_cells width bs ∙ (ap (λ n. n / width) spread.long ∙ mul-div_left (length marks) whole.positive);
      are = spread.are ∙ sym whole.is;
    }

-- ---- of variable length

-- elements that offsets cut, of which those whose marks are 1 are these
record AreCutSpread (marks : List ℕ) (start : ℕ) (ends bytes : List ℕ) (pieces : List (List ℕ)) : Type 0 where
  all : List (List ℕ)
  cut : bytes_between start (spread_ends marks start ends) bytes ≡ Some all
  many : length all ≡ length marks
  are : chosen marks all ≡ pieces

ends_skip : (m : ℕ) (ms : List ℕ) (start : ℕ) (ends : List ℕ) → (m == 1) ≡ false → spread_ends (m ∷ ms) start ends ≡ start ∷ spread_ends ms start ends
ends_skip m ms start [] h = refl
ends_skip m ms start (end ∷ ends) h = ap (λ (b : Bool). if b then end ∷ spread_ends ms end ends else start ∷ spread_ends ms start (end ∷ ends)) h

no_more : (start : ℕ) (bytes : List ℕ) (pieces : List (List ℕ)) → bytes_between start [] bytes ≡ Some pieces → [] ≡ pieces
no_more start bytes pieces h = some_same (if_some (start == length bytes) (Some []) pieces h).1

spread_between : (marks : List ℕ) (start : ℕ) (ends bytes : List ℕ) (pieces : List (List ℕ)) → bytes_between start ends bytes ≡ Some pieces → length pieces ≡ count_ones marks → AreCutSpread marks start ends bytes pieces
spread_between [] start [] bytes pieces h count = record { all = pieces; cut = h; many = count; are = no_more start bytes pieces h }
spread_between [] start (end ∷ ends) bytes pieces h count =
    let cut = cut_off start end ends bytes pieces h in
    absurd (omega (arith, ap length cut.are, count))
spread_between (m ∷ ms) start ends bytes pieces h count = by_mark (m == 1) refl ends h (λ start ends pieces k many. spread_between ms start ends bytes pieces k many) where
  by_mark : (b : Bool) → (m == 1) ≡ b → (ends : List ℕ) → bytes_between start ends bytes ≡ Some pieces
      → ((start : ℕ) (ends : List ℕ) (pieces : List (List ℕ)) → bytes_between start ends bytes ≡ Some pieces → length pieces ≡ count_ones ms → AreCutSpread ms start ends bytes pieces) → AreCutSpread (m ∷ ms) start ends bytes pieces
  by_mark true mark [] h law = absurd (omega (arith, count, count_one m ms mark, ap length (no_more start bytes pieces h)))
  by_mark true mark (end ∷ ends) h law =
      let cut = cut_off start end ends bytes pieces h in
      let piece = take (end - start) (drop start bytes) in
      let rest = law end ends cut.others cut.rest (omega (arith, count, count_one m ms mark, ap length cut.are)) in
      let is : spread_ends (m ∷ ms) start (end ∷ ends) ≡ end ∷ spread_ends ms end ends = ap (λ (b : Bool). if b then end ∷ spread_ends ms end ends else start ∷ spread_ends ms start (end ∷ ends)) mark in
      record {
        all = piece ∷ rest.all;
        cut = ap (λ es. bytes_between start es bytes) is ∙ put_before start end (spread_ends ms end ends) bytes rest.all cut.less rest.cut;
        many = ap suc rest.many;
        are = chosen_one m ms piece rest.all mark ∙ (ap (λ ps. piece ∷ ps) rest.are ∙ cut.are);
      }
  by_mark false mark ends h law =
      let piece = take (start - start) (drop start bytes) in
      let rest = law start ends pieces h (count ∙ count_none m ms mark) in
      record {
        all = piece ∷ rest.all;
        cut = ap (λ es. bytes_between start es bytes) (ends_skip m ms start ends mark) ∙ put_before start start (spread_ends ms start ends) bytes rest.all (le-leb start start (omega arith)) rest.cut;
        many = ap suc rest.many;
        are = chosen_none m ms piece rest.all mark ∙ rest.are;
      }

-- elements of variable length, all of them
record AreSpreadOut (marks offsets bytes : List ℕ) (cells : List Cell) : Type 0 where
  all : List Cell
  lists : variable_in (spread_offsets marks offsets) bytes ≡ Some all
  many : length all ≡ length marks
  are : chosen marks all ≡ cells

spread_out : (marks offsets bytes : List ℕ) (cells : List Cell) → variable_in offsets bytes ≡ Some cells → length cells ≡ count_ones marks → AreSpreadOut marks offsets bytes cells
spread_out marks [] bytes cells h count = cc
spread_out marks (start ∷ ends) bytes cells h count =
    let found = map_some (map of_bytes) (bytes_between start ends bytes) cells h in
    let long : length found.0 ≡ count_ones marks = sym (length-map found.0 of_bytes) ∙ (ap length found.2 ∙ count) in
    let spread = spread_between marks start ends bytes found.0 found.1 long in
    record {
      all = map of_bytes spread.all;
      lists = ap (option_map (map of_bytes)) spread.cut;
      many = length-map spread.all of_bytes ∙ spread.many;
      are = chosen_map of_bytes marks spread.all ∙ (ap (map of_bytes) spread.are ∙ found.2);
    }

pub variable_marked : (type : DataType) (payload made : Payload) (bytes offsets marks : List ℕ) (cells : List Cell) → payload ≡ variable bytes offsets → cells_in type payload ≡ Some cells → length cells ≡ count_ones marks
    → made ≡ variable bytes (spread_offsets marks offsets) → AreMarked type marks cells made
variable_marked type payload made bytes offsets marks cells p h count is =
    let found = if_some (is_variable type) (variable_in offsets bytes) cells (sym (ap (cells_in type) p) ∙ h) in
    let spread = spread_out marks offsets bytes cells found.1 count in
    record {
      all = spread.all;
      lists = ap (cells_in type) is ∙ (ap (λ (b : Bool). if b then variable_in (spread_offsets marks offsets) bytes else None) found.0 ∙ spread.lists);
      many = spread.many;
      are = spread.are;
    }
