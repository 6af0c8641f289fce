-- A mask as elements of `bool`, and the elements that it has present.
use Rattle.std.proofs.Common.{◌≡◌, ℕ, zero, suc, List, [], ◌∷◌, length, map, ap, ◌∙◌, sym, refl, arith, Some, None, option_and_then, option_map, Bool, true, false, ◌==◌, if◌then◌else◌, subst, ◌⊎◌, inl, inr, ◌%◌}
use Rattle.std.specs.List.{list_all, filter, filter_map}
use Rattle.std.proofs.lemmas.Bool.{ne_eqb}
use Rattle.std.proofs.lemmas.List.{length-map}
use Rattle.zarr_codecs_meaning.specs.Numbers.{number}
use Rattle.zarr_codecs_meaning.specs.Types.{DataType, bool, optional_of, is_value, Cell, of_bytes, absent, present, cell_bytes}
use Rattle.zarr_codecs_meaning.specs.Payloads.{Payload, fixed, optional, fixed_cells, masked, masked_in, cells_in}
use Rattle.zarr_codecs_meaning.specs.Keeping.{spread}
use Rattle.zarr_codecs_meaning.specs.Encoding.{mask_cell, present_cell}
use Rattle.zarr_codecs_meaning.specs.Decoding.{count_present}
use Rattle.zarr_codecs_meaning.proofs.Lists.{each_passes, each_weaker, some_same, bind_some, map_some}
use Rattle.zarr_codecs_meaning.proofs.Options.{option_value, found_are_values, masks_are_values, IsOption}
use Rattle.zarr_codecs_arrays.specs.Outcomes.{IsValid}
use Rattle.zarr_codecs_arrays.specs.Views.{payload_of}
use Rattle.zarr_codecs_arrays.proofs.FixedCells.{fixed_cells-nil, fixed_cells-cons, fixed_in-some, fixed_in-whole}
use Rattle.zarr_codecs_arrays.proofs.Masks.{masked_parts, masked_lengths}
use Rattle.zarr_codecs_sections.specs.Marks.{AreMarked, IsMask, IsSpreadMask, both_marks, chosen, count_ones, mark_of, spread_marks}
use Rattle.zarr_codecs_sections.specs.Outcomes.{IsSplit}
use Rattle.zarr_codecs_sections.specs.declared.splitting.SplitOptions.{SplitOptions}
use Rattle.zarr_codecs_sections.proofs.Choices.{count_clean, count_one, count_none, spread_skip, spread_take, length-spread_marks, count_spread, chosen_one, chosen_none, length-both_marks, chosen_both}

-- ---- a mask as elements

-- a mask's numbers, one by one
pub marks_cons : (m : ℕ) (ms : List ℕ) → fixed_cells 1 (m ∷ ms) ≡ of_bytes (m ∷ []) ∷ fixed_cells 1 ms
marks_cons m ms = fixed_cells-cons 1 (m ∷ []) ms (omega arith) refl

pub one_number : (m : ℕ) → number 256 (m ∷ []) ≡ m
one_number m = omega arith

length-marks : (ms : List ℕ) → length (fixed_cells 1 ms) ≡ length ms
length-marks [] = ap length (fixed_cells-nil 1)
length-marks (m ∷ ms) = ap length (marks_cons m ms) ∙ ap suc (length-marks ms)

-- how many elements are present, by the mask's numbers
pub ones_counted : (ms : List ℕ) → count_ones ms ≡ count_present (fixed_cells 1 ms)
ones_counted [] = sym (ap count_present (fixed_cells-nil 1))
ones_counted (m ∷ ms) =
    sym (ap count_present (marks_cons m ms)
    ∙ (ap (λ n. length (if n == 1 then of_bytes (m ∷ []) ∷ rest else rest)) (one_number m) ∙ by_test (m == 1) (sym (ones_counted ms)))) where
      rest : List Cell
      rest = filter (λ mask. number 256 (cell_bytes mask) == 1) (fixed_cells 1 ms)

      by_test : (b : Bool) → length rest ≡ count_ones ms → length (if b then of_bytes (m ∷ []) ∷ rest else rest) ≡ length (if b then m ∷ filter (λ k. k == 1) ms else filter (λ k. k == 1) ms)
      by_test true h = ap suc h
      by_test false h = h

pub marks_counted : (payload : Payload) (marks : List ℕ) (masks : List Cell) → payload ≡ fixed marks → cells_in bool payload ≡ Some masks → masks ≡ fixed_cells 1 marks
marks_counted payload marks masks p h = (fixed_in-whole 1 marks masks (sym (ap (cells_in bool) p) ∙ h)).is

-- ---- elements with a mask

-- the number of an element in a mask
marked : (c first : Cell) (m : ℕ) → masked c m ≡ Some first → ((m ≡ 0) × (first ≡ absent)) ⊎ ((m ≡ 1) × (first ≡ present c))
marked c first zero h = inl (refl, sym (some_same h))
marked c first (suc zero) h = inr (refl, sym (some_same h))
marked c first (suc (suc m)) h = absurd (none_some (sym no_mark ∙ h)) where
  none_some : None ≡ Some first → ⊥
  none_some e = cc

  no_mark : masked c (suc (suc m)) ≡ None
  no_mark =
      ap (λ (b : Bool). if b then Some absent else (if suc (suc m) == 1 then Some (present c) else None)) (ne_eqb (suc (suc m)) 0 (λ e. omega arith))
      ∙ ap (λ (b : Bool). if b then Some (present c) else None) (ne_eqb (suc (suc m)) 1 (λ e. omega arith))

-- what a mask's number is, as an element
mask_mark : (c first : Cell) (m : ℕ) → masked c m ≡ Some first → mask_cell first ≡ of_bytes (m ∷ [])
mask_mark c first m h = elim (marked c first m h) [
  | inl a ↦ ap mask_cell a.1 ∙ ap (λ n. of_bytes (n ∷ [])) (sym a.0)
  | inr p ↦ ap mask_cell p.1 ∙ ap (λ n. of_bytes (n ∷ [])) (sym p.0)
]

-- the first of masked elements, and the others
record IsMarked (c : Cell) (m : ℕ) (below : List Cell) (mask : List ℕ) (cells : List Cell) : Type 0 where
  first : Cell
  rest : List Cell
  one : masked c m ≡ Some first
  others : masked_in below mask ≡ Some rest
  is : first ∷ rest ≡ cells

first_marked : (c : Cell) (m : ℕ) (below : List Cell) (mask : List ℕ) (cells : List Cell) → masked_in (c ∷ below) (m ∷ mask) ≡ Some cells → IsMarked c m below mask cells
first_marked c m below mask cells h =
    let one = bind_some (λ first. option_map (λ others. first ∷ others) (masked_in below mask)) (masked c m) cells h in
    let two = map_some (λ others. one.0 ∷ others) (masked_in below mask) cells one.2 in
    record { first = one.0; rest = two.0; one = one.1; others = two.1; is = two.2 }

pub masks_are : (below : List Cell) (mask : List ℕ) (cells : List Cell) → masked_in below mask ≡ Some cells → fixed_cells 1 mask ≡ map mask_cell cells
masks_are [] [] cells h = fixed_cells-nil 1 ∙ ap (map mask_cell) (some_same h)
masks_are [] (m ∷ mask) cells h = cc
masks_are (c ∷ below) [] cells h = cc
masks_are (c ∷ below) (m ∷ mask) cells h =
    let p = first_marked c m below mask cells h in
    marks_cons m mask
    ∙ (ap (λ x. x ∷ fixed_cells 1 mask) (sym (mask_mark c p.first m p.one))
    ∙ (ap (λ xs. mask_cell p.first ∷ xs) (masks_are below mask p.rest p.others) ∙ ap (map mask_cell) p.is))

-- ---- marks of a mask

pub clean_counted : (payload : Payload) (numbers marks : List ℕ) (masks : List Cell) → payload ≡ fixed numbers → cells_in bool payload ≡ Some masks → marks ≡ map mark_of numbers → count_ones marks ≡ count_present masks
clean_counted payload numbers marks masks p h are =
    ap count_ones are ∙ (count_clean numbers ∙ (ones_counted numbers ∙ ap count_present (sym (marks_counted payload numbers masks p h))))

pub spread_counted : (payload : Payload) (outer numbers marks : List ℕ) (masks : List Cell) → payload ≡ fixed numbers → cells_in bool payload ≡ Some masks → length masks ≡ count_ones outer → marks ≡ spread_marks outer numbers → count_ones marks ≡ count_present masks
spread_counted payload outer numbers marks masks p h many are =
    let is = marks_counted payload numbers masks p h in
    let long : length numbers ≡ count_ones outer = sym (ap length is ∙ length-marks numbers) ∙ many in
    ap count_ones are ∙ (count_spread outer numbers long ∙ (ones_counted numbers ∙ ap count_present (sym is)))

-- ---- elements below a mask, split

present_chosen : (below : List Cell) (mask : List ℕ) (cells : List Cell) → masked_in below mask ≡ Some cells → chosen mask below ≡ filter_map present_cell cells
present_chosen [] [] cells h = ap (filter_map present_cell) (some_same h)
present_chosen [] (m ∷ mask) cells h = cc
present_chosen (c ∷ below) [] cells h = cc
present_chosen (c ∷ below) (m ∷ mask) cells h =
    let p = first_marked c m below mask cells h in
    at_first p.first p.rest (marked c p.first m p.one) (present_chosen below mask p.rest p.others) ∙ ap (filter_map present_cell) p.is where
      at_first : (first : Cell) (rest : List Cell) → ((m ≡ 0) × (first ≡ absent)) ⊎ ((m ≡ 1) × (first ≡ present c)) → chosen mask below ≡ filter_map present_cell rest → chosen (m ∷ mask) (c ∷ below) ≡ filter_map present_cell (first ∷ rest)
      at_first first rest (inl a) k = ap (λ n. chosen (n ∷ mask) (c ∷ below)) a.0 ∙ (k ∙ sym (ap (λ f. filter_map present_cell (f ∷ rest)) a.1))
      at_first first rest (inr q) k = ap (λ n. chosen (n ∷ mask) (c ∷ below)) q.0 ∙ (ap (λ cs. c ∷ cs) k ∙ sym (ap (λ f. filter_map present_cell (f ∷ rest)) q.1))

masks_valid : (below : List Cell) (mask : List ℕ) (cells : List Cell) → masked_in below mask ≡ Some cells → IsValid bool (fixed mask) (length cells) (map mask_cell cells)
masks_valid below mask cells h =
    let even : length mask % 1 ≡ 0 = omega arith in
    record {
      is = record {
        lists = fixed_in-some 1 mask (omega arith) even ∙ ap Some (masks_are below mask cells h);
        many = length-map cells mask_cell;
      };
      values = masks_are_values cells;
    }

present_values : (inner : DataType) (cells : List Cell) → list_all (is_value (optional_of inner)) cells ≡ true → list_all (is_value inner) (filter_map present_cell cells) ≡ true
present_values inner cells h =
    found_are_values inner cells (each_weaker (λ c. is_value (optional_of inner) c ≡ true) (IsOption inner) cells (λ c v. option_value (optional_of inner) inner c refl v) (each_passes (is_value (optional_of inner)) cells h))

pub options_split : (inner : DataType) (payload : Payload) (below : Payload) (mask : List ℕ) (count : ℕ) (cells : List Cell) (parts : SplitOptions) → payload ≡ optional below mask → IsValid (optional_of inner) payload count cells
    → parts.mask.items ≡ mask → parts.marks.items ≡ mask → payload_of parts.below ≡ below → IsSplit inner cells parts
options_split inner payload below mask count cells parts p valid one two three =
    let found = masked_parts (optional_of inner) inner payload below mask cells refl p valid.is.lists in
    record {
      mask = subst (λ ms. IsValid bool (fixed ms) (length cells) (map mask_cell cells)) (sym one) (masks_valid found.below mask cells found.marked);
      below = record {
        all = found.below;
        lists = ap (cells_in inner) three ∙ found.inside;
        many = (masked_lengths found.below mask cells found.marked).1 ∙ sym (ap length two);
        are = ap (λ ms. chosen ms found.below) two ∙ present_chosen found.below mask cells found.marked;
      };
      values = present_values inner cells valid.values;
    }

chosen_masked : (outer : List ℕ) (below : List Cell) (mask : List ℕ) (all : List Cell) → masked_in below mask ≡ Some all → masked_in (chosen outer below) (chosen outer mask) ≡ Some (chosen outer all)
chosen_masked [] below mask all h = refl
chosen_masked (o ∷ outer) [] [] all h = ap (λ cs. Some (chosen (o ∷ outer) cs)) (some_same h)
chosen_masked (o ∷ outer) [] (m ∷ mask) all h = cc
chosen_masked (o ∷ outer) (c ∷ below) [] all h = cc
chosen_masked (o ∷ outer) (c ∷ below) (m ∷ mask) all h =
    let p = first_marked c m below mask all h in
    by_test (o == 1) p.first p.rest p.one (chosen_masked outer below mask p.rest p.others) ∙ ap (λ cs. Some (chosen (o ∷ outer) cs)) p.is where
      by_test : (b : Bool) (first : Cell) (rest : List Cell) → masked c m ≡ Some first → masked_in (chosen outer below) (chosen outer mask) ≡ Some (chosen outer rest)
          → masked_in (if b then c ∷ chosen outer below else chosen outer below) (if b then m ∷ chosen outer mask else chosen outer mask) ≡ Some (if b then first ∷ chosen outer rest else chosen outer rest)
      by_test true first rest one k = ap (option_and_then (λ f. option_map (λ others. f ∷ others) (masked_in (chosen outer below) (chosen outer mask)))) one ∙ ap (option_map (λ others. first ∷ others)) k
      by_test false first rest one k = k

pub chosen_split : (inner : DataType) (payload : Payload) (below : Payload) (outer mask : List ℕ) (cells : List Cell) (parts : SplitOptions) → payload ≡ optional below mask → AreMarked (optional_of inner) outer cells payload → list_all (is_value (optional_of inner)) cells ≡ true
    → parts.mask.items ≡ chosen outer mask → parts.marks.items ≡ both_marks outer mask → payload_of parts.below ≡ below → IsSplit inner cells parts
chosen_split inner payload below outer mask cells parts p are values one two three =
    let found = masked_parts (optional_of inner) inner payload below mask are.all refl p are.lists in
    let long = masked_lengths found.below mask are.all found.marked in
    let masked : masked_in (chosen outer found.below) (chosen outer mask) ≡ Some cells = chosen_masked outer found.below mask are.all found.marked ∙ ap Some are.are in
    record {
      mask = subst (λ ms. IsValid bool (fixed ms) (length cells) (map mask_cell cells)) (sym one) (masks_valid (chosen outer found.below) (chosen outer mask) cells masked);
      below = record {
        all = found.below;
        lists = ap (cells_in inner) three ∙ found.inside;
        many = sym (ap length two ∙ (length-both_marks outer mask (sym are.many ∙ long.0) ∙ (sym are.many ∙ (long.0 ∙ sym long.1))));
        are = ap (λ ms. chosen ms found.below) two
            ∙ (chosen_both outer mask found.below (sym long.1) ∙ present_chosen (chosen outer found.below) (chosen outer mask) cells masked);
      };
      values = present_values inner cells values;
    }

-- ---- elements put below marks

spread_cons : (m : ℕ) (ms : List ℕ) (cells : List Cell) → spread (fixed_cells 1 (m ∷ ms)) cells ≡ spread (of_bytes (m ∷ []) ∷ fixed_cells 1 ms) cells
spread_cons m ms cells = ap (λ masks. spread masks cells) (marks_cons m ms)

spread_one : (m : ℕ) (ms : List ℕ) (c : Cell) (cells : List Cell) → (m == 1) ≡ true → spread (fixed_cells 1 (m ∷ ms)) (c ∷ cells) ≡ present c ∷ spread (fixed_cells 1 ms) cells
spread_one m ms c cells h =
    let masks = fixed_cells 1 ms in
    spread_cons m ms (c ∷ cells)
    ∙ (ap (λ n. if n == 1 then present c ∷ spread masks cells else absent ∷ spread masks (c ∷ cells)) (one_number m) ∙ ap (λ (b : Bool). if b then present c ∷ spread masks cells else absent ∷ spread masks (c ∷ cells)) h)

spread_none : (m : ℕ) (ms : List ℕ) (cells : List Cell) → (m == 1) ≡ false → spread (fixed_cells 1 (m ∷ ms)) cells ≡ absent ∷ spread (fixed_cells 1 ms) cells
spread_none m ms cells h = spread_cons m ms cells ∙ at_cells cells where
  masks : List Cell
  masks = fixed_cells 1 ms

  at_cells : (cells : List Cell) → spread (of_bytes (m ∷ []) ∷ masks) cells ≡ absent ∷ spread masks cells
  at_cells [] = refl
  at_cells (c ∷ cells) =
      ap (λ n. if n == 1 then present c ∷ spread masks cells else absent ∷ spread masks (c ∷ cells)) (one_number m) ∙ ap (λ (b : Bool). if b then present c ∷ spread masks cells else absent ∷ spread masks (c ∷ cells)) h

-- elements that outer marks choose, below the marks that a mask of these spreads to
record ArePut (outer numbers : List ℕ) (all : List Cell) : Type 0 where
  made : List Cell
  masked : masked_in all (spread_marks outer numbers) ≡ Some made
  are : chosen outer made ≡ spread (fixed_cells 1 numbers) (chosen (spread_marks outer numbers) all)

put_none : (o : ℕ) (outer numbers : List ℕ) (c : Cell) (all : List Cell) → (o == 1) ≡ false → ArePut outer numbers all → ArePut (o ∷ outer) numbers (c ∷ all)
put_none o outer numbers c all h rest =
    let skip = spread_skip o outer numbers h in
    record {
      made = absent ∷ rest.made;
      masked = ap (masked_in (c ∷ all)) skip ∙ ap (option_map (λ (xs : List Cell). absent ∷ xs)) rest.masked;
      are = chosen_none o outer absent rest.made h ∙ (rest.are ∙ sym (ap (λ ms. spread (fixed_cells 1 numbers) (chosen ms (c ∷ all))) skip));
    }

put_one : (o : ℕ) (outer : List ℕ) (n : ℕ) (numbers : List ℕ) (c : Cell) (all : List Cell) → (o == 1) ≡ true → ArePut outer numbers all → ArePut (o ∷ outer) (n ∷ numbers) (c ∷ all)
put_one o outer n numbers c all h rest = by_test (n == 1) refl where
  marks : List ℕ
  marks = spread_marks outer numbers

  by_test : (b : Bool) → (n == 1) ≡ b → ArePut (o ∷ outer) (n ∷ numbers) (c ∷ all)
  by_test true k =
      let mark : mark_of n ≡ 1 = ap (λ (b : Bool). if b then 1 else 0) k in
      let is : spread_marks (o ∷ outer) (n ∷ numbers) ≡ 1 ∷ marks = spread_take o outer n numbers h ∙ ap (λ m. m ∷ marks) mark in
      record {
        made = present c ∷ rest.made;
        masked = ap (masked_in (c ∷ all)) is ∙ ap (option_map (λ (xs : List Cell). present c ∷ xs)) rest.masked;
        are = chosen_one o outer (present c) rest.made h
            ∙ (ap (λ xs. present c ∷ xs) rest.are
            ∙ sym (ap (λ ms. spread (fixed_cells 1 (n ∷ numbers)) (chosen ms (c ∷ all))) is ∙ spread_one n numbers c (chosen marks all) k));
      }
  by_test false k =
      let mark : mark_of n ≡ 0 = ap (λ (b : Bool). if b then 1 else 0) k in
      let is : spread_marks (o ∷ outer) (n ∷ numbers) ≡ 0 ∷ marks = spread_take o outer n numbers h ∙ ap (λ m. m ∷ marks) mark in
      record {
        made = absent ∷ rest.made;
        masked = ap (masked_in (c ∷ all)) is ∙ ap (option_map (λ (xs : List Cell). absent ∷ xs)) rest.masked;
        are = chosen_one o outer absent rest.made h
            ∙ (ap (λ xs. absent ∷ xs) rest.are
            ∙ sym (ap (λ ms. spread (fixed_cells 1 (n ∷ numbers)) (chosen ms (c ∷ all))) is ∙ spread_none n numbers (chosen marks all) k));
      }

all_put : (outer numbers : List ℕ) (all : List Cell) → length all ≡ length outer → length numbers ≡ count_ones outer → ArePut outer numbers all
all_put [] [] [] long many = record { made = []; masked = refl; are = ap (λ masks. spread masks []) (sym (fixed_cells-nil 1)) }
all_put [] [] (c ∷ all) long many = absurd (omega (arith, long))
all_put [] (n ∷ numbers) all long many = absurd (omega (arith, many))
all_put (o ∷ outer) numbers [] long many = absurd (omega (arith, long))
all_put (o ∷ outer) numbers (c ∷ all) long many = by_mark (o == 1) refl numbers many (λ rest count. all_put outer rest all (omega (arith, long)) count) where
  by_mark : (b : Bool) → (o == 1) ≡ b → (numbers : List ℕ) → length numbers ≡ count_ones (o ∷ outer) → ((rest : List ℕ) → length rest ≡ count_ones outer → ArePut outer rest all) → ArePut (o ∷ outer) numbers (c ∷ all)
  by_mark true mark [] many law = absurd (omega (arith, many, count_one o outer mark))
  by_mark true mark (n ∷ numbers) many law = put_one o outer n numbers c all mark (law numbers (omega (arith, many, count_one o outer mark)))
  by_mark false mark numbers many law = put_none o outer numbers c all mark (law numbers (many ∙ count_none o outer mark))

pub chosen_put : (inner : DataType) (payload made : Payload) (marks outer : List ℕ) (masks found : List Cell) → made ≡ optional payload marks → AreMarked inner marks found payload → IsSpreadMask outer masks marks → length masks ≡ count_ones outer → AreMarked (optional_of inner) outer (spread masks found) made
chosen_put inner payload made marks outer masks found p are mask many =
    let numbers = mask.numbers in
    let long : length are.all ≡ length outer = are.many ∙ (ap length mask.are ∙ length-spread_marks outer numbers) in
    let count : length numbers ≡ count_ones outer = sym (ap length mask.masks_are ∙ length-marks numbers) ∙ many in
    let put = all_put outer numbers are.all long count in
    record {
      all = put.made;
      lists = ap (cells_in (optional_of inner)) p
          ∙ (ap (option_and_then (λ cs. masked_in cs marks)) are.lists ∙ (ap (masked_in are.all) mask.are ∙ put.masked));
      many = (masked_lengths are.all (spread_marks outer numbers) put.made put.masked).0 ∙ length-spread_marks outer numbers;
      are = put.are
          ∙ (ap (λ ms. spread (fixed_cells 1 numbers) (chosen ms are.all)) (sym mask.are)
          ∙ (ap (spread (fixed_cells 1 numbers)) are.are ∙ ap (λ ms. spread ms found) (sym mask.masks_are)));
    }

all_masked : (numbers : List ℕ) (all : List Cell) → length all ≡ length numbers → masked_in all (map mark_of numbers) ≡ Some (spread (fixed_cells 1 numbers) (chosen (map mark_of numbers) all))
all_masked [] [] long = ap (λ masks. Some (spread masks [])) (sym (fixed_cells-nil 1))
all_masked [] (c ∷ all) long = absurd (omega (arith, long))
all_masked (n ∷ numbers) [] long = absurd (omega (arith, long))
all_masked (n ∷ numbers) (c ∷ all) long = by_test (n == 1) refl (all_masked numbers all (omega (arith, long))) where
  marks : List ℕ
  marks = map mark_of numbers

  by_test : (b : Bool) → (n == 1) ≡ b → masked_in all marks ≡ Some (spread (fixed_cells 1 numbers) (chosen marks all)) → masked_in (c ∷ all) (mark_of n ∷ marks) ≡ Some (spread (fixed_cells 1 (n ∷ numbers)) (chosen (mark_of n ∷ marks) (c ∷ all)))
  by_test true k h =
      let mark : mark_of n ≡ 1 = ap (λ (b : Bool). if b then 1 else 0) k in
      ap (λ m. masked_in (c ∷ all) (m ∷ marks)) mark
      ∙ (ap (option_map (λ (xs : List Cell). present c ∷ xs)) h
      ∙ sym (ap (λ m. Some (spread (fixed_cells 1 (n ∷ numbers)) (chosen (m ∷ marks) (c ∷ all)))) mark ∙ ap Some (spread_one n numbers c (chosen marks all) k)))
  by_test false k h =
      let mark : mark_of n ≡ 0 = ap (λ (b : Bool). if b then 1 else 0) k in
      ap (λ m. masked_in (c ∷ all) (m ∷ marks)) mark
      ∙ (ap (option_map (λ (xs : List Cell). absent ∷ xs)) h
      ∙ sym (ap (λ m. Some (spread (fixed_cells 1 (n ∷ numbers)) (chosen (m ∷ marks) (c ∷ all)))) mark ∙ ap Some (spread_none n numbers (chosen marks all) k)))

pub all_put_below : (inner : DataType) (payload made : Payload) (marks : List ℕ) (masks found : List Cell) → made ≡ optional payload marks → AreMarked inner marks found payload → IsMask masks marks → cells_in (optional_of inner) made ≡ Some (spread masks found)
all_put_below inner payload made marks masks found p are mask =
    let numbers = mask.numbers in
    let long : length are.all ≡ length numbers = are.many ∙ (ap length mask.are ∙ length-map numbers mark_of) in
    ap (cells_in (optional_of inner)) p
    ∙ (ap (option_and_then (λ cs. masked_in cs marks)) are.lists
    ∙ (ap (masked_in are.all) mask.are
    ∙ (all_masked numbers are.all long
    ∙ (ap (λ ms. Some (spread (fixed_cells 1 numbers) (chosen ms are.all))) (sym mask.are)
    ∙ (ap (λ cs. Some (spread (fixed_cells 1 numbers) cs)) are.are ∙ ap (λ ms. Some (spread ms found)) (sym mask.masks_are))))))
