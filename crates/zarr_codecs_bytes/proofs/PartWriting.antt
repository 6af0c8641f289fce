-- The bytes of a part, written in ranges.
use Rattle.std.proofs.Common.{◌≡◌, ◌∙◌, ℕ, suc, ◌+◌, ◌-◌, ◌*◌, ◌/◌, ◌%◌, ◌^◌, ◌<◌, ◌≤◌, Bool, true, false, ◌||◌, if◌then◌else◌, List, [], ◌∷◌, ◌++◌, length, map, get_or, take, drop, replicate, refl, sym, ap, subst, arith, Option, Some, Ok, length-drop}
use Rattle.std.proofs.Math.Nat.{mul-mod_left, mul-div_left}
use Rattle.std.proofs.lemmas.Bool.{and_parts, eqb-true, ltb-false, ltb-true}
use Rattle.std.proofs.lemmas.List.{append-nil, get_or-map, length-append, length-replicate, length-take-le}
use Rattle.std.proofs.lemmas.List.Folds.{flat_map-map}
use Rattle.std.proofs.lemmas.List.FromFn.{length-range_with_len}
use Rattle.std.specs.Prelude.{nat_lt}
use Rattle.std.specs.List.{range_with_len, flat_map, list_all, list_any}
use Rattle.zarr_grids_boxes.specs.Boxes.{Region, product, places, place_at, ravel, each2, is_in_box}
use Rattle.zarr_grids_boxes.specs.Laid.{laid, overlaid, HasWidth}
use Rattle.zarr_grids_boxes.specs.Subsets.{region_of}
use Rattle.zarr_grids_boxes.specs.Walks.{number_in}
use Rattle.zarr_grids_boxes.proofs.Dimensions.{ravel_below}
use Rattle.zarr_grids_boxes.proofs.InBox.{ravel-place_at}
use Rattle.zarr_grids_boxes.proofs.Places.{in_box_below, places_by_number}
use Rattle.zarr_grids_overlay.proofs.Blocks.{blocks_congr}
use Rattle.zarr_codecs_meaning.specs.Chains.{Endianness}
use Rattle.zarr_codecs_meaning.specs.Chains.Chain.{bytes}
use Rattle.zarr_codecs_meaning.specs.Decoding.{all_there, decoded, element_at, is_whole}
use Rattle.zarr_codecs_meaning.specs.Encoding.{encoded, ordered}
use Rattle.zarr_codecs_meaning.specs.Fits.{fits, order_fits}
use Rattle.zarr_codecs_meaning.specs.Payloads.{fixed, fixed_cells}
use Rattle.zarr_codecs_meaning.specs.Places.{place_numbers, places_of}
use Rattle.zarr_codecs_meaning.specs.Types.{Cell, Component, DataType, Elements, of_bytes, cell_bytes, components, bytes_in, is_fixed, is_value}
use Rattle.zarr_codecs_meaning.proofs.Covers.{zeros, length-zeros}
use Rattle.zarr_codecs_meaning.proofs.Elements.{ordered_twice}
use Rattle.zarr_codecs_meaning.proofs.Lists.{each_passes, if_some, some_same, zero_list}
use Rattle.zarr_codecs_arrays.specs.Outcomes.{IsValid}
use Rattle.zarr_codecs_arrays.specs.Views.{elements_of}
use Rattle.zarr_codecs_arrays.proofs.FixedCells.{fixed_in-whole, flat_map-fixed_cells, get_or-fixed_cells, length-fixed_cells, whole_length}
use Rattle.zarr_codecs_regions.proofs.Extracts.{element_bytes, bytes_of_place, place_width, elements_are, element_within, array_laid}
use Rattle.zarr_codecs_regions.proofs.InsideArray.{all_places, inside_places}
use Rattle.zarr_codecs_traits.specs.Indexers.{shape_has, numbers_of}
use Rattle.zarr_codecs_traits.specs.Arrays.{coded}
use Rattle.zarr_codecs_traits.specs.PartEncoding.{EncodesPart, cells_with_box}
use Rattle.zarr_codecs_traits.specs.Patches.{any_too_far, cut_patches, overwritten, patched, patches_in, written_at}
use Rattle.zarr_codecs_traits.specs.declared.byte_range.ByteRange.{ByteRange}
use Rattle.zarr_codecs_traits.specs.declared.value_patch.ValuePatches.{ValuePatches}
use Rattle.zarr_codecs_traits.specs.Sources.{bytes_in_ranges}
use Rattle.zarr_codecs_traits.proofs.PartValues.{whole_where_decoded}
use Rattle.zarr_codecs_bytes.specs.Lines.{ArePartRanges, ends_after, total_length}
use Rattle.zarr_codecs_bytes.specs.Orders.{all_ordered}
use Rattle.zarr_codecs_bytes.specs.Parts.{IsExtracted, PatchesPart, part_width, fixed_array}
use Rattle.zarr_codecs_bytes.specs.declared.lines.PartRanges.{PartRanges}
use Rattle.zarr_codecs_bytes.specs.declared.part.BoxPart.{BoxPart}
use Rattle.zarr_codecs_bytes.proofs.BoxElements.{mul_le, number_below, same_flat}
use Rattle.zarr_codecs_bytes.proofs.BoxScattered.{element_positions, scatter_box}
use Rattle.zarr_codecs_bytes.proofs.Decoding.{IsRead, decoded_made, fixed_cells_in}
use Rattle.zarr_codecs_bytes.proofs.Orders.{cells_ordered, length-all_ordered}
use Rattle.zarr_codecs_bytes.proofs.PartDecoding.{nothing}
use Rattle.zarr_codecs_bytes.proofs.Scattered.{length-overwritten, length-positions, neither, positions, positions_read, replaced, replaced_scatter, scatter, taken_range}

-- ---- chains with the caller's codecs

written_within : (value : List ℕ) (offset : ℕ) (content : List ℕ) → offset + length content ≤ length value → written_at value offset content ≡ overwritten value offset content
written_within value offset content within =
    let none : offset + length content - length value ≡ 0 = omega (arith, within) in
    ap (λ ns. overwritten ns offset content) (ap (λ n. value ++ replicate n 0) none ∙ append-nil value)

pub patched_replaced : (size : ℕ) (value : List ℕ) (ranges : List ByteRange) (content : List ℕ) → length value ≡ size → list_any (ends_after size) ranges ≡ false → length content ≡ total_length ranges
    → patched value (cut_patches ranges content) ≡ replaced value ranges content
patched_replaced size value [] content long within total = refl
patched_replaced size value (range ∷ ranges) content long within total =
    let front = take range.length content in
    let others = drop range.length content in
    let enough : length front ≡ range.length = length-take-le range.length content (omega (arith, total)) in
    let rest : length others ≡ total_length ranges = length-drop range.length content ∙ omega (arith, total) in
    let apart = neither (ends_after size range) (list_any (ends_after size) ranges) within in
    let end = ltb-false size (range.offset + range.length) apart.0 in
    let inside : range.offset + length front ≤ length value = omega (arith, end, enough, long) in
    ap (λ ns. patched ns (cut_patches ranges others)) (written_within value range.offset front inside)
    ∙ patched_replaced size (overwritten value range.offset front) ranges others (length-overwritten value range.offset front inside ∙ long) apart.1 rest

not_less : (m n : ℕ) → (m < n → ⊥) → nat_lt m n ≡ false
not_less m n h = at_test (nat_lt m n) refl where
  at_test : (b : Bool) → nat_lt m n ≡ b → b ≡ false
  at_test true e = absurd (h (ltb-true m n e))
  at_test false e = refl

pub patches_near : (size : ℕ) (ranges : List ByteRange) (content : List ℕ) → size < 2 ^ 63 → list_any (ends_after size) ranges ≡ false → length content ≡ total_length ranges → any_too_far (cut_patches ranges content) ≡ false
patches_near size [] content small within total = refl
patches_near size (range ∷ ranges) content small within total =
    let front = take range.length content in
    let others = drop range.length content in
    let enough : length front ≡ range.length = length-take-le range.length content (omega (arith, total)) in
    let rest : length others ≡ total_length ranges = length-drop range.length content ∙ omega (arith, total) in
    let apart = neither (ends_after size range) (list_any (ends_after size) ranges) within in
    let end = ltb-false size (range.offset + range.length) apart.0 in
    let near : range.offset + length front < 2 ^ 63 = omega (arith, end, small, enough) in
    let here = not_less (2 ^ 63 - 1) (range.offset + length front) (λ far. absurd (omega (arith, far, near))) in
    ap (λ (b : Bool). b || any_too_far (cut_patches ranges others)) here ∙ patches_near size ranges others small apart.1 rest

-- ---- the bytes of a box in those of an array

-- the bytes of the element at a place of a box
abbrev box_element : ℕ → List ℕ → Region → List ℕ → List ℕ
box_element width content region place = element_bytes width content (number_in region place)

box_width : (width : ℕ) (content : List ℕ) (region : Region) → HasWidth width (box_element width content region)
box_width width content region place =
    let front = drop (number_in region place * width) content in
    length-take-le width (front ++ zero_list width) (omega (arith, length-append front (zero_list width), length-replicate {A = ℕ} width 0))

box_laid : (width : ℕ) (content : List ℕ) (region : Region) → 0 < width → length region.shape ≡ length region.start → length content ≡ product region.shape * width → content ≡ laid (box_element width content region) region.start region.shape
box_laid width content region some same whole =
    let f = box_element width content region in
    let at_ = place_at region.start region.shape in
    sym (ap (flat_map f) (places_by_number region.start region.shape (sym same))
    ∙ (flat_map-map f at_ (range_with_len 0 (product region.shape))
    ∙ (blocks_congr (λ n. f (at_ n)) (element_bytes width content) 0 (product region.shape) (λ n low below. ap (element_bytes width content) (ravel-place_at region.start region.shape n (sym same) (omega arith)))
    ∙ elements_are width (product region.shape) content some whole)))

-- where the bytes of a part stand, of the value whose bytes are their own places
part_positions : (width : ℕ) (shape : List ℕ) (region : Region) (extracted : List ℕ) → 0 < width → shape_has shape region ≡ true → IsExtracted (fixed_array width (range_with_len 0 (product shape * width)) shape) region nothing extracted
    → extracted ≡ flat_map (element_positions width shape) (places region.start region.shape)
part_positions width shape region extracted some inside is =
    let own = range_with_len 0 (product shape * width) in
    let ps = places region.start region.shape in
    let even : length extracted % width ≡ 0 = ap (λ n. n % width) is.long ∙ mul-mod_left (product region.shape) width in
    let many : length own / width ≡ product shape = ap (λ n. n / width) (length-range_with_len 0 (product shape * width)) ∙ mul-div_left (product shape) some in
    sym (flat_map-fixed_cells width extracted some even)
    ∙ (ap (flat_map cell_bytes) is.elements
    ∙ (flat_map-map cell_bytes (λ n. get_or (fixed_cells width own) n nothing) (numbers_of shape region)
    ∙ (flat_map-map (λ n. cell_bytes (get_or (fixed_cells width own) n nothing)) (λ p. ravel p shape) ps
    ∙ same_flat (λ p. is_in_box (zeros shape) shape p ≡ true) (λ p. cell_bytes (get_or (fixed_cells width own) (ravel p shape) nothing)) (element_positions width shape) ps
    (each_passes (is_in_box (zeros shape) shape) ps (inside_places shape region inside))
    (λ p here.
    let k = ravel p shape in
    let below = number_below shape p here in
    let room : suc k * width ≤ product shape * width = mul_le k (product shape) width below in
    let more : suc k * width ≡ k * width + width = grind arith in
    let start : 0 + k * width ≡ k * width = omega arith in
    ap cell_bytes (get_or-fixed_cells width own k nothing (omega (arith, below, many)))
    ∙ (taken_range 0 (product shape * width) (k * width) width (omega (arith, room, more)) ∙ ap (λ n. range_with_len n width) start)))))

-- what is known of ranges in which the elements of a box stand
pub record AreBoxRanges (width : ℕ) (shape : List ℕ) (region : Region) (ranges : List ByteRange) : Type 0 where
  pub some : 0 < width
  pub inside : shape_has shape region ≡ true
  pub same : length region.shape ≡ length region.start
  pub within : list_any (ends_after (product shape * width)) ranges ≡ false
  pub are : IsExtracted (fixed_array width (range_with_len 0 (product shape * width)) shape) region nothing (bytes_in_ranges (range_with_len 0 (product shape * width)) ranges)

pub ranges_total : (width : ℕ) (shape : List ℕ) (region : Region) (ranges : List ByteRange) → AreBoxRanges width shape region ranges → total_length ranges ≡ product region.shape * width
ranges_total width shape region ranges h = sym (length-positions ranges) ∙ (sym (ap length (positions_read (product shape * width) ranges h.within)) ∙ h.are.long)

replaced_box : (width : ℕ) (value content shape : List ℕ) (region : Region) (ranges : List ByteRange) → AreBoxRanges width shape region ranges → length value ≡ product shape * width → length content ≡ product region.shape * width
    → replaced value ranges content ≡ laid (overlaid region.start region.shape (box_element width content region) (bytes_of_place width value shape)) (zeros shape) shape
replaced_box width value content shape region ranges h long many =
    let size = product shape * width in
    let old = bytes_of_place width value shape in
    let new = box_element width content region in
    let ps = places region.start region.shape in
    let at_ : positions ranges ≡ flat_map (element_positions width shape) ps = sym (positions_read size ranges h.within) ∙ part_positions width shape region (bytes_in_ranges (range_with_len 0 size) ranges) h.some h.inside h.are in
    replaced_scatter size value ranges content long h.within (many ∙ sym (ranges_total width shape region ranges h))
    ∙ (ap (λ ns. scatter value ns content) at_
    ∙ (ap (λ ns. scatter ns (flat_map (element_positions width shape) ps) content) (array_laid width value shape h.some long)
    ∙ (ap (scatter (laid old (zeros shape) shape) (flat_map (element_positions width shape) ps)) (box_laid width content region h.some h.same many)
    ∙ scatter_box width new old shape region.start region.shape (box_width width content region) (place_width width value shape) (sym h.same)
    (each_passes (is_in_box (zeros shape) shape) ps (inside_places shape region h.inside)))))

-- ---- elements in the stored order

ordered_element : (order : Option Endianness) (parts : List Component) (count n : ℕ) (value : List ℕ) → 0 < bytes_in parts → length value ≡ count * bytes_in parts → n < count
    → take (bytes_in parts) (drop (n * bytes_in parts) (all_ordered order parts value)) ≡ ordered order parts (take (bytes_in parts) (drop (n * bytes_in parts) value))
ordered_element order parts count n value some long below =
    let width = bytes_in parts in
    let made = all_ordered order parts value in
    let step = λ (cell : Cell). of_bytes (ordered order parts (cell_bytes cell)) in
    let many : length value / width ≡ count = ap (λ n. n / width) long ∙ mul-div_left count some in
    let made_many : length made / width ≡ count = ap (λ n. n / width) (length-all_ordered order parts count value some long) ∙ mul-div_left count some in
    let listed : n < length (fixed_cells width value) = omega (arith, below, many, length-fixed_cells width value) in
    ap cell_bytes (sym (get_or-fixed_cells width made n nothing (omega (arith, below, made_many)))
    ∙ (ap (λ cells. get_or cells n nothing) (cells_ordered order parts count value some long)
    ∙ (get_or-map step (fixed_cells width value) n nothing nothing listed
    ∙ ap step (get_or-fixed_cells width value n nothing (omega (arith, below, many))))))

-- what is known of a value and of the elements that are put into it
pub record IsPutInto (order : Option Endianness) (elements : Elements) (shape : List ℕ) (region : Region) (given : List ℕ) (ranges : List ByteRange) (value : List ℕ) (before : List Cell) : Type 0 where
  pub fit : fits (bytes order) elements.type [] ≡ true
  pub ranges_are : AreBoxRanges (bytes_in (components elements.type)) shape region ranges
  pub many : length given ≡ product region.shape * bytes_in (components elements.type)
  pub is : decoded (bytes order) elements shape value ≡ Some before

pub value_length : (order : Option Endianness) (elements : Elements) (shape value : List ℕ) (cells : List Cell) → decoded (bytes order) elements shape value ≡ Some cells → length value ≡ product shape * bytes_in (components elements.type)
value_length order elements shape value cells is =
    let width = bytes_in (components elements.type) in
    let turned : product shape * width ≡ width * product shape = grind arith in
    eqb-true (length value) (width * product shape) (whole_where_decoded (is_whole elements.type shape value) (all_there (map (element_at order elements.type value) (place_numbers shape))) cells is) ∙ sym turned

-- the elements before are those that the value's bytes are in the other order
pub before_are : (order : Option Endianness) (elements : Elements) (shape value : List ℕ) (cells : List Cell) → fits (bytes order) elements.type [] ≡ true → 0 < bytes_in (components elements.type) → decoded (bytes order) elements shape value ≡ Some cells
    → cells ≡ fixed_cells (bytes_in (components elements.type)) (all_ordered order (components elements.type) value)
before_are order elements shape value cells fit some is =
    let width = bytes_in (components elements.type) in
    let made = all_ordered order (components elements.type) value in
    let read : IsRead order elements.type (product shape) value made = record { fit = fit; positive = some; long = value_length order elements shape value cells is; is = refl } in
    let found = if_some (list_all (is_value elements.type) (fixed_cells width made)) (Some (fixed_cells width made)) cells (sym (decoded_made order elements shape value made read) ∙ is) in
    some_same (sym found.1)

pub part_encoded : (order : Option Endianness) (elements : Elements) (shape : List ℕ) (region : Region) (given : List ℕ) (ranges : List ByteRange) (value : List ℕ) (before : List Cell) → IsPutInto order elements shape region given ranges value before
    → encoded (bytes order) elements shape (cells_with_box shape elements.fill region (fixed_cells (bytes_in (components elements.type)) given) before) ≡ Some (replaced value ranges (all_ordered order (components elements.type) given))
part_encoded order elements shape region given ranges value before h =
    let parts = components elements.type in
    let width = bytes_in parts in
    let some = h.ranges_are.some in
    let fill = elements.fill in
    let made = all_ordered order parts value in
    let content = all_ordered order parts given in
    let element = λ (cell : Cell). ordered order parts (cell_bytes cell) in
    let long = value_length order elements shape value before h.is in
    let made_long : length made ≡ product shape * width = length-all_ordered order parts (product shape) value some long in
    let content_long : length content ≡ product region.shape * width = length-all_ordered order parts (product region.shape) given some h.many in
    let old = bytes_of_place width value shape in
    let new = box_element width content region in
    let cell_of = λ (p : List ℕ). if is_in_box region.start region.shape p then get_or (fixed_cells width given) (number_in region p) fill else get_or before (ravel p shape) fill in
    let kept : (p : List ℕ) → is_in_box (zeros shape) shape p ≡ true → element (get_or before (ravel p shape) fill) ≡ old p = λ p here.
    let k = ravel p shape in
    let below = number_below shape p here in
    let one = take width (drop (k * width) value) in
    let count : length made / width ≡ product shape = ap (λ n. n / width) made_long ∙ mul-div_left (product shape) some in
    let room : suc k * width ≤ product shape * width = mul_le k (product shape) width below in
    let more : suc k * width ≡ width + k * width = grind arith in
    ap (λ cells. element (get_or cells k fill)) (before_are order elements shape value before h.fit some h.is)
    ∙ (ap element (get_or-fixed_cells width made k fill (omega (arith, below, count)))
    ∙ (ap (ordered order parts) (ordered_element order parts (product shape) k value some long below)
    ∙ (ordered_twice order parts one (length-take-le width (drop (k * width) value) (omega (arith, room, more, long, length-drop (k * width) value)))
    ∙ sym (element_within width value k (product shape) long below)))) in
    let put : (p : List ℕ) → is_in_box region.start region.shape p ≡ true → element (get_or (fixed_cells width given) (number_in region p) fill) ≡ new p = λ p here.
    let n = number_in region p in
    let below : n < product region.shape = ravel_below (each2 (λ p s. p - s) p region.start) region.shape (in_box_below region.start region.shape p here) in
    let count : length given / width ≡ product region.shape = ap (λ n. n / width) h.many ∙ mul-div_left (product region.shape) some in
    ap element (get_or-fixed_cells width given n fill (omega (arith, below, count)))
    ∙ (sym (ordered_element order parts (product region.shape) n given some h.many below) ∙ sym (element_within width content n (product region.shape) content_long below)) in
    let each : (p : List ℕ) → is_in_box (zeros shape) shape p ≡ true → element (cell_of p) ≡ overlaid region.start region.shape new old p = λ p here.
    by_test (is_in_box region.start region.shape p) (get_or (fixed_cells width given) (number_in region p) fill) (get_or before (ravel p shape) fill) element (new p) (old p) (put p) (kept p here) in
    ap Some (flat_map-map element cell_of (places_of shape)
    ∙ (same_flat (λ p. is_in_box (zeros shape) shape p ≡ true) (λ p. element (cell_of p)) (overlaid region.start region.shape new old) (places (zeros shape) shape)
    (each_passes (is_in_box (zeros shape) shape) (places (zeros shape) shape) (all_places (is_in_box (zeros shape) shape) (zeros shape) shape (length-zeros shape) (λ p here. here))) each
    ∙ sym (replaced_box width value content shape region ranges h.ranges_are long content_long))) where
      by_test : (b : Bool) (first second : Cell) (element : Cell → List ℕ) (new old : List ℕ) → (b ≡ true → element first ≡ new) → element second ≡ old → element (if b then first else second) ≡ (if b then new else old)
      by_test true first second element new old put kept = put refl
      by_test false first second element new old put kept = kept

-- ---- a part

-- the ranges that were found are those of a box
pub found_ranges : (part : BoxPart) (found : PartRanges) → 0 < part_width part → ArePartRanges part found → AreBoxRanges (part_width part) part.shape.now (region_of part.region.now) found.ranges.items
found_ranges part found some h =
    let size = product part.shape.now * part_width part in
    record {
      some = some;
      inside = part.inside;
      same = part.region.now.same;
      within = subst (λ n. list_any (ends_after n) found.ranges.items ≡ false) h.size h.within;
      are = (h.are (range_with_len 0 size) (length-range_with_len 0 size ∙ sym h.size)).are nothing;
    }

-- what is known of the elements that are written into them
pub record AreMade (order : Option Endianness) (part : BoxPart) (found : PartRanges) (given content : List ℕ) : Type 0 where
  pub fit : fits (bytes order) (elements_of part.elements.now).type [] ≡ true
  pub some : 0 < part_width part
  pub many : length given ≡ product part.region.now.shape.items * part_width part
  pub ranges : ArePartRanges part found
  pub is : content ≡ all_ordered order (components (elements_of part.elements.now).type) given

pub content_total : (order : Option Endianness) (part : BoxPart) (found : PartRanges) (given content : List ℕ) → 0 < part_width part → length given ≡ product part.region.now.shape.items * part_width part → ArePartRanges part found
    → content ≡ all_ordered order (components (elements_of part.elements.now).type) given → length content ≡ total_length found.ranges.items
content_total order part found given content some many ranges is =
    ap length is ∙ (length-all_ordered order (components (elements_of part.elements.now).type) (product part.region.now.shape.items) given some many
    ∙ sym (ranges_total (part_width part) part.shape.now (region_of part.region.now) found.ranges.items (found_ranges part found some ranges)))

pub part_patched : (order : Option Endianness) (part : BoxPart) (found : PartRanges) (given content : List ℕ) → AreMade order part found given content → PatchesPart (bytes order) part given (cut_patches found.ranges.items content)
part_patched order part found given content h =
    let elements = elements_of part.elements.now in
    let shape = part.shape.now in
    let ranges = found.ranges.items in
    let total = content_total order part found given content h.some h.many h.ranges h.is in
    record {
      near = patches_near found.size ranges content h.ranges.small h.ranges.within total;
      encodes = λ value before is.
          part_encoded order elements shape (region_of part.region.now) given ranges value before (record { fit = h.fit; ranges_are = found_ranges part found h.some h.ranges; many = h.many; is = is })
          ∙ ap Some (ap (replaced value ranges) (sym h.is)
          ∙ sym (patched_replaced found.size value ranges content (value_length order elements shape value before is ∙ sym h.ranges.size) h.ranges.within total));
    }

-- as many elements as are valid have as many bytes
pub record AreGiven (type : DataType) (given : List ℕ) (count : ℕ) (cells : List Cell) : Type 0 where
  pub are : cells ≡ fixed_cells (bytes_in (components type)) given
  pub long : length given ≡ count * bytes_in (components type)

pub given_cells : (type : DataType) (given : List ℕ) (count : ℕ) (cells : List Cell) → is_fixed type ≡ true → IsValid type (fixed given) count cells → AreGiven type given count cells
given_cells type given count cells fit valid =
    let width = bytes_in (components type) in
    let w = fixed_in-whole width given cells (sym (fixed_cells_in type given fit) ∙ valid.is.lists) in
    let many : length given / width ≡ count = sym (ap length w.is ∙ length-fixed_cells width given) ∙ valid.is.many in
    record { are = w.is; long = whole_length width given w.whole ∙ ap (λ n. n * width) many }

pub part_encodes : (order : Option Endianness) (part : BoxPart) (given : List ℕ) (cells : List Cell) (patches : ValuePatches) → fits (bytes order) (elements_of part.elements.now).type [] ≡ true
    → IsValid (elements_of part.elements.now).type (fixed given) (product part.region.now.shape.items) cells → PatchesPart (bytes order) part given (patches_in patches)
    → EncodesPart (coded (bytes order) (elements_of part.elements.now) part.shape.now) true (region_of part.region.now) (fixed given) (Ok (Some patches))
part_encodes order part given cells patches fit valid h =
    let elements = elements_of part.elements.now in
    let shape = part.shape.now in
    let g = given_cells elements.type given (product part.region.now.shape.items) cells (and_parts (is_fixed elements.type) (order_fits order (components elements.type)) fit).0 valid in
    let encodes : (value : List ℕ) (before : List Cell) → decoded (bytes order) elements shape value ≡ Some before → encoded (bytes order) elements shape (cells_with_box shape elements.fill (region_of part.region.now) cells before) ≡ Some (patched value (patches_in patches)) =
    λ value before is. ap (λ cs. encoded (bytes order) elements shape (cells_with_box shape elements.fill (region_of part.region.now) cs before)) g.are ∙ h.encodes value before is in
    record {
      cells = cells;
      ranges = refl;
      valid = valid;
      fit = fit;
      inside = part.inside;
      near = h.near;
      encodes = λ _. encodes;
      stands = λ _. encodes;
    }
