-- The ranges of the elements of a box, one dimension after another.
use Rattle.std.proofs.Common.{◌≡◌, ◌∙◌, ℕ, zero, suc, ◌+◌, ◌*◌, ◌^◌, ◌<◌, ◌≤◌, Bool, true, false, ◌||◌, List, [], ◌∷◌, ◌++◌, length, map, get_or, take, drop, refl, sym, ap, arith, ◌-◌, length-drop}
use Rattle.std.specs.List.{range_with_len, flat_map, list_any}
use Rattle.std.specs.Prelude.{IfOk, Result, Ok, Err}
use Rattle.std.proofs.Math.Nat.{le-mul_of_pos_right, mul-le-mul_right}
use Rattle.std.proofs.Math.Seq.{take-add}
use Rattle.std.proofs.lemmas.Bool.{false≢true, le-ltb, ltb-false}
use Rattle.std.proofs.lemmas.Grind.{flat_map-append}
use Rattle.std.proofs.lemmas.List.{map-append, append-nil, drop-drop, take_all}
use Rattle.std.proofs.lemmas.Simd.{map-map}
use Rattle.zarr_grids_boxes.specs.Boxes.{product, places, ravel, each2}
use Rattle.zarr_grids_boxes.specs.Cuts.{IsAtMost}
use Rattle.zarr_grids_boxes.proofs.Dimensions.{positive-drop}
use Rattle.zarr_codecs_traits.specs.Sources.{bytes_at, bytes_in_ranges}
use Rattle.zarr_codecs_traits.specs.declared.byte_range.ByteRange.{ByteRange}
use Rattle.zarr_codecs_bytes.specs.Lines.{AreBoxRanges, AreRowsRanges, bytes_of_lines, ends_after, moved_by}
use Rattle.zarr_codecs_bytes.specs.declared.lines.PartRanges.{PartRanges}

-- ---- where no dimension is left

pub no_dimension : (width : ℕ) (ss es us : List ℕ) (found : PartRanges) → length es ≡ 0 → length es ≡ length ss → length us ≡ length ss → found.size ≡ width → found.ranges.items ≡ record { offset = 0; length = width } ∷ [] → AreBoxRanges width ss es us found
no_dimension width [] [] [] found none same rank size are = record {
  size = size ∙ (let e : width ≡ 1 * width = omega arith in e);
  within = ap (list_any (ends_after found.size)) are ∙ (ap (λ (b : Bool). b || false) (le-ltb found.size (0 + width) (omega (arith, size))));
  are = λ value. ap (bytes_in_ranges value) are ∙ (let e : 0 ≡ 0 * width = omega arith in ap (λ n. take width (drop n value) ++ []) e);
}
no_dimension width (s ∷ ss) [] us found none same rank size are = absurd (omega arith)
no_dimension width [] [] (u ∷ us) found none same rank size are = absurd (omega arith)
no_dimension width ss (e ∷ es) us found none same rank size are = absurd (omega arith)

pub no_dimension_found : {E : Type 0} (width : ℕ) (ss es us : List ℕ) (found : Result PartRanges E) → length es ≡ 0 → length es ≡ length ss → length us ≡ length ss → IfOk found (λ f. f.size ≡ width) → IfOk found (λ f. f.ranges.items ≡ record { offset = 0; length = width } ∷ [])
    → IfOk found (AreBoxRanges width ss es us)
no_dimension_found width ss es us (Ok found) none same rank size are = no_dimension width ss es us found none same rank size are
no_dimension_found width ss es us (Err e) none same rank size are = tt

-- ---- rows

-- where no range of a list fails a test, the first one doesn't, and none of the others
none_first : (a b : Bool) → a || b ≡ false → (a ≡ false) × (b ≡ false)
none_first false b e = (refl, e)
none_first true b e = absurd (false≢true (sym e))

none_both : (test : ByteRange → Bool) (xs ys : List ByteRange) → list_any test xs ≡ false → list_any test ys ≡ false → list_any test (xs ++ ys) ≡ false
none_both test [] ys h k = k
none_both test (x ∷ xs) ys h k =
    let both = none_first (test x) (list_any test xs) h in
    ap (λ (b : Bool). b || list_any test (xs ++ ys)) both.0 ∙ none_both test xs ys both.1 k

-- a row's ranges have its bytes, wherever it stands
moved_bytes : (value : List ℕ) (count : ℕ) (ranges : List ByteRange) → bytes_in_ranges value (map (moved_by count) ranges) ≡ bytes_in_ranges (drop count value) ranges
moved_bytes value count [] = refl
moved_bytes value count (range ∷ ranges) =
    ap (λ bytes. take range.length bytes ++ bytes_in_ranges value (map (moved_by count) ranges)) (sym (drop-drop range.offset count value))
    ∙ ap (λ bytes. bytes_at (drop count value) range ++ bytes) (moved_bytes value count ranges)

-- a row of a value ends in it
moved_end : (size count most : ℕ) (ranges : List ByteRange) → count + size ≤ most → list_any (ends_after size) ranges ≡ false → list_any (ends_after most) (map (moved_by count) ranges) ≡ false
moved_end size count most [] room h = refl
moved_end size count most (range ∷ ranges) room h =
    let both = none_first (ends_after size range) (list_any (ends_after size) ranges) h in
    let ends : range.offset + range.length ≤ size = ltb-false size (range.offset + range.length) both.0 in
    let first : ends_after most (moved_by count range) ≡ false = le-ltb most ((count + range.offset) + range.length) (omega (arith, ends, room)) in
    ap (λ (b : Bool). b || list_any (ends_after most) (map (moved_by count) ranges)) first ∙ moved_end size count most ranges room both.1

-- the ranges of the row with this number
abbrev pub row_ranges : PartRanges → ℕ → List ByteRange
row_ranges row n = map (moved_by (n * row.size)) row.ranges.items

rows_bytes : (row : PartRanges) (value : List ℕ) (ns : List ℕ) → bytes_in_ranges value (flat_map (row_ranges row) ns) ≡ flat_map (λ n. bytes_in_ranges (drop (n * row.size) value) row.ranges.items) ns
rows_bytes row value [] = refl
rows_bytes row value (n ∷ ns) =
    flat_map-append (bytes_at value) (row_ranges row n) (flat_map (row_ranges row) ns)
    ∙ (ap (λ bytes. bytes ++ bytes_in_ranges value (flat_map (row_ranges row) ns)) (moved_bytes value (n * row.size) row.ranges.items)
    ∙ ap (λ bytes. bytes_in_ranges (drop (n * row.size) value) row.ranges.items ++ bytes) (rows_bytes row value ns))

-- a row with a number below that of all ends in the value
pub row_room : (n rows size : ℕ) → n < rows → n * size + size ≤ rows * size
row_room n rows size below =
    let most : suc n * size ≤ rows * size = mul-le-mul_right size (let e : suc n ≤ rows = omega (arith, below) in e) in
    let more : suc n * size ≡ n * size + size = grind arith in
    omega (arith, most, more)

rows_end : (row : PartRanges) (start count rows : ℕ) → start + count ≤ rows → list_any (ends_after row.size) row.ranges.items ≡ false → list_any (ends_after (rows * row.size)) (flat_map (row_ranges row) (range_with_len start count)) ≡ false
rows_end row start zero rows fit h = refl
rows_end row start (suc count) rows fit h =
    none_both (ends_after (rows * row.size)) (row_ranges row start) (flat_map (row_ranges row) (range_with_len (start + 1) count))
    (moved_end row.size (start * row.size) (rows * row.size) row.ranges.items (row_room start rows row.size (omega (arith, fit))) h)
    (rows_end row (start + 1) count rows (omega (arith, fit)) h)

-- rows one after another
pub rows_more : (row : PartRanges) (start n : ℕ) → flat_map (row_ranges row) (range_with_len start (n + 1)) ≡ flat_map (row_ranges row) (range_with_len start n) ++ row_ranges row (start + n)
rows_more row start zero = append-nil (row_ranges row start) ∙ (let e : start ≡ start + 0 = omega arith in ap (row_ranges row) e)
rows_more row start (suc n) =
    (let e : suc n + 1 ≡ suc (n + 1) = omega arith in ap (λ m. flat_map (row_ranges row) (range_with_len start m)) e)
    ∙ (ap (λ ranges. row_ranges row start ++ ranges) (rows_more row (start + 1) n ∙ (let e : (start + 1) + n ≡ start + suc n = omega arith in ap (λ k. flat_map (row_ranges row) (range_with_len (start + 1) n) ++ row_ranges row k) e))
    ∙ joined (row_ranges row start) (flat_map (row_ranges row) (range_with_len (start + 1) n)) (row_ranges row (start + suc n))) where
      joined : (xs ys zs : List ByteRange) → xs ++ (ys ++ zs) ≡ (xs ++ ys) ++ zs
      joined [] ys zs = refl
      joined (x ∷ xs) ys zs = ap (λ rs. x ∷ rs) (joined xs ys zs)

pub rows_found : (row : PartRanges) (start count rows : ℕ) (found : PartRanges) → start + count ≤ rows → list_any (ends_after row.size) row.ranges.items ≡ false → found.size ≡ rows * row.size → found.ranges.items ≡ flat_map (row_ranges row) (range_with_len start count)
    → AreRowsRanges row start count rows found
rows_found row start count rows found fit within size are = record {
  size = size;
  within = ap (λ n. list_any (ends_after n) found.ranges.items) size ∙ (ap (list_any (ends_after (rows * row.size))) are ∙ rows_end row start count rows fit within);
  are = λ value. ap (bytes_in_ranges value) are ∙ rows_bytes row value (range_with_len start count);
}

-- ---- whole rows

-- the bytes of whole rows, one after another
whole_bytes : (size start count : ℕ) (ranges : List ByteRange) (value : List ℕ) → ranges ≡ record { offset = 0; length = size } ∷ [] → take (count * size) (drop (start * size) value) ≡ flat_map (λ n. bytes_in_ranges (drop (n * size) value) ranges) (range_with_len start count)
whole_bytes size start zero ranges value is = let e : 0 * size ≡ 0 = omega arith in ap (λ n. take n (drop (start * size) value)) e
whole_bytes size start (suc count) ranges value is =
    let more : suc count * size ≡ size + count * size = grind arith in
    let next : start * size + size ≡ (start + 1) * size = grind arith in
    let one : take size (drop (start * size) value) ≡ bytes_in_ranges (drop (start * size) value) ranges = sym (ap (bytes_in_ranges (drop (start * size) value)) is ∙ append-nil (take size (drop (start * size) value))) in
    ap (λ n. take n (drop (start * size) value)) more
    ∙ (take-add size (count * size) (drop (start * size) value)
    ∙ (ap (λ bytes. take size (drop (start * size) value) ++ take (count * size) bytes) (drop-drop size (start * size) value ∙ ap (λ n. drop n value) next)
    ∙ (ap (λ bytes. bytes ++ take (count * size) (drop ((start + 1) * size) value)) one
    ∙ ap (λ bytes. bytes_in_ranges (drop (start * size) value) ranges ++ bytes) (whole_bytes size (start + 1) count ranges value is))))

pub whole_rows : (row : PartRanges) (start count rows : ℕ) (found : PartRanges) → start + count ≤ rows → row.ranges.items ≡ record { offset = 0; length = row.size } ∷ [] → found.size ≡ rows * row.size
    → found.ranges.items ≡ record { offset = start * row.size; length = count * row.size } ∷ [] → AreRowsRanges row start count rows found
whole_rows row start count rows found fit whole size are =
    let most : (start + count) * row.size ≤ rows * row.size = mul-le-mul_right row.size fit in
    let split : (start + count) * row.size ≡ start * row.size + count * row.size = grind arith in
    record {
      size = size;
      within = ap (list_any (ends_after found.size)) are ∙ ap (λ (b : Bool). b || false) (le-ltb found.size (start * row.size + count * row.size) (omega (arith, most, split, size)));
      are = λ value. ap (bytes_in_ranges value) are ∙ (append-nil (take (count * row.size) (drop (start * row.size) value)) ∙ whole_bytes row.size start count row.ranges.items value whole);
    }

pub whole_found : {E : Type 0} (row : PartRanges) (start count rows : ℕ) (found : Result PartRanges E) → start + count ≤ rows → row.ranges.items ≡ record { offset = 0; length = row.size } ∷ [] → IfOk found (λ f. f.size ≡ rows * row.size)
    → IfOk found (λ f. f.ranges.items ≡ record { offset = start * row.size; length = count * row.size } ∷ []) → IfOk found (AreRowsRanges row start count rows)
whole_found row start count rows (Ok found) fit whole size are = whole_rows row start count rows found fit whole size are
whole_found row start count rows (Err e) fit whole size are = tt

-- ---- one dimension more

-- each place with a number in front
abbrev in_front : List (List ℕ) → ℕ → List (List ℕ)
in_front ps k = map (λ p. k ∷ p) ps

front_numbers : (k u : ℕ) (us : List ℕ) (ps : List (List ℕ)) → map (λ p. ravel p (u ∷ us)) (in_front ps k) ≡ map (λ m. k * product us + m) (map (λ p. ravel p us) ps)
front_numbers k u us ps = map-map (λ p. ravel p (u ∷ us)) (λ p. k ∷ p) ps ∙ sym (map-map (λ m. k * product us + m) (λ p. ravel p us) ps)

moved_elements : (width k count : ℕ) (value ns : List ℕ) → bytes_of_lines width width (drop (k * (count * width)) value) ns ≡ bytes_of_lines width width value (map (λ m. k * count + m) ns)
moved_elements width k count value [] = refl
moved_elements width k count value (n ∷ ns) =
    let at : k * (count * width) + n * width ≡ (k * count + n) * width = grind arith in
    ap (λ bytes. take width bytes ++ bytes_of_lines width width (drop (k * (count * width)) value) ns) (drop-drop (n * width) (k * (count * width)) value ∙ ap (λ m. drop m value) at)
    ∙ ap (λ bytes. take width (drop ((k * count + n) * width) value) ++ bytes) (moved_elements width k count value ns)

row_elements : (width : ℕ) (ss es us : List ℕ) (row : PartRanges) (u k : ℕ) (value : List ℕ) → AreBoxRanges width ss es us row
    → bytes_in_ranges (drop (k * row.size) value) row.ranges.items ≡ bytes_of_lines width width value (map (λ p. ravel p (u ∷ us)) (in_front (places ss es) k))
row_elements width ss es us row u k value h =
    let numbers = map (λ p. ravel p us) (places ss es) in
    h.are (drop (k * row.size) value)
    ∙ (ap (λ n. bytes_of_lines width width (drop (k * n) value) numbers) h.size
    ∙ (moved_elements width k (product us) value numbers ∙ ap (bytes_of_lines width width value) (sym (front_numbers k u us (places ss es)))))

rows_elements : (width : ℕ) (ss es us : List ℕ) (row : PartRanges) (u : ℕ) (value : List ℕ) (ks : List ℕ) → AreBoxRanges width ss es us row
    → flat_map (λ k. bytes_in_ranges (drop (k * row.size) value) row.ranges.items) ks ≡ bytes_of_lines width width value (map (λ p. ravel p (u ∷ us)) (flat_map (in_front (places ss es)) ks))
rows_elements width ss es us row u value [] h = refl
rows_elements width ss es us row u value (k ∷ ks) h =
    let number = λ (p : List ℕ). ravel p (u ∷ us) in
    let ps = places ss es in
    ap (λ bytes. bytes ++ flat_map (λ k. bytes_in_ranges (drop (k * row.size) value) row.ranges.items) ks) (row_elements width ss es us row u k value h)
    ∙ (ap (λ bytes. bytes_of_lines width width value (map number (in_front ps k)) ++ bytes) (rows_elements width ss es us row u value ks h)
    ∙ (sym (flat_map-append (λ n. take width (drop (n * width) value)) (map number (in_front ps k)) (map number (flat_map (in_front ps) ks)))
    ∙ ap (bytes_of_lines width width value) (sym (map-append number (in_front ps k) (flat_map (in_front ps) ks)))))

-- the ranges of a box, of those of its part in one row
pub box_of_rows : (width : ℕ) (start counts shape : List ℕ) (count : ℕ) (row found : PartRanges) → length (count ∷ counts) ≡ length start → length shape ≡ length start → AreBoxRanges width (drop 1 start) counts (drop 1 shape) row → AreRowsRanges row (get_or start 0 0) count (get_or shape 0 0) found
    → AreBoxRanges width start (count ∷ counts) shape found
box_of_rows width [] counts shape count row found same rank h k = absurd (omega arith)
box_of_rows width (s ∷ ss) counts [] count row found same rank h k = absurd (omega arith)
box_of_rows width (s ∷ ss) counts (u ∷ us) count row found same rank h k = record {
  size = k.size ∙ (ap (λ n. u * n) h.size ∙ grind arith);
  within = k.within;
  are = λ value. k.are value ∙ rows_elements width ss counts us row u value (range_with_len s count) h;
}

pub box_found : {E : Type 0} (width : ℕ) (start counts shape : List ℕ) (count : ℕ) (row : PartRanges) (found : Result PartRanges E) → length (count ∷ counts) ≡ length start → length shape ≡ length start → AreBoxRanges width (drop 1 start) counts (drop 1 shape) row
    → IfOk found (AreRowsRanges row (get_or start 0 0) count (get_or shape 0 0)) → IfOk found (AreBoxRanges width start (count ∷ counts) shape)
box_found width start counts shape count row (Ok found) same rank h k = box_of_rows width start counts shape count row found same rank h k
box_found width start counts shape count row (Err e) same rank h k = tt

-- ---- the rows lie in the array

-- all but the first of some numbers
pub rest_is : (xs : List ℕ) → take (length xs - 1) (drop 1 xs) ≡ drop 1 xs
rest_is xs = take_all (length xs - 1) (drop 1 xs) (omega (arith, length-drop 1 xs))

pub record IsRowInside (start counts shape : List ℕ) (count width : ℕ) : Type 0 where
  pub same : length counts ≡ length (drop 1 start)
  pub rank : length (drop 1 shape) ≡ length (drop 1 start)
  pub some : 0 < product counts
  pub inside : IsAtMost (each2 (λ s e. s + e) (drop 1 start) counts) (drop 1 shape)
  pub small : product (drop 1 shape) * width < 2 ^ 63
  pub fit : get_or start 0 0 + count ≤ get_or shape 0 0
  pub all : get_or shape 0 0 * (product (drop 1 shape) * width) ≡ product shape * width

pub row_inside : (start counts shape : List ℕ) (count width : ℕ) → length (count ∷ counts) ≡ length start → length shape ≡ length start → 0 < product (count ∷ counts) → IsAtMost (each2 (λ s e. s + e) start (count ∷ counts)) shape → product shape * width < 2 ^ 63
    → IsRowInside start counts shape count width
row_inside [] counts shape count width same rank some inside small = absurd (omega arith)
row_inside (s ∷ ss) counts [] count width same rank some inside small = absurd (omega arith)
row_inside (s ∷ ss) counts (u ∷ us) count width same rank some inside small =
    let parts = positive-drop (count ∷ counts) 0 (omega arith) some in
    let fit : s + count ≤ u = inside.each 0 (omega arith) in
    let all : u * (product us * width) ≡ product (u ∷ us) * width = grind arith in
    let turned : (product us * width) * u ≡ u * (product us * width) = grind arith in
    let more : product us * width ≤ (product us * width) * u = le-mul_of_pos_right (product us * width) (let some = parts.0 in omega (arith, some, fit)) in
    record {
      same = (let e = same in omega arith);
      rank = (let e = rank in omega arith);
      some = parts.1;
      inside = record { same = (let e = inside.same in omega arith); each = λ k below. inside.each (suc k) (omega (arith, below)) };
      small = omega (arith, more, turned, all, small);
      fit = fit;
      all = all;
    }
