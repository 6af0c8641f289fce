-- Elements that are written over those of a value, by ranges of its bytes.
use Rattle.std.proofs.Common.{◌≡◌, ◌∙◌, ℕ, suc, ◌+◌, ◌*◌, ◌/◌, ◌%◌, ◌^◌, ◌<◌, ◌≤◌, true, false, List, [], ◌∷◌, ◌++◌, length, set, take, drop, refl, sym, ap, arith, append_assoc, length-append, length-drop, take-append-drop}
use Rattle.std.specs.Prelude.{nat_lt}
use Rattle.std.specs.List.{range_with_len, flat_map, list_all, list_any}
use Rattle.std.proofs.Math.Nat.{mul-le-mul_right, mul-mod_left, mul-div_left}
use Rattle.std.proofs.Math.Seq.{set-append_seam}
use Rattle.std.proofs.lemmas.Bool.{and_parts, ltb-false, ltb-true}
use Rattle.std.proofs.lemmas.List.{drop-drop, length-take-le}
use Rattle.std.proofs.lemmas.List.FromFn.{length-range_with_len}
use Rattle.std.proofs.lemmas.List.Sums.{sum_by-cons}
use Rattle.zarr_codecs_meaning.specs.Payloads.{fixed_cells}
use Rattle.zarr_codecs_meaning.specs.Types.{of_bytes}
use Rattle.zarr_codecs_arrays.proofs.FixedCells.{fixed_cells-append, fixed_cells-cons, length-fixed_cells}
use Rattle.zarr_codecs_traits.specs.Indexers.{put}
use Rattle.zarr_codecs_traits.specs.Patches.{Patch, cut_patches, overwritten}
use Rattle.zarr_codecs_traits.specs.declared.byte_range.ByteRange.{ByteRange}
use Rattle.zarr_codecs_bytes.specs.Lines.{bytes_of_lines, ends_after, total_length}
use Rattle.zarr_codecs_bytes.specs.Writing.{AreRangesOf, PutsElements, bytes_written}
use Rattle.zarr_codecs_bytes.proofs.PartWriting.{patched_replaced, patches_near}
use Rattle.zarr_codecs_bytes.proofs.Scattered.{length-overwritten, length-positions, neither, positions, positions_read, replaced, replaced_scatter, scatter, scatter_append, scatter_range, taken_range}

-- the places of the bytes of the elements with these numbers
abbrev element_places : ℕ → List ℕ → List ℕ
element_places width numbers = flat_map (λ n. range_with_len (n * width) width) numbers

length_places : (width : ℕ) (ns : List ℕ) → length (element_places width ns) ≡ length ns * width
length_places width [] = omega arith
length_places width (n ∷ ns) =
    let joined = length-append (range_with_len (n * width) width) (element_places width ns) in
    let one = length-range_with_len (n * width) width in
    let rest = length_places width ns in
    let split : suc (length ns) * width ≡ width + length ns * width = grind arith in
    omega (arith, joined, one, rest, split)

-- the element with a number below a count ends within as many elements
element_room : (width count n : ℕ) → n < count → n * width + width ≤ count * width
element_room width count n below =
    let next : n + 1 ≤ count = omega (arith, below) in
    let room : (n + 1) * width ≤ count * width = mul-le-mul_right width next in
    let split : (n + 1) * width ≡ n * width + width = grind arith in
    omega (arith, room, split)

-- ---- one element

-- an element written over another one
set_element : (width count : ℕ) (value block : List ℕ) (n : ℕ) → 0 < width → length value ≡ count * width → n < count → length block ≡ width
    → fixed_cells width (overwritten value (n * width) block) ≡ set (fixed_cells width value) n (of_bytes block)
set_element width count value block n some long below wide =
    let front = take (n * width) value in
    let old = take width (drop (n * width) value) in
    let back = drop (n * width + width) value in
    let after = drop (n * width + length block) value in
    let room = element_room width count n below in
    let front_long : length front ≡ n * width = length-take-le (n * width) value (omega (arith, room, long)) in
    let old_long : length old ≡ width = length-take-le width (drop (n * width) value) (omega (arith, room, long, length-drop (n * width) value)) in
    let even : length front % width ≡ 0 = ap (λ k. k % width) front_long ∙ mul-mod_left n width in
    let many : length (fixed_cells width front) ≡ n = length-fixed_cells width front ∙ (ap (λ k. k / width) front_long ∙ mul-div_left n some) in
    let rest : old ++ back ≡ drop (n * width) value = ap (λ ns. old ++ ns) (sym (drop-drop width (n * width) value)) ∙ take-append-drop width (drop (n * width) value) in
    let whole : front ++ (old ++ back) ≡ value = ap (λ ns. front ++ ns) rest ∙ take-append-drop (n * width) value in
    let before : fixed_cells width value ≡ fixed_cells width front ++ (of_bytes old ∷ fixed_cells width back) =
    ap (fixed_cells width) (sym whole) ∙ (fixed_cells-append width front (old ++ back) some even ∙ ap (λ cs. fixed_cells width front ++ cs) (fixed_cells-cons width old back some old_long)) in
    let same : after ≡ back = ap (λ k. drop (n * width + k) value) wide in
    ap (fixed_cells width) (append_assoc front block after)
    ∙ (fixed_cells-append width front (block ++ after) some even
    ∙ (ap (λ cs. fixed_cells width front ++ cs) (fixed_cells-cons width block after some wide ∙ ap (λ ns. of_bytes block ∷ fixed_cells width ns) same)
    ∙ sym (ap (λ cs. set cs n (of_bytes block)) before
    ∙ (ap (λ k. set (fixed_cells width front ++ (of_bytes old ∷ fixed_cells width back)) k (of_bytes block)) (sym many)
    ∙ set-append_seam (fixed_cells width front) (of_bytes old) (fixed_cells width back) (of_bytes block)))))

-- ---- one element after another

put_places : (width count : ℕ) (ns value content : List ℕ) → 0 < width → length value ≡ count * width → list_all (λ n. nat_lt n count) ns ≡ true → length content ≡ length ns * width
    → fixed_cells width (scatter value (element_places width ns) content) ≡ put ns (fixed_cells width content) (fixed_cells width value)
put_places width count [] value content some long inside enough = refl
put_places width count (n ∷ ns) value content some long inside enough =
    let front = take width content in
    let back = drop width content in
    let here = range_with_len (n * width) width in
    let others = element_places width ns in
    let both = and_parts (nat_lt n count) (list_all (λ n. nat_lt n count) ns) inside in
    let below = ltb-true n count both.0 in
    let split : suc (length ns) * width ≡ width + length ns * width = grind arith in
    let wide : length front ≡ width = length-take-le width content (omega (arith, enough, split)) in
    let rest : length back ≡ length ns * width = length-drop width content ∙ omega (arith, enough, split) in
    let room = element_room width count n below in
    let within : n * width + length front ≤ length value = omega (arith, room, wide, long) in
    let next = overwritten value (n * width) front in
    let one : scatter value here front ≡ next = ap (λ k. scatter value (range_with_len (n * width) k) front) (sym wide) ∙ scatter_range value (n * width) front within in
    let parts = take-append-drop width content in
    ap (fixed_cells width) (ap (scatter value (here ++ others)) (sym parts) ∙ (scatter_append value here others front back (length-range_with_len (n * width) width ∙ sym wide) ∙ ap (λ v. scatter v others back) one))
    ∙ (put_places width count ns next back some (length-overwritten value (n * width) front within ∙ long) both.1 rest
    ∙ (ap (put ns (fixed_cells width back)) (set_element width count value front n some long below wide)
    ∙ sym (ap (λ cs. put (n ∷ ns) cs (fixed_cells width value)) (ap (fixed_cells width) (sym parts) ∙ fixed_cells-cons width front back some wide))))

-- of the value whose bytes are their own places, elements have the places of their bytes
own_places : (width count : ℕ) (ns : List ℕ) → list_all (λ n. nat_lt n count) ns ≡ true → bytes_of_lines width width (range_with_len 0 (count * width)) ns ≡ element_places width ns
own_places width count [] inside = refl
own_places width count (n ∷ ns) inside =
    let both = and_parts (nat_lt n count) (list_all (λ n. nat_lt n count) ns) inside in
    let room = element_room width count n (ltb-true n count both.0) in
    let start : 0 + n * width ≡ n * width = omega arith in
    ap (λ ps. ps ++ bytes_of_lines width width (range_with_len 0 (count * width)) ns) (taken_range 0 (count * width) (n * width) width room ∙ ap (λ k. range_with_len k width) start)
    ∙ ap (λ ps. range_with_len (n * width) width ++ ps) (own_places width count ns both.1)

-- ---- by ranges

length-replaced : (size : ℕ) (value : List ℕ) (ranges : List ByteRange) (content : List ℕ) → length value ≡ size → list_any (ends_after size) ranges ≡ false → length content ≡ total_length ranges → length (replaced value ranges content) ≡ size
length-replaced size value [] content long within total = long
length-replaced size value (range ∷ ranges) content long within total =
    let front = take range.length content in
    let apart = neither (ends_after size range) (list_any (ends_after size) ranges) within in
    let end = ltb-false size (range.offset + range.length) apart.0 in
    let enough : length front ≡ range.length = length-take-le range.length content (omega (arith, total)) in
    let rest : length (drop range.length content) ≡ total_length ranges = length-drop range.length content ∙ omega (arith, total) in
    length-replaced size (overwritten value range.offset front) ranges (drop range.length content) (length-overwritten value range.offset front (omega (arith, end, enough, long)) ∙ long) apart.1 rest

cut_length : (ranges : List ByteRange) (content : List ℕ) → length content ≡ total_length ranges → bytes_written (cut_patches ranges content) ≡ total_length ranges
cut_length [] content total = refl
cut_length (range ∷ ranges) content total =
    let front = take range.length content in
    let enough : length front ≡ range.length = length-take-le range.length content (omega (arith, total)) in
    let rest : length (drop range.length content) ≡ total_length ranges = length-drop range.length content ∙ omega (arith, total) in
    let others = cut_patches ranges (drop range.length content) in
    let first : Patch = record { offset = range.offset; bytes = front } in
    let split : bytes_written (first ∷ others) ≡ length front + bytes_written others = sum_by-cons (λ (patch : Patch). length patch.bytes) first others in
    split ∙ omega (arith, enough, cut_length ranges (drop range.length content) rest)

-- what is known of elements that are written into ranges
pub record AreMadeOf (width size count : ℕ) (numbers content : List ℕ) (ranges : List ByteRange) : Type 0 where
  pub some : 0 < width
  pub all : size ≡ count * width
  pub small : size < 2 ^ 63
  pub inside : list_all (λ n. nat_lt n count) numbers ≡ true
  pub long : length content ≡ length numbers * width
  pub found : AreRangesOf width size numbers ranges

places_are : (width size count : ℕ) (numbers : List ℕ) (ranges : List ByteRange) → size ≡ count * width → list_all (λ n. nat_lt n count) numbers ≡ true → AreRangesOf width size numbers ranges → positions ranges ≡ element_places width numbers
places_are width size count numbers ranges same inside h =
    sym (positions_read size ranges h.within)
    ∙ (h.are (range_with_len 0 size) (length-range_with_len 0 size)
    ∙ (ap (λ k. bytes_of_lines width width (range_with_len 0 k) numbers) same ∙ own_places width count numbers inside))

pub ranges_total : (width size count : ℕ) (numbers content : List ℕ) (ranges : List ByteRange) → size ≡ count * width → list_all (λ n. nat_lt n count) numbers ≡ true → length content ≡ length numbers * width → AreRangesOf width size numbers ranges
    → length content ≡ total_length ranges
ranges_total width size count numbers content ranges same inside long h =
    long ∙ (sym (length_places width numbers) ∙ (ap length (sym (places_are width size count numbers ranges same inside h)) ∙ length-positions ranges))

pub ranges_put : (width size count : ℕ) (numbers content : List ℕ) (ranges : List ByteRange) → AreMadeOf width size count numbers content ranges → PutsElements width size numbers content (cut_patches ranges content)
ranges_put width size count numbers content ranges h =
    let total = ranges_total width size count numbers content ranges h.all h.inside h.long h.found in
    let at = places_are width size count numbers ranges h.all h.inside h.found in
    record {
      near = patches_near size ranges content h.small h.found.within total;
      few = cut_length ranges content total ∙ (sym total ∙ h.long);
      long = λ value whole. ap length (patched_replaced size value ranges content whole h.found.within total) ∙ length-replaced size value ranges content whole h.found.within total;
      put = λ value whole.
          ap (fixed_cells width) (patched_replaced size value ranges content whole h.found.within total
          ∙ (replaced_scatter size value ranges content whole h.found.within total ∙ ap (λ ps. scatter value ps content) at))
          ∙ put_places width count numbers value content h.some (whole ∙ h.all) h.inside h.long;
    }
