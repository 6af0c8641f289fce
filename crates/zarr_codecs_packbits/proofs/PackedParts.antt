-- The elements that are asked for of a packed array, of the bytes that their bits touch.
use Rattle.std.proofs.Common.{◌≡◌, ◌∙◌, ℕ, zero, suc, ◌+◌, ◌*◌, ◌/◌, ◌%◌, ◌^◌, ◌<◌, ◌≤◌, List, [], ◌∷◌, ◌++◌, length, map, drop, flat_map, ap, sym, refl, arith, Bool, true, false, ◌==◌, ◌&&◌, ◌||◌, Option, Some, None, Result, Ok, Err, Vec, Global, length-append, length-take}
use Rattle.std.specs.Prelude.{nat_le, nat_lt}
use Rattle.std.specs.List.{list_all, list_any, range_with_len}
use Rattle.std.proofs.Math.Nat.{mul-mod_left, mul-le-mul_right, mul_comm}
use Rattle.std.proofs.lemmas.Bool.{and_parts, eq-eqb, false≢true, le-leb, leb-true, le-ltb, lt-ltb, ltb-true}
use Rattle.std.proofs.lemmas.List.FromFn.{get_or-map-range_with_len}
use Rattle.std.proofs.lemmas.List.Sums.{sum_by-append}
use Rattle.zarr_grids_boxes.specs.Boxes.{product}
use Rattle.zarr_codecs_meaning.specs.Chains.{Chain}
use Rattle.zarr_codecs_meaning.specs.Chains.Chain.{packbits}
use Rattle.zarr_codecs_meaning.specs.Chains.Padding.{no_padding_byte}
use Rattle.zarr_codecs_meaning.specs.Decoding.{decoded, unpacked}
use Rattle.zarr_codecs_meaning.specs.Fits.{fits, packed_size}
use Rattle.zarr_codecs_meaning.specs.Payloads.{fixed, fixed_cells}
use Rattle.zarr_codecs_meaning.specs.Places.{gather, place_numbers}
use Rattle.zarr_codecs_meaning.specs.Types.{Cell, Component, Elements, bytes_in, components, of_bytes}
use Rattle.zarr_codecs_meaning.proofs.Elements.{on_true}
use Rattle.zarr_codecs_meaning.proofs.Lists.{every, length-flat_map}
use Rattle.zarr_codecs_meaning.proofs.PartReading.{part_read}
use Rattle.zarr_codecs_arrays.proofs.FixedCells.{fixed_cells-cons, fixed_cells-nil, fixed_in-some}
use Rattle.zarr_codecs_arrays.specs.declared.error.CodecError.{CodecError}
use Rattle.zarr_codecs_arrays.specs.declared.error.CodecError.TheVariants as error
use Rattle.zarr_codecs_regions.proofs.AskedPlaces.{asked_places}
use Rattle.zarr_codecs_traits.specs.Indexers.{Asked, are_inside, numbers_asked}
use Rattle.zarr_codecs_traits.specs.Arrays.{coded}
use Rattle.zarr_codecs_traits.specs.Outcomes.{DecodesPart, IsPart}
use Rattle.zarr_codecs_traits.specs.Sources.{RangesRefused, ReadRefused, any_past_end, bytes_at, bytes_in_ranges, concat_of, ends_past, value_length}
use Rattle.zarr_codecs_traits.specs.declared.byte_range.ByteRange.{ByteRange}
use Rattle.zarr_codecs_packbits.specs.Packing.{element_in}
use Rattle.zarr_codecs_packbits.specs.Spans.{ends_within, span_numbers, span_range, span_ranges, spans_numbers, total_length}
use Rattle.zarr_codecs_packbits.specs.Turning.{bits_of}
use Rattle.zarr_codecs_packbits.specs.declared.spans.Span.{Span}
use Rattle.zarr_codecs_packbits.proofs.PackedCells.{fixed_cells_in, fixed_where, length-element_in}

-- ---- elements that were unpacked

cells_of : (first : ℕ) (last : Option ℕ) (parts : List Component) (bits ns : List ℕ) → 0 < bytes_in parts → fixed_cells (bytes_in parts) (flat_map (element_in first last parts bits) ns) ≡ map (λ n. of_bytes (element_in first last parts bits n)) ns
cells_of first last parts bits [] some = fixed_cells-nil (bytes_in parts)
cells_of first last parts bits (n ∷ ns) some =
    let make = element_in first last parts bits in
    fixed_cells-cons (bytes_in parts) (make n) (flat_map make ns) some (length-element_in first last parts bits n) ∙ ap (λ (cs : List Cell). of_bytes (make n) ∷ cs) (cells_of first last parts bits ns some)

gathered_cells : (f : ℕ → Cell) (fill : Cell) (count : ℕ) (ns : List ℕ) → list_all (λ n. nat_lt n count) ns ≡ true → gather fill (map f (range_with_len 0 count)) ns ≡ map f ns
gathered_cells f fill count [] below = refl
gathered_cells f fill count (n ∷ ns) below =
    let both = and_parts (nat_lt n count) (list_all (λ m. nat_lt m count) ns) below in
    ap (λ c. c ∷ gather fill (map f (range_with_len 0 count)) ns) (get_or-map-range_with_len f 0 count n n fill (ltb-true n count both.0) (omega arith)) ∙ ap (λ cs. f n ∷ cs) (gathered_cells f fill count ns both.1)

-- the bytes of the elements that are asked for are those of the part
pub packed_part : (first : ℕ) (last : Option ℕ) (elements : Elements) (shape value made : List ℕ) (asked : Asked) → fits (packbits no_padding_byte first last) elements.type shape ≡ true → 0 < bytes_in (components elements.type) → are_inside shape asked ≡ true
    → length value ≡ packed_size no_padding_byte first last (components elements.type) (product shape) → made ≡ flat_map (element_in first last (components elements.type) (bits_of value)) (numbers_asked shape asked)
    → IsPart (coded (packbits no_padding_byte first last) elements shape) (Some value) asked (fixed made)
packed_part first last elements shape value made asked fit some inside long is =
    let chain = packbits no_padding_byte first last in
    let type = elements.type in
    let parts = components type in
    let width = bytes_in parts in
    let ns = numbers_asked shape asked in
    let below = asked_places shape asked inside in
    let f = unpacked first last type (bits_of value) in
    let all = map f (place_numbers shape) in
    let make = element_in first last parts (bits_of value) in
    let total : length made ≡ length ns * width = ap length is ∙ length-flat_map make width ns (every (λ n. length (make n) ≡ width) ns (length-element_in first last parts (bits_of value))) in
    let whole : length made % width ≡ 0 = ap (λ n. n % width) total ∙ mul-mod_left (length ns) width in
    let found : fixed_cells width made ≡ map f ns = ap (fixed_cells width) is ∙ cells_of first last parts (bits_of value) ns some in
    let decoded_is : decoded chain elements shape value ≡ Some all = on_true (length value == packed_size no_padding_byte first last parts (product shape)) (Some all) None (eq-eqb (length value) (packed_size no_padding_byte first last parts (product shape)) long) in
    record {
      cells = map f ns;
      fit = fit;
      inside = inside;
      lists = fixed_cells_in type made (fixed_where no_padding_byte first last type shape fit) ∙ (fixed_in-some width made some whole ∙ ap Some found);
      is = part_read chain elements shape value all ns fit decoded_is below ∙ ap Some (gathered_cells f elements.fill (product shape) ns below);
    }

-- ---- spans of numbers

pub small_numbers : (count limit : ℕ) (ns : List ℕ) → count ≤ limit → list_all (λ n. nat_lt n count) ns ≡ true → list_all (λ n. nat_lt n limit) ns ≡ true
small_numbers count limit [] few below = refl
small_numbers count limit (n ∷ ns) few below =
    let both = and_parts (nat_lt n count) (list_all (λ m. nat_lt m count) ns) below in
    let low = ltb-true n count both.0 in
    ap (λ (b : Bool). b && list_all (λ m. nat_lt m limit) ns) (lt-ltb n limit (omega (arith, low, few))) ∙ small_numbers count limit ns few both.1

both_pass : (test : ℕ → Bool) (xs ys : List ℕ) → list_all test (xs ++ ys) ≡ true → (list_all test xs ≡ true) × (list_all test ys ≡ true)
both_pass test [] ys h = (refl, h)
both_pass test (x ∷ xs) ys h =
    let parts = and_parts (test x) (list_all test (xs ++ ys)) h in
    let rest = both_pass test xs ys parts.1 in (ap (λ (b : Bool). b && list_all test xs) parts.0 ∙ rest.0, rest.1)

-- where all numbers of a span are below a number, its end is at most it
span_ends : (count many n : ℕ) → list_all (λ m. nat_lt m count) (range_with_len n (suc many)) ≡ true → n + suc many ≤ count
span_ends count zero n h = let below = ltb-true n count (and_parts (nat_lt n count) true h).0 in omega arith
span_ends count (suc many) n h =
    let rest = span_ends count many (n + 1) (and_parts (nat_lt n count) (list_all (λ m. nat_lt m count) (range_with_len (n + 1) (suc many))) h).1 in
    omega (arith, rest)

some_ends : (count : ℕ) (span : Span) (many : ℕ) → span.count ≡ many → 0 < many → list_all (λ m. nat_lt m count) (span_numbers span) ≡ true → span.start + span.count ≤ count
some_ends count span zero e some h = absurd (omega (arith, some))
some_ends count span (suc many) e some h =
    let end = span_ends count many span.start (ap (λ k. list_all (λ m. nat_lt m count) (range_with_len span.start k)) (sym e) ∙ h) in
    omega (arith, end, e)

-- the bits of spans of places of an array end within as many as the array has
pub spans_end : (count bits limit : ℕ) (spans : List Span) → count * bits ≤ limit → list_all (λ (span : Span). nat_lt 0 span.count) spans ≡ true → list_all (λ m. nat_lt m count) (spans_numbers spans) ≡ true
    → list_all (λ (span : Span). nat_le ((span.start + span.count) * bits) limit) spans ≡ true
spans_end count bits limit [] few some below = refl
spans_end count bits limit (span ∷ spans) few some below =
    let first = and_parts (nat_lt 0 span.count) (list_all (λ (r : Span). nat_lt 0 r.count) spans) some in
    let both = both_pass (λ m. nat_lt m count) (span_numbers span) (spans_numbers spans) below in
    let end = some_ends count span span.count refl (ltb-true 0 span.count first.0) both.0 in
    let less = mul-le-mul_right bits end in
    ap (λ (b : Bool). b && list_all (λ (r : Span). nat_le ((r.start + r.count) * bits) limit) spans) (le-leb ((span.start + span.count) * bits) limit (omega (arith, less, few))) ∙ spans_end count bits limit spans few first.1 both.1

-- an array has no more bits than the bytes that it is packed to
pub packed_bits_few : (bits count size : ℕ) → size ≡ 0 + (bits * count + 7) / 8 → count * bits ≤ 8 * size
packed_bits_few bits count size is = let turned = mul_comm count bits in omega (arith, is, turned)

-- where 2^66 bits or more are kept of an element and the value is small, nothing is stored of it
pub none_packed : (bits count size : ℕ) → 2 ^ 66 ≤ bits → size < 2 ^ 63 → size ≡ 0 + (bits * count + 7) / 8 → size ≡ 0
none_packed bits zero size many small is = let none : bits * 0 ≡ 0 = omega arith in omega (arith, is, none)
none_packed bits (suc count) size many small is = let more : bits * suc count ≡ bits + bits * count = grind arith in absurd (omega (arith, many, small, is, more))

-- ---- ranges that are read

range_within : (bits : ℕ) (value : List ℕ) (span : Span) → ends_within bits value span ≡ true → ends_past value (span_range bits span) ≡ false
range_within bits value span h =
    let end = leb-true ((span.start + span.count) * bits) (8 * length value) h in
    let wide : (span.start + span.count) * bits ≡ span.start * bits + span.count * bits = grind arith in
    le-ltb (length value) ((span_range bits span).offset + (span_range bits span).length) (omega (arith, end, wide))

ranges_within : (bits : ℕ) (value : List ℕ) (spans : List Span) → list_all (ends_within bits value) spans ≡ true → list_any (ends_past value) (span_ranges bits spans) ≡ false
ranges_within bits value [] h = refl
ranges_within bits value (span ∷ spans) h =
    let both = and_parts (ends_within bits value span) (list_all (ends_within bits value) spans) h in
    ap (λ (b : Bool). b || list_any (ends_past value) (span_ranges bits spans)) (range_within bits value span both.0) ∙ ranges_within bits value spans both.1

ranges_refused : {A : Type 0} (contents : Option (List ℕ)) (value : List ℕ) (ranges : List ByteRange) (result : Result A CodecError) → contents ≡ Some value → list_any (ends_past value) ranges ≡ false → RangesRefused contents ranges result → ReadRefused result
ranges_refused contents value ranges (Ok found) is within refused = tt
ranges_refused contents value ranges (Err error.Damage) is within past = absurd (false≢true (sym (ap (λ (stored : Option (List ℕ)). any_past_end stored ranges) is ∙ within) ∙ past))
ranges_refused contents value ranges (Err error.Source) is within refused = tt
ranges_refused contents value ranges (Err error.Memory) is within refused = tt
ranges_refused contents value ranges (Err e) is within refused = absurd refused

part_unread : (chain : Chain) (elements : Elements) (shape : List ℕ) (stored : Option (List ℕ)) (asked : Asked) (e : CodecError) → ReadRefused {A = Option (Vec ℕ Global)} (Err e) → DecodesPart (coded chain elements shape) stored asked (Err e)
part_unread chain elements shape stored asked error.Source refused = tt
part_unread chain elements shape stored asked error.Memory refused = tt
part_unread chain elements shape stored asked e refused = absurd refused

-- ranges of spans that end within the value are refused only by the source, or for want of memory
pub spans_unread : (chain : Chain) (elements : Elements) (shape : List ℕ) (stored : Option (List ℕ)) (asked : Asked) (contents : Option (List ℕ)) (value : List ℕ) (bits : ℕ) (spans : List Span) (ranges : List ByteRange) (e : CodecError) → contents ≡ Some value
    → list_all (ends_within bits value) spans ≡ true → ranges ≡ span_ranges bits spans → RangesRefused {A = Option (Vec ℕ Global)} contents ranges (Err e) → DecodesPart (coded chain elements shape) stored asked (Err e)
spans_unread chain elements shape stored asked contents value bits spans ranges e is within are refused =
    part_unread chain elements shape stored asked e (ranges_refused {A = Option (Vec ℕ Global)} contents value ranges (Err e) is (ap (list_any (ends_past value)) are ∙ ranges_within bits value spans within) refused)

bytes_few : (value : List ℕ) (ranges : List ByteRange) → length (bytes_in_ranges value ranges) ≤ total_length ranges
bytes_few value [] = omega arith
bytes_few value (range ∷ ranges) =
    let rest = bytes_few value ranges in
    let cut = length-take range.length (drop range.offset value) in
    let one = length-append (bytes_at value range) (bytes_in_ranges value ranges) in
    let two : total_length (range ∷ ranges) ≡ 0 + range.length + total_length ranges = sum_by-append (λ (r : ByteRange). r.length) (range ∷ []) ranges in
    omega (arith, rest, cut, one, two)

-- as many bytes were given at most as the ranges have
pub spans_given : (old new : ℕ) (contents : Option (List ℕ)) (value : List ℕ) (ranges : List ByteRange) → contents ≡ Some value → new ≤ old + value_length (concat_of contents ranges) → new ≤ old + total_length ranges
spans_given old new contents value ranges is most =
    let same : value_length (concat_of contents ranges) ≡ length (bytes_in_ranges value ranges) = ap (λ (stored : Option (List ℕ)). value_length (concat_of stored ranges)) is in
    let few = bytes_few value ranges in
    omega (arith, most, same, few)
