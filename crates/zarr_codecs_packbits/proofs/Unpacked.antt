-- The elements of a span, of the bytes that their bits touch.
use Rattle.std.proofs.Common.{◌≡◌, ◌∙◌, ℕ, zero, suc, ◌+◌, ◌-◌, ◌*◌, ◌/◌, ◌%◌, ◌<◌, ◌≤◌, List, [], ◌∷◌, ◌++◌, length, take, drop, get_or, replicate, flat_map, ap, ap₂, sym, refl, arith, true, Option, drop-cons, length-append, length-drop, length-take}
use Rattle.std.specs.List.{list_all, range_with_len}
use Rattle.std.proofs.lemmas.Bool.{and_parts, leb-true}
use Rattle.std.proofs.lemmas.List.{drop-append-le, drop-drop, drop-take, drop_at, get_or-map, length-map, length-replicate, take-append-le, take_at}
use Rattle.zarr_codecs_meaning.specs.Encoding.{element_of_bits}
use Rattle.zarr_codecs_meaning.specs.Fits.{bits_in}
use Rattle.zarr_codecs_meaning.specs.Types.{Component}
use Rattle.zarr_codecs_traits.specs.Sources.{bytes_at, bytes_in_ranges}
use Rattle.zarr_codecs_traits.specs.declared.byte_range.ByteRange.{ByteRange}
use Rattle.zarr_codecs_packbits.specs.Packing.{bytes_of, element_in}
use Rattle.zarr_codecs_packbits.specs.Spans.{ends_within, span_numbers, span_range, span_ranges}
use Rattle.zarr_codecs_packbits.specs.Turning.{bits_of}
use Rattle.zarr_codecs_packbits.specs.declared.spans.Span.{Span}
use Rattle.zarr_codecs_packbits.proofs.BitLists.{drop_bits, length-bits_of, take_bits}

-- ---- parts of lists

take_take : (n m : ℕ) (xs : List ℕ) → n ≤ m → take n (take m xs) ≡ take n xs
take_take zero m xs h = refl
take_take (suc n) zero xs h = absurd (omega arith)
take_take (suc n) (suc m) [] h = refl
take_take (suc n) (suc m) (x ∷ xs) h = ap (λ ys. x ∷ ys) (take_take n m xs (omega arith))

pub window : (k n m : ℕ) (xs : List ℕ) → k + n ≤ m → take n (drop k (take m xs)) ≡ take n (drop k xs)
window k n m xs h =
    let all : m ≡ k + (m - k) = omega (arith, h) in
    ap (λ j. take n (drop k (take j xs))) all ∙ (ap (take n) (drop-take k (m - k) xs) ∙ take_take n (m - k) (drop k xs) (omega (arith, h)))

-- ---- the bits of a span

-- the bytes that a span touches lie in a value in which its bits end
pub record LiesIn (bits : ℕ) (value part : List ℕ) (span : Span) : Type 0 where
  pub long : length part ≡ ((span.start + span.count) * bits + 7) / 8 - span.start * bits / 8
  pub enough : span.start * bits % 8 + span.count * bits ≤ 8 * length part
  pub are : take (span.count * bits) (drop (span.start * bits % 8) (bits_of part)) ≡ take (span.count * bits) (drop (span.start * bits) (bits_of value))

pub lies_in_value : (bits : ℕ) (value part : List ℕ) (span : Span) → part ≡ bytes_at value (span_range bits span) → (span.start + span.count) * bits ≤ 8 * length value → LiesIn bits value part span
lies_in_value bits value part span is within =
    let a = span.start * bits in
    let n = span.count * bits in
    let both : (span.start + span.count) * bits ≡ a + n = grind arith in
    let first = a / 8 in
    let many = ((span.start + span.count) * bits + 7) / 8 - first in
    let room : first + many ≤ length value = omega (arith, within, both) in
    let left : length (drop first value) ≡ length value - first = length-drop first value in
    let long : length part ≡ many = ap length is ∙ (length-take many (drop first value) ∙ omega (arith, room, left)) in
    let enough : a % 8 + n ≤ 8 * many = omega (arith, both) in
    let given : bits_of part ≡ take (8 * many) (drop (8 * first) (bits_of value)) =
    ap bits_of is ∙ (sym (take_bits many (drop first value) (omega (arith, room, left))) ∙ ap (take (8 * many)) (sym (drop_bits first value (omega (arith, room))))) in
    let back : 8 * first + a % 8 ≡ a = omega arith in
    record {
      long = long;
      enough = omega (arith, enough, long);
      are = ap (λ bs. take n (drop (a % 8) bs)) given
          ∙ (window (a % 8) n (8 * many) (drop (8 * first) (bits_of value)) enough
          ∙ (ap (take n) (drop-drop (a % 8) (8 * first) (bits_of value)) ∙ ap (λ k. take n (drop k (bits_of value))) back));
    }

-- ---- bits that were moved to the front of bytes

pub record IsAligned (skip count : ℕ) (bytes made : List ℕ) : Type 0 where
  pub long : length made ≡ (count + 7) / 8
  pub are : take count (bits_of made) ≡ take count (drop skip (bits_of bytes))

pub aligned_bits : (skip count size : ℕ) (bytes made : List ℕ) → skip + count ≤ 8 * length bytes → size ≡ (count + 7) / 8 → bits_of made ≡ take (8 * size) (drop skip (bits_of bytes ++ replicate skip 0)) → IsAligned skip count bytes made
aligned_bits skip count size bytes made enough many is =
    let given = bits_of bytes in
    let none : List ℕ = replicate skip 0 in
    let whole = length-bits_of bytes in
    let left = length-drop skip given in
    let all : drop skip (given ++ none) ≡ drop skip given ++ none = drop-append-le skip given none (omega (arith, whole, enough)) in
    let room : length (drop skip (given ++ none)) ≡ 8 * length bytes = ap length all ∙ (length-append (drop skip given) none ∙ (let zeros = length-replicate {A = ℕ} skip 0 in omega (arith, left, whole, zeros, enough))) in
    let cut : 8 * length made ≡ 8 * size = sym (length-bits_of made) ∙ (ap length is ∙ (length-take (8 * size) (drop skip (given ++ none)) ∙ omega (arith, room, enough, many))) in
    record {
      long = omega (arith, cut, many);
      are = ap (take count) is
          ∙ (take_take count (8 * size) (drop skip (given ++ none)) (omega (arith, many))
          ∙ (ap (take count) all ∙ take-append-le count (drop skip given) none (omega (arith, left, whole, enough))));
    }

-- ---- elements

same_range : (f g : ℕ → List ℕ) (j s count : ℕ) → ((i : ℕ) → j ≤ i → i < j + count → f i ≡ g (s + i)) → flat_map f (range_with_len j count) ≡ flat_map g (range_with_len (s + j) count)
same_range f g j s zero law = refl
same_range f g j s (suc count) law =
    let next : s + (j + 1) ≡ s + j + 1 = omega arith in
    ap (λ bs. bs ++ flat_map f (range_with_len (j + 1) count)) (law j (omega arith) (omega arith))
    ∙ ap (λ bs. g (s + j) ++ bs) (same_range f g (j + 1) s count (λ i low high. law i (omega (arith, low)) (omega (arith, high))) ∙ ap (λ k. flat_map g (range_with_len k count)) next)

element_from : (first : ℕ) (last : Option ℕ) (parts : List Component) (xs ys : List ℕ) (s count i : ℕ) → take (count * bits_in first last parts) xs ≡ take (count * bits_in first last parts) (drop (s * bits_in first last parts) ys) → i < count
    → element_in first last parts xs i ≡ element_in first last parts ys (s + i)
element_from first last parts xs ys s count i same below =
    let w = bits_in first last parts in
    let split : count ≡ suc i + (count - suc i) = omega (arith, below) in
    let wide : count * w ≡ suc i * w + (count - suc i) * w = ap (λ k. k * w) split ∙ grind arith in
    let more : suc i * w ≡ i * w + w = grind arith in
    let room : i * w + w ≤ count * w = omega (arith, wide, more) in
    let next : s * w + i * w ≡ (s + i) * w = grind arith in
    ap (element_of_bits first last parts)
    (sym (window (i * w) w (count * w) xs room)
    ∙ (ap (λ bs. take w (drop (i * w) bs)) same
    ∙ (window (i * w) w (count * w) (drop (s * w) ys) room
    ∙ (ap (take w) (drop-drop (i * w) (s * w) ys) ∙ ap (λ k. take w (drop k ys)) next))))

-- the elements of bytes whose first bits are those of a span are the span's
pub unpacked_span : (first : ℕ) (last : Option ℕ) (parts : List Component) (value part given made : List ℕ) (span : Span) → LiesIn (bits_in first last parts) value part span
    → take (span.count * bits_in first last parts) (bits_of given) ≡ take (span.count * bits_in first last parts) (drop (span.start * bits_in first last parts % 8) (bits_of part))
    → made ≡ bytes_of first last parts span.count (bits_of given) → made ≡ flat_map (element_in first last parts (bits_of value)) (span_numbers span)
unpacked_span first last parts value part given made span h same is =
    let s = span.start in
    let start : s + 0 ≡ s = omega arith in
    is
    ∙ (same_range (element_in first last parts (bits_of given)) (element_in first last parts (bits_of value)) 0 s span.count (λ i low high. element_from first last parts (bits_of given) (bits_of value) s span.count i (same ∙ h.are) (omega (arith, high)))
    ∙ ap (λ k. flat_map (element_in first last parts (bits_of value)) (range_with_len k span.count)) start)

-- ---- the parts of spans

pub span_within : (value : List ℕ) (bits : ℕ) (spans : List Span) (i : ℕ) (d : Span) → list_all (ends_within bits value) spans ≡ true → i < length spans → ends_within bits value (get_or spans i d) ≡ true
span_within value bits [] i d h below = absurd (omega (arith, below))
span_within value bits (span ∷ spans) zero d h below = (and_parts (ends_within bits value span) (list_all (ends_within bits value) spans) h).0
span_within value bits (span ∷ spans) (suc i) d h below = span_within value bits spans i d (and_parts (ends_within bits value span) (list_all (ends_within bits value) spans) h).1 (omega (arith, below))

-- what is left of the bytes of ranges begins with those that a span touches
pub record Begins (bits : ℕ) (value rest left : List ℕ) (range : ByteRange) (span : Span) : Type 0 where
  pub within : range.length ≤ length rest
  pub part : take range.length rest ≡ bytes_at value (span_range bits span)
  pub others : drop range.length rest ≡ left

pub next_part : (bits : ℕ) (value : List ℕ) (spans : List Span) (ranges : List ByteRange) (i : ℕ) (rest : List ℕ) (range e : ByteRange) (d : Span) → list_all (ends_within bits value) spans ≡ true → ranges ≡ span_ranges bits spans → i < length spans → range ≡ get_or ranges i e
    → rest ≡ bytes_in_ranges value (drop i ranges) → Begins bits value rest (bytes_in_ranges value (drop (i + 1) ranges)) range (get_or spans i d)
next_part bits value spans ranges i rest range e d within are below found is =
    let span = get_or spans i d in
    let same : get_or ranges i e ≡ span_range bits span = ap (λ rs. get_or rs i e) are ∙ get_or-map (span_range bits) spans i d e below in
    let here : range ≡ span_range bits span = found ∙ same in
    let many : length ranges ≡ length spans = ap (λ (rs : List ByteRange). length rs) are ∙ length-map spans (span_range bits) in
    let one : suc i ≡ i + 1 = omega arith in
    let first : drop i ranges ≡ span_range bits span ∷ drop (i + 1) ranges = drop-cons ranges i e (omega (arith, below, many)) ∙ ap₂ (λ r k. r ∷ drop k ranges) same one in
    let part = bytes_at value (span_range bits span) in
    let left = bytes_in_ranges value (drop (i + 1) ranges) in
    let all : rest ≡ part ++ left = is ∙ ap (bytes_in_ranges value) first in
    let end = leb-true ((span.start + span.count) * bits) (8 * length value) (span_within value bits spans i d within below) in
    let l = lies_in_value bits value part span refl end in
    let size : length part ≡ range.length = l.long ∙ ap (λ (r : ByteRange). r.length) (sym here) in
    let whole : length rest ≡ length part + length left = ap length all ∙ length-append part left in
    record {
      within = omega (arith, size, whole);
      part = ap (take range.length) all ∙ take_at part left range.length size;
      others = ap (drop range.length) all ∙ drop_at part left range.length size;
    }
