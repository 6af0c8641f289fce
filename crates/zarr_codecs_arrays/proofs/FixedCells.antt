-- Elements of one width, one after another in bytes.
use Rattle.std.proofs.Common.{◌≡◌, ℕ, zero, suc, ◌+◌, ◌*◌, ◌/◌, ◌%◌, ◌<◌, List, [], ◌∷◌, ◌++◌, length, get_or, map, take, drop, replicate, ap, ◌∙◌, sym, arith, Some, None, Bool, ◌&&◌, ◌==◌, if◌then◌else◌, append_assoc, length-append, length-take, length-drop, take-append-drop}
use Rattle.std.specs.Prelude.{nat_lt}
use Rattle.std.specs.List.{flat_map, range_with_len, repeat}
use Rattle.std.proofs.lemmas.Bool.{lt-ltb, eq-eqb, ltb-true, eqb-true, and_parts}
use Rattle.std.proofs.lemmas.List.{same_lists, take_at, drop_at, drop-drop, nil_from_length}
use Rattle.std.proofs.lemmas.List.FromFn.{length-map-range_with_len, get_or-map-range_with_len}
use Rattle.std.proofs.lemmas.Nat.{div-add-mod'}
use Rattle.std.proofs.Math.Nat.{add-mul-div_left, zero-div}
use Rattle.zarr_codecs_meaning.specs.Types.{Cell, of_bytes, cell_bytes}
use Rattle.zarr_codecs_meaning.specs.Payloads.{fixed_cells, fixed_in}
use Rattle.zarr_codecs_meaning.proofs.Lists.{if_some, some_same}

-- ---- one by one

-- how many elements there are
pub length-fixed_cells : (width : ℕ) (bytes : List ℕ) → length (fixed_cells width bytes) ≡ length bytes / width
length-fixed_cells width bytes = length-map-range_with_len (λ n. of_bytes (take width (drop (n * width) bytes))) 0 (length bytes / width)

-- the n-th element
pub get_or-fixed_cells : (width : ℕ) (bytes : List ℕ) (n : ℕ) (other : Cell) → n < length bytes / width → get_or (fixed_cells width bytes) n other ≡ of_bytes (take width (drop (n * width) bytes))
get_or-fixed_cells width bytes n other h = get_or-map-range_with_len (λ k. of_bytes (take width (drop (k * width) bytes))) 0 (length bytes / width) n n other h (omega arith)

-- no bytes are no elements
pub fixed_cells-nil : (width : ℕ) → fixed_cells width [] ≡ []
fixed_cells-nil width = ap (λ n. map (λ k. of_bytes (take width (drop (k * width) []))) (range_with_len 0 n)) (zero-div width)

pub one_more : (width n : ℕ) → 0 < width → (width + n) / width ≡ suc (n / width)
one_more width n h =
    let e : width + n ≡ n + width * 1 = omega arith in
    ap (λ m. m / width) e ∙ (add-mul-div_left n 1 h ∙ omega arith)

cons_at : (width : ℕ) (element bytes : List ℕ) (k : ℕ) (d : Cell) → 0 < width → length element ≡ width → length (element ++ bytes) / width ≡ suc (length bytes / width) → k < suc (length bytes / width)
    → get_or (fixed_cells width (element ++ bytes)) k d ≡ get_or (of_bytes element ∷ fixed_cells width bytes) k d
cons_at width element bytes zero d h long count below =
    let start : zero * width ≡ 0 = omega arith in
    get_or-fixed_cells width (element ++ bytes) zero d (omega (arith, count))
    ∙ (ap (λ m. of_bytes (take width (drop m (element ++ bytes)))) start ∙ ap of_bytes (take_at element bytes width long))
cons_at width element bytes (suc k) d h long count below =
    let start : suc k * width ≡ width + k * width = grind arith in
    get_or-fixed_cells width (element ++ bytes) (suc k) d (omega (arith, count))
    ∙ (ap (λ m. of_bytes (take width (drop m (element ++ bytes)))) start
    ∙ (ap (λ ns. of_bytes (take width ns)) (sym (drop-drop (k * width) width (element ++ bytes)) ∙ ap (drop (k * width)) (drop_at element bytes width long))
    ∙ sym (get_or-fixed_cells width bytes k d (omega arith))))

-- an element before others
pub fixed_cells-cons : (width : ℕ) (element bytes : List ℕ) → 0 < width → length element ≡ width → fixed_cells width (element ++ bytes) ≡ of_bytes element ∷ fixed_cells width bytes
fixed_cells-cons width element bytes h long =
    let sum : length (element ++ bytes) ≡ width + length bytes = length-append element bytes ∙ ap (λ n. n + length bytes) long in
    let count : length (element ++ bytes) / width ≡ suc (length bytes / width) = ap (λ m. m / width) sum ∙ one_more width (length bytes) h in
    let many : length (fixed_cells width (element ++ bytes)) ≡ suc (length bytes / width) = length-fixed_cells width (element ++ bytes) ∙ count in
    same_lists (fixed_cells width (element ++ bytes)) (of_bytes element ∷ fixed_cells width bytes)
    (many ∙ sym (ap suc (length-fixed_cells width bytes)))
    (λ k d below. cons_at width element bytes k d h long count (omega (arith, many, below)))

-- ---- bytes that are whole elements

-- the first of several elements, and the others
record IsMore (width count : ℕ) (bytes : List ℕ) : Type 0 where
  one : length (take width bytes) ≡ width
  rest : length (drop width bytes) ≡ count * width
  cells : fixed_cells width bytes ≡ of_bytes (take width bytes) ∷ fixed_cells width (drop width bytes)

more : (width count : ℕ) (bytes : List ℕ) → 0 < width → length bytes ≡ suc count * width → IsMore width count bytes
more width count bytes h long =
    let sum : suc count * width ≡ width + count * width = grind arith in
    let one : length (take width bytes) ≡ width = length-take width bytes ∙ omega (arith, long, sum) in
    record {
      one = one;
      rest = length-drop width bytes ∙ omega (arith, long, sum);
      cells = ap (fixed_cells width) (sym (take-append-drop width bytes)) ∙ fixed_cells-cons width (take width bytes) (drop width bytes) h one;
    }

none : (width : ℕ) (bytes : List ℕ) → length bytes ≡ 0 * width → bytes ≡ []
none width bytes long = nil_from_length bytes (long ∙ omega arith)

flat_at : (count width : ℕ) (bytes : List ℕ) → 0 < width → length bytes ≡ count * width → flat_map cell_bytes (fixed_cells width bytes) ≡ bytes
flat_at zero width bytes h long =
    let empty = none width bytes long in
    ap (λ ns. flat_map cell_bytes (fixed_cells width ns)) empty ∙ (ap (flat_map cell_bytes) (fixed_cells-nil width) ∙ sym empty)
flat_at (suc count) width bytes h long =
    let m = more width count bytes h long in
    ap (flat_map cell_bytes) m.cells ∙ (ap (λ ns. take width bytes ++ ns) (flat_at count width (drop width bytes) h m.rest) ∙ take-append-drop width bytes)

append_at : (count width : ℕ) (bytes others : List ℕ) → 0 < width → length bytes ≡ count * width → fixed_cells width (bytes ++ others) ≡ fixed_cells width bytes ++ fixed_cells width others
append_at zero width bytes others h long =
    let empty = none width bytes long in
    ap (λ ns. fixed_cells width (ns ++ others)) empty ∙ sym (ap (λ ns. fixed_cells width ns ++ fixed_cells width others) empty ∙ ap (λ cells. cells ++ fixed_cells width others) (fixed_cells-nil width))
append_at (suc count) width bytes others h long =
    let m = more width count bytes h long in
    let front = take width bytes in
    let back = drop width bytes in
    ap (λ ns. fixed_cells width (ns ++ others)) (sym (take-append-drop width bytes))
    ∙ (ap (fixed_cells width) (append_assoc front back others)
    ∙ (fixed_cells-cons width front (back ++ others) h m.one
    ∙ (ap (λ cells. of_bytes front ∷ cells) (append_at count width back others h m.rest)
    ∙ sym (ap (λ cells. cells ++ fixed_cells width others) m.cells))))

-- how many bytes whole elements have
pub whole_length : (width : ℕ) (bytes : List ℕ) → length bytes % width ≡ 0 → length bytes ≡ (length bytes / width) * width
whole_length width bytes whole = sym (div-add-mod' (length bytes) width) ∙ omega (arith, whole)

-- the bytes of the elements that bytes are
pub flat_map-fixed_cells : (width : ℕ) (bytes : List ℕ) → 0 < width → length bytes % width ≡ 0 → flat_map cell_bytes (fixed_cells width bytes) ≡ bytes
flat_map-fixed_cells width bytes h whole = flat_at (length bytes / width) width bytes h (whole_length width bytes whole)

-- equal elements are equal bytes
pub same_bytes : (width : ℕ) (bytes others : List ℕ) → 0 < width → length bytes % width ≡ 0 → length others % width ≡ 0 → fixed_cells width bytes ≡ fixed_cells width others → bytes ≡ others
same_bytes width bytes others h one two same = sym (flat_map-fixed_cells width bytes h one) ∙ (ap (flat_map cell_bytes) same ∙ flat_map-fixed_cells width others h two)

-- whole elements before others
pub fixed_cells-append : (width : ℕ) (bytes others : List ℕ) → 0 < width → length bytes % width ≡ 0 → fixed_cells width (bytes ++ others) ≡ fixed_cells width bytes ++ fixed_cells width others
fixed_cells-append width bytes others h whole = append_at (length bytes / width) width bytes others h (whole_length width bytes whole)

-- one element so many times
pub fixed_cells-repeat : (count width : ℕ) (element : List ℕ) → 0 < width → length element ≡ width → fixed_cells width (repeat count element) ≡ replicate count (of_bytes element)
fixed_cells-repeat zero width element h long = fixed_cells-nil width
fixed_cells-repeat (suc count) width element h long = fixed_cells-cons width element (repeat count element) h long ∙ ap (λ cells. of_bytes element ∷ cells) (fixed_cells-repeat count width element h long)

pub length-repeat : (count : ℕ) (element : List ℕ) → length (repeat count element) ≡ count * length element
length-repeat zero element = omega arith
length-repeat (suc count) element =
    let sum : suc count * length element ≡ length element + count * length element = grind arith in
    length-append element (repeat count element) ∙ (ap (λ n. length element + n) (length-repeat count element) ∙ sym sum)

-- ---- the elements that bytes are, where they are whole

pub fixed_in-some : (width : ℕ) (bytes : List ℕ) → 0 < width → length bytes % width ≡ 0 → fixed_in width bytes ≡ Some (fixed_cells width bytes)
fixed_in-some width bytes h whole =
    ap (λ (b : Bool). if b && (length bytes % width == 0) then Some (fixed_cells width bytes) else None) (lt-ltb 0 width h)
    ∙ ap (λ (b : Bool). if b then Some (fixed_cells width bytes) else None) (eq-eqb (length bytes % width) 0 whole)

-- bytes that are whole elements
pub record IsWhole (width : ℕ) (bytes : List ℕ) (cells : List Cell) : Type 0 where
  pub positive : 0 < width
  pub whole : length bytes % width ≡ 0
  pub is : cells ≡ fixed_cells width bytes

pub fixed_in-whole : (width : ℕ) (bytes : List ℕ) (cells : List Cell) → fixed_in width bytes ≡ Some cells → IsWhole width bytes cells
fixed_in-whole width bytes cells h =
    let both = if_some (nat_lt 0 width && (length bytes % width == 0)) (Some (fixed_cells width bytes)) cells h in
    let tests = and_parts (nat_lt 0 width) (length bytes % width == 0) both.0 in
    record { positive = ltb-true 0 width tests.0; whole = eqb-true (length bytes % width) 0 tests.1; is = sym (some_same both.1) }
