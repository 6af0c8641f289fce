-- Elements that are gathered by their numbers.
use Rattle.std.proofs.Common.{◌≡◌, ℕ, zero, suc, ◌+◌, ◌-◌, ◌*◌, ◌/◌, ◌%◌, ◌<◌, ◌≤◌, List, [], ◌∷◌, length, map, get_or, slice_index, take, drop, flat_map, ap, ◌∙◌, sym, refl, arith, Some, option_and_then, option_map, Bool, true, length-append, length-drop}
use Rattle.std.specs.Prelude.{nat_lt}
use Rattle.std.specs.List.{list_all}
use Rattle.std.proofs.Math.Nat.{mul-mod_left}
use Rattle.std.proofs.lemmas.Bool.{and_parts, ltb-true}
use Rattle.std.proofs.lemmas.List.{length-take-le}
use Rattle.zarr_codecs_meaning.specs.Types.{DataType, byte_width, optional_of, Cell}
use Rattle.zarr_codecs_meaning.specs.Payloads.{fixed_cells, fixed_in, masked, masked_in, cells_in, Payload, fixed, optional}
use Rattle.zarr_codecs_meaning.specs.Places.{gather}
use Rattle.zarr_codecs_meaning.proofs.Lists.{some_same, bind_some, map_some}
use Rattle.zarr_codecs_arrays.proofs.FixedCells.{fixed_cells-nil, fixed_cells-cons, get_or-fixed_cells, length-fixed_cells, whole_length, fixed_in-some, fixed_in-whole}
use Rattle.zarr_codecs_types.specs.Parts.{word_sized}
use Rattle.zarr_codecs_arrays.proofs.Counts.{known_width}
use Rattle.zarr_codecs_arrays.proofs.Masks.{masked_parts, masked_lengths}

-- the bytes of the element with a number
abbrev pub bytes_at : ℕ → List ℕ → ℕ → List ℕ
bytes_at width bytes n = take width (drop (n * width) bytes)

at_width : (width n count : ℕ) (bytes : List ℕ) → length bytes ≡ count * width → n < count → length (bytes_at width bytes n) ≡ width
at_width width n count bytes whole below =
    let most : suc n * width ≤ count * width = mul_le n count width below in
    let sum : suc n * width ≡ width + n * width = grind arith in
    length-take-le width (drop (n * width) bytes) (omega (arith, length-drop (n * width) bytes, whole, most, sum)) where
      mul_le : (n count width : ℕ) → n < count → suc n * width ≤ count * width
      mul_le n count width h =
          let e : count ≡ suc n + (count - suc n) = omega arith in
          let f : count * width ≡ suc n * width + (count - suc n) * width = ap (λ k. k * width) e ∙ grind arith in
          omega arith

-- whether each number is below a count
abbrev pub are_below : ℕ → List ℕ → Bool
are_below count numbers = list_all (λ n. nat_lt n count) numbers

-- the elements, and how many bytes they have
pub fixed_gathered : (width count : ℕ) (bytes : List ℕ) (other : Cell) (numbers : List ℕ) → 0 < width → length bytes ≡ count * width → length bytes / width ≡ count → are_below count numbers ≡ true
    → (fixed_cells width (flat_map (bytes_at width bytes) numbers) ≡ gather other (fixed_cells width bytes) numbers) × (length (flat_map (bytes_at width bytes) numbers) ≡ length numbers * width)
fixed_gathered width count bytes other [] some whole many all = (fixed_cells-nil width, omega arith)
fixed_gathered width count bytes other (n ∷ numbers) some whole many all =
    let both = and_parts (nat_lt n count) (are_below count numbers) all in
    let below = ltb-true n count both.0 in
    let long = at_width width n count bytes whole below in
    let rest = fixed_gathered width count bytes other numbers some whole many both.1 in
    let others = flat_map (bytes_at width bytes) numbers in
    let first = get_or-fixed_cells width bytes n other (omega (arith, below, many)) in
    let sum : suc (length numbers) * width ≡ width + length numbers * width = grind arith in (
      fixed_cells-cons width (bytes_at width bytes n) others some long ∙ (ap (λ c. c ∷ fixed_cells width others) (sym first) ∙ ap (λ cs. get_or (fixed_cells width bytes) n other ∷ cs) rest.0),
      length-append (bytes_at width bytes n) others ∙ omega (arith, long, rest.1, sum),
    )

-- the elements of a width that were gathered are elements again
pub fixed_are : (width : ℕ) (bytes : List ℕ) (cells : List Cell) (other : Cell) (numbers : List ℕ) → fixed_in width bytes ≡ Some cells → are_below (length cells) numbers ≡ true → fixed_in width (flat_map (bytes_at width bytes) numbers) ≡ Some (gather other cells numbers)
fixed_are width bytes cells other numbers h all =
    let is = fixed_in-whole width bytes cells h in
    let count = length bytes / width in
    let many : length cells ≡ count = ap length is.is ∙ length-fixed_cells width bytes in
    let both = fixed_gathered width count bytes other numbers is.positive (whole_length width bytes is.whole) refl (ap (λ n. are_below n numbers) (sym many) ∙ all) in
    let even : length (flat_map (bytes_at width bytes) numbers) % width ≡ 0 = ap (λ n. n % width) both.1 ∙ mul-mod_left (length numbers) width in
    fixed_in-some width (flat_map (bytes_at width bytes) numbers) is.positive even ∙ ap Some (both.0 ∙ ap (λ cs. gather other cs numbers) (sym is.is))

-- elements of one width that were gathered
pub fixed_payload : (type : DataType) (payload : Payload) (width : ℕ) (bytes made : List ℕ) (cells : List Cell) (other : Cell) (numbers : List ℕ) → Some width ≡ option_and_then word_sized (byte_width type) → payload ≡ fixed bytes → made ≡ flat_map (bytes_at width bytes) numbers
    → cells_in type payload ≡ Some cells → are_below (length cells) numbers ≡ true → cells_in type (fixed made) ≡ Some (gather other cells numbers)
fixed_payload type payload width bytes made cells other numbers told p is h all =
    let w = known_width type width told in
    let at_bytes : fixed_in width bytes ≡ Some cells = sym (ap (option_and_then (λ n. fixed_in n bytes)) w) ∙ (sym (ap (cells_in type) p) ∙ h) in
    ap (option_and_then (λ n. fixed_in n made)) w ∙ (ap (fixed_in width) is ∙ fixed_are width bytes cells other numbers at_bytes all)

-- ---- elements that may be absent

masked_step : (c : Cell) (m : ℕ) (below : List Cell) (mask : List ℕ) (first : Cell) (rest all : List Cell) (n : ℕ) (other : Cell) → masked c m ≡ Some first → first ∷ rest ≡ all → ((k : ℕ) → k < length rest → masked (get_or below k other) (get_or mask k 0) ≡ Some (get_or rest k other)) → n < length all
    → masked (get_or (c ∷ below) n other) (get_or (m ∷ mask) n 0) ≡ Some (get_or all n other)
masked_step c m below mask first rest all zero other one two law less = one ∙ ap (λ cs. Some (get_or cs 0 other)) two
masked_step c m below mask first rest all (suc k) other one two law less =
    let long = ap length two in
    law k (omega (arith, less, long)) ∙ ap (λ cs. Some (get_or cs (suc k) other)) two

masked_get : (below : List Cell) (mask : List ℕ) (all : List Cell) (n : ℕ) (other : Cell) → masked_in below mask ≡ Some all → n < length all → masked (get_or below n other) (get_or mask n 0) ≡ Some (get_or all n other)
masked_get [] [] all n other h less = let none : all ≡ [] = sym (some_same h) in absurd (omega (arith, ap length none))
masked_get [] (m ∷ mask) all n other h less = cc
masked_get (c ∷ below) [] all n other h less = cc
masked_get (c ∷ below) (m ∷ mask) all n other h less =
    let one = bind_some (λ first. option_map (λ others. first ∷ others) (masked_in below mask)) (masked c m) all h in
    let two = map_some (λ others. one.0 ∷ others) (masked_in below mask) all one.2 in
    masked_step c m below mask one.0 two.0 all n other one.1 two.2 (λ k few. masked_get below mask two.0 k other two.1 few) less

pub masked_gathered : (below : List Cell) (mask : List ℕ) (all : List Cell) (other : Cell) (numbers : List ℕ) → masked_in below mask ≡ Some all → are_below (length all) numbers ≡ true
    → masked_in (gather other below numbers) (map (slice_index mask) numbers) ≡ Some (gather other all numbers)
masked_gathered below mask all other [] h inside = refl
masked_gathered below mask all other (n ∷ numbers) h inside =
    let both = and_parts (nat_lt n (length all)) (are_below (length all) numbers) inside in
    let first = masked_get below mask all n other h (ltb-true n (length all) both.0) in
    let rest = masked_gathered below mask all other numbers h both.1 in
    ap (option_and_then (λ first. option_map (λ others. first ∷ others) (masked_in (gather other below numbers) (map (slice_index mask) numbers)))) first
    ∙ ap (option_map (λ others. get_or all n other ∷ others)) rest

-- elements that may be absent, of those below a mask and of the mask
pub masked_payload : (whole type : DataType) (payload inner made : Payload) (mask marks : List ℕ) (cells : List Cell) (other : Cell) (numbers : List ℕ) → whole ≡ optional_of type → payload ≡ optional inner mask → marks ≡ map (slice_index mask) numbers
    → ((below : List Cell) → cells_in type inner ≡ Some below → are_below (length below) numbers ≡ true → cells_in type made ≡ Some (gather other below numbers))
    → cells_in whole payload ≡ Some cells → are_below (length cells) numbers ≡ true → cells_in whole (optional made marks) ≡ Some (gather other cells numbers)
masked_payload whole type payload inner made mask marks cells other numbers t p is law h all =
    let found = masked_parts whole type payload inner mask cells t p h in
    let long = masked_lengths found.below mask cells found.marked in
    let same : length cells ≡ length found.below = omega (arith, long.0, long.1) in
    let gathered = law found.below found.inside (ap (λ n. are_below n numbers) (sym same) ∙ all) in
    ap (λ x. cells_in x (optional made marks)) t
    ∙ (ap (option_and_then (λ cs. masked_in cs marks)) gathered
    ∙ (ap (masked_in (gather other found.below numbers)) is ∙ masked_gathered found.below mask cells other numbers found.marked all))
