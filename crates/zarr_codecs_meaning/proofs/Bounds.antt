-- What is known of sizes: bounds within one another, and those of a chain that takes each shape.
use Rattle.std.proofs.Common.{◌≡◌, ℕ, ◌+◌, ◌*◌, ◌/◌, ◌≤◌, List, [], ◌∷◌, length, map, sym, refl, arith, Option, Some, None, true, unwrap_or, option_and_then, option_map, length-append, subst}
use Rattle.std.proofs.lemmas.Bool.{le-leb, leb-true, and_parts}
use Rattle.std.proofs.lemmas.Map.Views.{exact_unsigned_eq}
use Rattle.std.proofs.Math.Nat.{mul-le-mul_left}
use Rattle.zarr_grids_boxes.specs.Boxes.{product}
use Rattle.zarr_codecs_meaning.specs.Types.{DataType, bool, Cell, components, bytes_in, inner_type}
use Rattle.zarr_codecs_meaning.specs.Chains.{BytesRepresentation, Chain}
use Rattle.zarr_codecs_meaning.specs.Chains.BytesRepresentation.{fixed_size, bounded_size, unbounded_size}
use Rattle.zarr_codecs_meaning.specs.Chains.Chain.{bytes, packbits, vlen, optional, after_array_codec, then_bytes, sharded}
use Rattle.zarr_codecs_meaning.specs.Places.{Part}
use Rattle.zarr_codecs_meaning.specs.Fits.{bits_in, packed_size, padding_size, bound_of, at_most, sum_of_bounds, representation_of, is_size_as, is_bound_within, takes_each_shape}
use Rattle.zarr_codecs_meaning.specs.Encoding.{joined_slices, pieces_of}
use Rattle.zarr_codecs_meaning.specs.Laws.{IsLawfulChain}
use Rattle.zarr_codecs_meaning.proofs.Shards.{SlicesStand}

-- ---- One bound

pub size_within : (known : BytesRepresentation) (size : ℕ) → is_size_as known size ≡ true → is_bound_within (Some size) (bound_of known) ≡ true
size_within (fixed_size n) size h = le-leb size n (omega (arith, exact_unsigned_eq size n h))
size_within (bounded_size n) size h = h
size_within unbounded_size size h = refl

pub size_at_most : (bound : Option ℕ) (size : ℕ) → is_bound_within (Some size) bound ≡ true → is_size_as (at_most bound) size ≡ true
size_at_most None size h = refl
size_at_most (Some n) size h = h

pub zero_within : (bound : Option ℕ) → is_bound_within (Some 0) bound ≡ true
zero_within None = refl
zero_within (Some n) = le-leb 0 n (omega arith)

pub within_again : (one two three : Option ℕ) → is_bound_within one two ≡ true → is_bound_within two three ≡ true → is_bound_within one three ≡ true
within_again one two None h k = refl
within_again one None (Some n) h k = cc
within_again None (Some m) (Some n) h k = cc
within_again (Some l) (Some m) (Some n) h k = le-leb l n (omega (arith, leb-true l m h, leb-true m n k))

at_most_within : (one two : Option ℕ) → is_bound_within one two ≡ true → is_bound_within (bound_of (at_most one)) (bound_of (at_most two)) ≡ true
at_most_within one None h = refl
at_most_within None (Some n) h = cc
at_most_within (Some m) (Some n) h = h

-- ---- Sums of bounds

-- the sum of two bounds
abbrev pub plus : Option ℕ → Option ℕ → Option ℕ
plus one two = option_and_then (λ n. option_map (λ m. n + m) two) one

pub plus_within : (one two first second : Option ℕ) → is_bound_within one first ≡ true → is_bound_within two second ≡ true → is_bound_within (plus one two) (plus first second) ≡ true
plus_within one two None second h k = refl
plus_within one two (Some m) None h k = refl
plus_within None two (Some m) (Some n) h k = cc
plus_within (Some l) None (Some m) (Some n) h k = cc
plus_within (Some l) (Some o) (Some m) (Some n) h k = le-leb (l + o) (m + n) (omega (arith, leb-true l m h, leb-true o n k))

-- two lengths of eight bytes, a mask and data
pub options_within : (mask values size : ℕ) (first second : Option ℕ) → is_bound_within (Some mask) first ≡ true → is_bound_within (Some values) second ≡ true → size ≡ 16 + (mask + (values + 0))
    → is_size_as (at_most (sum_of_bounds (Some 16 ∷ first ∷ second ∷ []))) size ≡ true
options_within mask values size first second h k is =
    let bound = sum_of_bounds (Some 16 ∷ first ∷ second ∷ []) in
    let inside = plus_within (Some mask) (Some (values + 0)) first (plus second (Some 0)) h (plus_within (Some values) (Some 0) second (Some 0) k refl) in
    size_at_most bound size (subst (λ n. is_bound_within (Some n) bound ≡ true) (sym is) (plus_within (Some 16) (Some (mask + (values + 0))) (Some 16) (plus first (plus second (Some 0))) refl inside))

-- slices, each of which is within a bound, are within the sum of those bounds
pub slices_within : (bound : List ℕ → Option ℕ) (fill : Cell) (cells : List Cell) (parts : List Part) (stored : List (Option (List ℕ)))
    → SlicesStand (λ shape slice found. is_bound_within (Some (length slice)) (bound shape) ≡ true) fill (pieces_of fill cells parts) stored
    → is_bound_within (Some (length (joined_slices stored))) (sum_of_bounds (map (λ (part : Part). bound part.shape) parts)) ≡ true
slices_within bound fill cells [] [] h = refl
slices_within bound fill cells [] (o ∷ os) h = elim h [ ]
slices_within bound fill cells (part ∷ parts) [] h = elim h [ ]
slices_within bound fill cells (part ∷ parts) (None ∷ os) h =
    let rest = slices_within bound fill cells parts os h.1 in
    let same : 0 + length (joined_slices os) ≡ length (joined_slices os) = omega arith in
    subst (λ n. is_bound_within (Some n) (plus (bound part.shape) (sum_of_bounds (map (λ (part : Part). bound part.shape) parts))) ≡ true) same
    (plus_within (Some 0) (Some (length (joined_slices os))) (bound part.shape) (sum_of_bounds (map (λ (part : Part). bound part.shape) parts)) (zero_within (bound part.shape)) rest)
slices_within bound fill cells (part ∷ parts) (Some slice ∷ os) h =
    let rest = slices_within bound fill cells parts os h.1 in
    subst (λ n. is_bound_within (Some n) (plus (bound part.shape) (sum_of_bounds (map (λ (part : Part). bound part.shape) parts))) ≡ true) (sym (length-append slice (joined_slices os)))
    (plus_within (Some (length slice)) (Some (length (joined_slices os))) (bound part.shape) (sum_of_bounds (map (λ (part : Part). bound part.shape) parts)) h.0.1 rest)

-- ---- Chains

-- of fewer elements a chain that takes each shape tells no larger bound
pub bounds_grow : (chain : Chain) (type : DataType) (one two : List ℕ) → IsLawfulChain chain → takes_each_shape chain ≡ true → product one ≤ product two
    → is_bound_within (bound_of (representation_of chain type one)) (bound_of (representation_of chain type two)) ≡ true
bounds_grow (bytes order) type one two lawful takes less =
    let width = bytes_in (components type) in
    le-leb (width * product one) (width * product two) (mul-le-mul_left width less)
bounds_grow (packbits padding first last) type one two lawful takes less =
    let bits = bits_in first last (components type) in
    le-leb (packed_size padding first last (components type) (product one)) (packed_size padding first last (components type) (product two)) (packed_less (padding_size padding) (bits * product one) (bits * product two) (mul-le-mul_left bits less)) where
      packed_less : (padding one two : ℕ) → one ≤ two → padding + (one + 7) / 8 ≤ padding + (two + 7) / 8
      packed_less padding one two less = omega arith
bounds_grow (vlen index «data» width location) type one two lawful takes less = refl
bounds_grow (optional mask values) type one two lawful takes less =
    let t = and_parts (takes_each_shape mask) (takes_each_shape values) takes in
    let inner = unwrap_or (inner_type type) type in
    let mask_before = bound_of (representation_of mask bool one) in
    let mask_after = bound_of (representation_of mask bool two) in
    let values_before = bound_of (representation_of values inner (product one ∷ [])) in
    let values_after = bound_of (representation_of values inner (product two ∷ [])) in
    let first = bounds_grow mask bool one two lawful.0 t.0 less in
    let second = bounds_grow values inner (product one ∷ []) (product two ∷ []) lawful.1 t.1 (omega (arith, less)) in
    let data_grows = plus_within values_before (Some 0) values_after (Some 0) second refl in
    let all = plus_within mask_before (plus values_before (Some 0)) mask_after (plus values_after (Some 0)) first data_grows in
    at_most_within (plus (Some 16) (plus mask_before (plus values_before (Some 0)))) (plus (Some 16) (plus mask_after (plus values_after (Some 0))))
    (plus_within (Some 16) (plus mask_before (plus values_before (Some 0))) (Some 16) (plus mask_after (plus values_after (Some 0))) refl all)
bounds_grow (after_array_codec codec chain) type one two lawful takes less = cc
bounds_grow (then_bytes chain codec) type one two lawful takes less = lawful.1.monotone (representation_of chain type one) (representation_of chain type two) (bounds_grow chain type one two lawful.0 takes less)
bounds_grow (sharded subchunk inner index location) type one two lawful takes less = cc
