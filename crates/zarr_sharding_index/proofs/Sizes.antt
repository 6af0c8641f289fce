-- How many bytes a chain makes of an index.
use Rattle.std.proofs.Common.{◌≡◌, ◌∙◌, ◌⊎◌, ℕ, ◌*◌, ◌^◌, ◌<◌, ◌≤◌, Bool, true, false, not, ◌&&◌, List, Option, Some, unwrap_or, sym, ap, arith, inl, inr, IsTrue}
use Rattle.std.specs.Prelude.{nat_lt}
use Rattle.std.proofs.lemmas.Bool.{and_from, and_right, lt-ltb, ltb-true}
use Rattle.zarr_grids_boxes.specs.Boxes.{product}
use Rattle.zarr_codecs_meaning.specs.Chains.{Chain}
use Rattle.zarr_codecs_meaning.specs.Chains.BytesRepresentation.{fixed_size}
use Rattle.zarr_codecs_meaning.specs.Encoding.{index_size}
use Rattle.zarr_codecs_meaning.specs.Fits.{fits, fixed_of, has_index_size, is_some_below, representation_of, size_of, tells_too_long}
use Rattle.zarr_codecs_meaning.specs.Types.{IsTooLarge, uint64}
use Rattle.zarr_sharding_index.specs.Stored.{index_fits}

-- a size below 2^63 that is always the same, where the numbers have fewer bytes and no codec tells more
pub index_told : (index : Chain) (shape : List ℕ) (size : ℕ) → fits index uint64 shape ≡ true → fixed_size size ≡ representation_of index uint64 shape → tells_too_long index uint64 shape ≡ false → nat_lt (8 * product shape) (2 ^ 63) ≡ true → size < 2 ^ 63
    → (index_fits index shape ≡ true) × (size ≡ index_size index shape)
index_told index shape size fit is short few low =
    let known : size_of index uint64 shape ≡ Some size = ap fixed_of (sym is) in
    let below : is_some_below (2 ^ 63) (size_of index uint64 shape) ≡ true = ap (is_some_below (2 ^ 63)) known ∙ lt-ltb size (2 ^ 63) low in
    let told = not (tells_too_long index uint64 shape) in
    let sized = and_from (is_some_below (2 ^ 63) (size_of index uint64 shape)) (nat_lt (8 * product shape) (2 ^ 63) && told) below (and_from (nat_lt (8 * product shape) (2 ^ 63)) told few (ap not short)) in
    (and_from (fits index uint64 shape) (has_index_size index shape) fit sized, sym (ap (λ (o : Option ℕ). unwrap_or o 0) known))

-- the numbers of an index of few bytes are not too many
few_numbers : (shape : List ℕ) → nat_lt (8 * product shape) (2 ^ 63) ≡ true → IsTooLarge uint64 (product shape) → ⊥
few_numbers shape few (inl many) = let less = ltb-true (8 * product shape) (2 ^ 63) few in omega (arith, many, less)
few_numbers shape few (inr many) =
    let less = ltb-true (8 * product shape) (2 ^ 63) few in
    let eight : 2 ^ 63 ≤ product shape * 8 = many in
    omega (arith, eight, less)

untold : (a b c d : Bool) → d ≡ true → (a && (b && (c && not d))) ≡ false
untold a b c d long = and_right a (b && (c && not d)) (and_right b (c && not d) (and_right c (not d) (ap not long)))

-- an index of which a codec tells too long a size
pub index_untold : (index : Chain) (shape : List ℕ) → nat_lt (8 * product shape) (2 ^ 63) ≡ true → IsTooLarge uint64 (product shape) ⊎ IsTrue (tells_too_long index uint64 shape) → index_fits index shape ≡ false
index_untold index shape few (inl large) = absurd (few_numbers shape few large)
index_untold index shape few (inr long) = untold (fits index uint64 shape) (is_some_below (2 ^ 63) (size_of index uint64 shape)) (nat_lt (8 * product shape) (2 ^ 63)) (tells_too_long index uint64 shape) long
