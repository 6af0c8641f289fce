-- How many cells of a type are too many.
use Rattle.std.proofs.Common.{◌≡◌, ℕ, suc, ◌+◌, ◌*◌, ◌/◌, ◌%◌, ◌<◌, ◌≤◌, ◌^◌, min, Some, sym, subst, arith, inl, inr, ⊎_elim}
use Rattle.std.specs.Prelude.{MatchOption}
use Rattle.std.proofs.Math.Nat.{mul-le-mul_left, mul_comm, mul-suc}
use Rattle.std.proofs.lemmas.Bool.{cases_lt}
use Rattle.std.proofs.lemmas.Grind.{div_ceil_times}
use Rattle.zarr_codecs_meaning.specs.Types.{DataType, byte_width, IsTooLarge}

-- as many cells of a width as a limit tells are too large
limit_times : (w count : ℕ) → 0 < w → 2 ^ 63 / w + min 1 (2 ^ 63 % w) ≤ count → 2 ^ 63 ≤ count * w
limit_times w count some enough =
    let bounds = div_ceil_times (2 ^ 63) w some in
    let grown = mul-le-mul_left w enough in
    let left = mul_comm w (2 ^ 63 / w + min 1 (2 ^ 63 % w)) in
    let right = mul_comm w count in
    omega arith

-- and fewer are not
below_limit : (w count : ℕ) → 0 < w → count < 2 ^ 63 / w + min 1 (2 ^ 63 % w) → count * w < 2 ^ 63
below_limit w count some few =
    let bounds = div_ceil_times (2 ^ 63) w some in
    let grown : w * suc count ≤ w * (2 ^ 63 / w + min 1 (2 ^ 63 % w)) = mul-le-mul_left w (omega arith) in
    let left = mul_comm w (2 ^ 63 / w + min 1 (2 ^ 63 % w)) in
    let right = mul-suc w count in
    let swapped = mul_comm w count in
    omega arith

-- a number is at most its multiples
at_most_times : (w count : ℕ) → 0 < w → count ≤ count * w
at_most_times w count some = let grown : count * 1 ≤ count * w = mul-le-mul_left count (omega arith) in omega arith

-- cells of one width are too many where their bytes are
too_many_bytes : (type : DataType) (w count : ℕ) → byte_width type ≡ Some w → 2 ^ 63 ≤ count * w → IsTooLarge type count
too_many_bytes type w count is many = inr (subst (λ o. MatchOption o ⊥ (λ (width : ℕ). 2 ^ 63 ≤ count * width)) (sym is) many)

-- the bytes that are too many
bytes_of_many : (type : DataType) (w count : ℕ) → byte_width type ≡ Some w → MatchOption (byte_width type) ⊥ (λ width. 2 ^ 63 ≤ count * width) → 2 ^ 63 ≤ count * w
bytes_of_many type w count is many = subst (λ o. MatchOption o ⊥ (λ (width : ℕ). 2 ^ 63 ≤ count * width)) is many

many_reach : (w count : ℕ) → 0 < w → 2 ^ 63 ≤ count * w → 2 ^ 63 / w + min 1 (2 ^ 63 % w) ≤ count
many_reach w count some many = ⊎_elim (λ few. let less = below_limit w count some few in absurd (omega arith)) (λ enough. enough) (cases_lt count (2 ^ 63 / w + min 1 (2 ^ 63 % w)))

-- the least number of cells that are too many
pub limit_tells : (type : DataType) (w limit : ℕ) → byte_width type ≡ Some w → 0 < w → limit ≡ 2 ^ 63 / w + min 1 (2 ^ 63 % w) → (count : ℕ) → (limit ≤ count → IsTooLarge type count) × (IsTooLarge type count → limit ≤ count)
limit_tells type w limit sized some is count = (too_many, reached) where
  too_many : limit ≤ count → IsTooLarge type count
  too_many enough = too_many_bytes type w count sized (limit_times w count some (subst (λ n. n ≤ count) is enough))

  reached : IsTooLarge type count → limit ≤ count
  reached (inl many) = subst (λ n. n ≤ count) (sym is) (many_reach w count some (let up = at_most_times w count some in omega arith))
  reached (inr many) = subst (λ n. n ≤ count) (sym is) (many_reach w count some (bytes_of_many type w count sized many))
