-- The bytes of integers.
use Rattle.std.specs.Prelude.{ℕ, suc, ◌-◌, ◌^◌, ℤ, pos, negsuc, List, ◌<◌, ⊤}
use Rattle.zarr_codecs_meaning.specs.Numbers.{digits}

-- the bytes of an integer, lowest first, in two's complement
abbrev pub integer_bytes : ℕ → ℤ → List ℕ
integer_bytes count (pos n) = digits 256 count n
integer_bytes count (negsuc n) = digits 256 count (256 ^ count - suc n)

-- whether two's complement in so many bytes goes so low
abbrev pub Reaches : ℕ → ℤ → Type 0
Reaches count (pos n) = ⊤
Reaches count (negsuc n) = n < 256 ^ count

-- the number itself, or how far it is below -1
abbrev pub magnitude : ℤ → ℕ
magnitude (pos n) = n
magnitude (negsuc n) = n
