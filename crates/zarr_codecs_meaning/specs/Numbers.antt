-- Numbers as lists of digits, the lowest first: bytes are digits in base 256, bits in base 2.
use Rattle.std.specs.Prelude.{ℕ, zero, suc, ◌+◌, ◌*◌, ◌/◌, ◌%◌, List, [], ◌∷◌}

-- so many of the lowest digits of a number
abbrev pub digits : ℕ → ℕ → ℕ → List ℕ
digits base zero n = []
digits base (suc count) n = n % base ∷ digits base count (n / base)

-- the number that digits write
abbrev pub number : ℕ → List ℕ → ℕ
number base [] = 0
number base (d ∷ ds) = d + base * number base ds

-- eight bytes, little endian
abbrev pub word : ℕ → List ℕ
word n = digits 256 8 n
