-- What a store holds: a value for each of its keys.
use Rattle.std.specs.Prelude.{ℕ, ◌+◌, ◌-◌, ◌^◌, ◌≤◌, min, List}
use Rattle.std.specs.Ordering.{nat_cmp}
use Rattle.std.specs.Cmp.Lexicographic.{slice_cmp}
use Rattle.std.specs.FinMap.{FinMap}

-- the bytes of keys to the bytes of their values, in the keys' order
abbrev pub StoreMap : Type 0
StoreMap = FinMap (slice_cmp nat_cmp) (List ℕ)

-- where a count stands still
abbrev pub count_limit : ℕ
count_limit = 2 ^ 128 - 1

-- a count after n more
abbrev pub counted : ℕ → ℕ → ℕ
counted count n = min (count + n) count_limit

-- a count after at most n more; it stands still at 2^128 - 1
abbrev pub CountsUpTo : ℕ → ℕ → ℕ → Type 0
CountsUpTo n old new = (counted old 0 ≤ new) × (new ≤ old + n)
