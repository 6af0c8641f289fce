use Rattle.std.proofs.Common.{◌≡◌, ◌∷◌, ℕ, nat_lt, drop}
use Rattle.std.specs.List.{list_all}
use Rattle.zarr_codecs_arrays.proofs.fixed.highest.Given as goal

abbrev pub invariant-loop-byte : goal.invariant-loop-byte
invariant-loop-byte l = (bound : ℕ) → list_all (λ b. nat_lt b bound) (l.first ∷ l.bytes) ≡ list_all (λ b. nat_lt b bound) (l.highest ∷ drop l.byte-index l.bytes)
