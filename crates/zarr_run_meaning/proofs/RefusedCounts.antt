-- The count of refused store calls after a command that is refused.
use Rattle.std.proofs.Common.{◌≡◌, inl, ℕ, refl, sym, subst}
use Rattle.zarr_run_meaning.specs.declared.cause.Cause.{Cause}
use Rattle.zarr_run_meaning.specs.declared.cause.Cause.TheVariants as cause
use Rattle.zarr_run_meaning.specs.Steps.{refused_after, CountsRefusal}

-- where at most the call that the refusal tells of was refused
pub counts_refusal : (c : Cause) (n : ℕ) → CountsRefusal c n (refused_after c n)
counts_refusal cause.Store n = refl
counts_refusal c n = inl refl

pub counts_exact : (c : Cause) (n m : ℕ) → m ≡ refused_after c n → CountsRefusal c n m
counts_exact c n m is = let P : ℕ → Type 0 = λ k. CountsRefusal c n k in subst P (sym is) (counts_refusal c n)
