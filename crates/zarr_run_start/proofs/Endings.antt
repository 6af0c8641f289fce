-- How a run of the program ends.
use Rattle.std.proofs.Common.{◌≡◌, ℕ, Bool, true, false, refl, arith, Option, Some, None}
use Rattle.std.specs.Prelude.{option_map}

pub none_of_map : {X Y : Type 0} (f : X → Y) (found : Option X) → option_map f found ≡ None → found ≡ None
none_of_map f None is = refl
none_of_map f (Some x) is = cc

-- words that end a run with status 2 aren't taken, if taken words end it with status 1
pub not_taken : (taken : Bool) (status : ℕ) → status ≡ 2 → (taken ≡ true → status ≡ 1) → taken ≡ false
not_taken false status two one = refl
not_taken true status two one = absurd (omega (arith, two, one refl))
