-- What is said of a copy for each way to describe codecs.
use Rattle.std.proofs.Common.{IfOk, Result, Ok, Err}

pub copied_each : {A E D : Type 0} (alike : D → Type 0) (same : D → A → Type 0) (r : Result A E) → ((described : D) → alike described → IfOk r (same described)) → IfOk r (λ copy. (described : D) → alike described → same described copy)
copied_each alike same (Ok copy) each = each
copied_each alike same (Err e) each = tt
