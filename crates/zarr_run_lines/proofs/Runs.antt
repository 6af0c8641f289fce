-- Lines that are read run by run.
use Rattle.std.proofs.Common.{◌≡◌, ◌≢◌, ℕ, suc, ◌==◌, ◌<◌, List, [], ◌∷◌, ◌++◌, All, length, false, Option, None, Some, IfSome, refl, sym, ap, ◌∙◌, arith}
use Rattle.std.proofs.lemmas.Bool.{ne_eqb}
use Rattle.std.specs.Io.BufRead.{take_through, drop_through, DropsThrough}
use Rattle.std.specs.Io.KnownBytes.{Consumes}

plain-through : (run ys : List ℕ) → All (λ x. x ≢ 10) run → (take_through 10 (run ++ ys) ≡ run ++ take_through 10 ys) × (drop_through 10 (run ++ ys) ≡ drop_through 10 ys)
plain-through [] ys all = (refl, refl)
plain-through (x ∷ run) ys all =
    let ne : (x == 10) ≡ false = ne_eqb x 10 (all 0 0 (omega arith)) in
    let rest = plain-through run ys (λ k d low. all (suc k) d (omega (arith, low))) in
    (rw ne (ap (λ l. x ∷ l) rest.0), rw ne rest.1)

-- bytes with no line feed, and then all through the next one
pub through_run : (a b c : Option (List ℕ)) (run new : List ℕ) → Consumes a b run → All (λ x. x ≢ 10) run → IfSome b (λ xs. new ≡ run ++ take_through 10 xs) → DropsThrough b c 10
    → IfSome a (λ xs. new ≡ take_through 10 xs) × DropsThrough a c 10
through_run None b c run new moved all taken dropped = (tt, tt)
through_run (Some x) None c run new moved all taken dropped = absurd moved
through_run (Some x) (Some y) c run new moved all taken dropped =
    let through = plain-through run y all in
    (taken ∙ sym (ap (take_through 10) moved ∙ through.0), dropped ∙ ap Some (sym (ap (drop_through 10) moved ∙ through.1)))
