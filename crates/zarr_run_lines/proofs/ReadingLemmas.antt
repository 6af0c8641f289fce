-- A reader that has a part of the bytes that are left.
use Rattle.std.proofs.Common.{◌≡◌, ◌≢◌, ℕ, zero, suc, ◌+◌, ◌-◌, ◌==◌, ◌<◌, ◌≤◌, List, [], ◌∷◌, length, take, Bool, true, false, cond, Option, Some, IfSome, refl, sym, ap, ◌∙◌, subst, arith}
use Rattle.std.specs.Io.BufRead.{take_through, drop_through, strip_last, DropsThrough}
use Rattle.zarr_run_lines.specs.Reading.{IsLeft, TakesLine, up_to}

length-at : (b : Bool) (x : ℕ) (xs : List ℕ) → length xs ≡ length (take_through 10 xs) + length (drop_through 10 xs)
    → length (x ∷ xs) ≡ length (cond b (x ∷ []) (x ∷ take_through 10 xs)) + length (cond b xs (drop_through 10 xs))
length-at true x xs h = omega arith
length-at false x xs h = omega (arith, h)

-- the bytes through the first line feed and those after it
through-length : (xs : List ℕ) → length xs ≡ length (take_through 10 xs) + length (drop_through 10 xs)
through-length [] = refl
through-length (x ∷ xs) = length-at (x == 10) x xs (through-length xs)

-- a first line that ends before the part does
pub record Through (k : ℕ) (xs : List ℕ) : Type 0 where
  pub taken : take_through 10 (take k xs) ≡ take_through 10 xs
  pub left : drop_through 10 (take k xs) ≡ take (k - length (take_through 10 (take k xs))) (drop_through 10 xs)

less-one : (k : ℕ) → suc k - 1 ≡ k
less-one k = omega arith

none-taken : (k : ℕ) → [] ≡ take {A = ℕ} k []
none-taken zero = refl
none-taken (suc k) = refl

less-both : (k n : ℕ) → suc k - suc n ≡ k - n
less-both k n = omega arith

through-at : (b : Bool) (k x : ℕ) (xs : List ℕ) → (x == 10) ≡ b → (length (take_through 10 (take k xs)) < k → Through k xs)
    → length (cond b (x ∷ []) (x ∷ take_through 10 (take k xs))) < suc k → Through (suc k) (x ∷ xs)
through-at true k x xs e h below = record { taken = rw e refl; left = rw e (ap (λ m. take m xs) (sym (less-one k))) }
through-at false k x xs e h below =
    let next = h (omega (arith, below)) in
    record { taken = rw e (ap (λ l. x ∷ l) next.taken); left = rw e (next.left ∙ ap (λ m. take m (drop_through 10 xs)) (sym (less-both k (length (take_through 10 (take k xs)))))) }

through-take : (k : ℕ) (xs : List ℕ) → length (take_through 10 (take k xs)) < k → Through k xs
through-take zero xs below = absurd (omega (arith, below))
through-take (suc k) [] below = record { taken = refl; left = none-taken _ }
through-take (suc k) (x ∷ xs) below = through-at (x == 10) k x xs refl (through-take k xs) below

known-at : (known : Option (List ℕ)) (P : List ℕ → Type 0) (xs : List ℕ) → known ≡ Some xs → IfSome known P → P xs
known-at known P xs e h = let Q : Option (List ℕ) → Type 0 = λ o. IfSome o P in subst Q e h

none-through : (k : ℕ) (rest : List ℕ) → rest ≡ [] → length (take_through 10 (take k rest)) ≡ 0
none-through k rest e = ap (λ r. length (take_through 10 (take k r))) e ∙ ap (λ r. length (take_through 10 r)) (sym (none-taken k))

same-limit : (limit n : ℕ) → n ≤ limit → limit + 1 - n ≡ limit - n + 1
same-limit limit n h = omega (arith, h)

count-left : (limit n all after : ℕ) → n ≤ limit → all ≡ n + after → all + (limit - n) ≡ after + limit
count-left limit n all after h e = omega (arith, h, e)

-- a piece within the limit is a line
pub takes-line : (old new : Option (List ℕ)) (limit n : ℕ) (piece line : List ℕ) → length piece ≡ n → n ≢ 0 → n ≤ limit
    → IfSome old (λ xs. piece ≡ take_through 10 xs) → DropsThrough old new 10 → line ≡ strip_last 10 piece
    → (rest : List ℕ) → IsLeft (up_to old limit) rest → TakesLine (up_to old limit) (up_to new (limit - n)) line rest
takes-line old new limit n piece line count some within is drops strips rest known =
    let k : ℕ = limit + 1 in
    let piece-is : piece ≡ take_through 10 (take k rest) = known-at old (λ xs. piece ≡ take_through 10 xs) (take k rest) known is in
    let long : length (take_through 10 (take k rest)) ≡ n = ap length (sym piece-is) ∙ count in
    let below : length (take_through 10 (take k rest)) < k = omega (arith, long, within) in
    let through = through-take k rest below in
    let dropped : new ≡ Some (drop_through 10 (take k rest)) = known-at old (λ xs. new ≡ Some (drop_through 10 xs)) (take k rest) known drops in
    let whole : piece ≡ take_through 10 rest = piece-is ∙ through.taken in
    let after : new ≡ Some (take (limit - n + 1) (drop_through 10 rest)) =
    dropped ∙ ap Some (through.left ∙ ap (λ m. take (k - m) (drop_through 10 rest)) long ∙ ap (λ m. take m (drop_through 10 rest)) (same-limit limit n within)) in
    record {
      some = λ e. some (sym long ∙ none-through k rest e);
      first = strips ∙ ap (strip_last 10) whole;
      left = after;
      count = count-left limit n (length rest) (length (drop_through 10 rest)) within (through-length rest ∙ ap (λ m. m + length (drop_through 10 rest)) (ap length (sym whole) ∙ count));
    }
