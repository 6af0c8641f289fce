-- Lines one by one.
use Rattle.std.proofs.Common.{◌≡◌, ◌≢◌, ℕ, suc, ◌-◌, ◌==◌, nat_lt, List, [], ◌∷◌, ◌++◌, length, Bool, true, false, cond, refl, sym, ap, ◌∙◌, subst, arith, append_assoc}
use Rattle.std.specs.Io.BufRead.{take_through, drop_through, first_piece, strip_last}
use Rattle.zarr_run_meaning.specs.Worlds.{World}
use Rattle.zarr_run_lines.specs.Lines.{lines_of, onto_first, Setting, LineStep, RunsLines}

onto_cond : (b : Bool) (x : ℕ) (p q : List ℕ) → cond b (x ∷ p) (x ∷ q) ≡ x ∷ cond b p q
onto_cond true x p q = refl
onto_cond false x p q = refl

positive : (n : ℕ) → nat_lt 0 (suc n) ≡ true
positive n = grind arith

less_one : (n : ℕ) → suc n - 1 ≡ n
less_one n = omega arith

-- a byte before a piece that has one
onto_strip : (x y : ℕ) (ys : List ℕ) → strip_last 10 (x ∷ y ∷ ys) ≡ x ∷ strip_last 10 (y ∷ ys)
onto_strip x y ys = rw (positive (suc (length ys)), positive (length ys), less_one (suc (length ys)), less_one (length ys)) (onto_cond _ x _ _)

-- a list through the first line feed is not empty
onto_through : (b : Bool) (x y : ℕ) (ys : List ℕ) → x ∷ strip_last 10 (cond b (y ∷ []) (y ∷ ys)) ≡ strip_last 10 (x ∷ cond b (y ∷ []) (y ∷ ys))
onto_through true x y ys = sym (onto_strip x y [])
onto_through false x y ys = sym (onto_strip x y ys)

alone : (x : ℕ) (b : Bool) → (x == 10) ≡ b → strip_last 10 (x ∷ []) ≡ cond b [] (x ∷ [])
alone x true e = rw e refl
alone x false e = rw e refl

first_at : (b : Bool) (x : ℕ) (xs : List ℕ) → (x == 10) ≡ b → (xs ≢ [] → lines_of xs ≡ first_piece 10 xs ∷ lines_of (drop_through 10 xs))
    → cond b ([] ∷ lines_of xs) (onto_first x (lines_of xs)) ≡ strip_last 10 (cond b (x ∷ []) (x ∷ take_through 10 xs)) ∷ lines_of (cond b xs (drop_through 10 xs))
first_at true x xs e h = ap (λ l. l ∷ lines_of xs) (sym (alone x true e))
first_at false x [] e h = ap (λ l. l ∷ []) (sym (alone x false e))
first_at false x (y ∷ ys) e h = ap (onto_first x) (h (λ n. absurd (cc n))) ∙ ap (λ l. l ∷ lines_of (drop_through 10 (y ∷ ys))) (onto_through (y == 10) x y (take_through 10 ys))

-- the first line, and the lines after it
pub lines_of-first : (xs : List ℕ) → xs ≢ [] → lines_of xs ≡ first_piece 10 xs ∷ lines_of (drop_through 10 xs)
lines_of-first [] some = absurd (some refl)
lines_of-first (x ∷ xs) some = first_at (x == 10) x xs refl (lines_of-first xs)

shape : (text rest more : List ℕ) → (text ++ 10 ∷ rest) ++ more ≡ text ++ 10 ∷ (rest ++ more)
shape text rest more = append_assoc text (10 ∷ rest) more

-- one more line
pub runs-more : (setting : Setting) (done : List (List ℕ)) (old mid new : World) (out line text : List ℕ) → RunsLines setting done old mid out → LineStep setting mid line text new
    → RunsLines setting (done ++ line ∷ []) old new (out ++ (text ++ 10 ∷ []))
runs-more setting [] old mid new out line text ran step = (text, [], new, subst (λ w. LineStep setting w line text new) ran.0 step, (refl, refl), ap (λ o. o ++ (text ++ 10 ∷ [])) ran.1)
runs-more setting (l ∷ done) old mid new out line text (first, rest, w, one, more, is) step =
    (first, rest ++ (text ++ 10 ∷ []), w, one, runs-more setting done w mid new rest line text more step, ap (λ o. o ++ (text ++ 10 ∷ [])) is ∙ shape first rest (text ++ 10 ∷ []))
