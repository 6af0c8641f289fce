-- What a walk over the dimensions of two boxes writes of their overlap.
use Rattle.std.proofs.Common.{◌≡◌, ◌∙◌, ℕ, ◌+◌, ◌-◌, ◌<◌, ◌^◌, max, min, List, [], ◌∷◌, ◌++◌, length, get_or, drop, ap, sym, refl, zero, suc, append_assoc, arith}
use Rattle.std.proofs.lemmas.List.{drop_more}
use Rattle.zarr_grids_boxes.specs.Boxes.{each2}

-- where the overlap of what is left of two boxes starts, and how long it is
abbrev pub start_left : List ℕ → List ℕ → List ℕ
start_left ss ts = each2 max ss ts

abbrev pub shape_left : List ℕ → List ℕ → List ℕ → List ℕ → List ℕ
shape_left ss xs ts us = each2 (λ s e. e - s) (each2 max ss ts) (each2 min (each2 (λ s e. s + e) ss xs) (each2 (λ s e. s + e) ts us))

at_one : (xs : List ℕ) (k x : ℕ) → k < length xs → x ≡ get_or xs k x → drop k xs ≡ x ∷ drop (k + 1) xs
at_one xs k x low e = drop_more xs k x low ∙ ap (λ n. n ∷ drop (k + 1) xs) (sym e)

-- one dimension on
pub start_next : (ss ts made whole : List ℕ) (k s t v : ℕ) → k < length ss → k < length ts → s ≡ get_or ss k s → t ≡ get_or ts k t → v ≡ max s t
    → whole ≡ made ++ start_left (drop k ss) (drop k ts) → whole ≡ (made ++ v ∷ []) ++ start_left (drop (k + 1) ss) (drop (k + 1) ts)
start_next ss ts made whole k s t v a b es et e h =
    let rest = start_left (drop (k + 1) ss) (drop (k + 1) ts) in
    h ∙ ap (λ l. made ++ start_left l (drop k ts)) (at_one ss k s a es) ∙ ap (λ l. made ++ start_left (s ∷ drop (k + 1) ss) l) (at_one ts k t b et)
    ∙ ap (λ n. made ++ n ∷ rest) (sym e) ∙ sym (append_assoc made (v ∷ []) rest)

pub shape_next : (ss xs ts us made whole : List ℕ) (k s x t u v : ℕ) → k < length ss → k < length xs → k < length ts → k < length us → s ≡ get_or ss k s → x ≡ get_or xs k x → t ≡ get_or ts k t → u ≡ get_or us k u
    → v ≡ min (s + x) (t + u) - max s t
    → whole ≡ made ++ shape_left (drop k ss) (drop k xs) (drop k ts) (drop k us) → whole ≡ (made ++ v ∷ []) ++ shape_left (drop (k + 1) ss) (drop (k + 1) xs) (drop (k + 1) ts) (drop (k + 1) us)
shape_next ss xs ts us made whole k s x t u v a b c d es ex et eu e h =
    let rest = shape_left (drop (k + 1) ss) (drop (k + 1) xs) (drop (k + 1) ts) (drop (k + 1) us) in
    h ∙ ap (λ l. made ++ shape_left l (drop k xs) (drop k ts) (drop k us)) (at_one ss k s a es)
    ∙ ap (λ l. made ++ shape_left (s ∷ drop (k + 1) ss) l (drop k ts) (drop k us)) (at_one xs k x b ex)
    ∙ ap (λ l. made ++ shape_left (s ∷ drop (k + 1) ss) (x ∷ drop (k + 1) xs) l (drop k us)) (at_one ts k t c et)
    ∙ ap (λ l. made ++ shape_left (s ∷ drop (k + 1) ss) (x ∷ drop (k + 1) xs) (t ∷ drop (k + 1) ts) l) (at_one us k u d eu)
    ∙ ap (λ n. made ++ n ∷ rest) (sym e) ∙ sym (append_assoc made (v ∷ []) rest)

-- each end still fits 64 bits
pub fit_next : (ss es : List ℕ) (k s e : ℕ) → length ss ≡ k → length es ≡ k → ((j : ℕ) → j < k → get_or ss j 0 + get_or es j 0 < 2 ^ 64) → s + e < 2 ^ 64
    → (j : ℕ) → j < k + 1 → get_or (ss ++ s ∷ []) j 0 + get_or (es ++ e ∷ []) j 0 < 2 ^ 64
fit_next [] [] k s e a b h f zero low = f
fit_next [] [] k s e a b h f (suc j) low = absurd (omega (arith, a, low))
fit_next [] (x ∷ es) k s e a b h f j low = absurd (omega (arith, a, b))
fit_next (x ∷ ss) [] k s e a b h f j low = absurd (omega (arith, a, b))
fit_next (x ∷ ss) (y ∷ es) k s e a b h f zero low = h zero (omega (arith, a))
fit_next (x ∷ ss) (y ∷ es) k s e a b h f (suc j) low = fit_next ss es (length ss) s e refl (omega (arith, a, b)) (λ i less. h (suc i) (omega (arith, a, less))) f j (omega (arith, a, low))
