-- Running sums.
use Rattle.std.proofs.Common.{◌≡◌, ℕ, zero, suc, ◌+◌, ◌≤◌, ◌<◌, List, [], ◌∷◌, ◌++◌, length, get_or, map, take, drop, append_assoc, ⊎_elim, refl, ap, sym, ◌∙◌, arith}
use Rattle.std.specs.Prelude.{sum}
use Rattle.std.specs.List.Sorted.{IsNonDecreasing}
use Rattle.std.proofs.lemmas.Bool.{cases_lt}
use Rattle.std.proofs.lemmas.List.{drop_more, drop_all}
use Rattle.std.proofs.lemmas.List.Sums.{sum_by-cons}
use Rattle.zarr_grids_dimensions.specs.RepeatedEdges.{running}

pub sum-cons : (x : ℕ) (xs : List ℕ) → sum (x ∷ xs) ≡ x + sum xs
sum-cons x xs = sum_by-cons (λ (n : ℕ). n) x xs

pub length-running : (n : ℕ) (xs : List ℕ) → length (running n xs) ≡ length xs + 1
length-running n [] = refl
length-running n (x ∷ xs) = let i = length-running (n + x) xs in omega arith

-- each is the sum of the numbers before it
pub running-at : (n : ℕ) (xs : List ℕ) (j d : ℕ) → j ≤ length xs → get_or (running n xs) j d ≡ n + sum (take j xs)
running-at n [] zero d h = let g : n ≡ n + 0 = omega arith in g
running-at n [] (suc j) d h = absurd (omega arith)
running-at n (x ∷ xs) zero d h = let g : n ≡ n + 0 = omega arith in g
running-at n (x ∷ xs) (suc j) d h =
    let i = running-at (n + x) xs j d (omega arith) in
    let s = sum-cons x (take j xs) in
    let g : get_or (running (n + x) xs) j d ≡ n + sum (x ∷ take j xs) = omega arith in g

-- what comes up to a number and with it is no more than what comes before a later one
pub sum-later : (xs : List ℕ) (k m : ℕ) → k < m → k < length xs → sum (take k xs) + get_or xs k 0 ≤ sum (take m xs)
sum-later [] k m h l = absurd (omega arith)
sum-later (x ∷ xs) k zero h l = absurd (omega arith)
sum-later (x ∷ xs) zero (suc m) h l =
    let s = sum-cons x (take m xs) in
    let g : 0 + x ≤ sum (x ∷ take m xs) = omega arith in g
sum-later (x ∷ xs) (suc k) (suc m) h l =
    let i = sum-later xs k m (omega arith) (omega arith) in
    let s = sum-cons x (take k xs) in
    let t = sum-cons x (take m xs) in
    let g : sum (x ∷ take k xs) + get_or xs k 0 ≤ sum (x ∷ take m xs) = omega arith in g

pub sum-earlier : (xs : List ℕ) (k m : ℕ) → k ≤ m → m ≤ length xs → sum (take k xs) ≤ sum (take m xs)
sum-earlier xs k m h l = ⊎_elim
    (λ less. let s = sum-later xs k m less (omega arith) in omega arith)
    (λ more. let q : k ≡ m = omega arith in omega (arith, ap (λ (n : ℕ). sum (take n xs)) q))
    (cases_lt k m)

pub IsNonDecreasing-running : (n : ℕ) (xs : List ℕ) → IsNonDecreasing (running n xs)
IsNonDecreasing-running n xs i j d le lt =
    let l = length-running n xs in
    let a = running-at n xs i d (omega arith) in
    let b = running-at n xs j d (omega arith) in
    let s = sum-earlier xs i j le (omega arith) in
    omega arith

-- ---- running sums pushed one by one

pub running-step : {A : Type 0} (g : A → ℕ) (all : List A) (i : ℕ) (d : A) (next : ℕ) (before now : List ℕ) → i < length all → now ≡ before ++ next ∷ [] → running 0 (map g all) ≡ before ++ running next (map g (drop i all))
    → running 0 (map g all) ≡ now ++ running (next + g (get_or all i d)) (map g (drop (i + 1) all))
running-step g all i d next before now h grew so_far =
    let rest = running (next + g (get_or all i d)) (map g (drop (i + 1) all)) in
    so_far ∙ (ap (λ xs. before ++ running next (map g xs)) (drop_more all i d h) ∙ (sym (append_assoc before (next ∷ []) rest) ∙ ap (λ ns. ns ++ rest) (sym grew)))

pub running-end : {A : Type 0} (g : A → ℕ) (all : List A) (i next : ℕ) (before now : List ℕ) → length all ≤ i → now ≡ before ++ next ∷ [] → running 0 (map g all) ≡ before ++ running next (map g (drop i all)) → now ≡ running 0 (map g all)
running-end g all i next before now h grew so_far = grew ∙ sym (so_far ∙ ap (λ xs. before ++ running next (map g xs)) (drop_all i all h))

pub sum-step : {A : Type 0} (g : A → ℕ) (all : List A) (i : ℕ) (d : A) → i < length all → sum (map g (drop i all)) ≡ g (get_or all i d) + sum (map g (drop (i + 1) all))
sum-step g all i d h = ap (λ xs. sum (map g xs)) (drop_more all i d h) ∙ sum-cons (g (get_or all i d)) (map g (drop (i + 1) all))
