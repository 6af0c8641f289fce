-- Numbers of indices, one dimension after another.
use Rattle.std.proofs.Common.{◌≡◌, ℕ, zero, suc, ◌+◌, ◌*◌, ◌/◌, ◌%◌, ◌<◌, List, [], ◌∷◌, length, get_or, set, drop, refl, sym, ap, ◌∙◌, add-one, arith}
use Rattle.std.proofs.Math.Arith.{mod-mul}
use Rattle.std.proofs.Math.Nat.{mul_comm, div-div-eq-div-mul, le-mul_of_pos_right}
use Rattle.std.proofs.lemmas.List.{drop_more}
use Rattle.std.proofs.lemmas.Nat.{mod_below, div_below, div-mul-add, mod-mul-add, div-add-mod'}
use Rattle.zarr_grids_boxes.specs.Boxes.{product, ravel, IsIndex}
use Rattle.zarr_grids_boxes.specs.Walks.{unravel}
use Rattle.zarr_grids_boxes.proofs.Dimensions.{product-drop, positive-drop, positive-drop_all, IsIndex-tail, ravel_below}
use Rattle.zarr_grids_boxes.proofs.Places.{IsIndex-cons, IsIndex-nil}

-- ---- a number written from the front
pub one_digit_more : (number e p i tail total : ℕ) → number * (e * p) + (i * p + tail) ≡ total → (number * e + i) * p + tail ≡ total
one_digit_more number e p i tail total h = grind arith

-- what stands in front is no more than the number
pub front_below : (front p tail total bound : ℕ) → 0 < p → front * p + tail ≡ total → total < bound → front < bound
front_below front p tail total bound q e h = let m = le-mul_of_pos_right front q in omega arith

pub ravel-drop : (is es : List ℕ) (k : ℕ) → k < length is → k < length es → ravel (drop k is) (drop k es) ≡ get_or is k 0 * product (drop (k + 1) es) + ravel (drop (k + 1) is) (drop (k + 1) es)
ravel-drop is es k a b = rw (drop_more is k 0, drop_more es k 0) refl

pub ravel_more : (is es : List ℕ) (k number total : ℕ) → k < length is → k < length es → number * product (drop k es) + ravel (drop k is) (drop k es) ≡ total → (number * get_or es k 0 + get_or is k 0) * product (drop (k + 1) es) + ravel (drop (k + 1) is) (drop (k + 1) es) ≡ total
ravel_more is es k number total a b h = one_digit_more number (get_or es k 0) (product (drop (k + 1) es)) (get_or is k 0) (ravel (drop (k + 1) is) (drop (k + 1) es)) total (rw (product-drop es k b, ravel-drop is es k a b) at h)

-- an index makes each edge positive
pub index_positive : (is es : List ℕ) → IsIndex is es → 0 < product es
index_positive is es b = let h = ravel_below is es b in omega arith

-- ---- an index written from the back
pub unravel_more : (es : List ℕ) (n k : ℕ) → k < length es → 0 < product es → unravel (drop k es) (n % product (drop k es)) ≡ (n / product (drop (k + 1) es) % get_or es k 0) ∷ unravel (drop (k + 1) es) (n % product (drop (k + 1) es))
unravel_more es n k h p =
    let t = positive-drop es k h (positive-drop_all es k (omega arith) p) in
    rw (drop_more es k 0) (split (get_or es k 0) (drop (k + 1) es) t.0 t.1) where
      split : (e : ℕ) (rest : List ℕ) → 0 < e → 0 < product rest → unravel (e ∷ rest) (n % (e * product rest)) ≡ (n / product rest % e) ∷ unravel rest (n % product rest)
      split e rest q r =
          let b = mod_below n (product rest) r in
          rw (mod-mul n q r, div-mul-add (n / product rest % e) (product rest) (n % product rest) b, mod-mul-add (n / product rest % e) (product rest) (n % product rest) b) refl

pub rest_more : (es : List ℕ) (n k : ℕ) → k < length es → n / product (drop (k + 1) es) / get_or es k 0 ≡ n / product (drop k es)
rest_more es n k h = div-div-eq-div-mul n (product (drop (k + 1) es)) (get_or es k 0) ∙ ap (λ m. n / m) (mul_comm (product (drop (k + 1) es)) (get_or es k 0) ∙ sym (product-drop es k h))

-- ---- ravel and unravel undo each other
pub unravel-index : (es : List ℕ) (n : ℕ) → n < product es → IsIndex (unravel es n) es
unravel-index [] n h = IsIndex-nil
unravel-index (e ∷ es) n h =
    let p : 0 < product (e ∷ es) = omega arith in
    let t = positive-drop (e ∷ es) 0 (omega arith) p in
    IsIndex-cons (n / product es) e (unravel es (n % product es)) es (div_below n (product es) e t.1 h) (unravel-index es (n % product es) (mod_below n (product es) t.1))

pub ravel-unravel : (es : List ℕ) (n : ℕ) → n < product es → ravel (unravel es n) es ≡ n
ravel-unravel [] n h = omega arith
ravel-unravel (e ∷ es) n h =
    let p : 0 < product (e ∷ es) = omega arith in
    let t = positive-drop (e ∷ es) 0 (omega arith) p in
    rw (ravel-unravel es (n % product es) (mod_below n (product es) t.1)) (div-add-mod' n (product es))

pub unravel-ravel : (is es : List ℕ) → IsIndex is es → unravel es (ravel is es) ≡ is
unravel-ravel [] [] b = refl
unravel-ravel [] (e ∷ es) b = let h = b.same in absurd (omega arith)
unravel-ravel (i ∷ is) [] b = let h = b.same in absurd (omega arith)
unravel-ravel (i ∷ is) (e ∷ es) b =
    let t = IsIndex-tail i e is es b in
    let r = ravel_below is es t in
    rw (div-mul-add i (product es) (ravel is es) r, mod-mul-add i (product es) (ravel is es) r, unravel-ravel is es t) refl

-- ---- one turn of the loop that writes an index from the back
drop-set : (xs : List ℕ) (k v : ℕ) → k < length xs → drop k (set xs k v) ≡ v ∷ drop (suc k) xs
drop-set [] k v h = absurd (omega arith)
drop-set (x ∷ xs) zero v h = refl
drop-set (x ∷ xs) (suc k) v h = drop-set xs k v (omega arith)

pub unravel_back : (es xs : List ℕ) (n rest j k : ℕ) → k ≡ j + 1 → j < length es → j < length xs → 0 < product es → rest ≡ n / product (drop k es) → drop k xs ≡ unravel (drop k es) (n % product (drop k es)) → drop j (set xs j (rest % get_or es j 0)) ≡ unravel (drop j es) (n % product (drop j es))
unravel_back es xs n rest j k e a b p r w =
    let r' = rw e at r in
    let w' = rw e at w in
    let d : drop (suc j) xs ≡ drop (j + 1) xs = rw (← add-one) refl in
    drop-set xs j (rest % get_or es j 0) b ∙ ap (λ ys. rest % get_or es j 0 ∷ ys) (d ∙ w') ∙ ap (λ m. m % get_or es j 0 ∷ unravel (drop (j + 1) es) (n % product (drop (j + 1) es))) r' ∙ sym (unravel_more es n j a p)

pub rest_back : (es : List ℕ) (n rest j k : ℕ) → k ≡ j + 1 → j < length es → rest ≡ n / product (drop k es) → rest / get_or es j 0 ≡ n / product (drop j es)
rest_back es n rest j k e a r = let r' = rw e at r in ap (λ m. m / get_or es j 0) r' ∙ rest_more es n j a
