-- One dimension more, in a loop over the dimensions.
use Rattle.std.proofs.Common.{◌≡◌, ℕ, zero, suc, ◌+◌, ◌*◌, ◌/◌, ◌%◌, ◌^◌, ◌<◌, ◌≤◌, List, [], ◌∷◌, ◌++◌, length, get_or, take, drop, set, refl, sym, ap, ◌∙◌, arith}
use Rattle.std.proofs.lemmas.List.{drop_more}
use Rattle.std.proofs.lemmas.Grind.{common_steps}
use Rattle.std.proofs.Math.Nat.{mul-div_cancel_left, mul-pos, mul_comm, mul_assoc, le-mul_of_pos_right}
use Rattle.std.proofs.lemmas.Nat.{div_below, mul-add-lt}
use Rattle.zarr_grids_boxes.specs.Boxes.{product, place_at, ravel, IsIndex}

pub product-drop : (es : List ℕ) (k : ℕ) → k < length es → product (drop k es) ≡ get_or es k 0 * product (drop (k + 1) es)
product-drop es k h = rw (drop_more es k 0) refl

pub place_at-drop : (ss es : List ℕ) (k r : ℕ) → k < length ss → k < length es → place_at (drop k ss) (drop k es) r ≡ (get_or ss k 0 + r / product (drop (k + 1) es)) ∷ place_at (drop (k + 1) ss) (drop (k + 1) es) (r % product (drop (k + 1) es))
place_at-drop ss es k r h l = rw (drop_more ss k 0, drop_more es k 0) refl

-- a product that is not 0 has no 0
pub positive-drop : (es : List ℕ) (k : ℕ) → k < length es → 0 < product (drop k es) → (0 < get_or es k 0) × (0 < product (drop (k + 1) es))
positive-drop es k h p = let e = product-drop es k h in (grind arith, grind arith)

pub positive_at : (es : List ℕ) (k : ℕ) → k < length es → 0 < product es → 0 < get_or es k 0
positive_at [] k h p = absurd (omega arith)
positive_at (e ∷ es) zero h p = grind arith
positive_at (e ∷ es) (suc k) h p = positive_at es k (omega arith) (grind arith)

-- a list written from the front, one more
pub written_more : (all done todo : List ℕ) (x : ℕ) (k : ℕ) → k < length done → all ≡ take k done ++ x ∷ todo → all ≡ take (k + 1) (set done k x) ++ todo
written_more all done todo x k h e = grind (arith, common_steps)

pub written_all : (all done todo : List ℕ) (k : ℕ) → length done ≤ k → todo ≡ [] → all ≡ take k done ++ todo → all ≡ done
written_all all done todo k h e w = grind (arith, common_steps)

pub product_zero_at : (es : List ℕ) (k : ℕ) → k < length es → get_or es k 0 ≡ 0 → product es ≡ 0
product_zero_at [] k h z = absurd (omega arith)
product_zero_at (e ∷ es) zero h z = grind arith
product_zero_at (e ∷ es) (suc k) h z = let i = product_zero_at es k (omega arith) z in rw i (grind arith)

pub positive_from_all : (es : List ℕ) → ((k : ℕ) → k < length es → 0 < get_or es k 0) → 0 < product es
positive_from_all [] h = omega arith
positive_from_all (e ∷ es) h = mul-pos (h 0 (omega arith)) (positive_from_all es (λ k l. h (suc k) (omega arith)))

pub positive-drop_all : (es : List ℕ) (k : ℕ) → k ≤ length es → 0 < product es → 0 < product (drop k es)
positive-drop_all es zero l p = p
positive-drop_all [] (suc k) l p = absurd (omega arith)
positive-drop_all (e ∷ es) (suc k) l p = positive-drop_all es k (omega arith) (positive-drop (e ∷ es) 0 (omega arith) p).1

pub IsIndex-tail : (i e : ℕ) (is es : List ℕ) → IsIndex (i ∷ is) (e ∷ es) → IsIndex is es
IsIndex-tail i e is es b = record { same = let h = b.same in omega arith; below = λ k l. b.below (suc k) (omega arith) }

pub IsIndex-drop : (is es : List ℕ) (k : ℕ) → IsIndex is es → IsIndex (drop k is) (drop k es)
IsIndex-drop is es zero b = b
IsIndex-drop [] [] (suc k) b = b
IsIndex-drop [] (e ∷ es) (suc k) b = let h = b.same in absurd (omega arith)
IsIndex-drop (i ∷ is) [] (suc k) b = let h = b.same in absurd (omega arith)
IsIndex-drop (i ∷ is) (e ∷ es) (suc k) b = IsIndex-drop is es k (IsIndex-tail i e is es b)

-- the number of an index is below the number of places
pub ravel_below : (is es : List ℕ) → IsIndex is es → ravel is es < product es
ravel_below [] [] b = omega arith
ravel_below [] (e ∷ es) b = let h = b.same in absurd (omega arith)
ravel_below (i ∷ is) [] b = let h = b.same in absurd (omega arith)
ravel_below (i ∷ is) (e ∷ es) b =
    let h = ravel_below is es (IsIndex-tail i e is es b) in
    let l : i < e = b.below 0 (omega arith) in
    let m = mul-add-lt i (product es) (ravel is es) e l h in
    let t = mul_comm (product es) e in
    omega arith

-- a product that has grown too large stays too large
pub too_large : (es : List ℕ) (k count : ℕ) → k < length es → 0 < product es → count * product (drop k es) ≡ product es → 2 ^ 63 ≤ count * get_or es k 0 → product es < 2 ^ 63 → ⊥
too_large es k count h pos e big small =
    let q : 0 < product (drop k es) = positive-drop_all es k (omega arith) pos in
    let p = (positive-drop es k h q).1 in
    let d = product-drop es k h in
    let m = le-mul_of_pos_right (count * get_or es k 0) p in
    let a = mul_assoc count (get_or es k 0) (product (drop (k + 1) es)) in
    let f : count * product (drop k es) ≡ count * (get_or es k 0 * product (drop (k + 1) es)) = ap (λ x. count * x) d in
    omega arith

pub so_far_more : (es : List ℕ) (k count : ℕ) → k < length es → count * product (drop k es) ≡ product es → (count * get_or es k 0) * product (drop (k + 1) es) ≡ product es
so_far_more es k count h e = mul_assoc count (get_or es k 0) (product (drop (k + 1) es)) ∙ ap (λ x. count * x) (sym (product-drop es k h)) ∙ e

-- one dimension of a place by number
pub inner_more : (es : List ℕ) (k inner : ℕ) → k < length es → 0 < product (drop k es) → inner ≡ product (drop k es) → inner / get_or es k 0 ≡ product (drop (k + 1) es)
inner_more es k inner h p e = rw (e, product-drop es k h) (mul-div_cancel_left (product (drop (k + 1) es)) (positive-drop es k h p).0)

pub digit_below : (es : List ℕ) (k r : ℕ) → k < length es → r < product (drop k es) → r / product (drop (k + 1) es) < get_or es k 0
digit_below es k r h l = let p : 0 < product (drop k es) = omega arith in div_below r (product (drop (k + 1) es)) (get_or es k 0) (positive-drop es k h p).1 (rw (product-drop es k h) at l)
