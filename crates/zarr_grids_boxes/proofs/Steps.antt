-- From a place of a box to the next.
use Rattle.std.proofs.Common.{◌≡◌, ℕ, zero, suc, ◌+◌, ◌-◌, ◌*◌, ◌<◌, ◌≤◌, true, ◌&&◌, List, [], ◌∷◌, length, get_or, set, drop, refl, sym, ap, ◌∙◌, subst, arith}
use Rattle.std.proofs.Math.Dec.{leb, ltb}
use Rattle.std.proofs.lemmas.List.{drop_all}
use Rattle.std.proofs.lemmas.Bool.{le-leb, lt-ltb, leb-true, ltb-true}
use Rattle.zarr_grids_boxes.specs.Boxes.{product, ravel, each2, is_in_box}
use Rattle.zarr_grids_boxes.proofs.Dimensions.{ravel_below, product-drop}
use Rattle.zarr_grids_boxes.proofs.Places.{both, in_box_below}

-- ---- the numbers of a place of a box
pub in_box_same : (ss es ps : List ℕ) → is_in_box ss es ps ≡ true → (length es ≡ length ss) × (length ps ≡ length ss)
in_box_same [] [] [] h = (refl, refl)
in_box_same [] [] (p ∷ ps) h = absurd (cc)
in_box_same [] (e ∷ es) ps h = absurd (cc)
in_box_same (s ∷ ss) [] ps h = absurd (cc)
in_box_same (s ∷ ss) (e ∷ es) [] h = absurd (cc)
in_box_same (s ∷ ss) (e ∷ es) (p ∷ ps) h = let r = in_box_same ss es ps (both _ _ h).1 in (ap (λ n. suc n) r.0, ap (λ n. suc n) r.1)

pub in_box_at : (ss es ps : List ℕ) (k : ℕ) → is_in_box ss es ps ≡ true → k < length ss → (get_or ss k 0 ≤ get_or ps k 0) × (get_or ps k 0 < get_or ss k 0 + get_or es k 0)
in_box_at [] es ps k h l = absurd (omega arith)
in_box_at (s ∷ ss) [] ps k h l = absurd (cc)
in_box_at (s ∷ ss) (e ∷ es) [] k h l = absurd (cc)
in_box_at (s ∷ ss) (e ∷ es) (p ∷ ps) zero h l = let q = both _ _ (both _ _ h).0 in (leb-true s p q.0, ltb-true p (s + e) q.1)
in_box_at (s ∷ ss) (e ∷ es) (p ∷ ps) (suc k) h l = in_box_at ss es ps k (both _ _ h).1 (omega arith)

pub in_box-set : (ss es ps : List ℕ) (k v : ℕ) → is_in_box ss es ps ≡ true → get_or ss k 0 ≤ v → v < get_or ss k 0 + get_or es k 0 → is_in_box ss es (set ps k v) ≡ true
in_box-set [] [] [] k v h a b = refl
in_box-set [] [] (p ∷ ps) k v h a b = absurd (cc)
in_box-set [] (e ∷ es) ps k v h a b = absurd (cc)
in_box-set (s ∷ ss) [] ps k v h a b = absurd (cc)
in_box-set (s ∷ ss) (e ∷ es) [] k v h a b = absurd (cc)
in_box-set (s ∷ ss) (e ∷ es) (p ∷ ps) zero v h a b = let r = both (leb s p && ltb p (s + e)) (is_in_box ss es ps) h in rw (le-leb s v a, lt-ltb v (s + e) b) r.1
in_box-set (s ∷ ss) (e ∷ es) (p ∷ ps) (suc k) v h a b = let r = both (leb s p && ltb p (s + e)) (is_in_box ss es ps) h in let q = both (leb s p) (ltb p (s + e)) r.0 in rw (q.0, q.1) (in_box-set ss es ps k v r.1 a b)

-- ---- the number of a place after one of its numbers was replaced
pub number-set : (ss es ps : List ℕ) (k v : ℕ) → length es ≡ length ss → length ps ≡ length ss → k < length ss →
    ravel (each2 (λ p s. p - s) (set ps k v) ss) es + (get_or ps k 0 - get_or ss k 0) * product (drop (suc k) es) ≡ ravel (each2 (λ p s. p - s) ps ss) es + (v - get_or ss k 0) * product (drop (suc k) es)
number-set [] es ps k v l m h = absurd (omega arith)
number-set (s ∷ ss) [] ps k v l m h = absurd (omega arith)
number-set (s ∷ ss) (e ∷ es) [] k v l m h = absurd (omega arith)
number-set (s ∷ ss) (e ∷ es) (p ∷ ps) zero v l m h = exchange (p - s) (v - s) (product es) (ravel (each2 (λ p s. p - s) ps ss) es) where
  exchange : (a b p r : ℕ) → (b * p + r) + a * p ≡ (a * p + r) + b * p
  exchange a b p r = omega arith
number-set (s ∷ ss) (e ∷ es) (p ∷ ps) (suc k) v l m h = behind ((p - s) * product es) _ _ _ _ (number-set ss es ps k v (omega arith) (omega arith) (omega arith)) where
  behind : (a x y z w : ℕ) → x + y ≡ z + w → (a + x) + y ≡ (a + z) + w
  behind a x y z w h = omega arith

pub number-set_at : (ss es ps : List ℕ) (k v : ℕ) → length es ≡ length ss → length ps ≡ length ss → k < length ss →
    ravel (each2 (λ p s. p - s) (set ps k v) ss) es + (get_or ps k 0 - get_or ss k 0) * product (drop (k + 1) es) ≡ ravel (each2 (λ p s. p - s) ps ss) es + (v - get_or ss k 0) * product (drop (k + 1) es)
number-set_at ss es ps k v l m h =
    let q : suc k ≡ k + 1 = omega arith in
    let P : ℕ → Type 0 = λ n. ravel (each2 (λ p s. p - s) (set ps k v) ss) es + (get_or ps k 0 - get_or ss k 0) * product (drop n es) ≡ ravel (each2 (λ p s. p - s) ps ss) es + (v - get_or ss k 0) * product (drop n es) in
    subst P q (number-set ss es ps k v l m h)

-- a number raised by one: the place is the next of those that agree from there on
raised_by : (x y a b p : ℕ) → b ≡ a + 1 → x + a * p ≡ y + b * p → x ≡ y + p
raised_by x y a b p e h =
    let m : (a + 1) * p ≡ a * p + p = grind arith in
    let n : b * p ≡ (a + 1) * p = ap (λ z. z * p) e in
    omega arith

pub raised : (ss es ps : List ℕ) (k : ℕ) → length es ≡ length ss → length ps ≡ length ss → k < length ss → get_or ss k 0 ≤ get_or ps k 0 →
    ravel (each2 (λ p s. p - s) (set ps k (get_or ps k 0 + 1)) ss) es ≡ ravel (each2 (λ p s. p - s) ps ss) es + product (drop (k + 1) es)
raised ss es ps k l m h a =
    raised_by _ _ (get_or ps k 0 - get_or ss k 0) (get_or ps k 0 + 1 - get_or ss k 0) _ (omega arith) (number-set_at ss es ps k (get_or ps k 0 + 1) l m h)

-- the last number put back to the first: what stands in front is to be raised
put_by : (x y a b e p q total : ℕ) → b ≡ 0 → x + a * p ≡ y + b * p → a + 1 ≡ e → q ≡ e * p → y + p ≡ total → x + q ≡ total
put_by x y a b e p q total z h c d t =
    let m : (a + 1) * p ≡ a * p + p = grind arith in
    let n : e * p ≡ (a + 1) * p = ap (λ w. w * p) (sym c) in
    let o : b * p ≡ 0 * p = ap (λ w. w * p) z in
    let r : 0 * p ≡ 0 = omega arith in
    omega arith

pub put_back : (ss es ps : List ℕ) (k total : ℕ) → length es ≡ length ss → length ps ≡ length ss → k < length ss → get_or ps k 0 - get_or ss k 0 + 1 ≡ get_or es k 0 →
    ravel (each2 (λ p s. p - s) ps ss) es + product (drop (k + 1) es) ≡ total →
    ravel (each2 (λ p s. p - s) (set ps k (get_or ss k 0)) ss) es + product (drop k es) ≡ total
put_back ss es ps k total l m h a t =
    put_by _ _ (get_or ps k 0 - get_or ss k 0) (get_or ss k 0 - get_or ss k 0) (get_or es k 0) _ _ total (omega arith) (number-set_at ss es ps k (get_or ss k 0) l m h) a (product-drop es k (omega arith)) t

pub number_in_grid : (ss es ps : List ℕ) → is_in_box ss es ps ≡ true → ravel (each2 (λ p s. p - s) ps ss) es < product es
number_in_grid ss es ps h = ravel_below _ es (in_box_below ss es ps h)

-- ---- one turn of the loop from the last dimension to the first, of which `k` are left
pub record Along (ss es ps : List ℕ) (k : ℕ) : Type 0 where
  pub in_start : k < length ss
  pub in_shape : k < length es
  pub in_place : k < length ps
  pub from : get_or ss k 0 ≤ get_or ps k 0
  pub below : get_or ps k 0 < get_or ss k 0 + get_or es k 0

pub along : (ss es ps : List ℕ) (k : ℕ) → is_in_box ss es ps ≡ true → k < length ss → Along ss es ps k
along ss es ps k h l =
    let s = in_box_same ss es ps h in
    let a = in_box_at ss es ps k h l in
    let b = s.0 in
    let c = s.1 in
    record { in_start = l; in_shape = omega arith; in_place = omega arith; from = a.0; below = a.1 }

pub raised_here : (ss es ps : List ℕ) (j k v total : ℕ) → is_in_box ss es ps ≡ true → j < length ss → k ≡ j + 1 → v ≡ get_or ps j 0 →
    ravel (each2 (λ p s. p - s) ps ss) es + product (drop k es) ≡ total → ravel (each2 (λ p s. p - s) (set ps j (v + 1)) ss) es ≡ total
raised_here ss es ps j k v total h l e w t =
    let s = in_box_same ss es ps h in
    rw w (raised ss es ps j s.0 s.1 l (along ss es ps j h l).from ∙ (rw e at t))

pub back_here : (ss es ps : List ℕ) (j k total : ℕ) → is_in_box ss es ps ≡ true → j < length ss → k ≡ j + 1 → get_or ps j 0 - get_or ss j 0 + 1 ≡ get_or es j 0 →
    ravel (each2 (λ p s. p - s) ps ss) es + product (drop k es) ≡ total → ravel (each2 (λ p s. p - s) (set ps j (get_or ss j 0)) ss) es + product (drop j es) ≡ total
back_here ss es ps j k total h l e a t =
    let s = in_box_same ss es ps h in
    put_back ss es ps j total s.0 s.1 l a (rw e at t)

pub all_back : (ss es ps : List ℕ) (k x : ℕ) → is_in_box ss es ps ≡ true → k ≡ 0 → x + product (drop k es) ≡ ravel (each2 (λ p s. p - s) ps ss) es + 1 → ravel (each2 (λ p s. p - s) ps ss) es + 1 ≡ product es
all_back ss es ps k x h e t =
    let b = number_in_grid ss es ps h in
    let t' = rw e at t in omega arith

pub product-past : (es : List ℕ) (n : ℕ) → length es ≤ n → product (drop n es) ≡ 1
product-past es n h = ap product (drop_all n es h)
