-- A test that goes by dimensions keeps of a listing the listing of what it keeps in each dimension.
use Rattle.std.proofs.Common.{◌≡◌, ◌∙◌, ℕ, zero, suc, ◌+◌, ◌<◌, ◌≤◌, Bool, true, false, cond, ◌&&◌, ◌||◌, List, [], ◌∷◌, ◌++◌, map, sym, ap, refl, arith, ◌⊎◌, inl, inr, ⊎_elim, bytes_eq}
use Rattle.std.specs.List.{range_with_len, flat_map, filter, list_any}
use Rattle.std.proofs.lemmas.Slice.Eq.{bytes_eq-Decides}
use Rattle.std.proofs.Math.Bool.{or-true}

-- a test, with what it tells
pub told : (b : Bool) → (b ≡ true) ⊎ (b ≡ false)
told true = inl refl
told false = inr refl

pub filter-append : {X : Type 0} (p : X → Bool) (xs ys : List X) → filter p (xs ++ ys) ≡ filter p xs ++ filter p ys
filter-append p [] ys = refl
filter-append {X} p (x ∷ xs) ys = ap (λ (zs : List X). cond (p x) (x ∷ zs) zs) (filter-append p xs ys) ∙ kept (p x) where
  kept : (b : Bool) → cond b (x ∷ (filter p xs ++ filter p ys)) (filter p xs ++ filter p ys) ≡ cond b (x ∷ filter p xs) (filter p xs) ++ filter p ys
  kept true = refl
  kept false = refl

filter-first : (q : List ℕ → Bool) (p : ℕ → Bool) (t : List ℕ → Bool) → ((k : ℕ) (r : List ℕ) → q (k ∷ r) ≡ (p k && t r)) → (k : ℕ) (rs : List (List ℕ))
    → filter q (map (λ r. k ∷ r) rs) ≡ cond (p k) (map (λ r. k ∷ r) (filter t rs)) []
filter-first q p t h k [] = elim (p k) as (λ b. ◌≡◌ {A = List (List ℕ)} [] (cond b [] [])) [ true ↦ refl | false ↦ refl ]
filter-first q p t h k (r ∷ rs) =
    ap (λ b. cond b ((k ∷ r) ∷ filter q (map (λ r. k ∷ r) rs)) (filter q (map (λ r. k ∷ r) rs))) (h k r)
    ∙ ap (λ (zs : List (List ℕ)). cond (p k && t r) ((k ∷ r) ∷ zs) zs) (filter-first q p t h k rs) ∙ cases (p k) (t r) where
      cases : (a b : Bool) → cond (a && b) ((k ∷ r) ∷ cond a (map (λ r. k ∷ r) (filter t rs)) []) (cond a (map (λ r. k ∷ r) (filter t rs)) []) ≡ cond a (map (λ r. k ∷ r) (cond b (r ∷ filter t rs) (filter t rs))) []
      cases true true = refl
      cases true false = refl
      cases false true = refl
      cases false false = refl

-- one dimension more
pub filter-flat_map : (q : List ℕ → Bool) (p : ℕ → Bool) (t : List ℕ → Bool) → ((k : ℕ) (r : List ℕ) → q (k ∷ r) ≡ (p k && t r)) → (ks : List ℕ) (rs : List (List ℕ))
    → filter q (flat_map (λ k. map (λ r. k ∷ r) rs) ks) ≡ flat_map (λ k. map (λ r. k ∷ r) (filter t rs)) (filter p ks)
filter-flat_map q p t h [] rs = refl
filter-flat_map q p t h (k ∷ ks) rs =
    filter-append q (map (λ r. k ∷ r) rs) (flat_map (λ k. map (λ r. k ∷ r) rs) ks)
    ∙ ap (λ ys. ys ++ filter q (flat_map (λ k. map (λ r. k ∷ r) rs) ks)) (filter-first q p t h k rs)
    ∙ ap (λ ys. cond (p k) (map (λ r. k ∷ r) (filter t rs)) [] ++ ys) (filter-flat_map q p t h ks rs)
    ∙ join (p k) where
      join : (b : Bool) → cond b (map (λ r. k ∷ r) (filter t rs)) [] ++ flat_map (λ k. map (λ r. k ∷ r) (filter t rs)) (filter p ks) ≡ flat_map (λ k. map (λ r. k ∷ r) (filter t rs)) (cond b (k ∷ filter p ks) (filter p ks))
      join true = refl
      join false = refl

-- a test that holds on an interval keeps it of a range
pub none_kept : (p : ℕ → Bool) (a n : ℕ) → ((k : ℕ) → a ≤ k → k < a + n → p k ≡ false) → filter p (range_with_len a n) ≡ []
none_kept p a zero h = refl
none_kept p a (suc n) h = ap (λ b. cond b (a ∷ filter p (range_with_len (a + 1) n)) (filter p (range_with_len (a + 1) n))) (h a (omega arith) (omega arith)) ∙ none_kept p (a + 1) n (λ k l m. h k (omega arith) (omega arith))

pub all_kept : (p : ℕ → Bool) (a n : ℕ) → ((k : ℕ) → a ≤ k → k < a + n → p k ≡ true) → filter p (range_with_len a n) ≡ range_with_len a n
all_kept p a zero h = refl
all_kept p a (suc n) h = ap (λ b. cond b (a ∷ filter p (range_with_len (a + 1) n)) (filter p (range_with_len (a + 1) n))) (h a (omega arith) (omega arith)) ∙ ap (λ ys. a ∷ ys) (all_kept p (a + 1) n (λ k l m. h k (omega arith) (omega arith)))

-- what a filter has
pub any-filter : (p : List ℕ → Bool) (c : List ℕ) (xs : List (List ℕ)) → list_any (bytes_eq c) xs ≡ true → p c ≡ true → list_any (bytes_eq c) (filter p xs) ≡ true
any-filter p c [] h t = absurd (cc)
any-filter p c (x ∷ xs) h t = ⊎_elim
    (λ e. let s : c ≡ x = (bytes_eq-Decides c x).0 e in
    ap (λ b. list_any (bytes_eq c) (cond b (x ∷ filter p xs) (filter p xs))) (sym (ap p s) ∙ t) ∙ ap (λ b. b || list_any (bytes_eq c) (filter p xs)) e)
    (λ e. later (p x) (any-filter p c xs (sym (ap (λ b. b || list_any (bytes_eq c) xs) e) ∙ h) t))
    (told (bytes_eq c x)) where
      later : (b : Bool) → list_any (bytes_eq c) (filter p xs) ≡ true → list_any (bytes_eq c) (cond b (x ∷ filter p xs) (filter p xs)) ≡ true
      later true i = ap (λ d. bytes_eq c x || d) i ∙ or-true (bytes_eq c x)
      later false i = i

pub filter-any : (p : List ℕ → Bool) (c : List ℕ) (xs : List (List ℕ)) → list_any (bytes_eq c) (filter p xs) ≡ true → p c ≡ true
filter-any p c [] h = absurd (cc)
filter-any p c (x ∷ xs) h = kept (filter-any p c xs) where
  kept : (list_any (bytes_eq c) (filter p xs) ≡ true → p c ≡ true) → p c ≡ true
  kept i = ⊎_elim
      (λ t. ⊎_elim
      (λ e. ap p ((bytes_eq-Decides c x).0 e) ∙ t)
      (λ e. i (sym (ap (λ b. list_any (bytes_eq c) (cond b (x ∷ filter p xs) (filter p xs))) t ∙ ap (λ b. b || list_any (bytes_eq c) (filter p xs)) e) ∙ h))
      (told (bytes_eq c x)))
      (λ t. i (sym (ap (λ b. list_any (bytes_eq c) (cond b (x ∷ filter p xs) (filter p xs))) t) ∙ h))
      (told (p x))
