-- A test that holds on a box inside another keeps of the other's places those of the box.
use Rattle.std.proofs.Common.{◌≡◌, ◌∙◌, ℕ, zero, suc, ◌+◌, ◌-◌, ◌<◌, ◌≤◌, Bool, true, false, cond, ◌&&◌, List, [], ◌∷◌, ◌++◌, length, map, sym, ap, refl, arith, append-nil}
use Rattle.std.specs.List.{range_with_len, flat_map, filter}
use Rattle.std.proofs.Math.Dec.{leb, ltb}
use Rattle.std.proofs.lemmas.Bool.{le-leb, lt-ltb, lt-leb, le-ltb, leb-true, ltb-true}
use Rattle.zarr_grids_boxes.specs.Boxes.{product, places, place_at, is_in_box, last_index}
use Rattle.zarr_grids_boxes.proofs.Dimensions.{positive-drop}
use Rattle.zarr_grids_boxes.proofs.Places.{both, places_by_number, range_with_len-append}
use Rattle.zarr_grids_boxes.proofs.InBox.{in_box-place_at}
use Rattle.zarr_grids_chunks.proofs.Filters.{filter-append, filter-flat_map, none_kept, all_kept}

-- ---- two tests that agree on the places of a box keep the same of them
agree-range : (p q : List ℕ → Bool) (f : ℕ → List ℕ) (a n : ℕ) → ((k : ℕ) → k < a + n → p (f k) ≡ q (f k)) → filter p (map f (range_with_len a n)) ≡ filter q (map f (range_with_len a n))
agree-range p q f a zero h = refl
agree-range p q f a (suc n) h =
    ap (λ b. cond b (f a ∷ filter p (map f (range_with_len (a + 1) n))) (filter p (map f (range_with_len (a + 1) n)))) (h a (omega arith))
    ∙ ap (λ (zs : List (List ℕ)). cond (q (f a)) (f a ∷ zs) zs) (agree-range p q f (a + 1) n (λ k l. h k (omega arith)))

pub agree : (p q : List ℕ → Bool) (ss es : List ℕ) → length ss ≡ length es → ((place : List ℕ) → is_in_box ss es place ≡ true → p place ≡ q place) → filter p (places ss es) ≡ filter q (places ss es)
agree p q ss es l h =
    ap (filter p) (places_by_number ss es l)
    ∙ agree-range p q (place_at ss es) 0 (product es) (λ k m. h (place_at ss es k) (in_box-place_at ss es k l (omega arith)))
    ∙ sym (ap (filter q) (places_by_number ss es l))

-- ---- the test of an interval keeps it of a longer one
kept_along : (s e f c : ℕ) → s ≤ f → f + c ≤ s + e → filter (λ k. leb f k && ltb k (f + c)) (range_with_len s e) ≡ range_with_len f c
kept_along s e f c low up =
    let p : ℕ → Bool = λ k. leb f k && ltb k (f + c) in
    let a = f - s in
    let l = s + e - (f + c) in
    let total : e ≡ a + (c + l) = omega arith in
    let z : s + a ≡ f = omega arith in
    ap (λ k. filter p (range_with_len s k)) total
    ∙ ap (filter p) (range_with_len-append s a (c + l))
    ∙ filter-append p (range_with_len s a) (range_with_len (s + a) (c + l))
    ∙ ap (λ ys. ys ++ filter p (range_with_len (s + a) (c + l))) (none_kept p s a (λ k u v. before k (omega arith)))
    ∙ ap (λ b. filter p (range_with_len b (c + l))) z
    ∙ ap (filter p) (range_with_len-append f c l)
    ∙ filter-append p (range_with_len f c) (range_with_len (f + c) l)
    ∙ ap (λ ys. filter p (range_with_len f c) ++ ys) (none_kept p (f + c) l (λ k u v. after k u))
    ∙ append-nil (filter p (range_with_len f c))
    ∙ all_kept p f c (λ k u v. rw (le-leb f k u, lt-ltb k (f + c) v) refl) where
      before : (k : ℕ) → k < f → (leb f k && ltb k (f + c)) ≡ false
      before k h = rw (lt-leb f k h) refl

      after : (k : ℕ) → f + c ≤ k → (leb f k && ltb k (f + c)) ≡ false
      after k h = rw (le-leb f k (omega arith), le-ltb k (f + c) h) refl

ends_within : (s e f c : ℕ) → 0 < c → f + (c - 1) < s + e → f + c ≤ s + e
ends_within s e f c pos h = omega arith

-- ---- the same in each dimension
pub kept : (ss es fs cs : List ℕ) → length cs ≡ length fs → 0 < product cs → is_in_box ss es fs ≡ true → is_in_box ss es (last_index fs cs) ≡ true → filter (is_in_box fs cs) (places ss es) ≡ places fs cs
kept [] [] [] [] l pos a b = refl
kept [] [] [] (c ∷ cs) l pos a b = absurd (omega arith)
kept [] [] (f ∷ fs) cs l pos a b = absurd (cc)
kept [] (e ∷ es) fs cs l pos a b = absurd (cc)
kept (s ∷ ss) [] fs cs l pos a b = absurd (cc)
kept (s ∷ ss) (e ∷ es) [] cs l pos a b = absurd (cc)
kept (s ∷ ss) (e ∷ es) (f ∷ fs) [] l pos a b = absurd (omega arith)
kept (s ∷ ss) (e ∷ es) (f ∷ fs) (c ∷ cs) l pos a b =
    let same : length cs ≡ length fs = omega arith in
    let t = positive-drop (c ∷ cs) 0 (omega arith) pos in
    let u = both _ _ a in
    let v = both _ _ u.0 in
    let w = both _ _ b in
    let z = both _ _ w.0 in
    let up = ends_within s e f c t.0 (ltb-true (f + (c - 1)) (s + e) z.1) in
    filter-flat_map (is_in_box (f ∷ fs) (c ∷ cs)) (λ k. leb f k && ltb k (f + c)) (is_in_box fs cs) (λ k r. refl) (range_with_len s e) (places ss es)
    ∙ ap (λ rs. flat_map (λ k. map (λ r. k ∷ r) rs) (filter (λ k. leb f k && ltb k (f + c)) (range_with_len s e))) (kept ss es fs cs same t.1 u.1 w.1)
    ∙ ap (flat_map (λ k. map (λ r. k ∷ r) (places fs cs))) (kept_along s e f c (leb-true s f v.0) up)

-- ---- the last place of a box that has one lies in it
pub last_index-in_box : (ss xs : List ℕ) → length xs ≡ length ss → 0 < product xs → is_in_box ss xs (last_index ss xs) ≡ true
last_index-in_box [] [] l pos = refl
last_index-in_box [] (x ∷ xs) l pos = absurd (omega arith)
last_index-in_box (s ∷ ss) [] l pos = absurd (omega arith)
last_index-in_box (s ∷ ss) (x ∷ xs) l pos =
    let t = positive-drop (x ∷ xs) 0 (omega arith) pos in
    let p = t.0 in
    rw (le-leb s (s + (x - 1)) (omega arith), lt-ltb (s + (x - 1)) (s + x) (omega arith), last_index-in_box ss xs (omega arith) t.1) refl
