-- The places of a box.
use Rattle.std.proofs.Common.{◌≡◌, ℕ, zero, suc, ◌+◌, ◌-◌, ◌*◌, ◌/◌, ◌%◌, ◌<◌, ◌≤◌, Bool, true, false, ◌&&◌, List, [], ◌∷◌, ◌++◌, length, map, get_or, take, refl, sym, ap, ◌∙◌, arith}
use Rattle.std.specs.List.{range_with_len, flat_map}
use Rattle.std.proofs.lemmas.List.{map-append}
use Rattle.std.proofs.lemmas.List.FromFn.{map-range_with_len_more, take-map-range_with_len}
use Rattle.std.proofs.lemmas.Nat.{mod_below, div_below, div-mul-add, mod-mul-add}
use Rattle.std.proofs.lemmas.Bool.{leb-true, ltb-true}
use Rattle.std.proofs.lemmas.Simd.{map-map}
use Rattle.zarr_grids_boxes.specs.Boxes.{product, places, is_in_box, place_at, ravel, each2, IsIndex}
use Rattle.zarr_grids_boxes.proofs.Dimensions.{IsIndex-tail, ravel_below, positive-drop}

pub both : (a b : Bool) → (a && b) ≡ true → (a ≡ true) × (b ≡ true)
both true b h = (refl, h)
both false b h = absurd (cc)

pub IsIndex-cons : (i e : ℕ) (is es : List ℕ) → i < e → IsIndex is es → IsIndex (i ∷ is) (e ∷ es)
IsIndex-cons i e is es h b = record { same = ap (λ n. suc n) b.same; below = step } where
  step : (k : ℕ) → k < length (e ∷ es) → get_or (i ∷ is) k 0 < get_or (e ∷ es) k 0
  step zero l = h
  step (suc k) l = b.below k (omega arith)

pub IsIndex-nil : IsIndex [] []
IsIndex-nil = record { same = refl; below = λ k l. absurd (omega arith) }

-- ---- a place of a box
pub in_box_below : (ss es ps : List ℕ) → is_in_box ss es ps ≡ true → IsIndex (each2 (λ p s. p - s) ps ss) es
in_box_below [] [] [] h = IsIndex-nil
in_box_below [] [] (p ∷ ps) h = absurd (cc)
in_box_below [] (e ∷ es) ps h = absurd (cc)
in_box_below (s ∷ ss) [] ps h = absurd (cc)
in_box_below (s ∷ ss) (e ∷ es) [] h = absurd (cc)
in_box_below (s ∷ ss) (e ∷ es) (p ∷ ps) h =
    let r = both _ _ h in
    let q = both _ _ r.0 in
    let from = leb-true s p q.0 in
    let below = ltb-true p (s + e) q.1 in
    IsIndex-cons (p - s) e _ es (omega arith) (in_box_below ss es ps r.1)

pub in_box_from : (ss es ps : List ℕ) → is_in_box ss es ps ≡ true → (k : ℕ) → k < length ps → get_or ss k 0 ≤ get_or ps k 0
in_box_from [] es [] h k l = absurd (omega arith)
in_box_from [] [] (p ∷ ps) h k l = absurd (cc)
in_box_from [] (e ∷ es) (p ∷ ps) h k l = absurd (cc)
in_box_from (s ∷ ss) [] ps h k l = absurd (cc)
in_box_from (s ∷ ss) (e ∷ es) [] h k l = absurd (cc)
in_box_from (s ∷ ss) (e ∷ es) (p ∷ ps) h zero l = let r = both _ _ h in let q = both _ _ r.0 in leb-true s p q.0
in_box_from (s ∷ ss) (e ∷ es) (p ∷ ps) h (suc k) l = let r = both _ _ h in in_box_from ss es ps r.1 k (omega arith)

-- the number of an index, and the index with that number
pub place_at-ravel : (ss es is : List ℕ) → length ss ≡ length es → IsIndex is es → place_at ss es (ravel is es) ≡ each2 (λ s i. s + i) ss is
place_at-ravel [] es [] l b = refl
place_at-ravel [] es (i ∷ is) l b = refl
place_at-ravel (s ∷ ss) [] is l b = absurd (omega arith)
place_at-ravel (s ∷ ss) (e ∷ es) [] l b = let h = b.same in absurd (omega arith)
place_at-ravel (s ∷ ss) (e ∷ es) (i ∷ is) l b =
    let t = IsIndex-tail i e is es b in
    let r = ravel_below is es t in
    let d = div-mul-add i (product es) (ravel is es) r in
    let m = mod-mul-add i (product es) (ravel is es) r in
    rw (d, m, place_at-ravel ss es is (omega arith) t) refl

pub length-each2 : (f : ℕ → ℕ → ℕ) (xs ys : List ℕ) → length xs ≡ length ys → length (each2 f xs ys) ≡ length xs
length-each2 f [] ys l = refl
length-each2 f (x ∷ xs) [] l = absurd (omega arith)
length-each2 f (x ∷ xs) (y ∷ ys) l = let i = length-each2 f xs ys (omega arith) in omega arith

-- ---- the places of a box, by number
pub map-range_shift : {X : Type 0} (f g : ℕ → X) (a b n : ℕ) → ((i : ℕ) → i < n → f (a + i) ≡ g (b + i)) → map f (range_with_len a n) ≡ map g (range_with_len b n)
map-range_shift f g a b zero h = refl
map-range_shift f g a b (suc n) h = ap (λ y. y ∷ map f (range_with_len (a + 1) n)) (at_zero f g a b (h 0 (omega arith))) ∙ ap (λ ys. g b ∷ ys) (map-range_shift f g (a + 1) (b + 1) n (λ i l. at_one f g a b i (h (suc i) (omega arith)))) where
  at_zero : {X : Type 0} (f g : ℕ → X) (a b : ℕ) → f (a + 0) ≡ g (b + 0) → f a ≡ g b
  at_zero f g a b e = let p : a + 0 ≡ a = omega arith in let q : b + 0 ≡ b = omega arith in sym (ap f p) ∙ e ∙ ap g q

  at_one : {X : Type 0} (f g : ℕ → X) (a b i : ℕ) → f (a + suc i) ≡ g (b + suc i) → f (a + 1 + i) ≡ g (b + 1 + i)
  at_one f g a b i e = let p : a + 1 + i ≡ a + suc i = omega arith in let q : b + suc i ≡ b + 1 + i = omega arith in ap f p ∙ e ∙ ap g q

pub range_with_len-append : (a m n : ℕ) → range_with_len a (m + n) ≡ range_with_len a m ++ range_with_len (a + m) n
range_with_len-append a zero n = let e : zero + n ≡ n = omega arith in let f : a ≡ a + zero = omega arith in ap (λ k. range_with_len a k) e ∙ ap (λ b. range_with_len b n) f
range_with_len-append a (suc m) n =
    let e : suc m + n ≡ suc (m + n) = omega arith in
    let f : a + 1 + m ≡ a + suc m = omega arith in
    ap (λ k. range_with_len a k) e ∙ ap (λ ys. a ∷ ys) (range_with_len-append (a + 1) m n ∙ ap (λ b. range_with_len (a + 1) m ++ range_with_len b n) f)

-- blocks of n numbers each
pub blocks : {X : Type 0} (f : ℕ → ℕ → X) (s a m n : ℕ) → flat_map (λ k. map (f k) (range_with_len 0 n)) (range_with_len (s + a) m) ≡ map (λ i. f (s + i / n) (i % n)) (range_with_len (a * n) (m * n))
blocks f s a zero n = let e : 0 ≡ zero * n = omega arith in ap (λ k. map (λ i. f (s + i / n) (i % n)) (range_with_len (a * n) k)) e
blocks {X} f s a (suc m) n =
    let F : ℕ → X = λ i. f (s + i / n) (i % n) in
    let first : map (f (s + a)) (range_with_len 0 n) ≡ map F (range_with_len (a * n) n) = map-range_shift (f (s + a)) F 0 (a * n) n (λ i l. let d = div-mul-add a n i l in let r = mod-mul-add a n i l in let z : 0 + i ≡ i = omega arith in rw (d, r, z) refl) in
    let e : s + a + 1 ≡ s + (a + 1) = omega arith in
    let rest : flat_map (λ k. map (f k) (range_with_len 0 n)) (range_with_len (s + a + 1) m) ≡ map F (range_with_len ((a + 1) * n) (m * n)) = ap (λ b. flat_map (λ k. map (f k) (range_with_len 0 n)) (range_with_len b m)) e ∙ blocks f s (a + 1) m n in
    let g : (a + 1) * n ≡ a * n + n = grind arith in
    let h : suc m * n ≡ n + m * n = grind arith in
    ap (λ ys. ys ++ flat_map (λ k. map (f k) (range_with_len 0 n)) (range_with_len (s + a + 1) m)) first
    ∙ ap (λ ys. map F (range_with_len (a * n) n) ++ ys) (rest ∙ ap (λ b. map F (range_with_len b (m * n))) g)
    ∙ sym (map-append F (range_with_len (a * n) n) (range_with_len (a * n + n) (m * n)))
    ∙ ap (map F) (sym (range_with_len-append (a * n) n (m * n)) ∙ ap (λ k. range_with_len (a * n) k) (sym h))

pub places_by_number : (ss es : List ℕ) → length ss ≡ length es → places ss es ≡ map (place_at ss es) (range_with_len 0 (product es))
places_by_number [] [] l = refl
places_by_number [] (e ∷ es) l = absurd (omega arith)
places_by_number (s ∷ ss) [] l = absurd (omega arith)
places_by_number (s ∷ ss) (e ∷ es) l =
    let i = places_by_number ss es (omega arith) in
    let z : s ≡ s + 0 = omega arith in
    let y : 0 * product es ≡ 0 = omega arith in
    ap (λ ps. flat_map (λ k. map (λ r. k ∷ r) ps) (range_with_len s e)) i
    ∙ flat_congr (λ k. map (λ r. k ∷ r) (map (place_at ss es) (range_with_len 0 (product es)))) (λ k. map (λ n. k ∷ place_at ss es n) (range_with_len 0 (product es))) (range_with_len s e) (λ k. map-map (λ r. k ∷ r) (place_at ss es) (range_with_len 0 (product es)))
    ∙ ap (λ b. flat_map (λ k. map (λ n. k ∷ place_at ss es n) (range_with_len 0 (product es))) (range_with_len b e)) z
    ∙ blocks (λ k n. k ∷ place_at ss es n) s 0 e (product es)
    ∙ ap (λ b. map (place_at (s ∷ ss) (e ∷ es)) (range_with_len b (e * product es))) y where
      flat_congr : {X Y : Type 0} (f g : X → List Y) (xs : List X) → ((x : X) → f x ≡ g x) → flat_map f xs ≡ flat_map g xs
      flat_congr {X} {Y} f g xs h = ap (λ (k : X → List Y). flat_map k xs) (λ i x. h x i)

-- ---- a list made by number
pub by_number_more : (f : ℕ → ℕ) (done new : List ℕ) (n x : ℕ) → done ≡ map f (range_with_len 0 n) → new ≡ done ++ x ∷ [] → x ≡ f n → new ≡ map f (range_with_len 0 (n + 1))
by_number_more f done new n x d e v = e ∙ ap (λ ys. ys ++ x ∷ []) d ∙ ap (λ y. map f (range_with_len 0 n) ++ y ∷ []) v ∙ sym (map-range_with_len_more f 0 n n (omega arith))

pub by_number_all : (g : List ℕ → ℕ) (ss es done : List ℕ) (n : ℕ) → length ss ≡ length es → done ≡ map (λ k. g (place_at ss es k)) (range_with_len 0 n) → n ≡ product es → done ≡ map g (places ss es)
by_number_all g ss es done n l d e =
    d ∙ ap (λ k. map (λ k. g (place_at ss es k)) (range_with_len 0 k)) e
    ∙ sym (ap (map g) (places_by_number ss es l) ∙ map-map g (place_at ss es) (range_with_len 0 (product es)))

pub length-place_at : (ss es : List ℕ) (n : ℕ) → length ss ≡ length es → length (place_at ss es n) ≡ length ss
length-place_at [] es n l = refl
length-place_at (s ∷ ss) [] n l = absurd (omega arith)
length-place_at (s ∷ ss) (e ∷ es) n l = let i = length-place_at ss es (n % product es) (omega arith) in omega arith

pub place_at_below : (ss es : List ℕ) (n k : ℕ) → length ss ≡ length es → n < product es → k < length ss → get_or (place_at ss es n) k 0 < get_or ss k 0 + get_or es k 0
place_at_below [] es n k l h g = absurd (omega arith)
place_at_below (s ∷ ss) [] n k l h g = absurd (omega arith)
place_at_below (s ∷ ss) (e ∷ es) n zero l h g =
    let p : 0 < product (e ∷ es) = omega arith in
    let t = positive-drop (e ∷ es) 0 (omega arith) p in
    let d = div_below n (product es) e t.1 h in omega arith
place_at_below (s ∷ ss) (e ∷ es) n (suc k) l h g =
    let p : 0 < product (e ∷ es) = omega arith in
    let t = positive-drop (e ∷ es) 0 (omega arith) p in
    place_at_below ss es (n % product es) k (omega arith) (mod_below n (product es) t.1) (omega arith)

pub take_places : (ss es : List ℕ) (n : ℕ) → length ss ≡ length es → n ≤ product es → take n (places ss es) ≡ map (place_at ss es) (range_with_len 0 n)
take_places ss es n l h = ap (take n) (places_by_number ss es l) ∙ take-map-range_with_len (place_at ss es) 0 (product es) n h
