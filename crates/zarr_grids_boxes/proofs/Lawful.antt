-- The laws of boxes.
use Rattle.std.proofs.Common.{◌≡◌, ◌↔◌, ℕ, ◌+◌, ◌-◌, ◌<◌, Bool, true, false, ◌&&◌, min, max, map, List, [], ◌∷◌, length, refl, sym, ap, ◌∙◌, Some, slice_get, arith}
use Rattle.std.proofs.Math.Dec.{leb, ltb}
use Rattle.std.proofs.lemmas.Bool.{le-leb, lt-ltb, leb-true, ltb-true}
use Rattle.std.proofs.lemmas.Option.{slice_get-get_or}
use Rattle.std.proofs.lemmas.Option.{slice_get_within}
use Rattle.std.proofs.lemmas.Option.{get_or_from_slice_get}
use Rattle.zarr_grids_boxes.specs.Boxes.{product, places, place_at, is_in_box, ravel, each2}
use Rattle.zarr_grids_boxes.proofs.InBox.{ravel-place_at, in_box-place_at, place_at-number, length-places}
use Rattle.zarr_grids_boxes.proofs.Places.{both}
use Rattle.zarr_grids_boxes.proofs.Steps.{number_in_grid}
use Rattle.zarr_grids_boxes.proofs.Walking.{get_or-places, start_in_box}

-- ---- one dimension of an overlap
same_bool : (a b : Bool) → (a ≡ true → b ≡ true) → (b ≡ true → a ≡ true) → a ≡ b
same_bool true b f g = sym (f refl)
same_bool false true f g = absurd (let h = g refl in cc)
same_bool false false f g = refl

and_of : (a b : Bool) → a ≡ true → b ≡ true → (a && b) ≡ true
and_of a b p q = rw (p, q) refl

overlap_along : (s e t u p : ℕ) → (leb (max s t) p && ltb p (max s t + (min (s + e) (t + u) - max s t))) ≡ ((leb s p && ltb p (s + e)) && (leb t p && ltb p (t + u)))
overlap_along s e t u p = same_bool _ _ there back where
  there : (leb (max s t) p && ltb p (max s t + (min (s + e) (t + u) - max s t))) ≡ true → ((leb s p && ltb p (s + e)) && (leb t p && ltb p (t + u))) ≡ true
  there h =
      let q = both (leb (max s t) p) (ltb p (max s t + (min (s + e) (t + u) - max s t))) h in
      let a = leb-true (max s t) p q.0 in
      let b = ltb-true p (max s t + (min (s + e) (t + u) - max s t)) q.1 in
      and_of _ _ (and_of _ _ (le-leb s p (omega arith)) (lt-ltb p (s + e) (omega arith))) (and_of _ _ (le-leb t p (omega arith)) (lt-ltb p (t + u) (omega arith)))

  back : ((leb s p && ltb p (s + e)) && (leb t p && ltb p (t + u))) ≡ true → (leb (max s t) p && ltb p (max s t + (min (s + e) (t + u) - max s t))) ≡ true
  back h =
      let q = both (leb s p && ltb p (s + e)) (leb t p && ltb p (t + u)) h in
      let v = both (leb s p) (ltb p (s + e)) q.0 in
      let w = both (leb t p) (ltb p (t + u)) q.1 in
      let a = leb-true s p v.0 in
      let b = ltb-true p (s + e) v.1 in
      let c = leb-true t p w.0 in
      let d = ltb-true p (t + u) w.1 in
      and_of _ _ (le-leb (max s t) p (omega arith)) (lt-ltb p (max s t + (min (s + e) (t + u) - max s t)) (omega arith))

exchange : (a b c d : Bool) → ((a && b) && (c && d)) ≡ ((a && c) && (b && d))
exchange true b true d = refl
exchange true true false d = refl
exchange true false false d = refl
exchange false b c d = refl

pub overlap_shared : (ss es ts us ps : List ℕ) → length es ≡ length ss → length us ≡ length ts → length ss ≡ length ts →
    is_in_box (each2 max ss ts) (each2 (λ s e. e - s) (each2 max ss ts) (each2 min (each2 (λ s e. s + e) ss es) (each2 (λ s e. s + e) ts us))) ps ≡ (is_in_box ss es ps && is_in_box ts us ps)
overlap_shared [] [] [] [] [] l m n = refl
overlap_shared [] [] [] [] (p ∷ ps) l m n = refl
overlap_shared [] [] [] (u ∷ us) ps l m n = absurd (omega arith)
overlap_shared [] [] (t ∷ ts) us ps l m n = absurd (omega arith)
overlap_shared [] (e ∷ es) ts us ps l m n = absurd (omega arith)
overlap_shared (s ∷ ss) [] ts us ps l m n = absurd (omega arith)
overlap_shared (s ∷ ss) (e ∷ es) [] us ps l m n = absurd (omega arith)
overlap_shared (s ∷ ss) (e ∷ es) (t ∷ ts) [] ps l m n = absurd (omega arith)
overlap_shared (s ∷ ss) (e ∷ es) (t ∷ ts) (u ∷ us) [] l m n = refl
overlap_shared (s ∷ ss) (e ∷ es) (t ∷ ts) (u ∷ us) (p ∷ ps) l m n =
    rw (overlap_along s e t u p, overlap_shared ss es ts us ps (omega arith) (omega arith) (omega arith)) (exchange (leb s p && ltb p (s + e)) (leb t p && ltb p (t + u)) (is_in_box ss es ps) (is_in_box ts us ps))

-- ---- one dimension of a box bounded by an end
bound_along : (s e z p : ℕ) → (leb (min s z) p && ltb p (min s z + (min (s + e) z - min s z))) ≡ ((leb s p && ltb p (s + e)) && (leb 0 p && ltb p (0 + z)))
bound_along s e z p = same_bool _ _ there back where
  there : (leb (min s z) p && ltb p (min s z + (min (s + e) z - min s z))) ≡ true → ((leb s p && ltb p (s + e)) && (leb 0 p && ltb p (0 + z))) ≡ true
  there h =
      let q = both (leb (min s z) p) (ltb p (min s z + (min (s + e) z - min s z))) h in
      let a = leb-true (min s z) p q.0 in
      let b = ltb-true p (min s z + (min (s + e) z - min s z)) q.1 in
      and_of _ _ (and_of _ _ (le-leb s p (omega arith)) (lt-ltb p (s + e) (omega arith))) (and_of _ _ (le-leb 0 p (omega arith)) (lt-ltb p (0 + z) (omega arith)))

  back : ((leb s p && ltb p (s + e)) && (leb 0 p && ltb p (0 + z))) ≡ true → (leb (min s z) p && ltb p (min s z + (min (s + e) z - min s z))) ≡ true
  back h =
      let q = both (leb s p && ltb p (s + e)) (leb 0 p && ltb p (0 + z)) h in
      let v = both (leb s p) (ltb p (s + e)) q.0 in
      let w = both (leb 0 p) (ltb p (0 + z)) q.1 in
      let a = leb-true s p v.0 in
      let b = ltb-true p (s + e) v.1 in
      let d = ltb-true p (0 + z) w.1 in
      and_of _ _ (le-leb (min s z) p (omega arith)) (lt-ltb p (min s z + (min (s + e) z - min s z)) (omega arith))

pub bound_below : (ss es zs ps : List ℕ) → length es ≡ length ss → length zs ≡ length ss →
    is_in_box (each2 min ss zs) (each2 (λ s e. e - s) (each2 min ss zs) (each2 min (each2 (λ s e. s + e) ss es) zs)) ps ≡ (is_in_box ss es ps && is_in_box (map (λ _. 0) zs) zs ps)
bound_below [] [] [] [] l m = refl
bound_below [] [] [] (p ∷ ps) l m = refl
bound_below [] [] (z ∷ zs) ps l m = absurd (omega arith)
bound_below [] (e ∷ es) zs ps l m = absurd (omega arith)
bound_below (s ∷ ss) [] zs ps l m = absurd (omega arith)
bound_below (s ∷ ss) (e ∷ es) [] ps l m = absurd (omega arith)
bound_below (s ∷ ss) (e ∷ es) (z ∷ zs) [] l m = refl
bound_below (s ∷ ss) (e ∷ es) (z ∷ zs) (p ∷ ps) l m =
    rw (bound_along s e z p, bound_below ss es zs ps (omega arith) (omega arith)) (exchange (leb s p && ltb p (s + e)) (leb 0 p && ltb p (0 + z)) (is_in_box ss es ps) (is_in_box (map (λ _. 0) zs) zs ps))

-- ---- boxes with no place
pub empty_has_none : (ss es : List ℕ) → length es ≡ length ss → (product es ≡ 0) ↔ ((ps : List ℕ) → is_in_box ss es ps ≡ false)
empty_has_none ss es l = (there, back) where
  there : product es ≡ 0 → (ps : List ℕ) → is_in_box ss es ps ≡ false
  there z ps = same_bool (is_in_box ss es ps) false (λ h. let b = number_in_grid ss es ps h in absurd (omega arith)) (λ h. absurd (cc))

  back : ((ps : List ℕ) → is_in_box ss es ps ≡ false) → product es ≡ 0
  back h = from_none (product es) (λ p. let a = start_in_box ss es l p in let b = h ss in absurd (cc)) where
    from_none : (n : ℕ) → (0 < n → ⊥) → n ≡ 0
    from_none n f = omega arith

-- ---- the places by their numbers
pub place_by_number : (ss es ps : List ℕ) (n : ℕ) → length es ≡ length ss → (slice_get (places ss es) n ≡ Some ps) ↔ ((is_in_box ss es ps ≡ true) × (ravel (each2 (λ p s. p - s) ps ss) es ≡ n))
place_by_number ss es ps n l = (there, back) where
  there : slice_get (places ss es) n ≡ Some ps → (is_in_box ss es ps ≡ true) × (ravel (each2 (λ p s. p - s) ps ss) es ≡ n)
  there h =
      let w = slice_get_within (places ss es) n ps h in
      let b : n < product es = omega (arith, length-places ss es (sym l)) in
      let g = get_or_from_slice_get (places ss es) n ps [] h in
      let e : place_at ss es n ≡ ps = sym (get_or-places ss es n [] (sym l) b) ∙ g in
      (rw e at (in_box-place_at ss es n (sym l) b), rw e at (ravel-place_at ss es n (sym l) b))

  back : (is_in_box ss es ps ≡ true) × (ravel (each2 (λ p s. p - s) ps ss) es ≡ n) → slice_get (places ss es) n ≡ Some ps
  back h =
      let b = number_in_grid ss es ps h.0 in
      let e = h.1 in
      let c : n < product es = omega arith in
      let d : n < length (places ss es) = omega (arith, length-places ss es (sym l)) in
      let g : place_at ss es n ≡ ps = ap (place_at ss es) (sym e) ∙ place_at-number ss es ps h.0 in
      slice_get-get_or (places ss es) n [] d ∙ ap (λ x. Some x) (get_or-places ss es n [] (sym l) c ∙ g)
