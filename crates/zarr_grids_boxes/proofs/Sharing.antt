-- Two boxes share a place.
use Rattle.std.proofs.Common.{◌≡◌, ℕ, ◌+◌, max, min, true, List, [], ◌∷◌, refl, arith}
use Rattle.std.proofs.Math.Dec.{leb, ltb}
use Rattle.std.proofs.lemmas.Bool.{le-leb, lt-ltb, leb-true, ltb-true}
use Rattle.zarr_grids_boxes.specs.Boxes.{is_in_box, share_place}
use Rattle.zarr_grids_boxes.proofs.Places.{both}

-- boxes that have a place in common share it
pub share_place-of : (ss es ts us ps : List ℕ) → is_in_box ss es ps ≡ true → is_in_box ts us ps ≡ true → share_place ss es ts us ≡ true
share_place-of [] [] [] [] ps a b = refl
share_place-of [] [] [] (u ∷ us) ps a b = absurd (cc)
share_place-of [] [] (t ∷ ts) [] ps a b = absurd (cc)
share_place-of [] [] (t ∷ ts) (u ∷ us) [] a b = absurd (cc)
share_place-of [] [] (t ∷ ts) (u ∷ us) (p ∷ ps) a b = absurd (cc)
share_place-of [] (e ∷ es) ts us ps a b = absurd (cc)
share_place-of (s ∷ ss) [] ts us ps a b = absurd (cc)
share_place-of (s ∷ ss) (e ∷ es) [] us [] a b = absurd (cc)
share_place-of (s ∷ ss) (e ∷ es) [] [] (p ∷ ps) a b = absurd (cc)
share_place-of (s ∷ ss) (e ∷ es) [] (u ∷ us) (p ∷ ps) a b = absurd (cc)
share_place-of (s ∷ ss) (e ∷ es) (t ∷ ts) [] ps a b = absurd (cc)
share_place-of (s ∷ ss) (e ∷ es) (t ∷ ts) (u ∷ us) [] a b = absurd (cc)
share_place-of (s ∷ ss) (e ∷ es) (t ∷ ts) (u ∷ us) (p ∷ ps) a b =
    let x = both _ _ a in
    let y = both _ _ b in
    let z = both _ _ x.0 in
    let w = both _ _ y.0 in
    let from = leb-true s p z.0 in
    let below = ltb-true p (s + e) z.1 in
    let from' = leb-true t p w.0 in
    let below' = ltb-true p (t + u) w.1 in
    let h : ltb (max s t) (min (s + e) (t + u)) ≡ true = lt-ltb (max s t) (min (s + e) (t + u)) (omega arith) in
    rw (h, share_place-of ss es ts us ps x.1 y.1) refl

-- boxes that share a place have one in common
pub share_place-has : (ss es ts us : List ℕ) → share_place ss es ts us ≡ true → (ps : List ℕ) × (is_in_box ss es ps ≡ true) × (is_in_box ts us ps ≡ true)
share_place-has [] [] [] [] h = ([], refl, refl)
share_place-has [] [] [] (u ∷ us) h = absurd (cc)
share_place-has [] [] (t ∷ ts) us h = absurd (cc)
share_place-has [] (e ∷ es) ts us h = absurd (cc)
share_place-has (s ∷ ss) [] ts us h = absurd (cc)
share_place-has (s ∷ ss) (e ∷ es) [] us h = absurd (cc)
share_place-has (s ∷ ss) (e ∷ es) (t ∷ ts) [] h = absurd (cc)
share_place-has (s ∷ ss) (e ∷ es) (t ∷ ts) (u ∷ us) h =
    let x = both _ _ h in
    let i = share_place-has ss es ts us x.1 in
    let l = ltb-true (max s t) (min (s + e) (t + u)) x.0 in
    let a : leb s (max s t) ≡ true = le-leb s (max s t) (omega arith) in
    let b : ltb (max s t) (s + e) ≡ true = lt-ltb (max s t) (s + e) (omega arith) in
    let c : leb t (max s t) ≡ true = le-leb t (max s t) (omega arith) in
    let d : ltb (max s t) (t + u) ≡ true = lt-ltb (max s t) (t + u) (omega arith) in
    (max s t ∷ i.0, rw (a, b, i.1) refl, rw (c, d, i.2) refl)
