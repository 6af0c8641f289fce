-- The places that a box and a chunk share, as the chunk's codecs number them.
use Rattle.std.proofs.Common.{◌≡◌, ℕ, ◌+◌, ◌-◌, ◌≤◌, Bool, true, false, max, List, [], ◌∷◌, length, map, refl, sym, ap, arith}
use Rattle.std.proofs.Math.Dec.{leb, ltb}
use Rattle.std.proofs.lemmas.Bool.{le-leb, lt-ltb, leb-true, ltb-true}
use Rattle.zarr_grids_boxes.specs.Boxes.{Region, ravel, each2, is_in_box}
use Rattle.zarr_grids_boxes.specs.Cuts.{overlapped, relative}
use Rattle.zarr_grids_boxes.proofs.Places.{both}
use Rattle.zarr_array_meaning.specs.Chunks.{number_in}

-- ---- places as seen from the chunk's start

same_bool : (a b : Bool) → (a ≡ true → b ≡ true) → (b ≡ true → a ≡ true) → a ≡ b
same_bool true b f g = sym (f refl)
same_bool false true f g = g refl
same_bool false false f g = refl

moved_low : (m o p : ℕ) → o ≤ m → o ≤ p → leb (m - o) (p - o) ≡ leb m p
moved_low m o p h k =
    same_bool (leb (m - o) (p - o)) (leb m p) (λ e. le-leb m p (let low = leb-true (m - o) (p - o) e in omega (arith, low, h, k))) (λ e. le-leb (m - o) (p - o) (let low = leb-true m p e in omega (arith, low, h, k)))

moved_high : (m o p e : ℕ) → o ≤ m → o ≤ p → ltb (p - o) (m - o + e) ≡ ltb p (m + e)
moved_high m o p e h k =
    same_bool (ltb (p - o) (m - o + e)) (ltb p (m + e)) (λ f. lt-ltb p (m + e) (let low = ltb-true (p - o) (m - o + e) f in omega (arith, low, h, k))) (λ f. lt-ltb (p - o) (m - o + e) (let low = ltb-true p (m + e) f in omega (arith, low, h, k)))

in_box_moved : (os ss es ps us : List ℕ) → is_in_box os us ps ≡ true → length ss ≡ length os → is_in_box (each2 (λ s o. s - o) (each2 max ss os) os) es (each2 (λ p o. p - o) ps os) ≡ is_in_box (each2 max ss os) es ps
in_box_moved [] [] es [] us h l = refl
in_box_moved [] (s ∷ ss) es ps us h l = absurd (omega arith)
in_box_moved [] [] es (p ∷ ps) [] h l = absurd (cc)
in_box_moved [] [] es (p ∷ ps) (u ∷ us) h l = absurd (cc)
in_box_moved (o ∷ os) [] es ps us h l = absurd (omega arith)
in_box_moved (o ∷ os) (s ∷ ss) es ps [] h l = absurd (cc)
in_box_moved (o ∷ os) (s ∷ ss) es [] (u ∷ us) h l = absurd (cc)
in_box_moved (o ∷ os) (s ∷ ss) [] (p ∷ ps) (u ∷ us) h l = refl
in_box_moved (o ∷ os) (s ∷ ss) (e ∷ es) (p ∷ ps) (u ∷ us) h l =
    let a = both _ _ h in
    let b = both _ _ a.0 in
    let from = leb-true o p b.0 in
    let low : leb (max s o - o) (p - o) ≡ leb (max s o) p = moved_low (max s o) o p (omega arith) from in
    let high : ltb (p - o) (max s o - o + e) ≡ ltb p (max s o + e) = moved_high (max s o) o p e (omega arith) from in
    rw (low, high, in_box_moved os ss es ps us a.1 (omega arith)) refl

-- a place of the chunk lies in the part where it lies in the shared box
pub in_part : (region box : Region) (place : List ℕ) → length region.start ≡ length box.start → is_in_box box.start box.shape place ≡ true
    → is_in_box (relative (overlapped region box) box.start).start (relative (overlapped region box) box.start).shape (each2 (λ p s. p - s) place box.start) ≡ is_in_box (overlapped region box).start (overlapped region box).shape place
in_part region box place rank t = in_box_moved box.start region.start (overlapped region box).shape place box.shape t rank

moved_twice : (os ss ps us : List ℕ) → is_in_box os us ps ≡ true → length ss ≡ length os → each2 (λ p s. p - s) (each2 (λ p o. p - o) ps os) (each2 (λ s o. s - o) (each2 max ss os) os) ≡ each2 (λ p s. p - s) ps (each2 max ss os)
moved_twice [] [] [] us h l = refl
moved_twice [] (s ∷ ss) ps us h l = absurd (omega arith)
moved_twice [] [] (p ∷ ps) [] h l = absurd (cc)
moved_twice [] [] (p ∷ ps) (u ∷ us) h l = absurd (cc)
moved_twice (o ∷ os) [] ps us h l = absurd (omega arith)
moved_twice (o ∷ os) (s ∷ ss) ps [] h l = absurd (cc)
moved_twice (o ∷ os) (s ∷ ss) [] (u ∷ us) h l = absurd (cc)
moved_twice (o ∷ os) (s ∷ ss) (p ∷ ps) (u ∷ us) h l =
    let a = both _ _ h in
    let b = both _ _ a.0 in
    let from = leb-true o p b.0 in
    let here : p - o - (max s o - o) ≡ p - max s o = omega (arith, from) in
    rw (here, moved_twice os ss ps us a.1 (omega arith)) refl

-- it has the same number there
pub number_in_part : (region box : Region) (place : List ℕ) → length region.start ≡ length box.start → is_in_box box.start box.shape place ≡ true
    → number_in (relative (overlapped region box) box.start) (each2 (λ p s. p - s) place box.start) ≡ number_in (overlapped region box) place
number_in_part region box place rank t = ap (λ ps. ravel ps (overlapped region box).shape) (moved_twice box.start region.start place box.shape t rank)

-- a place as seen from nowhere
pub minus_zeros : (es ps : List ℕ) → length ps ≡ length es → each2 (λ p s. p - s) ps (map (λ _. 0) es) ≡ ps
minus_zeros [] [] l = refl
minus_zeros [] (p ∷ ps) l = absurd (omega arith)
minus_zeros (e ∷ es) [] l = absurd (omega arith)
minus_zeros (e ∷ es) (p ∷ ps) l = let here : p - 0 ≡ p = omega arith in rw (here, minus_zeros es ps (omega arith)) refl
