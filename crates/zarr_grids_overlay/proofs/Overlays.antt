-- The bytes of a box by its first dimension, and which of them an overlay changes.
use Rattle.std.proofs.Common.{◌≡◌, ℕ, zero, suc, ◌+◌, ◌*◌, ◌<◌, ◌≤◌, ◌⊎◌, inl, inr, ◌&&◌, Bool, true, false, cond, nat_le, nat_lt, List, [], ◌∷◌, length, map, get_or, drop, refl, sym, ap, ◌∙◌, arith}
use Rattle.std.specs.List.{range_with_len, flat_map}
use Rattle.std.proofs.lemmas.Bool.{le-leb, lt-ltb, leb-true, le-ltb}
use Rattle.std.proofs.lemmas.List.{append-nil}
use Rattle.std.proofs.lemmas.List.Folds.{flat_map-map}
use Rattle.std.proofs.Math.Nat.{mul_assoc, mul-pos, mul-zero}
use Rattle.zarr_grids_boxes.specs.Boxes.{product, places, is_in_box}
use Rattle.zarr_grids_boxes.specs.Laid.{laid, overlaid, HasWidth}
use Rattle.zarr_grids_boxes.proofs.Dimensions.{ravel_below}
use Rattle.zarr_grids_boxes.proofs.Places.{in_box_below}
use Rattle.zarr_grids_overlay.proofs.Blocks.{flat_map-flat_map, blocks_congr, length-blocks}

-- the bytes of a box at number k of its first dimension
abbrev pub part : (List ℕ → List ℕ) → List ℕ → List ℕ → ℕ → List ℕ
part f ts es k = laid (λ r. f (k ∷ r)) (drop 1 ts) (drop 1 es)

laid-cons : (f : List ℕ → List ℕ) (t e : ℕ) (ts es : List ℕ) → laid f (t ∷ ts) (e ∷ es) ≡ flat_map (λ k. laid (λ r. f (k ∷ r)) ts es) (range_with_len t e)
laid-cons f t e ts es =
    flat_map-flat_map f (λ k. map (λ r. k ∷ r) (places ts es)) (range_with_len t e)
    ∙ blocks_congr (λ k. flat_map f (map (λ r. k ∷ r) (places ts es))) (λ k. laid (λ r. f (k ∷ r)) ts es) t e (λ k l u. flat_map-map f (λ r. k ∷ r) (places ts es))

pub laid-parts : (f : List ℕ → List ℕ) (ts es : List ℕ) → 0 < length ts → length es ≡ length ts → laid f ts es ≡ flat_map (part f ts es) (range_with_len (get_or ts 0 0) (get_or es 0 0))
laid-parts f [] es p l = absurd (omega arith)
laid-parts f (t ∷ ts) [] p l = absurd (omega arith)
laid-parts f (t ∷ ts) (e ∷ es) p l = laid-cons f t e ts es

pub length-laid : (f : List ℕ → List ℕ) (width : ℕ) (ts es : List ℕ) → length es ≡ length ts → HasWidth width f → length (laid f ts es) ≡ product es * width
length-laid f width [] [] l h = ap length (append-nil (f [])) ∙ h [] ∙ (let o : width ≡ 1 * width = omega arith in o)
length-laid f width [] (e ∷ es) l h = absurd (omega arith)
length-laid f width (t ∷ ts) [] l h = absurd (omega arith)
length-laid f width (t ∷ ts) (e ∷ es) l h =
    ap length (laid-cons f t e ts es)
    ∙ length-blocks (λ k. laid (λ r. f (k ∷ r)) ts es) (product es * width) t e (λ k. length-laid (λ r. f (k ∷ r)) width ts es (omega arith) (λ r. h (k ∷ r)))
    ∙ sym (mul_assoc e (product es) width)

pub length-part : (f : List ℕ → List ℕ) (width : ℕ) (ts es : List ℕ) → length es ≡ length ts → HasWidth width f → (k : ℕ) → length (part f ts es k) ≡ product (drop 1 es) * width
length-part f width [] [] l h k = length-laid (λ r. f (k ∷ r)) width [] [] l (λ r. h (k ∷ r))
length-part f width [] (e ∷ es) l h k = absurd (omega arith)
length-part f width (t ∷ ts) [] l h k = absurd (omega arith)
length-part f width (t ∷ ts) (e ∷ es) l h k = length-laid (λ r. f (k ∷ r)) width ts es (omega arith) (λ r. h (k ∷ r))

pub HasWidth-overlaid : (width : ℕ) (ss us : List ℕ) (new old : List ℕ → List ℕ) → HasWidth width old → HasWidth width new → HasWidth width (overlaid ss us new old)
HasWidth-overlaid width ss us new old o n place = choose (is_in_box ss us place) (new place) (old place) (n place) (o place) where
  choose : (b : Bool) (x y : List ℕ) → length x ≡ width → length y ≡ width → length (cond b x y) ≡ width
  choose true x y p q = p
  choose false x y p q = q

-- ---- one number of the first dimension
at_test : (b c : Bool) (ss us : List ℕ) (new old : List ℕ → List ℕ) (ts es : List ℕ) (k : ℕ) → b ≡ c → laid (λ r. cond (b && is_in_box ss us r) (new (k ∷ r)) (old (k ∷ r))) ts es ≡ laid (λ r. cond (c && is_in_box ss us r) (new (k ∷ r)) (old (k ∷ r))) ts es
at_test b c ss us new old ts es k e = ap (λ v. laid (λ r. cond (v && is_in_box ss us r) (new (k ∷ r)) (old (k ∷ r))) ts es) e

and_false : (a b : Bool) → b ≡ false → (a && b) ≡ false
and_false true b e = e
and_false false b e = refl

within : (s u k : ℕ) → s ≤ k → k < s + u → (nat_le s k && nat_lt k (s + u)) ≡ true
within s u k l h = ap (λ b. b && nat_lt k (s + u)) (le-leb s k l) ∙ lt-ltb k (s + u) h

outside : (s u k : ℕ) → (s ≤ k → s + u ≤ k) → (nat_le s k && nat_lt k (s + u)) ≡ false
outside s u k h = go (nat_le s k) refl where
  go : (b : Bool) → nat_le s k ≡ b → (nat_le s k && nat_lt k (s + u)) ≡ false
  go true e = and_false (nat_le s k) (nat_lt k (s + u)) (le-ltb k (s + u) (h (leb-true s k e)))
  go false e = ap (λ b. b && nat_lt k (s + u)) e

pub part-inside : (ss us : List ℕ) (new old : List ℕ → List ℕ) (ts es : List ℕ) (k : ℕ) → 0 < length ss → length us ≡ length ss → get_or ss 0 0 ≤ k → k < get_or ss 0 0 + get_or us 0 0 → part (overlaid ss us new old) ts es k ≡ laid (overlaid (drop 1 ss) (drop 1 us) (λ r. new (k ∷ r)) (λ r. old (k ∷ r))) (drop 1 ts) (drop 1 es)
part-inside [] us new old ts es k p l a b = absurd (omega arith)
part-inside (s ∷ ss) [] new old ts es k p l a b = absurd (omega arith)
part-inside (s ∷ ss) (u ∷ us) new old ts es k p l a b = at_test _ true ss us new old (drop 1 ts) (drop 1 es) k (within s u k a b)

pub part-outside : (ss us : List ℕ) (new old : List ℕ → List ℕ) (ts es : List ℕ) (k : ℕ) → 0 < length ss → length us ≡ length ss → (get_or ss 0 0 ≤ k → get_or ss 0 0 + get_or us 0 0 ≤ k) → part (overlaid ss us new old) ts es k ≡ part old ts es k
part-outside [] us new old ts es k p l a = absurd (omega arith)
part-outside (s ∷ ss) [] new old ts es k p l a = absurd (omega arith)
part-outside (s ∷ ss) (u ∷ us) new old ts es k p l a = at_test _ false ss us new old (drop 1 ts) (drop 1 es) k (outside s u k a)

-- ---- a whole box
pub laid-overlaid_same : (new old : List ℕ → List ℕ) (ts es : List ℕ) → length es ≡ length ts → laid (overlaid ts es new old) ts es ≡ laid new ts es
laid-overlaid_same new old [] [] l = refl
laid-overlaid_same new old [] (e ∷ es) l = absurd (omega arith)
laid-overlaid_same new old (t ∷ ts) [] l = absurd (omega arith)
laid-overlaid_same new old (t ∷ ts) (e ∷ es) l =
    laid-cons (overlaid (t ∷ ts) (e ∷ es) new old) t e ts es
    ∙ blocks_congr (λ k. laid (λ r. overlaid (t ∷ ts) (e ∷ es) new old (k ∷ r)) ts es) (λ k. laid (λ r. new (k ∷ r)) ts es) t e
    (λ k a b. at_test _ true ts es new old ts es k (within t e k a b) ∙ laid-overlaid_same (λ r. new (k ∷ r)) (λ r. old (k ∷ r)) ts es (omega arith))
    ∙ sym (laid-cons new t e ts es)

pub laid-nothing : (f g : List ℕ → List ℕ) (width : ℕ) (ts es xs : List ℕ) → length es ≡ length ts → HasWidth width f → HasWidth width g → xs ≡ laid f ts es → length xs ≡ 0 → xs ≡ laid g ts es
laid-nothing f g width ts es xs l hf hg e z =
    let a = length-laid f width ts es l hf in
    let b = length-laid g width ts es l hg in
    let c = ap length e in
    nothing xs z ∙ sym (nothing (laid g ts es) (omega arith)) where
      nothing : (ys : List ℕ) → length ys ≡ 0 → ys ≡ []
      nothing [] h = refl
      nothing (y ∷ ys) h = absurd (omega arith)

-- a box with no place changes nothing
pub overlaid-no_place : (ss us : List ℕ) (new old : List ℕ → List ℕ) → product us ≡ 0 → overlaid ss us new old ≡ old
overlaid-no_place ss us new old z = λ i place. (choose (is_in_box ss us place) (new place) (old place) (λ h. no_place place h)) i where
  no_place : (place : List ℕ) → is_in_box ss us place ≡ true → ⊥
  no_place place h = let b = ravel_below _ us (in_box_below ss us place h) in omega arith

  choose : (b : Bool) (x y : List ℕ) → (b ≡ true → ⊥) → cond b x y ≡ y
  choose true x y h = absurd (h refl)
  choose false x y h = refl

zero_factor : (n w : ℕ) → n * w ≡ 0 → (n ≡ 0) ⊎ (w ≡ 0)
zero_factor zero w e = inl refl
zero_factor (suc n) zero e = inr refl
zero_factor (suc n) (suc w) e = let p = mul-pos (let a : 0 < suc n = omega arith in a) (let b : 0 < suc w = omega arith in b) in absurd (omega arith)

-- a source with no byte changes nothing
pub laid-no_source : (ts es ss us : List ℕ) (width : ℕ) (old new : List ℕ → List ℕ) (xs : List ℕ) → length es ≡ length ts → HasWidth width old → HasWidth width new → xs ≡ laid old ts es → product us * width ≡ 0 → xs ≡ laid (overlaid ss us new old) ts es
laid-no_source ts es ss us width old new xs l o n e z = go (zero_factor (product us) width z) where
  go : (product us ≡ 0) ⊎ (width ≡ 0) → xs ≡ laid (overlaid ss us new old) ts es
  go (inl p) = e ∙ ap (λ f. laid f ts es) (sym (overlaid-no_place ss us new old p))
  go (inr w) = laid-nothing old (overlaid ss us new old) width ts es xs l o (HasWidth-overlaid width ss us new old o n) e (ap length e ∙ length-laid old width ts es l o ∙ ap (λ k. product es * k) w ∙ mul-zero (product es))
