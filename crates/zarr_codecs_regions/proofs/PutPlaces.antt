-- What a list holds at a place after others were put at some of its places.
use Rattle.std.proofs.Common.{◌≡◌, ◌≢◌, ◌∙◌, ◌⊎◌, inl, inr, ℕ, zero, suc, ◌<◌, List, [], ◌∷◌, length, get_or, set, refl, sym, ap, arith, Bool, true, false, ◌==◌}
use Rattle.std.proofs.lemmas.Bool.{eqb-true, eq-eqb}
use Rattle.std.proofs.lemmas.List.{get_or-set_same, get_or-set_other, length-set}
use Rattle.zarr_codecs_regions.specs.Updates.{put}

pub length-put : {X : Type 0} (ns : List ℕ) (xs ys : List X) → length (put ns xs ys) ≡ length ys
length-put [] xs ys = refl
length-put (n ∷ ns) [] ys = refl
length-put (n ∷ ns) (x ∷ xs) ys = length-put ns xs (set ys n x) ∙ length-set ys n x

-- the element at a place is one of those that were put there
pub record WasPut {X : Type 0} (ns : List ℕ) (xs ys : List X) (m : ℕ) (d : X) : Type 0 where
  pub at_ : ℕ
  pub below : at_ < length ns
  pub there : get_or ns at_ 0 ≡ m
  pub is : get_or (put ns xs ys) m d ≡ get_or xs at_ d

-- nothing was put at the place
pub record WasKept {X : Type 0} (ns : List ℕ) (xs ys : List X) (m : ℕ) (d : X) : Type 0 where
  pub none : (a : ℕ) → a < length ns → get_or ns a 0 ≢ m
  pub is : get_or (put ns xs ys) m d ≡ get_or ys m d

not_first : (n m : ℕ) (ns : List ℕ) → n ≢ m → ((a : ℕ) → a < length ns → get_or ns a 0 ≢ m) → (a : ℕ) → a < length (n ∷ ns) → get_or (n ∷ ns) a 0 ≢ m
not_first n m ns other none zero below = other
not_first n m ns other none (suc a) below = none a (omega arith)

at_first : {X : Type 0} (n : ℕ) (x : X) (ns : List ℕ) (xs ys : List X) (m : ℕ) (d : X) → m < length ys → WasKept ns xs (set ys n x) m d → (b : Bool) → (n == m) ≡ b → WasPut (n ∷ ns) (x ∷ xs) ys m d ⊎ WasKept (n ∷ ns) (x ∷ xs) ys m d
at_first n x ns xs ys m d below kept true e =
    let same : n ≡ m = eqb-true n m e in
    inl (record { at_ = 0; below = omega arith; there = same; is = kept.is ∙ (ap (λ k. get_or (set ys n x) k d) (sym same) ∙ get_or-set_same ys n x d (omega (arith, below, same))) })
at_first n x ns xs ys m d below kept false e =
    let other : n ≢ m = λ same. let yes = eq-eqb n m same in cc in
    inr (record { none = not_first n m ns other kept.none; is = kept.is ∙ get_or-set_other ys n m x d (λ same. other (sym same)) })

pub put_cases : {X : Type 0} (ns : List ℕ) (xs ys : List X) (m : ℕ) (d : X) → length xs ≡ length ns → m < length ys → WasPut ns xs ys m d ⊎ WasKept ns xs ys m d
put_cases [] xs ys m d same below = inr (record { none = λ a low. absurd (omega arith); is = refl })
put_cases (n ∷ ns) [] ys m d same below = absurd (omega (arith, same))
put_cases (n ∷ ns) (x ∷ xs) ys m d same below =
    let long = length-set ys n x in
    elim (put_cases ns xs (set ys n x) m d (omega (arith, same)) (omega (arith, below, long))) [
      | inl was ↦ let low = was.below in inl (record { at_ = suc was.at_; below = omega (arith, low); there = was.there; is = was.is })
      | inr kept ↦ at_first n x ns xs ys m d below kept (n == m) refl
    ]
