-- Walks that find the chunk of a place, dimension by dimension.
use Rattle.std.proofs.Common.{◌≡◌, ◌∙◌, ℕ, suc, ◌+◌, ◌<◌, ◌≤◌, true, List, [], ◌∷◌, ◌++◌, length, get_or, drop, refl, sym, ap, subst, add-one, Option, Some, None, append_assoc, append-nil}
use Rattle.std.proofs.Math.Seq.{drop-cons}
use Rattle.std.proofs.Math.ListN.{drop_of_length-le}
use Rattle.zarr_grids_boxes.proofs.Places.{both}
use Rattle.zarr_grids_chunks.specs.Grids.{Dimension, Grid}
use Rattle.zarr_grids_dimensions.specs.declared.dimension.Dimension.{Dimension as DeclaredDimension}
use Rattle.zarr_grids_dimensions.specs.Dimensions.{dimension_of, grid_of}
use Rattle.zarr_grids_dimensions.specs.Lookups.{interval_has, chunk_has}

-- the chunks of a place are what was found and a chunk of what is left
pub record FoundSoFar (grid : Grid) (place found : List ℕ) (left : Grid) (rest : List ℕ) : Type 0 where
  pub onward : (chunk : List ℕ) → chunk_has left chunk rest ≡ true → chunk_has grid (found ++ chunk) place ≡ true
  pub back : (chunk : List ℕ) → chunk_has grid chunk place ≡ true → (cs : List ℕ) × (chunk ≡ found ++ cs) × (chunk_has left cs rest ≡ true)

-- a chunk number that alone has the place
abbrev pub Alone : Dimension → ℕ → Option ℕ → Type 0
Alone d p found = (k : ℕ) → (found ≡ Some k → interval_has d k p ≡ true) × (interval_has d k p ≡ true → found ≡ Some k)

pub found-start : (grid : Grid) (place : List ℕ) → FoundSoFar grid place [] grid place
found-start grid place = record { onward = λ chunk h. h; back = λ chunk h. (chunk, refl, h) }

found-more : (grid : Grid) (place found : List ℕ) (d : Dimension) (ds : Grid) (p n : ℕ) (ps : List ℕ) → Alone d p (Some n) → FoundSoFar grid place found (d ∷ ds) (p ∷ ps)
    → FoundSoFar grid place (found ++ n ∷ []) ds ps
found-more grid place found d ds p n ps a f = record { onward = onward; back = back } where
  onward : (chunk : List ℕ) → chunk_has ds chunk ps ≡ true → chunk_has grid ((found ++ n ∷ []) ++ chunk) place ≡ true
  onward chunk h =
      let i : chunk_has (d ∷ ds) (n ∷ chunk) (p ∷ ps) ≡ true = rw ((a n).0 refl, h) refl in
      subst (λ (c : List ℕ). chunk_has grid c place ≡ true) (sym (append_assoc found (n ∷ []) chunk)) (f.onward (n ∷ chunk) i)

  split : (chunk cs : List ℕ) → chunk ≡ found ++ cs → chunk_has (d ∷ ds) cs (p ∷ ps) ≡ true → (ks : List ℕ) × (chunk ≡ (found ++ n ∷ []) ++ ks) × (chunk_has ds ks ps ≡ true)
  split chunk [] e h = absurd (cc)
  split chunk (k ∷ ks) e h =
      let x = both _ _ h in
      let q : Some n ≡ Some k = (a k).1 x.0 in
      let r : k ≡ n = cc in
      (ks, e ∙ ap (λ m. found ++ m ∷ ks) r ∙ sym (append_assoc found (n ∷ []) ks), x.1)

  back : (chunk : List ℕ) → chunk_has grid chunk place ≡ true → (ks : List ℕ) × (chunk ≡ (found ++ n ∷ []) ++ ks) × (chunk_has ds ks ps ≡ true)
  back chunk h = let b = f.back chunk h in split chunk b.0 b.1 b.2

none-here : (grid : Grid) (place found : List ℕ) (d : Dimension) (ds : Grid) (p : ℕ) (ps : List ℕ) → Alone d p None → FoundSoFar grid place found (d ∷ ds) (p ∷ ps)
    → (chunk : List ℕ) → chunk_has grid chunk place ≡ true → ⊥
none-here grid place found d ds p ps a f chunk h = let b = f.back chunk h in go b.0 b.2 where
  go : (cs : List ℕ) → chunk_has (d ∷ ds) cs (p ∷ ps) ≡ true → ⊥
  go [] t = absurd (cc)
  go (k ∷ ks) t = let x = both _ _ t in let q = (a k).1 x.0 in absurd (cc)

-- the dimension and the number at an index, and those after it
pub grid-at : (ds : List DeclaredDimension) (i : ℕ) (d : DeclaredDimension) → i < length ds → d ≡ get_or ds i d → grid_of (drop i ds) ≡ dimension_of d ∷ grid_of (drop (i + 1) ds)
grid-at ds i d h e =
    let s : i + 1 ≡ suc i = add-one i in
    ap (λ xs. grid_of xs) (drop-cons ds i d h ∙ ap (λ x. x ∷ drop (suc i) ds) (sym e) ∙ ap (λ j. d ∷ drop j ds) (sym s))

pub numbers-at : (ns : List ℕ) (i n : ℕ) → i < length ns → n ≡ get_or ns i 0 → drop i ns ≡ n ∷ drop (i + 1) ns
numbers-at ns i n h e =
    let s : i + 1 ≡ suc i = add-one i in
    drop-cons ns i 0 h ∙ ap (λ x. x ∷ drop (suc i) ns) (sym e) ∙ ap (λ j. n ∷ drop j ns) (sym s)

pub found-step : (ds : List DeclaredDimension) (place found : List ℕ) (i p n : ℕ) (d : DeclaredDimension) → i < length ds → i < length place → d ≡ get_or ds i d → p ≡ get_or place i 0
    → Alone (dimension_of d) p (Some n) → FoundSoFar (grid_of ds) place found (grid_of (drop i ds)) (drop i place) → FoundSoFar (grid_of ds) place (found ++ n ∷ []) (grid_of (drop (i + 1) ds)) (drop (i + 1) place)
found-step ds place found i p n d h l e g a f =
    found-more (grid_of ds) place found (dimension_of d) _ p n _ a
    (subst (λ ps. FoundSoFar (grid_of ds) place found (dimension_of d ∷ grid_of (drop (i + 1) ds)) ps) (numbers-at place i p l g)
    (subst (λ xs. FoundSoFar (grid_of ds) place found xs (drop i place)) (grid-at ds i d h e) f))

-- no chunk has the place
pub found-none : (ds : List DeclaredDimension) (place found : List ℕ) (i p : ℕ) (d : DeclaredDimension) → i < length ds → i < length place → d ≡ get_or ds i d → p ≡ get_or place i 0
    → Alone (dimension_of d) p None → FoundSoFar (grid_of ds) place found (grid_of (drop i ds)) (drop i place)
    → (chunk : List ℕ) → (None ≡ Some chunk → chunk_has (grid_of ds) chunk place ≡ true) × (chunk_has (grid_of ds) chunk place ≡ true → None ≡ Some chunk)
found-none ds place found i p d h l e g a f chunk = (
  λ q. absurd (cc),
  λ t. absurd (none-here (grid_of ds) place found (dimension_of d) (grid_of (drop (i + 1) ds)) p (drop (i + 1) place) a
      (subst (λ ps. FoundSoFar (grid_of ds) place found (dimension_of d ∷ grid_of (drop (i + 1) ds)) ps) (numbers-at place i p l g)
      (subst (λ xs. FoundSoFar (grid_of ds) place found xs (drop i place)) (grid-at ds i d h e) f)) chunk t),
)

-- what was found is the chunk
pub found-all : (ds : List DeclaredDimension) (place found : List ℕ) (i : ℕ) → length ds ≤ i → length place ≤ i → FoundSoFar (grid_of ds) place found (grid_of (drop i ds)) (drop i place)
    → (chunk : List ℕ) → (Some found ≡ Some chunk → chunk_has (grid_of ds) chunk place ≡ true) × (chunk_has (grid_of ds) chunk place ≡ true → Some found ≡ Some chunk)
found-all ds place found i h l f chunk = (
  λ q. let r : found ≡ chunk = cc in subst (λ c. chunk_has (grid_of ds) c place ≡ true) r (subst (λ c. chunk_has (grid_of ds) c place ≡ true) (append-nil found) (e.onward [] refl)),
  λ t. let b = e.back chunk t in ap (λ c. Some c) (sym (b.1 ∙ ap (λ cs. found ++ cs) (nil b.0 b.2) ∙ append-nil found)),
) where
  e : FoundSoFar (grid_of ds) place found [] []
  e = subst (λ ps. FoundSoFar (grid_of ds) place found [] ps) (drop_of_length-le place l) (subst (λ xs. FoundSoFar (grid_of ds) place found (grid_of xs) (drop i place)) (drop_of_length-le ds h) f)

  nil : (cs : List ℕ) → chunk_has [] cs [] ≡ true → cs ≡ []
  nil [] t = refl
  nil (k ∷ ks) t = absurd (cc)
