-- The chunks that a box intersects lie from the chunk of its first place to that of its last.
use Rattle.std.proofs.Common.{◌≡◌, ℕ, zero, suc, ◌+◌, ◌-◌, ◌<◌, ◌≤◌, ◌^◌, Bool, true, false, List, [], ◌∷◌, length, get_or, refl, ap, subst, arith}
use Rattle.std.proofs.Math.Dec.{ltb}
use Rattle.std.proofs.lemmas.Bool.{le-leb, lt-ltb, leb-true, ltb-true, ltb-false, false≢true}
use Rattle.zarr_grids_boxes.specs.Boxes.{product, is_in_box, EndsFit, last_index}
use Rattle.zarr_grids_boxes.proofs.Dimensions.{positive-drop, ravel_below}
use Rattle.zarr_grids_boxes.proofs.Places.{both, in_box_below}
use Rattle.zarr_grids_chunks.specs.Grids.{Dimension, Grid}
use Rattle.zarr_grids_dimensions.specs.Lookups.{is_dimension, interval_has, chunk_has, are_dimensions}
use Rattle.zarr_grids_dimensions.specs.Chunks.{SharesPlace, counts_to}
use Rattle.zarr_grids_dimensions.proofs.Monotone.{monotone, first_place, number_least}

-- ---- in one dimension
pub record Shares (d : Dimension) (s x k : ℕ) : Type 0 where
  pub place : ℕ
  pub from : s ≤ place
  pub to : place < s + x
  pub lies : interval_has d k place ≡ true

intersects_along : (d : Dimension) (a b s x k : ℕ) → is_dimension d ≡ true → 0 < x → interval_has d a s ≡ true → interval_has d b (s + (x - 1)) ≡ true → a ≤ k → k < a + (b - a + 1) → Shares d s x k
intersects_along d a b s x k t pos i j h l = go (ltb a k) refl where
  pick : (f : ℕ) → interval_has d k f ≡ true → f ≤ s + (x - 1) → a < k → Shares d s x k
  pick f u v m = later (ltb f s) refl where
    later : (b : Bool) → ltb f s ≡ b → Shares d s x k
    later false e = record { place = f; from = ltb-false f s e; to = omega arith; lies = u }
    later true e = let l = ltb-true f s e in let no = monotone d k a f s u i (omega arith) in absurd (omega arith)

  go : (c : Bool) → ltb a k ≡ c → Shares d s x k
  go false e =
      let m = ltb-false a k e in
      let q : a ≡ k = omega arith in
      record { place = s; from = omega arith; to = omega arith; lies = subst (λ (n : ℕ). interval_has d n s ≡ true) q i }
  go true e =
      let m = ltb-true a k e in
      let n = monotone d a b s (s + (x - 1)) i j (omega arith) in
      let f = first_place d k b (s + (x - 1)) t j (omega arith) in
      pick f.0 f.1 f.2 m

along_intersects : (d : Dimension) (a b s x k p : ℕ) → interval_has d a s ≡ true → interval_has d b (s + (x - 1)) ≡ true → s ≤ p → p < s + x → interval_has d k p ≡ true → (a ≤ k) × (k < a + (b - a + 1))
along_intersects d a b s x k p i j h l m =
    let f = monotone d a k s p i m h in
    let t = monotone d k b p (s + (x - 1)) m j (omega arith) in
    (f, omega arith)

-- ---- in all
abbrev pub Intersecting : Grid → List ℕ → List ℕ → List ℕ → List ℕ → List ℕ → Type 0
Intersecting grid ss xs fs bs chunk = (is_in_box fs (counts_to fs bs) chunk ≡ true → SharesPlace grid (record { start = ss; shape = xs }) chunk) × (SharesPlace grid (record { start = ss; shape = xs }) chunk → is_in_box fs (counts_to fs bs) chunk ≡ true)

more : (d : Dimension) (ds : Grid) (a b s x : ℕ) (fs bs ss xs : List ℕ) → is_dimension d ≡ true → 0 < x → interval_has d a s ≡ true → interval_has d b (s + (x - 1)) ≡ true
    → ((chunk : List ℕ) → Intersecting ds ss xs fs bs chunk) → (chunk : List ℕ) → Intersecting (d ∷ ds) (s ∷ ss) (x ∷ xs) (a ∷ fs) (b ∷ bs) chunk
more d ds a b s x fs bs ss xs t pos i j r [] = (λ h. absurd (false≢true h), λ m. absurd (false≢true m.2))
more d ds a b s x fs bs ss xs t pos i j r (k ∷ ks) = (onward, λ m. back m.0 m.1 m.2) where
  onward : is_in_box (a ∷ fs) ((b - a + 1) ∷ counts_to fs bs) (k ∷ ks) ≡ true → SharesPlace (d ∷ ds) (record { start = s ∷ ss; shape = x ∷ xs }) (k ∷ ks)
  onward h =
      let u = both _ _ h in
      let v = both _ _ u.0 in
      let p = intersects_along d a b s x k t pos i j (leb-true a k v.0) (ltb-true k (a + (b - a + 1)) v.1) in
      let rest = (r ks).0 u.1 in
      let e = le-leb s p.place p.from in
      let f = lt-ltb p.place (s + x) p.to in
      (p.place ∷ rest.0, rw (e, f, rest.1) refl, rw (p.lies, rest.2) refl)

  back : (place : List ℕ) → is_in_box (s ∷ ss) (x ∷ xs) place ≡ true → chunk_has (d ∷ ds) (k ∷ ks) place ≡ true → is_in_box (a ∷ fs) ((b - a + 1) ∷ counts_to fs bs) (k ∷ ks) ≡ true
  back [] h g = absurd (false≢true h)
  back (p ∷ ps) h g =
      let u = both _ _ h in
      let v = both _ _ u.0 in
      let w = both _ _ g in
      let q = along_intersects d a b s x k p i j (leb-true s p v.0) (ltb-true p (s + x) v.1) w.0 in
      let rest = (r ks).1 (ps, u.1, w.1) in
      rw (le-leb a k q.0, lt-ltb k (a + (b - a + 1)) q.1, rest) refl

none : (chunk : List ℕ) → Intersecting [] [] [] [] [] chunk
none [] = (λ h. ([], refl, refl), λ m. refl)
none (k ∷ ks) = (λ h. absurd (false≢true h), λ m. absurd (false≢true m.2))

-- the chunks that a box intersects
pub intersecting_box : (grid : Grid) (fs ss xs bs : List ℕ) → are_dimensions grid ≡ true → 0 < product xs → length xs ≡ length ss → chunk_has grid fs ss ≡ true → chunk_has grid bs (last_index ss xs) ≡ true
    → (chunk : List ℕ) → Intersecting grid ss xs fs bs chunk
intersecting_box [] [] [] [] [] t pos l i j chunk = none chunk
intersecting_box [] [] [] [] (b ∷ bs) t pos l i j chunk = absurd (false≢true j)
intersecting_box [] [] [] (x ∷ xs) bs t pos l i j chunk = absurd (omega arith)
intersecting_box [] [] (s ∷ ss) xs bs t pos l i j chunk = absurd (false≢true i)
intersecting_box [] (a ∷ fs) ss xs bs t pos l i j chunk = absurd (false≢true i)
intersecting_box (d ∷ ds) [] ss xs bs t pos l i j chunk = absurd (false≢true i)
intersecting_box (d ∷ ds) (a ∷ fs) [] xs bs t pos l i j chunk = absurd (false≢true i)
intersecting_box (d ∷ ds) (a ∷ fs) (s ∷ ss) [] bs t pos l i j chunk = absurd (omega arith)
intersecting_box (d ∷ ds) (a ∷ fs) (s ∷ ss) (x ∷ xs) [] t pos l i j chunk = absurd (false≢true j)
intersecting_box (d ∷ ds) (a ∷ fs) (s ∷ ss) (x ∷ xs) (b ∷ bs) t pos l i j chunk =
    let u = both _ _ t in
    let v = both _ _ i in
    let w = both _ _ j in
    let p = positive-drop (x ∷ xs) 0 (omega arith) pos in
    more d ds a b s x fs bs ss xs u.0 p.0 v.0 w.0 (intersecting_box ds fs ss xs bs u.1 p.1 (omega arith) v.1 w.1) chunk

-- ---- the first and the last chunk of a box
pub record Ordered (fs bs : List ℕ) : Type 0 where
  pub same : length bs ≡ length fs
  pub order : (k : ℕ) → k < length fs → get_or fs k 0 ≤ get_or bs k 0
  pub fit : (k : ℕ) → k < length fs → get_or bs k 0 + 1 < 2 ^ 64
  pub box : EndsFit fs (counts_to fs bs)

ordered-more : (a b : ℕ) (fs bs : List ℕ) → a ≤ b → b + 1 < 2 ^ 64 → Ordered fs bs → Ordered (a ∷ fs) (b ∷ bs)
ordered-more a b fs bs h g o = record { same = ap (λ n. suc n) o.same; order = order; fit = fit; box = box } where
  order : (k : ℕ) → k < length (a ∷ fs) → get_or (a ∷ fs) k 0 ≤ get_or (b ∷ bs) k 0
  order zero l = h
  order (suc k) l = o.order k (omega arith)

  fit : (k : ℕ) → k < length (a ∷ fs) → get_or (b ∷ bs) k 0 + 1 < 2 ^ 64
  fit zero l = g
  fit (suc k) l = o.fit k (omega arith)

  box : EndsFit (a ∷ fs) ((b - a + 1) ∷ counts_to fs bs)
  box zero l = let q : a + (b - a + 1) < 2 ^ 64 = omega arith in q
  box (suc k) l = o.box k (omega arith)

pub ordered_box : (grid : Grid) (fs ss xs bs : List ℕ) → are_dimensions grid ≡ true → 0 < product xs → length xs ≡ length ss → EndsFit ss xs → chunk_has grid fs ss ≡ true → chunk_has grid bs (last_index ss xs) ≡ true → Ordered fs bs
ordered_box [] [] [] [] [] t pos l f i j = record { same = refl; order = λ k h. absurd (omega arith); fit = λ k h. absurd (omega arith); box = λ k h. absurd (omega arith) }
ordered_box [] [] [] [] (b ∷ bs) t pos l f i j = absurd (false≢true j)
ordered_box [] [] [] (x ∷ xs) bs t pos l f i j = absurd (omega arith)
ordered_box [] [] (s ∷ ss) xs bs t pos l f i j = absurd (false≢true i)
ordered_box [] (a ∷ fs) ss xs bs t pos l f i j = absurd (false≢true i)
ordered_box (d ∷ ds) [] ss xs bs t pos l f i j = absurd (false≢true i)
ordered_box (d ∷ ds) (a ∷ fs) [] xs bs t pos l f i j = absurd (false≢true i)
ordered_box (d ∷ ds) (a ∷ fs) (s ∷ ss) [] bs t pos l f i j = absurd (omega arith)
ordered_box (d ∷ ds) (a ∷ fs) (s ∷ ss) (x ∷ xs) [] t pos l f i j = absurd (false≢true j)
ordered_box (d ∷ ds) (a ∷ fs) (s ∷ ss) (x ∷ xs) (b ∷ bs) t pos l f i j =
    let u = both _ _ t in
    let v = both _ _ i in
    let w = both _ _ j in
    let p = positive-drop (x ∷ xs) 0 (omega arith) pos in
    let n = number_least d b (s + (x - 1)) u.0 w.0 in
    let m = monotone d a b s (s + (x - 1)) v.0 w.0 (omega arith) in
    let x' = p.0 in
    let e : s + x < 2 ^ 64 = f 0 (omega arith) in
    ordered-more a b fs bs m (omega arith) (ordered_box ds fs ss xs bs u.1 p.1 (omega arith) (λ k h. f (suc k) (omega arith)) v.1 w.1)

-- a box with a place is not empty
pub lies_in_interval_some : (ss es ps : List ℕ) → is_in_box ss es ps ≡ true → 0 < product es
lies_in_interval_some ss es ps t = let b = ravel_below _ _ (in_box_below ss es ps t) in omega arith
