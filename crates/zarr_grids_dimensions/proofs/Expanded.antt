-- Repeats and the edges that they stand for.
use Rattle.std.proofs.Common.{◌≡◌, ◌∙◌, ℕ, zero, suc, ◌+◌, ◌*◌, ◌<◌, ◌≤◌, List, [], ◌∷◌, ◌++◌, length, get_or, take, map, replicate, true, refl, sym, ap, subst, arith}
use Rattle.std.specs.Prelude.{sum}
use Rattle.std.proofs.Math.Seq.{take-append-add}
use Rattle.std.proofs.Math.ListN.{get_or-append}
use Rattle.std.proofs.lemmas.List.{length-append, length-map, length-replicate, take-append-le, take-replicate, get_or-append-add, get_or-replicate}
use Rattle.std.proofs.lemmas.List.Sums.{sum_by-append}
use Rattle.std.proofs.lemmas.List.Folds.{sum_by-replicate}
use Rattle.std.proofs.lemmas.Bool.{lt-ltb, ltb-true}
use Rattle.zarr_grids_boxes.proofs.Places.{both}
use Rattle.zarr_grids_dimensions.specs.declared.repeat.RepeatedEdge.{RepeatedEdge}
use Rattle.zarr_grids_dimensions.specs.RepeatedEdges.{expanded, edges, counts, lengths}
use Rattle.zarr_grids_dimensions.specs.Lookups.{all_positive}
use Rattle.zarr_grids_dimensions.proofs.Running.{sum-cons}

pub length-expanded : (repeats : List RepeatedEdge) → length (expanded repeats) ≡ sum (counts repeats)
length-expanded [] = refl
length-expanded (r ∷ rs) = let i = length-expanded rs in let a = length-append (replicate r.count r.edge) (expanded rs) in let b = length-replicate r.count r.edge in
    let s = sum-cons r.count (counts rs) in
    let g : length (replicate r.count r.edge ++ expanded rs) ≡ sum (r.count ∷ counts rs) = omega arith in g

pub sum-expanded : (repeats : List RepeatedEdge) → sum (expanded repeats) ≡ sum (lengths repeats)
sum-expanded [] = refl
sum-expanded (r ∷ rs) = let i = sum-expanded rs in let a = sum_by-append (λ (x : ℕ). x) (replicate r.count r.edge) (expanded rs) in let b = sum_by-replicate (λ (x : ℕ). x) r.count r.edge in
    let s = sum-cons (r.count * r.edge) (lengths rs) in
    let g : sum (replicate r.count r.edge ++ expanded rs) ≡ sum (r.count * r.edge ∷ lengths rs) = omega arith in g

-- ---- positive numbers
pub positive-at : (ns : List ℕ) (j : ℕ) → j < length ns → all_positive ns ≡ true → 0 < get_or ns j 0
positive-at [] j h t = absurd (omega arith)
positive-at (n ∷ ns) zero h t = ltb-true 0 n (both _ _ t).0
positive-at (n ∷ ns) (suc j) h t = positive-at ns j (omega arith) (both _ _ t).1

positive-replicate : (c e : ℕ) (es : List ℕ) → 0 < e → all_positive es ≡ true → all_positive (replicate c e ++ es) ≡ true
positive-replicate zero e es h t = t
positive-replicate (suc c) e es h t = rw (lt-ltb 0 e h, positive-replicate c e es h t) refl

pub positive-expanded : (repeats : List RepeatedEdge) → all_positive (edges repeats) ≡ true → all_positive (expanded repeats) ≡ true
positive-expanded [] t = refl
positive-expanded (r ∷ rs) t = let p = both _ _ t in positive-replicate r.count r.edge (expanded rs) (ltb-true 0 r.edge p.0) (positive-expanded rs p.1)

-- ---- repeats of one chunk each
least : (ns : List ℕ) → all_positive ns ≡ true → length ns ≤ sum ns
least [] t = omega arith
least (n ∷ ns) t =
    let p = both _ _ t in
    let i = least ns p.1 in
    let b = ltb-true 0 n p.0 in
    let s = sum-cons n ns in
    let g : suc (length ns) ≤ sum (n ∷ ns) = omega arith in g

-- of positive counts whose sum is their number each is 1
pub sum-single : (ns : List ℕ) (k : ℕ) → all_positive ns ≡ true → sum ns ≡ length ns → k ≤ length ns → sum (take k ns) ≡ k
sum-single ns zero t n h = refl
sum-single [] (suc k) t n h = absurd (omega arith)
sum-single (m ∷ ns) (suc k) t n h =
    let p = both _ _ t in
    let b = ltb-true 0 m p.0 in
    let l = least ns p.1 in
    let s = sum-cons m ns in
    let i = sum-single ns k p.1 (omega arith) (omega arith) in
    let v = sum-cons m (take k ns) in
    let g : sum (m ∷ take k ns) ≡ suc k = omega arith in g

pub expanded-single : (repeats : List RepeatedEdge) → all_positive (counts repeats) ≡ true → length (expanded repeats) ≡ length repeats → expanded repeats ≡ lengths repeats
expanded-single [] t n = refl
expanded-single (r ∷ rs) t n =
    let p = both _ _ t in
    let b = ltb-true 0 r.count p.0 in
    let l = least (counts rs) p.1 in
    let m = length-map rs (λ (q : RepeatedEdge). q.count) in
    let k = length-expanded rs in
    let a = length-append (replicate r.count r.edge) (expanded rs) in
    let c = length-replicate r.count r.edge in
    let one : 1 ≡ r.count = omega arith in
    let i = expanded-single rs p.1 (omega arith) in
    let e : r.edge ≡ 1 * r.edge = omega arith in
    subst (λ (w : ℕ). replicate w r.edge ++ expanded rs ≡ w * r.edge ∷ lengths rs) one (ap (λ (x : ℕ). x ∷ expanded rs) e ∙ ap (λ (es : List ℕ). 1 * r.edge ∷ es) i)

-- ---- a chunk of a repeat
pub record IsChunkAt (es : List ℕ) (k first edge : ℕ) : Type 0 where
  pub below : k < length es
  pub first_is : sum (take k es) ≡ first
  pub edge_is : get_or es k 0 ≡ edge

first_repeat : (c e : ℕ) (es : List ℕ) (w : ℕ) → w < c → IsChunkAt (replicate c e ++ es) (0 + w) (0 + w * e) e
first_repeat c e es w h =
    let l = length-replicate c e in
    let z : 0 + w ≡ w = omega arith in
    let y : 0 + w * e ≡ w * e = omega arith in
    let w' : w ≤ length (replicate c e) = omega arith in
    let w'' : w < length (replicate c e) = omega arith in
    rw (z, y) (record {
      below = let a = length-append (replicate c e) es in omega arith;
      first_is = ap (λ (xs : List ℕ). sum xs) (take-append-le w (replicate c e) es w' ∙ take-replicate w c e (omega arith)) ∙ sum_by-replicate (λ (x : ℕ). x) w e;
      edge_is = get_or-append (replicate c e) es 0 w w'' ∙ get_or-replicate c w e 0 h;
    })

later_repeat : (c e : ℕ) (es : List ℕ) (k m first edge : ℕ) → k ≡ c + m → IsChunkAt es m first edge → IsChunkAt (replicate c e ++ es) k (c * e + first) edge
later_repeat c e es k m first edge q i =
    let l = length-replicate c e in
    let z : k ≡ length (replicate c e) + m = omega arith in
    let s = sum_by-append (λ (x : ℕ). x) (replicate c e) (take m es) in
    let r = sum_by-replicate (λ (x : ℕ). x) c e in
    let f = i.first_is in
    let t : sum (take (length (replicate c e) + m) (replicate c e ++ es)) ≡ c * e + first = ap (λ (xs : List ℕ). sum xs) (take-append-add (replicate c e) es m) ∙ omega arith in
    record {
      below = let a = length-append (replicate c e) es in let b = i.below in omega arith;
      first_is = ap (λ (n : ℕ). sum (take n (replicate c e ++ es))) z ∙ t;
      edge_is = ap (λ (n : ℕ). get_or (replicate c e ++ es) n 0) z ∙ get_or-append-add (replicate c e) es m 0 ∙ i.edge_is;
    }

-- chunk w of repeat j
pub in_repeat : (repeats : List RepeatedEdge) (j w : ℕ) (repeat : RepeatedEdge) → j < length repeats → get_or repeats j repeat ≡ repeat → w < repeat.count
    → IsChunkAt (expanded repeats) (sum (take j (counts repeats)) + w) (sum (take j (lengths repeats)) + w * repeat.edge) repeat.edge
in_repeat [] j w repeat h is b = absurd (omega arith)
in_repeat (r ∷ rs) zero w repeat h is b =
    let P : RepeatedEdge → Type 0 = λ (q : RepeatedEdge). w < q.count → IsChunkAt (replicate r.count r.edge ++ expanded rs) (0 + w) (0 + w * q.edge) q.edge in
    subst P is (λ b'. first_repeat r.count r.edge (expanded rs) w b') b
in_repeat (r ∷ rs) (suc j) w repeat h is b =
    let i = in_repeat rs j w repeat (omega arith) is b in
    let s = sum-cons r.count (take j (counts rs)) in
    let t = sum-cons (r.count * r.edge) (take j (lengths rs)) in
    let x : sum (r.count ∷ take j (counts rs)) + w ≡ r.count + (sum (take j (counts rs)) + w) = omega arith in
    let y : sum (r.count * r.edge ∷ take j (lengths rs)) + w * repeat.edge ≡ r.count * r.edge + (sum (take j (lengths rs)) + w * repeat.edge) = omega arith in
    subst (λ (n : ℕ). IsChunkAt (replicate r.count r.edge ++ expanded rs) (sum (r.count ∷ take j (counts rs)) + w) n repeat.edge) (sym y) (later_repeat r.count r.edge (expanded rs) _ _ _ _ x i)

-- what a repeat adds
pub sum-repeat : (f : RepeatedEdge → ℕ) (repeats : List RepeatedEdge) (j : ℕ) (repeat : RepeatedEdge) → j < length repeats → get_or repeats j repeat ≡ repeat → sum (take (suc j) (map f repeats)) ≡ sum (take j (map f repeats)) + f repeat
sum-repeat f [] j repeat h is = absurd (omega arith)
sum-repeat f (r ∷ rs) zero repeat h is = ap (λ (q : RepeatedEdge). 0 + f q) is
sum-repeat f (r ∷ rs) (suc j) repeat h is =
    let i = sum-repeat f rs j repeat (omega arith) is in
    let s = sum-cons (f r) (take (suc j) (map f rs)) in
    let t = sum-cons (f r) (take j (map f rs)) in
    let g : sum (f r ∷ take (suc j) (map f rs)) ≡ sum (f r ∷ take j (map f rs)) + f repeat = omega arith in g
