-- Lookups among the running sums of repeats.
use Rattle.std.proofs.Common.{◌≡◌, ◌∙◌, ℕ, ◌+◌, ◌-◌, ◌*◌, ◌/◌, ◌^◌, ◌<◌, ◌≤◌, true, List, length, get_or, take, map, min, ⊎_elim, refl, sym, ap, subst, arith, add-one, Some, None}
use Rattle.std.specs.Prelude.{sum}
use Rattle.std.specs.List.Sorted.{IsNonDecreasing}
use Rattle.std.proofs.Math.Seq.{take-length}
use Rattle.std.proofs.lemmas.List.{length-map, length-take, get_or-map, get_or-take}
use Rattle.std.proofs.lemmas.List.Sums.{sum_by_more, sum_by_more_le}
use Rattle.std.proofs.lemmas.List.Sorted.{IsNonDecreasingBy-take}
use Rattle.std.proofs.lemmas.Nat.{div_below}
use Rattle.std.proofs.lemmas.Bool.{le-leb, le-ltb, cases_lt}
use Rattle.std.proofs.Math.Nat.{div-mul-le_self, lt-div-mul-add}
use Rattle.zarr_grids_chunks.specs.Grids.{varying, interval}
use Rattle.zarr_grids_dimensions.specs.declared.repeat.RepeatedEdge.{RepeatedEdge}
use Rattle.zarr_grids_dimensions.specs.RepeatedEdges.{expanded, edges, counts, lengths, running}
use Rattle.zarr_grids_dimensions.specs.Lookups.{all_positive, is_dimension, interval_has}
use Rattle.zarr_grids_dimensions.proofs.Running.{length-running, running-at, IsNonDecreasing-running}
use Rattle.zarr_grids_dimensions.proofs.Expanded.{IsChunkAt, in_repeat, sum-repeat, length-expanded, sum-expanded, positive-at, positive-expanded, sum-single, expanded-single}
use Rattle.zarr_grids_dimensions.proofs.VaryingIntervals.{in_varying, varying_in, varying_apart, varying_within}

-- ---- the starts of repeats
pub starts-length : (f : RepeatedEdge → ℕ) (repeats : List RepeatedEdge) (xs : List ℕ) → xs ≡ running 0 (map f repeats) → length xs ≡ length repeats + 1
starts-length f repeats xs is = ap (λ (ys : List ℕ). length ys) is ∙ length-running 0 (map f repeats) ∙ ap (λ (n : ℕ). n + 1) (length-map repeats f)

pub starts-at : (f : RepeatedEdge → ℕ) (repeats : List RepeatedEdge) (xs : List ℕ) (j d : ℕ) → xs ≡ running 0 (map f repeats) → j ≤ length repeats → get_or xs j d ≡ sum (take j (map f repeats))
starts-at f repeats xs j d is h =
    let l = length-map repeats f in
    let z : 0 + sum (take j (map f repeats)) ≡ sum (take j (map f repeats)) = omega arith in
    ap (λ (ys : List ℕ). get_or ys j d) is ∙ running-at 0 (map f repeats) j d (omega arith) ∙ z

pub starts-total : (f : RepeatedEdge → ℕ) (repeats : List RepeatedEdge) (xs : List ℕ) (d : ℕ) → xs ≡ running 0 (map f repeats) → get_or xs (length repeats) d ≡ sum (map f repeats)
starts-total f repeats xs d is =
    starts-at f repeats xs (length repeats) d is (omega arith)
    ∙ ap (λ (n : ℕ). sum (take n (map f repeats))) (sym (length-map repeats f)) ∙ ap (λ (ys : List ℕ). sum ys) (take-length (map f repeats))

pub starts-next : (f : RepeatedEdge → ℕ) (repeats : List RepeatedEdge) (xs : List ℕ) (j d : ℕ) (repeat : RepeatedEdge) → xs ≡ running 0 (map f repeats) → j < length repeats → get_or repeats j repeat ≡ repeat → get_or xs (j + 1) 0 ≡ get_or xs j d + f repeat
starts-next f repeats xs j d repeat is h at =
    let a = starts-at f repeats xs (j + 1) 0 is (omega arith) in
    let b = starts-at f repeats xs j d is (omega arith) in
    let s : sum (take (j + 1) (map f repeats)) ≡ sum (take j (map f repeats)) + f repeat = rw add-one (sum-repeat f repeats j repeat h at) in
    omega arith

pub chunks-total : (repeats : List RepeatedEdge) (xs : List ℕ) (d : ℕ) → xs ≡ running 0 (counts repeats) → get_or xs (length repeats) d ≡ length (expanded repeats)
chunks-total repeats xs d is = starts-total (λ (r : RepeatedEdge). r.count) repeats xs d is ∙ sym (length-expanded repeats)

pub places-total : (repeats : List RepeatedEdge) (xs : List ℕ) (d : ℕ) → xs ≡ running 0 (lengths repeats) → get_or xs (length repeats) d ≡ sum (expanded repeats)
places-total repeats xs d is = starts-total (λ (r : RepeatedEdge). r.count * r.edge) repeats xs d is ∙ sym (sum-expanded repeats)

pub repeat-positive : (repeats : List RepeatedEdge) (j : ℕ) (repeat : RepeatedEdge) → j < length repeats → get_or repeats j repeat ≡ repeat → all_positive (edges repeats) ≡ true → 0 < repeat.edge
repeat-positive repeats j repeat h at t =
    let l = length-map repeats (λ (r : RepeatedEdge). r.edge) in
    let j' : j < length (edges repeats) = omega arith in
    let e : get_or (edges repeats) j 0 ≡ repeat.edge = get_or-map (λ (r : RepeatedEdge). r.edge) repeats j repeat 0 h ∙ ap (λ (r : RepeatedEdge). r.edge) at in
    let p = positive-at (edges repeats) j j' t in
    omega arith

-- the first start is 0
pub starts-first : (f : RepeatedEdge → ℕ) (repeats : List RepeatedEdge) (xs : List ℕ) → xs ≡ running 0 (map f repeats) → get_or xs 0 0 ≡ 0
starts-first f repeats xs is = starts-at f repeats xs 0 0 is (omega arith)

pub starts-ordered : (f : RepeatedEdge → ℕ) (repeats : List RepeatedEdge) (xs : List ℕ) → xs ≡ running 0 (map f repeats) → IsNonDecreasing xs
starts-ordered f repeats xs is = subst (λ (ys : List ℕ). IsNonDecreasing ys) (sym is) (IsNonDecreasing-running 0 (map f repeats))

-- ---- the chunk of a place of repeat j
pub record Found (es : List ℕ) (p n first edge : ℕ) : Type 0 where
  pub chunk : IsChunkAt es n first edge
  pub from : first ≤ p
  pub to : p < first + edge

pub place_found : (repeats : List RepeatedEdge) (chunks places : List ℕ) (j p : ℕ) (repeat : RepeatedEdge) (c f : ℕ) → chunks ≡ running 0 (counts repeats) → places ≡ running 0 (lengths repeats) → j < length repeats
    → get_or repeats j repeat ≡ repeat → 0 < repeat.edge → get_or chunks j c ≡ c → get_or places j f ≡ f → f ≤ p → p < get_or places (j + 1) 0
    → Found (expanded repeats) p (c + (p - f) / repeat.edge) (f + (p - f) / repeat.edge * repeat.edge) repeat.edge
place_found repeats chunks places j p repeat c f ci pi h at pos cc_ fc from to =
    let next = starts-next (λ (r : RepeatedEdge). r.count * r.edge) repeats places j f repeat pi h at in
    let w : ℕ = (p - f) / repeat.edge in
    let b : w < repeat.count = div_below (p - f) repeat.edge repeat.count pos (omega arith) in
    let i = in_repeat repeats j w repeat h at b in
    let x : sum (take j (counts repeats)) ≡ c = sym (starts-at (λ (r : RepeatedEdge). r.count) repeats chunks j c ci (omega arith)) ∙ cc_ in
    let y : sum (take j (lengths repeats)) ≡ f = sym (starts-at (λ (r : RepeatedEdge). r.count * r.edge) repeats places j f pi (omega arith)) ∙ fc in
    record {
      chunk = subst (λ (n : ℕ). IsChunkAt (expanded repeats) (n + w) (f + w * repeat.edge) repeat.edge) x (subst (λ (n : ℕ). IsChunkAt (expanded repeats) (sum (take j (counts repeats)) + w) (n + w * repeat.edge) repeat.edge) y i);
      from = let q = div-mul-le_self (p - f) repeat.edge in omega arith;
      to = let q : p - f < (p - f) / repeat.edge * repeat.edge + repeat.edge = lt-div-mul-add pos in omega arith;
    }

-- chunk k of repeat j
pub chunk_found : (repeats : List RepeatedEdge) (chunks places : List ℕ) (j k : ℕ) (repeat : RepeatedEdge) (c f : ℕ) → chunks ≡ running 0 (counts repeats) → places ≡ running 0 (lengths repeats) → j < length repeats
    → get_or repeats j repeat ≡ repeat → get_or chunks j c ≡ c → get_or places j f ≡ f → c ≤ k → k < get_or chunks (j + 1) 0
    → IsChunkAt (expanded repeats) k (f + (k - c) * repeat.edge) repeat.edge
chunk_found repeats chunks places j k repeat c f ci pi h at cc_ fc from to =
    let next = starts-next (λ (r : RepeatedEdge). r.count) repeats chunks j c repeat ci h at in
    let i = in_repeat repeats j (k - c) repeat h at (omega arith) in
    let x : sum (take j (counts repeats)) ≡ c = sym (starts-at (λ (r : RepeatedEdge). r.count) repeats chunks j c ci (omega arith)) ∙ cc_ in
    let y : sum (take j (lengths repeats)) ≡ f = sym (starts-at (λ (r : RepeatedEdge). r.count * r.edge) repeats places j f pi (omega arith)) ∙ fc in
    let z : sum (take j (counts repeats)) + (k - c) ≡ k = omega arith in
    subst (λ (n : ℕ). IsChunkAt (expanded repeats) n (f + (k - c) * repeat.edge) repeat.edge) z (subst (λ (n : ℕ). IsChunkAt (expanded repeats) (sum (take j (counts repeats)) + (k - c)) (n + (k - c) * repeat.edge) repeat.edge) y i)

-- a chunk ends within the sum
pub chunk_within : (es : List ℕ) (k first edge : ℕ) → IsChunkAt es k first edge → first + edge ≤ sum es
chunk_within es k first edge i =
    let f = sum_by_more_le (λ (x : ℕ). x) es k 0 i.below in
    let a = i.first_is in
    let b = i.edge_is in
    omega arith

-- ---- as many chunks as repeats: each repeat is one chunk
pub place_single : (repeats : List RepeatedEdge) (places : List ℕ) (j p : ℕ) → places ≡ running 0 (lengths repeats) → all_positive (counts repeats) ≡ true → length (expanded repeats) ≡ length repeats → j < length repeats
    → get_or places j 0 ≤ p → p < get_or places (j + 1) 0 → Found (expanded repeats) p j (sum (take j (expanded repeats))) (get_or (expanded repeats) j 0)
place_single repeats places j p pi t n h from to =
    let a = starts-at (λ (r : RepeatedEdge). r.count * r.edge) repeats places j 0 pi (omega arith) in
    let b = starts-at (λ (r : RepeatedEdge). r.count * r.edge) repeats places (j + 1) 0 pi (omega arith) in
    let l = length-map repeats (λ (r : RepeatedEdge). r.count * r.edge) in
    let h' : j < length (lengths repeats) = omega arith in
    let m : sum (take (j + 1) (lengths repeats)) ≡ sum (take j (lengths repeats)) + get_or (lengths repeats) j 0 = sum_by_more (λ (x : ℕ). x) (lengths repeats) j 0 h' in
    subst (λ (es : List ℕ). Found es p j (sum (take j es)) (get_or es j 0)) (sym (expanded-single repeats t n)) (record {
      chunk = record { below = h'; first_is = refl; edge_is = refl };
      from = omega arith;
      to = omega arith;
    })

-- the k-th running sum of the counts is k
pub chunks_single : (repeats : List RepeatedEdge) (chunks : List ℕ) (k : ℕ) → chunks ≡ running 0 (counts repeats) → all_positive (counts repeats) ≡ true → length (expanded repeats) ≡ length repeats → k ≤ length repeats → get_or chunks k 0 ≡ k
chunks_single repeats chunks k ci t n h =
    let l = length-map repeats (λ (r : RepeatedEdge). r.count) in
    let e = length-expanded repeats in
    starts-at (λ (r : RepeatedEdge). r.count) repeats chunks k 0 ci h ∙ sum-single (counts repeats) k t (omega arith) (omega arith)

-- ---- what a lookup of a place answers
pub answers-found : (size : ℕ) (es : List ℕ) (p n first edge chunk : ℕ) → Found es p n first edge
    → (Some n ≡ Some chunk → interval_has (varying size es) chunk p ≡ true) × (interval_has (varying size es) chunk p ≡ true → Some n ≡ Some chunk)
answers-found size es p n first edge chunk f =
    let here = in_varying size es n p first edge f.chunk f.from f.to in (
      λ e. let q : n ≡ chunk = cc in subst (λ (k : ℕ). interval_has (varying size es) k p ≡ true) q here,
      λ t. ap (λ (k : ℕ). Some k) (varying_apart es n chunk p (varying_in size es n p here) (varying_in size es chunk p t)),
    )

pub answers-past : (size : ℕ) (es : List ℕ) (p chunk : ℕ) → sum es ≤ p → (None ≡ Some chunk → interval_has (varying size es) chunk p ≡ true) × (interval_has (varying size es) chunk p ≡ true → None ≡ Some chunk)
answers-past size es p chunk h = (
  λ e. absurd (cc),
  λ t. let b = varying_within es chunk p (varying_in size es chunk p t) in absurd (omega arith),
)

pub interval-past : (size : ℕ) (es : List ℕ) (k : ℕ) → length es ≤ k → interval (varying size es) k ≡ None
interval-past size es k h = rw (le-ltb k (length es) h) refl

-- ---- from what a search ensures
same_start : (f : RepeatedEdge → ℕ) (repeats : List RepeatedEdge) (xs starts : List ℕ) (j d e : ℕ) → xs ≡ running 0 (map f repeats) → starts ≡ xs → j ≤ length repeats → get_or starts j e ≡ get_or xs j d
same_start f repeats xs starts j d e is same h = starts-at f repeats starts j e (same ∙ is) h ∙ sym (starts-at f repeats xs j d is h)

pub place_searched : (repeats : List RepeatedEdge) (chunks places starts : List ℕ) (j p : ℕ) (repeat : RepeatedEdge) (c f : ℕ) → chunks ≡ running 0 (counts repeats) → places ≡ running 0 (lengths repeats) → starts ≡ places
    → all_positive (edges repeats) ≡ true → j < length repeats → repeat ≡ get_or repeats j repeat → c ≡ get_or chunks j c → f ≡ get_or places j f
    → get_or starts j 0 ≤ p → (j + 1 < length starts → p < get_or starts (j + 1) 0)
    → Found (expanded repeats) p (c + (p - f) / repeat.edge) (f + (p - f) / repeat.edge * repeat.edge) repeat.edge
place_searched repeats chunks places starts j p repeat c f ci pi si t h at cc_ fc from to =
    let e : get_or starts j 0 ≡ get_or places j f = same_start (λ (r : RepeatedEdge). r.count * r.edge) repeats places starts j f 0 pi si (omega arith) in
    let g : get_or starts (j + 1) 0 ≡ get_or places (j + 1) 0 = ap (λ (ys : List ℕ). get_or ys (j + 1) 0) si in
    let l = starts-length (λ (r : RepeatedEdge). r.count * r.edge) repeats starts (si ∙ pi) in
    let to' = to (omega arith) in
    place_found repeats chunks places j p repeat c f ci pi h (sym at) (repeat-positive repeats j repeat h (sym at) t) (sym cc_) (sym fc) (omega arith) (omega arith)

pub chunk_searched : (repeats : List RepeatedEdge) (chunks places starts : List ℕ) (j k : ℕ) (repeat : RepeatedEdge) (c f : ℕ) → chunks ≡ running 0 (counts repeats) → places ≡ running 0 (lengths repeats) → starts ≡ chunks
    → j < length repeats → repeat ≡ get_or repeats j repeat → c ≡ get_or chunks j c → f ≡ get_or places j f
    → get_or starts j 0 ≤ k → (IsNonDecreasing starts → j + 1 < length starts → k < get_or starts (j + 1) 0) → IsChunkAt (expanded repeats) k (f + (k - c) * repeat.edge) repeat.edge
chunk_searched repeats chunks places starts j k repeat c f ci pi si h at cc_ fc from to =
    let e : get_or starts j 0 ≡ get_or chunks j c = same_start (λ (r : RepeatedEdge). r.count) repeats chunks starts j c 0 ci si (omega arith) in
    let g : get_or starts (j + 1) 0 ≡ get_or chunks (j + 1) 0 = ap (λ (ys : List ℕ). get_or ys (j + 1) 0) si in
    let l = starts-length (λ (r : RepeatedEdge). r.count) repeats starts (si ∙ ci) in
    let to' = to (starts-ordered (λ (r : RepeatedEdge). r.count) repeats starts (si ∙ ci)) (omega arith) in
    chunk_found repeats chunks places j k repeat c f ci pi h (sym at) (sym cc_) (sym fc) (omega arith) (omega arith)

-- ---- from what a search among the starts below 2^64 ensures
pub near_at : (places near : List ℕ) (j d : ℕ) → near ≡ take (length near) places → j < length near → get_or near j d ≡ get_or places j d
near_at places near j d is h = ap (λ (ys : List ℕ). get_or ys j d) is ∙ get_or-take (length near) places j d h

near_next : (places near : List ℕ) (j p : ℕ) → near ≡ take (length near) places → (length near < length places → 2 ^ 64 ≤ get_or places (length near) 0) → p < 2 ^ 64 → j < length near
    → (j + 1 < length near → p < get_or near (j + 1) 0) → j + 1 < length places → p < get_or places (j + 1) 0
near_next places near j p is far fits h to below = ⊎_elim
    (λ less. let e = near_at places near (j + 1) 0 is less in let t = to less in omega arith)
    (λ more.
    let e : length near ≡ j + 1 = omega arith in
    let g : get_or places (length near) 0 ≡ get_or places (j + 1) 0 = ap (λ (m : ℕ). get_or places m 0) e in
    let f = far (omega arith) in
    omega arith)
    (cases_lt (j + 1) (length near))

pub record Searched (places : List ℕ) (j p : ℕ) : Type 0 where
  pub below : j < length places
  pub from : get_or places j 0 ≤ p
  pub to : j + 1 < length places → p < get_or places (j + 1) 0

near_ordered : (repeats : List RepeatedEdge) (places near : List ℕ) → places ≡ running 0 (lengths repeats) → near ≡ take (length near) places → IsNonDecreasing near
near_ordered repeats places near pi is = subst (λ (ys : List ℕ). IsNonDecreasing ys) (sym is) (IsNonDecreasingBy-take (λ (x : ℕ). x) (length near) places (starts-ordered (λ (r : RepeatedEdge). r.count * r.edge) repeats places pi))

pub near_searched : (repeats : List RepeatedEdge) (places near starts : List ℕ) (j p : ℕ) → places ≡ running 0 (lengths repeats) → near ≡ take (length near) places
    → (length near < length places → 2 ^ 64 ≤ get_or places (length near) 0) → starts ≡ near → p < 2 ^ 64
    → j < length starts → get_or starts j 0 ≤ p → (IsNonDecreasing starts → j + 1 < length starts → p < get_or starts (j + 1) 0) → Searched places j p
near_searched repeats places near starts j p pi is far si fits h from to =
    let o = subst (λ (ys : List ℕ). IsNonDecreasing ys) (sym si) (near_ordered repeats places near pi is) in
    let n : length starts ≡ length near = ap (λ (ys : List ℕ). length ys) si in
    let m : length near ≡ min (length near) (length places) = ap (λ (ys : List ℕ). length ys) is ∙ length-take (length near) places in
    let a : get_or starts j 0 ≡ get_or near j 0 = ap (λ (ys : List ℕ). get_or ys j 0) si in
    let b : get_or starts (j + 1) 0 ≡ get_or near (j + 1) 0 = ap (λ (ys : List ℕ). get_or ys (j + 1) 0) si in
    let h' : j < length near = omega arith in
    let e = near_at places near j 0 is h' in
    record {
      below = omega arith;
      from = omega arith;
      to = near_next places near j p is far fits h' (λ less. let t = to o (omega arith) in omega arith);
    }

-- past the last start
pub place_past : (repeats : List RepeatedEdge) (places starts : List ℕ) (j p : ℕ) → places ≡ running 0 (lengths repeats) → starts ≡ places → j ≡ length repeats → get_or starts j 0 ≤ p → sum (expanded repeats) ≤ p
place_past repeats places starts j p pi si q h =
    let e : get_or starts j 0 ≡ sum (expanded repeats) = ap (λ (m : ℕ). get_or starts m 0) q ∙ places-total repeats starts 0 (si ∙ pi) in
    omega arith

pub chunk_past : (repeats : List RepeatedEdge) (chunks starts : List ℕ) (j k : ℕ) → chunks ≡ running 0 (counts repeats) → starts ≡ chunks → j ≡ length repeats → get_or starts j 0 ≤ k → length (expanded repeats) ≤ k
chunk_past repeats chunks starts j k ci si q h =
    let e : get_or starts j 0 ≡ length (expanded repeats) = ap (λ (m : ℕ). get_or starts m 0) q ∙ chunks-total repeats starts 0 (si ∙ ci) in
    omega arith

-- positive edges that cover a size
pub covering : (size : ℕ) (repeats : List RepeatedEdge) → all_positive (edges repeats) ≡ true → size ≤ sum (expanded repeats) → is_dimension (varying size (expanded repeats)) ≡ true
covering size repeats e s = rw (positive-expanded repeats e, le-leb size (sum (expanded repeats)) s) refl
