-- Chunks have no edge of 0.
use Rattle.std.proofs.Common.{◌≡◌, ℕ, ◌-◌, ◌*◌, ◌<◌, List, [], ◌∷◌, length, get_or, take, min, Bool, true, false, nat_lt, if◌then◌else◌, Option, Some, None, option_map, option_and_then, refl, subst, arith}
use Rattle.std.specs.Prelude.{sum}
use Rattle.std.proofs.lemmas.Bool.{ltb-true}
use Rattle.std.proofs.Math.Nat.{mul-pos}
use Rattle.zarr_grids_boxes.specs.Boxes.{product}
use Rattle.zarr_grids_chunks.specs.Grids.{Interval}
use Rattle.zarr_grids_dimensions.specs.declared.dimension.Dimension.{Dimension as DeclaredDimension}
use Rattle.zarr_grids_dimensions.specs.declared.dimension.Dimension.TheVariants.{Regular, Clipped, Varying}
use Rattle.zarr_grids_dimensions.specs.Dimensions.{dimension_of, grid_of}
use Rattle.zarr_grids_dimensions.specs.Chunks.{count_of, shape}
use Rattle.zarr_grids_dimensions.specs.RepeatedEdges.{expanded}
use Rattle.zarr_grids_dimensions.proofs.Expanded.{positive-at, positive-expanded}

-- a chosen interval's count
chosen : (b : Bool) (i : Interval) (n : ℕ) → option_map (λ (j : Interval). j.count) (if b then Some i else None) ≡ Some n → (b ≡ true) × (i.count ≡ n)
chosen true i n h = let e : i.count ≡ n = cc in (refl, e)
chosen false i n h = absurd (cc)

count-positive : (d : DeclaredDimension) (k n : ℕ) → count_of (dimension_of d) k ≡ Some n → 0 < n
count-positive (Regular fixed) k n h = let e : fixed.edge ≡ n = cc in let p = fixed.positive in omega arith
count-positive (Clipped fixed) k n h =
    let x = chosen (nat_lt (k * fixed.edge) fixed.size) (record { first = k * fixed.edge; count = min fixed.edge (fixed.size - k * fixed.edge) }) n h in
    let l = ltb-true (k * fixed.edge) fixed.size x.0 in
    let p = fixed.positive in
    let e = x.1 in
    omega arith
count-positive (Varying edges) k n h =
    let es : List ℕ = expanded edges.repeats.items in
    let x = chosen (nat_lt k (length es)) (interval-at es k) n h in
    let p = positive-at es k (ltb-true k (length es) x.0) (positive-expanded edges.repeats.items edges.positive) in
    subst (λ (m : ℕ). 0 < m) x.1 p where
      interval-at : List ℕ → ℕ → Interval
      interval-at es k = record { first = sum (take k es); count = get_or es k 0 }

-- the shape of a chunk has a positive product
pub shape_positive : (ds : List DeclaredDimension) (chunk es : List ℕ) → shape (grid_of ds) chunk ≡ Some es → 0 < product es
shape_positive [] [] es h = let e : [] ≡ es = cc in subst (λ (xs : List ℕ). 0 < product xs) e (omega arith)
shape_positive [] (k ∷ chunk) es h = absurd (cc)
shape_positive (d ∷ ds) [] es h = absurd (cc)
shape_positive (d ∷ ds) (k ∷ chunk) es h = joined (count_of (dimension_of d) k) (shape (grid_of ds) chunk) es (count-positive d k) (shape_positive ds chunk) h where
  joined : (o : Option ℕ) (p : Option (List ℕ)) (es : List ℕ) → ((n : ℕ) → o ≡ Some n → 0 < n) → ((ns : List ℕ) → p ≡ Some ns → 0 < product ns)
      → option_and_then (λ n. option_map (λ ns. n ∷ ns) p) o ≡ Some es → 0 < product es
  joined None p es a b h = absurd (cc)
  joined (Some n) None es a b h = absurd (cc)
  joined (Some n) (Some ns) es a b h = let e : n ∷ ns ≡ es = cc in subst (λ (xs : List ℕ). 0 < product xs) e (mul-pos (a n refl) (b ns refl))
