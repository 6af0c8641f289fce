use Rattle.std.proofs.Common.{◌≡◌, ◌<◌, ℕ, List, ap, arith}
use Rattle.zarr_grids_boxes.specs.Boxes.{product}
use Rattle.zarr_grids_dimensions.proofs.Intersecting.{lies_in_interval_some}
use Rattle.zarr_grids_dimensions.proofs.boxes.chunks_in_array_subset.Goals as goal

no-product : (shape seen : List ℕ) → product seen ≡ 0 → seen ≡ shape → 0 < product shape → ⊥
no-product shape seen z e p = let q = ap (λ ns. product ns) e in omega arith

pub returns-in-Ok-clause-intersecting : goal.returns-in-Ok-clause-intersecting
returns-in-Ok-clause-intersecting c = λ chunk. (
  λ h. absurd (c.in-Ok.ensures.empty chunk h),
  λ m. let p = lies_in_interval_some _ _ m.0 m.1 in let z = c.has_no_place.ensures.0 c.if-has_no_place.true in let e = c.deref.ensures.value in absurd (no-product _ _ z e p),
)
