-- Boxes that start later than another one.
use Rattle.std.proofs.Common.{◌≡◌, ◌∙◌, ℕ, zero, suc, ◌≤◌, ◌<◌, max, List, [], ◌∷◌, length, get_or, refl, ap, sym, arith, true}
use Rattle.zarr_grids_boxes.specs.Boxes.{Region, each2, share_place}
use Rattle.zarr_grids_boxes.specs.Cuts.{IsAtMost}
use Rattle.zarr_grids_boxes.proofs.Sharing.{share_place-has}
use Rattle.zarr_grids_boxes.proofs.Steps.{in_box_same}

as_long : (ss os : List ℕ) → length ss ≡ length os → length (each2 max ss os) ≡ length os
as_long [] [] same = refl
as_long [] (o ∷ os) same = absurd (omega arith)
as_long (s ∷ ss) [] same = absurd (omega arith)
as_long (s ∷ ss) (o ∷ os) same = ap suc (as_long ss os (omega arith))

later : (ss os : List ℕ) (k : ℕ) → length ss ≡ length os → k < length os → get_or os k 0 ≤ get_or (each2 max ss os) k 0
later ss [] k same below = absurd (omega arith)
later [] (o ∷ os) k same below = absurd (omega arith)
later (s ∷ ss) (o ∷ os) zero same below = omega arith
later (s ∷ ss) (o ∷ os) (suc k) same below = later ss os k (omega arith) (omega arith)

-- where two boxes are alike, both have started
pub later_start : (ss os : List ℕ) → length ss ≡ length os → IsAtMost os (each2 max ss os)
later_start ss os same = record { same = sym (as_long ss os same); each = λ k below. later ss os k same (let long = as_long ss os same in omega (arith, long, below)) }

-- boxes that share a place have as many dimensions
pub sharing_ranks : (region own : Region) → share_place own.start own.shape region.start region.shape ≡ true → length own.start ≡ length region.start
sharing_ranks region own h =
    let common = share_place-has own.start own.shape region.start region.shape h in
    sym (in_box_same own.start own.shape common.0 common.1).1 ∙ (in_box_same region.start region.shape common.0 common.2).1
