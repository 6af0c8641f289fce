-- The box of a subchunk lies in the array that is cut.
use Rattle.std.proofs.Common.{◌≡◌, ℕ, zero, suc, ◌+◌, ◌-◌, ◌*◌, ◌/◌, ◌<◌, ◌≤◌, min, List, [], ◌∷◌, length, slice_index, ap, ◌∙◌, refl, arith, true, nat_lt}
use Rattle.std.proofs.Math.Nat.{le-div_iff_mul-le}
use Rattle.std.proofs.lemmas.Bool.{ltb-true, and_parts}
use Rattle.zarr_grids_boxes.specs.Boxes.{product, place_at, IsIndex}
use Rattle.zarr_grids_boxes.proofs.Dimensions.{IsIndex-tail}
use Rattle.zarr_grids_boxes.proofs.Places.{place_at_below, length-place_at}
use Rattle.zarr_codecs_meaning.specs.Places.{grid_of, box_of}
use Rattle.zarr_codecs_meaning.specs.Fits.{can_cut}
use Rattle.zarr_sharding_changes.specs.Regions.{IsInside}

within-nil : IsInside [] [] []
within-nil = record { starts = refl; ends = refl; below = λ k l. absurd (omega arith) }

within-cons : (s e n : ℕ) (ss es ns : List ℕ) → s + e ≤ n → IsInside ss es ns → IsInside (s ∷ ss) (e ∷ es) (n ∷ ns)
within-cons s e n ss es ns h rest = record { starts = ap suc rest.starts; ends = ap suc rest.ends; below = step } where
  step : (k : ℕ) → k < length (n ∷ ns) → slice_index (s ∷ ss) k + slice_index (e ∷ es) k ≤ slice_index (n ∷ ns) k
  step zero l = h
  step (suc k) l = rest.below k (omega arith)

-- a subchunk of the grid begins inside
begins_inside : (i size edge : ℕ) → 0 < edge → i < (size + (edge - 1)) / edge → i * edge < size
begins_inside i size edge some h =
    let all : suc i * edge ≤ size + (edge - 1) = (le-div_iff_mul-le {k = edge} {x = suc i} {y = size + (edge - 1)} some).0 h in
    let split : suc i * edge ≡ i * edge + edge = grind arith in
    omega arith

pub box_within : (shape subchunk index : List ℕ) → can_cut shape subchunk ≡ true → IsIndex index (grid_of shape subchunk) → IsInside (box_of shape subchunk index).start (box_of shape subchunk index).shape shape
box_within [] [] [] cuts h = within-nil
box_within [] [] (i ∷ is) cuts h = let l = h.same in absurd (omega arith)
box_within [] (edge ∷ edges) index cuts h = cc
box_within (size ∷ sizes) [] index cuts h = cc
box_within (size ∷ sizes) (edge ∷ edges) [] cuts h = let l = h.same in absurd (omega arith)
box_within (size ∷ sizes) (edge ∷ edges) (i ∷ is) cuts h =
    let both = and_parts (nat_lt 0 edge) (can_cut sizes edges) cuts in
    let begins = begins_inside i size edge (ltb-true 0 edge both.0) (h.below 0 (omega arith)) in
    let box = box_of sizes edges is in
    within-cons (i * edge) (min edge (size - i * edge)) size box.start box.shape sizes (omega arith) (box_within sizes edges is both.1 (IsIndex-tail i ((size + (edge - 1)) / edge) is (grid_of sizes edges) h))

-- a place of a box that lies in an array is a place of the array
pub place_within : (start lengths shape : List ℕ) (n : ℕ) → IsInside start lengths shape → n < product lengths → IsIndex (place_at start lengths n) shape
place_within start lengths shape n within h =
    let same : length start ≡ length lengths = let one = within.starts in let two = within.ends in omega arith in
    record {
      same = length-place_at start lengths n same ∙ within.starts;
      below = λ k l. let low = place_at_below start lengths n k same h (let one = within.starts in omega arith) in let high = within.below k l in omega arith;
    }
