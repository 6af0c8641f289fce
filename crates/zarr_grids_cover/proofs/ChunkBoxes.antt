-- What a chunk's box says of its grid.
use Rattle.std.proofs.Common.{◌≡◌, ◌∙◌, ℕ, suc, ◌<◌, true, List, [], ◌∷◌, length, refl, sym, ap, subst, arith, Some}
use Rattle.std.proofs.Math.Nat.{mul-pos}
use Rattle.std.proofs.lemmas.List.{length-map}
use Rattle.zarr_grids_boxes.specs.Boxes.{Region, product, EndsFit}
use Rattle.zarr_grids_boxes.proofs.Places.{both}
use Rattle.zarr_grids_chunks.specs.Grids.{Grid, chunk_box, IsInGrid}
use Rattle.zarr_grids_dimensions.specs.declared.dimension.Dimension.{Dimension as DeclaredDimension}
use Rattle.zarr_grids_dimensions.specs.Dimensions.{dimension_of, grid_of}
use Rattle.zarr_grids_dimensions.specs.Lookups.{are_dimensions}
use Rattle.zarr_grids_dimensions.proofs.BoxWalk.{box-fits}
use Rattle.zarr_grids_dimensions.proofs.Union.{interval-positive}
use Rattle.zarr_grids_dimensions.proofs.UnionBox.{box-more}

-- ---- a chunk that has a box has the grid's dimensions, and so has the box
pub chunk_box-rank : (grid : Grid) (chunk : List ℕ) (box : Region) → chunk_box grid chunk ≡ Some box → (length box.start ≡ length grid) × (length box.shape ≡ length grid)
chunk_box-rank [] [] box h = let e : record { start = []; shape = [] } ≡ box = cc in subst (λ (b : Region). (length b.start ≡ 0) × (length b.shape ≡ 0)) e (refl, refl)
chunk_box-rank [] (k ∷ ks) box h = absurd (cc)
chunk_box-rank (d ∷ ds) [] box h = absurd (cc)
chunk_box-rank (d ∷ ds) (k ∷ ks) box h =
    let m = box-more d ds k ks box h in
    let r = chunk_box-rank ds ks m.rest m.rest_is in
    (ap (λ (b : Region). length b.start) m.is ∙ ap (λ n. suc n) r.0, ap (λ (b : Region). length b.shape) m.is ∙ ap (λ n. suc n) r.1)

pub chunk_box-chunk_rank : (grid : Grid) (chunk : List ℕ) (box : Region) → chunk_box grid chunk ≡ Some box → length chunk ≡ length grid
chunk_box-chunk_rank [] [] box h = refl
chunk_box-chunk_rank [] (k ∷ ks) box h = absurd (cc)
chunk_box-chunk_rank (d ∷ ds) [] box h = absurd (cc)
chunk_box-chunk_rank (d ∷ ds) (k ∷ ks) box h = let m = box-more d ds k ks box h in ap (λ n. suc n) (chunk_box-chunk_rank ds ks m.rest m.rest_is)

-- its ends fit, and it has a place
pub chunk_box-fits : (grid : Grid) (chunk : List ℕ) (box : Region) → chunk_box grid chunk ≡ Some box → EndsFit box.start box.shape
chunk_box-fits grid chunk box h = (box-fits grid chunk box (sym h)).fit

pub chunk_box-some_places : (grid : Grid) (chunk : List ℕ) (box : Region) → are_dimensions grid ≡ true → chunk_box grid chunk ≡ Some box → 0 < product box.shape
chunk_box-some_places [] [] box t h = let e : record { start = []; shape = [] } ≡ box = cc in subst (λ (b : Region). 0 < product b.shape) e (omega arith)
chunk_box-some_places [] (k ∷ ks) box t h = absurd (cc)
chunk_box-some_places (d ∷ ds) [] box t h = absurd (cc)
chunk_box-some_places (d ∷ ds) (k ∷ ks) box t h =
    let u = both _ _ t in
    let m = box-more d ds k ks box h in
    let r = chunk_box-some_places ds ks m.rest u.1 m.rest_is in
    subst (λ (b : Region). 0 < product b.shape) (sym m.is) (mul-pos (interval-positive d k m.along u.0 m.along_is) r)

-- of a grid in code
pub rank-of : (ds : List DeclaredDimension) (chunk : List ℕ) → (box : Region) × IsInGrid (grid_of ds) chunk box → length chunk ≡ length ds
rank-of ds chunk b = chunk_box-chunk_rank (grid_of ds) chunk b.0 b.1.has_box ∙ length-map ds dimension_of
