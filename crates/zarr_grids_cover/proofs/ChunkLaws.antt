-- The laws of chunks and boxes, for every grid.
use Rattle.std.proofs.Common.{◌≡◌, ◌∙◌, ℕ, zero, suc, ◌+◌, ◌<◌, true, List, [], ◌∷◌, length, replicate, map, refl, sym, ap, subst, arith}
use Rattle.std.specs.List.{range_with_len, flat_map}
use Rattle.std.proofs.lemmas.Bool.{leb-true, ltb-true, false≢true}
use Rattle.std.proofs.lemmas.List.{length-replicate}
use Rattle.zarr_grids_boxes.specs.Boxes.{Region, product, places, is_in_box}
use Rattle.zarr_grids_boxes.proofs.Places.{both}
use Rattle.zarr_grids_boxes.proofs.Walking.{start_in_box}
use Rattle.zarr_grids_chunks.specs.Grids.{Grid, lies_in_chunk, intersecting, IsInGrid, IsCovered}
use Rattle.zarr_grids_chunks.proofs.Partition.{lies_has}
use Rattle.zarr_grids_dimensions.specs.Lookups.{chunk_has, are_dimensions}
use Rattle.zarr_grids_dimensions.specs.Chunks.{SharesPlace}
use Rattle.zarr_grids_dimensions.proofs.OneChunk.{chunks_apart as lies_apart}
use Rattle.zarr_grids_cover.proofs.ChunkBoxes.{chunk_box-rank, chunk_box-chunk_rank, chunk_box-some_places}
use Rattle.zarr_grids_cover.proofs.ChunksIntersecting.{box-lies, Found, found-listed}

-- ---- a place that lies in a chunk's box lies in the chunk
lies-in_chunk : (grid : Grid) (chunk p : List ℕ) → lies_in_chunk grid p chunk ≡ true → chunk_has grid chunk p ≡ true
lies-in_chunk grid chunk p h = let b = lies_has grid chunk p h in sym (box-lies grid chunk p b.0 b.1) ∙ b.2

pub chunks_apart : (grid : Grid) (chunk other p : List ℕ) → lies_in_chunk grid p chunk ≡ true → lies_in_chunk grid p other ≡ true → chunk ≡ other
chunks_apart grid chunk other p a b = lies_apart grid chunk other p (lies-in_chunk grid chunk p a) (lies-in_chunk grid other p b)

-- ---- the box of a chunk
pub IsInGrid-covered : (grid : Grid) (chunk : List ℕ) (box : Region) → IsInGrid grid chunk box → IsCovered grid box
IsInGrid-covered grid chunk box b = record { rank = (chunk_box-rank grid chunk box b.has_box).0; covered = λ p i. (chunk, box, b, i) }

-- a box of one place has that place alone
one_place : (ss ps : List ℕ) → is_in_box ss (replicate (length ss) 1) ps ≡ true → ss ≡ ps
one_place [] [] h = refl
one_place [] (p ∷ ps) h = absurd (false≢true h)
one_place (s ∷ ss) [] h = absurd (false≢true h)
one_place (s ∷ ss) (p ∷ ps) h =
    let u = both _ _ h in
    let v = both _ _ u.0 in
    let low = leb-true s p v.0 in
    let up = ltb-true p (s + 1) v.1 in
    let e : s ≡ p = omega arith in
    ap (λ n. n ∷ ss) e ∙ ap (λ ns. p ∷ ns) (one_place ss ps u.1)

places-one : (ss : List ℕ) → places ss (replicate (length ss) 1) ≡ ss ∷ []
places-one [] = refl
places-one (s ∷ ss) = ap (λ (rs : List (List ℕ)). flat_map (λ k. map (λ r. k ∷ r) rs) (range_with_len s 1)) (places-one ss)

product-one : (n : ℕ) → 0 < product (replicate n 1)
product-one zero = omega arith
product-one (suc n) = let i = product-one n in omega arith

-- ---- the box of a chunk intersects that chunk alone
found-alone : (grid : Grid) (chunk : List ℕ) (box : Region) → are_dimensions grid ≡ true → IsInGrid grid chunk box → Found grid box (record { start = chunk; shape = replicate (length chunk) 1 })
found-alone grid chunk box t b = record {
  covered = IsInGrid-covered grid chunk box b;
  some = some;
  same = rank.1 ∙ sym rank.0;
  rank = chunk_box-chunk_rank grid chunk box b.has_box;
  lengths = length-replicate (length chunk) 1;
  here = λ other h. subst (λ (k : List ℕ). SharesPlace grid box k) (one_place chunk other h) (box.start, first, sym (box-lies grid chunk box.start box b.has_box) ∙ first);
  all = λ other m. subst (λ (k : List ℕ). is_in_box chunk (replicate (length chunk) 1) k ≡ true) (alone other m.0 m.1 m.2) (start_in_box chunk (replicate (length chunk) 1) (length-replicate (length chunk) 1) (product-one (length chunk)));
} where
  rank : (length box.start ≡ length grid) × (length box.shape ≡ length grid)
  rank = chunk_box-rank grid chunk box b.has_box

  some : 0 < product box.shape
  some = chunk_box-some_places grid chunk box t b.has_box

  first : is_in_box box.start box.shape box.start ≡ true
  first = start_in_box box.start box.shape (rank.1 ∙ sym rank.0) some

  alone : (other place : List ℕ) → is_in_box box.start box.shape place ≡ true → chunk_has grid other place ≡ true → chunk ≡ other
  alone other place h l = lies_apart grid chunk other place (sym (box-lies grid chunk place box b.has_box) ∙ h) l

pub IsInGrid-intersecting : (grid : Grid) (chunk : List ℕ) (box : Region) → are_dimensions grid ≡ true → IsInGrid grid chunk box → intersecting grid box ≡ chunk ∷ []
IsInGrid-intersecting grid chunk box t b = sym (found-listed grid box (record { start = chunk; shape = replicate (length chunk) 1 }) (found-alone grid chunk box t b)) ∙ places-one chunk
