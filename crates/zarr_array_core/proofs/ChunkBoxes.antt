-- The chunks of an array's grid: their boxes and their keys.
use Rattle.std.proofs.Common.{◌≡◌, ◌∙◌, ℕ, zero, suc, ◌<◌, ◌^◌, true, List, [], ◌∷◌, length, refl, sym, arith, Some, IsTrue}
use Rattle.zarr_grids_boxes.specs.Boxes.{Region, product, EndsFit, IsSmall}
use Rattle.zarr_grids_boxes.proofs.Places.{both}
use Rattle.zarr_grids_chunks.specs.Grids.{Grid, IsInGrid, chunk_box}
use Rattle.zarr_grids_dimensions.specs.Lookups.{are_dimensions}
use Rattle.zarr_grids_dimensions.proofs.Declared.{always_dimensions}
use Rattle.zarr_grids_dimensions.proofs.Monotone.{number_least}
use Rattle.zarr_grids_dimensions.proofs.Union.{in-of, interval-positive}
use Rattle.zarr_grids_dimensions.proofs.UnionBox.{box-more}
use Rattle.zarr_grids_cover.proofs.ChunkBoxes.{chunk_box-rank, chunk_box-chunk_rank, chunk_box-fits, chunk_box-some_places}
use Rattle.zarr_grids_chunk_grids.specs.Grids.{grid_of_chunks}
use Rattle.zarr_grids_chunk_grids.specs.declared.chunk_grid.ChunkGrid.{ChunkGrid}
use Rattle.zarr_grids_chunk_grids.specs.declared.chunk_grid.ChunkGrid.TheVariants.{Regular, RegularBounded, Rectangular, Rectilinear}
use Rattle.zarr_grids_keys.specs.Encodings.{keys_of}
use Rattle.zarr_grids_keys.specs.Keys.{chunk_key, has_separator, is_separator}
use Rattle.zarr_grids_keys.specs.Separators.{separator_byte}
use Rattle.zarr_grids_keys.specs.declared.encoding.ChunkKeyEncoding.{ChunkKeyEncoding}
use Rattle.zarr_grids_keys.specs.declared.encoding.ChunkKeyEncoding.TheVariants.{Default, V2, DefaultSuffix}
use Rattle.zarr_grids_keys.specs.declared.separator.ChunkKeySeparator.{ChunkKeySeparator}
use Rattle.zarr_grids_keys.specs.declared.separator.ChunkKeySeparator.TheVariants.{Slash, Dot}
use Rattle.zarr_grids_keys.proofs.KeyLemmas.{chunk_key-injective}

-- ---- a chunk's numbers are small
numbers_small : (grid : Grid) (chunk : List ℕ) (box : Region) → are_dimensions grid ≡ true → chunk_box grid chunk ≡ Some box → IsSmall chunk
numbers_small [] [] box t h = λ j g. absurd (omega arith)
numbers_small [] (k ∷ ks) box t h = absurd (cc)
numbers_small (d ∷ ds) [] box t h = absurd (cc)
numbers_small (d ∷ ds) (k ∷ ks) box t h =
    let u = both _ _ t in
    let m = box-more d ds k ks box h in
    let some = interval-positive d k m.along u.0 m.along_is in
    let fit = m.fit in
    let least = number_least d k m.along.first u.0 (in-of d k m.along.first m.along m.along_is (omega arith) (omega arith)) in
    small (omega arith) (numbers_small ds ks m.rest u.1 m.rest_is) where
      small : k < 2 ^ 64 → IsSmall ks → IsSmall (k ∷ ks)
      small a b zero g = a
      small a b (suc j) g = b j (omega arith)

-- ---- a chunk of an array's grid
dimensions_of : (grid : ChunkGrid) → are_dimensions (grid_of_chunks grid) ≡ true
dimensions_of (Regular grid) = always_dimensions grid.dimensions.items
dimensions_of (RegularBounded grid) = always_dimensions grid.dimensions.items
dimensions_of (Rectangular grid) = always_dimensions grid.dimensions.items
dimensions_of (Rectilinear grid) = always_dimensions grid.dimensions.items

pub record IsChunkBox (grid : Grid) (chunk : List ℕ) (box : Region) : Type 0 where
  pub rank : length box.start ≡ length box.shape
  pub grid_rank : length box.start ≡ length grid
  pub chunk_rank : length chunk ≡ length grid
  pub fits : EndsFit box.start box.shape
  pub some : 0 < product box.shape
  pub small : IsSmall chunk

pub box_of_chunk : (grid : ChunkGrid) (chunk : List ℕ) (box : Region) → chunk_box (grid_of_chunks grid) chunk ≡ Some box → IsChunkBox (grid_of_chunks grid) chunk box
box_of_chunk grid chunk box h =
    let dimensions = dimensions_of grid in
    let r = chunk_box-rank (grid_of_chunks grid) chunk box h in
    record {
      rank = r.0 ∙ sym r.1;
      grid_rank = r.0;
      chunk_rank = chunk_box-chunk_rank (grid_of_chunks grid) chunk box h;
      fits = chunk_box-fits (grid_of_chunks grid) chunk box h;
      some = chunk_box-some_places (grid_of_chunks grid) chunk box dimensions h;
      small = numbers_small (grid_of_chunks grid) chunk box dimensions h;
    }

-- ---- two chunks have two keys

-- an array's keys have a slash or a dot
slash_or_dot : (separator : ChunkKeySeparator) → IsTrue (is_separator (separator_byte separator))
slash_or_dot Slash = refl
slash_or_dot Dot = refl

separated : (keys : ChunkKeyEncoding) → IsTrue (has_separator (keys_of keys))
separated (Default encoding) = slash_or_dot encoding.separator
separated (V2 encoding) = slash_or_dot encoding.separator
separated (DefaultSuffix encoding) = slash_or_dot encoding.separator

pub key_apart : (path : List ℕ) (grid : ChunkGrid) (keys : ChunkKeyEncoding) (c d : List ℕ) (box other : Region) → IsInGrid (grid_of_chunks grid) c box → IsInGrid (grid_of_chunks grid) d other → (d ≡ c → ⊥)
    → chunk_key path (keys_of keys) d ≡ chunk_key path (keys_of keys) c → ⊥
key_apart path grid keys c d box other below over ne e =
    let first = box_of_chunk grid d other over.has_box in
    let second = box_of_chunk grid c box below.has_box in
    ne (chunk_key-injective path (keys_of keys) d c (separated keys) (first.chunk_rank ∙ sym second.chunk_rank) first.small second.small e)
