-- What is read of the subchunks of a shard.
use Rattle.std.specs.Prelude.{◌≡◌, ℕ, Bool, true, false, List, length, map, replicate, Option, None, Some, option_and_then, if◌then◌else◌, Result, Ok, Err}
use Rattle.zarr_grids_boxes.specs.Boxes.{Region, product}
use Rattle.zarr_codecs_meaning.specs.Chains.{Chain}
use Rattle.zarr_codecs_meaning.specs.Decoding.{all_there, cell_at, cell_of_part, is_absent, slice_at, cell_of_pair}
use Rattle.zarr_codecs_meaning.specs.Encoding.{Pair}
use Rattle.zarr_codecs_meaning.specs.Payloads.{cells_in, fixed}
use Rattle.zarr_codecs_meaning.specs.Places.{parts_of}
use Rattle.zarr_codecs_meaning.specs.Types.{Cell, Elements, IsTooLarge}
use Rattle.zarr_codecs_arrays.specs.Views.{payload_of}
use Rattle.zarr_codecs_arrays.specs.declared.array_bytes.ArrayBytes.{ArrayBytes}
use Rattle.zarr_codecs_arrays.specs.declared.error.CodecError.{CodecError}
use Rattle.zarr_codecs_arrays.specs.declared.error.CodecError.TheVariants as error
use Rattle.zarr_codecs_regions.specs.Updates.{put}
use Rattle.zarr_codecs_traits.specs.Arrays.{Coded}
use Rattle.zarr_codecs_traits.specs.Indexers.{numbers_of}
use Rattle.zarr_sharding_index.specs.Present.{all_pairs}
use Rattle.zarr_sharding_index.specs.declared.fetched_index.FetchedIndex.{FetchedIndex}
use Rattle.zarr_sharding_index.specs.declared.index.ShardIndex.{ShardIndex}
use Rattle.zarr_sharding_index.specs.Held.{are_absent}
use Rattle.zarr_sharding_places.specs.Boxed.{ShowsBoxes}
use Rattle.zarr_sharding_places.specs.Pieces.{piece_decoded, shard_decoded}
pub use Rattle.zarr_sharding_places.specs.Pieces.{Subchunks, subchunks_of}
use Rattle.zarr_sharding_places.specs.declared.boxed.BoxedElements.{BoxedElements}

-- elements are these cells, if there are any
pub record AreCells (elements : Elements) (found : Option (List Cell)) (bytes : ArrayBytes) : Type 0 where
  pub cells : List Cell
  pub is : found ≡ Some cells
  pub lists : cells_in elements.type (payload_of bytes) ≡ Some cells

-- bytes are the elements of these cells as they stand in memory, if there are any
pub record AreBytes (elements : Elements) (found : Option (List Cell)) (bytes : List ℕ) : Type 0 where
  pub cells : List Cell
  pub is : found ≡ Some cells
  pub lists : cells_in elements.type (fixed bytes) ≡ Some cells

-- elements of an array of this shape, which are these cells, or why there are none: there are no such cells, or they would be too many
abbrev pub Lists : Elements → List ℕ → Option (List Cell) → Result ArrayBytes CodecError → Type 0
Lists elements shape found (Ok bytes) = AreCells elements found bytes
Lists elements shape found (Err error.Damage) = found ≡ None
Lists elements shape found (Err error.Size) = IsTooLarge elements.type (product shape)
Lists elements shape found (Err error.Memory) = Unit {0}
Lists elements shape found (Err e) = ⊥

-- as many fill values as a shape has places, or that they are too many
abbrev pub FillsPiece : Elements → List ℕ → Result ArrayBytes CodecError → Type 0
FillsPiece elements shape result = Lists elements shape (Some (replicate (product shape) elements.fill)) result

-- the elements of a subchunk, or why there are none
abbrev pub DecodesPiece : Coded → List ℕ → Pair → Result ArrayBytes CodecError → Type 0
DecodesPiece piece value pair result = Lists piece.elements piece.shape (piece_decoded piece.chain piece.elements value piece.shape pair) result

-- the cells of a subchunk of this shape, if there are any, and the box that it is of an array of that one
pub record PieceFound : Type 0 where
  pub piece : List ℕ
  pub found : Option (List Cell)
  pub shape : List ℕ
  pub region : Region

-- the same, put together
abbrev pub found_piece : List ℕ → Option (List Cell) → List ℕ → Region → PieceFound
found_piece piece found shape region = record { piece = piece; found = found; shape = shape; region = region }

-- the elements of an array after those of a subchunk were put over the ones of its box, or why they weren't: there are no such cells, or they would be too many
abbrev pub PutsPiece : Elements → PieceFound → BoxedElements → Result BoxedElements CodecError → Type 0
PutsPiece elements new all (Ok made) =
    (cells : List Cell) × (new.found ≡ Some cells)
    × ((before : List Cell) → ShowsBoxes elements all before → length cells ≡ product new.region.shape → ShowsBoxes elements made (put (numbers_of new.shape new.region) cells before))
PutsPiece elements new all (Err e) = Lists elements new.piece new.found (Err e)

-- the elements of the array of a shard whose index has these pairs, or why there are none
abbrev pub DecodesPieces : Subchunks → List ℕ → List Pair → Result ArrayBytes CodecError → Type 0
DecodesPieces array value pairs result = Lists array.elements array.shape (shard_decoded array value pairs) result

-- the index of a shard, or why there is none, by what decoding it tells and by whether the codec suits the array
abbrev pub DecodesIndexOf : (Result ShardIndex CodecError → Type 0) → Bool → Result ShardIndex CodecError → Type 0
DecodesIndexOf decodes fit (Ok found) = (fit ≡ true) × decodes (Ok found)
DecodesIndexOf decodes fit (Err error.Fit) = fit ≡ false
DecodesIndexOf decodes fit (Err error.Damage) = (fit ≡ true) × decodes (Err error.Damage)
DecodesIndexOf decodes fit (Err error.Memory) = Unit {0}
DecodesIndexOf decodes fit (Err e) = ⊥

-- an index that was fetched, if one was, has so many pairs
abbrev pub HasPairs : ℕ → Option FetchedIndex → Type 0
HasPairs count None = Unit {0}
HasPairs count (Some found) = length (all_pairs found.pairs) ≡ count

-- ---- places that are read alone

-- the cell at a place of a subchunk: the fill value where the subchunk is absent, else what its slice has there
abbrev pub place_decoded : Coded → List ℕ → Pair → ℕ → Option Cell
place_decoded piece value pair place = if is_absent pair then Some piece.elements.fill else option_and_then (λ slice. cell_at piece.chain piece.elements piece.shape slice place) (slice_at value pair)

-- the cells at places of a subchunk, in their order
abbrev pub places_decoded : Coded → List ℕ → Pair → List ℕ → Option (List Cell)
places_decoded piece value pair places = all_there (map (place_decoded piece value pair) places)

-- the cells at places of the subchunk that a slice holds, in their order
abbrev pub slice_cells : Chain → Elements → List ℕ → List ℕ → List ℕ → Option (List Cell)
slice_cells inner elements shape slice places = all_there (map (cell_at inner elements shape slice) places)

-- the cell at a place of the array of a shard whose index has these pairs: of the subchunks only the place's own is met
abbrev pub shard_cell : Subchunks → List ℕ → List Pair → ℕ → Option Cell
shard_cell array value pairs place = cell_of_part (cell_of_pair (cell_at array.inner array.elements) array.elements.fill value) place (parts_of array.shape array.subchunk) pairs

-- the cells at places of it, in their order
abbrev pub shard_cells : Subchunks → List ℕ → List Pair → List ℕ → Option (List Cell)
shard_cells array value pairs places = all_there (map (shard_cell array value pairs) places)

-- elements that are read from a source, which are these cells, or why there are none
abbrev pub ListsRead : Elements → List ℕ → Option (List Cell) → Result ArrayBytes CodecError → Type 0
ListsRead elements shape found (Err error.Source) = Unit {0}
ListsRead elements shape found result = Lists elements shape found result

-- so many bytes are those of the value that a source holds; where it holds none, no subchunk is present
abbrev pub IsTotalOf : Option (List ℕ) → List Pair → ℕ → Type 0
IsTotalOf None pairs total = are_absent pairs ≡ true
IsTotalOf (Some value) pairs total = total ≡ length value
