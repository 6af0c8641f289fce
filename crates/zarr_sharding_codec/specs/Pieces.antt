-- How the value of a shard, and its array, are cut into pieces.
use Rattle.std.specs.Prelude.{◌≡◌, ◌⊎◌, ℕ, ◌+◌, ◌<◌, ◌≤◌, List, [], ◌∷◌, ◌++◌, length, map, get_or, Option, None, Some, option_and_then, Bool, true, false, nat_lt, Vec, Result, Ok, Err, IfOk}
use Rattle.std.specs.List.{list_all}
use Rattle.std.specs.declared.alloc.AllocError.{AllocError}
use Rattle.std.specs.declared.alloc.Global.{Global}
use Rattle.zarr_grids_boxes.specs.Boxes.{product}
use Rattle.zarr_grids_boxes.specs.Subsets.{region_of}
use Rattle.zarr_codecs_meaning.specs.Chains.{Chain, bytes, packbits, vlen, optional, after_array_codec, then_bytes, sharded}
use Rattle.zarr_codecs_meaning.specs.Decoding.{decoded, is_absent, slice_at}
use Rattle.zarr_codecs_meaning.specs.Encoding.{Pair, Piece, absent_pair, pieces_of}
use Rattle.zarr_codecs_meaning.specs.Fits.{can_cut, fits}
use Rattle.zarr_codecs_meaning.specs.Payloads.{Payload}
use Rattle.zarr_codecs_meaning.specs.Places.{index_shape, parts_of}
use Rattle.zarr_codecs_meaning.specs.Types.{Cell, Elements}
use Rattle.zarr_codecs_arrays.specs.Outcomes.{IsValid}
use Rattle.zarr_codecs_arrays.specs.Views.{payload_of}
use Rattle.zarr_codecs_arrays.specs.declared.array_bytes.ArrayBytes.{ArrayBytes}
use Rattle.zarr_codecs_arrays.specs.declared.error.CodecError.{CodecError}
use Rattle.zarr_codecs_arrays.specs.declared.error.CodecError.TheVariants as error
use Rattle.zarr_codecs_traits.specs.Arrays.{Coded, coded}
use Rattle.zarr_codecs_traits.specs.Indexers.{Asked, are_inside, in_box, listed, numbers_asked, numbers_of}
use Rattle.zarr_codecs_traits.specs.Outcomes.{Decodes, Encodes}
use Rattle.zarr_codecs_traits.specs.Pieces.{refused_by_pieces}
use Rattle.zarr_codecs_traits.specs.declared.pieces.ArrayPieces.{ArrayPieces}
use Rattle.zarr_codecs_traits.specs.declared.pieces.PiecePlaces.{PiecePlaces}
use Rattle.zarr_codecs_traits.specs.declared.pieces.PiecePlaces.TheVariants as places
use Rattle.zarr_codecs_traits.specs.declared.pieces.PieceSlice.{PieceSlice}
use Rattle.zarr_codecs_traits.specs.declared.pieces.ValuePieces.{ValuePieces}
use Rattle.zarr_sharding_index.specs.HeldIndex.{FetchesSlice, IsIndexHeld}
use Rattle.zarr_sharding_index.specs.Listed.{are_present, full_list}
use Rattle.zarr_sharding_index.specs.Views.{pair_of}
use Rattle.zarr_sharding_index.specs.declared.pair.PresentPair.{PresentPair}
use Rattle.zarr_sharding_places.specs.Locating.{inside_of, part_shape, subchunk_of}
use Rattle.zarr_sharding_codec.specs.Reading.{AreCells, DecodesPieces, Lists, ListsRead, shard_cells, slice_cells, subchunks_of}
use Rattle.zarr_sharding_codec.specs.Slices.{ArePiecesStored, StoresPiece}

-- ---- the shard of an array

-- the chain of the subchunks of a shard alone
abbrev pub inner_chain : Chain → Chain
inner_chain (bytes order) = bytes order
inner_chain (packbits padding first last) = packbits padding first last
inner_chain (vlen index «data» width location) = vlen index «data» width location
inner_chain (optional mask values) = optional mask values
inner_chain (after_array_codec codec chain) = after_array_codec codec chain
inner_chain (then_bytes chain codec) = then_bytes chain codec
inner_chain (sharded subchunk inner index location) = inner

-- the shape of the subchunks of a shard alone
abbrev pub subchunk_in : Chain → List ℕ
subchunk_in (bytes order) = []
subchunk_in (packbits padding first last) = []
subchunk_in (vlen index «data» width location) = []
subchunk_in (optional mask values) = []
subchunk_in (after_array_codec codec chain) = []
subchunk_in (then_bytes chain codec) = []
subchunk_in (sharded subchunk inner index location) = subchunk

-- the value of a shard alone, of which this is the shape of the array, has an index of these pairs
abbrev pub HoldsPairs : Chain → List ℕ → List ℕ → List Pair → Type 0
HoldsPairs (bytes order) shape value pairs = ⊥
HoldsPairs (packbits padding first last) shape value pairs = ⊥
HoldsPairs (vlen index «data» width location) shape value pairs = ⊥
HoldsPairs (optional mask values) shape value pairs = ⊥
HoldsPairs (after_array_codec codec chain) shape value pairs = ⊥
HoldsPairs (then_bytes chain codec) shape value pairs = ⊥
HoldsPairs (sharded subchunk inner index location) shape value pairs = IsIndexHeld index location (index_shape shape subchunk) value pairs

-- the subchunk with a number, as an array that the chain inside the shard encodes
abbrev pub part_array : Coded → ℕ → Coded
part_array array n = coded (inner_chain array.chain) array.elements (part_shape array.shape (subchunk_in array.chain) n)

-- ---- the pieces of a value

-- the slice of a present pair, of whose subchunk all places are asked for
abbrev pub whole_slice : PresentPair → PieceSlice
whole_slice pair = record { number = pair.number; range = pair.range; places = places.All }

-- a slice where there is none
abbrev pub no_slice : PieceSlice
no_slice = record { number = 0; range = record { offset = 0; length = 0 }; places = places.All }

-- slices are those of the present ones of some pairs, in their order
pub record AreSliced (pairs : List Pair) (slices : List PieceSlice) : Type 0 where
  pub present : List PresentPair
  pub listed : are_present 0 (length pairs) present ≡ true
  pub full : full_list (length pairs) present ≡ pairs
  pub are : slices ≡ map whole_slice present

-- the pieces of a value of the array of a shard: its present slices
pub record IsCut (array : Coded) (value : List ℕ) (pieces : ValuePieces) : Type 0 where
  pub fit : fits array.chain array.elements.type array.shape ≡ true
  pub pairs : List Pair
  pub held : HoldsPairs array.chain array.shape value pairs
  pub sliced : AreSliced pairs pieces.slices.items
  pub data_is : pieces.data.items ≡ value
  pub shape_is : pieces.shape.items ≡ array.shape

-- places of an array are asked for, at least one of them
pub record AreAsked (shape : List ℕ) (asked : Asked) : Type 0 where
  pub some : 0 < length (numbers_asked shape asked)
  pub inside : are_inside shape asked ≡ true

-- the cells at places of a subchunk that a slice holds, if there is one
abbrev pub cells_found : Coded → Option (List ℕ) → Asked → Option (List Cell)
cells_found part found asked = option_and_then (λ slice. slice_cells part.chain part.elements part.shape slice (numbers_asked part.shape asked)) found

-- what decoding a slice answers at the places of its subchunk that are asked for
abbrev pub DecodesPlaces : Coded → Option (List ℕ) → PiecePlaces → Result ArrayBytes CodecError → Type 0
DecodesPlaces part found places.All result = Lists part.elements part.shape (option_and_then (decoded part.chain part.elements part.shape) found) result
DecodesPlaces part found (places.InBox inside target) result = AreAsked part.shape (in_box (region_of inside)) → Lists part.elements part.shape (cells_found part found (in_box (region_of inside))) result
DecodesPlaces part found (places.Listed insides positions) result = AreAsked part.shape (listed insides.items) → Lists part.elements part.shape (cells_found part found (listed insides.items)) result

-- what decoding a slice of a shard of an array answers, where the codecs of the subchunks suit its own
abbrev pub DecodesSlice : Coded → List ℕ → PieceSlice → Result ArrayBytes CodecError → Type 0
DecodesSlice array «data» slice result =
    let part = part_array array slice.number in
    fits part.chain part.elements.type part.shape ≡ true → DecodesPlaces part (slice_at «data» (pair_of slice.range)) slice.places result

-- what decoding one of the pieces of a value answers
abbrev pub DecodesPieceOf : Coded → ValuePieces → ℕ → Result ArrayBytes CodecError → Type 0
DecodesPieceOf array pieces n result = DecodesSlice array pieces.data.items (get_or pieces.slices.items n no_slice) result

-- a value of the array of a shard is cut, or why it isn't decoded
abbrev pub CutsValue : Coded → List ℕ → Result ValuePieces CodecError → Type 0
CutsValue array value (Ok pieces) = IsCut array value pieces
CutsValue array value (Err e) = Decodes array value (Err e)

-- what decoding some places of a subchunk of a slice answers, where its codecs suit it
abbrev pub DecodesAsked : Coded → List ℕ → Asked → Result ArrayBytes CodecError → Type 0
DecodesAsked part slice asked result = fits part.chain part.elements.type part.shape ≡ true → AreAsked part.shape asked → Lists part.elements part.shape (cells_found part (Some slice) asked) result

-- ---- what was made of the pieces

-- a refusal is one of those that were made
pub record IsMadeRefusal {A : Type 0} (made : List (Result A CodecError)) (e : CodecError) : Type 0 where
  pub at_ : ℕ
  pub below : at_ < length made
  pub is : (d : Result A CodecError) → get_or made at_ d ≡ Err e

-- why not all pieces were made: one was refused, or memory ran out
abbrev pub IsRefusalOf : {A : Type 0} → List (Result A CodecError) → CodecError → Type 0
IsRefusalOf made e = (e ≡ error.Memory) ⊎ IsMadeRefusal made e

-- elements are those that the slices of a value are decoded to, each of its own
pub record AreDecoded (array : Coded) (value : List ℕ) (slices : List PieceSlice) (found : List ArrayBytes) : Type 0 where
  pub many : length found ≡ length slices
  pub each : (j : ℕ) (d : ArrayBytes) → j < length slices → DecodesSlice array value (get_or slices j no_slice) (Ok (get_or found j d))

-- the elements of the array of a shard of some pairs, where these are the ones of the present slices, or why there are none
abbrev pub PutsSlices : Coded → List PieceSlice → List ArrayBytes → Result ArrayBytes CodecError → Type 0
PutsSlices array slices found result =
    (value : List ℕ) (pairs : List Pair) → fits array.chain array.elements.type array.shape ≡ true → length pairs ≡ length (parts_of array.shape (subchunk_in array.chain)) → AreSliced pairs slices → AreDecoded array value slices found
    → DecodesPieces (subchunks_of (inner_chain array.chain) array.elements array.shape (subchunk_in array.chain)) value pairs result

-- ---- the pieces of an array

-- the pieces of the array of a shard: its elements, its shape and the count of its subchunks
pub record IsCutArray (array : Coded) (payload : Payload) (pieces : ArrayPieces) : Type 0 where
  pub fit : fits array.chain array.elements.type array.shape ≡ true
  pub cells : List Cell
  pub valid : IsValid array.elements.type payload (product array.shape) cells
  pub bytes_are : payload_of pieces.bytes ≡ payload
  pub shape_is : pieces.shape.items ≡ array.shape
  pub count_is : pieces.count ≡ length (parts_of array.shape (subchunk_in array.chain))

-- the array of a shard is cut, memory aside
abbrev pub CutsArray : Coded → Payload → Result ArrayPieces CodecError → Type 0
CutsArray array payload (Ok pieces) = IsCutArray array payload pieces
CutsArray array payload (Err error.Memory) = Unit {0}
CutsArray array payload (Err e) = ⊥

-- the subchunk with a number, and its cells
abbrev pub piece_numbered : Coded → List Cell → ℕ → Piece
piece_numbered array cells n = get_or (pieces_of array.elements.fill cells (parts_of array.shape (subchunk_in array.chain))) n ([], [])

-- what encoding one of the pieces of an array with these elements answers, where the shard suits the array
abbrev pub StoresNumbered : Bool → Coded → Payload → ℕ → Result (Option (Vec ℕ Global)) CodecError → Type 0
StoresNumbered exact array payload n result =
    (cells : List Cell) → fits array.chain array.elements.type array.shape ≡ true → IsValid array.elements.type payload (product array.shape) cells → StoresPiece (inner_chain array.chain) exact array.elements (piece_numbered array cells n) result

-- what encoding one of the pieces of an array answers
abbrev pub StoresPieceOf : Bool → Coded → ArrayPieces → ℕ → Result (Option (Vec ℕ Global)) CodecError → Type 0
StoresPieceOf exact array pieces n result = StoresNumbered exact array (payload_of pieces.bytes) n result

-- the shard of an array put together from what is stored of its subchunks, or why there is none
abbrev pub JoinsSlices : Coded → Bool → Bool → List (Option (List ℕ)) → Result (Vec ℕ Global) CodecError → Type 0
JoinsSlices array inner_exact exact stored result =
    (payload : Payload) (cells : List Cell) → IsValid array.elements.type payload (product array.shape) cells
    → ArePiecesStored (inner_chain array.chain) inner_exact array.elements (pieces_of array.elements.fill cells (parts_of array.shape (subchunk_in array.chain))) stored → Encodes array exact payload result

-- ---- the pieces of a part

-- places of the array of a shard that are asked for, the shard's value, and the pairs of its index
pub record AskedPart : Type 0 where
  pub array : Coded
  pub asked : Asked
  pub value : List ℕ
  pub pairs : List Pair

-- the same, put together
abbrev pub asked_part : Coded → Asked → List ℕ → List Pair → AskedPart
asked_part array asked value pairs = record { array = array; asked = asked; value = value; pairs = pairs }

-- the numbers of the places
abbrev pub asked_numbers : AskedPart → List ℕ
asked_numbers part = numbers_asked part.array.shape part.asked

-- the number of the subchunk that the place at a position lies in, and that of the place there
abbrev pub subchunk_at : AskedPart → ℕ → ℕ
subchunk_at part t = subchunk_of part.array.shape (subchunk_in part.array.chain) (get_or (asked_numbers part) t 0)

-- the number that it has in its subchunk
abbrev pub inside_at : AskedPart → ℕ → ℕ
inside_at part t = inside_of part.array.shape (subchunk_in part.array.chain) (get_or (asked_numbers part) t 0)

-- places of a subchunk as they stand in it
abbrev pub asked_in : PiecePlaces → Asked
asked_in places.All = listed []
asked_in (places.InBox inside target) = in_box (region_of inside)
asked_in (places.Listed insides positions) = listed insides.items

-- and as they stand among all that are asked for
abbrev pub positions_in : Asked → PiecePlaces → List ℕ
positions_in (in_box region) places.All = []
positions_in (in_box region) (places.InBox inside target) = numbers_of region.shape (region_of target)
positions_in (in_box region) (places.Listed insides positions) = []
positions_in (listed numbers) places.All = []
positions_in (listed numbers) (places.InBox inside target) = []
positions_in (listed numbers) (places.Listed insides positions) = positions.items

-- places of the subchunk with this number are some of those that are asked for
pub record IsReadFor (part : AskedPart) (k : ℕ) (places : PiecePlaces) : Type 0 where
  pub asked : AreAsked (part_array part.array k).shape (asked_in places)
  pub many : length (numbers_asked (part_array part.array k).shape (asked_in places)) ≡ length (positions_in part.asked places)
  pub low : (i : ℕ) → i < length (positions_in part.asked places) → get_or (positions_in part.asked places) i 0 < length (asked_numbers part)
  pub lies : (i : ℕ) → i < length (positions_in part.asked places) → subchunk_at part (get_or (positions_in part.asked places) i 0) ≡ k
  pub place : (i : ℕ) → i < length (positions_in part.asked places) → inside_at part (get_or (positions_in part.asked places) i 0) ≡ get_or (numbers_asked (part_array part.array k).shape (asked_in places)) i 0

-- a slice is that of a present subchunk, as its value holds it
pub record IsSliceRead (part : AskedPart) («data» : List ℕ) (slice : PieceSlice) : Type 0 where
  pub below : slice.number < length part.pairs
  pub there : is_absent (get_or part.pairs slice.number absent_pair) ≡ false
  pub within : slice.range.offset + slice.range.length ≤ length «data»
  pub bytes_are : slice_at «data» (pair_of slice.range) ≡ slice_at part.value (get_or part.pairs slice.number absent_pair)
  pub read_for : IsReadFor part slice.number slice.places

-- each of some slices is
abbrev pub AreRead : AskedPart → List ℕ → List PieceSlice → Type 0
AreRead part «data» slices = (j : ℕ) → j < length slices → IsSliceRead part «data» (get_or slices j no_slice)

-- a place is one of those that a slice was read for
pub record IsAmongSlices (part : AskedPart) (slices : List PieceSlice) (t : ℕ) : Type 0 where
  pub at_ : ℕ
  pub below : at_ < length slices
  pub position : ℕ
  pub within : position < length (positions_in part.asked (get_or slices at_ no_slice).places)
  pub is : get_or (positions_in part.asked (get_or slices at_ no_slice).places) position 0 ≡ t

-- the subchunk of a place is absent, or its slice was read
abbrev pub IsCovered : AskedPart → List PieceSlice → ℕ → Type 0
IsCovered part slices t = (is_absent (get_or part.pairs (subchunk_at part t) absent_pair) ≡ true) ⊎ IsAmongSlices part slices t

-- what the cells at the places are
abbrev pub cells_asked : AskedPart → Option (List Cell)
cells_asked part = shard_cells (subchunks_of (inner_chain part.array.chain) part.array.elements part.array.shape (subchunk_in part.array.chain)) part.value part.pairs (asked_numbers part)

-- slices that were read for the places: all that are present, or those before one that was refused
pub record ArePartRead (part : AskedPart) (pieces : ValuePieces) : Type 0 where
  pub shape_is : pieces.shape.items ≡ part.array.shape
  pub each : AreRead part pieces.data.items pieces.slices.items
  pub all : pieces.stopped ≡ None → (t : ℕ) → t < length (asked_numbers part) → IsCovered part pieces.slices.items t
  pub stops : (e : CodecError) → pieces.stopped ≡ Some e → ListsRead part.array.elements part.array.shape (cells_asked part) (Err e)

-- the pieces that hold what is asked for of the array of a shard
pub record IsCutPart (array : Coded) (stored : Option (List ℕ)) (asked : Asked) (pieces : ValuePieces) : Type 0 where
  pub fit : fits array.chain array.elements.type array.shape ≡ true
  pub inside : are_inside array.shape asked ≡ true
  pub value : List ℕ
  pub stored_is : stored ≡ Some value
  pub pairs : List Pair
  pub held : HoldsPairs array.chain array.shape value pairs
  pub are : ArePartRead (asked_part array asked value pairs) pieces

-- the count of refused calls after slices were read
abbrev pub refused_reading : ℕ → Result ValuePieces AllocError → ℕ
refused_reading count (Ok pieces) = refused_by_pieces count pieces.stopped
refused_reading count (Err e) = count

-- ---- one slice more

-- a subchunk: its pair and its number, and places of it that are asked for
pub record AskedPiece : Type 0 where
  pub pair : Pair
  pub number : ℕ
  pub places : PiecePlaces

-- the same, put together
abbrev pub asked_piece : Pair → ℕ → PiecePlaces → AskedPiece
asked_piece pair number places = record { pair = pair; number = number; places = places }

-- a subchunk is absent, and nothing is read for it
pub record IsSkipped (pair : Pair) (before after : ValuePieces) : Type 0 where
  pub absent : is_absent pair ≡ true
  pub same : after ≡ before

-- a slice of these bytes stands behind the others
pub record IsBehind (number : ℕ) (places : PiecePlaces) (bytes : List ℕ) (before after : ValuePieces) : Type 0 where
  pub data_is : after.data.items ≡ before.data.items ++ bytes
  pub slices_are : after.slices.items ≡ before.slices.items ++ record { number = number; range = record { offset = length before.data.items; length = length bytes }; places = places } ∷ []
  pub shape_is : after.shape ≡ before.shape
  pub stopped_is : after.stopped ≡ before.stopped

-- the slice of a subchunk was read
pub record IsPushed (value : List ℕ) (piece : AskedPiece) (before after : ValuePieces) : Type 0 where
  pub there : is_absent piece.pair ≡ false
  pub bytes : List ℕ
  pub found : slice_at value piece.pair ≡ Some bytes
  pub behind : IsBehind piece.number piece.places bytes before after

-- it was refused
pub record IsStopped (value : List ℕ) (pair : Pair) (before after : ValuePieces) : Type 0 where
  pub there : is_absent pair ≡ false
  pub error : CodecError
  pub lost : FetchesSlice value pair (Err error)
  pub is : after ≡ record before { stopped = Some error }

-- what is read of a value for a subchunk
abbrev pub ReadsMore : List ℕ → AskedPiece → ValuePieces → ValuePieces → Type 0
ReadsMore value piece before after = IsSkipped piece.pair before after ⊎ (IsPushed value piece before after ⊎ IsStopped value piece.pair before after)

-- no slices of the array of this shape were read yet
pub record HasNoPiece (shape : List ℕ) (pieces : ValuePieces) : Type 0 where
  pub none : pieces.slices.items ≡ []
  pub shape_is : pieces.shape.items ≡ shape
  pub goes_on : pieces.stopped ≡ None

-- ---- what was decoded for a part

-- the array is cut into subchunks that the codecs suit, each of which has a pair, and the places are the array's
pub record CanBeAsked (part : AskedPart) : Type 0 where
  pub cuts : can_cut part.array.shape (subchunk_in part.array.chain) ≡ true
  pub many : length part.pairs ≡ length (parts_of part.array.shape (subchunk_in part.array.chain))
  pub below : list_all (λ n. nat_lt n (product part.array.shape)) (asked_numbers part) ≡ true
  pub fit : (k : ℕ) → k < length part.pairs → fits (part_array part.array k).chain part.array.elements.type (part_array part.array k).shape ≡ true

-- elements at the places that are asked for, put together from what the slices that were read for them are decoded to
abbrev pub PutsPart : Elements → Asked → List PieceSlice → List ArrayBytes → Result ArrayBytes AllocError → Type 0
PutsPart elements asked slices found result =
    (part : AskedPart) («data» : List ℕ) → part.array.elements ≡ elements → part.asked ≡ asked → CanBeAsked part → AreRead part «data» slices → AreDecoded part.array «data» slices found
    → ((t : ℕ) → t < length (asked_numbers part) → IsCovered part slices t) → IfOk result (AreCells elements (cells_asked part))
