-- Laws of codec chains.
use Rattle.std.specs.Prelude.{◌≡◌, ℕ, ◌+◌, List, length, Option, Some, true, nat_lt}
use Rattle.std.specs.List.{list_all}
use Rattle.zarr_grids_boxes.specs.Boxes.{product}
use Rattle.zarr_codecs_meaning.specs.Types.{Cell, is_value, Elements}
use Rattle.zarr_codecs_meaning.specs.Chains.{BytesRepresentation, ByteCodec, Chain, Location}
use Rattle.zarr_codecs_meaning.specs.Chains.Chain.{bytes, packbits, vlen, optional, after_array_codec, then_bytes, sharded}
use Rattle.zarr_codecs_meaning.specs.Places.{gather, parts_of, index_shape}
use Rattle.zarr_codecs_meaning.specs.Fits.{fits, bound_of, representation_of, is_size_as, is_bound_within, is_lossless}
use Rattle.zarr_codecs_meaning.specs.Encoding.{pieces_of, stored_pieces, joined_slices, index_size, encoded}
use Rattle.zarr_codecs_meaning.specs.Decoding.{decoded, part_decoded}
use Rattle.zarr_codecs_meaning.specs.Standing.{Stands, Tight}

-- a caller's codec undoes what it makes, what it tells of sizes is true, and of less bytes it tells no larger bound
pub record IsLawful (codec : ByteCodec) : Type 0 where
  pub undoes : (given made : List ℕ) → codec.encode given ≡ Some made → codec.decode made ≡ Some given
  pub honest : (known : BytesRepresentation) (given made : List ℕ) → codec.encode given ≡ Some made → is_size_as known (length given) ≡ true → is_size_as (codec.representation known) (length made) ≡ true
  pub monotone : (known wider : BytesRepresentation) → is_bound_within (bound_of known) (bound_of wider) ≡ true → is_bound_within (bound_of (codec.representation known)) (bound_of (codec.representation wider)) ≡ true

-- each of a caller's codecs in a chain is lawful
abbrev pub IsLawfulChain : Chain → Type 0
IsLawfulChain (bytes order) = Unit {0}
IsLawfulChain (packbits padding first last) = Unit {0}
IsLawfulChain (vlen index «data» width location) = IsLawfulChain index × IsLawfulChain «data»
IsLawfulChain (optional mask values) = IsLawfulChain mask × IsLawfulChain values
IsLawfulChain (after_array_codec codec chain) = IsLawfulChain chain
IsLawfulChain (then_bytes chain codec) = IsLawfulChain chain × IsLawful codec
IsLawfulChain (sharded subchunk inner index location) = IsLawfulChain inner × IsLawfulChain index

-- cells of an array of this shape: as many as it has places, and each a value of the type, as the fill value is
pub record AreCells (elements : Elements) (shape : List ℕ) (cells : List Cell) : Type 0 where
  pub fill : is_value elements.type elements.fill ≡ true
  pub values : list_all (is_value elements.type) cells ≡ true
  pub whole : length cells ≡ product shape

-- what is encoded has the size, or at most the size, that the type and the shape tell
abbrev pub EncodedSize : Type 0
EncodedSize = (chain : Chain) (elements : Elements) (shape value : List ℕ) (cells : List Cell) → IsLawfulChain chain → fits chain elements.type shape ≡ true → AreCells elements shape cells
    → encoded chain elements shape cells ≡ Some value → is_size_as (representation_of chain elements.type shape) (length value) ≡ true

-- a shard is as long as its index and the slices of the subchunks that are present
abbrev pub ShardSize : Type 0
ShardSize = (subchunk : List ℕ) (inner index : Chain) (location : Location) (elements : Elements) (shape value : List ℕ) (cells : List Cell) (stored : List (Option (List ℕ))) → let chain = sharded subchunk inner index location in
    IsLawfulChain chain → fits chain elements.type shape ≡ true → AreCells elements shape cells
    → stored_pieces (encoded inner elements) elements.fill (pieces_of elements.fill cells (parts_of shape subchunk)) ≡ Some stored → encoded chain elements shape cells ≡ Some value
    → length value ≡ index_size index (index_shape shape subchunk) + length (joined_slices stored)

-- what a lossless chain encodes stands for the cells
abbrev pub EncodedStands : Type 0
EncodedStands = (chain : Chain) (elements : Elements) (shape value : List ℕ) (cells : List Cell) → IsLawfulChain chain → fits chain elements.type shape ≡ true → is_lossless chain elements.type ≡ true → AreCells elements shape cells
    → encoded chain elements shape cells ≡ Some value → Stands chain elements shape value cells

-- what stands for cells is decoded to them, however it was written
abbrev pub StandsDecoded : Type 0
StandsDecoded = (chain : Chain) (elements : Elements) (shape value : List ℕ) (cells : List Cell) → IsLawfulChain chain → fits chain elements.type shape ≡ true → is_lossless chain elements.type ≡ true → AreCells elements shape cells
    → Stands chain elements shape value cells → decoded chain elements shape value ≡ Some cells

-- values that stand for the same cells are decoded alike
abbrev pub StandingAlike : Type 0
StandingAlike = (chain : Chain) (elements : Elements) (shape value other : List ℕ) (cells : List Cell) → IsLawfulChain chain → fits chain elements.type shape ≡ true → is_lossless chain elements.type ≡ true → AreCells elements shape cells
    → Stands chain elements shape value cells → Stands chain elements shape other cells → decoded chain elements shape value ≡ decoded chain elements shape other

-- the same of its slices, each of which is what encoding writes
abbrev pub EncodedTight : Type 0
EncodedTight = (chain : Chain) (elements : Elements) (shape value : List ℕ) (cells : List Cell) → IsLawfulChain chain → fits chain elements.type shape ≡ true → is_lossless chain elements.type ≡ true → AreCells elements shape cells
    → encoded chain elements shape cells ≡ Some value → Tight chain elements shape value cells

-- a value with such slices stands
abbrev pub TightStands : Type 0
TightStands = (chain : Chain) (elements : Elements) (shape value : List ℕ) (cells : List Cell) → IsLawfulChain chain → fits chain elements.type shape ≡ true → is_lossless chain elements.type ≡ true → AreCells elements shape cells
    → Tight chain elements shape value cells → Stands chain elements shape value cells

-- where a value is decoded, a part of it is the cells at its places, whoever wrote the value
abbrev pub PartDecoded : Type 0
PartDecoded = (chain : Chain) (elements : Elements) (shape value : List ℕ) (cells : List Cell) (places : List ℕ) → fits chain elements.type shape ≡ true
    → decoded chain elements shape value ≡ Some cells → list_all (λ place. nat_lt place (product shape)) places ≡ true → part_decoded chain elements shape value places ≡ Some (gather elements.fill cells places)

-- a part of what stands for cells is those cells at its places
abbrev pub PartSelects : Type 0
PartSelects = (chain : Chain) (elements : Elements) (shape value : List ℕ) (cells : List Cell) (places : List ℕ) → IsLawfulChain chain → fits chain elements.type shape ≡ true → is_lossless chain elements.type ≡ true → AreCells elements shape cells
    → Stands chain elements shape value cells → list_all (λ place. nat_lt place (product shape)) places ≡ true → part_decoded chain elements shape value places ≡ Some (gather elements.fill cells places)
