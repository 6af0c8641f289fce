-- What a read of some places of a shard depends on.
use Rattle.std.specs.Prelude.{◌≡◌, ℕ, List, [], ◌∷◌, length, Option, Some, true, nat_lt}
use Rattle.std.specs.List.{list_any}
use Rattle.zarr_codecs_meaning.specs.Types.{Elements, uint64, zero_filled}
use Rattle.zarr_codecs_meaning.specs.Chains.{Chain, Location}
use Rattle.zarr_codecs_meaning.specs.Chains.Chain.{sharded}
use Rattle.zarr_codecs_meaning.specs.Places.{Part, index_shape, parts_of, position_of}
use Rattle.zarr_codecs_meaning.specs.Encoding.{Pair, index_size}
use Rattle.zarr_codecs_meaning.specs.Decoding.{decoded, index_bytes, pairs_in, part_decoded, slice_at}

-- a read of the places with these numbers, of a shard of this shape
pub record ShardRead : Type 0 where
  pub subchunk : List ℕ
  pub index : Chain
  pub location : Location
  pub shape : List ℕ
  pub numbers : List ℕ

-- how many bytes the index has
abbrev pub size_of_index : ShardRead → ℕ
size_of_index read = index_size read.index (index_shape read.shape read.subchunk)

-- the pairs of a value
abbrev pub pairs_read : ShardRead → List ℕ → Option (List Pair)
pairs_read read value = pairs_in (decoded read.index (zero_filled uint64) (index_shape read.shape read.subchunk)) read.location (size_of_index read) value

-- two values have the same slice of each subchunk that one of the places with these numbers lies in
abbrev pub HaveSameSlices : List ℕ → List ℕ → List ℕ → List Part → List Pair → Type 0
HaveSameSlices numbers value other [] pairs = Unit {0}
HaveSameSlices numbers value other (part ∷ parts) [] = Unit {0}
HaveSameSlices numbers value other (part ∷ parts) (pair ∷ pairs) =
    (list_any (λ n. nat_lt (position_of n part.places) (length part.places)) numbers ≡ true → slice_at other pair ≡ slice_at value pair) × HaveSameSlices numbers value other parts pairs

-- two values are the same where a read looks: they are as long, and have the same index and the same slices of the subchunks that the read meets
pub record AreSameFor (read : ShardRead) (value other : List ℕ) : Type 0 where
  pub long : length other ≡ length value
  pub same_index : index_bytes read.location (size_of_index read) other ≡ index_bytes read.location (size_of_index read) value
  pub slices : (pairs : List Pair) → pairs_read read value ≡ Some pairs → HaveSameSlices read.numbers value other (parts_of read.shape read.subchunk) pairs

-- a read of places of a shard depends on these alone: no other byte of the value changes what is read, nor whether anything is
abbrev pub ReadIsLocal : Type 0
ReadIsLocal = (read : ShardRead) (inner : Chain) (elements : Elements) (value other : List ℕ) → AreSameFor read value other → let chain = sharded read.subchunk inner read.index read.location in
    part_decoded chain elements read.shape other read.numbers ≡ part_decoded chain elements read.shape value read.numbers
