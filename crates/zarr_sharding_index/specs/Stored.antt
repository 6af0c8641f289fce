-- How the index of a shard is stored.
use Rattle.std.specs.Prelude.{◌≡◌, ℕ, ◌*◌, List, length, Option, None, Some, option_map, Bool, true, false, ◌&&◌, Vec, Result, Ok, Err, IsTrue}
use Rattle.std.specs.declared.alloc.Global.{Global}
use Rattle.zarr_grids_boxes.specs.Boxes.{product}
use Rattle.zarr_codecs_meaning.specs.Chains.{Chain}
use Rattle.zarr_codecs_meaning.specs.Decoding.{decoded, pairs_of_cells}
use Rattle.zarr_codecs_meaning.specs.Encoding.{Pair, encoded, index_size, pair_cells}
use Rattle.zarr_codecs_meaning.specs.Fits.{fits, has_index_size, is_lossless}
use Rattle.zarr_codecs_meaning.specs.Making.{IsMadeOf}
use Rattle.zarr_codecs_meaning.specs.Refusals.{CodecRefuses, PassesIndex}
use Rattle.zarr_codecs_meaning.specs.Types.{uint64, zero_filled}
use Rattle.zarr_codecs_traits.specs.Capabilities.{encodes_as_is}
use Rattle.zarr_codecs_arrays.specs.declared.error.CodecError.{CodecError}
use Rattle.zarr_codecs_arrays.specs.declared.error.CodecError.TheVariants as error
use Rattle.zarr_sharding_index.specs.declared.index.ShardIndex.{ShardIndex}
use Rattle.zarr_sharding_index.specs.Views.{pairs_of}

-- whether a chain can write an index of this shape: it fits, and makes fewer than 2^63 bytes, always as many, no codec on the way more; the numbers of the index have fewer as well
abbrev pub index_fits : Chain → List ℕ → Bool
index_fits index shape = fits index uint64 shape && has_index_size index shape

-- how many bytes a chain makes of an index, where it can write one
abbrev pub SizesIndex : Chain → List ℕ → Option ℕ → Type 0
SizesIndex index shape None = index_fits index shape ≡ false
SizesIndex index shape (Some size) = (index_fits index shape ≡ true) × (size ≡ index_size index shape)

-- the bytes that a chain makes of an index: bytes that it may make of the pairs, and what encoding these means, where that is a function; the pairs are read again of them, where every bit is kept
pub record IsIndexWritten (index : Chain) (exact : Bool) (shape : List ℕ) (pairs : List Pair) (value : List ℕ) : Type 0 where
  pub made : IsMadeOf index (zero_filled uint64) shape (pair_cells pairs) value
  pub encodes : IsTrue exact → encoded index (zero_filled uint64) shape (pair_cells pairs) ≡ Some value
  pub reads_back : is_lossless index uint64 ≡ true → decoded index (zero_filled uint64) shape value ≡ Some (pair_cells pairs)
  pub sized : length value ≡ index_size index shape

-- the bytes of pairs that each chain stores as their index which encodes elements as they are
abbrev pub AreStoredAsIs : List Pair → List ℕ → Type 0
AreStoredAsIs pairs bytes = (index : Chain) (exact : Bool) (shape : List ℕ) → encodes_as_is index ≡ true → index_fits index shape ≡ true → product shape ≡ 2 * length pairs → IsIndexWritten index exact shape pairs bytes

-- what a chain makes of an index, or why it makes nothing
abbrev pub WritesIndex : Chain → Bool → List ℕ → List Pair → Result (Vec ℕ Global) CodecError → Type 0
WritesIndex index exact shape pairs (Ok value) = IsIndexWritten index exact shape pairs value.items
WritesIndex index exact shape pairs (Err error.Codec) = CodecRefuses index (zero_filled uint64) shape (pair_cells pairs)
WritesIndex index exact shape pairs (Err error.Size) = PassesIndex index (zero_filled uint64) shape (pair_cells pairs)
WritesIndex index exact shape pairs (Err error.Memory) = Unit {0}
WritesIndex index exact shape pairs (Err e) = ⊥

-- the index that a chain reads from bytes
pub record IsIndexRead (index : Chain) (shape bytes : List ℕ) (pairs : List Pair) : Type 0 where
  pub is : option_map pairs_of_cells (decoded index (zero_filled uint64) shape bytes) ≡ Some pairs
  pub many : product shape ≡ 2 * length pairs

-- the index that a chain reads from bytes, or why there is none
abbrev pub ReadsIndex : Chain → List ℕ → List ℕ → Result ShardIndex CodecError → Type 0
ReadsIndex index shape bytes (Ok found) = IsIndexRead index shape bytes (pairs_of found)
ReadsIndex index shape bytes (Err error.Damage) = decoded index (zero_filled uint64) shape bytes ≡ None
ReadsIndex index shape bytes (Err error.Memory) = Unit {0}
ReadsIndex index shape bytes (Err e) = ⊥

-- the index that these bytes are to each chain that stores an index as it stands in memory, or why they are none
abbrev pub ReadsAsIs : List ℕ → List ℕ → Result ShardIndex CodecError → Type 0
ReadsAsIs shape bytes result = (index : Chain) → encodes_as_is index ≡ true → index_fits index shape ≡ true → ReadsIndex index shape bytes result
