-- What a call that compacts a shard answers.
use Rattle.std.specs.Prelude.{◌≡◌, ◌⊎◌, ℕ, ◌^◌, ◌<◌, List, length, Option, None, Some, Vec, Result, Ok, Err}
use Rattle.std.specs.declared.alloc.Global.{Global}
use Rattle.zarr_codecs_meaning.specs.Chains.{Chain}
use Rattle.zarr_codecs_meaning.specs.Encoding.{Pair, encoded, joined, joined_slices, pair_cells, pairs_from}
use Rattle.zarr_codecs_meaning.specs.Refusals.{CodecRefuses, PassesIndex}
use Rattle.zarr_codecs_meaning.specs.Standing.{IndexLayout}
use Rattle.zarr_codecs_meaning.specs.Types.{Cell, Elements, uint64, zero_filled}
use Rattle.zarr_codecs_arrays.specs.declared.error.CodecError.{CodecError}
use Rattle.zarr_codecs_arrays.specs.declared.error.CodecError.TheVariants as error
use Rattle.zarr_sharding_changes.specs.Compaction.{slices_of}
use Rattle.zarr_sharding_changes.specs.Compactions.{shard_compaction, nothing_to_gain, compacted_to, damaged, too_long}
use Rattle.zarr_sharding_changes.specs.Refusals.{IndexRefused, ShardLayout}

-- what compaction makes of a shard, or why it makes nothing
abbrev pub CompactsShard : ShardLayout → List ℕ → Result (Option (Vec ℕ Global)) CodecError → Type 0
CompactsShard shard value (Ok None) = shard_compaction shard.subchunk shard.index shard.location shard.shape value ≡ nothing_to_gain
CompactsShard shard value (Ok (Some made)) = shard_compaction shard.subchunk shard.index shard.location shard.shape value ≡ compacted_to made.items
CompactsShard shard value (Err error.Damage) = shard_compaction shard.subchunk shard.index shard.location shard.shape value ≡ damaged
CompactsShard shard value (Err error.Codec) = IndexRefused CodecRefuses shard value
CompactsShard shard value (Err error.Size) = (shard_compaction shard.subchunk shard.index shard.location shard.shape value ≡ too_long) ⊎ IndexRefused PassesIndex shard value
CompactsShard shard value (Err error.Memory) = Unit {0}
CompactsShard shard value (Err e) = ⊥

-- an index of slices in a row, joined with these slices
pub record IsShardMade (layout : IndexLayout) (base : ℕ) («data» : List ℕ) (pairs : List Pair) (value : List ℕ) : Type 0 where
  pub stored : List (Option (List ℕ))
  pub are : slices_of base «data» pairs ≡ Some stored
  pub index_bytes : List ℕ
  pub written : encoded layout.chain (zero_filled uint64) layout.shape (pair_cells (pairs_from base stored)) ≡ Some index_bytes
  pub is : value ≡ joined layout.location index_bytes (joined_slices stored)
  pub short : length (joined_slices stored) < 2 ^ 63

-- the index of slices in a row is refused
abbrev pub RowRefused : (Chain → Elements → List ℕ → List Cell → Type 0) → IndexLayout → ℕ → List ℕ → List Pair → Type 0
RowRefused refuses layout base «data» pairs =
    (stored : List (Option (List ℕ))) × (slices_of base «data» pairs ≡ Some stored) × refuses layout.chain (zero_filled uint64) layout.shape (pair_cells (pairs_from base stored))

-- a shard made of slices in a row, or why none is made
abbrev pub MakesShard : IndexLayout → ℕ → List ℕ → List Pair → Result (Option (Vec ℕ Global)) CodecError → Type 0
MakesShard layout base «data» pairs (Ok None) = ⊥
MakesShard layout base «data» pairs (Ok (Some made)) = IsShardMade layout base «data» pairs made.items
MakesShard layout base «data» pairs (Err error.Damage) = slices_of base «data» pairs ≡ None
MakesShard layout base «data» pairs (Err error.Codec) = RowRefused CodecRefuses layout base «data» pairs
MakesShard layout base «data» pairs (Err error.Size) = RowRefused PassesIndex layout base «data» pairs
MakesShard layout base «data» pairs (Err error.Memory) = Unit {0}
MakesShard layout base «data» pairs (Err e) = ⊥
