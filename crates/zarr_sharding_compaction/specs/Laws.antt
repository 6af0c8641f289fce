-- Laws of compaction.
use Rattle.std.specs.Prelude.{◌≡◌, ℕ, List, true}
use Rattle.zarr_codecs_meaning.specs.Chains.{Chain, Location}
use Rattle.zarr_codecs_meaning.specs.Fits.{fits, is_lossless, keeps_indices}
use Rattle.zarr_codecs_meaning.specs.Laws.{IsLawfulChain}
use Rattle.zarr_codecs_meaning.specs.Places.{index_shape}
use Rattle.zarr_codecs_meaning.specs.Types.{DataType, uint64}
use Rattle.zarr_sharding_changes.specs.Compactions.{compaction, shard_compaction, nothing_to_gain, compacted_to}
use Rattle.zarr_sharding_index.specs.Stored.{index_fits}

-- what compaction made of a shard gains nothing by another one
abbrev pub CompactedOnce : Type 0
CompactedOnce = (subchunk : List ℕ) (index : Chain) (location : Location) (shape value made : List ℕ) → IsLawfulChain index → index_fits index (index_shape shape subchunk) ≡ true → is_lossless index uint64 ≡ true
    → shard_compaction subchunk index location shape value ≡ compacted_to made → shard_compaction subchunk index location shape made ≡ nothing_to_gain

-- what compaction made of a value of any chain gains nothing by another one, with array codecs before the shard and bytes codecs after it too, where no bit of an index is dropped
abbrev pub ChainCompactedOnce : Type 0
ChainCompactedOnce = (chain : Chain) (type : DataType) (shape value made : List ℕ) → IsLawfulChain chain → fits chain type shape ≡ true → keeps_indices chain ≡ true
    → compaction chain shape value ≡ compacted_to made → compaction chain shape made ≡ nothing_to_gain
