-- Why compaction makes nothing of a value that isn't damaged.
use Rattle.std.specs.Prelude.{◌≡◌, ◌⊎◌, ℕ, ◌+◌, ◌^◌, ◌<◌, List, length, Option, Some, None, false, ◌==◌}
use Rattle.zarr_codecs_meaning.specs.Chains.{Chain, Location}
use Rattle.zarr_codecs_meaning.specs.Chains.Chain.{bytes, packbits, vlen, optional, after_array_codec, then_bytes, sharded}
use Rattle.zarr_codecs_meaning.specs.Encoding.{joined_slices, pair_cells, pairs_from}
use Rattle.zarr_codecs_meaning.specs.Places.{encoded_shape, index_shape}
use Rattle.zarr_codecs_meaning.specs.Refusals.{CodecRefuses, PassesIndex}
use Rattle.zarr_codecs_meaning.specs.Standing.{IndexLayout, index_layout, layout_base, layout_size}
use Rattle.zarr_codecs_meaning.specs.Types.{Cell, Elements, uint64, zero_filled}
use Rattle.zarr_sharding_changes.specs.Compaction.{slices_in}
use Rattle.zarr_sharding_changes.specs.Compactions.{shard_compaction, too_long, compacted_to, compaction}

-- how a shard is laid out: the shape of its subchunks, the chain of its index, where that stands, and the shard's own shape
pub record ShardLayout : Type 0 where
  pub subchunk : List ℕ
  pub index : Chain
  pub location : Location
  pub shape : List ℕ

-- a shard of this shape and subchunk shape, whose index has this chain and stands there
abbrev pub shard_layout : List ℕ → Chain → Location → List ℕ → ShardLayout
shard_layout subchunk index location shape = record { subchunk = subchunk; index = index; location = location; shape = shape }

-- how the index of a shard is laid out
abbrev pub index_layout_of : ShardLayout → IndexLayout
index_layout_of shard = index_layout shard.index shard.location (index_shape shard.shape shard.subchunk)

-- the index of a shard without gaps is refused, where the shard has gaps and isn't too long
pub record IndexRefused (refuses : Chain → Elements → List ℕ → List Cell → Type 0) (shard : ShardLayout) (value : List ℕ) : Type 0 where
  pub stored : List (Option (List ℕ))
  pub are : slices_in shard.subchunk shard.index shard.location shard.shape value ≡ Some stored
  pub gains : (length value == layout_size (index_layout_of shard) + length (joined_slices stored)) ≡ false
  pub short : layout_size (index_layout_of shard) + length (joined_slices stored) < 2 ^ 63
  pub refused : refuses shard.index (zero_filled uint64) (index_layout_of shard).shape (pair_cells (pairs_from (layout_base (index_layout_of shard)) stored))

-- a caller's codec refuses what compaction makes: an index codec the new index of a shard, or a bytes codec what compaction made of what it is given
abbrev pub CompactionRefused : Chain → List ℕ → List ℕ → Type 0
CompactionRefused (bytes order) shape value = ⊥
CompactionRefused (packbits padding first last) shape value = ⊥
CompactionRefused (vlen index «data» width location) shape value = ⊥
CompactionRefused (optional mask values) shape value = ⊥
CompactionRefused (after_array_codec codec chain) shape value = CompactionRefused chain (encoded_shape codec shape) value
CompactionRefused (then_bytes chain codec) shape value =
    (given : List ℕ) × (codec.decode value ≡ Some given)
    × (CompactionRefused chain shape given ⊎ ((made : List ℕ) × (compaction chain shape given ≡ compacted_to made) × (codec.encode made ≡ None)))
CompactionRefused (sharded subchunk inner index location) shape value = IndexRefused CodecRefuses (shard_layout subchunk index location shape) value

-- the shard without gaps would have 2^63 bytes or more, or its new index passes an index inside of it
abbrev pub CompactionTooLong : Chain → List ℕ → List ℕ → Type 0
CompactionTooLong (bytes order) shape value = ⊥
CompactionTooLong (packbits padding first last) shape value = ⊥
CompactionTooLong (vlen index «data» width location) shape value = ⊥
CompactionTooLong (optional mask values) shape value = ⊥
CompactionTooLong (after_array_codec codec chain) shape value = CompactionTooLong chain (encoded_shape codec shape) value
CompactionTooLong (then_bytes chain codec) shape value = (given : List ℕ) × (codec.decode value ≡ Some given) × CompactionTooLong chain shape given
CompactionTooLong (sharded subchunk inner index location) shape value =
    (shard_compaction subchunk index location shape value ≡ too_long) ⊎ IndexRefused PassesIndex (shard_layout subchunk index location shape) value
