-- What the codec of `src/` stands for.
use Rattle.std.specs.Prelude.{◌≡◌, ℕ, List, Bool, IsTrue, true, ◌&&◌}
use Rattle.std.proofs.lemmas.Bool.{false≢true}
use Rattle.zarr_codecs_meaning.specs.Chains.{Chain, Location, sharded}
use Rattle.zarr_codecs_meaning.specs.Fits.{is_plain}
use Rattle.zarr_codecs_options.specs.declared.subchunk_write_order.SubchunkWriteOrder.{SubchunkWriteOrder}
use Rattle.zarr_sharding_inner.specs.Orders.{is_row_major}
use Rattle.zarr_sharding_index.specs.Views.{location_of}
use Rattle.zarr_sharding_codec.specs.declared.codec.ShardingCodec.{ShardingCodec}

-- the chain of a shard alone
abbrev pub shard_chain : {I X : Type 0} → (I → Chain) → (X → Chain) → ShardingCodec I X → Chain
shard_chain inner index codec = sharded codec.subchunk_shape (inner codec.inner_codecs) (index codec.index_codecs) (location_of codec.index_location)

-- the order in which the subchunks are written
abbrev pub order_of : {I X : Type 0} → ShardingCodec I X → SubchunkWriteOrder
order_of codec = codec.subchunk_write_order

-- whether what is made of elements depends on these alone: subchunks are written row-major, and the codecs of subchunks and index are such
abbrev pub makes_a_function : {I X : Type 0} → (I → Bool) → (X → Bool) → ShardingCodec I X → Bool
makes_a_function inner index codec = is_row_major (order_of codec) && (inner codec.inner_codecs && index codec.index_codecs)

-- no shard is made without one
pub shard_plain : {I X : Type 0} (inner : I → Chain) (index : X → Chain) (inner_function : I → Bool) (index_function : X → Bool) (codec : ShardingCodec I X)
    → is_plain (shard_chain inner index codec) ≡ true → IsTrue (makes_a_function inner_function index_function codec)
shard_plain inner index inner_function index_function codec is = absurd (false≢true is)

-- the codecs of the subchunks
abbrev pub inner_of : {I X : Type 0} → ShardingCodec I X → I
inner_of codec = codec.inner_codecs

-- the codecs of the index
abbrev pub index_of : {I X : Type 0} → ShardingCodec I X → X
index_of codec = codec.index_codecs

-- the shape of the subchunks
abbrev pub subchunk_of : {I X : Type 0} → ShardingCodec I X → List ℕ
subchunk_of codec = codec.subchunk_shape

-- where the index stands
abbrev pub place_of_index : {I X : Type 0} → ShardingCodec I X → Location
place_of_index codec = location_of codec.index_location

-- a codec of shards is a copy: the codecs of its subchunks and of its index are, and its subchunks are written in the same order
abbrev pub shard_copied : {I X : Type 0} → (I → I → Type 0) → (X → X → Type 0) → ShardingCodec I X → ShardingCodec I X → Type 0
shard_copied inner index codec copy = inner (inner_of codec) (inner_of copy) × index (index_of codec) (index_of copy) × (order_of copy ≡ order_of codec)
