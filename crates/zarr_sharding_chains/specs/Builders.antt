-- What builders of shards build.
use Rattle.std.specs.Prelude.{◌≡◌, ℕ, List, None}
use Rattle.zarr_codecs_array_to_array.specs.declared.codec.ArrayToArrayCodec.{ArrayToArrayCodec}
use Rattle.zarr_codecs_chains.specs.Configured.{little_bytes}
use Rattle.zarr_codecs_around.specs.Views.{chain_between}
use Rattle.zarr_codecs_chains.specs.Parts.{arrays_of, bytes_of, codec_of}
use Rattle.zarr_codecs_chains.specs.Views.{codec_chain}
use Rattle.zarr_codecs_chains.specs.declared.array_to_bytes.ArrayToBytesCodec.{ArrayToBytesCodec}
use Rattle.zarr_codecs_chains.specs.declared.chain.CodecChain.{CodecChain}
use Rattle.zarr_codecs_meaning.specs.Chains.{ByteCodec, Chain, sharded}
use Rattle.zarr_codecs_meaning.specs.Chains.Chain.{optional, packbits, vlen}
use Rattle.zarr_codecs_meaning.specs.Chains.Location.{at_start}
use Rattle.zarr_codecs_meaning.specs.Chains.Padding.{no_padding_byte}
use Rattle.zarr_codecs_meaning.specs.Types.{DataType, bool, custom, integer, optional_of, string, variable_bytes}
use Rattle.zarr_sharding_codec.specs.Views.{index_of, inner_of}
use Rattle.zarr_sharding_codec.specs.declared.codec.ShardingCodec.{ShardingCodec}
use Rattle.zarr_sharding_index.specs.Views.{location_of}
use Rattle.zarr_sharding_index.specs.declared.location.ShardingIndexLocation.{ShardingIndexLocation}
use Rattle.zarr_sharding_chains.specs.declared.builder.ShardingCodecBuilder.{ShardingCodecBuilder}

-- what a builder was given
pub record Parts (B : Type 0) : Type 0 where
  pub subchunk : List ℕ
  pub arrays : List ArrayToArrayCodec
  pub codec : ArrayToBytesCodec B
  pub bytes : List B
  pub index_arrays : List ArrayToArrayCodec
  pub index_codec : ArrayToBytesCodec B
  pub index_bytes : List B
  pub location : ShardingIndexLocation

-- what a builder was given, of its fields
abbrev pub parts_of : {B : Type 0} → ShardingCodecBuilder B → Parts B
parts_of builder =
    record { subchunk = builder.subchunk_shape; arrays = builder.array_to_array.items; codec = builder.array_to_bytes; bytes = builder.bytes_to_bytes.items; index_arrays = builder.index_array_to_array.items; index_codec = builder.index_array_to_bytes; index_bytes = builder.index_bytes_to_bytes.items; location = builder.index_location }

-- the shard that it builds
abbrev pub built_chain : {B : Type 0} → (B → ByteCodec) → Parts B → Chain
built_chain meaning parts =
    sharded parts.subchunk (chain_between meaning parts.arrays (codec_chain meaning parts.codec) parts.bytes) (chain_between meaning parts.index_arrays (codec_chain meaning parts.index_codec) parts.index_bytes) (location_of parts.location)

-- a codec of shards has the codecs that a builder was given, each under the name that it keeps
pub record HasCodecs {B : Type 0} (parts : Parts B) (built : ShardingCodec (CodecChain B) (CodecChain B)) : Type 0 where
  pub arrays : arrays_of (inner_of built) ≡ parts.arrays
  pub codec : codec_of (inner_of built) ≡ parts.codec
  pub bytes : bytes_of (inner_of built) ≡ parts.bytes
  pub index_arrays : arrays_of (index_of built) ≡ parts.index_arrays
  pub index_codec : codec_of (index_of built) ≡ parts.index_codec
  pub index_bytes : bytes_of (index_of built) ≡ parts.index_bytes

-- the codec between arrays and bytes that a data type has where none is said: `bytes`, lowest byte first; `vlen` on such codecs for elements of variable length; `optional` with a mask by `packbits`, and the codec of the type inside (this project's profile)
abbrev pub default_chain : DataType → Chain
default_chain bool = little_bytes
default_chain (integer sign width) = little_bytes
default_chain (custom parts) = little_bytes
default_chain string = vlen little_bytes little_bytes 64 at_start
default_chain variable_bytes = vlen little_bytes little_bytes 64 at_start
default_chain (optional_of inner) = optional (packbits no_padding_byte 0 None) (default_chain inner)
