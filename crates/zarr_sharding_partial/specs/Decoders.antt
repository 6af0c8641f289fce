-- What the decoder of `src/` stands for.
use base.Fml.{GName}
use Rattle.std.specs.Prelude.{ℕ, ◌*◌, List, Option}
use Rattle.zarr_codecs_meaning.specs.Chains.{Chain}
use Rattle.zarr_codecs_meaning.specs.Encoding.{Pair}
use Rattle.zarr_codecs_meaning.specs.Types.{Elements}
use Rattle.zarr_codecs_arrays.specs.Views.{elements_of}
use Rattle.zarr_codecs_traits.specs.declared.array_to_bytes.ArrayToBytesCodecTraits as codec
use Rattle.zarr_codecs_traits.specs.declared.byte_source.BytesPartialDecoderTraits as source
use Rattle.zarr_sharding_codec.specs.Views.{index_of, inner_of, place_of_index, subchunk_of}
use Rattle.zarr_sharding_codec.specs.declared.codec.ShardingCodec.{ShardingCodec}
use Rattle.zarr_sharding_partial.specs.Pairs.{count_fetched, pairs_fetched}
use Rattle.zarr_sharding_partial.specs.Shards.{ShardOf}
use Rattle.zarr_sharding_partial.specs.declared.partial_decoder.ShardingPartialDecoder.{ShardingPartialDecoder}

-- the shard of an array of this shape, by a codec
abbrev pub shard_in : {I X : Type 0} → (I → Chain) → (X → Chain) → ShardingCodec I X → Elements → List ℕ → ShardOf
shard_in inner index codec elements shape =
    record { subchunk = subchunk_of codec; inner = inner (inner_of codec); index = index (index_of codec); location = place_of_index codec; elements = elements; shape = shape }

-- the shard that is read
abbrev pub shard_of : {I X D : Type 0} {i : codec.Ghosts I} {x : codec.Ghosts X} {d : source.Ghosts D} → (I → Chain) → (X → Chain) → ShardingPartialDecoder I X D i x d → ShardOf
shard_of inner index decoder = shard_in inner index decoder.codec.now (elements_of decoder.elements.now) decoder.shape.now

-- the source that it is read from
abbrev pub source_of : {I X D : Type 0} {i : codec.Ghosts I} {x : codec.Ghosts X} {d : source.Ghosts D} → ShardingPartialDecoder I X D i x d → D
source_of decoder = decoder.source.now

-- the reference to that source that was lent
abbrev pub reference_of : {I X D : Type 0} {i : codec.Ghosts I} {x : codec.Ghosts X} {d : source.Ghosts D} → ShardingPartialDecoder I X D i x d → GName
reference_of decoder = decoder.source.ghost_name

-- the pairs that are kept, if the source holds a value
abbrev pub pairs_held : {I X D : Type 0} {i : codec.Ghosts I} {x : codec.Ghosts X} {d : source.Ghosts D} → ShardingPartialDecoder I X D i x d → Option (List Pair)
pairs_held decoder = pairs_fetched decoder.held

-- how many bytes the pairs of present subchunks take, which are kept
abbrev pub pairs_length : {I X D : Type 0} {i : codec.Ghosts I} {x : codec.Ghosts X} {d : source.Ghosts D} → ShardingPartialDecoder I X D i x d → ℕ
pairs_length decoder = 24 * count_fetched decoder.held
