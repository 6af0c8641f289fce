-- What the state of `src/` stands for.
use Rattle.std.specs.Prelude.{ℕ, List, Option}
use Rattle.zarr_codecs_meaning.specs.Chains.{Chain}
use Rattle.zarr_codecs_meaning.specs.Encoding.{Pair}
use Rattle.zarr_codecs_arrays.specs.Views.{elements_of, payload_of}
use Rattle.zarr_codecs_arrays.specs.declared.array_bytes.ArrayBytes.{ArrayBytes}
use Rattle.zarr_codecs_traits.specs.Indexers.{asked_of}
use Rattle.zarr_codecs_traits.specs.declared.array_part.WholeArray.{WholeArray}
use Rattle.zarr_codecs_traits.specs.declared.array_to_bytes.ArrayToBytesCodecTraits as codec
use Rattle.zarr_codecs_traits.specs.declared.byte_source.BytesPartialDecoderTraits as source
use Rattle.zarr_codecs_traits.specs.declared.byte_target.BytesPartialEncoderTraits as target
use Rattle.zarr_codecs_traits.specs.declared.indexer.Indexer.{Indexer}
use Rattle.zarr_sharding_codec.specs.Views.{index_of, inner_of}
use Rattle.zarr_sharding_codec.specs.declared.codec.ShardingCodec.{ShardingCodec}
use Rattle.zarr_sharding_partial.specs.Shards.{ShardOf}
use Rattle.zarr_sharding_partial.specs.Decoders.{shard_in}
use Rattle.zarr_sharding_index.specs.Known.{end_of, pairs_in}
use Rattle.zarr_sharding_partial.specs.Puts.{Putting}
use Rattle.zarr_sharding_index.specs.Held.{Held, held_as}
use Rattle.zarr_sharding_partial.specs.declared.shard_state.ShardState.{ShardState}

-- the shard of an array, by a codec
abbrev pub shard_for : {I X : Type 0} → (I → Chain) → (X → Chain) → ShardingCodec I X → WholeArray → ShardOf
shard_for inner index codec array = shard_in inner index codec (elements_of array.elements.now) array.shape.now

-- the codec of the shard
abbrev pub codec_of : {I X E : Type 0} {i : codec.Ghosts I} {x : codec.Ghosts X} {e : target.Ghosts E} {d : source.Ghosts E} → ShardState I X E i x e d → ShardingCodec I X
codec_of state = state.codec.now

-- the shard
abbrev pub shard_of : {I X E : Type 0} {i : codec.Ghosts I} {x : codec.Ghosts X} {e : target.Ghosts E} {d : source.Ghosts E} → (I → Chain) → (X → Chain) → ShardState I X E i x e d → ShardOf
shard_of inner index state = shard_in inner index state.codec.now (elements_of state.elements.now) state.shape.now

-- its source
abbrev pub source_of : {I X E : Type 0} {i : codec.Ghosts I} {x : codec.Ghosts X} {e : target.Ghosts E} {d : source.Ghosts E} → ShardState I X E i x e d → E
source_of state = state.source

-- what is known of the shard: the pairs of its index, and where its data part ends
abbrev pub known_of : {I X E : Type 0} {i : codec.Ghosts I} {x : codec.Ghosts X} {e : target.Ghosts E} {d : source.Ghosts E} → ShardState I X E i x e d → List Pair × ℕ
known_of state = (pairs_in state.known, end_of state.known)

-- what the source holds, and what is known of it
abbrev pub held_of : {I X E : Type 0} {i : codec.Ghosts I} {x : codec.Ghosts X} {e : target.Ghosts E} {d : source.Ghosts E} → (E → Option (List ℕ)) → ShardState I X E i x e d → Held
held_of contents state = held_as (contents state.source) (pairs_in state.known) (end_of state.known)

-- elements that are to be put at the places that are asked for
abbrev pub putting_of : {I X E : Type 0} {i : codec.Ghosts I} {x : codec.Ghosts X} {e : target.Ghosts E} {d : source.Ghosts E} → ShardState I X E i x e d → Indexer → ArrayBytes → Putting
putting_of {i = i} {x = x} state indexer bytes =
    record { shard = shard_of i.meaning x.meaning state; exact = i.is_function (inner_of (codec_of state)); one = x.is_function (index_of (codec_of state)); asked = asked_of indexer; payload = payload_of bytes }
