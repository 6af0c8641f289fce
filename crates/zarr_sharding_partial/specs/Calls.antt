-- What is taken of a shard's source, and what a call that writes leaves of both.
use Rattle.std.specs.Prelude.{◌≡◌, ℕ, ◌+◌, ◌≤◌, List, IfErr, IsTrue, OnErr, Result}
use Rattle.zarr_codecs_meaning.specs.Encoding.{Pair}
use Rattle.zarr_codecs_arrays.specs.declared.error.CodecError.{CodecError}
use Rattle.zarr_codecs_traits.specs.Indexers.{Asked, numbers_asked}
use Rattle.zarr_codecs_traits.specs.declared.array_to_bytes.ArrayToBytesCodecTraits as codec
use Rattle.zarr_codecs_traits.specs.declared.byte_source.BytesPartialDecoderTraits as source
use Rattle.zarr_codecs_traits.specs.declared.byte_target.BytesPartialEncoderTraits as target
use Rattle.zarr_codecs_traits.specs.Sources.{refused_after}
use Rattle.zarr_codecs_traits.specs.Writes.{accepted_after, most_to_patch}
use Rattle.zarr_sharding_codec.specs.BytesMet.{bytes_met}
use Rattle.zarr_sharding_partial.specs.Pairs.{index_length}
use Rattle.zarr_sharding_partial.specs.Shards.{ShardOf}
use Rattle.zarr_sharding_index.specs.Held.{shard_length}
use Rattle.zarr_sharding_partial.specs.Puts.{IsRefusedUnwritten}
use Rattle.zarr_sharding_partial.specs.States.{codec_of, held_of, known_of, shard_of, source_of}
use Rattle.zarr_sharding_partial.specs.declared.shard_state.ShardState.{ShardState}

-- how many bytes the slices have of the subchunks that the places lie in, by what is known of the shard, its pairs and where its data part ends: each slice is counted once
abbrev pub known_slices_met : ShardOf → List Pair × ℕ → Asked → ℕ
known_slices_met s known asked = bytes_met s.shape s.subchunk (numbers_asked s.shape asked) known.0 (shard_length s.location (index_length s) known.1)

-- a shard after a call that writes to its source once at most: an error leaves what an honest source holds and what is known of it, refused calls and accepted writes are counted, and it is the same shard by the same codec
pub record CalledToWrite {I X E A : Type 0} {i : codec.Ghosts I} {x : codec.Ghosts X} {e : target.Ghosts E} {d : source.Ghosts E} (old new : ShardState I X E i x e d) (result : Result A CodecError) : Type 0 where
  pub err : IsTrue (d.is_honest (source_of old)) → OnErr result (held_of d.contents new ≡ held_of d.contents old)
  pub same : OnErr result (known_of new ≡ known_of old)
  pub refused : d.refused_calls (source_of new) ≡ refused_after (d.refused_calls (source_of old)) result
  pub accepted : e.accepted_writes (source_of new) ≡ accepted_after (e.accepted_writes (source_of old)) result
  pub rewrites : e.rewrites (source_of old) (source_of new)
  pub codec : codec_of new ≡ codec_of old
  pub shard : shard_of i.meaning x.meaning new ≡ shard_of i.meaning x.meaning old

-- how many bytes of its value an honest source gives at most to a call that writes: those of the slices that are met, and, if it writes no ranges, the value once; those slices alone where the call is refused for what is given, or for damage
pub record GivesToWrite {I X E A : Type 0} {i : codec.Ghosts I} {x : codec.Ghosts X} {e : target.Ghosts E} {d : source.Ghosts E} (old new : ShardState I X E i x e d) (slices : ℕ) (result : Result A CodecError) : Type 0 where
  pub all : IsTrue (d.is_honest (source_of old)) → d.given_bytes (source_of new) ≤ d.given_bytes (source_of old) + slices + most_to_patch (e.writes_ranges (source_of old)) (d.contents (source_of old))
  pub unwritten : IsTrue (d.is_honest (source_of old)) → IfErr result (λ error. IsRefusedUnwritten error → d.given_bytes (source_of new) ≤ d.given_bytes (source_of old) + slices)
