-- Compaction of the values of any chain.
use Rattle.std.specs.Prelude.{ℕ, ◌+◌, ◌^◌, List, length, Option, None, Some, Bool, true, false, ◌==◌, if◌then◌else◌, nat_lt}
use Rattle.zarr_codecs_meaning.specs.Chains.{ByteCodec, Chain, Location}
use Rattle.zarr_codecs_meaning.specs.Chains.Chain.{bytes, packbits, vlen, optional, after_array_codec, then_bytes, sharded}
use Rattle.zarr_codecs_meaning.specs.Places.{encoded_shape, index_shape}
use Rattle.zarr_codecs_meaning.specs.Encoding.{index_size, joined_slices}
use Rattle.zarr_codecs_meaning.specs.Fits.{is_plain}
use Rattle.zarr_sharding_changes.specs.Compaction.{compacted, slices_in}

-- what compaction makes of a value
pub data Compaction : Type 0 where
  -- no shard, or one that is as long as its index and its present slices together
  nothing_to_gain : Compaction
  -- the shard of the same slices, row-major without gaps
  compacted_to : List ℕ → Compaction
  -- no shard whose present slices lie in its data part
  damaged : Compaction
  -- a caller's codec refuses
  refused : Compaction
  -- the shard would have 2^63 bytes or more
  too_long : Compaction

-- bytes, or that a caller's codec refuses them
abbrev pub unless_refused : Option (List ℕ) → Compaction
unless_refused None = refused
unless_refused (Some made) = compacted_to made

-- what compaction makes, by how long the value is and how long the shard without gaps would be
abbrev pub by_length : ℕ → ℕ → Option (List ℕ) → Compaction
by_length before after made = if before == after then nothing_to_gain else (if nat_lt after (2 ^ 63) then unless_refused made else too_long)

-- what compaction makes of a shard of this shape and subchunk shape, whose index is written by this chain
abbrev pub shard_compaction : List ℕ → Chain → Location → List ℕ → List ℕ → Compaction
shard_compaction subchunk index location shape value =
    elim (slices_in subchunk index location shape value) [
      | None ↦ damaged
      | Some stored ↦ by_length (length value) (index_size index (index_shape shape subchunk) + length (joined_slices stored)) (compacted subchunk index location shape value)
    ]

-- what a codec makes of a compacted value
abbrev pub encoded_again : ByteCodec → Compaction → Compaction
encoded_again codec nothing_to_gain = nothing_to_gain
encoded_again codec (compacted_to made) = unless_refused (codec.encode made)
encoded_again codec damaged = damaged
encoded_again codec refused = refused
encoded_again codec too_long = too_long

-- what compaction makes of what a codec is given, if a value is what it made of that
abbrev pub undone_compaction : ByteCodec → (List ℕ → Compaction) → List ℕ → Compaction
undone_compaction codec compacts value = elim (codec.decode value) [ None ↦ damaged | Some given ↦ encoded_again codec (compacts given) ]

-- what compaction makes of a value of a chain: bytes codecs are undone before it and encode again after it. Where the chain makes no shard, each value stays as it is
abbrev pub compaction : Chain → List ℕ → List ℕ → Compaction
compaction (bytes order) shape value = nothing_to_gain
compaction (packbits padding first last) shape value = nothing_to_gain
compaction (vlen index «data» width location) shape value = nothing_to_gain
compaction (optional mask values) shape value = nothing_to_gain
compaction (after_array_codec codec chain) shape value = compaction chain (encoded_shape codec shape) value
compaction (then_bytes chain codec) shape value = if is_plain chain then nothing_to_gain else undone_compaction codec (compaction chain shape) value
compaction (sharded subchunk inner index location) shape value = shard_compaction subchunk index location shape value
