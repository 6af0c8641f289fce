-- Compaction of values of chains, computed on small examples: the expected values were worked out by hand.
use Rattle.std.specs.Prelude.{◌≡◌, ℕ, List, [], ◌∷◌, ◌++◌, replicate, reverse, Some, None}
use Rattle.zarr_codecs_meaning.specs.Chains.{ByteCodec, Chain}
use Rattle.zarr_codecs_meaning.specs.Chains.Chain.{bytes, sharded, then_bytes}
use Rattle.zarr_codecs_meaning.specs.Chains.Endianness.{little}
use Rattle.zarr_codecs_meaning.specs.Chains.Location.{at_end}
use Rattle.zarr_sharding_changes.specs.Compactions.{Compaction, nothing_to_gain, compacted_to, damaged, compaction}

-- a shard of one-byte elements in subchunks of two; of four elements its index takes 32 bytes
abbrev pub shard_of_twos : Chain
shard_of_twos = sharded (2 ∷ []) (bytes None) (bytes (Some little)) at_end

-- the codec that reverses bytes
abbrev pub reversing_bytes : ByteCodec
reversing_bytes = record { encode = λ given. Some (reverse given); decode = λ made. Some (reverse made); representation = λ known. known }

-- values of four elements
pub record ChainCompactionRows : Type 0 where
  -- a chain without a shard, also where the value is too short
  pub plain : compaction (bytes None) (4 ∷ []) (1 ∷ 2 ∷ 3 ∷ 4 ∷ []) ≡ nothing_to_gain
  pub plain_damaged : compaction (bytes None) (4 ∷ []) (1 ∷ 2 ∷ []) ≡ nothing_to_gain
  -- no subchunk is present: the index alone is left
  pub gap : compaction shard_of_twos (4 ∷ []) ((1 ∷ 2 ∷ 3 ∷ 4 ∷ []) ++ replicate 32 255) ≡ compacted_to (replicate 32 255)
  pub no_gap : compaction shard_of_twos (4 ∷ []) (replicate 32 255) ≡ nothing_to_gain
  pub short_of_an_index : compaction shard_of_twos (4 ∷ []) (1 ∷ 2 ∷ 3 ∷ []) ≡ damaged
  -- a bytes codec is undone, and encodes again
  pub reversed : compaction (then_bytes shard_of_twos reversing_bytes) (4 ∷ []) (replicate 32 255 ++ (4 ∷ 3 ∷ 2 ∷ 1 ∷ [])) ≡ compacted_to (replicate 32 255)
  pub plain_reversed : compaction (then_bytes (bytes None) reversing_bytes) (4 ∷ []) (1 ∷ 2 ∷ []) ≡ nothing_to_gain
