-- What a shard holds, and what a write in part leaves of it.
use Rattle.std.specs.Prelude.{◌≡◌, ℕ, ◌+◌, List, [], ◌++◌, length, replicate, Option, None, Some, option_map, true, false}
use Rattle.std.specs.List.{list_all}
use Rattle.zarr_codecs_meaning.specs.Chains.{Chain, Location}
use Rattle.zarr_codecs_meaning.specs.Decoding.{decoded, is_absent, pairs_in}
use Rattle.zarr_codecs_meaning.specs.Encoding.{Pair, absent_pair, index_size}
use Rattle.zarr_codecs_meaning.specs.Places.{index_shape, parts_of}
use Rattle.zarr_codecs_meaning.specs.Types.{uint64, zero_filled}
use Rattle.zarr_sharding_changes.specs.Changes.{Change, appended, pairs_after}
use Rattle.zarr_sharding_changes.specs.Compaction.{data_in}

-- the pairs of a shard, and the bytes of its data part
pub record HeldShard : Type 0 where
  pub pairs : List Pair
  pub content : List ℕ

-- the same, put together
abbrev pub held_shard : List Pair → List ℕ → HeldShard
held_shard pairs content = record { pairs = pairs; content = content }

-- what is stored as a shard of this shape and subchunk shape, whose index is written by this chain: where nothing is stored, no subchunk is present, and the data part is empty; None where the index isn't decoded
abbrev pub held_in : List ℕ → Chain → Location → List ℕ → Option (List ℕ) → Option HeldShard
held_in subchunk index location shape None = Some (held_shard (replicate (length (parts_of shape subchunk)) absent_pair) [])
held_in subchunk index location shape (Some value) =
    let pairs_shape = index_shape shape subchunk in
    let size = index_size index pairs_shape in
    option_map (λ pairs. held_shard pairs (data_in location size value)) (pairs_in (decoded index (zero_filled uint64) pairs_shape) location size value)

-- a shard after some of its subchunks got new slices, which stand behind the data part; this begins at the base
abbrev pub held_after : ℕ → List Change → HeldShard → HeldShard
held_after base changes held = held_shard (pairs_after (base + length held.content) changes held.pairs) (held.content ++ appended changes)

-- what is stored holds what a shard holds; nothing is stored exactly where no subchunk is present
abbrev pub HoldsShard : (Option (List ℕ) → Option HeldShard) → HeldShard → Option (List ℕ) → Type 0
HoldsShard held_of held None = list_all is_absent held.pairs ≡ true
HoldsShard held_of held (Some value) = (list_all is_absent held.pairs ≡ false) × (held_of (Some value) ≡ Some held)

-- some subchunks of a shard got new slices behind its data part, and nothing else changed
pub record IsAppendedTo (held_of : Option (List ℕ) → Option HeldShard) (base : ℕ) (changes : List Change) (old new : Option (List ℕ)) : Type 0 where
  pub held : HeldShard
  pub was : held_of old ≡ Some held
  pub is : HoldsShard held_of (held_after base changes held) new
