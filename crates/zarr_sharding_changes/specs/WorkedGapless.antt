-- Values with gaps and without, and what shards hold, on small examples: the expected values were worked out by hand.
use Rattle.std.specs.Prelude.{◌≡◌, ℕ, List, [], ◌∷◌, ◌++◌, replicate, reverse, Option, Some, None}
use Rattle.zarr_codecs_meaning.specs.Chains.{Chain}
use Rattle.zarr_codecs_meaning.specs.Chains.Chain.{bytes, sharded, then_bytes}
use Rattle.zarr_codecs_meaning.specs.Chains.Endianness.{little}
use Rattle.zarr_codecs_meaning.specs.Chains.Location.{at_end}
use Rattle.zarr_codecs_meaning.specs.Encoding.{absent_pair}
use Rattle.zarr_sharding_changes.specs.Gapless.{IsGapless}
use Rattle.zarr_sharding_changes.specs.HeldShards.{HeldShard, HoldsShard, held_after, held_in, held_shard}
use Rattle.zarr_sharding_changes.specs.WorkedCompactions.{reversing_bytes, shard_of_twos}

-- a shard whose only subchunk is a shard of four elements in subchunks of two
abbrev pub nested_twos : Chain
nested_twos = sharded (4 ∷ []) shard_of_twos (bytes (Some little)) at_end

-- the first two of four elements, where the other two are the fill value
abbrev pub first_two : List ℕ
first_two = (1 ∷ 2 ∷ []) ++ (0 ∷ 0 ∷ 0 ∷ 0 ∷ 0 ∷ 0 ∷ 0 ∷ 0 ∷ 2 ∷ 0 ∷ 0 ∷ 0 ∷ 0 ∷ 0 ∷ 0 ∷ 0 ∷ []) ++ replicate 16 255

-- the same with two bytes that no slice holds
abbrev pub first_two_and_gap : List ℕ
first_two_and_gap = (1 ∷ 2 ∷ 9 ∷ 9 ∷ []) ++ (0 ∷ 0 ∷ 0 ∷ 0 ∷ 0 ∷ 0 ∷ 0 ∷ 0 ∷ 2 ∷ 0 ∷ 0 ∷ 0 ∷ 0 ∷ 0 ∷ 0 ∷ 0 ∷ []) ++ replicate 16 255

-- values of four elements
pub record GaplessRows : Type 0 where
  pub plain : IsGapless (bytes None) (4 ∷ []) (1 ∷ 2 ∷ [])
  pub no_gap : IsGapless shard_of_twos (4 ∷ []) first_two
  -- the second slice stands before the first
  pub other_order : IsGapless shard_of_twos (4 ∷ []) ((3 ∷ 4 ∷ 1 ∷ 2 ∷ []) ++ (2 ∷ 0 ∷ 0 ∷ 0 ∷ 0 ∷ 0 ∷ 0 ∷ 0 ∷ 2 ∷ 0 ∷ 0 ∷ 0 ∷ 0 ∷ 0 ∷ 0 ∷ 0 ∷ []) ++ (0 ∷ 0 ∷ 0 ∷ 0 ∷ 0 ∷ 0 ∷ 0 ∷ 0 ∷ 2 ∷ 0 ∷ 0 ∷ 0 ∷ 0 ∷ 0 ∷ 0 ∷ 0 ∷ []))
  pub gap : ¬ IsGapless shard_of_twos (4 ∷ []) first_two_and_gap
  -- the slices share the second byte, and the fourth is a gap
  pub overlap : ¬ IsGapless shard_of_twos (4 ∷ []) ((1 ∷ 2 ∷ 3 ∷ 9 ∷ []) ++ (0 ∷ 0 ∷ 0 ∷ 0 ∷ 0 ∷ 0 ∷ 0 ∷ 0 ∷ 2 ∷ 0 ∷ 0 ∷ 0 ∷ 0 ∷ 0 ∷ 0 ∷ 0 ∷ []) ++ (1 ∷ 0 ∷ 0 ∷ 0 ∷ 0 ∷ 0 ∷ 0 ∷ 0 ∷ 2 ∷ 0 ∷ 0 ∷ 0 ∷ 0 ∷ 0 ∷ 0 ∷ 0 ∷ []))
  -- a bytes codec is undone
  pub reversed : IsGapless (then_bytes shard_of_twos reversing_bytes) (4 ∷ []) (reverse first_two)
  -- the outer shard is as long as its index and its slice, and the slice has a gap
  pub inner_gap : ¬ IsGapless nested_twos (4 ∷ []) (first_two_and_gap ++ (0 ∷ 0 ∷ 0 ∷ 0 ∷ 0 ∷ 0 ∷ 0 ∷ 0 ∷ 36 ∷ 0 ∷ 0 ∷ 0 ∷ 0 ∷ 0 ∷ 0 ∷ 0 ∷ []))

-- what is held of three elements: the last subchunk has one
abbrev pub held_three : Option (List ℕ) → Option HeldShard
held_three stored = held_in (2 ∷ []) (bytes (Some little)) at_end (3 ∷ []) stored

-- what shards hold, and what appended slices make of that
pub record HeldRows : Type 0 where
  pub held : held_three (Some first_two) ≡ Some (held_shard ((0, 2) ∷ absent_pair ∷ []) (1 ∷ 2 ∷ []))
  -- bytes that no slice holds are in the data part
  pub gap_held : held_three (Some first_two_and_gap) ≡ Some (held_shard ((0, 2) ∷ absent_pair ∷ []) (1 ∷ 2 ∷ 9 ∷ 9 ∷ []))
  pub nothing : held_three None ≡ Some (held_shard (absent_pair ∷ absent_pair ∷ []) [])
  pub short_of_an_index : held_three (Some (1 ∷ 2 ∷ 3 ∷ [])) ≡ None
  -- the new slice stands behind the old ones, and the subchunk that wasn't changed keeps its pair
  pub last_changed : held_after 0 ((1, Some (7 ∷ [])) ∷ []) (held_shard ((0, 2) ∷ absent_pair ∷ []) (1 ∷ 2 ∷ [])) ≡ held_shard ((0, 2) ∷ (2, 1) ∷ []) (1 ∷ 2 ∷ 7 ∷ [])
  -- the old slice stays as a gap
  pub first_changed : held_after 0 ((0, Some (5 ∷ 6 ∷ [])) ∷ []) (held_shard ((0, 2) ∷ absent_pair ∷ []) (1 ∷ 2 ∷ [])) ≡ held_shard ((2, 2) ∷ absent_pair ∷ []) (1 ∷ 2 ∷ 5 ∷ 6 ∷ [])
  -- offsets count from the base, behind an index of 32 bytes
  pub index_first : held_after 32 ((0, Some (5 ∷ 6 ∷ [])) ∷ []) (held_shard (absent_pair ∷ absent_pair ∷ []) []) ≡ held_shard ((32, 2) ∷ absent_pair ∷ []) (5 ∷ 6 ∷ [])
  -- where no subchunk is left, no value is
  pub none_left : HoldsShard held_three (held_after 0 ((0, None) ∷ []) (held_shard ((0, 2) ∷ absent_pair ∷ []) (1 ∷ 2 ∷ []))) None
  pub not_none : ¬ HoldsShard held_three (held_shard (absent_pair ∷ absent_pair ∷ []) (1 ∷ 2 ∷ [])) (Some ((1 ∷ 2 ∷ []) ++ replicate 32 255))
