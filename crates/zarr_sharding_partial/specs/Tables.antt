-- The shard of an array as a table of cells.
use Rattle.std.specs.Prelude.{◌≡◌, ℕ, List, [], ◌∷◌, length, map, Bool, Option, None, Some, MatchOption}
use Rattle.zarr_codecs_meaning.specs.Encoding.{Pair}
use Rattle.zarr_codecs_meaning.specs.Places.{index_shape, parts_of, place_numbers}
use Rattle.zarr_codecs_meaning.specs.Types.{Cell}
use Rattle.zarr_codecs_meaning.specs.Standing.{index_layout}
use Rattle.zarr_codecs_traits.specs.Indexers.{Asked, numbers_asked}
use Rattle.zarr_codecs_traits.specs.PartWriting.{cells_shown}
use Rattle.zarr_sharding_codec.specs.PartWriting.{Put, Stored, put_at, stored_in}
use Rattle.zarr_sharding_partial.specs.Shards.{ShardOf, chain_of}
use Rattle.zarr_sharding_index.specs.Held.{IsOpened, Held, held_as}

-- what is known of a shard is what opening it anew tells: the pairs that its index says, each of which lies in the data part; where there is no value, that each subchunk is absent
abbrev pub IsTold : ShardOf → Held → Type 0
IsTold s held = IsOpened (index_layout s.index s.location (index_shape s.shape s.subchunk)) (length (parts_of s.shape s.subchunk)) held.contents held.pairs held.end

-- the same, by cases of what the source holds
abbrev pub TellsAgain : ShardOf → Option (List ℕ) → List Pair → ℕ → Type 0
TellsAgain s contents pairs end = MatchOption contents (IsTold s (held_as None pairs end)) (λ value. IsTold s (held_as (Some value) pairs end))

-- the table: at each place of the array what is read there, each place by itself, or that nothing is
abbrev pub table_of : ShardOf → Held → List (Option (List Cell))
table_of s held = cells_shown (chain_of s) s.elements s.shape held.contents

-- the table that has the fill value at each place
abbrev pub fill_table : ShardOf → List (Option (List Cell))
fill_table s = map (λ n. Some (s.elements.fill ∷ [])) (place_numbers s.shape)

-- what is stored of the subchunks; it is told whether what their codecs make depends on the elements alone
abbrev pub stored_of : ShardOf → Bool → Held → Stored
stored_of s exact held = stored_in s.inner exact s.elements held.contents held.pairs

-- new cells for the places that are asked for
abbrev pub put_of : ShardOf → Asked → List Cell → Put
put_of s asked cells = put_at s.shape s.subchunk (numbers_asked s.shape asked) cells

-- nothing is stored any more, and the table is that of the fill value
pub record IsErased (s : ShardOf) (held : Held) : Type 0 where
  pub none : held.contents ≡ None
  pub told : IsTold s held
  pub table : table_of s held ≡ fill_table s
