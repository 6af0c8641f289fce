-- What is known of a shard once its index is fetched.
use Rattle.std.specs.Prelude.{◌≡◌, ◌⊎◌, ℕ, ◌+◌, ◌-◌, ◌/◌, ◌^◌, ◌<◌, ◌≤◌, List, length, replicate, Option, None, Some, MatchOption, true, false, if◌then◌else◌, nat_le, Result, Ok, Err}
use Rattle.std.specs.List.{list_all}
use Rattle.zarr_grids_boxes.specs.Boxes.{product}
use Rattle.zarr_codecs_meaning.specs.Chains.{Chain, Location}
use Rattle.zarr_codecs_meaning.specs.Chains.Location.{at_start, at_end}
use Rattle.zarr_codecs_meaning.specs.Encoding.{Pair, absent_pair, base_of, index_size}
use Rattle.zarr_codecs_meaning.specs.Standing.{index_layout}
use Rattle.zarr_codecs_arrays.specs.declared.error.CodecError.{CodecError}
use Rattle.zarr_codecs_arrays.specs.declared.error.CodecError.TheVariants as error
use Rattle.zarr_sharding_changes.specs.Compaction.{data_in}
use Rattle.zarr_sharding_index.specs.declared.fetched_index.WholeIndex.{WholeIndex}
use Rattle.zarr_sharding_index.specs.HeldIndex.{held_pairs}
use Rattle.zarr_sharding_index.specs.Present.{all_pairs}
use Rattle.zarr_sharding_index.specs.Held.{lies_between, IsOpened}
use Rattle.zarr_sharding_index.specs.declared.known_shard.KnownShard.{KnownShard}
use Rattle.zarr_sharding_index.specs.Views.{pairs_of}
use Rattle.zarr_sharding_index.specs.Known.{end_of, known_location, known_shape, known_length, pairs_in}

-- where the data part ends of a shard of so many bytes, if these are as many as those of its index
abbrev pub data_end : Location → ℕ → ℕ → Option ℕ
data_end at_start size total = if nat_le size total then Some total else None
data_end at_end size total = if nat_le size total then Some (total - size) else None

-- the pairs of what is known of a shard, and the end of its data part, are those of a fetched index, or those of no value
abbrev pub AreFetched : Location → List ℕ → ℕ → Option WholeIndex → KnownShard → Type 0
AreFetched location shape size None made = (all_pairs made.pairs ≡ replicate (product shape / 2) absent_pair) × (made.end ≡ base_of location size)
AreFetched location shape size (Some found) made =
    (all_pairs made.pairs ≡ pairs_of found.index) × (data_end location size found.total ≡ Some made.end) × (list_all (lies_between (base_of location size) made.end) (all_pairs made.pairs) ≡ true)

-- what is known of a shard by its fetched index
pub record IsKnown (location : Location) (shape : List ℕ) (size : ℕ) (fetched : Option WholeIndex) (made : KnownShard) : Type 0 where
  pub many : length (all_pairs made.pairs) ≡ product shape / 2
  pub low : made.end < 2 ^ 63
  pub are : AreFetched location shape size fetched made

-- a fetched index isn't that of a shard: it is longer than the shard, has another number of pairs, or a present pair lies outside the data part
abbrev pub Misfits : Location → List ℕ → ℕ → WholeIndex → Type 0
Misfits location shape size found =
    (found.total < size) ⊎ (length (pairs_of found.index) ≡ product shape / 2 → ⊥)
    ⊎ ((end : ℕ) × (data_end location size found.total ≡ Some end) × (list_all (lies_between (base_of location size) end) (pairs_of found.index) ≡ false))

-- what is known of a shard by its fetched index, or why nothing is
abbrev pub Opens : Location → List ℕ → ℕ → Option WholeIndex → Result KnownShard CodecError → Type 0
Opens location shape size fetched (Ok made) = IsKnown location shape size fetched made
Opens location shape size fetched (Err error.Damage) = MatchOption fetched ⊥ (λ (found : WholeIndex). Misfits location shape size found)
Opens location shape size fetched (Err error.Size) = MatchOption fetched ⊥ (λ (found : WholeIndex). 2 ^ 63 ≤ found.total)
Opens location shape size fetched (Err error.Memory) = Unit {0}
Opens location shape size fetched (Err e) = ⊥

-- a value isn't a shard whose present slices lie in its data part
abbrev pub IsDamaged : Chain → Location → List ℕ → List ℕ → Type 0
IsDamaged index location shape value =
    let size = index_size index shape in
    (held_pairs index location shape value ≡ None)
    ⊎ ((pairs : List Pair) × (held_pairs index location shape value ≡ Some pairs) × (list_all (lies_between (base_of location size) (base_of location size + length (data_in location size value))) pairs ≡ false))

-- why a shard isn't opened: it is damaged, or has 2^63 bytes or more, or the source refuses
abbrev pub OpenRefused : Chain → Location → List ℕ → Option (List ℕ) → CodecError → Type 0
OpenRefused index location shape contents error.Damage = MatchOption contents ⊥ (λ (value : List ℕ). IsDamaged index location shape value)
OpenRefused index location shape contents error.Size = MatchOption contents ⊥ (λ (value : List ℕ). 2 ^ 63 ≤ length value)
OpenRefused index location shape contents error.Source = Unit {0}
OpenRefused index location shape contents error.Memory = Unit {0}
OpenRefused index location shape contents e = ⊥

-- what is known of a shard is what a source holds, by the chain of the index, where that stands and its shape: its pairs, each of which lies in the data part, and where that ends; where there is no value, each subchunk is absent, and the data part is empty
abbrev pub IsOpenedAs : Chain → Location → List ℕ → Option (List ℕ) → KnownShard → Type 0
IsOpenedAs index location shape contents shard = IsOpened (index_layout index location shape) (product shape / 2) contents (pairs_in shard) (end_of shard)

-- how the index of a shard is laid out: it stands there, and has this shape and so many bytes
pub record IsLaid (place : Location) (edges : List ℕ) (count : ℕ) (shard : KnownShard) : Type 0 where
  pub location : known_location shard ≡ place
  pub shape : known_shape shard ≡ edges
  pub size : known_length shard ≡ count
