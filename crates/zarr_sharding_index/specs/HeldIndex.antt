-- The index of a shard as the shard holds it.
use Rattle.std.specs.Prelude.{◌≡◌, ℕ, ◌*◌, List, length, MatchOption, Option, None, Some, option_map, Vec, Result, Ok, Err}
use Rattle.std.specs.declared.alloc.Global.{Global}
use Rattle.zarr_grids_boxes.specs.Boxes.{product}
use Rattle.zarr_codecs_meaning.specs.Chains.{Chain, Location}
use Rattle.zarr_codecs_meaning.specs.Decoding.{decoded, pairs_in, slice_at}
use Rattle.zarr_codecs_meaning.specs.Encoding.{Pair, index_size}
use Rattle.zarr_codecs_meaning.specs.Types.{uint64, zero_filled}
use Rattle.zarr_codecs_arrays.specs.declared.error.CodecError.{CodecError}
use Rattle.zarr_codecs_arrays.specs.declared.error.CodecError.TheVariants as error
use Rattle.zarr_sharding_index.specs.declared.fetched_index.FetchedIndex.{FetchedIndex}
use Rattle.zarr_sharding_index.specs.declared.fetched_index.WholeIndex.{WholeIndex}
use Rattle.zarr_sharding_index.specs.declared.index.ShardIndex.{ShardIndex}
use Rattle.zarr_sharding_index.specs.Present.{all_pairs}
use Rattle.zarr_sharding_index.specs.Views.{pairs_of}

-- the pairs of the index of a shard, which a chain decodes from as many bytes as an index of this shape has; None where the shard has fewer bytes, or they are not decoded
abbrev pub held_pairs : Chain → Location → List ℕ → List ℕ → Option (List Pair)
held_pairs index location shape value = pairs_in (decoded index (zero_filled uint64) shape) location (index_size index shape) value

-- the index of a shard
pub record IsIndexHeld (index : Chain) (location : Location) (shape value : List ℕ) (pairs : List Pair) : Type 0 where
  pub is : held_pairs index location shape value ≡ Some pairs
  pub many : product shape ≡ 2 * length pairs

-- the index of a shard, or why there is none
abbrev pub DecodesIndex : Chain → Location → List ℕ → List ℕ → Result ShardIndex CodecError → Type 0
DecodesIndex index location shape value (Ok found) = IsIndexHeld index location shape value (pairs_of found)
DecodesIndex index location shape value (Err error.Damage) = held_pairs index location shape value ≡ None
DecodesIndex index location shape value (Err error.Memory) = Unit {0}
DecodesIndex index location shape value (Err e) = ⊥

-- the pairs of the index of the shard that a source holds and how many bytes the shard has, or nothing where it holds none
abbrev pub AreHeldPairs : Chain → Location → List ℕ → Option (List ℕ) → Option (List Pair × ℕ) → Type 0
AreHeldPairs index location shape None None = Unit {0}
AreHeldPairs index location shape None (Some found) = ⊥
AreHeldPairs index location shape (Some value) None = ⊥
AreHeldPairs index location shape (Some value) (Some found) = IsIndexHeld index location shape value found.0 × (found.1 ≡ length value)

-- the index of the shard that a source holds, of which the pairs of present subchunks are kept
abbrev pub IsFetched : Chain → Location → List ℕ → Option (List ℕ) → Option FetchedIndex → Type 0
IsFetched index location shape contents fetched = AreHeldPairs index location shape contents (option_map (λ (found : FetchedIndex). (all_pairs found.pairs, found.total)) fetched)

-- the whole index of the shard that a source holds
abbrev pub IsWholeFetched : Chain → Location → List ℕ → Option (List ℕ) → Option WholeIndex → Type 0
IsWholeFetched index location shape contents fetched = AreHeldPairs index location shape contents (option_map (λ (found : WholeIndex). (pairs_of found.index, found.total)) fetched)

-- why no index is fetched of the shard that a source holds: it is damaged, or the source refuses
abbrev pub FetchRefused : Chain → Location → List ℕ → Option (List ℕ) → CodecError → Type 0
FetchRefused index location shape contents error.Damage = MatchOption contents ⊥ (λ value. held_pairs index location shape value ≡ None)
FetchRefused index location shape contents error.Source = Unit {0}
FetchRefused index location shape contents error.Memory = Unit {0}
FetchRefused index location shape contents e = ⊥

-- what is fetched of the index of the shard that a source holds, or why nothing is
abbrev pub FetchesIndex : Chain → Location → List ℕ → Option (List ℕ) → Result (Option FetchedIndex) CodecError → Type 0
FetchesIndex index location shape contents (Ok found) = IsFetched index location shape contents found
FetchesIndex index location shape contents (Err e) = FetchRefused index location shape contents e

-- what is fetched of the whole index of the shard that a source holds, or why nothing is
abbrev pub FetchesWhole : Chain → Location → List ℕ → Option (List ℕ) → Result (Option WholeIndex) CodecError → Type 0
FetchesWhole index location shape contents (Ok found) = IsWholeFetched index location shape contents found
FetchesWhole index location shape contents (Err e) = FetchRefused index location shape contents e

-- what is fetched of a pair of a value, or why nothing is: it ends past the end, or the source refuses
abbrev pub FetchesSlice : List ℕ → Pair → Result (Vec ℕ Global) CodecError → Type 0
FetchesSlice value pair (Ok bytes) = slice_at value pair ≡ Some bytes.items
FetchesSlice value pair (Err error.Damage) = slice_at value pair ≡ None
FetchesSlice value pair (Err error.Source) = Unit {0}
FetchesSlice value pair (Err error.Memory) = Unit {0}
FetchesSlice value pair (Err e) = ⊥
