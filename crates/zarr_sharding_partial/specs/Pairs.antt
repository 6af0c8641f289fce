-- The pairs and slices of a shard that a source holds.
use Rattle.std.specs.Prelude.{◌≡◌, ℕ, List, length, get_or, Option, None, Some, option_and_then, option_map, if◌then◌else◌, MatchOption, Result, Ok, Err, Vec, true, false}
use Rattle.std.specs.declared.alloc.Global.{Global}
use Rattle.zarr_grids_boxes.specs.Boxes.{IsIndex, ravel}
use Rattle.zarr_codecs_meaning.specs.Decoding.{is_absent, slice_at}
use Rattle.zarr_codecs_meaning.specs.Encoding.{Pair, absent_pair, index_size}
use Rattle.zarr_codecs_meaning.specs.Fits.{fits}
use Rattle.zarr_codecs_meaning.specs.Places.{grid_of, index_shape}
use Rattle.zarr_codecs_arrays.specs.declared.error.CodecError.{CodecError}
use Rattle.zarr_codecs_arrays.specs.declared.error.CodecError.TheVariants as error
use Rattle.zarr_codecs_traits.specs.declared.byte_range.ByteRange.{ByteRange}
use Rattle.zarr_sharding_index.specs.HeldIndex.{held_pairs}
use Rattle.zarr_sharding_index.specs.Listed.{count_present}
use Rattle.zarr_sharding_index.specs.Present.{all_pairs}
use Rattle.zarr_sharding_index.specs.Views.{pair_of}
use Rattle.zarr_sharding_index.specs.declared.fetched_index.FetchedIndex.{FetchedIndex}
use Rattle.zarr_sharding_partial.specs.Shards.{ShardOf, chain_of}

-- how many pairs of an index are those of present subchunks, or 0 where there is no index
abbrev pub count_fetched : Option FetchedIndex → ℕ
count_fetched None = 0
count_fetched (Some found) = count_present (all_pairs found.pairs)

-- the pairs of an index, if there is one
abbrev pub pairs_fetched : Option FetchedIndex → Option (List Pair)
pairs_fetched held = option_map (λ (found : FetchedIndex). all_pairs found.pairs) held

-- how many pairs an index has, if there is one
abbrev pub counts : Option FetchedIndex → Option ℕ
counts held = option_map (λ (found : FetchedIndex). length (all_pairs found.pairs)) held

-- how many bytes the shard of an index has, if there is one
abbrev pub totals : Option FetchedIndex → Option ℕ
totals held = option_map (λ (found : FetchedIndex). found.total) held

-- how many bytes the index of a shard has
abbrev pub index_length : ShardOf → ℕ
index_length s = index_size s.index (index_shape s.shape s.subchunk)

-- the pairs that the index of a value says, if it is decoded
abbrev pub stored_pairs : ShardOf → List ℕ → Option (List Pair)
stored_pairs s value = held_pairs s.index s.location (index_shape s.shape s.subchunk) value

-- a pair, unless it is that of an absent subchunk
abbrev pub present : Pair → Option Pair
present pair = if is_absent pair then None else Some pair

-- the pair of the subchunk at some indices, of what is stored: none where the subchunk is absent, or nothing is stored
abbrev pub stored_pair : ShardOf → Option (List ℕ) → List ℕ → Option Pair
stored_pair s None indices = None
stored_pair s (Some value) indices = option_and_then (λ pairs. present (get_or pairs (ravel indices (grid_of s.shape s.subchunk)) absent_pair)) (stored_pairs s value)

-- the encoded bytes of the subchunk at some indices: none where it is absent, or its pair ends past the end
abbrev pub stored_slice : ShardOf → Option (List ℕ) → List ℕ → Option (List ℕ)
stored_slice s None indices = None
stored_slice s (Some value) indices = option_and_then (slice_at value) (stored_pair s (Some value) indices)

-- where a subchunk stands, or that there is no such subchunk
abbrev pub FindsPair : ShardOf → Option (List ℕ) → List ℕ → Result (Option ByteRange) CodecError → Type 0
FindsPair s contents indices (Ok found) = IsIndex indices (grid_of s.shape s.subchunk) × (option_map pair_of found ≡ stored_pair s contents indices)
FindsPair s contents indices (Err error.IncompatibleIndexer) = ¬ IsIndex indices (grid_of s.shape s.subchunk)
FindsPair s contents indices (Err e) = ⊥

-- a subchunk is present, and its pair ends past the end of what is stored
abbrev pub IsPastEnd : ShardOf → Option (List ℕ) → List ℕ → Type 0
IsPastEnd s contents indices = IsIndex indices (grid_of s.shape s.subchunk) × ((pair : Pair) × (stored_pair s contents indices ≡ Some pair) × (stored_slice s contents indices ≡ None))

-- the encoded bytes of a subchunk, or why there are none
abbrev pub RetrievesSlice : ShardOf → Option (List ℕ) → List ℕ → Result (Option (Vec ℕ Global)) CodecError → Type 0
RetrievesSlice s contents indices (Ok None) = IsIndex indices (grid_of s.shape s.subchunk) × (stored_pair s contents indices ≡ None)
RetrievesSlice s contents indices (Ok (Some slice)) = IsIndex indices (grid_of s.shape s.subchunk) × (stored_slice s contents indices ≡ Some slice.items)
RetrievesSlice s contents indices (Err error.IncompatibleIndexer) = ¬ IsIndex indices (grid_of s.shape s.subchunk)
RetrievesSlice s contents indices (Err error.Damage) = IsPastEnd s contents indices
RetrievesSlice s contents indices (Err error.Source) = Unit {0}
RetrievesSlice s contents indices (Err error.Memory) = Unit {0}
RetrievesSlice s contents indices (Err e) = ⊥

-- why a shard isn't opened: the codec doesn't suit the array, the value has no index, or the source refuses
abbrev pub NotOpenedToRead : ShardOf → Option (List ℕ) → CodecError → Type 0
NotOpenedToRead s contents error.Fit = fits (chain_of s) s.elements.type s.shape ≡ false
NotOpenedToRead s contents error.Damage = (fits (chain_of s) s.elements.type s.shape ≡ true) × MatchOption contents ⊥ (λ value. stored_pairs s value ≡ None)
NotOpenedToRead s contents error.Source = Unit {0}
NotOpenedToRead s contents error.Memory = Unit {0}
NotOpenedToRead s contents e = ⊥
