-- What is seen of what is known of a shard in a source.
use Rattle.std.specs.Prelude.{◌≡◌, ℕ, List, Option, None, Some, true, false, Vec, Result, Ok, Err, Bool}
use Rattle.std.specs.declared.alloc.Global.{Global}
use Rattle.zarr_codecs_meaning.specs.Decoding.{is_absent, slice_at}
use Rattle.zarr_codecs_meaning.specs.Encoding.{Pair}
use Rattle.zarr_codecs_arrays.specs.declared.error.CodecError.{CodecError}
use Rattle.zarr_codecs_arrays.specs.declared.error.CodecError.TheVariants as error
use Rattle.zarr_sharding_index.specs.Present.{all_pairs}
use Rattle.zarr_sharding_index.specs.declared.known_shard.KnownShard.{KnownShard}
use Rattle.zarr_codecs_meaning.specs.Chains.{Chain, Location}
use Rattle.zarr_sharding_index.specs.Views.{location_of}
use Rattle.zarr_sharding_index.specs.Held.{Held, IndexCoding, held_as, index_coding, shard_length}

-- the pairs of the shard's index
abbrev pub pairs_in : KnownShard → List Pair
pairs_in shard = all_pairs shard.pairs

-- where the shard's data part ends
abbrev pub end_of : KnownShard → ℕ
end_of shard = shard.end

-- the slice that a pair has in a value, if it is present, or why there is none: it ends past the value, or the source refuses
abbrev pub HasSliceAt : List ℕ → Pair → Result (Option (Vec ℕ Global)) CodecError → Type 0
HasSliceAt value pair (Ok None) = is_absent pair ≡ true
HasSliceAt value pair (Ok (Some slice)) = (is_absent pair ≡ false) × (slice_at value pair ≡ Some slice.items)
HasSliceAt value pair (Err error.Damage) = (is_absent pair ≡ false) × (slice_at value pair ≡ None)
HasSliceAt value pair (Err error.Source) = Unit {0}
HasSliceAt value pair (Err error.Memory) = Unit {0}
HasSliceAt value pair (Err e) = ⊥

-- where the shard's index stands
abbrev pub known_location : KnownShard → Location
known_location shard = location_of shard.location

-- the shape of the shard's index
abbrev pub known_shape : KnownShard → List ℕ
known_shape shard = shard.shape.items

-- how many bytes the shard's index has
abbrev pub known_length : KnownShard → ℕ
known_length shard = shard.size

-- how many bytes the shard has, where the source holds one
abbrev pub known_total : KnownShard → ℕ
known_total shard = shard_length (known_location shard) (known_length shard) (end_of shard)

-- how the shard's index is coded, by its chain, and by whether what that makes depends on the pairs alone
abbrev pub known_index : Chain → Bool → KnownShard → IndexCoding
known_index chain exact shard = index_coding chain exact (known_location shard) (known_shape shard)

-- what a source holds, and what is known of it
abbrev pub held_by : Option (List ℕ) → KnownShard → Held
held_by contents shard = held_as contents (pairs_in shard) (end_of shard)
