-- What putting new cells at places of an array makes of its shard.
use Rattle.std.specs.Prelude.{◌≡◌, ◌⊎◌, ℕ, ◌+◌, ◌^◌, ◌<◌, ◌≤◌, List, [], ◌∷◌, length, map, get_or, Bool, Option, None, Some, unwrap_or, true, false, IfErr, OnOk, Result}
use Rattle.zarr_codecs_arrays.specs.Outcomes.{IsInvalid, IsValid}
use Rattle.zarr_codecs_arrays.specs.declared.error.CodecError.{CodecError}
use Rattle.zarr_codecs_arrays.specs.declared.error.CodecError.TheVariants as error
use Rattle.zarr_codecs_meaning.specs.Chains.{Chain}
use Rattle.zarr_codecs_meaning.specs.Decoding.{is_absent, slice_at}
use Rattle.zarr_codecs_meaning.specs.Encoding.{Pair, absent_pair, pair_cells}
use Rattle.zarr_codecs_meaning.specs.Fits.{is_lossless}
use Rattle.zarr_codecs_meaning.specs.Payloads.{Payload}
use Rattle.zarr_codecs_meaning.specs.Places.{index_shape}
use Rattle.zarr_codecs_meaning.specs.Refusals.{CodecRefuses, PassesIndex}
use Rattle.zarr_codecs_meaning.specs.Types.{Cell, Elements, uint64, zero_filled}
use Rattle.zarr_codecs_traits.specs.Indexers as indexers
use Rattle.zarr_codecs_traits.specs.Indexers.{Asked, are_inside, numbers_asked}
use Rattle.zarr_codecs_traits.specs.Arrays.{coded, update_of}
use Rattle.zarr_codecs_traits.specs.PartWriting.{IsEncodedInto}
use Rattle.zarr_sharding_changes.specs.Changes.{Change, appended, pairs_after}
use Rattle.zarr_sharding_codec.specs.PartWriting.{AreChanged, IsLostAt, IsMet, IsRefusedAt, IsTooLargeAt, Put, cells_held, cells_put, shape_in}
use Rattle.zarr_sharding_codec.specs.Slices.{IsPieceStored}
use Rattle.zarr_sharding_partial.specs.Pairs.{index_length}
use Rattle.zarr_sharding_partial.specs.Shards.{ShardOf, chain_of}
use Rattle.zarr_sharding_partial.specs.Tables.{IsTold, put_of, stored_of, table_of}
use Rattle.zarr_sharding_index.specs.Held.{are_absent, shard_length, Held, index_coding}
use Rattle.zarr_sharding_index.specs.Written.{IsChanged}

-- ---- what is given

-- elements are valid ones for places of the array, one for each place that is asked for
pub record IsGiven (elements : Elements) (shape : List ℕ) (asked : Asked) (payload : Payload) (cells : List Cell) : Type 0 where
  pub inside : are_inside shape asked ≡ true
  pub valid : IsValid elements.type payload (length (numbers_asked shape asked)) cells

-- the numbers of the places that are asked for, of which valid elements are given
pub record AreAsked (elements : Elements) (shape : List ℕ) (asked : Asked) (payload : Payload) (numbers : List ℕ) : Type 0 where
  pub cells : List Cell
  pub given : IsGiven elements shape asked payload cells
  pub are : numbers ≡ numbers_asked shape asked

-- why elements are not taken: a place isn't one of the array's, or they are not valid ones, one for each place
abbrev pub NotGiven : Elements → List ℕ → Asked → Payload → CodecError → Type 0
NotGiven elements shape asked payload error.IncompatibleIndexer = are_inside shape asked ≡ false
NotGiven elements shape asked payload error.Memory = Unit {0}
NotGiven elements shape asked payload e = (are_inside shape asked ≡ true) × IsInvalid elements.type payload (length (numbers_asked shape asked)) e

-- ---- what is written

-- elements that are to be put at the places of a shard's array that are asked for; it is told whether what the codecs of its subchunks, and those of its index, make depends on what they are given alone
pub record Putting : Type 0 where
  pub shard : ShardOf
  pub exact : Bool
  pub one : Bool
  pub asked : Asked
  pub payload : Payload

-- the new cells of a put, for the places that are asked for
abbrev pub new_cells : Putting → List Cell → Put
new_cells put cells = put_of put.shard put.asked cells

-- the new slices of all subchunks that the places lie in are appended to the data part, one of each, and the index says where they stand; where no subchunk is present then, the value is taken away
pub record IsWritten (put : Putting) (cells : List Cell) (old new : Held) : Type 0 where
  pub changes : List Change
  pub changed : AreChanged (stored_of put.shard put.exact old) (new_cells put cells) changes
  pub room : old.end + length (appended changes) < 2 ^ 63
  pub pairs : new.pairs ≡ pairs_after old.end changes old.pairs
  pub written : IsChanged (index_coding put.shard.index put.one put.shard.location (index_shape put.shard.shape put.shard.subchunk)) changes old.contents old.end new

-- what a call writes where the elements are valid ones, one for each place
abbrev pub WritesValid : {A : Type 0} → Putting → Held → Held → Result A CodecError → Type 0
WritesValid put old new result =
    (cells : List Cell) → IsValid put.shard.elements.type put.payload (length (numbers_asked put.shard.shape put.asked)) cells → OnOk result (IsWritten put cells old new)

-- a subchunk has a slice in what is stored, or it is absent
abbrev pub HasSlice : Option (List ℕ) → Pair → Option (List ℕ) → Type 0
HasSlice contents pair None = pair ≡ absent_pair
HasSlice contents pair (Some slice) = (is_absent pair ≡ false) × (slice_at (unwrap_or contents []) pair ≡ Some slice)

-- a subchunk keeps its pair, and its slice if it has one
pub record IsKept (old new : Held) (k : ℕ) : Type 0 where
  pub pair : get_or new.pairs k absent_pair ≡ get_or old.pairs k absent_pair
  pub slice : is_absent (get_or old.pairs k absent_pair) ≡ false → slice_at (unwrap_or new.contents []) (get_or new.pairs k absent_pair) ≡ slice_at (unwrap_or old.contents []) (get_or old.pairs k absent_pair)

-- a subchunk has the cells that it had, with the new ones put over them, and is encoded anew and whole; it is absent where all of them are the fill value
pub record IsPut (put : Putting) (cells : List Cell) (old new : Held) (k : ℕ) : Type 0 where
  pub before : List Cell
  pub held : cells_held (stored_of put.shard put.exact old) (shape_in (new_cells put cells) k) k ≡ Some before
  pub slice : Option (List ℕ)
  pub stored : IsPieceStored put.shard.inner put.exact put.shard.elements (shape_in (new_cells put cells) k, cells_put (new_cells put cells) k before) slice
  pub has : HasSlice new.contents (get_or new.pairs k absent_pair) slice

-- new cells were put at the places that are asked for: of the array's table, and of the shard subchunk by subchunk
pub record IsPutInto (put : Putting) (cells : List Cell) (old new : Held) : Type 0 where
  pub given : IsGiven put.shard.elements put.shard.shape put.asked put.payload cells
  pub is : IsWritten put cells old new
  -- the table has the new cells at these places, and its other ones elsewhere
  pub table : is_lossless (chain_of put.shard) put.shard.elements.type ≡ true
      → table_of put.shard new ≡ indexers.put (numbers_asked put.shard.shape put.asked) (map (λ cell. Some (cell ∷ [])) cells) (table_of put.shard old)
  -- what stood for a table stands for the new one
  pub encoded : IsEncodedInto (coded (chain_of put.shard) put.shard.elements put.shard.shape) put.exact (update_of put.asked put.payload old.contents) cells new.contents
  pub met : (k : ℕ) → IsMet (new_cells put cells) k → IsPut put cells old new k
  pub others : (k : ℕ) → k < length old.pairs → ¬ IsMet (new_cells put cells) k → IsKept old new k
  pub told : is_lossless put.shard.index uint64 ≡ true → IsTold put.shard new

-- ---- why nothing is written

-- the index of the pairs after the changes is refused, one of which is present; where none is, no index is made
pub record IsIndexRefused (refuses : Chain → Elements → List ℕ → List Cell → Type 0) (s : ShardOf) (exact : Bool) (new_cells : Put) (held : Held) : Type 0 where
  pub changes : List Change
  pub changed : AreChanged (stored_of s exact held) new_cells changes
  pub some : are_absent (pairs_after held.end changes held.pairs) ≡ false
  pub is : refuses s.index (zero_filled uint64) (index_shape s.shape s.subchunk) (pair_cells (pairs_after held.end changes held.pairs))

-- the shard would have 2^63 bytes or more
pub record IsTooLong (s : ShardOf) (exact : Bool) (new_cells : Put) (held : Held) : Type 0 where
  pub changes : List Change
  pub changed : AreChanged (stored_of s exact held) new_cells changes
  pub is : 2 ^ 63 ≤ shard_length s.location (index_length s) (held.end + length (appended changes))

-- why valid elements are not put: the slice of a subchunk that is met isn't decoded, a codec refuses, or something would be too large
abbrev pub NotWritten : ShardOf → Bool → Put → Held → CodecError → Type 0
NotWritten s exact new_cells held error.Damage = IsLostAt (stored_of s exact held) new_cells
NotWritten s exact new_cells held error.Codec = IsRefusedAt CodecRefuses (stored_of s exact held) new_cells ⊎ IsIndexRefused CodecRefuses s exact new_cells held
NotWritten s exact new_cells held error.Size =
    (IsTooLargeAt (stored_of s exact held) new_cells ⊎ IsRefusedAt PassesIndex (stored_of s exact held) new_cells)
    ⊎ (IsIndexRefused PassesIndex s exact new_cells held ⊎ IsTooLong s exact new_cells held)
NotWritten s exact new_cells held error.Source = Unit {0}
NotWritten s exact new_cells held error.Memory = Unit {0}
NotWritten s exact new_cells held e = ⊥

-- why a call doesn't write elements that are valid ones, one for each place
abbrev pub ValidNotWritten : {A : Type 0} → Putting → Held → Result A CodecError → Type 0
ValidNotWritten put held result =
    (cells : List Cell) → IsValid put.shard.elements.type put.payload (length (numbers_asked put.shard.shape put.asked)) cells → IfErr result (NotWritten put.shard put.exact (new_cells put cells) held)

-- why new cells are not put at the places that are asked for
abbrev pub NotPutInto : Putting → Held → CodecError → Type 0
NotPutInto put held e =
    NotGiven put.shard.elements put.shard.shape put.asked put.payload e
    ⊎ ((cells : List Cell) × IsGiven put.shard.elements put.shard.shape put.asked put.payload cells × NotWritten put.shard put.exact (new_cells put cells) held e)

-- whether a write is refused before the source is asked to write: for what is given, or for damage
abbrev pub IsRefusedUnwritten : CodecError → Type 0
IsRefusedUnwritten error.Codec = ⊥
IsRefusedUnwritten error.Size = ⊥
IsRefusedUnwritten error.Source = ⊥
IsRefusedUnwritten error.Memory = ⊥
IsRefusedUnwritten e = Unit {0}
