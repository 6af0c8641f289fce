-- What one writing call makes of a shard.
use Rattle.std.specs.Prelude.{◌≡◌, ◌⊎◌, ℕ, ◌+◌, ◌^◌, ◌≤◌, List, [], length, Option, None, Some, true, false, Result, Ok, Err, unwrap_or}
use Rattle.zarr_codecs_meaning.specs.Chains.{Location}
use Rattle.zarr_codecs_meaning.specs.Chains.Location.{at_start, at_end}
use Rattle.zarr_codecs_meaning.specs.Encoding.{Pair, base_of, index_size, pair_cells}
use Rattle.zarr_codecs_meaning.specs.Refusals.{CodecRefuses, PassesIndex}
use Rattle.zarr_codecs_meaning.specs.Types.{uint64, zero_filled}
use Rattle.zarr_codecs_meaning.specs.Standing.{index_layout, layout_size, IndexLayout}
use Rattle.zarr_codecs_arrays.specs.declared.error.CodecError.{CodecError}
use Rattle.zarr_codecs_arrays.specs.declared.error.CodecError.TheVariants as error
use Rattle.zarr_codecs_traits.specs.Patches.{written_at}
use Rattle.zarr_sharding_changes.specs.Changes.{Change, appended, pairs_after}
use Rattle.zarr_sharding_index.specs.Stored.{IsIndexWritten}
use Rattle.zarr_sharding_index.specs.Held.{are_absent, shard_length, Held, IndexCoding}

-- a value with bytes appended to a data part that ends there, and with another index
abbrev pub with_slices : Location → ℕ → List ℕ → List ℕ → List ℕ → List ℕ
with_slices at_start end index_bytes slices value = written_at (written_at value 0 index_bytes) end slices
with_slices at_end end index_bytes slices value = written_at (written_at value end slices) (end + length slices) index_bytes

-- the slices of changes are appended, and the index is that of the pairs after them
pub record IsAppended (index : IndexCoding) (changes : List Change) (before : Option (List ℕ)) (end : ℕ) (new : Held) : Type 0 where
  pub some : are_absent new.pairs ≡ false
  pub index_bytes : List ℕ
  pub written : IsIndexWritten index.chain index.exact index.shape new.pairs index_bytes
  pub is : new.contents ≡ Some (with_slices index.location end index_bytes (appended changes) (unwrap_or before []))
  pub ends : new.end ≡ end + length (appended changes)

-- what changes make of what a source holds and of where the data part ends: nothing is left where no subchunk is, else their slices are appended
abbrev pub IsChanged : IndexCoding → List Change → Option (List ℕ) → ℕ → Held → Type 0
IsChanged index changes before end new =
    ((are_absent new.pairs ≡ true) × (new.contents ≡ None) × (new.end ≡ base_of index.location (index_size index.chain index.shape)))
    ⊎ IsAppended index changes before end new

-- why changes are not written: the index of the pairs after them is refused, if a subchunk is present then; the shard would have 2^63 bytes or more; or the source refuses
abbrev pub ChangesRefused : {A : Type 0} → IndexLayout → List Change → ℕ → List Pair → Result A CodecError → Type 0
ChangesRefused layout changes end pairs (Ok done) = Unit {0}
ChangesRefused layout changes end pairs (Err error.Codec) = (are_absent pairs ≡ false) × CodecRefuses layout.chain (zero_filled uint64) layout.shape (pair_cells pairs)
ChangesRefused layout changes end pairs (Err error.Size) =
    (2 ^ 63 ≤ shard_length layout.location (layout_size layout) (end + length (appended changes)))
    ⊎ ((are_absent pairs ≡ false) × PassesIndex layout.chain (zero_filled uint64) layout.shape (pair_cells pairs))
ChangesRefused layout changes end pairs (Err error.Source) = Unit {0}
ChangesRefused layout changes end pairs (Err error.Memory) = Unit {0}
ChangesRefused layout changes end pairs (Err e) = ⊥

-- why slices are not appended: the shard would have 2^63 bytes or more, or the source refuses
abbrev pub AppendRefused : {A : Type 0} → ℕ → Result A CodecError → Type 0
AppendRefused total (Ok done) = Unit {0}
AppendRefused total (Err error.Size) = 2 ^ 63 ≤ total
AppendRefused total (Err error.Source) = Unit {0}
AppendRefused total (Err error.Memory) = Unit {0}
AppendRefused total (Err e) = ⊥

-- what changes make of what is held of a shard with this index: nothing is left where no subchunk is, else their slices are appended
abbrev pub ChangesHeld : IndexCoding → List Change → Held → Held → Type 0
ChangesHeld index changes old new = IsChanged index changes old.contents old.end new

-- why changes of what is held are not written: the index of the pairs after them is refused, if a subchunk is present then; the shard would have 2^63 bytes or more; or the source refuses
abbrev pub RefusesChanges : {A : Type 0} → IndexCoding → List Change → Held → Result A CodecError → Type 0
RefusesChanges index changes held result = ChangesRefused (index_layout index.chain index.location index.shape) changes held.end (pairs_after held.end changes held.pairs) result
