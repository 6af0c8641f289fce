-- What is written of a part of an array by appending to its shard.
use Rattle.std.specs.Prelude.{◌≡◌, ℕ, ◌+◌, ◌^◌, ◌<◌, ◌≤◌, List, length, Option, Bool, true, false, IsTrue, MatchBool, OnErr, nat_lt, Result, Ok, Err}
use Rattle.std.specs.List.{list_all}
use Rattle.zarr_grids_boxes.specs.Boxes.{product}
use Rattle.zarr_codecs_meaning.specs.Chains.{Chain}
use Rattle.zarr_codecs_meaning.specs.Encoding.{Pair, index_size, pair_cells}
use Rattle.zarr_codecs_meaning.specs.Fits.{fits}
use Rattle.zarr_codecs_meaning.specs.Payloads.{Payload}
use Rattle.zarr_codecs_meaning.specs.Refusals.{CodecRefuses, PassesIndex}
use Rattle.zarr_codecs_meaning.specs.Types.{Cell, uint64, zero_filled}
use Rattle.zarr_codecs_arrays.specs.Outcomes.{IsValid}
use Rattle.zarr_codecs_arrays.specs.declared.error.CodecError.{CodecError}
use Rattle.zarr_codecs_arrays.specs.declared.error.CodecError.TheVariants as error
use Rattle.zarr_codecs_traits.specs.Indexers.{Asked, are_inside, numbers_asked}
use Rattle.zarr_codecs_traits.specs.Arrays.{Coded, Update}
use Rattle.zarr_codecs_traits.specs.PartWriting.{EncodesInto, IsPlaced, LacksRoom}
use Rattle.zarr_codecs_traits.specs.ShardWrites.{LeavesParts}
use Rattle.zarr_codecs_traits.specs.Sources.{refused_after}
use Rattle.zarr_codecs_traits.specs.Writes.{accepted_after, most_to_patch}
use Rattle.zarr_codecs_traits.specs.declared.byte_source.BytesPartialDecoderTraits as source
use Rattle.zarr_codecs_traits.specs.declared.byte_target.BytesPartialEncoderTraits as target
use Rattle.zarr_sharding_changes.specs.Changes.{Change, appended, pairs_after}
use Rattle.zarr_sharding_index.specs.Held.{are_absent, shard_length, IndexCoding, held_as}
use Rattle.zarr_sharding_index.specs.Written.{IsChanged}
use Rattle.zarr_sharding_codec.specs.Fitting.{index_length}

-- a payload has a valid element for each place that is asked for of an array that the chain suits; the places have these numbers, and the index of a shard that many bytes
pub record IsTestedPart (array : Coded) (asked : Asked) (payload : Payload) (size : ℕ) (numbers : List ℕ) : Type 0 where
  pub cells : List Cell
  pub valid : IsValid array.elements.type payload (length (numbers_asked array.shape asked)) cells
  pub fit : fits array.chain array.elements.type array.shape ≡ true
  pub inside : are_inside array.shape asked ≡ true
  pub small : product array.shape < 2 ^ 63
  pub numbers_are : numbers ≡ numbers_asked array.shape asked
  pub below : list_all (λ n. nat_lt n (product array.shape)) numbers ≡ true
  pub size_is : size ≡ index_length array.chain array.shape

-- new cells were put at the places that are asked for, and the parts that the write doesn't meet stay; or there is no room for the new slices behind what is stored, where each present slice lies in the data part, and nothing was written
abbrev pub AppendsPart : Coded → Bool → Update → Option (List ℕ) → Bool → Type 0
AppendsPart array exact update new written =
    MatchBool written (EncodesInto array exact update new × LeavesParts array update new) ((new ≡ update.stored) × IsPlaced array.chain array.shape update.stored × LacksRoom array update)

-- changes that are to be written into a shard that is known: where its data part ends, the pairs of its index, and what is stored
pub record ShardWrite : Type 0 where
  pub changes : List Change
  pub end : ℕ
  pub pairs : List Pair
  pub stored : Option (List ℕ)

-- the same, put together
abbrev pub shard_write : List Change → ℕ → List Pair → Option (List ℕ) → ShardWrite
shard_write changes end pairs stored = record { changes = changes; end = end; pairs = pairs; stored = stored }

-- changes were written; or the shard would then have 2^63 bytes or more, and nothing was written
abbrev pub AppendsChanges : IndexCoding → ShardWrite → Option (List ℕ) → Bool → Type 0
AppendsChanges index write new written =
    let total = write.end + length (appended write.changes) in
    MatchBool written ((total < 2 ^ 63) × ((ended : ℕ) × IsChanged index write.changes write.stored write.end (held_as new (pairs_after write.end write.changes write.pairs) ended)))
    ((new ≡ write.stored) × (2 ^ 63 ≤ shard_length index.location (index_size index.chain index.shape) total))

-- the count of accepted writing calls after a call: one more where something was written
abbrev pub accepted_by : ℕ → Result Bool CodecError → ℕ
accepted_by count (Ok true) = accepted_after {A = Bool} count (Ok true)
accepted_by count (Ok false) = count
accepted_by count (Err e) = count

-- how many bytes of a value a source gives at most to have ranges of it written: none where nothing was written, since there was no room
abbrev pub most_tried : Bool → Option (List ℕ) → Result Bool CodecError → ℕ
most_tried ranges stored (Ok false) = 0
most_tried ranges stored result = most_to_patch ranges stored

-- a source after a call that writes to it once, where there is room: an error leaves what an honest one holds, and its refusals and accepted writes are counted
pub record TriedToWrite {E : Type 0} (e : target.Ghosts E) (d : source.Ghosts E) (old new : E) (result : Result Bool CodecError) : Type 0 where
  pub err : IsTrue (d.is_honest old) → OnErr result (d.contents new ≡ d.contents old)
  pub refused : d.refused_calls new ≡ refused_after (d.refused_calls old) result
  pub accepted : e.accepted_writes new ≡ accepted_by (e.accepted_writes old) result
  pub rewrites : e.rewrites old new

-- why changes are not written that there is room for: the index of the pairs after them is refused, if a subchunk is present then, or the source refuses
abbrev pub ChangesUnwritten : Chain → List ℕ → List Pair → Result Bool CodecError → Type 0
ChangesUnwritten index shape pairs (Ok written) = Unit {0}
ChangesUnwritten index shape pairs (Err error.Codec) = (are_absent pairs ≡ false) × CodecRefuses index (zero_filled uint64) shape (pair_cells pairs)
ChangesUnwritten index shape pairs (Err error.Size) = (are_absent pairs ≡ false) × PassesIndex index (zero_filled uint64) shape (pair_cells pairs)
ChangesUnwritten index shape pairs (Err error.Source) = Unit {0}
ChangesUnwritten index shape pairs (Err error.Memory) = Unit {0}
ChangesUnwritten index shape pairs (Err e) = ⊥
