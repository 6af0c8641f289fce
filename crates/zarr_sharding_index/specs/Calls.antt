-- What a call that writes leaves of a source and of what is known of its shard.
use Rattle.std.specs.Prelude.{◌≡◌, ◌+◌, ◌^◌, ◌<◌, ◌≤◌, List, [], ◌∷◌, length, Some, IsTrue, OnErr, OnOk, Result}
use Rattle.zarr_codecs_arrays.specs.declared.error.CodecError.{CodecError}
use Rattle.zarr_codecs_traits.specs.declared.byte_source.BytesPartialDecoderTraits as source
use Rattle.zarr_codecs_traits.specs.declared.byte_target.BytesPartialEncoderTraits as target
use Rattle.zarr_codecs_traits.specs.Sources.{refused_after}
use Rattle.zarr_codecs_traits.specs.Writes.{accepted_after, most_to_patch}
use Rattle.zarr_sharding_changes.specs.Changes.{Change, appended, pairs_after}
use Rattle.zarr_sharding_index.specs.Known.{end_of, pairs_in, known_location, known_shape, known_length}
use Rattle.zarr_sharding_index.specs.declared.given_changes.GivenSlice.{GivenSlice}
use Rattle.zarr_sharding_index.specs.declared.known_shard.KnownShard.{KnownShard}

-- a source after a call that writes to it once at most: an error leaves what an honest one holds, and its refusals and accepted writes are counted. If it writes ranges, it gives no byte of its value to do so; else an honest one gives the value at most once
pub record CalledToWrite {E A : Type 0} (e : target.Ghosts E) (d : source.Ghosts E) (old new : E) (result : Result A CodecError) : Type 0 where
  pub err : IsTrue (d.is_honest old) → OnErr result (d.contents new ≡ d.contents old)
  pub refused : d.refused_calls new ≡ refused_after (d.refused_calls old) result
  pub given : IsTrue (e.writes_ranges old) → d.given_bytes new ≡ d.given_bytes old
  pub taken : IsTrue (d.is_honest old) → d.given_bytes new ≤ d.given_bytes old + most_to_patch (e.writes_ranges old) (d.contents old)
  pub accepted : e.accepted_writes new ≡ accepted_after (e.accepted_writes old) result
  pub rewrites : e.rewrites old new

-- the index of a shard stands where it stood, and has the shape and the size that it had
pub record IsLaidAlike (old new : KnownShard) : Type 0 where
  pub location : known_location new ≡ known_location old
  pub shape : known_shape new ≡ known_shape old
  pub size : known_length new ≡ known_length old

-- what is known of a shard after changes: the pairs after them, whose slices end below 2^63; or what was known, after an error
pub record KnownAfter {A : Type 0} (changes : List Change) (old new : KnownShard) (result : Result A CodecError) : Type 0 where
  pub pairs : OnOk result (pairs_in new ≡ pairs_after (end_of old) changes (pairs_in old))
  pub room : OnOk result (end_of old + length (appended changes) < 2 ^ 63)
  pub same : OnErr result ((pairs_in new ≡ pairs_in old) × (end_of new ≡ end_of old))
  pub laid : IsLaidAlike old new

-- the change that a given slice is
abbrev pub change_given : GivenSlice → List Change
change_given given = (given.number, Some given.slice.items) ∷ []
