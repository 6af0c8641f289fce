-- What writing changes leaves of the shard of an array.
use Rattle.std.proofs.Common.{◌≡◌, ◌∙◌, ℕ, ◌+◌, ◌<◌, ◌^◌, List, length, ap, sym, subst, Bool, true, Option, OnErr, OnOk, IfErr, Result, Ok, Err}
use Rattle.zarr_codecs_arrays.specs.declared.error.CodecError.{CodecError}
use Rattle.zarr_codecs_meaning.specs.Chains.{Chain, Location}
use Rattle.zarr_codecs_meaning.specs.Encoding.{Pair}
use Rattle.zarr_codecs_meaning.specs.Fits.{is_lossless}
use Rattle.zarr_codecs_meaning.specs.Places.{index_shape, parts_of}
use Rattle.zarr_codecs_meaning.specs.Types.{Cell, uint64}
use Rattle.zarr_codecs_meaning.specs.Standing.{index_layout}
use Rattle.zarr_sharding_changes.specs.Changes.{Change, appended, pairs_after}
use Rattle.zarr_sharding_codec.specs.PartWriting.{AreChanged, Put}
use Rattle.zarr_sharding_partial.specs.Shards.{ShardOf}
use Rattle.zarr_sharding_partial.specs.Puts.{IsWritten, NotWritten, Putting, new_cells}
use Rattle.zarr_sharding_partial.specs.Tables.{IsTold, stored_of}
use Rattle.zarr_sharding_index.specs.Held.{IsOpened, Held, held_as, index_coding}
use Rattle.zarr_sharding_index.specs.Written.{ChangesRefused, IsChanged}
use Rattle.zarr_sharding_index.proofs.Reopened.{reopened}
use Rattle.zarr_sharding_partial.proofs.Known.{same_told}
use Rattle.zarr_sharding_partial.proofs.Refused.{unwritten}

-- the same changes of the same shard
pub changed_as : {A : Type 0} (result : Result A CodecError) (index : Chain) (one : Bool) (location place : Location) (shape pairs_shape : List ℕ) (changes : List Change) (end ended : ℕ) (pairs : List Pair) (old later new : Option (List ℕ))
    → place ≡ location → pairs_shape ≡ shape → old ≡ later → OnOk result (IsChanged (index_coding index one place pairs_shape) changes later end (held_as new pairs ended)) → OnOk result (IsChanged (index_coding index one location shape) changes old end (held_as new pairs ended))
changed_as result index one location place shape pairs_shape changes end ended pairs old later new at_ is same made =
    subst (λ (l : Location). OnOk result (IsChanged (index_coding index one l shape) changes old end (held_as new pairs ended))) at_
    (subst (λ (sh : List ℕ). OnOk result (IsChanged (index_coding index one place sh) changes old end (held_as new pairs ended))) is
    (subst (λ (o : Option (List ℕ)). OnOk result (IsChanged (index_coding index one place pairs_shape) changes o end (held_as new pairs ended))) (sym same) made))

pub refused_as : {A : Type 0} (result : Result A CodecError) (index : Chain) (location place : Location) (shape pairs_shape : List ℕ) (changes : List Change) (end : ℕ) (pairs : List Pair)
    → place ≡ location → pairs_shape ≡ shape → ChangesRefused (index_layout index place pairs_shape) changes end pairs result → ChangesRefused (index_layout index location shape) changes end pairs result
refused_as result index location place shape pairs_shape changes end pairs at_ is why =
    subst (λ (l : Location). ChangesRefused (index_layout index l shape) changes end pairs result) at_
    (subst (λ (sh : List ℕ). ChangesRefused (index_layout index place sh) changes end pairs result) is why)

-- what is known after a call that writes changes
pub record IsAfter {A : Type 0} (result : Result A CodecError) (s : ShardOf) (one : Bool) (changes : List Change) (old new : Held) : Type 0 where
  pub pairs : OnOk result (new.pairs ≡ pairs_after old.end changes old.pairs)
  pub room : OnOk result (old.end + length (appended changes) < 2 ^ 63)
  pub written : OnOk result (IsChanged (index_coding s.index one s.location (index_shape s.shape s.subchunk)) changes old.contents old.end new)
  pub same : OnErr result ((new.pairs ≡ old.pairs) × (new.end ≡ old.end))
  pub err : OnErr result (new.contents ≡ old.contents)

pub after_told : {A : Type 0} (result : Result A CodecError) (s : ShardOf) (one : Bool) (changes : List Change) (old new : Held) → IsAfter result s one changes old new → length old.pairs ≡ length (parts_of s.shape s.subchunk) → is_lossless s.index uint64 ≡ true → IsTold s old → IsTold s new
after_told (Ok value) s one changes old new h count lossless told =
    let shape = index_shape s.shape s.subchunk in
    let many = length (parts_of s.shape s.subchunk) in
    subst (λ (ps : List Pair). IsOpened (index_layout s.index s.location shape) many new.contents ps new.end) (sym h.pairs)
    (reopened s.index one s.location shape changes many old.end new.end old.pairs old.contents new.contents lossless count h.room told
    (subst (λ (ps : List Pair). IsChanged (index_coding s.index one s.location shape) changes old.contents old.end (held_as new.contents ps new.end)) h.pairs h.written))
after_told (Err e) s one changes old new h count lossless told = same_told s old new h.same.0 h.same.1 h.err told

pub after_written : {A : Type 0} (result : Result A CodecError) (put : Putting) (cells : List Cell) (changes : List Change) (old new : Held) → IsAfter result put.shard put.one changes old new → AreChanged (stored_of put.shard put.exact old) (new_cells put cells) changes → OnOk result (IsWritten put cells old new)
after_written (Ok value) put cells changes old new h changed = record {
  changes = changes;
  changed = changed;
  room = h.room;
  pairs = h.pairs;
  written = h.written;
}
after_written (Err e) put cells changes old new h changed = tt

pub after_refused : {A : Type 0} (result : Result A CodecError) (s : ShardOf) (exact : Bool) (new_cells : Put) (changes : List Change) (old : Held) → AreChanged (stored_of s exact old) new_cells changes
    → ChangesRefused (index_layout s.index s.location (index_shape s.shape s.subchunk)) changes old.end (pairs_after old.end changes old.pairs) result → IfErr result (NotWritten s exact new_cells old)
after_refused (Ok value) s exact new_cells changes old changed why = tt
after_refused {A} (Err e) s exact new_cells changes old changed why = unwritten A s exact new_cells old changes e changed why

-- what is held is the same where its parts are
pub held_same : (contents others : Option (List ℕ)) (pairs made : List Pair) (end ended : ℕ) → contents ≡ others → pairs ≡ made → end ≡ ended → held_as contents pairs end ≡ held_as others made ended
held_same contents others pairs made end ended one two three =
    ap (λ (o : Option (List ℕ)). held_as o pairs end) one ∙ (ap (λ (ps : List Pair). held_as others ps end) two ∙ ap (held_as others made) three)

pub left_same : {A : Type 0} (result : Result A CodecError) (contents others : Option (List ℕ)) (pairs made : List Pair) (end ended : ℕ) → OnErr result (contents ≡ others) → OnErr result ((pairs ≡ made) × (end ≡ ended)) → OnErr result (held_as contents pairs end ≡ held_as others made ended)
left_same (Ok value) contents others pairs made end ended one two = tt
left_same (Err e) contents others pairs made end ended one two = held_same contents others pairs made end ended one two.0 two.1
