-- A part of an array is appended to its shard: what was read, and what is written then.
use Rattle.std.proofs.Common.{◌≡◌, ◌≤◌, ◌∙◌, ℕ, ◌+◌, ◌*◌, ◌/◌, List, length, ap, sym, subst, arith, Bool, true, Option, Some, IsTrue, IfOk, Result, Err}
use Rattle.zarr_grids_boxes.specs.Boxes.{product}
use Rattle.zarr_codecs_arrays.specs.Outcomes.{IsValid}
use Rattle.zarr_codecs_arrays.specs.declared.error.CodecError.{CodecError}
use Rattle.zarr_codecs_meaning.specs.Chains.{Chain, Location, sharded}
use Rattle.zarr_codecs_meaning.specs.Encoding.{Pair}
use Rattle.zarr_codecs_meaning.specs.Laws.{IsLawfulChain}
use Rattle.zarr_codecs_meaning.specs.Payloads.{Payload}
use Rattle.zarr_codecs_meaning.specs.Places.{index_shape, parts_of}
use Rattle.zarr_codecs_meaning.specs.Types.{Elements, is_value}
use Rattle.zarr_codecs_meaning.specs.Standing.{index_layout}
use Rattle.zarr_codecs_meaning.proofs.Parts.{index_product}
use Rattle.zarr_codecs_traits.specs.Indexers.{Asked, numbers_asked}
use Rattle.zarr_codecs_traits.specs.Arrays.{coded, update_of}
use Rattle.zarr_codecs_traits.specs.PartWriting.{NotEncodedInto}
use Rattle.zarr_codecs_traits.specs.ReadBytes.{most_of_numbers}
use Rattle.zarr_codecs_traits.specs.ShardWrites.{most_to_write}
use Rattle.zarr_codecs_traits.specs.Sources.{value_length}
use Rattle.zarr_sharding_changes.specs.Changes.{Change, pairs_after}
use Rattle.zarr_sharding_index.specs.Held.{IsOpened, shard_length, index_coding}
use Rattle.zarr_sharding_index.specs.Opened.{OpenRefused}
use Rattle.zarr_sharding_index.specs.SliceChanges.{changes_of}
use Rattle.zarr_sharding_index.specs.declared.slice_changes.SliceChange.{SliceChange}
use Rattle.zarr_sharding_codec.specs.Appending.{AppendsChanges, AppendsPart, ChangesUnwritten, IsTestedPart, shard_write}
use Rattle.zarr_sharding_codec.specs.PartWriting.{AreChanged, IsOf, UpdatesSlices, put_at, stored_in}
use Rattle.zarr_sharding_codec.specs.BytesMet.{bytes_met}
use Rattle.zarr_sharding_codec.proofs.MostTaken.{index_taken, opened_taken}
use Rattle.zarr_sharding_codec.proofs.PartLength.{part_appended}
use Rattle.zarr_sharding_codec.proofs.PartWritten.{IsReady, half_index, opened_of, part_not_updated, part_not_written, part_unopened, ready_opened}

-- an index that was opened, by the shape that it was read with
pub record IsRead (subchunk : List ℕ) (inner index : Chain) (location : Location) (elements : Elements) (shape : List ℕ) (asked : Asked) (payload : Payload) (size : ℕ) (numbers pairs_shape given : List ℕ) (old : Option (List ℕ)) (pairs : List Pair) (end : ℕ) : Type 0 where
  pub lawful : IsLawfulChain (sharded subchunk inner index location)
  pub fill : is_value elements.type elements.fill ≡ true
  pub tested : IsTestedPart (coded (sharded subchunk inner index location) elements shape) asked payload size numbers
  pub shape_is : pairs_shape ≡ index_shape shape subchunk
  pub given_is : given ≡ numbers
  pub opened : IsOpened (index_layout index location pairs_shape) (product pairs_shape / 2) old pairs end
  pub many : product pairs_shape ≡ 2 * length pairs

module _ (subchunk : List ℕ) (inner index : Chain) (location : Location) (exact : Bool) (elements : Elements) (shape : List ℕ) (asked : Asked) (payload : Payload) (size : ℕ) (numbers pairs_shape given : List ℕ) (old later : Option (List ℕ)) (pairs : List Pair) (end : ℕ)
    (h : IsRead subchunk inner index location elements shape asked payload size numbers pairs_shape given old pairs end) (same : old ≡ later) where
  read_opened : IsOpened (index_layout index location (index_shape shape subchunk)) (product (index_shape shape subchunk) / 2) old pairs end
  read_opened = subst (λ (s : List ℕ). IsOpened (index_layout index location s) (product s / 2) old pairs end) h.shape_is h.opened

  pub read_count : length pairs ≡ length (parts_of shape subchunk)
  read_count =
      let two = index_product shape subchunk in
      let many = h.many in
      let is = ap product h.shape_is in
      omega (arith, two, many, is)

  pub read_of : IsOf location size later pairs end
  read_of =
      subst (λ (o : Option (List ℕ)). IsOf location size o pairs end) same
      (subst (λ n. IsOf location n old pairs end) (sym h.tested.size_is) (opened_of index location (index_shape shape subchunk) (product (index_shape shape subchunk) / 2) end old pairs read_opened))

  pub read_valid : IsValid elements.type payload (length given) h.tested.cells
  read_valid = subst (λ n. IsValid elements.type payload n h.tested.cells) (ap (λ (ns : List ℕ). length ns) (sym (h.given_is ∙ h.tested.numbers_are))) h.tested.valid

  pub ready_read : (changes : List Change) → AreChanged (stored_in inner exact elements later pairs) (put_at shape subchunk given h.tested.cells) changes → IsReady subchunk inner index location exact elements shape asked payload size numbers old pairs end changes
  ready_read changes changed = record {
    lawful = h.lawful;
    fill = h.fill;
    tested = h.tested;
    count = read_count;
    opened = read_opened;
    changed = subst (λ (o : Option (List ℕ)). AreChanged (stored_in inner exact elements o pairs) (put_at shape subchunk numbers h.tested.cells) changes) (sym same)
        (subst (λ (ns : List ℕ). AreChanged (stored_in inner exact elements later pairs) (put_at shape subchunk ns h.tested.cells) changes) h.given_is changed);
  }

  pub not_updated : (A : Type 0) (e : CodecError) → UpdatesSlices (stored_in inner exact elements later pairs) (put_at shape subchunk given h.tested.cells) (Err e) → NotEncodedInto {A = A} (coded (sharded subchunk inner index location) elements shape) (update_of asked payload old) (Err e)
  not_updated A e why =
      part_not_updated A subchunk inner index location exact elements shape asked payload size numbers old pairs h.tested (ready_opened subchunk inner index location elements shape asked payload size numbers old pairs end h.tested read_count read_opened) h.tested.below e
      (subst (λ (o : Option (List ℕ)). UpdatesSlices (stored_in inner exact elements o pairs) (put_at shape subchunk numbers h.tested.cells) (Err e)) (sym same)
      (subst (λ (ns : List ℕ). UpdatesSlices (stored_in inner exact elements later pairs) (put_at shape subchunk ns h.tested.cells) (Err e)) h.given_is why))

  pub appended_read : (one whole : Bool) (new : Option (List ℕ)) (changes lent : List SliceChange) (result : Result Bool CodecError) → lent ≡ changes → (IsTrue whole → IsTrue exact) → AreChanged (stored_in inner exact elements later pairs) (put_at shape subchunk given h.tested.cells) (changes_of changes)
      → (last : Option (List ℕ)) → old ≡ last → IfOk result (AppendsChanges (index_coding index one location pairs_shape) (shard_write (changes_of lent) end pairs last) new) → IfOk result (AppendsPart (coded (sharded subchunk inner index location) elements shape) whole (update_of asked payload old) new)
  appended_read one whole new changes lent result are to_exact changed last kept made =
      part_appended subchunk inner index location exact elements shape asked payload size numbers old pairs end (changes_of changes) (ready_read (changes_of changes) changed) one whole new result to_exact
      (subst (λ (o : Option (List ℕ)). IfOk result (AppendsChanges (index_coding index one location (index_shape shape subchunk)) (shard_write (changes_of changes) end pairs o) new)) (sym kept)
      (subst (λ (cs : List SliceChange). IfOk result (AppendsChanges (index_coding index one location (index_shape shape subchunk)) (shard_write (changes_of cs) end pairs last) new)) are
      (subst (λ (s : List ℕ). IfOk result (AppendsChanges (index_coding index one location s) (shard_write (changes_of lent) end pairs last) new)) h.shape_is made)))

  pub not_written : (changes : List Change) (result : Result Bool CodecError) → AreChanged (stored_in inner exact elements later pairs) (put_at shape subchunk given h.tested.cells) changes → ChangesUnwritten index pairs_shape (pairs_after end changes pairs) result
      → NotEncodedInto (coded (sharded subchunk inner index location) elements shape) (update_of asked payload old) result
  unfolding ready_read
  not_written changes result changed why =
      let ready = ready_read changes changed in
      part_not_written Bool subchunk inner index location exact elements shape asked payload size numbers old pairs h.tested (ready_opened subchunk inner index location elements shape asked payload size numbers old pairs end h.tested read_count read_opened) h.tested.below end changes result
      (subst (λ n. IsOpened (index_layout index location (index_shape shape subchunk)) n old pairs end) (half_index shape subchunk) read_opened) ready.changed (subst (λ (s : List ℕ). ChangesUnwritten index s (pairs_after end changes pairs) result) h.shape_is why)

  -- how many bytes the value has, if there is one
  read_total : (value : List ℕ) → old ≡ Some value → shard_length location size end ≡ length value
  read_total value held = sym (subst (λ (o : Option (List ℕ)). IsOf location size o pairs end) held (subst (λ (o : Option (List ℕ)). IsOf location size o pairs end) (sym same) read_of))

  -- how many bytes were taken to read the slices
  pub taken_read : (before opened after : ℕ) → opened ≤ before + size → opened ≤ before + value_length old → after ≤ opened + bytes_met shape subchunk numbers pairs (shard_length location size end) → after ≤ before + most_to_write (coded (sharded subchunk inner index location) elements shape) (update_of asked payload old)
  taken_read before opened after first within second =
      subst (λ (ns : List ℕ). after ≤ before + most_of_numbers (sharded subchunk inner index location) elements.type shape old ns) h.tested.numbers_are
      (opened_taken subchunk inner index location elements shape old pairs numbers (shard_length location size end) size before opened after
      (ready_opened subchunk inner index location elements shape asked payload size numbers old pairs end h.tested read_count read_opened) read_total h.tested.below h.tested.size_is first within second)

-- what isn't opened, by the shape that it is read with
pub not_opened : (A : Type 0) (subchunk : List ℕ) (inner index : Chain) (location : Location) (elements : Elements) (shape : List ℕ) (asked : Asked) (payload : Payload) (size : ℕ) (numbers pairs_shape : List ℕ) (old : Option (List ℕ)) (e : CodecError)
    → IsTestedPart (coded (sharded subchunk inner index location) elements shape) asked payload size numbers → pairs_shape ≡ index_shape shape subchunk → OpenRefused index location pairs_shape old e → NotEncodedInto {A = A} (coded (sharded subchunk inner index location) elements shape) (update_of asked payload old) (Err e)
not_opened A subchunk inner index location elements shape asked payload size numbers pairs_shape old e tested is why =
    part_unopened A subchunk inner index location elements shape asked payload size numbers old e tested (subst (λ (s : List ℕ). OpenRefused index location s old e) is why)

-- where the index alone was read
pub taken_unopened : (subchunk : List ℕ) (inner index : Chain) (location : Location) (elements : Elements) (shape : List ℕ) (asked : Asked) (payload : Payload) (size : ℕ) (numbers : List ℕ) (old : Option (List ℕ)) (before after : ℕ)
    → IsTestedPart (coded (sharded subchunk inner index location) elements shape) asked payload size numbers → after ≤ before + size → after ≤ before + value_length old → after ≤ before + most_to_write (coded (sharded subchunk inner index location) elements shape) (update_of asked payload old)
taken_unopened subchunk inner index location elements shape asked payload size numbers old before after tested first within =
    index_taken subchunk inner index location elements.type shape old (numbers_asked shape asked) size before after tested.size_is first within
