-- What a write in part leaves of a shard: the subchunks that the write meets changed, and their slices were appended.
use Rattle.std.proofs.Common.{◌≡◌, ◌∙◌, inl, inr, ℕ, zero, suc, ◌+◌, ◌<◌, ◌^◌, List, [], ◌∷◌, ◌++◌, length, get_or, ap, sym, subst, arith, Option, Some, None, option_map, Bool, true, false, MatchOption}
use Rattle.std.proofs.lemmas.Bool.{eq-eqb, eqb-true}
use Rattle.std.specs.Prelude.{nat_lt}
use Rattle.std.specs.List.{list_all}
use Rattle.zarr_grids_boxes.specs.Boxes.{product}
use Rattle.zarr_codecs_meaning.specs.Chains.{Chain, Location, sharded}
use Rattle.zarr_codecs_meaning.specs.Encoding.{Pair, Piece, base_of, index_size, piece_of}
use Rattle.zarr_codecs_meaning.specs.Fits.{can_cut, is_lossless}
use Rattle.zarr_codecs_meaning.specs.Payloads.{Payload}
use Rattle.zarr_codecs_meaning.specs.Places.{index_shape, parts_of}
use Rattle.zarr_codecs_meaning.specs.Types.{Cell, Elements, is_fill, uint64}
use Rattle.zarr_codecs_meaning.specs.Standing.{index_layout}
use Rattle.zarr_codecs_meaning.proofs.Parts.{no_part}
use Rattle.zarr_codecs_regions.proofs.Puts.{number_below}
use Rattle.zarr_codecs_traits.specs.Indexers.{Asked, numbers_asked}
use Rattle.zarr_codecs_traits.specs.PartWriting as writing
use Rattle.zarr_codecs_traits.specs.PartWriting.{AreMet, AreNewSlices, IsNewSlice, NewSlicesMade, after_write, is_met, part_at}
use Rattle.zarr_codecs_traits.specs.Arrays.{coded}
use Rattle.zarr_sharding_changes.specs.Changes.{Change, appended, pairs_after}
use Rattle.zarr_sharding_changes.specs.Compaction.{data_in}
use Rattle.zarr_sharding_changes.specs.HeldShards.{HoldsShard, IsAppendedTo, held_in, held_shard}
use Rattle.zarr_sharding_places.specs.Locating.{subchunk_of}
use Rattle.zarr_sharding_index.specs.Held.{IsOpened, held_as, index_coding}
use Rattle.zarr_sharding_index.specs.Written.{IsChanged}
use Rattle.zarr_sharding_index.proofs.Reopened.{data_of, opened_ends, reopened, split_after}
use Rattle.zarr_sharding_index.proofs.Stands.{data_read}
use Rattle.zarr_sharding_codec.specs.Appending.{IsTestedPart}
use Rattle.zarr_sharding_codec.specs.PartWriting.{AreChanged, AreUpdated, HasChange, IsMet, IsUpdated, Put, Stored, number_at, put_at, stored_in}
use Rattle.zarr_sharding_codec.specs.Slices.{IsPieceStored}
use Rattle.zarr_sharding_codec.proofs.MetParts.{place_met}
use Rattle.zarr_sharding_codec.proofs.PartIntact.{meets_part, met_by}
use Rattle.zarr_sharding_codec.proofs.PartShown.{IsShardOpened}
use Rattle.zarr_sharding_codec.proofs.PartAfter.{after_part}

-- ---- what is stored then

-- what opening a shard told is what was stored
pub held_opened : (subchunk : List ℕ) (index : Chain) (location : Location) (shape : List ℕ) (end : ℕ) (old : Option (List ℕ)) (pairs : List Pair) → IsOpened (index_layout index location (index_shape shape subchunk)) (length (parts_of shape subchunk)) old pairs end
    → held_in subchunk index location shape old ≡ Some (held_shard pairs (data_of location (index_size index (index_shape shape subchunk)) old))
held_opened subchunk index location shape end None pairs opened = ap (λ (ps : List Pair). Some (held_shard ps [])) (sym opened.0)
held_opened subchunk index location shape end (Some value) pairs opened =
    ap (option_map (λ (ps : List Pair). held_shard ps (data_in location (index_size index (index_shape shape subchunk)) value))) opened.0

module _ (subchunk : List ℕ) (index : Chain) (exact : Bool) (location : Location) (shape : List ℕ) (changes : List Change) (end : ℕ) (old : Option (List ℕ)) (pairs : List Pair)
    (opened : IsOpened (index_layout index location (index_shape shape subchunk)) (length (parts_of shape subchunk)) old pairs end) where
  abbrev size_is : ℕ
  size_is = index_size index (index_shape shape subchunk)

  -- what is stored after the changes holds the pairs and the data part with them
  holds_changed : (new : Option (List ℕ)) (ended : ℕ) → is_lossless index uint64 ≡ true → length pairs ≡ length (parts_of shape subchunk) → end + length (appended changes) < 2 ^ 63
      → IsChanged (index_coding index exact location (index_shape shape subchunk)) changes old end (held_as new (pairs_after end changes pairs) ended)
      → HoldsShard (held_in subchunk index location shape) (held_shard (pairs_after end changes pairs) (data_of location size_is old ++ appended changes)) new
  holds_changed new ended keeps many room (inl erased) =
      subst (λ (o : Option (List ℕ)). HoldsShard (held_in subchunk index location shape) (held_shard (pairs_after end changes pairs) (data_of location size_is old ++ appended changes)) o) (sym erased.1) erased.0
  holds_changed new ended keeps many room (inr h) =
      let pairs_shape = index_shape shape subchunk in
      let count = length (parts_of shape subchunk) in
      let made = pairs_after end changes pairs in
      let «data» = data_of location size_is old ++ appended changes in
      let after = split_after index exact location pairs_shape changes count end ended pairs made old new opened h in
      let anew = reopened index exact location pairs_shape changes count end ended pairs old new keeps many room opened (inr h) in
      let found : IsOpened (index_layout index location pairs_shape) count (Some after.value) made ended = subst (λ (o : Option (List ℕ)). IsOpened (index_layout index location pairs_shape) count o made ended) after.is anew in
      let read : data_in location size_is after.value ≡ «data» = data_read location size_is after.split.index «data» after.value after.split.long after.split.is in
      subst (λ (o : Option (List ℕ)). HoldsShard (held_in subchunk index location shape) (held_shard made «data») o) (sym after.is)
      (h.some, ap (option_map (λ (ps : List Pair). held_shard ps (data_in location size_is after.value))) found.0 ∙ ap (λ (bytes : List ℕ). Some (held_shard made bytes)) read)

  pub appended_to : (new : Option (List ℕ)) (ended : ℕ) → is_lossless index uint64 ≡ true → length pairs ≡ length (parts_of shape subchunk) → end + length (appended changes) < 2 ^ 63
      → IsChanged (index_coding index exact location (index_shape shape subchunk)) changes old end (held_as new (pairs_after end changes pairs) ended) → IsAppendedTo (held_in subchunk index location shape) (base_of location (index_size index (index_shape shape subchunk))) changes old new
  appended_to new ended keeps many room written =
      let «data» = data_of location size_is old in
      let ends = opened_ends index location (index_shape shape subchunk) (length (parts_of shape subchunk)) end old pairs opened in
      record {
        held = held_shard pairs «data»;
        was = held_opened subchunk index location shape end old pairs opened;
        is = subst (λ n. HoldsShard (held_in subchunk index location shape) (held_shard (pairs_after n changes pairs) («data» ++ appended changes)) new) ends (holds_changed new ended keeps many room written);
      }

-- ---- the subchunks that a write meets

-- each of several changes is an update
updated_at : (stored : Stored) (new : Put) (changes : List Change) (i : ℕ) → AreUpdated stored new changes → i < length changes → IsUpdated stored new (get_or changes i (0, None))
updated_at stored new [] i are low = absurd (omega (arith, low))
updated_at stored new (change ∷ changes) zero are low = are.0
updated_at stored new (change ∷ changes) (suc i) are low = updated_at stored new changes i are.1 (omega (arith, low))

-- where the change of a subchunk stands
change_at : (changes : List Change) (k : ℕ) → HasChange k changes → (i : ℕ) × (i < length changes) × (number_at changes i ≡ k)
change_at [] k has = absurd has
change_at (change ∷ changes) k (inl same) = (0, omega arith, same)
change_at (change ∷ changes) k (inr has) = let rest = change_at changes k has in let low = rest.1 in (suc rest.0, omega (arith, low), rest.2)

-- a subchunk that one of the places lies in is met
pub is_met_at : (shape subchunk numbers : List ℕ) (cells : List Cell) (k : ℕ) → can_cut shape subchunk ≡ true → k < length (parts_of shape subchunk) → list_all (λ n. nat_lt n (product shape)) numbers ≡ true → IsMet (put_at shape subchunk numbers cells) k
    → is_met numbers (get_or (parts_of shape subchunk) k no_part) ≡ true
is_met_at shape subchunk numbers cells k cuts there below met =
    let n = get_or numbers met.at_ 0 in
    meets_part numbers (get_or (parts_of shape subchunk) k no_part) met.at_ met.below (place_met shape subchunk k n cuts there (number_below (product shape) numbers met.at_ below met.below) ∙ eq-eqb (subchunk_of shape subchunk n) k met.is)

pub are_met : (shape subchunk numbers : List ℕ) (cells : List Cell) (stored : Stored) (changes : List Change) → can_cut shape subchunk ≡ true → length stored.pairs ≡ length (parts_of shape subchunk) → list_all (λ n. nat_lt n (product shape)) numbers ≡ true
    → AreChanged stored (put_at shape subchunk numbers cells) changes → writing.AreMet numbers (parts_of shape subchunk) changes
are_met shape subchunk numbers cells stored changes cuts many below changed =
    let new = put_at shape subchunk numbers cells in
    record {
      below = λ i low. let under = (updated_at stored new changes i changed.are low).below in omega (arith, under, many);
      met = λ i low.
          let updated = updated_at stored new changes i changed.are low in
          let under = updated.below in
          is_met_at shape subchunk numbers cells (number_at changes i) cuts (omega (arith, under, many)) below updated.met;
      rising = changed.once;
      all = λ k low met.
          let by = met_by numbers (get_or (parts_of shape subchunk) k no_part) met in
          let n = get_or numbers by.at_ 0 in
          let here = sym (place_met shape subchunk k n cuts low (number_below (product shape) numbers by.at_ below by.below)) ∙ by.inside in
          change_at changes k (subst (λ j. HasChange j changes) (eqb-true (subchunk_of shape subchunk n) k here) (changed.all by.at_ by.below));
    }

-- ---- their new slices

pub new_slice : (inner : Chain) (exact : Bool) (elements : Elements) (piece : Piece) (slice : Option (List ℕ)) → IsPieceStored inner exact elements piece slice
    → MatchOption slice (is_fill elements.fill piece.1 ≡ true) (λ (found : List ℕ). (is_fill elements.fill piece.1 ≡ false) × IsNewSlice inner elements piece.0 piece.1 found)
new_slice inner exact elements piece None is = is
new_slice inner exact elements piece (Some slice) is = (is.some, record { made = is.made; sized = is.sized; gapless = is.gapless })

pub new_slices : (subchunk : List ℕ) (inner index : Chain) (location : Location) (exact : Bool) (elements : Elements) (shape : List ℕ) (asked : Asked) (payload : Payload) (size : ℕ) (numbers : List ℕ) (old : Option (List ℕ)) (pairs : List Pair) (changes : List Change)
    → (tested : IsTestedPart (coded (sharded subchunk inner index location) elements shape) asked payload size numbers) → IsShardOpened subchunk inner index location elements shape old pairs → AreChanged (stored_in inner exact elements old pairs) (put_at shape subchunk numbers tested.cells) changes
    → NewSlicesMade (IsNewSlice inner elements) elements.fill (writing.cells_after (coded (sharded subchunk inner index location) elements shape) old (numbers_asked shape asked) tested.cells) (parts_of shape subchunk) changes
new_slices subchunk inner index location exact elements shape asked payload size numbers old pairs changes tested opened changed = λ i low.
    let new = put_at shape subchunk numbers tested.cells in
    let stored = stored_in inner exact elements old pairs in
    let change = get_or changes i (0, None) in
    let updated = updated_at stored new changes i changed.are low in
    let after = writing.cells_after (coded (sharded subchunk inner index location) elements shape) old (numbers_asked shape asked) tested.cells in
    let here = after_part subchunk inner index location elements shape asked payload size numbers old pairs tested opened change.0 updated.before updated.below updated.held in
    new_slice inner exact elements (piece_of elements.fill after (part_at (parts_of shape subchunk) changes i)) change.1
    (subst (λ (piece : Piece). IsPieceStored inner exact elements piece change.1) (sym here) updated.slice)

-- what a write changes in a shard
pub are_new_slices : (subchunk : List ℕ) (inner index : Chain) (location : Location) (exact : Bool) (elements : Elements) (shape : List ℕ) (asked : Asked) (payload : Payload) (size : ℕ) (numbers : List ℕ) (old : Option (List ℕ)) (pairs : List Pair) (changes : List Change)
    → (tested : IsTestedPart (coded (sharded subchunk inner index location) elements shape) asked payload size numbers) → IsShardOpened subchunk inner index location elements shape old pairs → AreChanged (stored_in inner exact elements old pairs) (put_at shape subchunk numbers tested.cells) changes
    → AreNewSlices inner elements (parts_of shape subchunk) (after_write (numbers_asked shape asked) old (writing.cells_after (coded (sharded subchunk inner index location) elements shape) old (numbers_asked shape asked) tested.cells)) changes
are_new_slices subchunk inner index location exact elements shape asked payload size numbers old pairs changes tested opened changed =
    record {
      met = subst (λ (ns : List ℕ). AreMet ns (parts_of shape subchunk) changes) tested.numbers_are (are_met shape subchunk numbers tested.cells (stored_in inner exact elements old pairs) changes opened.cuts opened.many tested.below changed);
      made = new_slices subchunk inner index location exact elements shape asked payload size numbers old pairs changes tested opened changed;
    }
