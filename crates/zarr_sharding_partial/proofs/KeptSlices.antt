-- The slices of a shard after changes were written: those that were appended, and those that stay.
use Rattle.std.proofs.Common.{◌≡◌, ◌∙◌, inl, inr, ℕ, zero, suc, ◌+◌, ◌-◌, ◌<◌, ◌^◌, List, [], ◌∷◌, ◌++◌, length, get_or, take, drop, ap, sym, refl, subst, arith, Bool, true, false, Option, Some, None, unwrap_or, append_assoc, length-append}
use Rattle.std.proofs.lemmas.Bool.{and_parts}
use Rattle.std.specs.List.{list_all}
use Rattle.zarr_codecs_meaning.specs.Chains.{Chain, Location}
use Rattle.zarr_codecs_meaning.specs.Decoding.{is_absent, slice_at}
use Rattle.zarr_codecs_meaning.specs.Encoding.{Pair, absent_pair, base_of, index_size, slice_bytes}
use Rattle.zarr_codecs_meaning.specs.Places.{index_shape, parts_of}
use Rattle.zarr_codecs_meaning.specs.Standing.{HasSlice, index_layout}
use Rattle.zarr_codecs_meaning.specs.Types.{Cell, Elements}
use Rattle.zarr_codecs_meaning.proofs.Shards.{is_present, slice_found}
use Rattle.zarr_sharding_changes.specs.Changes.{Change, appended, pairs_after}
use Rattle.zarr_sharding_changes.specs.Compaction.{data_in}
use Rattle.zarr_sharding_changes.proofs.Appending.{slice_grown}
use Rattle.zarr_sharding_index.specs.Held.{IsOpened, are_absent, lies_between}
use Rattle.zarr_sharding_index.proofs.Counts.{changed_count}
use Rattle.zarr_sharding_index.proofs.Reopened.{AllLie, IsSplitAfter, data_of, opened_ends, opened_lies, opened_split, pair_has_slice, split_after}
use Rattle.zarr_sharding_codec.specs.PartWriting.{AreUpdated, IsUpdated, Put, Stored}
use Rattle.zarr_sharding_codec.proofs.ChangedPairs.{IsPairNew, appended_split}
use Rattle.zarr_sharding_codec.proofs.PartShown.{absent_at}
use Rattle.zarr_sharding_codec.proofs.PartStands.{IsAppended}

lies_at : (base end : ℕ) (pairs : List Pair) (k : ℕ) → AllLie base end pairs → k < length pairs → lies_between base end (get_or pairs k absent_pair) ≡ true
lies_at base end [] k all low = absurd (omega (arith, low))
lies_at base end (p ∷ ps) zero all low = (and_parts (lies_between base end p) (list_all (lies_between base end) ps) all).0
lies_at base end (p ∷ ps) (suc k) all low = lies_at base end ps k (and_parts (lies_between base end p) (list_all (lies_between base end) ps) all).1 (omega (arith, low))

-- one of several changes
pub are_at : (stored : Stored) (new : Put) (front back : List Change) (change : Change) → AreUpdated stored new (front ++ change ∷ back) → IsUpdated stored new change
are_at stored new [] back change are = are.0
are_at stored new (c ∷ front) back change are = are_at stored new front back change are.1

module _ (subchunk : List ℕ) (inner index : Chain) (location : Location) (exact one : Bool) (elements : Elements) (shape numbers : List ℕ) (cells : List Cell) (old new : Option (List ℕ)) (h : IsAppended subchunk inner index location exact one elements shape numbers cells old new) where
  abbrev pub base : ℕ
  base = base_of location (index_size index (index_shape shape subchunk))

  abbrev pub made : List Pair
  made = pairs_after h.end h.changes h.pairs

  abbrev pub kept_data : List ℕ
  kept_data = data_of location (index_size index (index_shape shape subchunk)) old

  low_end : h.end < 2 ^ 63
  low_end = let room = h.room in omega (arith, room)

  -- where a pair is present, there is a value
  present_value : (k : ℕ) → k < length made → is_absent (get_or made k absent_pair) ≡ false → IsSplitAfter index location (index_shape shape subchunk) new made (kept_data ++ appended h.changes) h.ended
  present_value k low there = elim h.written [
    | inl erased ↦ let gone = absent_there made k erased.0 low in absurd (cc)
    | inr is ↦ split_after index one location (index_shape shape subchunk) h.changes (length (parts_of shape subchunk)) h.end h.ended h.pairs made old new h.opened is
  ] where
    absent_there : (pairs : List Pair) (k : ℕ) → are_absent pairs ≡ true → k < length pairs → is_absent (get_or pairs k absent_pair) ≡ true
    absent_there [] k all low = refl
    absent_there (p ∷ ps) zero all low = (and_parts (is_absent p) (list_all is_absent ps) all).0
    absent_there (p ∷ ps) (suc k) all low = absent_there ps k (and_parts (is_absent p) (list_all is_absent ps) all).1 (omega (arith, low))

  -- a slice of the new data part is read by its pair
  pub slice_after : (k : ℕ) (slice : List ℕ) → k < length made → HasSlice base (kept_data ++ appended h.changes) (get_or made k absent_pair) slice → slice_at (unwrap_or new []) (get_or made k absent_pair) ≡ Some slice
  slice_after k slice low has =
      let p = get_or made k absent_pair in
      let after = present_value k low (is_present base (kept_data ++ appended h.changes) p slice has) in
      ap (λ (o : Option (List ℕ)). slice_at (unwrap_or o []) p) after.is
      ∙ slice_found location base after.split.index (kept_data ++ appended h.changes) after.value p slice after.split.is (ap (base_of location) (sym after.split.long)) has

  -- one that was there
  slice_before : (k : ℕ) → k < length h.pairs → is_absent (get_or h.pairs k absent_pair) ≡ false → (slice : List ℕ) × HasSlice base kept_data (get_or h.pairs k absent_pair) slice × (slice_at (unwrap_or old []) (get_or h.pairs k absent_pair) ≡ Some slice)
  slice_before k low there =
      let p = get_or h.pairs k absent_pair in
      let slice = take p.1 (drop (p.0 - base) kept_data) in
      let lies = lies_at base h.end h.pairs k (opened_lies index location (index_shape shape subchunk) (length (parts_of shape subchunk)) h.end old h.pairs h.opened) low in
      let has = pair_has_slice base h.end kept_data p (opened_ends index location (index_shape shape subchunk) (length (parts_of shape subchunk)) h.end old h.pairs h.opened) low_end lies there in
      (slice, has, by_stored old h.opened has there) where
        by_stored : (o : Option (List ℕ)) → IsOpened (index_layout index location (index_shape shape subchunk)) (length (parts_of shape subchunk)) o h.pairs h.end
            → HasSlice base (data_of location (index_size index (index_shape shape subchunk)) o) (get_or h.pairs k absent_pair) (take (get_or h.pairs k absent_pair).1 (drop ((get_or h.pairs k absent_pair).0 - base) kept_data))
            → is_absent (get_or h.pairs k absent_pair) ≡ false → slice_at (unwrap_or o []) (get_or h.pairs k absent_pair) ≡ Some (take (get_or h.pairs k absent_pair).1 (drop ((get_or h.pairs k absent_pair).0 - base) kept_data))
        by_stored None opened has there =
            let gone : is_absent (get_or h.pairs k absent_pair) ≡ true = ap (λ (ps : List Pair). is_absent (get_or ps k absent_pair)) opened.0 ∙ ap is_absent (absent_at (length (parts_of shape subchunk)) k) in
            absurd (cc)
        by_stored (Some value) opened has there =
            let split = opened_split index location (index_shape shape subchunk) (length (parts_of shape subchunk)) h.end value h.pairs opened in
            slice_found location base split.index (data_in location (index_size index (index_shape shape subchunk)) value) value (get_or h.pairs k absent_pair) (take (get_or h.pairs k absent_pair).1 (drop ((get_or h.pairs k absent_pair).0 - base) kept_data))
            split.is (ap (base_of location) (sym split.long)) has

  -- a subchunk that isn't changed keeps its slice
  pub slice_stays : (k : ℕ) → k < length h.pairs → get_or made k absent_pair ≡ get_or h.pairs k absent_pair → is_absent (get_or h.pairs k absent_pair) ≡ false
      → slice_at (unwrap_or new []) (get_or made k absent_pair) ≡ slice_at (unwrap_or old []) (get_or h.pairs k absent_pair)
  slice_stays k low same there =
      let before = slice_before k low there in
      let count = changed_count h.end h.changes h.pairs in
      let grown = slice_grown base kept_data (appended h.changes) (get_or h.pairs k absent_pair) before.0 before.1 in
      slice_after k before.0 (omega (arith, low, count)) (subst (λ (p : Pair). HasSlice base (kept_data ++ appended h.changes) p before.0) (sym same) grown) ∙ sym before.2

  pub new_has : (new_is : (k : ℕ) × IsPairNew h.end h.changes made k) (slice : List ℕ) → new_is.1.change.1 ≡ Some slice → HasSlice base (kept_data ++ appended h.changes) (h.end + length (appended new_is.1.front), length slice) slice
  new_has new_is slice is =
      let n = new_is.1 in
      let front = appended n.front in
      let back = appended n.back in
      let cut = ap appended n.all ∙ (appended_split n.front n.back n.change ∙ ap (λ (o : Option (List ℕ)). front ++ (slice_bytes o ++ back)) is) in
      let ends = opened_ends index location (index_shape shape subchunk) (length (parts_of shape subchunk)) h.end old h.pairs h.opened in
      let room = h.room in
      let one_count = length-append front (slice ++ back) in
      let two_count = length-append slice back in
      let all = ap (λ (l : List ℕ). length l) cut in
      let start = length-append kept_data front in
      record {
        before = kept_data ++ front;
        after = back;
        is = ap (λ (l : List ℕ). kept_data ++ l) cut ∙ sym (append_assoc kept_data front (slice ++ back));
        begins = omega (arith, ends, start);
        long = refl;
        low = omega (arith, room, all, one_count, two_count);
      }
