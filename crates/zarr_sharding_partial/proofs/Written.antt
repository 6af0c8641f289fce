-- New cells were put at places of an array: what is said of the changes is said of each subchunk and of the table.
use Rattle.std.proofs.Common.{◌≡◌, ◌∙◌, inl, inr, ℕ, ◌+◌, ◌<◌, ◌^◌, List, [], ◌∷◌, ◌++◌, length, get_or, ap, sym, refl, subst, arith, Bool, true, Option, Some, None, unwrap_or}
use Rattle.std.specs.Prelude.{nat_lt}
use Rattle.std.specs.List.{list_all}
use Rattle.zarr_grids_boxes.specs.Boxes.{product}
use Rattle.zarr_codecs_meaning.specs.Decoding.{is_absent, slice_at}
use Rattle.zarr_codecs_meaning.specs.Encoding.{Pair, absent_pair, pair_at}
use Rattle.zarr_codecs_meaning.specs.Fits.{fits, is_lossless}
use Rattle.zarr_codecs_meaning.specs.Laws.{IsLawfulChain}
use Rattle.zarr_codecs_meaning.specs.Payloads.{Payload}
use Rattle.zarr_codecs_meaning.specs.Places.{index_shape, parts_of}
use Rattle.zarr_codecs_meaning.specs.Standing as standing
use Rattle.zarr_codecs_meaning.specs.Types.{Cell, is_value, uint64}
use Rattle.zarr_codecs_meaning.specs.Standing.{index_layout}
use Rattle.zarr_codecs_meaning.proofs.Shards.{is_present}
use Rattle.zarr_codecs_traits.specs.Indexers.{Asked, numbers_asked}
use Rattle.zarr_codecs_traits.specs.Arrays.{coded, update_of}
use Rattle.zarr_codecs_traits.specs.PartWriting.{IsEncodedInto}
use Rattle.zarr_sharding_changes.specs.Changes.{Change, appended, pairs_after}
use Rattle.zarr_sharding_index.specs.Held.{IsOpened, Held, held_as, index_coding}
use Rattle.zarr_sharding_index.specs.Written.{IsChanged}
use Rattle.zarr_sharding_index.proofs.Counts.{changed_count}
use Rattle.zarr_sharding_index.proofs.Reopened.{reopened}
use Rattle.zarr_sharding_codec.specs.Appending.{IsTestedPart}
use Rattle.zarr_sharding_codec.specs.PartWriting.{AreUpdated, HasChange, IsMet, Put, Stored, cells_held, cells_put, shape_in}
use Rattle.zarr_sharding_codec.specs.Slices.{IsPieceStored}
use Rattle.zarr_sharding_codec.proofs.ChangedPairs.{IsPairNew, pair_cases}
use Rattle.zarr_sharding_codec.proofs.PartStands.{IsAppended}
use Rattle.zarr_sharding_codec.proofs.PartWritten.{part_encoded}
use Rattle.zarr_sharding_partial.specs.Pairs.{index_length}
use Rattle.zarr_sharding_partial.specs.Shards.{ShardOf, chain_of}
use Rattle.zarr_sharding_partial.specs.Puts.{HasSlice, IsGiven, IsKept, IsPut, IsPutInto, IsWritten, Putting}
use Rattle.zarr_sharding_partial.specs.Tables.{IsTold, put_of, stored_of}
use Rattle.zarr_sharding_partial.proofs.KeptSlices.{are_at, base, kept_data, new_has, slice_after, slice_stays}

-- valid elements are given for places of the array of a shard that is known
pub record IsReady (s : ShardOf) (asked : Asked) (payload : Payload) (cells : List Cell) (old : Held) : Type 0 where
  pub lawful : IsLawfulChain (chain_of s)
  pub fill : is_value s.elements.type s.elements.fill ≡ true
  pub fit : fits (chain_of s) s.elements.type s.shape ≡ true
  pub small : product s.shape < 2 ^ 63
  pub count : length old.pairs ≡ length (parts_of s.shape s.subchunk)
  pub told : IsTold s old
  pub below : list_all (λ n. nat_lt n (product s.shape)) (numbers_asked s.shape asked) ≡ true
  pub given : IsGiven s.elements s.shape asked payload cells

-- a subchunk that is changed is there
changed_below : (stored : Stored) (new_cells : Put) (changes : List Change) (k : ℕ) → AreUpdated stored new_cells changes → HasChange k changes → k < length stored.pairs
changed_below stored new_cells [] k are has = absurd has
changed_below stored new_cells (change ∷ changes) k are (inl same) = subst (λ j. j < length stored.pairs) same are.0.below
changed_below stored new_cells (change ∷ changes) k are (inr has) = changed_below stored new_cells changes k are.1 has

module _ (put : Putting) (cells : List Cell) (old new : Held) (h : IsReady put.shard put.asked put.payload cells old) (w : IsWritten put cells old new) where
  abbrev s : ShardOf
  s = put.shard

  abbrev exact : Bool
  exact = put.exact

  abbrev one : Bool
  one = put.one

  abbrev asked : Asked
  asked = put.asked

  abbrev payload : Payload
  payload = put.payload

  abbrev tested : IsTestedPart (coded (chain_of s) s.elements s.shape) asked payload (index_length s) (numbers_asked s.shape asked)
  tested = record {
    cells = cells;
    valid = h.given.valid;
    fit = h.fit;
    inside = h.given.inside;
    small = h.small;
    numbers_are = refl;
    below = h.below;
    size_is = refl;
  }

  abbrev after : List Pair
  after = pairs_after old.end w.changes old.pairs

  abbrev is_appended : IsAppended s.subchunk s.inner s.index s.location exact one s.elements s.shape (numbers_asked s.shape asked) cells old.contents new.contents
  is_appended = record {
    lawful = h.lawful;
    fit = h.fit;
    fill = h.fill;
    values = h.given.valid.values;
    many = h.given.valid.is.many;
    below = h.below;
    pairs = old.pairs;
    end = old.end;
    ended = new.end;
    changes = w.changes;
    count = h.count;
    opened = h.told;
    changed = w.changed;
    room = w.room;
    written = subst (λ (ps : List Pair). IsChanged (index_coding s.index one s.location (index_shape s.shape s.subchunk)) w.changes old.contents old.end (held_as new.contents ps new.end)) w.pairs w.written;
  }

  is_told : is_lossless s.index uint64 ≡ true → IsTold s new
  is_told lossless =
      subst (λ (ps : List Pair). IsOpened (index_layout s.index s.location (index_shape s.shape s.subchunk)) (length (parts_of s.shape s.subchunk)) new.contents ps new.end) (sym w.pairs)
      (reopened s.index one s.location (index_shape s.shape s.subchunk) w.changes (length (parts_of s.shape s.subchunk)) old.end new.end old.pairs old.contents new.contents lossless h.count w.room h.told is_appended.written)

  -- the slice of a changed subchunk
  new_slice : (k : ℕ) → k < length old.pairs → (n : IsPairNew old.end w.changes after k) → (slice : Option (List ℕ)) → n.change.1 ≡ slice → HasSlice new.contents (get_or new.pairs k absent_pair) slice
  new_slice k low n None e = ap (λ (ps : List Pair). get_or ps k absent_pair) w.pairs ∙ (n.is ∙ ap (pair_at (old.end + length (appended n.front))) e)
  new_slice k low n (Some slice) e =
      let first = base s.subchunk s.inner s.index s.location exact one s.elements s.shape (numbers_asked s.shape asked) cells old.contents new.contents is_appended in
      let «data» = kept_data s.subchunk s.inner s.index s.location exact one s.elements s.shape (numbers_asked s.shape asked) cells old.contents new.contents is_appended ++ appended w.changes in
      let pair : get_or after k absent_pair ≡ (old.end + length (appended n.front), length slice) = n.is ∙ ap (pair_at (old.end + length (appended n.front))) e in
      let has : standing.HasSlice first «data» (get_or after k absent_pair) slice = subst (λ (p : Pair). standing.HasSlice first «data» p slice) (sym pair)
      (new_has s.subchunk s.inner s.index s.location exact one s.elements s.shape (numbers_asked s.shape asked) cells old.contents new.contents is_appended (k, n) slice e) in
      let count = changed_count old.end w.changes old.pairs in
      let found = slice_after s.subchunk s.inner s.index s.location exact one s.elements s.shape (numbers_asked s.shape asked) cells old.contents new.contents is_appended k slice (omega (arith, low, count)) has in
      let same = ap (λ (ps : List Pair). get_or ps k absent_pair) w.pairs in
      (ap is_absent same ∙ is_present first «data» (get_or after k absent_pair) slice has, ap (slice_at (unwrap_or new.contents [])) same ∙ found)

  -- a subchunk that is met
  is_met : (k : ℕ) → IsMet (put_of s asked cells) k → IsPut put cells old new k
  is_met k m =
      let has = subst (λ j. HasChange j w.changes) m.is (w.changed.all m.at_ m.below) in
      let low = changed_below (stored_of s exact old) (put_of s asked cells) w.changes k w.changed.are has in
      elim (pair_cases w.changes old.end old.pairs k low) [
        | inl n ↦
            let is = are_at (stored_of s exact old) (put_of s asked cells) n.front n.back n.change (subst (AreUpdated (stored_of s exact old) (put_of s asked cells)) n.all w.changed.are) in
            record {
              before = is.before;
              held = ap (λ j. cells_held (stored_of s exact old) (shape_in (put_of s asked cells) j) j) (sym n.number) ∙ is.held;
              slice = n.change.1;
              stored = subst (λ j. IsPieceStored s.inner exact s.elements (shape_in (put_of s asked cells) j, cells_put (put_of s asked cells) j is.before) n.change.1) n.number is.slice;
              has = new_slice k low n n.change.1 refl;
            }
        | inr kept ↦ absurd (kept.none has)
      ]

  -- one that isn't
  is_kept : (k : ℕ) → k < length old.pairs → ¬ IsMet (put_of s asked cells) k → IsKept old new k
  is_kept k low other = elim (pair_cases w.changes old.end old.pairs k low) [
    | inl n ↦
        let is = are_at (stored_of s exact old) (put_of s asked cells) n.front n.back n.change (subst (AreUpdated (stored_of s exact old) (put_of s asked cells)) n.all w.changed.are) in
        absurd (other (subst (IsMet (put_of s asked cells)) n.number is.met))
    | inr kept ↦
        let same = ap (λ (ps : List Pair). get_or ps k absent_pair) w.pairs in
        record {
          pair = same ∙ kept.is;
          slice = λ there.
              ap (slice_at (unwrap_or new.contents [])) same
              ∙ slice_stays s.subchunk s.inner s.index s.location exact one s.elements s.shape (numbers_asked s.shape asked) cells old.contents new.contents is_appended k low kept.is there;
        }
  ]

  is_encoded : IsEncodedInto (coded (chain_of s) s.elements s.shape) exact (update_of asked payload old.contents) cells new.contents
  is_encoded = part_encoded s.subchunk s.inner s.index s.location exact one exact s.elements s.shape asked payload (index_length s) (numbers_asked s.shape asked) old.contents new.contents tested is_appended (λ e. e)

  pub put_into : IsPutInto put cells old new
  put_into = record {
    given = h.given;
    is = w;
    table = is_encoded.shows;
    encoded = is_encoded;
    met = is_met;
    others = is_kept;
    told = is_told;
  }
