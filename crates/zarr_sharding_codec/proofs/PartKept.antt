-- Each place is read as before or as the new cell, also where another one can't be.
use Rattle.std.proofs.Common.{◌≡◌, ◌∙◌, inl, inr, ℕ, zero, suc, ◌+◌, ◌-◌, ◌<◌, ◌^◌, List, [], ◌∷◌, ◌++◌, length, map, get_or, replicate, take, drop, ap, sym, refl, subst, arith, Bool, true, false, ◌==◌, Option, Some, None, option_and_then, unwrap_or, if◌then◌else◌, append_assoc, length-append}
use Rattle.std.proofs.lemmas.Bool.{and_from, and_parts}
use Rattle.std.specs.List.{list_all}
use Rattle.zarr_grids_boxes.specs.Boxes.{product}
use Rattle.zarr_codecs_meaning.specs.Chains.{Chain, Location, sharded}
use Rattle.zarr_codecs_meaning.specs.Decoding.{cell_at, decoded, is_absent, slice_at}
use Rattle.zarr_codecs_meaning.specs.Encoding.{Pair, absent_pair, base_of, index_size, pair_at, slice_bytes}
use Rattle.zarr_codecs_meaning.specs.Fits.{can_cut, is_lossless}
use Rattle.zarr_codecs_meaning.specs.Laws.{AreCells}
use Rattle.zarr_codecs_meaning.specs.Places.{index_shape, parts_of}
use Rattle.zarr_codecs_meaning.specs.Standing.{HasSlice, index_layout}
use Rattle.zarr_codecs_meaning.specs.Types.{Cell, Elements, is_fill, is_value, uint64}
use Rattle.zarr_codecs_meaning.proofs.Fitting.{fitted}
use Rattle.zarr_codecs_meaning.proofs.Meaning.{stands_decoded}
use Rattle.zarr_codecs_meaning.proofs.Shards.{fill_is_replicate, is_present, slice_found}
use Rattle.zarr_codecs_regions.proofs.Shown.{map_put, put_cells}
use Rattle.zarr_codecs_traits.specs.Indexers.{put}
use Rattle.zarr_codecs_traits.specs.PartWriting.{cells_shown}
use Rattle.zarr_codecs_traits.specs.Arrays.{coded}
use Rattle.zarr_sharding_changes.specs.Changes.{Change, appended, pairs_after}
use Rattle.zarr_sharding_changes.specs.Compaction.{data_in}
use Rattle.zarr_sharding_changes.proofs.Appending.{slice_grown}
use Rattle.zarr_sharding_places.specs.Locating.{part_shape, subchunk_of}
use Rattle.zarr_sharding_places.specs.Pieces.{piece_decoded}
use Rattle.zarr_sharding_places.proofs.PutPlaces.{length-put}
use Rattle.zarr_sharding_index.specs.Held.{IsOpened, are_absent, lies_between}
use Rattle.zarr_sharding_index.proofs.Counts.{changed_count}
use Rattle.zarr_sharding_index.proofs.Reopened.{AllLie, IsSplitAfter, data_of, opened_ends, opened_lies, opened_split, pair_has_slice, reopened, split_after}
use Rattle.zarr_sharding_codec.specs.PartWriting.{AreUpdated, HasChange, IsUpdated, Put, Stored, cells_put, given_in, numbers_in, put_at, stored_in}
use Rattle.zarr_sharding_codec.specs.Reading.{place_decoded}
use Rattle.zarr_sharding_codec.specs.Slices.{IsPieceStored}
use Rattle.zarr_sharding_codec.proofs.ChangedPairs.{IsPairKept, IsPairNew, appended_split, pair_cases}
use Rattle.zarr_sharding_codec.proofs.NumberedParts.{part_fits}
use Rattle.zarr_sharding_codec.proofs.GroupWritten.{held_cells}
use Rattle.zarr_sharding_codec.proofs.PartShown.{IsShardOpened, absent_at, alone, piece_shown, pieces_alike, shown_count}
use Rattle.zarr_sharding_codec.proofs.PartStands.{IsAppended, shard_opened}
use Rattle.zarr_sharding_codec.proofs.PutPieces.{met_or_none, new_in, places_at, put_seen, same_seen, taken}

lies_at : (base end : ℕ) (pairs : List Pair) (k : ℕ) → AllLie base end pairs → k < length pairs → lies_between base end (get_or pairs k absent_pair) ≡ true
lies_at base end [] k all low = absurd (omega (arith, low))
lies_at base end (p ∷ ps) zero all low = (and_parts (lies_between base end p) (list_all (lies_between base end) ps) all).0
lies_at base end (p ∷ ps) (suc k) all low = lies_at base end ps k (and_parts (lies_between base end p) (list_all (lies_between base end) ps) all).1 (omega (arith, low))

-- one of several changes
are_at : (stored : Stored) (new : Put) (front back : List Change) (change : Change) → AreUpdated stored new (front ++ change ∷ back) → IsUpdated stored new change
are_at stored new [] back change are = are.0
are_at stored new (c ∷ front) back change are = are_at stored new front back change are.1

given_values : (test : Cell → Bool) (shape subchunk : List ℕ) (k : ℕ) (ns : List ℕ) (cells : List Cell) → list_all test cells ≡ true → list_all test (given_in shape subchunk k ns cells) ≡ true
given_values test shape subchunk k [] cells all = refl
given_values test shape subchunk k (n ∷ ns) [] all = refl
given_values test shape subchunk k (n ∷ ns) (c ∷ cs) all =
    let both = and_parts (test c) (list_all test cs) all in
    by_test (subchunk_of shape subchunk n == k) both.0 (given_values test shape subchunk k ns cs both.1) where
      by_test : (b : Bool) → test c ≡ true → list_all test (given_in shape subchunk k ns cs) ≡ true → list_all test (if b then c ∷ given_in shape subchunk k ns cs else given_in shape subchunk k ns cs) ≡ true
      by_test true one rest = and_from (test c) (list_all test (given_in shape subchunk k ns cs)) one rest
      by_test false one rest = rest

new_in_map : (shape subchunk : List ℕ) (k : ℕ) (cuts : can_cut shape subchunk ≡ true) (there : k < length (parts_of shape subchunk)) (ns : List ℕ) (cells : List Cell)
    → new_in {X = Option (List Cell)} None shape subchunk k cuts there ns (map alone cells) ≡ map alone (given_in shape subchunk k ns cells)
new_in_map shape subchunk k cuts there [] cells = refl
new_in_map shape subchunk k cuts there (n ∷ ns) [] = refl
new_in_map shape subchunk k cuts there (n ∷ ns) (c ∷ cs) = by_test (subchunk_of shape subchunk n == k) (new_in_map shape subchunk k cuts there ns cs) where
  by_test : (b : Bool) → new_in {X = Option (List Cell)} None shape subchunk k cuts there ns (map alone cs) ≡ map alone (given_in shape subchunk k ns cs)
      → (if b then alone c ∷ new_in {X = Option (List Cell)} None shape subchunk k cuts there ns (map alone cs) else new_in {X = Option (List Cell)} None shape subchunk k cuts there ns (map alone cs))
      ≡ map alone (if b then c ∷ given_in shape subchunk k ns cs else given_in shape subchunk k ns cs)
  by_test true e = ap (λ (xs : List (Option (List Cell))). alone c ∷ xs) e
  by_test false e = e

module _ (subchunk : List ℕ) (inner index : Chain) (location : Location) (exact one : Bool) (elements : Elements) (shape numbers : List ℕ) (cells : List Cell) (old new : Option (List ℕ)) (h : IsAppended subchunk inner index location exact one elements shape numbers cells old new)
    (lossless : is_lossless (sharded subchunk inner index location) elements.type ≡ true) where
  abbrev pub base : ℕ
  base = base_of location (index_size index (index_shape shape subchunk))

  abbrev pub made : List Pair
  made = pairs_after h.end h.changes h.pairs

  both : (is_lossless inner elements.type ≡ true) × (is_lossless index uint64 ≡ true)
  both = and_parts (is_lossless inner elements.type) (is_lossless index uint64) lossless

  abbrev pub kept_data : List ℕ
  kept_data = data_of location (index_size index (index_shape shape subchunk)) old

  low_end : h.end < 2 ^ 63
  low_end = let room = h.room in omega (arith, room)

  -- the new value is opened as what is known of it
  pub opened_after : IsShardOpened subchunk inner index location elements shape new made
  opened_after = record {
    cuts = (fitted subchunk inner index location elements shape h.fit).cuts;
    fit = λ k low. part_fits subchunk inner index location elements shape k h.fit low;
    many = changed_count h.end h.changes h.pairs ∙ h.count;
    count = length (parts_of shape subchunk);
    end = h.ended;
    opened = reopened index one location (index_shape shape subchunk) h.changes (length (parts_of shape subchunk)) h.end h.ended h.pairs old new both.1 h.count h.room h.opened h.written;
  }

  -- where a pair is present, there is a value
  present_value : (k : ℕ) → k < length made → is_absent (get_or made k absent_pair) ≡ false → IsSplitAfter index location (index_shape shape subchunk) new made (kept_data ++ appended h.changes) h.ended
  present_value k low there = elim h.written [
    | inl erased ↦ let gone = absent_there made k erased.0 low in absurd (cc)
    | inr is ↦ split_after index one location (index_shape shape subchunk) h.changes (length (parts_of shape subchunk)) h.end h.ended h.pairs made old new h.opened is
  ] where
    absent_there : (pairs : List Pair) (k : ℕ) → are_absent pairs ≡ true → k < length pairs → is_absent (get_or pairs k absent_pair) ≡ true
    absent_there [] k all low = refl
    absent_there (p ∷ ps) zero all low = (and_parts (is_absent p) (list_all is_absent ps) all).0
    absent_there (p ∷ ps) (suc k) all low = absent_there ps k (and_parts (is_absent p) (list_all is_absent ps) all).1 (omega (arith, low))

  -- a slice of the new data part is read by its pair
  slice_after : (k : ℕ) (slice : List ℕ) → k < length made → HasSlice base (kept_data ++ appended h.changes) (get_or made k absent_pair) slice → slice_at (unwrap_or new []) (get_or made k absent_pair) ≡ Some slice
  slice_after k slice low has =
      let p = get_or made k absent_pair in
      let after = present_value k low (is_present base (kept_data ++ appended h.changes) p slice has) in
      ap (λ (o : Option (List ℕ)). slice_at (unwrap_or o []) p) after.is
      ∙ slice_found location base after.split.index (kept_data ++ appended h.changes) after.value p slice after.split.is (ap (base_of location) (sym after.split.long)) has

  -- one that was there
  slice_before : (k : ℕ) → k < length h.pairs → is_absent (get_or h.pairs k absent_pair) ≡ false → (slice : List ℕ) × HasSlice base kept_data (get_or h.pairs k absent_pair) slice × (slice_at (unwrap_or old []) (get_or h.pairs k absent_pair) ≡ Some slice)
  slice_before k low there =
      let p = get_or h.pairs k absent_pair in
      let slice = take p.1 (drop (p.0 - base) kept_data) in
      let lies = lies_at base h.end h.pairs k (opened_lies index location (index_shape shape subchunk) (length (parts_of shape subchunk)) h.end old h.pairs h.opened) low in
      let has = pair_has_slice base h.end kept_data p (opened_ends index location (index_shape shape subchunk) (length (parts_of shape subchunk)) h.end old h.pairs h.opened) low_end lies there in
      (slice, has, by_stored old h.opened has there) where
        by_stored : (o : Option (List ℕ)) → IsOpened (index_layout index location (index_shape shape subchunk)) (length (parts_of shape subchunk)) o h.pairs h.end
            → HasSlice base (data_of location (index_size index (index_shape shape subchunk)) o) (get_or h.pairs k absent_pair) (take (get_or h.pairs k absent_pair).1 (drop ((get_or h.pairs k absent_pair).0 - base) kept_data))
            → is_absent (get_or h.pairs k absent_pair) ≡ false → slice_at (unwrap_or o []) (get_or h.pairs k absent_pair) ≡ Some (take (get_or h.pairs k absent_pair).1 (drop ((get_or h.pairs k absent_pair).0 - base) kept_data))
        by_stored None opened has there =
            let gone : is_absent (get_or h.pairs k absent_pair) ≡ true = ap (λ (ps : List Pair). is_absent (get_or ps k absent_pair)) opened.0 ∙ ap is_absent (absent_at (length (parts_of shape subchunk)) k) in
            absurd (cc)
        by_stored (Some value) opened has there =
            let split = opened_split index location (index_shape shape subchunk) (length (parts_of shape subchunk)) h.end value h.pairs opened in
            slice_found location base split.index (data_in location (index_size index (index_shape shape subchunk)) value) value (get_or h.pairs k absent_pair) (take (get_or h.pairs k absent_pair).1 (drop ((get_or h.pairs k absent_pair).0 - base) kept_data))
            split.is (ap (base_of location) (sym split.long)) has

  -- a subchunk that isn't changed keeps its slice
  pub slice_stays : (k : ℕ) → k < length h.pairs → get_or made k absent_pair ≡ get_or h.pairs k absent_pair → is_absent (get_or h.pairs k absent_pair) ≡ false
      → slice_at (unwrap_or new []) (get_or made k absent_pair) ≡ slice_at (unwrap_or old []) (get_or h.pairs k absent_pair)
  slice_stays k low same there =
      let before = slice_before k low there in
      let count = changed_count h.end h.changes h.pairs in
      let grown = slice_grown base kept_data (appended h.changes) (get_or h.pairs k absent_pair) before.0 before.1 in
      slice_after k before.0 (omega (arith, low, count)) (subst (λ (p : Pair). HasSlice base (kept_data ++ appended h.changes) p before.0) (sym same) grown) ∙ sym before.2

  -- so its places are read as before
  kept_place : (k i : ℕ) → k < length h.pairs → IsPairKept h.changes h.pairs made k → (b : Bool) → is_absent (get_or h.pairs k absent_pair) ≡ b
      → place_decoded (coded inner elements (part_shape shape subchunk k)) (unwrap_or new []) (get_or made k absent_pair) i ≡ place_decoded (coded inner elements (part_shape shape subchunk k)) (unwrap_or old []) (get_or h.pairs k absent_pair) i
  kept_place k i low kept true e =
      let there : is_absent (get_or made k absent_pair) ≡ true = ap is_absent kept.is ∙ e in
      ap (λ (b : Bool). if b then Some elements.fill else option_and_then (λ slice. cell_at inner elements (part_shape shape subchunk k) slice i) (slice_at (unwrap_or new []) (get_or made k absent_pair))) there
      ∙ sym (ap (λ (b : Bool). if b then Some elements.fill else option_and_then (λ slice. cell_at inner elements (part_shape shape subchunk k) slice i) (slice_at (unwrap_or old []) (get_or h.pairs k absent_pair))) e)
  kept_place k i low kept false e =
      let there : is_absent (get_or made k absent_pair) ≡ false = ap is_absent kept.is ∙ e in
      ap (λ (b : Bool). if b then Some elements.fill else option_and_then (λ slice. cell_at inner elements (part_shape shape subchunk k) slice i) (slice_at (unwrap_or new []) (get_or made k absent_pair))) there
      ∙ (ap (option_and_then (λ slice. cell_at inner elements (part_shape shape subchunk k) slice i)) (slice_stays k low kept.is e)
      ∙ sym (ap (λ (b : Bool). if b then Some elements.fill else option_and_then (λ slice. cell_at inner elements (part_shape shape subchunk k) slice i) (slice_at (unwrap_or old []) (get_or h.pairs k absent_pair))) e))

  -- there is a subchunk for each pair
  part_below : (k : ℕ) → k < length h.pairs → k < length (parts_of shape subchunk)
  part_below k low = let count = h.count in omega (arith, count, low)

  -- the cells of a changed subchunk
  put_are : (k : ℕ) (before : List Cell) → k < length h.pairs → piece_decoded inner elements (unwrap_or old []) (part_shape shape subchunk k) (get_or h.pairs k absent_pair) ≡ Some before
      → AreCells elements (part_shape shape subchunk k) (cells_put (put_at shape subchunk numbers cells) k before)
  put_are k before low held =
      put_cells elements (part_shape shape subchunk k) (numbers_in shape subchunk k numbers) (given_in shape subchunk k numbers cells) before (given_values (is_value elements.type) shape subchunk k numbers cells h.values)
      (held_cells inner elements (unwrap_or old []) (part_shape shape subchunk k) (get_or h.pairs k absent_pair) before (part_fits subchunk inner index location elements shape k h.fit (part_below k low)) h.fill held)

  new_has : (new_is : (k : ℕ) × IsPairNew h.end h.changes made k) (slice : List ℕ) → new_is.1.change.1 ≡ Some slice → HasSlice base (kept_data ++ appended h.changes) (h.end + length (appended new_is.1.front), length slice) slice
  new_has new_is slice is =
      let n = new_is.1 in
      let front = appended n.front in
      let back = appended n.back in
      let cut = ap appended n.all ∙ (appended_split n.front n.back n.change ∙ ap (λ (o : Option (List ℕ)). front ++ (slice_bytes o ++ back)) is) in
      let ends = opened_ends index location (index_shape shape subchunk) (length (parts_of shape subchunk)) h.end old h.pairs h.opened in
      let room = h.room in
      let one_count = length-append front (slice ++ back) in
      let two_count = length-append slice back in
      let all = ap (λ (l : List ℕ). length l) cut in
      let start = length-append kept_data front in
      record {
        before = kept_data ++ front;
        after = back;
        is = ap (λ (l : List ℕ). kept_data ++ l) cut ∙ sym (append_assoc kept_data front (slice ++ back));
        begins = omega (arith, ends, start);
        long = refl;
        low = omega (arith, room, all, one_count, two_count);
      }

  -- a changed subchunk is decoded to the updated cells
  new_held : (k : ℕ) → k < length h.pairs → (n : IsPairNew h.end h.changes made k) → (is : IsUpdated (stored_in inner exact elements old h.pairs) (put_at shape subchunk numbers cells) n.change) → (slice : Option (List ℕ)) → n.change.1 ≡ slice
      → piece_decoded inner elements (unwrap_or new []) (part_shape shape subchunk k) (get_or made k absent_pair) ≡ Some (cells_put (put_at shape subchunk numbers cells) k is.before)
  new_held k low n is None none =
      let held = ap (λ j. piece_decoded inner elements (unwrap_or old []) (part_shape shape subchunk j) (get_or h.pairs j absent_pair)) (sym n.number) ∙ is.held in
      let after = cells_put (put_at shape subchunk numbers cells) k is.before in
      let are = put_are k is.before low held in
      let stored = subst (λ (o : Option (List ℕ)). IsPieceStored inner exact elements (part_shape shape subchunk n.change.0, cells_put (put_at shape subchunk numbers cells) n.change.0 is.before) o) none is.slice in
      let filled : is_fill elements.fill after ≡ true = ap (λ j. is_fill elements.fill (cells_put (put_at shape subchunk numbers cells) j is.before)) (sym n.number) ∙ stored in
      let pair : get_or made k absent_pair ≡ absent_pair = n.is ∙ ap (pair_at (h.end + length (appended n.front))) none in
      ap (λ (p : Pair). piece_decoded inner elements (unwrap_or new []) (part_shape shape subchunk k) p) pair ∙ ap Some (sym (fill_is_replicate elements.fill after filled ∙ ap (λ m. replicate m elements.fill) are.whole))
  new_held k low n is (Some slice) some =
      let held = ap (λ j. piece_decoded inner elements (unwrap_or old []) (part_shape shape subchunk j) (get_or h.pairs j absent_pair)) (sym n.number) ∙ is.held in
      let after = cells_put (put_at shape subchunk numbers cells) k is.before in
      let are = put_are k is.before low held in
      let stored = subst (λ (o : Option (List ℕ)). IsPieceStored inner exact elements (part_shape shape subchunk n.change.0, cells_put (put_at shape subchunk numbers cells) n.change.0 is.before) o) some is.slice in
      let moved = subst (λ j. IsPieceStored inner exact elements (part_shape shape subchunk j, cells_put (put_at shape subchunk numbers cells) j is.before) (Some slice)) n.number stored in
      let stands = moved.stands both.0 in
      let shape_k = part_shape shape subchunk k in
      let read : decoded inner elements shape_k slice ≡ Some after = stands_decoded inner elements shape_k slice after h.lawful.0 (part_fits subchunk inner index location elements shape k h.fit (part_below k low)) both.0 are stands in
      let pair : get_or made k absent_pair ≡ (h.end + length (appended n.front), length slice) = n.is ∙ ap (pair_at (h.end + length (appended n.front))) some in
      let has = subst (λ (p : Pair). HasSlice base (kept_data ++ appended h.changes) p slice) (sym pair) (new_has (k, n) slice some) in
      let count = changed_count h.end h.changes h.pairs in
      let found = slice_after k slice (omega (arith, low, count)) has in
      let there = is_present base (kept_data ++ appended h.changes) (get_or made k absent_pair) slice has in
      ap (λ (b : Bool). if b then Some (replicate (product shape_k) elements.fill) else option_and_then (decoded inner elements shape_k) (slice_at (unwrap_or new []) (get_or made k absent_pair))) there
      ∙ (ap (option_and_then (decoded inner elements shape_k)) found ∙ read)

  -- ---- all places

  shown_in : (k : ℕ) → k < length (parts_of shape subchunk)
      → taken None (cells_shown (sharded subchunk inner index location) elements shape new) (places_at shape subchunk k) ≡ taken None (put numbers (map alone cells) (cells_shown (sharded subchunk inner index location) elements shape old)) (places_at shape subchunk k)
  shown_in k there =
      let count = h.count in
      let low : k < length h.pairs = omega (arith, there, count) in
      let cuts = (fitted subchunk inner index location elements shape h.fit).cuts in
      let shown = cells_shown (sharded subchunk inner index location) elements shape old in
      let first = shard_opened subchunk inner index location exact one elements shape numbers cells old new h in
      let given = given_in shape subchunk k numbers cells in
      let seen : taken None (put numbers (map alone cells) shown) (places_at shape subchunk k) ≡ put (numbers_in shape subchunk k numbers) (map alone given) (taken None shown (places_at shape subchunk k)) =
      put_seen None shape subchunk k cuts there numbers (map alone cells) shown h.below (shown_count subchunk inner index location elements shape old)
      ∙ ap (λ (xs : List (Option (List Cell))). put (numbers_in shape subchunk k numbers) xs (taken None shown (places_at shape subchunk k))) (new_in_map shape subchunk k cuts there numbers cells) in
      elim (pair_cases h.changes h.end h.pairs k low) [
        | inl n ↦
            let is = are_at (stored_in inner exact elements old h.pairs) (put_at shape subchunk numbers cells) n.front n.back n.change (subst (AreUpdated (stored_in inner exact elements old h.pairs) (put_at shape subchunk numbers cells)) n.all h.changed.are) in
            let held = ap (λ j. piece_decoded inner elements (unwrap_or old []) (part_shape shape subchunk j) (get_or h.pairs j absent_pair)) (sym n.number) ∙ is.held in
            let before = piece_shown subchunk inner index location elements shape old h.pairs k is.before first there held in
            let after = piece_shown subchunk inner index location elements shape new made k (cells_put (put_at shape subchunk numbers cells) k is.before) opened_after there (new_held k low n is n.change.1 refl) in
            after ∙ (map_put alone (numbers_in shape subchunk k numbers) given is.before ∙ (ap (put (numbers_in shape subchunk k numbers) (map alone given)) (sym before) ∙ sym seen))
        | inr kept ↦
            let alike = pieces_alike subchunk inner index location elements shape old new h.pairs made k first opened_after there (λ i. kept_place k i low kept (is_absent (get_or h.pairs k absent_pair)) refl) in
            let none : numbers_in shape subchunk k numbers ≡ [] = elim (met_or_none shape subchunk k numbers) [ inl met ↦ absurd (kept.none (subst (λ j. HasChange j h.changes) met.is (h.changed.all met.at_ met.below))) | inr none ↦ none ] in
            alike ∙ sym (seen ∙ ap (λ (ns : List ℕ). put ns (map alone given) (taken None shown (places_at shape subchunk k))) none)
      ]

  -- each place is read as the new cell, or as before
  pub shown_put : cells_shown (sharded subchunk inner index location) elements shape new ≡ put numbers (map alone cells) (cells_shown (sharded subchunk inner index location) elements shape old)
  shown_put =
      let shown = cells_shown (sharded subchunk inner index location) elements shape old in
      same_seen None shape subchunk (cells_shown (sharded subchunk inner index location) elements shape new) (put numbers (map alone cells) shown) (fitted subchunk inner index location elements shape h.fit).cuts (shown_count subchunk inner index location elements shape new)
      (length-put numbers (map alone cells) shown ∙ shown_count subchunk inner index location elements shape old) shown_in
