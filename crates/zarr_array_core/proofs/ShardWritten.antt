-- One chunk written, where a part of it is put into its shard, or otherwise.
use Rattle.std.proofs.Common.{◌≡◌, ◌∙◌, ℕ, Bool, IsTrue, true, false, if◌then◌else◌, ◌&&◌, ◌||◌, List, [], ◌∷◌, length, map, refl, sym, ap, subst, Option, Some, None, is_some, ⊎_elim, inl, inr}
use Rattle.std.specs.Prelude.{◌⊎◌, MatchBool, not}
use Rattle.std.specs.FinMap.{get}
use Rattle.std.proofs.lemmas.Bool.{false≢true}
use Rattle.zarr_grids_boxes.specs.Boxes.{Region, places, is_in_box}
use Rattle.zarr_grids_chunks.specs.Grids.{IsInGrid}
use Rattle.zarr_grids_chunks.proofs.Filters.{told}
use Rattle.zarr_grids_keys.specs.Keys.{chunk_key}
use Rattle.zarr_codecs_meaning.specs.Chunks.{chunk_part, IsStored}
use Rattle.zarr_codecs_meaning.specs.Fits.{is_plain}
use Rattle.zarr_codecs_meaning.specs.Laws.{AreCells}
use Rattle.zarr_codecs_meaning.specs.Refusals.{CodecRefuses}
use Rattle.zarr_codecs_meaning.specs.Standing.{ChunkStands}
use Rattle.zarr_codecs_meaning.specs.Types.{Cell, is_fill}
use Rattle.zarr_codecs_meaning.proofs.Chunks.{stored_decoded}
use Rattle.zarr_codecs_traits.specs.PartWriting.{ChunkTight, PartsRefused, PassesLength, WholeRefused}
use Rattle.zarr_array_elements.proofs.FixedCells.{cell_of_places, number_below}
use Rattle.zarr_array_meaning.specs.Arrays.{value_at}
use Rattle.zarr_array_meaning.specs.Boxes.{cell_of_box}
use Rattle.zarr_array_meaning.specs.Chunks.{fits_box, holds_box, number_in, part_at, ReadsCell}
use Rattle.zarr_array_meaning.specs.Standing.{AreValues, ChunkStandsAt, ChunkTightAt, IsLossless}
use Rattle.zarr_array_meaning.specs.StoreMaps.{StoreMap}
use Rattle.zarr_array_meaning.specs.Writes.{Write}
use Rattle.zarr_array_meaning.specs.Writing.{ChunkBecomes, IsKeyed, RefusesCells, StopsInto, Takes, WroteChunks, cell_read, given_cell, goes_into_shard, is_in_part, keeps_fill, may_be_in_part, part_write, takes_cells, written_over}
use Rattle.zarr_array_meaning.proofs.TakenParts.{read_of_decoded}
use Rattle.zarr_array_core.specs.ChunkValues.{ChangesValue, ChangeStops, with_value}
use Rattle.zarr_array_core.specs.IntoShards.{FittingStops, IntoShardStops, PutsIntoShard, WritesChunk, WritingStops, cells_over, cells_then}
use Rattle.zarr_array_core.specs.Outcomes.{ChunkStops}
use Rattle.zarr_array_core.specs.declared.error.ChunkError.{ChunkError}
use Rattle.zarr_array_core.specs.declared.error.ChunkError.TheVariants as error
use Rattle.zarr_array_core.proofs.ChunkWritten.{IsChange, at_each, at_one, becomes_at, box_rank, cell_with, kept_apart, length-at_places, listed_cells, new_store, same_at_places, stored_where, tight_apart, value_other, value_same, wrote_changed}
use Rattle.zarr_array_core.proofs.InParts.{parts_of_write}
use Rattle.zarr_array_core.proofs.IntoShards.{IsIntoShard, shard_write}
use Rattle.zarr_array_core.proofs.Listed.{one_listed}

-- ---- the cells that a chunk is to get

module _ (write : Write) (box : Region) (stored : Option (List ℕ)) (rank : length box.start ≡ length box.shape) (into : goes_into_shard write box ≡ true) where
  abbrev cells_now : List Cell
  cells_now = cells_then write box stored

  abbrev cell_then : List ℕ → Cell
  cell_then place = if is_in_box write.region.start write.region.shape place then given_cell write place else cell_read write.array.document box stored place

  cell_there : (place : List ℕ) (t : Bool) → is_in_box write.region.start write.region.shape place ≡ t → is_in_box box.start box.shape place ≡ true
      → cell_of_box box cells_now write.array.document.elements.fill place ≡ (if t then given_cell write place else cell_read write.array.document box stored place)
  cell_there place t r inside =
      cell_of_places box cell_then write.array.document.elements.fill place rank inside
      ∙ ap (λ (b : Bool). if b then given_cell write place else cell_read write.array.document box stored place) r

  becomes_then : ChunkBecomes write box stored cells_now
  becomes_then = record {
    many = length-at_places box cell_then rank;
    written = λ place r inside. cell_there place true r inside;
    takes = λ whole. absurd (false≢true (sym whole ∙ into));
    kept = λ held place r inside. cell_there place false r inside;
  }

-- ---- a part put into the chunk's shard

-- a value is there where not all is fill
stored_unless : (made : Option (List ℕ)) (filled : Bool) → (filled ≡ true → made ≡ None) → (made ≡ None → filled ≡ true) → is_some made ≡ not filled
stored_unless None filled none some = sym (ap not (some refl))
stored_unless (Some value) true none some = ap is_some (none refl)
stored_unless (Some value) false none some = refl

-- a chunk in the grid into whose shard a write puts cells, and what is known of the write
pub record IsSharding (write : Write) (chunk : List ℕ) (box : Region) (old : StoreMap) (made : Option (List ℕ)) : Type 0 where
  pub change : IsChange write chunk box
  pub into : goes_into_shard write box ≡ true
  pub puts : PutsIntoShard write box (value_at write.array old chunk) made

module _ (write : Write) (chunk : List ℕ) (box : Region) (old : StoreMap) (made : Option (List ℕ)) (w : IsSharding write chunk box old made) where
  abbrev after : StoreMap
  after = new_store write.array old chunk made

  abbrev stored : Option (List ℕ)
  stored = value_at write.array old chunk

  abbrev fill : Cell
  fill = write.array.document.elements.fill

  rank_of : length box.start ≡ length box.shape
  rank_of = box_rank write.array.document.grid chunk box w.change.below

  stored_now : value_at write.array after chunk ≡ made
  stored_now = value_same old (chunk_key write.array.path write.array.document.keys chunk) made

  is : IsIntoShard write.array.document write.region box
  is = shard_write write.array.document write.options write.region box w.into

  takes : Takes write.array.document write.options write.region box stored
  takes = subst (λ (b : Bool). MatchBool b (¬ StopsInto write.array.document write.region box stored) (takes_cells write.array.document write.options write.region box stored ≡ true)) (sym w.into) w.puts.taken

  stores_none : keeps_fill write box ≡ false
  stores_none = ap (λ (b : Bool). (write.options.store_empty_chunks && not b) || is_in_part write.array.document write.options write.region box) w.into ∙ none write.options.store_empty_chunks (may_be_in_part write.array.document write.options write.region box) (is_plain write.array.document.chain) is.shard where
    none : (empty may plain : Bool) → plain ≡ false → ((empty && false) || (may && plain)) ≡ false
    none true true plain h = h
    none true false plain h = refl
    none false true plain h = h
    none false false plain h = refl

  -- the new cells, where the chunk stood for others
  over_then : (before : List Cell) → IsLossless write.array.document → AreCells write.array.document.elements box.shape before → ChunkStands write.array.document.chain write.array.document.elements box.shape stored before
      → cells_over write box before ≡ cells_now write box stored rank_of w.into
  over_then before lossless are st = same_at_places box _ _ fill rank_of (λ place inside.
      let decoded = stored_decoded write.array.document.chain write.array.document.elements box.shape stored before w.change.good.lawful lossless are (stored_where write.array.document box stored before w.puts.fit st) in
      ap (λ (cell : Cell). if is_in_box write.region.start write.region.shape place then given_cell write place else cell)
      (sym (read_of_decoded write.array.document box stored place before w.puts.fit (number_below box place inside) decoded)))

  keyed_there : IsKeyed write box (value_at write.array old chunk) (value_at write.array after chunk)
  keyed_there = record {
    cells = cells_now write box stored rank_of w.into;
    becomes = becomes_then write box stored rank_of w.into;
    key = λ whole. absurd (false≢true (sym whole ∙ w.into));
    taken = λ _ lossless before are st.
        let same = over_then before lossless are st in
        ap is_some stored_now ∙ (stored_unless made (is_fill fill (cells_over write box before)) (w.puts.absent lossless before are st)
        (λ none. subst (λ (o : Option (List ℕ)). ChunkStands write.array.document.chain write.array.document.elements box.shape o (cells_over write box before)) none (w.puts.stands lossless before are st))
        ∙ ap (λ (cs : List Cell). not (is_fill fill cs)) same);
    encodes = λ one whole. absurd (false≢true (sym whole ∙ w.into));
    bytes = λ t. absurd (false≢true (sym is.shard ∙ (parts_of_write write.array.document write.options write.region box t).0.plain));
  }

  shows_there : IsLossless write.array.document → (place : List ℕ) → is_in_box box.start box.shape place ≡ true
      → MatchBool (is_in_box write.region.start write.region.shape place) (ReadsCell write.array.document box (value_at write.array after chunk) place (given_cell write place))
      (part_at write.array.document box (value_at write.array after chunk) place ≡ part_at write.array.document box (value_at write.array old chunk) place)
  shows_there lossless place inside =
      let shows = λ (o : Option (List ℕ)). chunk_part write.array.document.chain write.array.document.elements box.shape o (number_in box place ∷ []) in
      subst (λ (o : Option (List ℕ)). MatchBool (is_in_box write.region.start write.region.shape place) (shows o ≡ Some (given_cell write place ∷ [])) (shows o ≡ shows stored))
      (sym stored_now) (w.puts.puts.shows lossless place inside)

  -- the cells of the chunk after the write
  over_with : (cells : List ℕ → Cell) → cells_over write box (map cells (places box.start box.shape)) ≡ map (written_over write (chunk ∷ []) cells) (places box.start box.shape)
  over_with cells = same_at_places box _ _ fill rank_of (λ place inside.
      ap (λ (cell : Cell). if is_in_box write.region.start write.region.shape place then given_cell write place else cell) (cell_of_places box cells fill place rank_of inside)
      ∙ sym (cell_with write chunk box cells place w.change.below inside))

  abbrev with_cells : (List ℕ → Cell) → List ℕ → Cell
  with_cells cells = written_over write (chunk ∷ []) cells

  keeps_here : IsLossless write.array.document → (cells : List ℕ → Cell) → AreValues write.array.document cells → ChunkStandsAt write.array.document box (value_at write.array old chunk) cells → ChunkStandsAt write.array.document box (value_at write.array after chunk) (with_cells cells)
  keeps_here lossless cells values st =
      let listed = map cells (places box.start box.shape) in
      let are = listed_cells write.array.document chunk box cells w.change.good w.change.below values in
      let stood : ChunkStands write.array.document.chain write.array.document.elements box.shape stored listed = subst (λ (b : Bool). MatchBool b (ChunkStands write.array.document.chain write.array.document.elements box.shape stored listed) ((stored ≡ None) × (is_fill fill listed ≡ true))) w.puts.fit st in
      subst (λ (o : Option (List ℕ)). IsStored write.array.document.chain write.array.document.elements box.shape o (map (with_cells cells) (places box.start box.shape))) (sym stored_now)
      (stored_where write.array.document box made (map (with_cells cells) (places box.start box.shape)) w.puts.fit
      (subst (λ (cs : List Cell). ChunkStands write.array.document.chain write.array.document.elements box.shape made cs) (over_with cells) (w.puts.stands lossless listed are stood)))

  keeps_there : IsLossless write.array.document → (cells : List ℕ → Cell) → AreValues write.array.document cells → (d : List ℕ) (other : Region) → IsInGrid write.array.document.grid d other → ChunkStandsAt write.array.document other (value_at write.array old d) cells → ChunkStandsAt write.array.document other (value_at write.array after d) (with_cells cells)
  keeps_there lossless cells values d other over st =
      at_each write.array (λ k r. ChunkStandsAt write.array.document r (value_at write.array old k) cells → ChunkStandsAt write.array.document r (value_at write.array after k) (with_cells cells)) chunk d box other old made w.change.apart w.change.below over
      (λ s. keeps_here lossless cells values s) (λ ne stays s. kept_apart write chunk d other old after cells over ne stays s) st

  tight_here : IsTrue write.array.exact → IsLossless write.array.document → (cells : List ℕ → Cell) → AreValues write.array.document cells → ChunkTightAt write.array.document box (value_at write.array old chunk) cells → ChunkTightAt write.array.document box (value_at write.array after chunk) (with_cells cells)
  tight_here one lossless cells values st =
      let listed = map cells (places box.start box.shape) in
      let are = listed_cells write.array.document chunk box cells w.change.good w.change.below values in
      subst (λ (o : Option (List ℕ)). ChunkTight write.array.document.chain write.array.document.elements box.shape o (map (with_cells cells) (places box.start box.shape))) (sym stored_now)
      (subst (λ (cs : List Cell). ChunkTight write.array.document.chain write.array.document.elements box.shape made cs) (over_with cells) (w.puts.tight one lossless listed are st))

  tight_there : IsTrue write.array.exact → IsLossless write.array.document → (cells : List ℕ → Cell) → AreValues write.array.document cells → (d : List ℕ) (other : Region) → IsInGrid write.array.document.grid d other → ChunkTightAt write.array.document other (value_at write.array old d) cells → ChunkTightAt write.array.document other (value_at write.array after d) (with_cells cells)
  tight_there one lossless cells values d other over st =
      at_each write.array (λ k r. ChunkTightAt write.array.document r (value_at write.array old k) cells → ChunkTightAt write.array.document r (value_at write.array after k) (with_cells cells)) chunk d box other old made w.change.apart w.change.below over
      (λ s. tight_here one lossless cells values s) (λ ne stays s. tight_apart write chunk d other old after cells over ne stays s) st

  wrote_into : WroteChunks write (chunk ∷ []) old after
  wrote_into = record {
    fit = λ d other over l. at_one write.array.document.grid (λ k r. fits_box write.array.document r ≡ true) chunk d box other w.change.below over l w.puts.fit;
    undamaged = λ d other over l held. at_one write.array.document.grid (λ k r. Takes write.array.document write.options write.region r (value_at write.array old k)) chunk d box other w.change.below over l takes;
    shows = λ lossless d other place over l inside.
        at_one write.array.document.grid (λ k r. is_in_box r.start r.shape place ≡ true → MatchBool (is_in_box write.region.start write.region.shape place) (ReadsCell write.array.document r (value_at write.array after k) place (given_cell write place))
        (part_at write.array.document r (value_at write.array after k) place ≡ part_at write.array.document r (value_at write.array old k) place)) chunk d box other w.change.below over l
        (λ i. shows_there lossless place i) inside;
    keeps = λ lossless cells values d other over st. keeps_there lossless cells values d other over st;
    tight = λ one lossless cells values d other over st. tight_there one lossless cells values d other over st;
    makes = λ lossless d other over l holds.
        absurd (at_one write.array.document.grid (λ k r. holds_box write.region r ≡ true → ⊥) chunk d box other w.change.below over l (λ h. false≢true (sym is.part ∙ h)) holds);
    others = λ key ne. value_other old (chunk_key write.array.path write.array.document.keys chunk) key made (ne chunk (one_listed chunk chunk refl));
    keys = record {
      stored = λ d other over empty l. absurd (at_one write.array.document.grid (λ k r. keeps_fill write r ≡ true → ⊥) chunk d box other w.change.below over l (λ e. false≢true (sym stores_none ∙ e)) empty);
      erased = λ lossless d other over whole empty l. absurd (at_one write.array.document.grid (λ k r. goes_into_shard write r ≡ false → ⊥) chunk d box other w.change.below over l (λ e. false≢true (sym e ∙ w.into)) whole);
    };
    keyed = λ d other over l. at_one write.array.document.grid (λ k r. IsKeyed write r (value_at write.array old k) (value_at write.array after k)) chunk d box other w.change.below over l keyed_there;
  }

-- ---- a chunk that is written

pub writes_into : (write : Write) (box : Region) (stored made : Option (List ℕ)) → goes_into_shard write box ≡ true → PutsIntoShard write box stored made → WritesChunk write box stored made
writes_into write box stored made t h = subst (λ (b : Bool). MatchBool b (PutsIntoShard write box stored made) (ChangesValue write box stored made)) (sym t) h

pub writes_whole : (write : Write) (box : Region) (stored made : Option (List ℕ)) → goes_into_shard write box ≡ false → ChangesValue write box stored made → WritesChunk write box stored made
writes_whole write box stored made t h = subst (λ (b : Bool). MatchBool b (PutsIntoShard write box stored made) (ChangesValue write box stored made)) (sym t) h

-- the same store and the same key
pub changed_alike : (write : Write) (box : Region) (mid old new : StoreMap) (k key : List ℕ) (made : Option (List ℕ)) → mid ≡ old → k ≡ key → ChangesValue write box (get mid k) made → new ≡ with_value mid k made
    → ChangesValue write box (get old key) made × (new ≡ with_value old key made)
changed_alike write box mid old new k key made same at changes is = (
  subst (λ (j : List ℕ). ChangesValue write box (get old j) made) at
      (subst (λ (m : StoreMap). ChangesValue write box (get m k) made) same changes),
  is ∙ (ap (λ (m : StoreMap). with_value m k made) same ∙ ap (λ (j : List ℕ). with_value old j made) at),
)

pub wrote_chunk : (write : Write) (chunk : List ℕ) (box : Region) (old : StoreMap) (made : Option (List ℕ)) → IsChange write chunk box
    → WritesChunk write box (value_at write.array old chunk) made → WroteChunks write (chunk ∷ []) old (new_store write.array old chunk made)
wrote_chunk write chunk box old made is h =
    let stored = value_at write.array old chunk in
    let into = PutsIntoShard write box stored made in
    let changes = ChangesValue write box stored made in
    ⊎_elim
    (λ t. wrote_into write chunk box old made (record { change = is; into = t; puts = subst (λ (b : Bool). MatchBool b into changes) t h }))
    (λ t. wrote_changed write chunk box old made is t (subst (λ (b : Bool). MatchBool b into changes) t h))
    (told (goes_into_shard write box))

-- ---- a chunk that is not written

-- what is refused, by whether a part is put into the shard
refuses_by : (write : Write) (box : Region) (into : Bool) (held : Option (List ℕ)) (cells : List Cell) → goes_into_shard write box ≡ into
    → MatchBool into (PartsRefused write.array.document.chain write.array.document.elements box.shape (part_write write box held cells)
    ⊎ (PassesLength write.array.document.chain write.array.document.elements box.shape (part_write write box held cells) × WholeRefused write.array.document.chain write.array.document.elements box.shape cells))
    (CodecRefuses write.array.document.chain write.array.document.elements box.shape cells) → RefusesCells write box held cells
refuses_by write box into held cells is h =
    let document = write.array.document in
    let part = part_write write box held cells in
    let into_shard = PartsRefused document.chain document.elements box.shape part ⊎ (PassesLength document.chain document.elements box.shape part × WholeRefused document.chain document.elements box.shape cells) in
    subst (λ (b : Bool). MatchBool b into_shard (CodecRefuses document.chain document.elements box.shape cells)) (sym is) h

module _ (write : Write) (box : Region) (held : Option (List ℕ)) where
  whole_stops : (e : ChunkError) → goes_into_shard write box ≡ false → ChangeStops write box held e → ChunkStops write box held e
  whole_stops error.Fit whole h = h
  whole_stops (error.Storage s) whole h = h
  whole_stops error.Damage whole h = inl (record {
    fit = h.0;
    part = h.1;
    lost = subst (λ (b : Bool). MatchBool b (StopsInto write.array.document write.region box held) (takes_cells write.array.document write.options write.region box held ≡ false)) (sym whole) h.2;
  })
  whole_stops error.Codec whole h = record {
    fit = h.fit;
    cells = h.cells;
    becomes = becomes_at write box held h.cells h.fit h.becomes;
    called = λ _. h.refuses.0;
    refuses = refuses_by write box false held h.cells whole h.refuses.1;
  }
  whole_stops error.Size whole h = record { fit = h.fit; cells = h.cells; becomes = becomes_at write box held h.cells h.fit h.becomes; called = λ _. h.refuses.0; passes = inl h.refuses.1 }
  whole_stops error.Memory whole h = tt

  shard_stops : (e : ChunkError) → length box.start ≡ length box.shape → goes_into_shard write box ≡ true → fits_box write.array.document box ≡ true
      → IntoShardStops write box held e → ChunkStops write box held e
  shard_stops error.Fit rank into fit h = absurd h
  shard_stops (error.Storage s) rank into fit h = (fit, h)
  shard_stops error.Damage rank into fit (inl h) = inl (record {
    fit = fit;
    part = (shard_write write.array.document write.options write.region box into).part;
    lost = subst (λ (b : Bool). MatchBool b (StopsInto write.array.document write.region box held) (takes_cells write.array.document write.options write.region box held ≡ false)) (sym into) h;
  })
  shard_stops error.Damage rank into fit (inr h) = inr (record {
    fit = fit;
    into = into;
    undecoded = h.0;
    passes = (cells_now write box held rank into, becomes_then write box held rank into, h.1);
  })
  shard_stops error.Codec rank into fit h = record {
    fit = fit;
    cells = cells_now write box held rank into;
    becomes = becomes_then write box held rank into;
    called = λ whole. absurd (false≢true (sym whole ∙ into));
    refuses = refuses_by write box true held (cells_now write box held rank into) into h;
  }
  shard_stops error.Size rank into fit h = record {
    fit = fit;
    cells = cells_now write box held rank into;
    becomes = becomes_then write box held rank into;
    called = λ whole. absurd (false≢true (sym whole ∙ into));
    passes = elim h [ inl index ↦ inl index | inr long ↦ inr (inr (into, long)) ];
  }
  shard_stops error.Memory rank into fit h = tt

  fitting_stops : (e : ChunkError) → length box.start ≡ length box.shape → FittingStops write box held e → ChunkStops write box held e
  fitting_stops e rank h =
      let both = λ (b : Bool). MatchBool b ((fits_box write.array.document box ≡ true) × IntoShardStops write box held e) (ChangeStops write box held e) in
      ⊎_elim (λ t. let k = subst both t h in shard_stops e rank t k.0 k.1) (λ t. whole_stops e t (subst both t h)) (told (goes_into_shard write box))

  pub chunk_stops : (e : ChunkError) → length box.start ≡ length box.shape → WritingStops write box held e → ChunkStops write box held e
  chunk_stops error.Fit rank h = h
  chunk_stops (error.Storage s) rank h = fitting_stops (error.Storage s) rank h
  chunk_stops error.Damage rank h = fitting_stops error.Damage rank h
  chunk_stops error.Codec rank h = fitting_stops error.Codec rank h
  chunk_stops error.Size rank h = fitting_stops error.Size rank h
  chunk_stops error.Memory rank h = tt
