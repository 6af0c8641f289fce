-- What is read in a sound world.
use Rattle.std.proofs.Common.{◌≡◌, ◌∙◌, ◌⊎◌, ℕ, Bool, List, [], ◌∷◌, map, length, refl, sym, ap, subst, ⊎_elim, true, false, Option, Some, None, is_some}
use Rattle.std.specs.Prelude.{nat_lt, ◌&&◌}
use Rattle.std.proofs.lemmas.Bool.{lt-ltb, false≢true, MatchBool-at_true, MatchBool-at_false}
use Rattle.std.proofs.lemmas.Option.{none-some, same_Some}
use Rattle.zarr_grids_boxes.specs.Boxes.{Region, product, places, is_in_box}
use Rattle.zarr_grids_boxes.proofs.Steps.{number_in_grid}
use Rattle.zarr_grids_chunks.specs.Grids.{IsInGrid}
use Rattle.zarr_grids_chunks.proofs.Filters.{told}
use Rattle.zarr_grids_cover.proofs.ChunkBoxes.{chunk_box-rank}
use Rattle.zarr_codecs_meaning.specs.Chunks.{IsStored, chunk_decoded}
use Rattle.zarr_codecs_meaning.specs.Standing.{Stands}
use Rattle.zarr_codecs_meaning.specs.Standing.Slices.{standing_slices}
use Rattle.zarr_codecs_meaning.specs.Types.{Cell}
use Rattle.zarr_codecs_meaning.proofs.Chunks.{stored_part, stored_decoded}
use Rattle.zarr_sharding_values.proofs.ChainCompaction.{standing_undamaged}
use Rattle.zarr_codecs_metadata.specs.Chains.{ReadsCodecs}
use Rattle.zarr_codecs_traits.proofs.Damage.{decoded_intact}
use Rattle.zarr_codecs_options.specs.declared.codec_options.CodecOptions.{CodecOptions}
use Rattle.zarr_array_meaning.specs.Arrays.{value_at}
use Rattle.zarr_array_meaning.specs.Boxes.{IsDamagedIn, IsUnfitIn}
use Rattle.zarr_array_meaning.specs.Chunks.{number_in, stored_at, fits_box, decoded_in, ReadsCell, IsNthIntersecting}
use Rattle.zarr_array_meaning.specs.Documents.{Document}
use Rattle.zarr_array_meaning.specs.Standing.{ChunkStandsAt, IsLossless, IsGood, AreValues}
use Rattle.zarr_array_meaning.specs.StoreMaps.{StoreMap}
use Rattle.zarr_array_meaning.specs.Texts.{HasDocument}
use Rattle.zarr_array_meaning.specs.Writes.{write_to}
use Rattle.zarr_array_meaning.specs.Writing.{IsPartDamaged, is_into_shard, LacksRoom, StopsInto, shared_numbers}
use Rattle.zarr_array_meaning.proofs.Showing.{are_cells, listed_at}
use Rattle.zarr_array_meaning.proofs.TakenParts.{opens_decoded, takes_decoded}
use Rattle.zarr_run_meaning.specs.declared.cause.Cause.TheVariants as cause
use Rattle.zarr_run_meaning.specs.Causes.{ReopenRefuses, IsNotCompacted, IsNotRewritten}
use Rattle.zarr_run_meaning.specs.Laws.{NeverDamaged, AloneUndamaged, ReadsFit}
use Rattle.zarr_run_meaning.specs.Requests.{refusal, Request, create, reopen, write, read, erase, compact, rewrite, path_of, refused}
use Rattle.zarr_run_meaning.specs.Sound.{IsSoundAt, ReadsGood}
use Rattle.zarr_run_meaning.specs.Steps.{RefusesHeld, RefusesWrite, RefusesRead, RefusesErase, RefusesCompact, RefusesRewrite, WritesFirst, ErasesFirst, RewritesFirst, Step}
use Rattle.zarr_run_meaning.specs.Tables.{cell}
use Rattle.zarr_run_meaning.specs.Worlds.{Held, World, array_of, held_at}
use Rattle.zarr_run_meaning.proofs.Arrays.{held_at-path}
use Rattle.zarr_run_meaning.proofs.Keys.{number_listed, listed_below}

-- ---- what stands is read

pub box_same : (document : Document) (chunk : List ℕ) (box : Region) → IsInGrid document.grid chunk box → length box.start ≡ length box.shape
box_same document chunk box below = let rank = chunk_box-rank document.grid chunk box below.has_box in rank.0 ∙ sym rank.1

module _ (path : List ℕ) (document : Document) (store : StoreMap) (chunk : List ℕ) (box : Region) (cells : List ℕ → Cell) (good : IsGood document) (lossless : IsLossless document) (values : AreValues document cells) (below : IsInGrid document.grid chunk box) (stands : ChunkStandsAt document box (stored_at path document store chunk) cells) where
  pub standing_decoded : decoded_in document box (stored_at path document store chunk) ≡ Some (map cells (places box.start box.shape))
  standing_decoded = stored_decoded document.chain document.elements box.shape (stored_at path document store chunk) (map cells (places box.start box.shape)) good.lawful lossless
      (are_cells document chunk box cells (box_same document chunk box below) good values below) stands

  pub standing_reads : (place : List ℕ) → is_in_box box.start box.shape place ≡ true → ReadsCell document box (stored_at path document store chunk) place (cells place)
  standing_reads place inside =
      let n = number_in box place in
      let low : (nat_lt n (product box.shape) && true) ≡ true = rw (lt-ltb n (product box.shape) (number_in_grid box.start box.shape place inside)) refl in
      stored_part document.chain document.elements box.shape (stored_at path document store chunk) (map cells (places box.start box.shape)) (n ∷ []) good.lawful lossless
      (are_cells document chunk box cells (box_same document chunk box below) good values below) stands low
      ∙ ap (λ (c : Cell). Some (c ∷ [])) (listed_at cells box place document.elements.fill inside)

-- ---- nothing is damaged

module _ (reads : ReadsCodecs) (store : StoreMap) (h : Held) (good : ReadsGood reads) (sound : IsSoundAt reads store h) where
  -- what stands stops no write of a part of it into its shard: it opens, has lost nothing, and is no shard with a slice outside its data part
  none_stopped : (region box : Region) (o : Option (List ℕ)) → fits_box h.document box ≡ true → chunk_decoded h.document.chain h.document.elements box.shape o ≡ Some (map (cell h.document.elements.fill h.table) (places box.start box.shape))
      → IsStored h.document.chain h.document.elements box.shape o (map (cell h.document.elements.fill h.table) (places box.start box.shape)) → StopsInto h.document region box o → ⊥
  none_stopped region box None fit is stands stops = stops
  none_stopped region box (Some value) fit is stands stops =
      let cells = map (cell h.document.elements.fill h.table) (places box.start box.shape) in
      let stood : Stands h.document.chain h.document.elements box.shape value cells = MatchBool-at_true _ _ fit stands in
      ⊎_elim
      (λ closed. false≢true (sym closed ∙ opens_decoded h.document box (Some value) cells fit is))
      (λ more. ⊎_elim (decoded_intact h.document.chain h.document.elements box.shape value (shared_numbers region box) cells is) (standing_undamaged standing_slices h.document.chain h.document.elements box.shape value cells stood) more)
      stops

  -- nor is there no room behind it
  no_part_damaged : (region : Region) (values : List Cell) (options : CodecOptions) (n : ℕ) (chunk : List ℕ) (box : Region) → IsNthIntersecting h.document.grid region n chunk box
      → IsPartDamaged (write_to (array_of h) region values options) box (value_at (array_of h) store chunk) ⊎ LacksRoom (write_to (array_of h) region values options) box (value_at (array_of h) store chunk) → ⊥
  no_part_damaged region values options n chunk box nth damaged = ⊎_elim part (λ (no : LacksRoom (write_to (array_of h) region values options) box (value_at (array_of h) store chunk)). none-some _ (sym no.undecoded ∙ decoded)) damaged where
    stored : Option (List ℕ)
    stored = value_at (array_of h) store chunk

    below : IsInGrid h.document.grid chunk box
    below = let among = listed_below h.document.grid region chunk (number_listed _ n chunk nth.listed) in record { below = among.1.below; has_box = nth.has_box }

    decoded : chunk_decoded h.document.chain h.document.elements box.shape stored ≡ Some (map (cell h.document.elements.fill h.table) (places box.start box.shape))
    decoded = standing_decoded h.path h.document store chunk box (cell h.document.elements.fill h.table) (good h.tree h.document sound.says) sound.lossless sound.values below (sound.stands chunk box below)

    part : IsPartDamaged (write_to (array_of h) region values options) box (value_at (array_of h) store chunk) → ⊥
    part is = ⊎_elim
        (λ into. none_stopped region box stored is.fit decoded (sound.stands chunk box below) (MatchBool-at_true _ _ into is.lost))
        (λ whole. false≢true (sym (MatchBool-at_false _ _ whole is.lost) ∙ takes_decoded h.document options region box stored (map (cell h.document.elements.fill h.table) (places box.start box.shape)) is.fit decoded))
        (told (is_into_shard h.document options region box))

  none_damaged : (region : Region) → IsDamagedIn h.path h.document store region → ⊥
  none_damaged region damaged =
      none-some _ (sym damaged.lost
      ∙ standing_reads h.path h.document store damaged.chunk damaged.box (cell h.document.elements.fill h.table) (good h.tree h.document sound.says) sound.lossless sound.values damaged.is.below (sound.stands damaged.chunk damaged.box damaged.is.below) damaged.place damaged.is.of_chunk)

  -- nothing is damaged for a compaction
  none_gaping : (chunk : List ℕ) → IsNotCompacted (array_of h) store chunk cause.Damage → ⊥
  none_gaping chunk lost =
      let cells = map (cell h.document.elements.fill h.table) (places lost.box.start lost.box.shape) in
      let P : Option (List ℕ) → Type 0 = λ o. IsStored h.document.chain h.document.elements lost.box.shape o cells in
      let stood : Stands h.document.chain h.document.elements lost.box.shape lost.value cells = MatchBool-at_true _ _ lost.refuses.0 (subst P lost.stored (sound.stands chunk lost.box lost.below)) in
      standing_undamaged standing_slices h.document.chain h.document.elements lost.box.shape lost.value cells stood lost.refuses.1

  -- nor for a rewrite
  none_undecoded : (store_empty : Bool) (n : ℕ) → IsNotRewritten (array_of h) store store_empty n cause.Damage → ⊥
  none_undecoded store_empty n lost =
      none-some _ (sym lost.refuses.1 ∙ ap (chunk_decoded h.document.chain h.document.elements lost.box.shape) (sym lost.stored)
      ∙ standing_decoded h.path h.document store lost.chunk lost.box (cell h.document.elements.fill h.table) (good h.tree h.document sound.says) sound.lossless sound.values lost.below (sound.stands lost.chunk lost.box lost.below))

  -- its document is the one that is stored
  none_changed : (path : List ℕ) → path ≡ h.path → (old : World) → old.store ≡ store → ReopenRefuses reads old path (Some h) cause.DocumentChanged → ⊥
  none_changed path same old is refuses =
      let P : List ℕ → StoreMap → Type 0 = λ p s. HasDocument p h.tree s in
      let Q : List ℕ → Type 0 = λ p. HasDocument p h.tree old.store in
      refuses h.tree (subst Q (sym same) (subst (P h.path) (sym is) sound.stored)) refl

-- a chunk that does not fit has no value
unfit_none : (reads : ReadsCodecs) (store : StoreMap) (h : Held) (region : Region) → IsSoundAt reads store h → IsUnfitIn h.path h.document store region → ⊥
unfit_none reads store h region sound unfit =
    let none = MatchBool-at_false _ _ unfit.fit (sound.stands unfit.chunk unfit.box unfit.below) in
    false≢true (sym (ap is_some none.0) ∙ unfit.stored)

unfit_stored : (reads : ReadsCodecs) (store : StoreMap) (h : Held) (chunk : List ℕ) (box : Region) (value : List ℕ) → IsSoundAt reads store h → IsInGrid h.document.grid chunk box → stored_at h.path h.document store chunk ≡ Some value → fits_box h.document box ≡ false → ⊥
unfit_stored reads store h chunk box value sound below stored unfit = let none = MatchBool-at_false _ _ unfit (sound.stands chunk box below) in none-some value (sym none.0 ∙ stored)

-- ---- the laws

-- what is held at a path is sound
abbrev IsSoundThere : ReadsCodecs → World → List ℕ → Type 0
IsSoundThere reads world path = (h : Held) → held_at path world.arrays ≡ Some h → IsSoundAt reads world.store h

module _ (reads : ReadsCodecs) (old new : World) (n : ℕ) (good : ReadsGood reads) where
  undamaged : (request : Request) → IsSoundThere reads old (path_of request) → Step reads old request (refused cause.Damage n) new → ⊥
  undamaged (create path document order) sound s = s.1.0
  undamaged (reopen path order) sound s = go (held_at path old.arrays) s.1.0 where
    go : (o : Option Held) → ReopenRefuses reads old path o cause.Damage → ⊥
    go None r = r
    go (Some h) r = r
  undamaged (write path target given options) sound s = go (held_at path old.arrays) refl s.1 where
    go : (o : Option Held) → held_at path old.arrays ≡ o → RefusesHeld o (RefusesWrite (record { target = target; cells = given; options = options })) (refusal cause.Damage n) old new → ⊥
    go None e r = r
    go (Some h) e r = ⊎_elim (λ whole. whole.0) (λ (first : WritesFirst h (record { target = target; cells = given; options = options }) (refusal cause.Damage n) old new).
        no_part_damaged reads old.store h good (sound h e) first.box first.values options n first.stops.chunk first.stops.box first.stops.nth first.stops.refuses) r
  undamaged (read path target options) sound s = go (held_at path old.arrays) refl s.1 where
    go : (o : Option Held) → held_at path old.arrays ≡ o → RefusesHeld o (RefusesRead target) (refusal cause.Damage n) old new → ⊥
    go None e r = r
    go (Some h) e r = none_damaged reads old.store h good (sound h e) r.0.0 r.0.3
  undamaged (erase path chunks) sound s = go (held_at path old.arrays) refl s.1 where
    go : (o : Option Held) → held_at path old.arrays ≡ o → RefusesHeld o (RefusesErase chunks) (refusal cause.Damage n) old new → ⊥
    go None e r = r
    go (Some h) e r = ⊎_elim (λ whole. whole.0) (λ (first : ErasesFirst h chunks (refusal cause.Damage n) old new). first.stops) r
  undamaged (compact path chunk options) sound s = go (held_at path old.arrays) refl s.1 where
    go : (o : Option Held) → held_at path old.arrays ≡ o → RefusesHeld o (RefusesCompact chunk) (refusal cause.Damage n) old new → ⊥
    go None e r = r
    go (Some h) e r = none_gaping reads old.store h good (sound h e) chunk r.0
  undamaged (rewrite path options) sound s = go (held_at path old.arrays) refl s.1 where
    go : (o : Option Held) → held_at path old.arrays ≡ o → RefusesHeld o (RefusesRewrite options) (refusal cause.Damage n) old new → ⊥
    go None e r = r
    go (Some h) e r = ⊎_elim (λ whole. whole.0) (λ (first : RewritesFirst h options (refusal cause.Damage n) old new). none_undecoded reads old.store h good (sound h e) options.store_empty_chunks n first.stops) r

  unchanged : (request : Request) → IsSoundThere reads old (path_of request) → Step reads old request (refused cause.DocumentChanged n) new → ⊥
  unchanged (create path document order) sound s = s.1.0
  unchanged (reopen path order) sound s = go (held_at path old.arrays) refl s.1.0 where
    go : (o : Option Held) → held_at path old.arrays ≡ o → ReopenRefuses reads old path o cause.DocumentChanged → ⊥
    go None e r = r
    go (Some h) e r = none_changed reads old.store h good (sound h e) path (held_at-path path old.arrays h e) old refl r
  unchanged (write path target given options) sound s = go (held_at path old.arrays) s.1 where
    go : (o : Option Held) → RefusesHeld o (RefusesWrite (record { target = target; cells = given; options = options })) (refusal cause.DocumentChanged n) old new → ⊥
    go None r = r
    go (Some h) r = ⊎_elim (λ whole. whole.0) (λ (first : WritesFirst h (record { target = target; cells = given; options = options }) (refusal cause.DocumentChanged n) old new). first.stops.refuses) r
  unchanged (read path target options) sound s = go (held_at path old.arrays) s.1 where
    go : (o : Option Held) → RefusesHeld o (RefusesRead target) (refusal cause.DocumentChanged n) old new → ⊥
    go None r = r
    go (Some h) r = r.0
  unchanged (erase path chunks) sound s = go (held_at path old.arrays) s.1 where
    go : (o : Option Held) → RefusesHeld o (RefusesErase chunks) (refusal cause.DocumentChanged n) old new → ⊥
    go None r = r
    go (Some h) r = ⊎_elim (λ whole. whole.0) (λ (first : ErasesFirst h chunks (refusal cause.DocumentChanged n) old new). first.stops) r
  unchanged (compact path chunk options) sound s = go (held_at path old.arrays) s.1 where
    go : (o : Option Held) → RefusesHeld o (RefusesCompact chunk) (refusal cause.DocumentChanged n) old new → ⊥
    go None r = r
    go (Some h) r = r.0
  unchanged (rewrite path options) sound s = go (held_at path old.arrays) s.1 where
    go : (o : Option Held) → RefusesHeld o (RefusesRewrite options) (refusal cause.DocumentChanged n) old new → ⊥
    go None r = r
    go (Some h) r = ⊎_elim (λ whole. whole.0) (λ (first : RewritesFirst h options (refusal cause.DocumentChanged n) old new). first.stops.refuses) r

pub never_damaged : NeverDamaged
never_damaged reads old new request n good sound = (undamaged reads old new n good request (sound.each (path_of request)), unchanged reads old new n good request (sound.each (path_of request)))

pub alone_undamaged : AloneUndamaged
alone_undamaged reads old new request n good alone = (undamaged reads old new n good request there, unchanged reads old new n good request there) where
  there : IsSoundThere reads old (path_of request)
  there h e = let P : Held → Type 0 = λ x. IsSoundAt reads old.store x in subst P (same_Some alone.array h (sym alone.found ∙ e)) alone.there

pub reads_fit : ReadsFit
reads_fit reads old new (read path target options) n sound asks s = go (held_at path old.arrays) refl s.1 where
  go : (o : Option Held) → held_at path old.arrays ≡ o → RefusesHeld o (RefusesRead target) (refusal cause.Fit n) old new → ⊥
  go None e r = r
  go (Some h) e r = unfit_none reads old.store h r.0.0 (sound.each path h e) r.0.3
reads_fit reads old new (compact path chunk options) n sound asks s = go (held_at path old.arrays) refl s.1 where
  go : (o : Option Held) → held_at path old.arrays ≡ o → RefusesHeld o (RefusesCompact chunk) (refusal cause.Fit n) old new → ⊥
  go None e r = r
  go (Some h) e r = let f : IsNotCompacted (array_of h) old.store chunk cause.Fit = r.0 in unfit_stored reads old.store h chunk f.box f.value (sound.each path h e) f.below f.stored f.refuses
reads_fit reads old new (rewrite path options) n sound asks s = go (held_at path old.arrays) refl s.1 where
  go : (o : Option Held) → held_at path old.arrays ≡ o → RefusesHeld o (RefusesRewrite options) (refusal cause.Fit n) old new → ⊥
  go None e r = r
  go (Some h) e r = ⊎_elim (λ whole. whole.0) (λ (first : RewritesFirst h options (refusal cause.Fit n) old new).
      let f : IsNotRewritten (array_of h) old.store options.store_empty_chunks n cause.Fit = first.stops in
      unfit_stored reads old.store h f.chunk f.box f.value (sound.each path h e) f.below f.stored f.refuses) r
reads_fit reads old new request n sound asks s = absurd asks
