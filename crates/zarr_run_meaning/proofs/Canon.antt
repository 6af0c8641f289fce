-- What a rewrite leaves is what storing the array's cells afresh leaves.
use Rattle.std.proofs.Common.{◌≡◌, ◌∙◌, ⊎_elim, ℕ, Bool, true, false, ◌||◌, List, map, take, refl, sym, ap, subst, Option, Some, None, is_some}
use Rattle.std.specs.Prelude.{not}
use Rattle.std.specs.FinMap.{get}
use Rattle.std.proofs.lemmas.Bool.{false≢true}
use Rattle.std.proofs.lemmas.Option.{same_Some}
use Rattle.zarr_grids_boxes.specs.Boxes.{Region, places}
use Rattle.zarr_grids_chunks.specs.Grids.{chunk_box, chunk_indices, IsInGrid}
use Rattle.zarr_grids_chunks.proofs.Filters.{told, any-filter}
use Rattle.zarr_grids_cover.specs.Boxed.{boxed_chunks}
use Rattle.zarr_codecs_meaning.specs.Chunks.{IsStored}
use Rattle.zarr_codecs_meaning.specs.Encoding.{stored_chunk}
use Rattle.zarr_codecs_meaning.specs.Types.{Cell, is_fill}
use Rattle.zarr_sharding_values.proofs.StoredAfresh.{encoded_fresh, absent_fresh, fresh_once}
use Rattle.zarr_codecs_metadata.specs.Chains.{ReadsCodecs}
use Rattle.zarr_codecs_options.specs.declared.codec_options.CodecOptions.{CodecOptions}
use Rattle.zarr_array_meaning.specs.Arrays.{value_at}
use Rattle.zarr_array_meaning.specs.Chunks.{is_listed}
use Rattle.zarr_array_meaning.specs.Rewriting.{RewroteChunks, keyed_chunks, IsCanonAt}
use Rattle.zarr_array_meaning.specs.Standing.{IsGood}
use Rattle.zarr_array_meaning.specs.StoreMaps.{StoreMap}
use Rattle.zarr_array_meaning.proofs.Showing.{are_cells, listed_chunk}
use Rattle.zarr_run_meaning.specs.declared.cause.Cause.{Cause}
use Rattle.zarr_run_meaning.specs.Changes.{Rewrites, RewritesChunks}
use Rattle.zarr_run_meaning.specs.Requests.{refusal, rewrite, Answer, done, cells, compacted, refused}
use Rattle.zarr_run_meaning.specs.Rewrites.{IsCanonHeld, AreCanonFirst, RewritesCanon, SameValues, CanonStays}
use Rattle.zarr_run_meaning.specs.Sound.{IsSoundAt, IsSoundAlone}
use Rattle.zarr_run_meaning.specs.Steps.{Stays, RewritesFirst, RefusesRewrite, Step}
use Rattle.zarr_run_meaning.specs.Tables.{cell}
use Rattle.zarr_run_meaning.specs.Worlds.{Held, World, array_of, held_at, writes_exactly}
use Rattle.zarr_run_meaning.proofs.Changed.{same_table}
use Rattle.zarr_run_meaning.proofs.Documents.{formed}
use Rattle.zarr_run_meaning.proofs.Effects.{at_cases, held_cases, first_below, keyed_below}
use Rattle.zarr_run_meaning.proofs.Keys.{AreBelow, chunk_kept, key_listed}
use Rattle.zarr_run_meaning.proofs.Reading.{box_same}
use Rattle.zarr_run_meaning.proofs.StoredAnew.{same_cells}

-- ---- the chunks of an array that is sound

module _ (reads : ReadsCodecs) (h : Held) (old new : StoreMap) (good : IsGood h.document) (sound : IsSoundAt reads old h) where
  -- the cells of a chunk
  abbrev cells_in : Region → List Cell
  cells_in box = map (cell h.document.elements.fill h.table) (places box.start box.shape)

  abbrev StandsBy : Region → Option (List ℕ) → Type 0
  StandsBy box stored = IsStored h.document.chain h.document.elements box.shape stored (cells_in box)

  abbrev Canonical : Region → Option (List ℕ) → Type 0
  Canonical box stored = stored_chunk h.document.chain h.document.elements box.shape (cells_in box) ≡ Some stored

  -- a chunk that has no value holds what storing its cells afresh leaves
  none_canon : (chunk : List ℕ) (box : Region) → IsInGrid h.document.grid chunk box → value_at (array_of h) old chunk ≡ None → Canonical box None
  none_canon chunk box below none =
      absent_fresh h.document.chain h.document.elements box.shape (cells_in box) (subst (StandsBy box) none (sound.stands chunk box below))

  module _ (chunks : List (List ℕ)) (store_empty : Bool) (exact : writes_exactly h ≡ true) (unstored : store_empty ≡ false) (r : RewroteChunks (array_of h) store_empty chunks old new) where
    -- and one that was stored anew
    pub anew_canon : (chunk : List ℕ) (box : Region) → IsInGrid h.document.grid chunk box → is_listed chunks chunk ≡ true → IsCanonAt (array_of h) new chunk box (cell h.document.elements.fill h.table)
    anew_canon chunk box below listed =
        let e = r.each chunk box below listed in
        let stored = value_at (array_of h) new chunk in
        let same = same_cells (array_of h) store_empty box.shape e.0 stored (cells_in box) good sound.lossless
        (are_cells h.document chunk box (cell h.document.elements.fill h.table) (box_same h.document chunk box below) good sound.values below) (subst (StandsBy box) e.1 (sound.stands chunk box below)) e.2 in
        let P : List Cell → Type 0 = λ cs. stored_chunk h.document.chain h.document.elements box.shape cs ≡ Some stored in
        subst P same (encoded_fresh h.document.chain h.document.elements box.shape stored e.2.cells
        (e.2.key ∙ ap (λ b. b || not (is_fill h.document.elements.fill e.2.cells)) unstored) (e.2.encodes exact))

    -- where it held that before, it holds the same value
    pub anew_same : AreBelow h.document.grid chunks → IsCanonHeld old h → SameValues old new
    anew_same are canon key = ⊎_elim
        (λ c.
        let b = are.below c.0 c.1 in
        let before = (canon c.0 b.0 b.1).0 (r.each c.0 b.0 b.1 c.1).2.fit in
        ap (get new) c.2 ∙ fresh_once h.document.chain h.document.elements b.0.shape _ _ (cells_in b.0) (anew_canon c.0 b.0 b.1 c.1) before ∙ sym (ap (get old) c.2))
        (λ ne. r.others key ne)
        (key_listed h.path h.document chunks key)

  -- each chunk that has a value was stored anew
  module _ (store_empty : Bool) (exact : writes_exactly h ≡ true) (unstored : store_empty ≡ false) (r : RewroteChunks (array_of h) store_empty (keyed_chunks (array_of h) old) old new) where
    listed_keyed : (chunk : List ℕ) (box : Region) → IsInGrid h.document.grid chunk box → is_some (value_at (array_of h) old chunk) ≡ true → is_listed (keyed_chunks (array_of h) old) chunk ≡ true
    listed_keyed chunk box below has =
        any-filter (λ c. is_some (value_at (array_of h) old c)) chunk (boxed_chunks h.document.grid)
        (any-filter (λ c. is_some (chunk_box h.document.grid c)) chunk (chunk_indices h.document.grid) (listed_chunk h.document.grid chunk box below) (ap is_some below.has_box)) has

    not_keyed : (chunk : List ℕ) (box : Region) → IsInGrid h.document.grid chunk box → is_listed (keyed_chunks (array_of h) old) chunk ≡ false → value_at (array_of h) old chunk ≡ None
    not_keyed chunk box below not = go (value_at (array_of h) old chunk) refl where
      go : (o : Option (List ℕ)) → value_at (array_of h) old chunk ≡ o → o ≡ None
      go None e = refl
      go (Some value) e = absurd (false≢true (sym not ∙ listed_keyed chunk box below (ap is_some e)))

    pub all_canon : IsCanonHeld new h
    all_canon chunk box below = ⊎_elim
        (λ l. (λ fit. anew_canon (keyed_chunks (array_of h) old) store_empty exact unstored r chunk box below l, λ key. (r.each chunk box below l).2.fit))
        (λ u.
        let none = not_keyed chunk box below u in
        let still = chunk_kept h.path h.document (keyed_chunks (array_of h) old) old new chunk box (formed reads h.tree h.document sound.says) (keyed_below (array_of h) old) r.others below u ∙ none in
        (λ fit. subst (Canonical box) (sym still) (none_canon chunk box below none), λ key. absurd (false≢true (sym (ap is_some still) ∙ key))))
        (told (is_listed (keyed_chunks (array_of h) old) chunk))

-- ---- a rewrite

pub sound_there : (reads : ReadsCodecs) (world : World) (path : List ℕ) (h : Held) → IsSoundAlone reads world path → held_at path world.arrays ≡ Some h → IsSoundAt reads world.store h
sound_there reads world path h alone found = let P : Held → Type 0 = λ x. IsSoundAt reads world.store x in subst P (same_Some alone.array h (sym alone.found ∙ found)) alone.there

module _ (reads : ReadsCodecs) (old new : World) (path : List ℕ) (options : CodecOptions) (h : Held) (found : held_at path old.arrays ≡ Some h) where
  rewrites_all : Rewrites path options old new → RewritesChunks h options (keyed_chunks (array_of h) old.store) old new
  rewrites_all r = let P : Held → Type 0 = λ x. RewritesChunks x options (keyed_chunks (array_of x) old.store) old new in subst P (same_Some r.held h (sym r.found ∙ found)) r.rewrites

  -- how a rewrite of the array is refused
  refused_cases : (c : Cause) (n : ℕ) (P : Type 0) → Step reads old (rewrite path options) (refused c n) new → (Stays c n old new → P) → (RewritesChunks h options (take n (keyed_chunks (array_of h) old.store)) old new → P) → P
  refused_cases c n P s stays rewrites = at_cases reads (rewrite path options) c n old new P s stays (λ r.
      held_cases (held_at path old.arrays) (RefusesRewrite options) c n old new P r stays (λ g at.
      ⊎_elim (λ whole. stays whole.1) (λ (first : RewritesFirst g options (refusal c n) old new).
      let Q : Held → Type 0 = λ x. RewritesChunks x options (take n (keyed_chunks (array_of x) old.store)) old new in
      rewrites (subst Q (same_Some g h (sym at ∙ found)) first.rewrites))))

pub rewrites_canon : RewritesCanon
rewrites_canon reads old new path options h good alone found exact unstored = (all, first) where
  there : IsSoundAt reads old.store h
  there = sound_there reads old path h alone found

  all : Step reads old (rewrite path options) done new → (held_at path new.arrays ≡ Some h) × IsCanonHeld new.store h
  all s =
      let r = rewrites_all reads old new path options h found s.0 in
      (same_table path h old new found r.updates, all_canon reads h old.store new.store (good h.tree h.document there.says) there options.store_empty_chunks exact unstored r.stores)

  first : (c : Cause) (n : ℕ) → Step reads old (rewrite path options) (refused c n) new → AreCanonFirst h (take n (keyed_chunks (array_of h) old.store)) old.store new.store
  first c n s = refused_cases reads old new path options h found c n (AreCanonFirst h (take n (keyed_chunks (array_of h) old.store)) old.store new.store) s
      (λ k. record {
        canon = λ chunk box below listed. let P : ℕ → Type 0 = λ m. is_listed (take m (keyed_chunks (array_of h) old.store)) chunk ≡ true in absurd (false≢true (subst P k.applied listed));
        others = λ key ne. ap (λ (w : World). get w.store key) k.is;
      })
      (λ r. record {
        canon = anew_canon reads h old.store new.store (good h.tree h.document there.says) there (take n (keyed_chunks (array_of h) old.store)) options.store_empty_chunks exact unstored r.stores;
        others = r.stores.others;
      })

pub canon_stays : CanonStays
canon_stays reads old new path options answer good canon exact unstored s = go answer s where
  h : Held
  h = canon.sound.array

  there : IsSoundAt reads old.store h
  there = canon.sound.there

  keyed : List (List ℕ)
  keyed = keyed_chunks (array_of h) old.store

  same : (chunks : List (List ℕ)) → AreBelow h.document.grid chunks → RewritesChunks h options chunks old new → SameValues old.store new.store
  same chunks are r = anew_same reads h old.store new.store (good h.tree h.document there.says) there chunks options.store_empty_chunks exact unstored r.stores are canon.canon

  go : (a : Answer) → Step reads old (rewrite path options) a new → SameValues old.store new.store
  go done t = same keyed (keyed_below (array_of h) old.store) (rewrites_all reads old new path options h canon.sound.found t.0)
  go (cells payload) t = absurd t
  go (compacted changed) t = absurd t
  go (refused c n) t = refused_cases reads old new path options h canon.sound.found c n (SameValues old.store new.store) t
      (λ k key. ap (λ (w : World). get w.store key) k.is)
      (same (take n keyed) (first_below h.document.grid n keyed (keyed_below (array_of h) old.store)))
