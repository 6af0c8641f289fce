-- What is stored for the chunks of an array stays tight.
use Rattle.std.proofs.Common.{◌≡◌, ◌∙◌, ℕ, Bool, true, false, if◌then◌else◌, List, map, length, refl, sym, ap, subst, ⊎_elim, Option, Some, None, is_some}
use Rattle.std.specs.Prelude.{MatchBool}
use Rattle.std.specs.List.{list_any}
use Rattle.zarr_grids_boxes.specs.Boxes.{Region, product, places, is_in_box}
use Rattle.zarr_grids_chunks.specs.Grids.{IsInGrid, lies_in_chunk, intersecting}
use Rattle.zarr_grids_chunks.proofs.Filters.{told}
use Rattle.zarr_grids_chunks.proofs.Partition.{lies_here, any_at}
use Rattle.zarr_grids_keys.specs.Keys.{encoded_key}
use Rattle.zarr_codecs_meaning.specs.Chunks.{IsStored}
use Rattle.zarr_codecs_meaning.specs.Fits.{fits}
use Rattle.zarr_codecs_meaning.specs.Types.{Cell, same_cell}
use Rattle.zarr_codecs_types.specs.SameEquivalence.{same_cell_decides}
use Rattle.zarr_codecs_metadata.specs.Chains.{ReadsCodecs}
use Rattle.zarr_codecs_options.specs.declared.codec_options.CodecOptions.{CodecOptions}
use Rattle.zarr_codecs_traits.specs.PartWriting.{ChunkTight}
use Rattle.zarr_sharding_values.proofs.StoredAfresh.{fresh_tight}
use Rattle.zarr_array_meaning.specs.Arrays.{value_at}
use Rattle.zarr_array_meaning.specs.Chunks.{stored_at, is_listed}
use Rattle.zarr_array_meaning.specs.Documents.{Document}
use Rattle.zarr_array_meaning.specs.Standing.{ChunkTightAt, IsGood}
use Rattle.zarr_array_meaning.specs.StoreMaps.{StoreMap}
use Rattle.zarr_array_meaning.specs.Writes.{write_to}
use Rattle.zarr_array_meaning.specs.Writing.{WroteChunks, ErasedChunks, written_over}
use Rattle.zarr_array_meaning.proofs.Showing.{are_cells, each_inside, each_place}
use Rattle.zarr_run_meaning.specs.Sound.{IsSoundAt}
use Rattle.zarr_run_meaning.specs.Tables.{Table, cell}
use Rattle.zarr_run_meaning.specs.Tight.{IsTightHeld, NoChunksAreTight, CanonTight}
use Rattle.zarr_run_meaning.specs.Worlds.{Held, array_of, writes_exactly}
use Rattle.zarr_run_meaning.proofs.Documents.{formed}
use Rattle.zarr_run_meaning.proofs.Frames.{IsWritten, IsErased, written_cell, erased_cell}
use Rattle.zarr_run_meaning.proofs.Keys.{AreBelow, KeepsUnder, chunk_kept}
use Rattle.zarr_run_meaning.proofs.Reading.{box_same}
use Rattle.zarr_run_meaning.proofs.Standing.{each_same}
use Rattle.zarr_run_meaning.proofs.StoredAnew.{KeepsCells}
use Rattle.zarr_run_meaning.proofs.Tables.{unlisted_lies}

-- ---- one chunk

-- where two functions have the same cells in a chunk, what is tight with the one is tight with the other
pub tight_alike : (path : List ℕ) (document : Document) (store : StoreMap) (chunk : List ℕ) (box : Region) (f g : List ℕ → Cell) → IsInGrid document.grid chunk box → ((place : List ℕ) → is_in_box box.start box.shape place ≡ true → f place ≡ g place)
    → ChunkTightAt document box (stored_at path document store chunk) f → ChunkTightAt document box (stored_at path document store chunk) g
tight_alike path document store chunk box f g below same tight =
    let P : List Cell → Type 0 = λ cs. ChunkTight document.chain document.elements box.shape (stored_at path document store chunk) cs in
    subst P (each_same f g (places box.start box.shape) (each_inside (λ p. f p ≡ g p) box.start box.shape (box_same document chunk box below) same)) tight

-- where the same is stored
pub tight_same : (path : List ℕ) (document : Document) (old new : StoreMap) (chunk : List ℕ) (box : Region) (cells : List ℕ → Cell) → stored_at path document new chunk ≡ stored_at path document old chunk
    → ChunkTightAt document box (stored_at path document old chunk) cells → ChunkTightAt document box (stored_at path document new chunk) cells
tight_same path document old new chunk box cells same tight =
    let P : Option (List ℕ) → Type 0 = λ o. ChunkTight document.chain document.elements box.shape o (map cells (places box.start box.shape)) in
    subst P (sym same) tight

-- no value is tight with the fill value alone
none_tight : (path : List ℕ) (document : Document) (store : StoreMap) (chunk : List ℕ) (box : Region) (cells : List ℕ → Cell) → IsInGrid document.grid chunk box → stored_at path document store chunk ≡ None
    → ((place : List ℕ) → is_in_box box.start box.shape place ≡ true → cells place ≡ document.elements.fill) → ChunkTightAt document box (stored_at path document store chunk) cells
none_tight path document store chunk box cells below none all =
    let P : Option (List ℕ) → Type 0 = λ o. ChunkTight document.chain document.elements box.shape o (map cells (places box.start box.shape)) in
    subst P (sym none) (each_place (λ c. same_cell c document.elements.fill) cells (places box.start box.shape)
    (each_inside (λ p. same_cell (cells p) document.elements.fill ≡ true) box.start box.shape (box_same document chunk box below) (λ p inside. (same_cell_decides (cells p) document.elements.fill).1 (all p inside))))

pub no_chunks_are_tight : NoChunksAreTight
no_chunks_are_tight path document store none chunk box below = none_tight path document store chunk box (λ place. document.elements.fill) below (none chunk box below) (λ place inside. refl)

-- ---- an array whose keys stay

pub tight_under : (old new : StoreMap) (h : Held) → KeepsUnder h.path old new → IsTightHeld old h → IsTightHeld new h
tight_under old new h same tight chunk box below = tight_same h.path h.document old new chunk box (cell h.document.elements.fill h.table) (same.under (encoded_key h.document.keys chunk)) (tight chunk box below)

-- ---- after a write

module _ (reads : ReadsCodecs) (h : Held) (old new : StoreMap) (region : Region) (values : List Cell) (options : CodecOptions) (chunks : List (List ℕ)) (table : Table) where
  pub written_tight : IsWritten h old new region values options chunks table → ((chunk : List ℕ) → is_listed chunks chunk ≡ true → is_listed (intersecting h.document.grid region) chunk ≡ true)
      → length values ≡ product region.shape → writes_exactly h ≡ true → WroteChunks (write_to (array_of h) region values options) chunks old new → IsSoundAt reads old h → IsTightHeld old h → IsTightHeld new (record h { table = table })
  written_tight is few many exact w s tight chunk box below =
      tight_alike h.path h.document new chunk box (written_over (write_to (array_of h) region values options) chunks (cell h.document.elements.fill h.table)) (cell h.document.elements.fill table) below
      (λ place inside. sym (written_cell h old new region values options chunks table is few many place))
      (w.tight exact s.lossless (cell h.document.elements.fill h.table) s.values chunk box below (tight chunk box below))

-- ---- after an erasure

module _ (reads : ReadsCodecs) (h : Held) (old new : StoreMap) (chunks : List (List ℕ)) (table : Table) where
  pub erased_tight : IsErased h old new chunks table → AreBelow h.document.grid chunks → ErasedChunks h.path h.document chunks old new → IsSoundAt reads old h → IsTightHeld old h → IsTightHeld new (record h { table = table })
  erased_tight is are e s tight chunk box below = ⊎_elim
      (λ l. none_tight h.path h.document new chunk box (cell h.document.elements.fill table) below (e.gone chunk l) (λ place inside.
      same place ∙ ap (λ b. if b then h.document.elements.fill else cell h.document.elements.fill h.table place) (any_at (lies_in_chunk h.document.grid place) chunk chunks l (lies_here h.document.grid chunk place box below.has_box ∙ inside))))
      (λ u. tight_same h.path h.document old new chunk box (cell h.document.elements.fill table) (chunk_kept h.path h.document chunks old new chunk box (formed reads h.tree h.document s.says) are e.others below u)
      (tight_alike h.path h.document old chunk box (cell h.document.elements.fill h.table) (cell h.document.elements.fill table) below
      (λ place inside. sym (same place ∙ ap (λ b. if b then h.document.elements.fill else cell h.document.elements.fill h.table place) (unlisted_lies h.document.grid chunks chunk place u (lies_here h.document.grid chunk place box below.has_box ∙ inside))))
      (tight chunk box below)))
      (told (is_listed chunks chunk)) where
        same : (place : List ℕ) → cell h.document.elements.fill table place ≡ (if list_any (lies_in_chunk h.document.grid place) chunks then h.document.elements.fill else cell h.document.elements.fill h.table place)
        same place = erased_cell h old new chunks table is place

-- ---- where chunks were stored anew

pub anew_tight : (reads : ReadsCodecs) (h : Held) (old new : StoreMap) (chunks : List (List ℕ)) → IsGood h.document → writes_exactly h ≡ true → AreBelow h.document.grid chunks → KeepsCells h chunks old new → IsSoundAt reads old h → IsTightHeld old h
    → IsTightHeld new (record h { table = h.table })
anew_tight reads h old new chunks good exact are k s tight chunk box below = ⊎_elim
    (λ l. k.tight good s.lossless exact (cell h.document.elements.fill h.table) s.values chunk box below l (s.stands chunk box below) (tight chunk box below))
    (λ u. tight_same h.path h.document old new chunk box (cell h.document.elements.fill h.table) (chunk_kept h.path h.document chunks old new chunk box (formed reads h.tree h.document s.says) are k.others below u) (tight chunk box below))
    (told (is_listed chunks chunk))

-- ---- what storing cells afresh leaves

filled : (b : Bool) (P Q : Type 0) → MatchBool b P (Q × P) → P
filled true P Q h = h
filled false P Q h = h.1

pub canon_tight : CanonTight
canon_tight reads store h good s canon chunk box below = go (value_at (array_of h) store chunk) refl where
  shown : List Cell
  shown = map (cell h.document.elements.fill h.table) (places box.start box.shape)

  go : (o : Option (List ℕ)) → value_at (array_of h) store chunk ≡ o → ChunkTight h.document.chain h.document.elements box.shape (value_at (array_of h) store chunk) shown
  go None e =
      let Q : Option (List ℕ) → Type 0 = λ o. ChunkTight h.document.chain h.document.elements box.shape o shown in
      let P : Option (List ℕ) → Type 0 = λ o. IsStored h.document.chain h.document.elements box.shape o shown in
      subst Q (sym e) (filled (fits h.document.chain h.document.elements.type box.shape) _ _ (subst P e (s.stands chunk box below)))
  go (Some value) e =
      let Q : Option (List ℕ) → Type 0 = λ o. ChunkTight h.document.chain h.document.elements box.shape o shown in
      let is = canon chunk box below in
      let fit = is.1 (ap is_some e) in
      let good_document = good h.tree h.document s.says in
      subst Q (sym e) (fresh_tight h.document.chain h.document.elements box.shape value shown good_document.lawful fit s.lossless
      (are_cells h.document chunk box (cell h.document.elements.fill h.table) (box_same h.document chunk box below) good_document s.values below) (is.0 fit ∙ ap Some e))
