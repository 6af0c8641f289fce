-- The cells with which arrays begin: those that their stored chunks stand for.
use Rattle.std.proofs.Common.{◌≡◌, ◌∙◌, ⊎_elim, ℕ, List, refl, sym, ap, subst, true, false, Some, None, Ok}
use Rattle.std.specs.FinMap.{get}
use Rattle.std.proofs.lemmas.Option.{none-some, same_Some}
use Rattle.serde_json.specs.Data.{Data}
use Rattle.zarr_grids_keys.specs.Documents.{document_key, document_name}
use Rattle.zarr_grids_keys.specs.Keys.{encoded_key}
use Rattle.zarr_grids_keys.specs.Paths.{is_node_path}
use Rattle.zarr_grids_keys.specs.declared.document_name.DocumentName.TheVariants.{ZarrJson}
use Rattle.zarr_grids_keys.proofs.RelatedLemmas.{key_under-unrelated}
use Rattle.zarr_codecs_meaning.specs.Types.{Cell, is_value}
use Rattle.zarr_codecs_metadata.specs.Chains.{ReadsCodecs}
use Rattle.zarr_codecs_options.specs.declared.subchunk_write_order.SubchunkWriteOrder.{SubchunkWriteOrder}
use Rattle.zarr_array_v2.specs.Versions.{is_version_2}
use Rattle.zarr_array_meaning.specs.Chunks.{stored_at}
use Rattle.zarr_array_meaning.specs.Documents.{Document, read_document}
use Rattle.zarr_array_meaning.specs.Standing.{IsGood}
use Rattle.zarr_array_meaning.specs.StoreMaps.{StoreMap}
use Rattle.zarr_array_meaning.specs.Texts.{HasDocument}
use Rattle.zarr_array_meaning.specs.Written.{written_document}
use Rattle.zarr_array_meaning.proofs.ReadsBack.{read_document-written_document}
use Rattle.zarr_array_meaning.proofs.Stored.{stored_reads_back}
use Rattle.zarr_run_meaning.specs.Causes.{IsChunkKeyIn}
use Rattle.zarr_run_meaning.specs.Changes.{Creates, Reopens, Opens}
use Rattle.zarr_run_meaning.specs.Laws.{SameCells, HasCells, NoChunksAreFill, CreatesCells, CreatesFill, OpensCells}
use Rattle.zarr_run_meaning.specs.Sound.{IsSoundAt, IsStoredAs, ReadsGood}
use Rattle.zarr_run_meaning.specs.Tables.{Table, cell}
use Rattle.zarr_run_meaning.specs.Worlds.{Held, World, held_at, is_taken, IsTableAt}
use Rattle.zarr_run_meaning.proofs.Arrays.{AreNodes, held_at-new, free_of, free_none}
use Rattle.zarr_run_meaning.proofs.Reading.{standing_reads}
use Rattle.zarr_run_meaning.proofs.Standing.{none_stands, stands_alike, stands_same}
use Rattle.zarr_run_meaning.proofs.Stored.{PutsDocuments, document_put, put_chunk, json_stays}

-- a table that shows what stands for cells has these
pub stored_cells : (path : List ℕ) (document : Document) (store : StoreMap) (table : Table) (cells : List ℕ → Cell) → IsGood document → IsStoredAs path document store cells → IsTableAt path document store table
    → SameCells document (cell document.elements.fill table) cells
stored_cells path document store table cells good s shows chunk box place below inside =
    sym (shows s.lossless chunk box place (cells place) below inside (standing_reads path document store chunk box cells good s.lossless s.values below (s.stands chunk box below) place inside))

-- where the same is stored
pub stored_same : (path : List ℕ) (document : Document) (old new : StoreMap) (cells : List ℕ → Cell) → ((chunk : List ℕ) → stored_at path document new chunk ≡ stored_at path document old chunk) → IsStoredAs path document old cells → IsStoredAs path document new cells
stored_same path document old new cells same s = record {
  lossless = s.lossless;
  values = s.values;
  stands = λ chunk box below. stands_same path document old new chunk box cells (same chunk) (s.stands chunk box below);
}

-- an array that has the cells that its stored chunks stand for is sound
pub begun_sound : (reads : ReadsCodecs) (store : StoreMap) (h : Held) (cells : List ℕ → Cell) → is_node_path h.path ≡ true → read_document reads h.tree ≡ Ok h.document → HasDocument h.path h.tree store
    → (is_version_2 h.tree ≡ true → get store (document_key h.path ZarrJson) ≡ None) → IsStoredAs h.path h.document store cells → HasCells h cells → IsSoundAt reads store h
begun_sound reads store h cells node says stored first s same = record {
  node = node;
  says = says;
  stored = stored;
  first = first;
  lossless = s.lossless;
  values = λ chunk box place below inside. ap (is_value h.document.elements.type) (same chunk box place below inside) ∙ s.values chunk box place below inside;
  stands = λ chunk box below. stands_alike h.path h.document store chunk box cells (cell h.document.elements.fill h.table) below (λ place inside. sym (same chunk box place below inside)) (s.stands chunk box below);
}

pub no_chunks_are_fill : NoChunksAreFill
no_chunks_are_fill path document store good lossless none = record {
  lossless = lossless;
  values = λ chunk box place below inside. good.fill;
  stands = λ chunk box below. none_stands path document store chunk box (λ place. document.elements.fill) below (none chunk box below) (λ place inside. refl);
}

-- ---- what begins has these cells

module _ (reads : ReadsCodecs) (old new : World) (path : List ℕ) (document : Data) (order : SubchunkWriteOrder) (c : Creates reads (record { path = path; document = document; order = order }) old new) where
  abbrev pub created_array : Held
  created_array = record { path = path; tree = written_document document; document = c.meaning; order = order; table = c.table }

  -- the array that is held afterwards at the path is the new one
  pub created_held : (h : Held) → held_at path new.arrays ≡ Some h → h ≡ created_array
  created_held h e = same_Some h created_array (sym e ∙ ap (held_at path) c.begins.holds ∙ held_at-new path old.arrays created_array (free_none path old.arrays c.free) refl)

  -- only keys of its documents changed
  pub created_put : PutsDocuments path old.store new.store
  created_put = document_put path (written_document document) old.store new.store c.stores

  -- and it is sound, where its chunks stand for cells
  pub created_there : ReadsGood reads → (cells : List ℕ → Cell) × IsStoredAs path c.meaning old.store cells → IsSoundAt reads new.store created_array
  created_there good begins =
      begun_sound reads new.store created_array begins.0 c.node (read_document-written_document reads document c.meaning c.opens)
      (stored_reads_back path document old.store new.store c.stores)
      (λ older. json_stays path (written_document document) old.store new.store c.stores older ∙ c.fresh.zarr_json)
      (stored_same path c.meaning old.store new.store begins.0 (put_chunk path c.meaning old.store new.store created_put) begins.1)
      (stored_cells path c.meaning old.store c.table begins.0 (good document c.meaning c.opens) begins.1 c.begins.shows)

module _ (reads : ReadsCodecs) (old new : World) (path : List ℕ) (order : SubchunkWriteOrder) (o : Opens reads path order old new) where
  abbrev pub opened_array : Held
  opened_array = record { path = path; tree = o.tree; document = o.meaning; order = order; table = o.table }

  pub opened_held : (h : Held) → held_at path new.arrays ≡ Some h → h ≡ opened_array
  opened_held h e = same_Some h opened_array (sym e ∙ ap (held_at path) o.begins.holds ∙ held_at-new path old.arrays opened_array o.begins.free refl)

  -- beside a document of version 2 none of version 3 is stored, at a path that is unrelated to all that are held
  opened_first : (is_node_path path ≡ true) → AreNodes old.arrays → is_taken path old.arrays ≡ false → is_version_2 o.tree ≡ true → get old.store (document_key path ZarrJson) ≡ None
  opened_first node nodes free older = ⊎_elim
      (λ none. none)
      (λ (k : IsChunkKeyIn old.arrays (document_key path ZarrJson)).
      absurd (key_under-unrelated path k.held.path (document_name ZarrJson) (encoded_key k.held.document.keys k.names.chunk) node (nodes k.held.path k.held k.found) (free_of path k.held.path old.arrays k.held free k.found) k.names.is))
      (o.found.first older)

  pub opened_there : ReadsGood reads → AreNodes old.arrays → is_taken path old.arrays ≡ false → (cells : List ℕ → Cell) × IsStoredAs path o.meaning old.store cells → IsSoundAt reads old.store opened_array
  opened_there good nodes free begins =
      begun_sound reads old.store opened_array begins.0 o.node o.opens o.found.stored (opened_first o.node nodes free) begins.1
      (stored_cells path o.meaning old.store o.table begins.0 (good o.tree o.meaning o.opens) begins.1 o.begins.shows)

pub creates_cells : CreatesCells
creates_cells reads old new path document order h cells good s e =
    let c = s.0 in
    let P : Held → Type 0 = λ x. IsStoredAs path x.document old.store cells → HasCells x cells in
    subst P (sym (created_held reads old new path document order c h e)) (λ stored. stored_cells path c.meaning old.store c.table cells (good document c.meaning c.opens) stored c.begins.shows)

pub creates_fill : CreatesFill
creates_fill reads old new path document order h good s e lossless none =
    let c = s.0 in
    let is = created_held reads old new path document order c h e in
    let P : Held → Type 0 = λ x. IsGood x.document in
    creates_cells reads old new path document order h (λ place. h.document.elements.fill) good s e
    (no_chunks_are_fill path h.document old.store (subst P (sym is) (good document c.meaning c.opens)) lossless none)

pub opens_cells : OpensCells
opens_cells reads old new path order h cells good none s e = ⊎_elim
    (λ (again : Reopens path order old new). absurd (none-some again.held (sym none ∙ again.found)))
    (λ (o : Opens reads path order old new).
    let P : Held → Type 0 = λ x. IsStoredAs path x.document old.store cells → HasDocument path x.tree old.store × (read_document reads x.tree ≡ Ok x.document) × HasCells x cells in
    subst P (sym (opened_held reads old new path order o h e))
    (λ stored. (o.found.stored, o.opens, stored_cells path o.meaning old.store o.table cells (good o.tree o.meaning o.opens) stored o.begins.shows)))
    s.0
