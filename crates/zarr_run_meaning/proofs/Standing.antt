-- Which cells what is stored stands for, after a create, a write and an erasure, and where chunks were stored anew.
use Rattle.std.proofs.Common.{◌≡◌, ◌∙◌, ℕ, Bool, true, false, if◌then◌else◌, ◌&&◌, List, [], ◌∷◌, map, length, refl, sym, ap, subst, ⊎_elim, Option, None}
use Rattle.std.specs.Prelude.{MatchBool}
use Rattle.std.specs.List.{list_all, list_any}
use Rattle.zarr_grids_boxes.specs.Boxes.{Region, product, places, is_in_box}
use Rattle.zarr_grids_chunks.specs.Grids.{IsInGrid, lies_in_chunk, intersecting}
use Rattle.zarr_grids_chunks.proofs.Filters.{told}
use Rattle.zarr_grids_chunks.proofs.Partition.{lies_here, any_at}
use Rattle.zarr_grids_keys.specs.Documents.{document_name}
use Rattle.zarr_grids_keys.specs.Keys.{encoded_key}
use Rattle.zarr_codecs_meaning.specs.Types.{Cell, DataType, is_value, is_fill, same_cell}
use Rattle.zarr_codecs_meaning.specs.Fits.{fits}
use Rattle.zarr_codecs_meaning.specs.Chunks.{IsStored}
use Rattle.zarr_codecs_meaning.proofs.Lists.{Each}
use Rattle.zarr_codecs_types.specs.SameEquivalence.{same_cell_decides}
use Rattle.zarr_codecs_metadata.specs.Chains.{ReadsCodecs}
use Rattle.zarr_codecs_options.specs.declared.codec_options.CodecOptions.{CodecOptions}
use Rattle.zarr_grids_keys.specs.declared.document_name.DocumentName.TheVariants.{ZarrJson}
use Rattle.zarr_array_meaning.specs.Boxes.{cell_of_box, lies_in_any, replaced_in}
use Rattle.zarr_array_meaning.specs.Chunks.{stored_at, is_listed, KeepsOtherKeys}
use Rattle.zarr_array_meaning.specs.Documents.{Document}
use Rattle.zarr_array_meaning.specs.Standing.{ChunkStandsAt, StoreStands, IsGood, AreValues}
use Rattle.zarr_array_meaning.specs.StoreMaps.{StoreMap}
use Rattle.zarr_array_meaning.specs.Writes.{write_to}
use Rattle.zarr_array_meaning.specs.Writing.{WroteChunks, ErasedChunks}
use Rattle.zarr_array_meaning.proofs.Showing.{each_inside, each_place}
use Rattle.zarr_run_meaning.specs.Sound.{IsSoundAt}
use Rattle.zarr_run_meaning.specs.Tables.{Table, cell}
use Rattle.zarr_run_meaning.specs.Worlds.{Held, array_of}
use Rattle.zarr_run_meaning.proofs.Documents.{formed}
use Rattle.zarr_run_meaning.proofs.Frames.{IsWritten, IsErased, written_cell, erased_cell}
use Rattle.zarr_run_meaning.proofs.Keys.{AreBelow, KeepsUnder, chunk_kept, documents_kept}
use Rattle.zarr_run_meaning.proofs.Reading.{box_same}
use Rattle.zarr_run_meaning.proofs.Stored.{document_stays, under_documents}
use Rattle.zarr_run_meaning.proofs.StoredAnew.{KeepsCells}
use Rattle.zarr_run_meaning.proofs.TableLemmas.{value_at}
use Rattle.zarr_run_meaning.proofs.Tables.{unlisted_lies}

-- ---- cells by another function

pub each_same : (f g : List ℕ → Cell) (ps : List (List ℕ)) → Each (λ p. f p ≡ g p) ps → map f ps ≡ map g ps
each_same f g [] h = refl
each_same f g (p ∷ ps) h = ap (λ c. c ∷ map f ps) h.0 ∙ ap (λ (cs : List Cell). g p ∷ cs) (each_same f g ps h.1)

-- where two functions have the same cells in a chunk, what stands for the one stands for the other
pub stands_alike : (path : List ℕ) (document : Document) (store : StoreMap) (chunk : List ℕ) (box : Region) (f g : List ℕ → Cell) → IsInGrid document.grid chunk box → ((place : List ℕ) → is_in_box box.start box.shape place ≡ true → f place ≡ g place)
    → ChunkStandsAt document box (stored_at path document store chunk) f → ChunkStandsAt document box (stored_at path document store chunk) g
stands_alike path document store chunk box f g below same stands =
    let P : List Cell → Type 0 = λ cs. IsStored document.chain document.elements box.shape (stored_at path document store chunk) cs in
    subst P (each_same f g (places box.start box.shape) (each_inside (λ p. f p ≡ g p) box.start box.shape (box_same document chunk box below) same)) stands

-- where the same is stored
pub stands_same : (path : List ℕ) (document : Document) (old new : StoreMap) (chunk : List ℕ) (box : Region) (cells : List ℕ → Cell) → stored_at path document new chunk ≡ stored_at path document old chunk
    → ChunkStandsAt document box (stored_at path document old chunk) cells → ChunkStandsAt document box (stored_at path document new chunk) cells
stands_same path document old new chunk box cells same stands =
    let P : Option (List ℕ) → Type 0 = λ o. IsStored document.chain document.elements box.shape o (map cells (places box.start box.shape)) in
    subst P (sym same) stands

-- nothing stands for the fill value alone
pub none_stands : (path : List ℕ) (document : Document) (store : StoreMap) (chunk : List ℕ) (box : Region) (cells : List ℕ → Cell) → IsInGrid document.grid chunk box → stored_at path document store chunk ≡ None
    → ((place : List ℕ) → is_in_box box.start box.shape place ≡ true → cells place ≡ document.elements.fill) → ChunkStandsAt document box (stored_at path document store chunk) cells
none_stands path document store chunk box cells below none all =
    let P : Option (List ℕ) → Type 0 = λ o. IsStored document.chain document.elements box.shape o (map cells (places box.start box.shape)) in
    subst P (sym none) (go (fits document.chain document.elements.type box.shape)) where
      is : is_fill document.elements.fill (map cells (places box.start box.shape)) ≡ true
      is = each_place (λ c. same_cell c document.elements.fill) cells (places box.start box.shape)
          (each_inside (λ p. same_cell (cells p) document.elements.fill ≡ true) box.start box.shape (box_same document chunk box below) (λ p inside. (same_cell_decides (cells p) document.elements.fill).1 (all p inside)))

      go : (b : Bool) → MatchBool b (is_fill document.elements.fill (map cells (places box.start box.shape)) ≡ true) ((◌≡◌ {A = Option (List ℕ)} None None) × (is_fill document.elements.fill (map cells (places box.start box.shape)) ≡ true))
      go true = is
      go false = (refl, is)

-- ---- an array whose keys stay

pub sound_under : (reads : ReadsCodecs) (old new : StoreMap) (h : Held) → KeepsUnder h.path old new → IsSoundAt reads old h → IsSoundAt reads new h
sound_under reads old new h same s = record {
  node = s.node;
  says = s.says;
  stored = document_stays h.path h.tree old new (under_documents h.path old new same) s.stored;
  first = λ older. same.under (document_name ZarrJson) ∙ s.first older;
  lossless = s.lossless;
  values = s.values;
  stands = λ chunk box below. stands_same h.path h.document old new chunk box (cell h.document.elements.fill h.table) (same.under (encoded_key h.document.keys chunk)) (s.stands chunk box below);
}

-- an array with another table, where only chunks' keys changed
with_table : (reads : ReadsCodecs) (old new : StoreMap) (h : Held) (chunks : List (List ℕ)) (table : Table) → KeepsOtherKeys h.path h.document chunks old new → IsSoundAt reads old h → AreValues h.document (cell h.document.elements.fill table)
    → StoreStands h.path h.document new (cell h.document.elements.fill table) → IsSoundAt reads new (record h { table = table })
with_table reads old new h chunks table others s values stands = record {
  node = s.node;
  says = s.says;
  stored = document_stays h.path h.tree old new (documents_kept h.path h.document chunks old new others) s.stored;
  first = λ older. documents_kept h.path h.document chunks old new others ZarrJson ∙ s.first older;
  lossless = s.lossless;
  values = values;
  stands = stands;
}

-- ---- after a write

one_value : (type : DataType) (a b : Bool) (x y : Cell) → is_value type x ≡ true → is_value type y ≡ true → is_value type (if a && b then x else y) ≡ true
one_value type true true x y p q = p
one_value type true false x y p q = q
one_value type false b x y p q = q

module _ (reads : ReadsCodecs) (h : Held) (old new : StoreMap) (region : Region) (values : List Cell) (options : CodecOptions) (chunks : List (List ℕ)) (table : Table) where
  pub written_sound : IsGood h.document → IsWritten h old new region values options chunks table → ((chunk : List ℕ) → is_listed chunks chunk ≡ true → is_listed (intersecting h.document.grid region) chunk ≡ true)
      → length values ≡ product region.shape → list_all (is_value h.document.elements.type) values ≡ true → WroteChunks (write_to (array_of h) region values options) chunks old new → IsSoundAt reads old h → IsSoundAt reads new (record h { table = table })
  written_sound good is few many are w s = with_table reads old new h chunks table w.others s all stands where
    same : (place : List ℕ) → cell h.document.elements.fill table place ≡ replaced_in region (lies_in_any h.document.grid chunks) (cell_of_box region values h.document.elements.fill) (cell h.document.elements.fill h.table) place
    same place = written_cell h old new region values options chunks table is few many place

    all : AreValues h.document (cell h.document.elements.fill table)
    all chunk box place below inside =
        ap (is_value h.document.elements.type) (same place)
        ∙ one_value h.document.elements.type (is_in_box region.start region.shape place) (list_any (lies_in_chunk h.document.grid place) chunks) _ _ (value_at h.document.elements.type values h.document.elements.fill _ are good.fill) (s.values chunk box place below inside)

    stands : StoreStands h.path h.document new (cell h.document.elements.fill table)
    stands chunk box below =
        stands_alike h.path h.document new chunk box _ (cell h.document.elements.fill table) below (λ place inside. sym (same place))
        (w.keeps s.lossless (cell h.document.elements.fill h.table) s.values chunk box below (s.stands chunk box below))

-- ---- after an erasure

module _ (reads : ReadsCodecs) (h : Held) (old new : StoreMap) (chunks : List (List ℕ)) (table : Table) where
  pub erased_sound : IsGood h.document → IsErased h old new chunks table → AreBelow h.document.grid chunks → ErasedChunks h.path h.document chunks old new → IsSoundAt reads old h → IsSoundAt reads new (record h { table = table })
  erased_sound good is are e s = with_table reads old new h chunks table e.others s all stands where
    same : (place : List ℕ) → cell h.document.elements.fill table place ≡ (if list_any (lies_in_chunk h.document.grid place) chunks then h.document.elements.fill else cell h.document.elements.fill h.table place)
    same place = erased_cell h old new chunks table is place

    one : (b : Bool) (y : Cell) → is_value h.document.elements.type y ≡ true → is_value h.document.elements.type (if b then h.document.elements.fill else y) ≡ true
    one true y q = good.fill
    one false y q = q

    all : AreValues h.document (cell h.document.elements.fill table)
    all chunk box place below inside = ap (is_value h.document.elements.type) (same place) ∙ one (list_any (lies_in_chunk h.document.grid place) chunks) _ (s.values chunk box place below inside)

    stands : StoreStands h.path h.document new (cell h.document.elements.fill table)
    stands chunk box below = ⊎_elim
        (λ l. none_stands h.path h.document new chunk box (cell h.document.elements.fill table) below (e.gone chunk l) (λ place inside.
        same place ∙ ap (λ b. if b then h.document.elements.fill else cell h.document.elements.fill h.table place) (any_at (lies_in_chunk h.document.grid place) chunk chunks l (lies_here h.document.grid chunk place box below.has_box ∙ inside))))
        (λ u. stands_same h.path h.document old new chunk box (cell h.document.elements.fill table) (chunk_kept h.path h.document chunks old new chunk box (formed reads h.tree h.document s.says) are e.others below u)
        (stands_alike h.path h.document old chunk box (cell h.document.elements.fill h.table) (cell h.document.elements.fill table) below
        (λ place inside. sym (same place ∙ ap (λ b. if b then h.document.elements.fill else cell h.document.elements.fill h.table place) (unlisted_lies h.document.grid chunks chunk place u (lies_here h.document.grid chunk place box below.has_box ∙ inside))))
        (s.stands chunk box below)))
        (told (is_listed chunks chunk))

-- ---- where chunks were stored anew

pub anew_sound : (reads : ReadsCodecs) (h : Held) (old new : StoreMap) (chunks : List (List ℕ)) → IsGood h.document → AreBelow h.document.grid chunks → KeepsCells h chunks old new → IsSoundAt reads old h → IsSoundAt reads new (record h { table = h.table })
anew_sound reads h old new chunks good are k s = with_table reads old new h chunks h.table k.others s s.values (λ chunk box below. ⊎_elim
    (λ l. k.stands good s.lossless (cell h.document.elements.fill h.table) s.values chunk box below l (s.stands chunk box below))
    (λ u. stands_same h.path h.document old new chunk box (cell h.document.elements.fill h.table) (chunk_kept h.path h.document chunks old new chunk box (formed reads h.tree h.document s.says) are k.others below u) (s.stands chunk box below))
    (told (is_listed chunks chunk)))
