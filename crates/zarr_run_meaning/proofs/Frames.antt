-- What a step leaves of the tables: each stored chunk shows only its table's cells, over any stored bytes.
use Rattle.std.proofs.Common.{◌≡◌, ◌∙◌, ℕ, Bool, true, false, if◌then◌else◌, ◌&&◌, List, [], ◌∷◌, length, refl, sym, ap, subst, ⊎_elim, Option, Some, Ok}
use Rattle.std.specs.List.{list_any}
use Rattle.std.proofs.lemmas.Bool.{MatchBool-at_true, MatchBool-at_false}
use Rattle.serde_json.specs.Data.{Data}
use Rattle.zarr_grids_boxes.specs.Boxes.{Region, product, is_in_box}
use Rattle.zarr_grids_chunks.specs.Grids.{lies_in_chunk, intersecting}
use Rattle.zarr_grids_chunks.proofs.Filters.{told}
use Rattle.zarr_grids_chunks.proofs.Partition.{lies_here, any_at}
use Rattle.zarr_grids_keys.specs.Keys.{encoded_key}
use Rattle.zarr_grids_keys.specs.Paths.{is_node_path}
use Rattle.zarr_codecs_meaning.specs.Types.{Cell}
use Rattle.zarr_codecs_meaning.specs.Chunks.{chunk_part}
use Rattle.zarr_codecs_metadata.specs.Chains.{ReadsCodecs}
use Rattle.zarr_codecs_options.specs.declared.codec_options.CodecOptions.{CodecOptions}
use Rattle.zarr_codecs_options.specs.declared.subchunk_write_order.SubchunkWriteOrder.{SubchunkWriteOrder}
use Rattle.zarr_array_meaning.specs.Boxes.{cell_of_box, lies_in_any, replaced_in}
use Rattle.zarr_array_meaning.specs.Chunks.{number_in, stored_at, part_at, ReadsCell, is_listed, KeepsOtherKeys}
use Rattle.zarr_array_meaning.specs.Documents.{Document, read_document}
use Rattle.zarr_array_meaning.specs.StoreMaps.{StoreMap}
use Rattle.zarr_array_meaning.specs.Writes.{write_to}
use Rattle.zarr_array_meaning.specs.Writing.{WroteChunks, ErasedChunks}
use Rattle.zarr_array_meaning.specs.Written.{written_document}
use Rattle.zarr_array_meaning.proofs.ReadsBack.{read_document-written_document}
use Rattle.zarr_run_meaning.specs.Changes.{Creates, Reopens, Opens}
use Rattle.zarr_run_meaning.specs.Laws.{HasTables, StepsShow}
use Rattle.zarr_run_meaning.specs.Requests.{Request, Answer}
use Rattle.zarr_run_meaning.specs.Tables.{Table, cell, updated, changes, changes_in, fills}
use Rattle.zarr_run_meaning.specs.Worlds.{Held, World, array_of, held_at, IsTableAt, WithTable}
use Rattle.zarr_run_meaning.proofs.Arrays.{Stayed, at_path, near, apart, held_at-path, held_once, held_at-more, held_at-ordered, held_before, free_of, free_none}
use Rattle.zarr_run_meaning.proofs.Beginning.{fill_read}
use Rattle.zarr_run_meaning.proofs.Documents.{IsFormed, formed}
use Rattle.zarr_run_meaning.proofs.Effects.{LeftAttributes, left_put, Effect, kept, left, created, reordered, opened, wrote, erased, stored_anew, Wrote, Erased, step_effect}
use Rattle.zarr_run_meaning.proofs.Keys.{AreBelow, KeepsUnder, chunk_kept, others_kept, listed_below}
use Rattle.zarr_run_meaning.proofs.FillLemmas.{cell-fills}
use Rattle.zarr_run_meaning.proofs.Stored.{PutsDocuments, document_put, put_kept, put_chunk}
use Rattle.zarr_run_meaning.proofs.StoredAnew.{KeepsCells, StoredAnew}
use Rattle.zarr_run_meaning.proofs.Tables.{cell-written, unlisted_lies}

-- ---- one of two cells

pub if_both : (a b : Bool) (x y : Cell) → a ≡ true → b ≡ true → (if a && b then x else y) ≡ x
if_both true b x y e f = ap (λ c. if c then x else y) f
if_both false b x y e f = absurd (cc)

pub if_not_first : (a b : Bool) (x y : Cell) → a ≡ false → (if a && b then x else y) ≡ y
if_not_first true b x y e = absurd (cc)
if_not_first false b x y e = refl

pub if_not_second : (a b : Bool) (x y : Cell) → b ≡ false → (if a && b then x else y) ≡ y
if_not_second true b x y f = ap (λ c. if c then x else y) f
if_not_second false b x y f = refl

-- ---- what is read where the same is stored

pub read_same : (path : List ℕ) (document : Document) (old new : StoreMap) (chunk : List ℕ) (box : Region) (place : List ℕ) → stored_at path document new chunk ≡ stored_at path document old chunk
    → part_at document box (stored_at path document new chunk) place ≡ part_at document box (stored_at path document old chunk) place
read_same path document old new chunk box place same = ap (λ o. chunk_part document.chain document.elements box.shape o (number_in box place ∷ [])) same

pub read_once : (path : List ℕ) (document : Document) (store : StoreMap) (chunk : List ℕ) (box : Region) (place : List ℕ) (c d : Cell) → ReadsCell document box (stored_at path document store chunk) place c → ReadsCell document box (stored_at path document store chunk) place d → c ≡ d
read_once path document store chunk box place c d r s = go (part_at document box (stored_at path document store chunk) place) r s where
  go : (o : Option (List Cell)) → o ≡ Some (c ∷ []) → o ≡ Some (d ∷ []) → c ≡ d
  go o e f = cc

-- a table of what is stored under a path
pub table_kept : (path : List ℕ) (document : Document) (old new : StoreMap) (t : Table) → ((chunk : List ℕ) → stored_at path document new chunk ≡ stored_at path document old chunk) → IsTableAt path document old t → IsTableAt path document new t
table_kept path document old new t same shows lossless chunk box place c below inside reads =
    shows lossless chunk box place c below inside (sym (read_same path document old new chunk box place (same chunk)) ∙ reads)

-- ---- after a write

module _ (h : Held) (old new : StoreMap) (region : Region) (values : List Cell) (options : CodecOptions) (chunks : List (List ℕ)) (table : Table) where
  abbrev pub IsWritten : Type 0
  IsWritten = table ≡ updated h.document.elements.fill h.table (changes_in h.document.grid chunks (changes region values))

  -- the table's cells, as a function of places
  pub written_cell : IsWritten → ((chunk : List ℕ) → is_listed chunks chunk ≡ true → is_listed (intersecting h.document.grid region) chunk ≡ true) → length values ≡ product region.shape → (place : List ℕ)
      → cell h.document.elements.fill table place ≡ replaced_in region (lies_in_any h.document.grid chunks) (cell_of_box region values h.document.elements.fill) (cell h.document.elements.fill h.table) place
  written_cell is few many place =
      let fill = h.document.elements.fill in
      ap (λ t. cell fill t place) is ∙ cell-written fill h.table h.document.grid region values chunks fill place few many

  pub written_table : IsFormed h.document → IsWritten → ((chunk : List ℕ) → is_listed chunks chunk ≡ true → is_listed (intersecting h.document.grid region) chunk ≡ true) → length values ≡ product region.shape
      → WroteChunks (write_to (array_of h) region values options) chunks old new → IsTableAt h.path h.document old h.table → IsTableAt h.path h.document new table
  written_table f is few many w shows lossless chunk box place c below inside reads =
      ⊎_elim listed unlisted (told (is_listed chunks chunk)) ∙ sym (written_cell is few many place) where
        here : lies_in_chunk h.document.grid place chunk ≡ true
        here = lies_here h.document.grid chunk place box below.has_box ∙ inside

        listed : is_listed chunks chunk ≡ true → c ≡ replaced_in region (lies_in_any h.document.grid chunks) (cell_of_box region values h.document.elements.fill) (cell h.document.elements.fill h.table) place
        listed l =
            let any = any_at (lies_in_chunk h.document.grid place) chunk chunks l here in
            let shown = w.shows lossless chunk box place below l inside in
            ⊎_elim
            (λ t. read_once h.path h.document new chunk box place c _ reads (MatchBool-at_true _ _ t shown) ∙ sym (if_both _ _ _ _ t any))
            (λ t. shows lossless chunk box place c below inside (sym (MatchBool-at_false _ _ t shown) ∙ reads) ∙ sym (if_not_first _ _ _ _ t))
            (told (is_in_box region.start region.shape place))

        unlisted : is_listed chunks chunk ≡ false → c ≡ replaced_in region (lies_in_any h.document.grid chunks) (cell_of_box region values h.document.elements.fill) (cell h.document.elements.fill h.table) place
        unlisted u =
            let same = chunk_kept h.path h.document chunks old new chunk box f (record { below = λ d l. listed_below h.document.grid region d (few d l) }) w.others below u in
            shows lossless chunk box place c below inside (sym (read_same h.path h.document old new chunk box place same) ∙ reads)
            ∙ sym (if_not_second _ _ _ _ (unlisted_lies h.document.grid chunks chunk place u here))

-- ---- after an erasure

module _ (h : Held) (old new : StoreMap) (chunks : List (List ℕ)) (table : Table) where
  abbrev pub IsErased : Type 0
  IsErased = table ≡ updated h.document.elements.fill h.table (fills h.document.grid h.document.elements.fill chunks)

  -- the table's cells, as a function of places
  pub erased_cell : IsErased → (place : List ℕ) → cell h.document.elements.fill table place ≡ (if list_any (lies_in_chunk h.document.grid place) chunks then h.document.elements.fill else cell h.document.elements.fill h.table place)
  erased_cell is place =
      let fill = h.document.elements.fill in
      ap (λ t. cell fill t place) is ∙ cell-fills fill h.table h.document.grid chunks place

  pub erased_table : IsFormed h.document → IsErased → AreBelow h.document.grid chunks → ErasedChunks h.path h.document chunks old new → IsTableAt h.path h.document old h.table → IsTableAt h.path h.document new table
  erased_table f is are e shows lossless chunk box place c below inside reads =
      ⊎_elim listed unlisted (told (is_listed chunks chunk)) ∙ sym (erased_cell is place) where
        here : lies_in_chunk h.document.grid place chunk ≡ true
        here = lies_here h.document.grid chunk place box below.has_box ∙ inside

        listed : is_listed chunks chunk ≡ true → c ≡ (if list_any (lies_in_chunk h.document.grid place) chunks then h.document.elements.fill else cell h.document.elements.fill h.table place)
        listed l =
            read_once h.path h.document new chunk box place c h.document.elements.fill reads (fill_read h.path h.document new chunk box place (e.gone chunk l))
            ∙ sym (ap (λ b. if b then h.document.elements.fill else cell h.document.elements.fill h.table place) (any_at (lies_in_chunk h.document.grid place) chunk chunks l here))

        unlisted : is_listed chunks chunk ≡ false → c ≡ (if list_any (lies_in_chunk h.document.grid place) chunks then h.document.elements.fill else cell h.document.elements.fill h.table place)
        unlisted u =
            let same = chunk_kept h.path h.document chunks old new chunk box f are e.others below u in
            shows lossless chunk box place c below inside (sym (read_same h.path h.document old new chunk box place same) ∙ reads)
            ∙ sym (ap (λ b. if b then h.document.elements.fill else cell h.document.elements.fill h.table place) (unlisted_lies h.document.grid chunks chunk place u here))

-- ---- where chunks were stored anew

anew_table : (h : Held) (chunks : List (List ℕ)) (old new : StoreMap) → IsFormed h.document → AreBelow h.document.grid chunks → KeepsCells h chunks old new → IsTableAt h.path h.document old h.table → IsTableAt h.path h.document new h.table
anew_table h chunks old new f are k shows lossless chunk box place c below inside reads =
    shows lossless chunk box place c below inside (sym (⊎_elim
    (λ l. k.shows lossless chunk box place below l inside)
    (λ u. read_same h.path h.document old new chunk box place (chunk_kept h.path h.document chunks old new chunk box f are k.others below u))
    (told (is_listed chunks chunk))) ∙ reads)

-- ---- each array of a world

-- an array stands at a node path, says what its tree says, and what is stored shows only its table's cells
abbrev pub IsShown : ReadsCodecs → StoreMap → Held → Type 0
IsShown reads store h = (is_node_path h.path ≡ true) × (read_document reads h.tree ≡ Ok h.document) × IsTableAt h.path h.document store h.table

shown_under : (reads : ReadsCodecs) (old new : StoreMap) (h : Held) → KeepsUnder h.path old new → IsShown reads old h → IsShown reads new h
shown_under reads old new h same s = (s.0, s.1, table_kept h.path h.document old new h.table (λ chunk. same.under (encoded_key h.document.keys chunk)) s.2)

module _ (reads : ReadsCodecs) (old new : World) (tables : HasTables reads old) where
  kept_tables : new.arrays ≡ old.arrays → new.store ≡ old.store → HasTables reads new
  kept_tables arrays store path h e =
      let P : StoreMap → Type 0 = λ s. IsShown reads s h in
      subst P (sym store) (tables path h (sym (ap (held_at path) arrays) ∙ e))

  created_tables : (path : List ℕ) (document : Data) (order : SubchunkWriteOrder) → Creates reads (record { path = path; document = document; order = order }) old new → HasTables reads new
  created_tables path document order c q h e = ⊎_elim here before (held_at-more q old.arrays b h (free_none path old.arrays c.free) (sym (ap (held_at q) c.begins.holds) ∙ e)) where
    b : Held
    b = record { path = path; tree = written_document document; document = c.meaning; order = order; table = c.table }

    put : PutsDocuments path old.store new.store
    put = document_put path (written_document document) old.store new.store c.stores

    here : h ≡ b → IsShown reads new.store h
    here is =
        let P : Held → Type 0 = λ x. IsShown reads new.store x in
        subst P (sym is) (c.node, read_document-written_document reads document c.meaning c.opens, table_kept path c.meaning old.store new.store c.table (put_chunk path c.meaning old.store new.store put) c.begins.shows)

    before : held_at q old.arrays ≡ Some h → IsShown reads new.store h
    before at =
        let s = tables q h at in
        shown_under reads old.store new.store h (put_kept path h.path old.store new.store put c.node s.0 (free_of path q old.arrays h c.free at)) s

  left_tables : LeftAttributes old new → HasTables reads new
  left_tables l q h e =
      let at = sym (ap (held_at q) l.arrays) ∙ e in
      let s = tables q h at in
      shown_under reads old.store new.store h (put_kept l.path h.path old.store new.store (left_put old new l) l.node s.0 (free_of l.path q old.arrays h l.free at)) s

  opened_tables : (path : List ℕ) (order : SubchunkWriteOrder) → Opens reads path order old new → HasTables reads new
  opened_tables path order o q h e =
      let P : StoreMap → Type 0 = λ s. IsShown reads s h in
      subst P (sym o.stores) (⊎_elim here (tables q h) (held_at-more q old.arrays b h o.begins.free (sym (ap (held_at q) o.begins.holds) ∙ e))) where
        b : Held
        b = record { path = path; tree = o.tree; document = o.meaning; order = order; table = o.table }

        here : h ≡ b → IsShown reads old.store h
        here is = let P : Held → Type 0 = λ x. IsShown reads old.store x in subst P (sym is) (o.node, o.opens, o.begins.shows)

  reordered_tables : (path : List ℕ) (order : SubchunkWriteOrder) → Reopens path order old new → HasTables reads new
  reordered_tables path order r q h e =
      let P : StoreMap → Type 0 = λ s. IsShown reads s h in
      let Q : Held → Type 0 = λ x. IsShown reads old.store x in
      let g = held_at-ordered path q order old.arrays h (sym (ap (held_at q) r.updates) ∙ e) in
      let s = tables q g.0 g.1 in
      subst P (sym r.stores) (⊎_elim (λ is. subst Q (sym is) s) (λ is. subst Q (sym is) s) g.2)

  -- where the array at one path has another table
  changed_tables : (path : List ℕ) (held : Held) (chunks : List (List ℕ)) (table : Table) → held_at path old.arrays ≡ Some held → WithTable held.path table new.store old.arrays new.arrays → KeepsOtherKeys held.path held.document chunks old.store new.store
      → IsTableAt held.path held.document new.store table → HasTables reads new
  changed_tables path held chunks table found updates others next q h e = go g.2 where
    g : (g : Held) × (held_at q old.arrays ≡ Some g) × Stayed held.path table new.store g h
    g = held_before held.path table new.store old.arrays new.arrays updates q h e

    go : Stayed held.path table new.store g.0 h → IsShown reads new.store h
    go (at_path same is) =
        let P : Held → Type 0 = λ x. IsShown reads new.store x in
        let s = tables path held found in
        let one = held_once q path old.arrays g.0 held g.1 found (held_at-path q old.arrays g.0 g.1 ∙ sym same ∙ sym (held_at-path path old.arrays held found)) in
        subst P (sym (is ∙ ap (λ (x : Held). record x { table = table }) one)) (s.0, s.1, next)
    go (near differs related is shows) = let P : Held → Type 0 = λ x. IsShown reads new.store x in let s = tables q g.0 g.1 in subst P (sym is) (s.0, s.1, shows)
    go (apart unrelated is) =
        let P : Held → Type 0 = λ x. IsShown reads new.store x in
        let s = tables q g.0 g.1 in
        subst P (sym is) (shown_under reads old.store new.store g.0 (others_kept held.path held.document chunks old.store new.store g.0.path others (tables path held found).0 s.0 unrelated) s)

  wrote_tables : Wrote old new → HasTables reads new
  wrote_tables w =
      let s = tables w.path w.held w.found in
      changed_tables w.path w.held w.chunks w.writes.table w.found w.writes.updates w.writes.stores.others
      (written_table w.held old.store new.store w.box w.values w.options w.chunks w.writes.table (formed reads w.held.tree w.held.document s.1) w.writes.is w.few w.many w.writes.stores s.2)

  erased_tables : Erased old new → HasTables reads new
  erased_tables w =
      let s = tables w.path w.held w.found in
      changed_tables w.path w.held w.chunks w.erases.table w.found w.erases.updates w.erases.stores.others
      (erased_table w.held old.store new.store w.chunks w.erases.table (formed reads w.held.tree w.held.document s.1) w.erases.is w.below w.erases.stores s.2)

  anew_tables : StoredAnew old new → HasTables reads new
  anew_tables w =
      let s = tables w.path w.held w.found in
      changed_tables w.path w.held w.chunks w.held.table w.found w.updates w.keeps.others
      (anew_table w.held w.chunks old.store new.store (formed reads w.held.tree w.held.document s.1) w.below w.keeps s.2)

  effect_shows : (request : Request) (answer : Answer) → Effect reads request answer old new → HasTables reads new
  effect_shows request answer (kept arrays store) = kept_tables arrays store
  effect_shows request answer (left l) = left_tables l
  effect_shows request answer (created path document order begins c) = created_tables path document order c
  effect_shows request answer (reordered path order r) = reordered_tables path order r
  effect_shows request answer (opened path order begins away o) = opened_tables path order o
  effect_shows request answer (wrote w) = wrote_tables w
  effect_shows request answer (erased w) = erased_tables w
  effect_shows request answer (stored_anew w) = anew_tables w

pub steps_show : StepsShow
steps_show reads old new request answer tables s = effect_shows reads old new tables request answer (step_effect reads old new request answer s)
