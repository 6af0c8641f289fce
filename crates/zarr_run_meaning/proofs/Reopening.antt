-- A store that a session leaves, opened by another one.
use Rattle.std.proofs.Common.{◌≡◌, ◌∙◌, ◌⊎◌, inl, inr, ⊎_elim, ℕ, Bool, true, false, if◌then◌else◌, List, [], ◌∷◌, ◌++◌, refl, sym, ap, subst, Option, Some, None, Result, Ok, IsErr}
use Rattle.std.specs.FinMap.{get}
use Rattle.std.proofs.lemmas.Bool.{false≢true}
use Rattle.std.proofs.lemmas.Option.{none-some, same_Some}
use Rattle.serde_json.specs.Data.{Data}
use Rattle.zarr_grids_boxes.specs.Boxes.{Region, is_in_box}
use Rattle.zarr_grids_chunks.specs.Grids.{IsInGrid}
use Rattle.zarr_grids_keys.specs.Documents.{document_key}
use Rattle.zarr_grids_keys.specs.Paths.{is_node_path}
use Rattle.zarr_grids_keys.specs.declared.document_name.DocumentName.TheVariants.{ZarrJson, ZArray}
use Rattle.zarr_codecs_meaning.specs.Types.{is_value}
use Rattle.zarr_codecs_metadata.specs.Chains.{ReadsCodecs}
use Rattle.zarr_codecs_options.specs.declared.subchunk_write_order.SubchunkWriteOrder.{SubchunkWriteOrder}
use Rattle.zarr_array_v2.specs.Versions.{is_version_2}
use Rattle.zarr_array_meaning.specs.Documents.{read_document}
use Rattle.zarr_array_meaning.specs.StoreMaps.{StoreMap}
use Rattle.zarr_array_meaning.specs.Texts.{HasDocument, version_key}
use Rattle.zarr_array_meaning.proofs.Stored.{one_document}
use Rattle.zarr_run_meaning.specs.declared.cause.Cause.{Cause}
use Rattle.zarr_run_meaning.specs.declared.cause.Cause.TheVariants as cause
use Rattle.zarr_run_meaning.specs.Causes.{ReopenRefuses, IsChunkKeyIn, HasNoneAt, HasNoDocumentIn, IsFoundIn}
use Rattle.zarr_run_meaning.specs.Changes.{Opens}
use Rattle.zarr_run_meaning.specs.Laws.{SameCells, HasCells, IsReopenedAs, ReopensAlike, ReopenedSound, ReopenedOwned}
use Rattle.zarr_run_meaning.specs.Requests.{refusal, reopen, Answer, done, cells, compacted, refused}
use Rattle.zarr_run_meaning.specs.Sound.{OwnsKey, IsOwnKey, IsSoundAt, ReadsGood}
use Rattle.zarr_run_meaning.specs.Steps.{RefusesAt, Step}
use Rattle.zarr_run_meaning.specs.Tables.{Table, cell}
use Rattle.zarr_run_meaning.specs.Worlds.{Held, World, held_at, IsTableAt}
use Rattle.zarr_run_meaning.proofs.Arrays.{held_at-path, held_own, held_at-new}
use Rattle.zarr_run_meaning.proofs.Reading.{standing_reads}
use Rattle.zarr_run_meaning.proofs.Standing.{stands_alike}
use Rattle.zarr_run_meaning.proofs.Stored.{stored_text}

-- ---- the document that is stored

ok_once : {A E : Type 0} (r : Result A E) (x y : A) → r ≡ Ok x → r ≡ Ok y → x ≡ y
ok_once r x y e f = cc

ok_no_error : {A E : Type 0} (r : Result A E) (x : A) → r ≡ Ok x → IsErr r → ⊥
ok_no_error {A} {E} r x e h = let P : Result A E → Type 0 = λ s. IsErr s in false≢true (subst P e h)

-- ---- a path that is opened again

module _ (reads : ReadsCodecs) (closed old new : World) (path : List ℕ) (h : Held) (order : SubchunkWriteOrder) (good : ReadsGood reads) (found : held_at path closed.arrays ≡ Some h) (there : IsSoundAt reads closed.store h) (same : old.store ≡ closed.store) (none : held_at path old.arrays ≡ None) (other : ¬ IsChunkKeyIn old.arrays (version_key path h.tree)) where
  at : path ≡ h.path
  at = held_at-path path closed.arrays h found

  -- the document is stored there still
  stored : HasDocument path h.tree old.store
  stored =
      let P : List ℕ → Type 0 = λ p. HasDocument p h.tree old.store in
      let Q : StoreMap → Type 0 = λ s. HasDocument h.path h.tree s in
      subst P (sym at) (subst Q (sym same) there.stored)

  -- beside a document of version 2 none of version 3 is stored
  alone : is_version_2 h.tree ≡ true → get old.store (document_key path ZarrJson) ≡ None
  alone older = ap (λ m. get m (document_key path ZarrJson)) same ∙ ap (λ p. get closed.store (document_key p ZarrJson)) at ∙ there.first older

  -- so it is the one that is found there
  the_document : (tree : Data) → IsFoundIn old.arrays path tree old.store → tree ≡ h.tree
  the_document tree found_in = go (is_version_2 tree) (is_version_2 h.tree) refl refl where
    by : Bool → List ℕ
    by b = document_key path (if b then ZArray else ZarrJson)

    -- a text stands under the key of each version that a document has
    text : (d : Data) (b : Bool) → HasDocument path d old.store → is_version_2 d ≡ b → get old.store (by b) ≡ None → ⊥
    text d b has is none = let t = stored_text path d old.store has in none-some t.0 (sym none ∙ ap (λ v. get old.store (by v)) (sym is) ∙ t.1)

    go : (a b : Bool) → is_version_2 tree ≡ a → is_version_2 h.tree ≡ b → tree ≡ h.tree
    go true true a b = one_document path tree h.tree old.store (a ∙ sym b) found_in.stored stored
    go false false a b = one_document path tree h.tree old.store (a ∙ sym b) found_in.stored stored
    go false true a b = absurd (text tree false found_in.stored a (alone b))
    go true false a b = absurd (⊎_elim
        (λ none_at. text h.tree false stored b none_at)
        (λ chunk. let P : List ℕ → Type 0 = λ key. IsChunkKeyIn old.arrays key in other (subst P (sym (ap by b)) chunk))
        (found_in.first a))

  opened_alike : Opens reads path order old new → IsReopenedAs h order done new
  opened_alike o = record { is = refl; table = o.table; held = again; cells = shown } where
    tree : o.tree ≡ h.tree
    tree = the_document o.tree o.found

    document : o.meaning ≡ h.document
    document = ok_once (read_document reads o.tree) o.meaning h.document o.opens (ap (read_document reads) tree ∙ there.says)

    begun : Held
    begun = record { path = path; tree = o.tree; document = o.meaning; order = order; table = o.table }

    is : begun ≡ record h { order = order; table = o.table }
    is = λ i. record { path = at i; tree = tree i; document = document i; order = order; table = o.table }

    again : held_at h.path new.arrays ≡ Some (record h { order = order; table = o.table })
    again = ap (held_at h.path) o.begins.holds ∙ ap (λ q. held_at q (old.arrays ++ begun ∷ [])) (sym at) ∙ held_at-new path old.arrays begun none refl ∙ ap Some is

    shows : IsTableAt h.path h.document closed.store o.table
    shows =
        let P : Held → Type 0 = λ x. IsTableAt x.path x.document old.store x.table in
        let Q : StoreMap → Type 0 = λ s. IsTableAt h.path h.document s o.table in
        subst Q same (subst P is o.begins.shows)

    shown : (chunk : List ℕ) (box : Region) (place : List ℕ) → IsInGrid h.document.grid chunk box → is_in_box box.start box.shape place ≡ true → cell h.document.elements.fill o.table place ≡ cell h.document.elements.fill h.table place
    shown chunk box place below inside =
        sym (shows there.lossless chunk box place (cell h.document.elements.fill h.table place) below inside
        (standing_reads h.path h.document closed.store chunk box (cell h.document.elements.fill h.table) (good h.tree h.document there.says) there.lossless there.values below (there.stands chunk box below) place inside))

  abbrev Alike : Answer → Type 0
  Alike answer = IsReopenedAs h order answer new ⊎ (answer ≡ refused cause.Memory 0) ⊎ (answer ≡ refused cause.Store 0)

  -- the document stands there, and is no chunk
  stored_there : HasNoneAt old.arrays old.store (version_key path h.tree) → ⊥
  stored_there none_at = let t = stored_text path h.tree old.store stored in ⊎_elim (λ e. none-some t.0 (sym e ∙ t.1)) other none_at

  none_there : HasNoDocumentIn old.arrays path old.store → ⊥
  none_there none_in = stored_there (one (is_version_2 h.tree)) where
    one : (b : Bool) → HasNoneAt old.arrays old.store (document_key path (if b then ZArray else ZarrJson))
    one true = none_in.1
    one false = none_in.0

  -- no cause but a refused call is left
  refused_open : (c : Cause) (n : ℕ) → ReopenRefuses reads old path None c → n ≡ 0 → Alike (refused c n)
  refused_open cause.NoArray n r zero = absurd (none_there r)
  refused_open cause.Document n r zero =
      let is : IsFoundIn old.arrays path h.tree old.store = record { stored = stored; other = other; first = λ older. inl (alone older) } in
      absurd (ok_no_error (read_document reads h.tree) h.document there.says (r.none h.tree is))
  refused_open cause.Store n r zero = inr (inr (ap (refused cause.Store) zero))
  refused_open c n r zero = absurd r

  refused_alike : (c : Cause) (n : ℕ) → RefusesAt reads (reopen path order) (refusal c n) old new → Alike (refused c n)
  refused_alike cause.Path n r = absurd (false≢true (sym r.0 ∙ ap is_node_path at ∙ there.node))
  refused_alike cause.Memory n r = ⊎_elim (λ s. inr (inl (ap (refused cause.Memory) s.applied))) (λ s. inr (inl (ap (refused cause.Memory) s.1.1.applied))) r
  refused_alike c n r = let P : Option Held → Type 0 = λ o. ReopenRefuses reads old path o c in refused_open c n (subst P none r.1.0) r.1.1.applied

  pub alike : (answer : Answer) → Step reads old (reopen path order) answer new → Alike answer
  alike done s = ⊎_elim (λ again. absurd (none-some again.held (sym none ∙ again.found))) (λ o. inl (opened_alike o)) s.0
  alike (cells payload) s = absurd s
  alike (compacted changed) s = absurd s
  alike (refused c n) s = refused_alike c n s

pub reopens_alike : ReopensAlike
reopens_alike reads closed old new path h order answer good found there same none other s = alike reads closed old new path h order good found there same none other answer s

-- ---- a world whose arrays were opened again

-- an array with its cells again
pub again_sound : (reads : ReadsCodecs) (closed new : StoreMap) (h : Held) (order : SubchunkWriteOrder) (table : Table) → IsSoundAt reads closed h → new ≡ closed → SameCells h.document (cell h.document.elements.fill table) (cell h.document.elements.fill h.table)
    → IsSoundAt reads new (record h { order = order; table = table })
again_sound reads closed new h order table s same cells_again =
    let P : StoreMap → Type 0 = λ store. IsSoundAt reads store (record h { order = order; table = table }) in
    subst P (sym same) (record {
      node = s.node;
      says = s.says;
      stored = s.stored;
      first = s.first;
      lossless = s.lossless;
      values = λ chunk box place below inside. ap (is_value h.document.elements.type) (cells_again chunk box place below inside) ∙ s.values chunk box place below inside;
      stands = λ chunk box below. stands_alike h.path h.document closed chunk box (cell h.document.elements.fill h.table) (cell h.document.elements.fill table) below
          (λ place inside. sym (cells_again chunk box place below inside)) (s.stands chunk box below);
    })

pub reopened_sound : ReopenedSound
reopened_sound reads closed new sound again = record {
  apart = again.apart;
  each = λ path h e.
      let r = again.each path h e in
      let P : Held → Type 0 = λ x. IsSoundAt reads new.store x in
      let Q : Held → Type 0 = λ x. HasCells x (cell r.0.document.elements.fill r.0.table) in
      subst P (sym r.2.0) (again_sound reads closed.store new.store r.0 h.order h.table (sound.each path r.0 r.1) again.store (subst Q r.2.0 r.2.1));
}

-- an array with another order and another table has the same keys of its own
own_again : (g before h : Held) (key : List ℕ) → g ≡ before → h ≡ record before { order = h.order; table = h.table } → OwnsKey g key → OwnsKey h key
own_again g before h key same is own =
    let P : Held → Type 0 = λ x. OwnsKey x key in
    let same_keys : OwnsKey before key → OwnsKey (record before { order = h.order; table = h.table }) key = λ k. k in
    subst P (sym is) (same_keys (subst P same own))

pub reopened_owned : ReopenedOwned
reopened_owned closed new key again all owned value e = ⊎_elim (λ own. inl (mine own)) inr (owned value (ap (λ m. get m key) (sym again.store) ∙ e)) where
  mine : IsOwnKey closed.arrays key → IsOwnKey new.arrays key
  mine own =
      let h = all own.0.path own.0 own.1 in
      let r = again.each own.0.path h.0 h.1 in
      (h.0, held_own own.0.path new.arrays h.0 h.1, own_again own.0 r.0 h.0 key (same_Some own.0 r.0 (sym own.1 ∙ r.1)) r.2.0 own.2)
