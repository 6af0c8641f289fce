-- Which keys of a store are the arrays' own, and what follows where no other has a value.
use Rattle.std.proofs.Common.{◌≡◌, ◌∙◌, ◌⊎◌, inl, inr, ⊎_elim, ℕ, Bool, true, false, if◌then◌else◌, List, [], ◌∷◌, ◌++◌, refl, sym, ap, subst, Option, Some, None, IsSome}
use Rattle.std.specs.FinMap.{get, get-empty}
use Rattle.std.specs.Cmp.Lexicographic.{slice_cmp}
use Rattle.std.specs.Ordering.{nat_cmp}
use Rattle.std.proofs.lemmas.Bool.{false≢true}
use Rattle.std.proofs.lemmas.Option.{none-some}
use Rattle.serde_json.specs.Data.{Data}
use Rattle.zarr_grids_keys.specs.Documents.{document_key}
use Rattle.zarr_grids_keys.specs.Keys.{encoded_key, chunk_key, key_under}
use Rattle.zarr_grids_keys.specs.Paths.{is_node_path}
use Rattle.zarr_grids_keys.specs.declared.document_name.DocumentName.{DocumentName}
use Rattle.zarr_grids_keys.specs.declared.document_name.DocumentName.TheVariants.{ZarrJson, ZArray, ZAttrs}
use Rattle.zarr_grids_keys.proofs.KeyLemmas.{document_key-injective}
use Rattle.zarr_grids_keys.proofs.RelatedLemmas.{key_under-unrelated}
use Rattle.zarr_codecs_metadata.specs.Chains.{ReadsCodecs}
use Rattle.zarr_codecs_options.specs.declared.subchunk_write_order.SubchunkWriteOrder.{SubchunkWriteOrder}
use Rattle.zarr_array_v2.specs.Versions.{is_version_2}
use Rattle.zarr_array_meaning.specs.Chunks.{stored_at, KeepsOtherKeys}
use Rattle.zarr_array_meaning.specs.Documents.{Document}
use Rattle.zarr_array_meaning.specs.StoreMaps.{StoreMap}
use Rattle.zarr_array_meaning.specs.Texts.{version_key}
use Rattle.zarr_array_meaning.specs.Written.{written_document}
use Rattle.zarr_run_meaning.specs.declared.cause.Cause.TheVariants as cause
use Rattle.zarr_run_meaning.specs.Causes.{IsChunkKey, IsChunkKeyIn, HasBadDocument, ReopenRefuses}
use Rattle.zarr_run_meaning.specs.Changes.{Creates, Reopens, Opens}
use Rattle.zarr_run_meaning.specs.Laws.{EmptyOwned, StepsOwn, RunsOwn, HasNoAttributes, OwnedHasNoChunks, OpensNone}
use Rattle.zarr_run_meaning.specs.Requests.{Request, Answer}
use Rattle.zarr_run_meaning.specs.Sound.{EndsOtherwise, HasNoChunks, OwnsKey, IsOwnKey, IsAttributesKey, IsOwned, OwnsKeysUnder}
use Rattle.zarr_run_meaning.specs.Tables.{Table}
use Rattle.zarr_run_meaning.specs.Worlds.{Held, World, held_at, is_taken, with_order, WithTable}
use Rattle.zarr_run_meaning.proofs.Arrays.{AreNodes, Stayed, at_path, near, apart, held_own, held_at-before, held_at-new, held_at-reordered, held_after, free_of, free_none}
use Rattle.zarr_run_meaning.proofs.AttributesKeys.{attributes_under, no_other_attributes}
use Rattle.zarr_run_meaning.proofs.Beginning.{none_from}
use Rattle.zarr_run_meaning.proofs.Effects.{LeftAttributes, Effect, kept, left, created, reordered, opened, wrote, erased, stored_anew, step_effect}
use Rattle.zarr_run_meaning.proofs.Keys.{AreBelow, kept_or_listed, listed_below}
use Rattle.zarr_run_meaning.proofs.Stored.{stored_text, document_keys, attributes_keys}

-- ---- an empty store

pub empty_owned : EmptyOwned
empty_owned count key value e = absurd (none-some value (sym (get-empty (slice_cmp nat_cmp) key) ∙ e))

-- ---- keys that are owned stay so

-- a key is an array's own, or one of attributes
abbrev Owner : List Held → List ℕ → Type 0
Owner arrays key = IsOwnKey arrays key ⊎ IsAttributesKey key

stayed_key : (key p : List ℕ) (t : Table) (store : StoreMap) (g h : Held) → Stayed p t store g h → OwnsKey g key → OwnsKey h key
stayed_key key p t store g h (at_path same is) own = let P : Held → Type 0 = λ x. OwnsKey x key in subst P (sym is) own
stayed_key key p t store g h (near differs related is shows) own = let P : Held → Type 0 = λ x. OwnsKey x key in subst P (sym is) own
stayed_key key p t store g h (apart unrelated is) own = let P : Held → Type 0 = λ x. OwnsKey x key in subst P (sym is) own

module _ (reads : ReadsCodecs) (old new : World) (key : List ℕ) (owned : IsOwned old key) where
  -- each own key is one still
  own_still : (IsOwnKey old.arrays key → IsOwnKey new.arrays key) → (value : List ℕ) → get old.store key ≡ Some value → Owner new.arrays key
  own_still still value e = ⊎_elim (λ own. inl (still own)) inr (owned value e)

  own_same : new.arrays ≡ old.arrays → IsOwnKey old.arrays key → IsOwnKey new.arrays key
  own_same arrays own = let P : List Held → Type 0 = λ hs. IsOwnKey hs key in subst P (sym arrays) own

  own_kept : new.arrays ≡ old.arrays → new.store ≡ old.store → IsOwned new key
  own_kept arrays store value e = own_still (own_same arrays) value (ap (λ m. get m key) (sym store) ∙ e)

  own_left : LeftAttributes old new → IsOwned new key
  own_left l value e = ⊎_elim
      (λ at. inr (l.path, l.node, at))
      (λ same. own_still (own_same l.arrays) value (sym same ∙ e))
      (attributes_keys l.path l.tree old.store new.store l.stores key)

  -- the arrays that were held are held still
  own_more : (b : Held) → new.arrays ≡ old.arrays ++ b ∷ [] → IsOwnKey old.arrays key → IsOwnKey new.arrays key
  own_more b arrays own = let P : List Held → Type 0 = λ hs. IsOwnKey hs key in subst P (sym arrays) (own.0, held_at-before own.0.path old.arrays b own.0 own.1, own.2)

  own_created : (path : List ℕ) (document : Data) (order : SubchunkWriteOrder) → Creates reads (record { path = path; document = document; order = order }) old new → IsOwned new key
  own_created path document order c value e = ⊎_elim
      (λ at. inl (begun, ap (held_at path) c.begins.holds ∙ held_at-new path old.arrays begun (free_none path old.arrays c.free) refl, inl at))
      (λ more. ⊎_elim (λ at. inr (path, c.node, at)) (λ same. own_still (own_more begun c.begins.holds) value (sym same ∙ e)) more)
      (document_keys path (written_document document) old.store new.store c.stores key) where
        begun : Held
        begun = record { path = path; tree = written_document document; document = c.meaning; order = order; table = c.table }

  own_opened : (path : List ℕ) (order : SubchunkWriteOrder) → Opens reads path order old new → IsOwned new key
  own_opened path order o value e = own_still (own_more _ o.begins.holds) value (ap (λ m. get m key) (sym o.stores) ∙ e)

  own_reordered : (path : List ℕ) (order : SubchunkWriteOrder) → Reopens path order old new → IsOwned new key
  own_reordered path order r value e = own_still still value (ap (λ m. get m key) (sym r.stores) ∙ e) where
    still : IsOwnKey old.arrays key → IsOwnKey new.arrays key
    still own =
        let P : Held → Type 0 = λ x. OwnsKey x key in
        let Q : List Held → Type 0 = λ hs. IsOwnKey hs key in
        let h = held_at-reordered path own.0.path order old.arrays own.0 own.1 in
        subst Q (sym r.updates) (h.0, held_own own.0.path (with_order path order old.arrays) h.0 h.1, ⊎_elim (λ is. subst P (sym is) own.2) (λ is. subst P (sym is) own.2) h.2)

  own_changed : (path : List ℕ) (held : Held) (chunks : List (List ℕ)) (table : Table) → held_at path old.arrays ≡ Some held → WithTable held.path table new.store old.arrays new.arrays
      → AreBelow held.document.grid chunks → KeepsOtherKeys held.path held.document chunks old.store new.store → IsOwned new key
  own_changed path held chunks table found updates are others value e = ⊎_elim
      (λ c. inl (after (held, held_own path old.arrays held found, inr c)))
      (λ same. own_still after value (sym same ∙ e))
      (kept_or_listed held.path held.document chunks old.store new.store key are others) where
        after : IsOwnKey old.arrays key → IsOwnKey new.arrays key
        after own =
            let h = held_after held.path table new.store old.arrays new.arrays updates own.0.path own.0 own.1 in
            (h.0, held_own own.0.path new.arrays h.0 h.1, stayed_key key held.path table new.store own.0 h.0 h.2 own.2)

  own_effect : (request : Request) (answer : Answer) → Effect reads request answer old new → IsOwned new key
  own_effect request answer (kept arrays store) = own_kept arrays store
  own_effect request answer (left l) = own_left l
  own_effect request answer (created path document order begins c) = own_created path document order c
  own_effect request answer (reordered path order r) = own_reordered path order r
  own_effect request answer (opened path order begins away o) = own_opened path order o
  own_effect request answer (wrote w) =
      own_changed w.path w.held w.chunks w.writes.table w.found w.writes.updates (record { below = λ c l. listed_below w.held.document.grid w.box c (w.few c l) }) w.writes.stores.others
  own_effect request answer (erased w) = own_changed w.path w.held w.chunks w.erases.table w.found w.erases.updates w.below w.erases.stores.others
  own_effect request answer (stored_anew w) = own_changed w.path w.held w.chunks w.held.table w.found w.updates w.below w.keeps.others

pub steps_own : StepsOwn
steps_own reads old new request answer key s owned = own_effect reads old new key owned request answer (step_effect reads old new request answer s)

pub runs_own : RunsOwn
runs_own reads old new [] [] key r owned = let P : World → Type 0 = λ w. IsOwned w key in subst P (sym r) owned
runs_own reads old new [] (answer ∷ answers) key r owned = absurd r
runs_own reads old new (request ∷ requests) [] key r owned = absurd r
runs_own reads old new (request ∷ requests) (answer ∷ answers) key r owned = runs_own reads r.0 new requests answers key r.2 (steps_own reads old r.0 request answer key r.1 owned)

-- ---- nothing is stored below a path that is free, where no key under it is foreign

-- no attributes are stored under a chunk's key: its suffix ends otherwise, or there are none under its path
no_attributes : (world : World) (path : List ℕ) (document : Document) (chunk value : List ℕ) → is_node_path path ≡ true → EndsOtherwise document.keys ⊎ HasNoAttributes path world
    → get world.store (chunk_key path document.keys chunk) ≡ Some value → IsAttributesKey (chunk_key path document.keys chunk) → ⊥
no_attributes world path document chunk value node bare e a = ⊎_elim
    (no_other_attributes path a.0 document.keys chunk node a.1 a.2)
    (λ (none : HasNoAttributes path world). none-some value (sym (none a.0 a.1 (attributes_under path a.0 document.keys chunk node a.1 a.2)) ∙ ap (get world.store) (sym a.2) ∙ e))
    bare

-- no chunk of a path that is free has a value
pub free_no_chunks : (world : World) (path : List ℕ) (document : Document) → AreNodes world.arrays → OwnsKeysUnder path world → is_node_path path ≡ true → is_taken path world.arrays ≡ false
    → EndsOtherwise document.keys ⊎ HasNoAttributes path world → HasNoChunks path document world.store
free_no_chunks world path document nodes owned node free bare chunk box below = none_from (stored_at path document world.store chunk) (λ value e.
    let name = encoded_key document.keys chunk in
    ⊎_elim
    (λ (own : IsOwnKey world.arrays (key_under path name)).
    let there = nodes own.0.path own.0 own.1 in
    let away = free_of path own.0.path world.arrays own.0 free own.1 in
    ⊎_elim
    (λ same. key_under-unrelated path own.0.path name _ node there away same)
    (λ (c : IsChunkKey own.0.path own.0.document (key_under path name)). key_under-unrelated path own.0.path name (encoded_key own.0.document.keys c.chunk) node there away c.is)
    own.2)
    (no_attributes world path document chunk value node bare e)
    (owned name value e))

pub owned_has_no_chunks : OwnedHasNoChunks
owned_has_no_chunks reads world path document sound owned node free bare = free_no_chunks world path document (λ q g at. (sound.each q g at).node) owned node free bare

-- ---- no array is opened

-- no document is stored at a path where no array is held, under a key that isn't foreign nor a chunk's
no_document : (world : World) (path : List ℕ) (name : DocumentName) → AreNodes world.arrays → is_node_path path ≡ true → held_at path world.arrays ≡ None → (name ≡ ZAttrs → ⊥)
    → IsOwned world (document_key path name) → (¬ IsChunkKeyIn world.arrays (document_key path name)) → (value : List ℕ) → get world.store (document_key path name) ≡ Some value → ⊥
no_document world path name nodes node none other owned no_chunk value e = ⊎_elim
    (λ (own : IsOwnKey world.arrays (document_key path name)).
    ⊎_elim
    (λ same. let once = document_key-injective path own.0.path name _ node (nodes own.0.path own.0 own.1) same in none-some own.0 (sym none ∙ ap (λ p. held_at p world.arrays) once.0 ∙ own.1))
    (λ c. no_chunk (record { held = own.0; found = own.1; names = c }))
    own.2)
    (λ (a : IsAttributesKey (document_key path name)). other (document_key-injective path a.0 name ZAttrs node a.1 a.2).1)
    (owned value e)

module _ (reads : ReadsCodecs) (old : World) (path : List ℕ) (nodes : AreNodes old.arrays) (json : IsOwned old (document_key path ZarrJson)) (zarray : IsOwned old (document_key path ZArray)) (none : held_at path old.arrays ≡ None) where
  no_other : ZarrJson ≡ ZAttrs → ⊥
  no_other same = absurd (cc)

  no_third : ZArray ≡ ZAttrs → ⊥
  no_third same = absurd (cc)

  pub no_opening : (new : World) (order : SubchunkWriteOrder) → Opens reads path order old new → ⊥
  no_opening new order o = go (is_version_2 o.tree) refl where
    text : (text : List ℕ) × (get old.store (version_key path o.tree) ≡ Some text)
    text = stored_text path o.tree old.store o.found.stored

    by : Bool → List ℕ
    by b = document_key path (if b then ZArray else ZarrJson)

    no_chunk : (b : Bool) → is_version_2 o.tree ≡ b → ¬ IsChunkKeyIn old.arrays (by b)
    no_chunk b e = let P : List ℕ → Type 0 = λ key. ¬ IsChunkKeyIn old.arrays key in subst P (ap by e) o.found.other

    go : (b : Bool) → is_version_2 o.tree ≡ b → ⊥
    go true e = no_document old path ZArray nodes o.node none no_third zarray (no_chunk true e) text.0 (ap (λ b. get old.store (by b)) (sym e) ∙ text.1)
    go false e = no_document old path ZarrJson nodes o.node none no_other json (no_chunk false e) text.0 (ap (λ b. get old.store (by b)) (sym e) ∙ text.1)

  -- nor is anything else found there
  no_bad : is_node_path path ≡ true → HasBadDocument reads old.arrays path old.store → ⊥
  no_bad node bad = ⊎_elim
      (λ at. let t = some_value (get old.store (document_key path ZarrJson)) at.0 in no_document old path ZarrJson nodes node none no_other json at.1 t.0 t.1)
      (λ at. let t = some_value (get old.store (document_key path ZArray)) at.0 in no_document old path ZArray nodes node none no_third zarray at.1 t.0 t.1)
      bad.some where
        some_value : (o : Option (List ℕ)) → IsSome o → (value : List ℕ) × (o ≡ Some value)
        some_value None some = absurd (false≢true some)
        some_value (Some value) some = (value, refl)

pub opens_none : OpensNone
opens_none reads old new path order sound json zarray none = (
  (λ s. ⊎_elim
      (λ (again : Reopens path order old new). none-some again.held (sym none ∙ again.found))
      (λ opens. no_opening reads old path (λ q g at. (sound.each q g at).node) json zarray none new order opens)
      s.0),
  (λ n s. let P : Option Held → Type 0 = λ o. ReopenRefuses reads old path o cause.Document in no_bad reads old path (λ q g at. (sound.each q g at).node) json zarray none s.0 (subst P none s.1.0)),
)
