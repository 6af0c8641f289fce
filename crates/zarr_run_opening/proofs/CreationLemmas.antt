-- A create in a world.
use Rattle.std.proofs.Common.{◌≡◌, ◌∙◌, ℕ, List, [], ◌∷◌, ◌++◌, refl, sym, ap, subst, IsTrue, ◌⊎◌, ⊎_elim, inl, inr, Option, Some, None, Result, Ok, Err, IsOk, IsSome}
use Rattle.std.specs.FinMap.{get}
use Rattle.std.specs.Result.{IfErr, OnOk, OnErr}
use Rattle.std.proofs.lemmas.Bool.{false≢true}
use Rattle.serde_json.specs.Data.{Data}
use Rattle.zarr_grids_keys.specs.Documents.{document_key, document_name}
use Rattle.zarr_grids_keys.specs.Keys.{chunk_key, encoded_key}
use Rattle.zarr_grids_keys.specs.Paths.{is_node_path}
use Rattle.zarr_grids_keys.specs.Related.{is_related}
use Rattle.zarr_grids_keys.specs.declared.document_name.DocumentName.{DocumentName}
use Rattle.zarr_grids_keys.specs.declared.document_name.DocumentName.TheVariants.{ZarrJson, ZArray}
use Rattle.zarr_codecs_meaning.specs.Chains.{ByteCodec}
use Rattle.zarr_codecs_metadata.specs.Chains.{ReadsCodecs}
use Rattle.zarr_codecs_options.specs.declared.subchunk_write_order.SubchunkWriteOrder.{SubchunkWriteOrder}
use Rattle.zarr_array_meaning.specs.Documents.{Document, read_document}
use Rattle.zarr_array_meaning.specs.StoreMaps.{StoreMap}
use Rattle.zarr_run_meaning.specs.Steps.{Step, LeavesAttributes, refused_after}
use Rattle.zarr_run_meaning.specs.Tables.{Table}
use Rattle.zarr_run_meaning.specs.Worlds.{Held, World, held_at, IsTableAt}
use Rattle.zarr_run_meaning.specs.declared.cause.Cause.{Cause}
use Rattle.zarr_run_meaning.specs.declared.cause.Cause.TheVariants as cause
use Rattle.zarr_run_meaning.proofs.FoundTables.{table_found}
use Rattle.zarr_run_meaning.proofs.RefusedCounts.{counts_refusal}
use Rattle.zarr_grids_keys.proofs.HeadLemmas.{chunk_key-no_own_document}
use Rattle.zarr_grids_keys.proofs.RelatedLemmas.{is_related-comm, is_related-refl, key_under-unrelated}
use Rattle.zarr_array_meaning.specs.Texts.{HasNoDocument, StoresAttributes, StoresDocument}
use Rattle.zarr_array_meaning.specs.Written.{written_document}
use Rattle.zarr_run_meaning.specs.Causes.{HasSomeDocument}
use Rattle.zarr_run_meaning.specs.Requests.{create, Answer, done, refused}
use Rattle.zarr_run_opening.specs.Arrays.{IsFreeIn, KeepsArrays}
use Rattle.zarr_run_opening.specs.Calls.{refused_by, DocumentRefused}
use Rattle.zarr_run_opening.specs.Creations.{IsPrepared, PreparationRefused, IsStored, StoringRefused, LeavesFirst, with_first}
use Rattle.zarr_run_opening.specs.Sessions.{Arrays, array_at, document_of, IsIn, answer_of}
use Rattle.zarr_run_opening.specs.declared.creating.Prepared.{Prepared}
use Rattle.zarr_run_opening.proofs.HoldsLemmas.{table_kept, agreed_none, agrees_kept, held_kept, taken_in_world, unrelated_held, free_in_world, node_in_world, in_refused, stays, none_from}
use Rattle.zarr_run_opening.proofs.BeginLemmas.{in_begun}
use Rattle.zarr_run_opening.proofs.TextLemmas.{texts_stored, first_stored, texts_other, first_other}
use Rattle.zarr_run_opening.proofs.WorldLemmas.{held_at-path}

-- no array is held at a free path
pub none_at : {B : Type 0} (arrays : Arrays B) (path : List ℕ) → IsTrue (is_node_path path) → IsFreeIn arrays path → array_at arrays path ≡ None
none_at arrays path node free = none_from (array_at arrays path) (λ array e. false≢true (sym (free path array node e) ∙ is_related-refl path))

ok_of : {A E : Type 0} (r : Result A E) (x : A) → r ≡ Ok x → IsOk r
ok_of {A} {E} r x e = let P : Result A E → Type 0 = λ r. IsOk r in subst P (sym e) refl

-- what a create found and left
pub record Creates {B : Type 0} (meaning : B → ByteCodec) (reads : ReadsCodecs) (path : List ℕ) (d : Data) (order : SubchunkWriteOrder) (prepared : Prepared B) (old new : Arrays B) (store store' : StoreMap) (n n' : ℕ) (r : Result (Unit {0}) Cause) : Type 0 where
  pub node : IsTrue (is_node_path path)
  pub free : IsFreeIn old path
  pub is : IsPrepared (meaning, reads) path d order prepared
  pub ok : OnOk r (IsStored path prepared (old, (store, n)) (new, (store', n')))
  pub refused : IfErr r (StoringRefused path store)
  pub leaves : OnErr r (LeavesFirst path prepared.texts store store')
  pub keeps : OnErr r (KeepsArrays old new)
  pub calls : n' ≡ refused_by n r

-- a step to a world that a state is in
abbrev pub StepsTo : {B : Type 0} → (B → ByteCodec) → ReadsCodecs → World → List ℕ → Data → SubchunkWriteOrder → Answer → Arrays B → StoreMap → ℕ → Type 0
StepsTo meaning reads before path d order answer new store n = (after : World) × Step reads before (create path d order) answer after × IsIn meaning reads (new, (store, n)) after

module _ (B : Type 0) (meaning : B → ByteCodec) (reads : ReadsCodecs) (path : List ℕ) (d : Data) (order : SubchunkWriteOrder) (old : Arrays B) (store : StoreMap) (n : ℕ) (w : World) (k : IsIn meaning reads (old, (store, n)) w) where
  preparation_refused : (c : Cause) → PreparationRefused reads old path d c → Step reads w (create path d order) (refused c 0) (record w { refused = refused_after c w.refused })
  preparation_refused cause.Path why = (why, stays cause.Path w)
  preparation_refused cause.PathTaken why = (why.0, (inl (taken_in_world B meaning reads old store n w path k why.1), inl (stays cause.PathTaken w)))
  preparation_refused cause.Document why = (why.0, ((free_in_world B meaning reads old store n w path k why.1, why.2), inl (stays cause.Document w)))
  preparation_refused cause.Memory why = inl (stays cause.Memory w)
  preparation_refused cause.NoArray why = absurd why
  preparation_refused cause.Region why = absurd why
  preparation_refused cause.Data why = absurd why
  preparation_refused cause.Size why = absurd why
  preparation_refused cause.Fit why = absurd why
  preparation_refused cause.Codec why = absurd why
  preparation_refused cause.Store why = absurd why
  preparation_refused cause.Damage why = absurd why
  preparation_refused cause.DocumentChanged why = absurd why

  no_call : (c : Cause) → PreparationRefused reads old path d c → refused_after c n ≡ n
  no_call cause.Path why = refl
  no_call cause.PathTaken why = refl
  no_call cause.NoArray why = refl
  no_call cause.Document why = refl
  no_call cause.Region why = refl
  no_call cause.Data why = refl
  no_call cause.Size why = refl
  no_call cause.Fit why = refl
  no_call cause.Codec why = refl
  no_call cause.Store why = absurd why
  no_call cause.Damage why = refl
  no_call cause.Memory why = refl
  no_call cause.DocumentChanged why = refl

  -- a create that is refused before the store is called
  pub not_prepared : (c : Cause) → PreparationRefused reads old path d c → StepsTo meaning reads w path d order (refused c 0) old store n
  not_prepared c why = (
    record w { refused = refused_after c w.refused },
    preparation_refused c why,
    in_refused B meaning reads old old store store n n c w k (λ q. refl) refl (sym (no_call c why)),
  )

  module _ (prepared : Prepared B) (node : IsTrue (is_node_path path)) (free : IsFreeIn old path) (is : IsPrepared (meaning, reads) path d order prepared) where
    opens : IsOk (read_document reads d)
    opens = ok_of (read_document reads d) (document_of meaning prepared.array) is.opens

    has_some : HasSomeDocument path store → HasSomeDocument path w.store
    has_some e = let P : StoreMap → Type 0 = λ (s : StoreMap). HasSomeDocument path s in subst P (sym k.store) e

    has_none : HasNoDocument path store → HasNoDocument path w.store
    has_none e = let P : StoreMap → Type 0 = λ (s : StoreMap). HasNoDocument path s in subst P (sym k.store) e

    -- where some document is stored, or none
    some_none : (o : Option (List ℕ)) → IsSome o → o ≡ None → ⊥
    some_none None some e = false≢true some
    some_none (Some v) some e = absurd (cc)

    not_both : HasSomeDocument path store → HasNoDocument path store → ⊥
    not_both some none = ⊎_elim (λ e. some_none (get store (document_key path ZarrJson)) e none.zarr_json) (λ e. some_none (get store (document_key path ZArray)) e none.zarray) some

    storing_refused : (c : Cause) → StoringRefused path store c → Step reads w (create path d order) (refused c 0) (record w { refused = refused_after c w.refused })
    storing_refused cause.PathTaken why = (node, (inr (free_in_world B meaning reads old store n w path k free, opens, has_some why), inl (stays cause.PathTaken w)))
    storing_refused cause.Store why = (node, ((free_in_world B meaning reads old store n w path k free, opens), inl (stays cause.Store w)))
    storing_refused cause.Memory why = inl (stays cause.Memory w)
    storing_refused cause.Path why = absurd why
    storing_refused cause.NoArray why = absurd why
    storing_refused cause.Document why = absurd why
    storing_refused cause.Region why = absurd why
    storing_refused cause.Data why = absurd why
    storing_refused cause.Size why = absurd why
    storing_refused cause.Fit why = absurd why
    storing_refused cause.Codec why = absurd why
    storing_refused cause.Damage why = absurd why
    storing_refused cause.DocumentChanged why = absurd why

    -- what is stored for a held array's chunk isn't under a key of the path's documents
    chunk_apart : (q : List ℕ) (h : Held) → held_at q w.arrays ≡ Some h → (chunk : List ℕ) (name : DocumentName) → chunk_key h.path h.document.keys chunk ≡ document_key path name → ⊥
    chunk_apart q h e chunk name = key_under-unrelated h.path path (encoded_key h.document.keys chunk) (document_name name) (node_in_world B meaning reads old store n w q h k e) node
        (is_related-comm h.path path ∙ ap (is_related path) (sym (held_at-path q w.arrays h e)) ∙ unrelated_held B meaning reads old store n w path k free q h e)

    -- ---- the attributes of a document of version 2 are left
    module _ (store' : StoreMap) (none : HasNoDocument path store) (attributes : StoresAttributes path (written_document d) store store') where
      abbrev left_in : Cause → World
      left_in c = record w { store = store'; refused = refused_after c w.refused }

      leaves_attributes : (c : Cause) → (c ≡ cause.Store) ⊎ (c ≡ cause.Memory) → LeavesAttributes path (written_document d) c w (left_in c)
      leaves_attributes c by =
          let P : StoreMap → Type 0 = λ (s : StoreMap). StoresAttributes path (written_document d) s store' in
          record { by = by; fresh = has_none none; stores = subst P (sym k.store) attributes; is = refl; count = counts_refusal c w.refused }

      storing_left : (c : Cause) → StoringRefused path store c → Step reads w (create path d order) (refused c 0) (left_in c)
      storing_left cause.PathTaken why = absurd (not_both why none)
      storing_left cause.Store why = (node, ((free_in_world B meaning reads old store n w path k free, opens), inr (refl, leaves_attributes cause.Store (inl refl))))
      storing_left cause.Memory why = inr (node, ((free_in_world B meaning reads old store n w path k free, opens), inr (refl, leaves_attributes cause.Memory (inr refl))))
      storing_left cause.Path why = absurd why
      storing_left cause.NoArray why = absurd why
      storing_left cause.Document why = absurd why
      storing_left cause.Region why = absurd why
      storing_left cause.Data why = absurd why
      storing_left cause.Size why = absurd why
      storing_left cause.Fit why = absurd why
      storing_left cause.Codec why = absurd why
      storing_left cause.Damage why = absurd why
      storing_left cause.DocumentChanged why = absurd why

    -- ---- the create is refused
    module _ (new : Arrays B) (store' : StoreMap) (n' : ℕ) (c : Cause) (why : StoringRefused path store c) (keeps : KeepsArrays old new) (calls : n' ≡ refused_after c n) where
      pub refused_same : store' ≡ store → StepsTo meaning reads w path d order (refused c 0) new store' n'
      refused_same same = (record w { refused = refused_after c w.refused }, storing_refused c why, in_refused B meaning reads old new store store' n n' c w k keeps same calls)

      first_chunks : (q : List ℕ) (h : Held) → held_at q w.arrays ≡ Some h → (chunk : List ℕ) → get (with_first prepared.texts store) (chunk_key h.path h.document.keys chunk) ≡ get store (chunk_key h.path h.document.keys chunk)
      first_chunks q h e chunk = first_other path (written_document d) prepared.texts store (chunk_key h.path h.document.keys chunk) is.texts (chunk_apart q h e chunk)

      refused_left : HasNoDocument path store → StoresAttributes path (written_document d) store (with_first prepared.texts store) → StepsTo meaning reads w path d order (refused c 0) new (with_first prepared.texts store) n'
      refused_left none attributes = let first = with_first prepared.texts store in (
        record w { store = first; refused = refused_after c w.refused },
        storing_left first none attributes c why,
        record {
          agree = λ q. agrees_kept B meaning reads store first (array_at old q) (array_at new q) (held_at q w.arrays) (held_at q w.arrays) (keeps q) refl (k.agree q) (λ array h e held. held_kept B meaning reads array store first h held (first_chunks q h e));
          distinct = k.distinct;
          store = refl;
          refused = ap (refused_after c) k.refused ∙ sym calls;
        },
      )

      pub refused_after_first : LeavesFirst path prepared.texts store store' → StepsTo meaning reads w path d order (refused c 0) new store' n'
      refused_after_first leaves = ⊎_elim (λ same. refused_same same)
          (λ (left : HasNoDocument path store × (store' ≡ with_first prepared.texts store)).
          let P : StoreMap → Type 0 = λ (s : StoreMap). StepsTo meaning reads w path d order (refused c 0) new s n' in
          ⊎_elim (λ same. refused_same (left.1 ∙ same)) (λ attributes. subst P (sym left.1) (refused_left left.0 attributes)) (first_stored path (written_document d) prepared.texts store is.texts))
          leaves

    -- ---- the create is done
    module _ (new : Arrays B) (store' : StoreMap) (n' : ℕ) (c : IsStored path prepared (old, (store, n)) (new, (store', n'))) where
      get_other : (q : List ℕ) → ((name : DocumentName) → q ≡ document_key path name → ⊥) → get store' q ≡ get store q
      get_other q ne = ap (λ (m : StoreMap). get m q) c.writes ∙ texts_other path (written_document d) prepared.texts store q is.texts ne

      stores : StoresDocument path (written_document d) w.store store'
      stores =
          let P : StoreMap → Type 0 = λ (s : StoreMap). StoresDocument path (written_document d) s store' in
          let Q : StoreMap → Type 0 = λ (s : StoreMap). StoresDocument path (written_document d) store s in
          subst P (sym k.store) (subst Q (sym c.writes) (texts_stored path (written_document d) prepared.texts store is.texts))

      abbrev document : Document
      document = document_of meaning prepared.array

      abbrev found : (table : Table) × IsTableAt path document store table
      found = let t = table_found path document store in (t.0, t.1)

      own_chunks : (chunk : List ℕ) → get store' (chunk_key path document.keys chunk) ≡ get store (chunk_key path document.keys chunk)
      own_chunks chunk = get_other (chunk_key path document.keys chunk) (λ name. chunk_key-no_own_document path document.keys chunk name)

      other_chunks : (q : List ℕ) (h : Held) → held_at q w.arrays ≡ Some h → (chunk : List ℕ) → get store' (chunk_key h.path h.document.keys chunk) ≡ get store (chunk_key h.path h.document.keys chunk)
      other_chunks q h e chunk = get_other (chunk_key h.path h.document.keys chunk) (chunk_apart q h e chunk)

      abbrev begun : Held
      begun = record { path = path; tree = written_document d; document = document; order = order; table = found.0 }

      free_at : held_at path w.arrays ≡ None
      free_at = agreed_none B meaning reads store (array_at old path) (held_at path w.arrays) (k.agree path) (none_at old path node free)

      pub created : StepsTo meaning reads w path d order done new store' n
      created =
          let P : StoreMap → Type 0 = λ (s : StoreMap). IsTableAt path document s found.0 in (
            record { arrays = w.arrays ++ begun ∷ []; store = store'; refused = n },
            (
              record {
                node = node;
                free = free_in_world B meaning reads old store n w path k free;
                fresh = has_none c.fresh;
                meaning = document;
                opens = is.opens;
                table = found.0;
                begins = record { free = free_at; shows = subst P (sym k.store) found.1; holds = refl };
                stores = stores;
              },
              sym k.refused,
            ),
            in_begun B meaning reads path (written_document d) order old new store store' n w k prepared.array is.opened found.0 (table_kept path document store store' found.0 own_chunks found.1) node free_at c.held c.others
                (λ array q h e held. held_kept B meaning reads array store store' h held (other_chunks q h e)),
          )

-- what a create found and left is a step in each world
pub create_steps : {B : Type 0} (meaning : B → ByteCodec) (reads : ReadsCodecs) (path : List ℕ) (d : Data) (order : SubchunkWriteOrder) (prepared : Prepared B) (old new : Arrays B) (store store' : StoreMap) (n n' : ℕ) (r : Result (Unit {0}) Cause)
    → Creates meaning reads path d order prepared old new store store' n n' r → (w : World) → IsIn meaning reads (old, (store, n)) w → StepsTo meaning reads w path d order (answer_of r) new store' n'
create_steps {B} meaning reads path d order prepared old new store store' n n' (Ok x) c w k =
    let P : ℕ → Type 0 = λ m. StepsTo meaning reads w path d order done new store' m in
    subst P (sym c.calls) (created B meaning reads path d order old store n w k prepared c.node c.free c.is new store' n' c.ok)
create_steps {B} meaning reads path d order prepared old new store store' n n' (Err e) c w k =
    refused_after_first B meaning reads path d order old store n w k prepared c.node c.free c.is new store' n' e c.refused c.keeps c.calls c.leaves

-- a document that is refused
pub document_refused : {B : Type 0} (reads : ReadsCodecs) (arrays : Arrays B) (path : List ℕ) (d : Data) (c : Cause) → IsTrue (is_node_path path) → IsFreeIn arrays path → DocumentRefused reads d c → PreparationRefused reads arrays path d c
document_refused reads arrays path d cause.Document node free why = (node, free, why)
document_refused reads arrays path d cause.Memory node free why = tt
document_refused reads arrays path d cause.Path node free why = absurd why
document_refused reads arrays path d cause.PathTaken node free why = absurd why
document_refused reads arrays path d cause.NoArray node free why = absurd why
document_refused reads arrays path d cause.Region node free why = absurd why
document_refused reads arrays path d cause.Data node free why = absurd why
document_refused reads arrays path d cause.Size node free why = absurd why
document_refused reads arrays path d cause.Fit node free why = absurd why
document_refused reads arrays path d cause.Codec node free why = absurd why
document_refused reads arrays path d cause.Store node free why = absurd why
document_refused reads arrays path d cause.Damage node free why = absurd why
document_refused reads arrays path d cause.DocumentChanged node free why = absurd why

-- what refuses a create before a call of the store leaves its count
pub preparation_counts : {B : Type 0} (reads : ReadsCodecs) (arrays : Arrays B) (path : List ℕ) (tree : Data) (c : Cause) (count : ℕ) → PreparationRefused reads arrays path tree c → count ≡ refused_after c count
preparation_counts reads arrays path tree cause.Path count is = refl
preparation_counts reads arrays path tree cause.PathTaken count is = refl
preparation_counts reads arrays path tree cause.Document count is = refl
preparation_counts reads arrays path tree cause.Memory count is = refl
preparation_counts reads arrays path tree c count is = absurd is
