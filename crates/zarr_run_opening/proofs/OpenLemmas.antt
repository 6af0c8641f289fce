-- The document that a path has, and why what is stored isn't opened.
use Rattle.std.proofs.Common.{◌≡◌, ◌∙◌, ℕ, List, refl, sym, subst, Bool, true, false, IsSome, IsErr, Option, Some, None, ⊎_elim, inl, inr}
use Rattle.std.specs.FinMap.{get}
use Rattle.std.proofs.lemmas.Bool.{both_ways, false≢true}
use Rattle.serde_json.specs.Data.{Data}
use Rattle.serde_json.specs.View.{view}
use Rattle.serde_json.specs.declared.value.Value.{Value}
use Rattle.zarr_grids_keys.specs.Documents.{document_key}
use Rattle.zarr_grids_keys.specs.declared.document_name.DocumentName.TheVariants.{ZarrJson}
use Rattle.zarr_grids_metadata.specs.Trees.{SameTree}
use Rattle.zarr_codecs_metadata.specs.Chains.{ReadsCodecs}
use Rattle.zarr_array_v2.specs.Versions.{is_version_2}
use Rattle.zarr_array_v2.proofs.SameVersions.{same_version}
use Rattle.zarr_array_meaning.specs.Documents.{read_document}
use Rattle.zarr_array_meaning.specs.StoreMaps.{StoreMap}
use Rattle.zarr_array_meaning.specs.Texts.{version_key}
use Rattle.zarr_array_meaning.proofs.Stored.{one_document}
use Rattle.zarr_run_meaning.specs.declared.cause.Cause.{Cause}
use Rattle.zarr_run_meaning.specs.declared.cause.Cause.TheVariants as cause
use Rattle.zarr_run_opening.specs.Calls.{IsStoreCause, DocumentRefused}
use Rattle.zarr_run_opening.specs.ChunkKeys.{HasNoneBeside, HasSomeBeside}
use Rattle.zarr_run_opening.specs.Reopenings.{HasVersion, IsVersionAt, IsVersionBeside, IsFoundBeside, HasSomeFound, IsDocumentBeside, ComparisonRefused, OpeningRefused, version_name}
use Rattle.zarr_run_opening.specs.declared.held.HeldArray.{HeldArray}
use Rattle.zarr_run_opening.specs.declared.stored.StoredDocument.{StoredDocument}
use Rattle.zarr_run_opening.specs.declared.stored.StoredDocument.TheVariants.{Nothing, NoDocument, Tree}
use Rattle.zarr_run_opening.proofs.StoredLemmas.{some_under, under_version}

-- nothing is where something is
some_none : {A : Type 0} (o : Option A) → IsSome o → o ≡ None → ⊥
some_none None some e = false≢true some
some_none (Some a) some e = absurd (cc)

-- ---- an array that is held

-- nothing of its version is stored
pub nothing_changed : {B : Type 0} (path : List ℕ) (array : HeldArray B) (store : StoreMap) → IsVersionAt (is_version_2 (view array.tree)) path store Nothing → ComparisonRefused path array store cause.DocumentChanged
nothing_changed path array store none = λ tree has same.
    let v = same_version tree (view array.tree) same in
    some_none (get store (document_key path (version_name (is_version_2 (view array.tree))))) (some_under (is_version_2 (view array.tree)) path tree store (under_version (is_version_2 (view array.tree)) path tree store (record { version = v; stored = has }))) none

-- what is stored there is no document
pub no_document_changed : {B : Type 0} (path : List ℕ) (array : HeldArray B) (store : StoreMap) → IsVersionAt (is_version_2 (view array.tree)) path store NoDocument → ComparisonRefused path array store cause.DocumentChanged
no_document_changed path array store bad = λ tree has same. bad.1 tree (record { version = same_version tree (view array.tree) same; stored = has })

-- another tree is stored
pub tree_changed : {B : Type 0} (path : List ℕ) (array : HeldArray B) (store : StoreMap) (that : Data) → HasVersion (is_version_2 (view array.tree)) path that store → (SameTree that (view array.tree) → ⊥) → ComparisonRefused path array store cause.DocumentChanged
tree_changed path array store that h differ = λ tree has same.
    let P : Data → Type 0 = λ t. SameTree t (view array.tree) in
    differ (subst P (one_document path tree that store (same_version tree (view array.tree) same ∙ sym h.version) has h.stored) same)

-- what stands under the keys of the array's version, as it was found
pub version_as : (v two : Bool) (path : List ℕ) (store : StoreMap) (found s : StoredDocument) → v ≡ two → found ≡ s → IsVersionAt v path store found → IsVersionAt two path store s
version_as v two path store found s version same is =
    let P : Bool → Type 0 = λ b. IsVersionAt b path store found in
    let Q : StoredDocument → Type 0 = λ (t : StoredDocument). IsVersionAt two path store t in
    subst Q same (subst P version is)

-- ---- the document that a path has

module _ (IsChunk : List ℕ → Type 0) (path : List ℕ) (store : StoreMap) where
  -- nothing is stored under a key under which something is
  some_or_none : (key : List ℕ) → HasSomeBeside IsChunk store key → HasNoneBeside IsChunk store key → ⊥
  some_or_none key some none = ⊎_elim (λ e. some_none (get store key) some.0 e) (λ c. some.1 c) none

  version_found : (two : Bool) (tree : Data) → is_version_2 tree ≡ two → IsFoundBeside IsChunk path tree store → HasVersion two path tree store
  version_found two tree version f = record { version = version; stored = f.stored }

  key_some : (two : Bool) (tree : Data) → HasVersion two path tree store → (IsChunk (version_key path tree) → ⊥) → HasSomeBeside IsChunk store (document_key path (version_name two))
  key_some two tree h other =
      let P : Bool → Type 0 = λ b. IsChunk (document_key path (version_name b)) → ⊥ in
      (some_under two path tree store (under_version two path tree store h), subst P h.version other)

  found_some : (two : Bool) (tree : Data) → is_version_2 tree ≡ two → IsFoundBeside IsChunk path tree store → HasSomeBeside IsChunk store (document_key path (version_name two))
  found_some two tree version f = key_some two tree (version_found two tree version f) f.other

  one_at : (a b : Data) (v w : Bool) → is_version_2 a ≡ v → is_version_2 b ≡ w → IsFoundBeside IsChunk path a store → IsFoundBeside IsChunk path b store → a ≡ b
  one_at a b true true va vb fa fb = one_document path a b store (va ∙ sym vb) fa.stored fb.stored
  one_at a b false false va vb fa fb = one_document path a b store (va ∙ sym vb) fa.stored fb.stored
  one_at a b true false va vb fa fb = absurd (some_or_none (document_key path ZarrJson) (found_some false b vb fb) (fa.first va))
  one_at a b false true va vb fa fb = absurd (some_or_none (document_key path ZarrJson) (found_some false a va fa) (fb.first vb))

  -- a path has one document
  one_found : (a b : Data) → IsFoundBeside IsChunk path a store → IsFoundBeside IsChunk path b store → a ≡ b
  one_found a b fa fb = one_at a b (is_version_2 a) (is_version_2 b) refl refl fa fb

  some_at : (two : Bool) (tree : Data) → is_version_2 tree ≡ two → IsFoundBeside IsChunk path tree store → HasSomeFound IsChunk path store
  some_at true tree version f = inr (found_some true tree version f)
  some_at false tree version f = inl (found_some false tree version f)

  -- a document of version 3 is the one that the path has
  pub first_found : (tree : Data) → IsVersionBeside IsChunk false path store NoDocument → IsFoundBeside IsChunk path tree store → ⊥
  first_found tree bad f = go (is_version_2 tree) refl where
    go : (v : Bool) → is_version_2 tree ≡ v → ⊥
    go true e = some_or_none (document_key path ZarrJson) bad.0 (f.first e)
    go false e = bad.1 tree (version_found false tree e f)

  pub no_first : IsVersionBeside IsChunk false path store NoDocument → IsDocumentBeside IsChunk path store NoDocument
  no_first bad = (inl bad.0, λ tree f. first_found tree bad f)

  pub tree_first : (tree : Value) → IsVersionBeside IsChunk false path store (Tree tree) → IsDocumentBeside IsChunk path store (Tree tree)
  tree_first tree is =
      let P : Bool → Type 0 = λ b. IsChunk (document_key path (version_name b)) → ⊥ in
      record { stored = is.0.stored; other = subst P (sym is.0.version) is.1; first = λ v. absurd (both_ways (is_version_2 (view tree)) is.0.version v) }

  -- where none of version 3 is stored, one of version 2 is
  no_second : IsVersionBeside IsChunk false path store Nothing → IsVersionBeside IsChunk true path store NoDocument → (tree : Data) → IsFoundBeside IsChunk path tree store → ⊥
  no_second none bad tree f = go (is_version_2 tree) refl where
    go : (v : Bool) → is_version_2 tree ≡ v → ⊥
    go true e = bad.1 tree (version_found true tree e f)
    go false e = some_or_none (document_key path ZarrJson) (found_some false tree e f) none

  pub second : (s : StoredDocument) → IsVersionBeside IsChunk false path store Nothing → IsVersionBeside IsChunk true path store s → IsDocumentBeside IsChunk path store s
  second Nothing none is = (none, is)
  second NoDocument none is = (inr is.0, λ tree f. no_second none is tree f)
  second (Tree tree) none is =
      let P : Bool → Type 0 = λ b. IsChunk (document_key path (version_name b)) → ⊥ in
      record { stored = is.0.stored; other = subst P (sym is.0.version) is.1; first = λ v. none }

  pub document_as : (found s : StoredDocument) → found ≡ s → IsDocumentBeside IsChunk path store found → IsDocumentBeside IsChunk path store s
  document_as found s same is = let P : StoredDocument → Type 0 = λ (t : StoredDocument). IsDocumentBeside IsChunk path store t in subst P same is

  -- ---- why it isn't opened

  module _ (reads : ReadsCodecs) where
    pub no_document_refused : IsDocumentBeside IsChunk path store NoDocument → OpeningRefused IsChunk reads path store cause.Document
    no_document_refused bad = record { some = bad.0; none = λ tree f. absurd (bad.1 tree f) }

    pub store_refused : (c : Cause) → IsStoreCause c → OpeningRefused IsChunk reads path store c
    store_refused cause.Store why = tt
    store_refused cause.Memory why = tt
    store_refused cause.NoArray why = absurd why
    store_refused cause.Document why = absurd why
    store_refused cause.Path why = absurd why
    store_refused cause.PathTaken why = absurd why
    store_refused cause.Region why = absurd why
    store_refused cause.Data why = absurd why
    store_refused cause.Size why = absurd why
    store_refused cause.Fit why = absurd why
    store_refused cause.Codec why = absurd why
    store_refused cause.Damage why = absurd why
    store_refused cause.DocumentChanged why = absurd why

    pub tree_refused : (tree : Data) (c : Cause) → IsFoundBeside IsChunk path tree store → DocumentRefused reads tree c → OpeningRefused IsChunk reads path store c
    tree_refused tree cause.Document f why =
        let P : Data → Type 0 = λ t. IsErr (read_document reads t) in
        record { some = some_at (is_version_2 tree) tree refl f; none = λ other g. subst P (one_found tree other f g) why }
    tree_refused tree cause.Memory f why = tt
    tree_refused tree cause.NoArray f why = absurd why
    tree_refused tree cause.Store f why = absurd why
    tree_refused tree cause.Path f why = absurd why
    tree_refused tree cause.PathTaken f why = absurd why
    tree_refused tree cause.Region f why = absurd why
    tree_refused tree cause.Data f why = absurd why
    tree_refused tree cause.Size f why = absurd why
    tree_refused tree cause.Fit f why = absurd why
    tree_refused tree cause.Codec f why = absurd why
    tree_refused tree cause.Damage f why = absurd why
    tree_refused tree cause.DocumentChanged f why = absurd why
