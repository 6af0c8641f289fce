-- The texts of documents: how deep their trees nest, how they are stored, and how many writing calls that takes.
use Rattle.std.proofs.Common.{◌≡◌, ◌≢◌, ◌∙◌, ℕ, suc, ◌≤◌, List, bytes_eq, codes, refl, sym, ap, subst, Bool, true, false, MatchBool, if◌then◌else◌, ◌⊎◌, inl, inr, Option, Some, None, unwrap_or, Result, Ok, Err, arith}
use Rattle.std.specs.FinMap.{get, insert}
use Rattle.std.specs.Result.{IfErr}
use Rattle.serde_json.specs.Data.{Data, object, Members, no_members, member, depth, members_depth}
use Rattle.serde_json.specs.Find.{get_member}
use Rattle.zarr_grids_keys.specs.Documents.{document_key}
use Rattle.zarr_grids_keys.specs.declared.document_name.DocumentName.{DocumentName}
use Rattle.zarr_grids_keys.specs.declared.document_name.DocumentName.TheVariants.{ZarrJson, ZArray, ZAttrs}
use Rattle.zarr_grids_metadata.proofs.PutLemmas.{depth_got}
use Rattle.zarr_codecs_options.specs.declared.subchunk_write_order.SubchunkWriteOrder.{SubchunkWriteOrder}
use Rattle.zarr_array_v2.specs.Attributes.{without, attributes_of, without_attributes}
use Rattle.zarr_array_v2.specs.Versions.{is_version_2}
use Rattle.zarr_array_meaning.specs.StoreMaps.{StoreMap, CountsUpTo, counted}
use Rattle.zarr_array_meaning.specs.Texts.{StoresTree, StoresParts, StoresAttributes, StoresDocument}
use Rattle.zarr_array_meaning.specs.Written.{written_document}
use Rattle.zarr_array_meaning.proofs.Stored.{put_other}
use Rattle.zarr_array_meaning.proofs.WrittenVersions.{keeps_version}
use Rattle.zarr_run_meaning.specs.Counts.{WritesAtMost}
use Rattle.zarr_run_meaning.specs.Requests.{create}
use Rattle.zarr_run_meaning.specs.Worlds.{World}
use Rattle.zarr_run_meaning.specs.declared.cause.Cause.{Cause}
use Rattle.zarr_run_meaning.specs.declared.cause.Cause.TheVariants as cause
use Rattle.zarr_run_opening.specs.Calls.{IsCallCause}
use Rattle.zarr_run_opening.specs.Creations.{IsKeyedText, ArePartsOf, AreTextsOf, StoringRefused, with_text, with_texts, with_first, most_left, most_calls, most_created}
use Rattle.zarr_run_opening.specs.Sessions.{answer_of}
use Rattle.zarr_run_opening.specs.declared.texts.KeyedText.{KeyedText}
use Rattle.zarr_run_opening.specs.declared.texts.Texts.{Texts}
use Rattle.zarr_run_opening.specs.declared.texts.Texts.TheVariants.{Whole, Parts}

-- ---- how deep the parts of a document nest

without_at : (b : Bool) (k : List ℕ) (d : Data) (rest ms : Members) → members_depth rest ≤ members_depth ms → members_depth (if b then rest else member k d rest) ≤ members_depth (member k d ms)
without_at true k d rest ms h = omega arith
without_at false k d rest ms h = omega arith

depth_without : (name : List ℕ) (ms : Members) → members_depth (without name ms) ≤ members_depth ms
depth_without name no_members = omega arith
depth_without name (member k d ms) = without_at (bytes_eq name k) k d (without name ms) ms (depth_without name ms)

-- all but the attributes is no deeper than the document
pub depth_rest : (ms : Members) → depth (object (without_attributes ms)) ≤ depth (object ms)
depth_rest ms = let h : members_depth (without_attributes ms) ≤ members_depth ms = depth_without (codes "attributes") ms in omega arith

given_at : (o : Option Data) (n : ℕ) → ((d : Data) → o ≡ Some d → depth d ≤ n) → depth (unwrap_or o (object no_members)) ≤ suc n
given_at None n h = omega arith
given_at (Some d) n h = let g = h d refl in omega arith

-- the attributes are no deeper than the document
pub depth_attributes : (ms : Members) → depth (attributes_of ms) ≤ depth (object ms)
depth_attributes ms = given_at (get_member (codes "attributes") ms) (members_depth ms) (λ d e. depth_got (codes "attributes") d ms e)

-- ---- texts that are stored

text_stored : (key : List ℕ) (tree : Data) (text : KeyedText) (store : StoreMap) → IsKeyedText key tree text → StoresTree key tree store (with_text text store)
text_stored key tree text store is = record { text = text.text.items; writes = is.is; stores = ap (λ k. insert store k text.text.items) is.key_is }

parts_stored : (path : List ℕ) (tree : Data) (attributes rest : KeyedText) (store : StoreMap) → ArePartsOf path tree attributes rest → StoresParts path tree store (with_texts (Parts attributes rest) store)
parts_stored path tree attributes rest store is = record {
  members = is.members;
  is = is.is;
  between = with_text attributes store;
  attributes = text_stored (document_key path ZAttrs) (attributes_of is.members) attributes store is.zattrs;
  zarray = text_stored (document_key path ZArray) (object (without_attributes is.members)) rest (with_text attributes store) is.zarray;
}

-- a document is stored where its texts are
pub texts_stored : (path : List ℕ) (tree : Data) (texts : Texts) (store : StoreMap) → AreTextsOf path tree texts → StoresDocument path tree store (with_texts texts store)
texts_stored path tree (Whole text) store is =
    let P : Bool → Type 0 = λ b. MatchBool b (StoresParts path tree store (with_text text store)) (StoresTree (document_key path ZarrJson) tree store (with_text text store)) in
    subst P (sym is.0) (text_stored (document_key path ZarrJson) tree text store is.1)
texts_stored path tree (Parts attributes rest) store is =
    let new = with_texts (Parts attributes rest) store in
    let P : Bool → Type 0 = λ b. MatchBool b (StoresParts path tree store new) (StoresTree (document_key path ZarrJson) tree store new) in
    subst P (sym is.0) (parts_stored path tree attributes rest store is.1)

-- all texts but the last are none, or the attributes
pub first_stored : (path : List ℕ) (tree : Data) (texts : Texts) (store : StoreMap) → AreTextsOf path tree texts → (with_first texts store ≡ store) ⊎ StoresAttributes path tree store (with_first texts store)
first_stored path tree (Whole text) store is = inl refl
first_stored path tree (Parts attributes rest) store is =
    inr (record { older = is.0; members = is.1.members; is = is.1.is; attributes = text_stored (document_key path ZAttrs) (attributes_of is.1.members) attributes store is.1.zattrs })

text_other : (key : List ℕ) (tree : Data) (text : KeyedText) (store : StoreMap) (q : List ℕ) → IsKeyedText key tree text → q ≢ key → get (with_text text store) q ≡ get store q
text_other key tree text store q is ne = put_other store text.key text.text.items q (λ e. ne (e ∙ is.key_is))

-- no other key changes
pub first_other : (path : List ℕ) (tree : Data) (texts : Texts) (store : StoreMap) (q : List ℕ) → AreTextsOf path tree texts → ((name : DocumentName) → q ≢ document_key path name) → get (with_first texts store) q ≡ get store q
first_other path tree (Whole text) store q is ne = refl
first_other path tree (Parts attributes rest) store q is ne = text_other (document_key path ZAttrs) (attributes_of is.1.members) attributes store q is.1.zattrs (ne ZAttrs)

pub texts_other : (path : List ℕ) (tree : Data) (texts : Texts) (store : StoreMap) (q : List ℕ) → AreTextsOf path tree texts → ((name : DocumentName) → q ≢ document_key path name) → get (with_texts texts store) q ≡ get store q
texts_other path tree (Whole text) store q is ne = text_other (document_key path ZarrJson) tree text store q is.1 (ne ZarrJson)
texts_other path tree (Parts attributes rest) store q is ne =
    text_other (document_key path ZArray) (object (without_attributes is.1.members)) rest (with_text attributes store) q is.1.zarray (ne ZArray)
    ∙ text_other (document_key path ZAttrs) (attributes_of is.1.members) attributes store q is.1.zattrs (ne ZAttrs)

-- ---- how many writing calls are accepted

-- none
pub counts_none : (n old new : ℕ) → new ≡ old → CountsUpTo n old new
counts_none n old new same = (omega (arith, same), omega (arith, same))

-- one
pub counts_one : (n old new : ℕ) → new ≡ counted old 1 → 1 ≤ n → CountsUpTo n old new
counts_one n old new one enough = (omega (arith, one), omega (arith, one, enough))

-- two
pub counts_two : (old mid new : ℕ) → mid ≡ counted old 1 → new ≡ counted mid 1 → CountsUpTo 2 old new
counts_two old mid new one two = (omega (arith, one, two), omega (arith, one, two))

-- one, where a call was refused after it
pub left_one : (c : Cause) → IsCallCause c → 1 ≤ most_left c
left_one cause.Store is = omega arith
left_one cause.Memory is = omega arith
left_one cause.Damage is = omega arith
left_one cause.Path is = absurd is
left_one cause.PathTaken is = absurd is
left_one cause.NoArray is = absurd is
left_one cause.Document is = absurd is
left_one cause.Region is = absurd is
left_one cause.Data is = absurd is
left_one cause.Size is = absurd is
left_one cause.Fit is = absurd is
left_one cause.Codec is = absurd is
left_one cause.DocumentChanged is = absurd is

most_same : (path : List ℕ) (d : Data) (texts : Texts) (r : Result (Unit {0}) Cause) → AreTextsOf path (written_document d) texts → most_calls texts r ≡ most_created d r
most_same path d (Whole text) (Ok x) is = ap (λ b. if b then 2 else 1) (sym is.0 ∙ keeps_version d)
most_same path d (Whole text) (Err c) is = ap (λ b. if b then most_left c else 0) (sym is.0 ∙ keeps_version d)
most_same path d (Parts attributes rest) (Ok x) is = ap (λ b. if b then 2 else 1) (sym is.0 ∙ keeps_version d)
most_same path d (Parts attributes rest) (Err c) is = ap (λ b. if b then most_left c else 0) (sym is.0 ∙ keeps_version d)

-- a create takes as many as its texts
pub calls_created : (path : List ℕ) (d : Data) (texts : Texts) (r : Result (Unit {0}) Cause) (old new : ℕ) → AreTextsOf path (written_document d) texts → CountsUpTo (most_calls texts r) old new → CountsUpTo (most_created d r) old new
calls_created path d texts r old new is counts = let P : ℕ → Type 0 = λ n. CountsUpTo n old new in subst P (most_same path d texts r is) counts

none_left : (b : Bool) (old new : ℕ) → CountsUpTo (if b then 0 else 0) old new → CountsUpTo 0 old new
none_left true old new counts = counts
none_left false old new counts = counts

-- where the store answered a cause of an honest one, no more than a step may take
pub writes_at_most : (world : World) (path : List ℕ) (d : Data) (order : SubchunkWriteOrder) (store : StoreMap) (r : Result (Unit {0}) Cause) (old new : ℕ) → IfErr r (StoringRefused path store) → CountsUpTo (most_created d r) old new
    → WritesAtMost world (create path d order) (answer_of r) old new
writes_at_most world path d order store (Ok x) old new why counts = counts
writes_at_most world path d order store (Err cause.Store) old new why counts = counts
writes_at_most world path d order store (Err cause.Memory) old new why counts = counts
writes_at_most world path d order store (Err cause.PathTaken) old new why counts = none_left (is_version_2 d) old new counts
writes_at_most world path d order store (Err cause.Damage) old new why counts = absurd why
writes_at_most world path d order store (Err cause.Path) old new why counts = absurd why
writes_at_most world path d order store (Err cause.NoArray) old new why counts = absurd why
writes_at_most world path d order store (Err cause.Document) old new why counts = absurd why
writes_at_most world path d order store (Err cause.Region) old new why counts = absurd why
writes_at_most world path d order store (Err cause.Data) old new why counts = absurd why
writes_at_most world path d order store (Err cause.Size) old new why counts = absurd why
writes_at_most world path d order store (Err cause.Fit) old new why counts = absurd why
writes_at_most world path d order store (Err cause.Codec) old new why counts = absurd why
writes_at_most world path d order store (Err cause.DocumentChanged) old new why counts = absurd why
