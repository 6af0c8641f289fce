-- A path has one document that is asked for, and the documents that are erased are gone.
use Rattle.std.proofs.Common.{◌≡◌, ℕ, List, [], ◌∷◌, ◌++◌, map, bytes_eq, cond, Bool, true, false, ◌||◌, if◌then◌else◌, Option, Some, None, MatchBool, subst, refl, sym, ap, ◌∙◌}
use Rattle.std.specs.FinMap.{get, remove, get-remove}
use Rattle.std.proofs.lemmas.Bool.{or_parts, or_left, or_right}
use Rattle.std.proofs.lemmas.Cmp.{nat_list_cmp_total}
use Rattle.std.proofs.lemmas.Map.Text.{is_eq-slice_cmp}
use Rattle.std.proofs.lemmas.Slice.Eq.{bytes_eq-Decides}
use Rattle.serde_json.specs.Data.{Data}
use Rattle.zarr_grids_keys.specs.Documents.{document_key}
use Rattle.zarr_grids_keys.specs.declared.document_name.DocumentName.TheVariants.{ZarrJson, ZArray, ZAttrs}
use Rattle.zarr_array_v2.specs.Versions.{is_version_2}
use Rattle.zarr_array_meaning.specs.Chunks.{is_listed}
use Rattle.zarr_array_meaning.specs.StoreMaps.{StoreMap}
use Rattle.zarr_array_meaning.specs.Texts.{HasTree, HasParts, HasDocument}
use Rattle.zarr_array_meaning.specs.Versions.{Retrieves, erases_3, erases_2, erased_keys, without_keys, ErasesDocuments}
use Rattle.zarr_array_meaning.specs.declared.versions.MetadataRetrieveVersion.{MetadataRetrieveVersion}
use Rattle.zarr_array_meaning.specs.declared.versions.MetadataRetrieveVersion.TheVariants as retrieve
use Rattle.zarr_array_meaning.specs.declared.versions.MetadataEraseVersion.{MetadataEraseVersion}
use Rattle.zarr_array_meaning.proofs.Stored.{one_document}

-- ---- reading

none_has : (key : List ℕ) (tree : Data) (store : StoreMap) → get store key ≡ None → HasTree key tree store → ⊥
none_has key tree store none has = let e : Some has.text ≡ None = sym has.found ∙ none in absurd (cc)

-- where nothing is stored under `zarr.json`, a path has no document of version 3
no_version_3 : (path : List ℕ) (tree : Data) (store : StoreMap) → is_version_2 tree ≡ false → get store (document_key path ZarrJson) ≡ None → HasDocument path tree store → ⊥
no_version_3 path tree store version none has =
    none_has (document_key path ZarrJson) tree store none (subst (λ (v : Bool). MatchBool v (HasParts path tree store) (HasTree (document_key path ZarrJson) tree store)) version has)

-- and under `.zarray`, none of version 2
no_version_2 : (path : List ℕ) (tree : Data) (store : StoreMap) → is_version_2 tree ≡ true → get store (document_key path ZArray) ≡ None → HasDocument path tree store → ⊥
no_version_2 path tree store version none has =
    let parts : HasParts path tree store = subst (λ (v : Bool). MatchBool v (HasParts path tree store) (HasTree (document_key path ZarrJson) tree store)) version has in
    none_has (document_key path ZArray) _ store none parts.zarray

by_default : (path : List ℕ) (a b : Data) (store : StoreMap) (v w : Bool) → is_version_2 a ≡ v → is_version_2 b ≡ w → Retrieves retrieve.Default path a store → Retrieves retrieve.Default path b store → v ≡ w
by_default path a b store true true e f has other = refl
by_default path a b store false false e f has other = refl
by_default path a b store true false e f has other = absurd (no_version_3 path b store f (has.asked e) other.stored)
by_default path a b store false true e f has other = absurd (no_version_3 path a store e (other.asked f) has.stored)

pub retrieves_one : (version : MetadataRetrieveVersion) (path : List ℕ) (a b : Data) (store : StoreMap) → Retrieves version path a store → Retrieves version path b store → a ≡ b
retrieves_one retrieve.Default path a b store has other = one_document path a b store (by_default path a b store (is_version_2 a) (is_version_2 b) refl refl has other) has.stored other.stored
retrieves_one retrieve.V3 path a b store has other = one_document path a b store (has.asked ∙ sym other.asked) has.stored other.stored
retrieves_one retrieve.V2 path a b store has other = one_document path a b store (has.asked ∙ sym other.asked) has.stored other.stored

-- ---- keys taken away

get-taken : (m : StoreMap) (k q : List ℕ) → get (remove m k) q ≡ cond (bytes_eq q k) None (get m q)
get-taken m k q = get-remove nat_list_cmp_total m k q ∙ ap (λ b. cond b None (get m q)) (is_eq-slice_cmp q k)

none_at : (b : Bool) (o : Option (List ℕ)) → o ≡ None → cond b None o ≡ None
none_at true o e = refl
none_at false o e = e

-- what isn't there is not there without more keys
still_none : (keys : List (List ℕ)) (m : StoreMap) (q : List ℕ) → get m q ≡ None → get (without_keys keys m) q ≡ None
still_none [] m q none = none
still_none (k ∷ keys) m q none = still_none keys (remove m k) q (get-taken m k q ∙ none_at (bytes_eq q k) (get m q) none)

taken_at : (b : Bool) (k : List ℕ) (keys : List (List ℕ)) (m : StoreMap) (q : List ℕ) → bytes_eq q k ≡ b → (is_listed keys q ≡ true → get (without_keys keys (remove m k)) q ≡ None) → (b || is_listed keys q) ≡ true → get (without_keys keys (remove m k)) q ≡ None
taken_at true k keys m q e more l = still_none keys (remove m k) q (get-taken m k q ∙ ap (λ b. cond b None (get m q)) e)
taken_at false k keys m q e more l = more l

-- the keys that were taken away have nothing
taken : (keys : List (List ℕ)) (m : StoreMap) (q : List ℕ) → is_listed keys q ≡ true → get (without_keys keys m) q ≡ None
taken [] m q l = absurd (cc)
taken (k ∷ keys) m q l = taken_at (bytes_eq q k) k keys m q refl (taken keys (remove m k) q) l

-- the others are as before
left : (keys : List (List ℕ)) (m : StoreMap) (q : List ℕ) → is_listed keys q ≡ false → get (without_keys keys m) q ≡ get m q
left [] m q l = refl
left (k ∷ keys) m q l =
    let parts = or_parts (bytes_eq q k) (is_listed keys q) l in
    left keys (remove m k) q parts.1 ∙ get-taken m k q ∙ ap (λ b. cond b None (get m q)) parts.0

-- ---- erasing

itself : (key : List ℕ) → bytes_eq key key ≡ true
itself key = (bytes_eq-Decides key key).1 refl

listed_3 : (b c : Bool) (path : List ℕ) → b ≡ true → is_listed (map (document_key path) ((if b then ZarrJson ∷ [] else []) ++ (if c then ZArray ∷ ZAttrs ∷ [] else []))) (document_key path ZarrJson) ≡ true
listed_3 true c path e = or_left (bytes_eq (document_key path ZarrJson) (document_key path ZarrJson)) _ (itself (document_key path ZarrJson))
listed_3 false c path e = absurd (cc)

listed_2 : (b c : Bool) (path : List ℕ) → c ≡ true → is_listed (map (document_key path) ((if b then ZarrJson ∷ [] else []) ++ (if c then ZArray ∷ ZAttrs ∷ [] else []))) (document_key path ZArray) ≡ true
listed_2 b false path e = absurd (cc)
listed_2 true true path e = or_right (bytes_eq (document_key path ZArray) (document_key path ZarrJson)) _ (or_left (bytes_eq (document_key path ZArray) (document_key path ZArray)) _ (itself (document_key path ZArray)))
listed_2 false true path e = or_left (bytes_eq (document_key path ZArray) (document_key path ZArray)) _ (itself (document_key path ZArray))

not_true : (b : Bool) → (b ≡ true → ⊥) → b ≡ false
not_true true h = absurd (h refl)
not_true false h = refl

gone_at : (v : Bool) (version : MetadataEraseVersion) (path : List ℕ) (held tree : Data) (store : StoreMap) → is_version_2 tree ≡ v → HasDocument path tree (without_keys (erased_keys version path held) store)
    → (if v then erases_2 version held else erases_3 version held) ≡ false
gone_at true version path held tree store is has =
    not_true (erases_2 version held) (λ e. no_version_2 path tree (without_keys (erased_keys version path held) store) is
    (taken (erased_keys version path held) store (document_key path ZArray) (listed_2 (erases_3 version held) (erases_2 version held) path e)) has)
gone_at false version path held tree store is has =
    not_true (erases_3 version held) (λ e. no_version_3 path tree (without_keys (erased_keys version path held) store) is
    (taken (erased_keys version path held) store (document_key path ZarrJson) (listed_3 (erases_3 version held) (erases_2 version held) path e)) has)

pub erased_are_gone : (version : MetadataEraseVersion) (path : List ℕ) (held : Data) (store : StoreMap) → ErasesDocuments version path held store (without_keys (erased_keys version path held) store)
erased_are_gone version path held store = record {
  gone = λ tree has. gone_at (is_version_2 tree) version path held tree store refl has;
  keys = λ key l. taken (erased_keys version path held) store key l;
  others = λ key l. left (erased_keys version path held) store key l;
}
