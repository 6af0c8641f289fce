-- Documents that are opened, their keys and their texts.
use Rattle.std.proofs.Common.{◌≡◌, ℕ, ◌<◌, ◌≤◌, List, [], ◌∷◌, ◌++◌, length, drop, cond, refl, arith, Bool, true, false, nat_le, codes, bytes_eq, ◌∙◌, Result, Ok}
use Rattle.std.proofs.lemmas.Bool.{leb-true}
use Rattle.serde_json.specs.Data.{Data, depth}
use Rattle.zarr_grids_keys.specs.Documents.{document_key, document_name}
use Rattle.zarr_grids_keys.specs.Keys.{key_under}
use Rattle.zarr_grids_keys.specs.Paths.{ends_with_slash}
use Rattle.zarr_grids_keys.specs.declared.document_name.DocumentName.{DocumentName}
use Rattle.zarr_grids_keys.specs.declared.document_name.DocumentName.TheVariants.{ZarrJson, ZArray, ZAttrs}
use Rattle.zarr_codecs_metadata.specs.Chains.{ReadsCodecs}
use Rattle.zarr_array_meaning.specs.Documents.{Document, Metadata, ◌>>◌, check, depth_limit, document_of, read_document}
use Rattle.zarr_array_meaning.specs.declared.error.DocumentError.{DocumentError}
use Rattle.zarr_array_meaning.specs.declared.error.DocumentError.TheVariants as document

-- ---- keys
-- the end of a text is that of its last part
ends-append : (xs ys : List ℕ) → 0 < length ys → ends_with_slash (xs ++ ys) ≡ ends_with_slash ys
ends-append [] ys some = refl
ends-append (x ∷ []) [] some = absurd (omega arith)
ends-append (x ∷ []) (y ∷ ys) some = refl
ends-append (x ∷ w ∷ xs) ys some = ends-append (w ∷ xs) ys some

under-no_slash : (path name : List ℕ) → ends_with_slash (47 ∷ name) ≡ false → ends_with_slash name ≡ false → ends_with_slash (key_under path name) ≡ false
under-no_slash path name h g = elim (bytes_eq path (codes "/")) as (λ b. ends_with_slash (cond b name (drop 1 path ++ 47 ∷ name)) ≡ false) [
  | true ↦ g
  | false ↦ ends-append (drop 1 path) (47 ∷ name) (omega arith) ∙ h
]

-- no key of a document ends with a slash
pub document_key-no_slash : (path : List ℕ) (name : DocumentName) → ends_with_slash (document_key path name) ≡ false
document_key-no_slash path ZarrJson = under-no_slash path (document_name ZarrJson) refl refl
document_key-no_slash path ZArray = under-no_slash path (document_name ZArray) refl refl
document_key-no_slash path ZAttrs = under-no_slash path (document_name ZAttrs) refl refl

-- ---- documents
first_check : (b : Bool) (rest : Result Metadata DocumentError) (m : Document) → document_of (check b document.Depth >> rest) ≡ Ok m → b ≡ true
first_check true rest m e = refl
first_check false rest m e = absurd (cc)

-- a document that opens doesn't nest too deep
pub depth_of : (reads : ReadsCodecs) (d : Data) (m : Document) → read_document reads d ≡ Ok m → depth d ≤ 127
depth_of reads d m e = leb-true (depth d) 127 (first_check (nat_le (depth d) depth_limit) _ m e)
