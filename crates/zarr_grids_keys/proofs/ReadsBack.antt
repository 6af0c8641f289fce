-- The metadata of an encoding makes that encoding.
use Rattle.std.proofs.Common.{◌≡◌, ◌∙◌, ℕ, List, [], ◌∷◌, Bool, true, false, not, cond, IsTrue, bytes_eq, codes, Option, Some, None, option_map, option_and_then, Result, Ok, Err, refl, sym, ap, subst, inl, inr, ◌⊎◌}
use Rattle.std.specs.Cmp.{first_so, second_so}
use Rattle.std.specs.Option.{ok_or}
use Rattle.std.specs.Result.{result_ok}
use Rattle.std.proofs.lemmas.Bool.{not-true, not_from_false, and_from}
use Rattle.serde_json.specs.Data.{Data, Members}
use Rattle.serde_json.specs.Find.{get_member, as_str}
use Rattle.zarr_grids_metadata.specs.declared.error.PluginCreateError.{PluginCreateError}
use Rattle.zarr_grids_metadata.specs.declared.error.PluginCreateError.TheVariants.{NameUnsupported, MetadataInvalid}
use Rattle.zarr_grids_metadata.specs.ExtensionPoints.{ExtensionPoint, extension_point, written_point}
use Rattle.zarr_grids_metadata.specs.Members.{has_only}
use Rattle.zarr_grids_keys.specs.Keys.{KeyEncoding, default, v2, suffixed, is_separator}
use Rattle.zarr_grids_keys.specs.Paths.{ends_with_slash}
use Rattle.zarr_grids_keys.proofs.KeyLemmas.{is_separator-cases}
use Rattle.zarr_grids_keys.specs.EncodingMetadata.{members_of, separator_of, separator_in, separator_among, suffix_of, suffix_in, default_in, v2_in, suffixed_in, is_suffix_name, default_made, v2_made, suffixed_made, keys_made, keys_in, suffix_members, point_of_keys, is_encoding}

-- ---- from an encoding

suffix_of-whole : (suffix : List ℕ) → ends_with_slash suffix ≡ false → suffix_of suffix ≡ Some suffix
suffix_of-whole suffix e = ap (λ b. cond b None (Some suffix)) e

suffixed_in-written : (separator : ℕ) (suffix : List ℕ) → (separator ≡ 47) ⊎ (separator ≡ 46) → suffixed_in (suffix_members separator suffix) ≡ option_map (suffixed separator) (suffix_of suffix)
suffixed_in-written separator suffix s = elim s [
  | inl e ↦ subst (λ x. suffixed_in (suffix_members x suffix) ≡ option_map (suffixed x) (suffix_of suffix)) (sym e) refl
  | inr e ↦ subst (λ x. suffixed_in (suffix_members x suffix) ≡ option_map (suffixed x) (suffix_of suffix)) (sym e) refl
]

-- of the metadata of an encoding that encoding is made
pub keys_made-written : (keys : KeyEncoding) → IsTrue (is_encoding keys) → keys_made (point_of_keys keys) ≡ Ok keys
keys_made-written (default separator) h = elim (is_separator-cases separator h) [
  | inl e ↦ subst (λ x. keys_made (point_of_keys (default x)) ≡ Ok (default x)) (sym e) refl
  | inr e ↦ subst (λ x. keys_made (point_of_keys (default x)) ≡ Ok (default x)) (sym e) refl
]
keys_made-written (v2 separator) h = elim (is_separator-cases separator h) [
  | inl e ↦ subst (λ x. keys_made (point_of_keys (v2 x)) ≡ Ok (v2 x)) (sym e) refl
  | inr e ↦ subst (λ x. keys_made (point_of_keys (v2 x)) ≡ Ok (v2 x)) (sym e) refl
]
keys_made-written (suffixed separator suffix) h =
    let s = is_separator-cases separator (first_so (is_separator separator) _ h) in
    let p = not-true (ends_with_slash suffix) (second_so (is_separator separator) _ h) in
    ap (λ keys. ok_or keys MetadataInvalid) (suffixed_in-written separator suffix s ∙ ap (option_map (suffixed separator)) (suffix_of-whole suffix p))

-- ---- to an encoding

-- what an option holds passes a test
abbrev pub SomePasses : {A : Type 0} → (A → Bool) → Option A → Type 0
SomePasses test None = Unit {0}
SomePasses test (Some x) = IsTrue (test x)

-- what an `Ok` holds is an encoding
abbrev pub OkIsEncoding : Result KeyEncoding PluginCreateError → Type 0
OkIsEncoding (Ok keys) = IsTrue (is_encoding keys)
OkIsEncoding (Err e) = Unit {0}

ok_or-encoding : (o : Option KeyEncoding) → SomePasses is_encoding o → OkIsEncoding (ok_or o MetadataInvalid)
ok_or-encoding None h = tt
ok_or-encoding (Some keys) h = h

separator_of-passes : (text : List ℕ) → SomePasses is_separator (separator_of text)
separator_of-passes text =
    elim (bytes_eq text (codes "/")) as (λ b. SomePasses is_separator (cond b (Some 47) (cond (bytes_eq text (codes ".")) (Some 46) None))) [
      | true ↦ refl
      | false ↦ elim (bytes_eq text (codes ".")) as (λ b. SomePasses is_separator (cond b (Some 46) None)) [ true ↦ refl | false ↦ tt ]
    ]

separator_in-passes : (usual : ℕ) (member : Option Data) → IsTrue (is_separator usual) → SomePasses is_separator (separator_in usual member)
separator_in-passes usual None h = h
separator_in-passes usual (Some d) h = elim (as_str d) as (λ o. SomePasses is_separator (option_and_then separator_of o)) [ None ↦ tt | Some text ↦ separator_of-passes text ]

separator_among-passes : (names : List (List ℕ)) (usual : ℕ) (ms : Members) → IsTrue (is_separator usual) → SomePasses is_separator (separator_among names usual ms)
separator_among-passes names usual ms h = elim (has_only names ms) as (λ b. SomePasses is_separator (cond b (separator_in usual (get_member (codes "separator") ms)) None)) [ true ↦ separator_in-passes usual (get_member (codes "separator") ms) h | false ↦ tt ]

default-passes : (o : Option ℕ) → SomePasses is_separator o → SomePasses is_encoding (option_map default o)
default-passes None h = tt
default-passes (Some separator) h = h

v2-passes : (o : Option ℕ) → SomePasses is_separator o → SomePasses is_encoding (option_map v2 o)
v2-passes None h = tt
v2-passes (Some separator) h = h

suffix_of-passes : (text : List ℕ) → SomePasses (λ suffix. not (ends_with_slash suffix)) (suffix_of text)
suffix_of-passes text =
    elim (ends_with_slash text) as (λ b. ends_with_slash text ≡ b → SomePasses (λ suffix. not (ends_with_slash suffix)) (cond b None (Some text))) [
      | true ↦ λ _. tt
      | false ↦ λ e. not_from_false (ends_with_slash text) e
    ] refl

suffix_in-passes : (member : Option Data) → SomePasses (λ suffix. not (ends_with_slash suffix)) (suffix_in member)
suffix_in-passes member = elim (option_and_then as_str member) as (λ o. SomePasses (λ suffix. not (ends_with_slash suffix)) (option_and_then suffix_of o)) [ None ↦ tt | Some text ↦ suffix_of-passes text ]

suffixed-passes : (o : Option ℕ) (p : Option (List ℕ)) → SomePasses is_separator o → SomePasses (λ suffix. not (ends_with_slash suffix)) p → SomePasses is_encoding (option_and_then (λ separator. option_map (suffixed separator) p) o)
suffixed-passes None p h g = tt
suffixed-passes (Some separator) None h g = tt
suffixed-passes (Some separator) (Some suffix) h g = and_from (is_separator separator) (not (ends_with_slash suffix)) h g

default_made-encoding : (point : ExtensionPoint) → OkIsEncoding (default_made point)
default_made-encoding point = elim (bytes_eq point.name (codes "default")) as (λ b. OkIsEncoding (cond b (ok_or (default_in (members_of point)) MetadataInvalid) (Err NameUnsupported))) [
  | true ↦ ok_or-encoding (default_in (members_of point)) (default-passes (separator_among (codes "separator" ∷ []) 47 (members_of point)) (separator_among-passes (codes "separator" ∷ []) 47 (members_of point) refl))
  | false ↦ tt
]

v2_made-encoding : (point : ExtensionPoint) → OkIsEncoding (v2_made point)
v2_made-encoding point = elim (bytes_eq point.name (codes "v2")) as (λ b. OkIsEncoding (cond b (ok_or (v2_in (members_of point)) MetadataInvalid) (Err NameUnsupported))) [
  | true ↦ ok_or-encoding (v2_in (members_of point)) (v2-passes (separator_among (codes "separator" ∷ []) 46 (members_of point)) (separator_among-passes (codes "separator" ∷ []) 46 (members_of point) refl))
  | false ↦ tt
]

suffixed_made-encoding : (point : ExtensionPoint) → OkIsEncoding (suffixed_made point)
suffixed_made-encoding point = elim (is_suffix_name point.name) as (λ b. OkIsEncoding (cond b (ok_or (suffixed_in (members_of point)) MetadataInvalid) (Err NameUnsupported))) [
  | true ↦ ok_or-encoding (suffixed_in (members_of point)) (suffixed-passes (separator_among (codes "separator" ∷ codes "suffix" ∷ []) 47 (members_of point)) (suffix_in (get_member (codes "suffix") (members_of point))) (separator_among-passes (codes "separator" ∷ codes "suffix" ∷ []) 47 (members_of point) refl) (suffix_in-passes (get_member (codes "suffix") (members_of point))))
  | false ↦ tt
]

keys_made-encoding : (point : ExtensionPoint) → OkIsEncoding (keys_made point)
keys_made-encoding point =
    elim (bytes_eq point.name (codes "default")) as (λ b. OkIsEncoding (cond b (default_made point) (cond (bytes_eq point.name (codes "v2")) (v2_made point) (suffixed_made point)))) [
      | true ↦ default_made-encoding point
      | false ↦ elim (bytes_eq point.name (codes "v2")) as (λ b. OkIsEncoding (cond b (v2_made point) (suffixed_made point))) [ true ↦ v2_made-encoding point | false ↦ suffixed_made-encoding point ]
    ]

-- the metadata of what was made of metadata makes it again
pub keys_made-twice : (point : ExtensionPoint) (keys : KeyEncoding) → keys_made point ≡ Ok keys → keys_made (point_of_keys keys) ≡ Ok keys
keys_made-twice point keys e = keys_made-written keys (subst OkIsEncoding e (keys_made-encoding point))

extension_point-written : (keys : KeyEncoding) → extension_point (written_point (point_of_keys keys)) ≡ Some (point_of_keys keys)
extension_point-written (default separator) = refl
extension_point-written (v2 separator) = refl
extension_point-written (suffixed separator suffix) = refl

-- the JSON that is written for an encoding says it
pub keys_in-written : (keys : KeyEncoding) → IsTrue (is_encoding keys) → keys_in (written_point (point_of_keys keys)) ≡ Some keys
keys_in-written keys h = ap (option_and_then (λ point. result_ok (keys_made point))) (extension_point-written keys) ∙ ap result_ok (keys_made-written keys h)
