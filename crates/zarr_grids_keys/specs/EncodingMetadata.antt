-- What metadata says of the keys of chunks (Zarr core specification, "Chunk key encoding"; `default_suffix` is this project's profile).
use Rattle.std.specs.Prelude.{ℕ, List, [], ◌∷◌, codes, bytes_eq, Bool, not, ◌||◌, ◌&&◌, if◌then◌else◌, Option, Some, None, option_map, option_and_then, Result, Err}
use Rattle.std.specs.Option.{ok_or}
use Rattle.std.specs.Result.{result_ok}
use Rattle.serde_json.specs.Data.{Data, string, Members, no_members, put}
use Rattle.serde_json.specs.Find.{get_member, as_str}
use Rattle.zarr_grids_metadata.specs.declared.error.PluginCreateError.{PluginCreateError}
use Rattle.zarr_grids_metadata.specs.declared.error.PluginCreateError.TheVariants.{NameUnsupported, MetadataInvalid}
use Rattle.zarr_grids_metadata.specs.ExtensionPoints.{ExtensionPoint, extension_point, configuration_members, configured}
use Rattle.zarr_grids_metadata.specs.Members.{has_only}
use Rattle.zarr_grids_keys.specs.Keys.{KeyEncoding, default, v2, suffixed, is_separator}
use Rattle.zarr_grids_keys.specs.Paths.{ends_with_slash}

-- ---- read

-- the members of the configuration of an extension point; an absent one has none
abbrev pub members_of : ExtensionPoint → Members
members_of point = configuration_members point.configuration

-- the separator that a text is: a slash or a dot
abbrev pub separator_of : List ℕ → Option ℕ
separator_of text = if bytes_eq text (codes "/") then Some 47 else (if bytes_eq text (codes ".") then Some 46 else None)

-- the separator that a member gives, or the usual one where it is absent
abbrev pub separator_in : ℕ → Option Data → Option ℕ
separator_in usual None = Some usual
separator_in usual (Some d) = option_and_then separator_of (as_str d)

-- the separator of a configuration that has only these fields
abbrev pub separator_among : List (List ℕ) → ℕ → Members → Option ℕ
separator_among names usual ms = if has_only names ms then separator_in usual (get_member (codes "separator") ms) else None

-- a suffix ends with no slash
abbrev pub suffix_of : List ℕ → Option (List ℕ)
suffix_of text = if ends_with_slash text then None else Some text

-- the suffix that a member gives, which must be there
abbrev pub suffix_in : Option Data → Option (List ℕ)
suffix_in member = option_and_then suffix_of (option_and_then as_str member)

-- what a configuration of `default`, of `v2` and of `default_suffix` says
abbrev pub default_in : Members → Option KeyEncoding
default_in ms = option_map default (separator_among (codes "separator" ∷ []) 47 ms)

-- what a configuration of `v2` says; its usual separator is "."
abbrev pub v2_in : Members → Option KeyEncoding
v2_in ms = option_map v2 (separator_among (codes "separator" ∷ []) 46 ms)

-- what a configuration of `default_suffix` says
abbrev pub suffixed_in : Members → Option KeyEncoding
suffixed_in ms = option_and_then (λ separator. option_map (suffixed separator) (suffix_in (get_member (codes "suffix") ms))) (separator_among (codes "separator" ∷ codes "suffix" ∷ []) 47 ms)

-- the two names of `default_suffix`
abbrev pub is_suffix_name : List ℕ → Bool
is_suffix_name name = bytes_eq name (codes "default_suffix") || bytes_eq name (codes "zarrs.default_suffix")

-- what is made of metadata where only `default` is known: another name is not supported, and a configuration that says nothing is not valid
abbrev pub default_made : ExtensionPoint → Result KeyEncoding PluginCreateError
default_made point = if bytes_eq point.name (codes "default") then ok_or (default_in (members_of point)) MetadataInvalid else Err NameUnsupported

-- the same of `v2`
abbrev pub v2_made : ExtensionPoint → Result KeyEncoding PluginCreateError
v2_made point = if bytes_eq point.name (codes "v2") then ok_or (v2_in (members_of point)) MetadataInvalid else Err NameUnsupported

-- the same of `default_suffix`
abbrev pub suffixed_made : ExtensionPoint → Result KeyEncoding PluginCreateError
suffixed_made point = if is_suffix_name point.name then ok_or (suffixed_in (members_of point)) MetadataInvalid else Err NameUnsupported

-- what is made of metadata, by its name
abbrev pub keys_made : ExtensionPoint → Result KeyEncoding PluginCreateError
keys_made point = if bytes_eq point.name (codes "default") then default_made point else (if bytes_eq point.name (codes "v2") then v2_made point else suffixed_made point)

-- the encoding that a JSON extension point says
abbrev pub keys_in : Data → Option KeyEncoding
keys_in d = option_and_then (λ point. result_ok (keys_made point)) (extension_point d)

-- ---- written

-- the configuration of `default` and of `v2`
abbrev pub separator_members : ℕ → Members
separator_members separator = put (codes "separator") (string (separator ∷ [])) no_members

-- the configuration of `default_suffix`
abbrev pub suffix_members : ℕ → List ℕ → Members
suffix_members separator suffix = put (codes "suffix") (string suffix) (separator_members separator)

-- the metadata of an encoding
abbrev pub point_of_keys : KeyEncoding → ExtensionPoint
point_of_keys (default separator) = configured (codes "default") (separator_members separator)
point_of_keys (v2 separator) = configured (codes "v2") (separator_members separator)
point_of_keys (suffixed separator suffix) = configured (codes "default_suffix") (suffix_members separator suffix)

-- whether the separator is a slash or a dot, and no suffix ends with a slash
abbrev pub is_encoding : KeyEncoding → Bool
is_encoding (default separator) = is_separator separator
is_encoding (v2 separator) = is_separator separator
is_encoding (suffixed separator suffix) = is_separator separator && not (ends_with_slash suffix)
