-- Extension points (Zarr core specification, "Extension points"): a name, an optional configuration, and whether a reader has to understand them.
use Rattle.std.specs.Prelude.{ℕ, List, [], ◌∷◌, codes, bytes_eq, Bool, true, false, not, ◌&&◌, if◌then◌else◌, Option, Some, None, option_map, option_and_then, unwrap_or, is_none}
use Rattle.serde_json.specs.Data.{Data, null, boolean, number, string, array, object, Members, no_members, put}
use Rattle.serde_json.specs.Find.{get_member, as_bool, as_str, as_object}
use Rattle.zarr_grids_metadata.specs.Members.{has_only}

-- an extension point: a name, an optional configuration, and whether a reader has to understand it (Zarr core, extension points)
pub record ExtensionPoint : Type 0 where
  pub name : List ℕ
  pub configuration : Option Members
  pub must_understand : Bool

-- an extension point of a name alone
abbrev pub named : List ℕ → ExtensionPoint
named name = record { name = name; configuration = None; must_understand = true }

-- an extension point of a name and a configuration
abbrev pub configured : List ℕ → Members → ExtensionPoint
configured name configuration = record { name = name; configuration = Some configuration; must_understand = true }

-- the extension point with another name
abbrev pub renamed : List ℕ → ExtensionPoint → ExtensionPoint
renamed name point = record point { name = name }

-- the configuration that a member gives: none where the member is absent, else an object
abbrev pub configuration_in : Option Data → Option (Option Members)
configuration_in None = Some None
configuration_in (Some d) = option_map (λ ms. Some ms) (as_object d)

-- the flag that a member gives: true where the member is absent
abbrev pub flag_in : Option Data → Option Bool
flag_in None = Some true
flag_in (Some d) = as_bool d

-- the extension point that an object is: its fields are `name`, and perhaps `configuration` and `must_understand`
abbrev pub point_of_members : Members → Option ExtensionPoint
point_of_members ms =
    if has_only (codes "name" ∷ codes "configuration" ∷ codes "must_understand" ∷ []) ms
    then option_and_then (λ name. option_and_then (λ configuration. option_map (λ must_understand. record { name = name; configuration = configuration; must_understand = must_understand })
    (flag_in (get_member (codes "must_understand") ms)))
    (configuration_in (get_member (codes "configuration") ms)))
    (option_and_then as_str (get_member (codes "name") ms))
    else None

-- an extension point is a bare name, or an object with a name
abbrev pub extension_point : Data → Option ExtensionPoint
extension_point null = None
extension_point (boolean b) = None
extension_point (number n) = None
extension_point (string s) = Some (named s)
extension_point (array ds) = None
extension_point (object ms) = point_of_members ms

-- the members of a configuration; an absent one has none
abbrev pub configuration_members : Option Members → Members
configuration_members None = no_members
configuration_members (Some ms) = ms

-- the members of the configuration of an extension point with this name
abbrev pub configuration_of : List ℕ → Data → Option Members
configuration_of name d = option_and_then (λ point. if bytes_eq point.name name then Some (configuration_members point.configuration) else None) (extension_point d)

-- ---- written

-- the members, with the configuration where there is one
abbrev pub put_configuration : Option Members → Members → Members
put_configuration None ms = ms
put_configuration (Some configuration) ms = put (codes "configuration") (object configuration) ms

-- the members, with `must_understand` where it is false
abbrev pub put_flag : Bool → Members → Members
put_flag true ms = ms
put_flag false ms = put (codes "must_understand") (boolean false) ms

-- a bare name where that says it all
abbrev pub is_bare : ExtensionPoint → Bool
is_bare point = is_none point.configuration && point.must_understand

-- an extension point is written as a bare name where it has no configuration and must be understood, else as an object
abbrev pub written_point : ExtensionPoint → Data
written_point point = if is_bare point then string point.name
    else object (put_flag point.must_understand (put_configuration point.configuration (put (codes "name") (string point.name) no_members)))

-- what is written for a tree that is an extension point; another stays
abbrev pub written_point_in : Data → Data
written_point_in d = unwrap_or (option_map written_point (extension_point d)) d

-- ---- fields that must be understood

-- whether a member is there and says false
abbrev pub says_false : Option Data → Bool
says_false d = unwrap_or (option_map not (option_and_then as_bool d)) false

-- a field that isn't known must be understood, unless it is an object with `"must_understand": false` (Zarr core specification, "Array metadata")
abbrev pub must_understand_field : Data → Bool
must_understand_field d = not (says_false (option_and_then (get_member (codes "must_understand")) (as_object d)))
