-- What the metadata of a data type says, and what is written for one (Zarr core specification, "Data types"; the names int2, int4, uint2, uint4, bytes and zarrs.optional are this project's profile).
use Rattle.std.specs.Prelude.{ℕ, zero, suc, List, [], ◌∷◌, codes, bytes_eq, Bool, true, ◌||◌, if◌then◌else◌, Option, Some, None, option_map, option_and_then}
use Rattle.serde_json.specs.Data.{Data, string, Members, no_members, put, members_depth}
use Rattle.serde_json.specs.Find.{get_member, as_str}
use Rattle.zarr_grids_metadata.specs.Members.{has_only}
use Rattle.zarr_grids_metadata.specs.ExtensionPoints.{ExtensionPoint, extension_point, configuration_in, configuration_members, put_configuration, written_point}
use Rattle.zarr_codecs_meaning.specs.Types.{DataType, bool, integer, signed, unsigned, custom, string as strings, variable_bytes, optional_of}
use Rattle.zarr_codecs_types.specs.Same.{same_type}

-- a name, and the type that it stands for
abbrev pub Row : Type 0
Row = List ℕ × DataType

-- the names that take no configuration; where a type has two, the first is written
abbrev pub rows : List Row
rows =
    (codes "bool", bool)
    ∷ (codes "int2", integer signed 2) ∷ (codes "int4", integer signed 4) ∷ (codes "int8", integer signed 8)
    ∷ (codes "int16", integer signed 16) ∷ (codes "int32", integer signed 32) ∷ (codes "int64", integer signed 64)
    ∷ (codes "uint2", integer unsigned 2) ∷ (codes "uint4", integer unsigned 4) ∷ (codes "uint8", integer unsigned 8)
    ∷ (codes "uint16", integer unsigned 16) ∷ (codes "uint32", integer unsigned 32) ∷ (codes "uint64", integer unsigned 64)
    ∷ (codes "string", strings) ∷ (codes "bytes", variable_bytes) ∷ (codes "variable_length_bytes", variable_bytes) ∷ []

-- the type that a name stands for
abbrev pub type_named : List ℕ → List Row → Option DataType
type_named name [] = None
type_named name (row ∷ others) = if bytes_eq name row.0 then Some row.1 else type_named name others

-- the first name that stands for a type
abbrev pub name_of : DataType → List Row → Option (List ℕ)
name_of type [] = None
name_of type (row ∷ others) = if same_type type row.1 then Some row.0 else name_of type others

-- ---- read

-- the names of optional types
abbrev pub is_optional_name : List ℕ → Bool
is_optional_name name = bytes_eq name (codes "zarrs.optional") || bytes_eq name (codes "optional")

-- an extension point that has a name, and a configuration where one is given
abbrev pub named : Option Members → List ℕ → ExtensionPoint
named configuration name = record { name = name; configuration = configuration; must_understand = true }

-- the inner type's extension point: the configuration of an optional type has its name, and its own configuration where it has one
abbrev pub inner_point : Members → Option ExtensionPoint
inner_point ms =
    if has_only (codes "name" ∷ codes "configuration" ∷ []) ms
    then option_and_then (λ name. option_map (λ configuration. named configuration name) (configuration_in (get_member (codes "configuration") ms))) (option_and_then as_str (get_member (codes "name") ms))
    else None

-- a name that takes no configuration, with no member of one
abbrev pub plain_type : ExtensionPoint → Option DataType
plain_type point = if has_only [] (configuration_members point.configuration) then type_named point.name rows else None

-- the type that an extension point says, in which optional types nest fewer than so many levels deep
abbrev pub type_within : ℕ → ExtensionPoint → Option DataType
type_within zero point = None
type_within (suc levels) point =
    if is_optional_name point.name
    then option_map optional_of (option_and_then (type_within levels) (inner_point (configuration_members point.configuration)))
    else plain_type point

-- how deep a configuration nests; an absent one does not
abbrev pub configuration_depth : Option Members → ℕ
configuration_depth None = 0
configuration_depth (Some ms) = suc (members_depth ms)

-- the type that an extension point says, however deep its configuration nests
abbrev pub point_type : ExtensionPoint → Option DataType
point_type point = type_within (suc (configuration_depth point.configuration)) point

-- the data type that a tree says
abbrev pub data_type_in : Data → Option DataType
data_type_in d = option_and_then point_type (extension_point d)

-- ---- written

-- the configuration of an optional type whose inner type is written as this extension point
abbrev pub optional_configuration : ExtensionPoint → Members
optional_configuration point = put_configuration point.configuration (put (codes "name") (string point.name) no_members)

-- the extension point that a type is written as; None for a caller's
abbrev pub type_point : DataType → Option ExtensionPoint
type_point bool = option_map (named None) (name_of bool rows)
type_point (integer sign width) = option_map (named None) (name_of (integer sign width) rows)
type_point (custom parts) = None
type_point strings = option_map (named None) (name_of strings rows)
type_point variable_bytes = option_map (named None) (name_of variable_bytes rows)
type_point (optional_of inner) = option_map (λ point. named (Some (optional_configuration point)) (codes "zarrs.optional")) (type_point inner)

-- the metadata that is written for a type
abbrev pub metadata_of : DataType → Option Data
metadata_of type = option_map written_point (type_point type)
