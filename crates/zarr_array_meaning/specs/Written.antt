-- The documents that are written (this project's profile): the tree of a document that was read, with each extension point in its shortest form, bytes as lists in the fill value, and a mark among the attributes.
use Rattle.std.specs.Prelude.{ℕ, List, [], ◌∷◌, bytes_eq, codes, Bool, true, false, not, ◌&&◌, ◌||◌, if◌then◌else◌, Option, Some, None, option_and_then, unwrap_or, is_some}
use Rattle.std.specs.List.{list_any}
use Rattle.serde_json.specs.Data.{Data, null, boolean, number, string, array, object, Items, no_items, item, Members, no_members, member, put}
use Rattle.serde_json.specs.Find.{get_member, as_object}
use Rattle.zarr_grids_metadata.specs.ExtensionPoints.{written_point_in}
use Rattle.zarr_codecs_meaning.specs.Types.{DataType}
use Rattle.zarr_codecs_types.specs.FillMetadata.{cell_in, cell_data}
use Rattle.zarr_codecs_types.specs.Metadata.{data_type_in}
use Rattle.zarr_array_v2.specs.Attributes.{joined}
use Rattle.zarr_array_v2.specs.Versions.{has_version_2}
use Rattle.zarr_array_meaning.specs.Documents.{Metadata}

-- each extension point of a list, as it is written
abbrev pub written_points : Items → Items
written_points no_items = no_items
written_points (item d ds) = item (written_point_in d) (written_points ds)

-- the codecs as they are written
abbrev pub written_codecs : Data → Data
written_codecs null = null
written_codecs (boolean b) = boolean b
written_codecs (number n) = number n
written_codecs (string s) = string s
written_codecs (array ds) = array (written_points ds)
written_codecs (object ms) = object ms

-- a fill value as it is written: what is written for its cell, so that bytes are a list and not base64; what says no cell of the data type stays
abbrev pub written_fill : Option DataType → Data → Data
written_fill None d = d
written_fill (Some type) d = unwrap_or (option_and_then (cell_data type) (cell_in type d)) d

-- the data type that a document's fields give
abbrev pub type_given : Members → Option DataType
type_given ms = option_and_then data_type_in (get_member (codes "data_type") ms)

-- the mark that is put among the attributes
abbrev pub mark : Data
mark = object (
    member (codes "description") (string (codes "This array was created with zarrs")) (
    member (codes "repository") (string (codes "https://github.com/zarrs/zarrs")) (
    member (codes "version") (string (codes "0.23.13")) no_members)))

-- attributes with the mark
abbrev pub marked : Members → Members
marked attributes = put (codes "_zarrs") mark attributes

-- the fields whose value is one extension point
abbrev pub point_names : List (List ℕ)
point_names = codes "data_type" ∷ codes "chunk_grid" ∷ codes "chunk_key_encoding" ∷ []

-- whether dimension names are given: the field is there, and not null
abbrev pub is_given : Option Data → Bool
is_given None = false
is_given (Some null) = false
is_given (Some (boolean b)) = true
is_given (Some (number n)) = true
is_given (Some (string s)) = true
is_given (Some (array ds)) = true
is_given (Some (object ms)) = true

-- whether a field isn't written: storage transformers never are, and dimension names only where they are given
abbrev pub is_left_out : Bool → List ℕ → Bool
is_left_out has_names name = bytes_eq name (codes "storage_transformers") || (bytes_eq name (codes "dimension_names") && not has_names)

-- the value of a field, as it is written where the fill value is of this data type
abbrev pub written_value : Option DataType → List ℕ → Data → Data
written_value type name d =
    if list_any (bytes_eq name) point_names then written_point_in d
    else (if bytes_eq name (codes "codecs") then written_codecs d else (if bytes_eq name (codes "fill_value") then written_fill type d else d))

-- the fields that are written, each with its value
abbrev pub written_fields : Option DataType → Bool → Members → Members
written_fields type has_names no_members = no_members
written_fields type has_names (member name d ms) = if is_left_out has_names name then written_fields type has_names ms else member name (written_value type name d) (written_fields type has_names ms)

-- members with a field that is put among them as it is written, unless it is left out
abbrev pub with_field : Option DataType → Bool → List ℕ → Data → Members → Members
with_field type has_names name d ms = if is_left_out has_names name then ms else put name (written_value type name d) ms

-- the attributes that a document gives
abbrev pub given_attributes : Members → Members
given_attributes ms = unwrap_or (option_and_then as_object (get_member (codes "attributes") ms)) no_members

-- the document that is written for a document of version 3
abbrev pub written_members : Members → Members
written_members ms = put (codes "attributes") (object (marked (given_attributes ms))) (written_fields (type_given ms) (is_given (get_member (codes "dimension_names") ms)) ms)

-- a document of version 2 with its separator of chunk keys: a dot where it names none
abbrev pub with_separator : Members → Members
with_separator ms = if is_some (get_member (codes "dimension_separator") ms) then ms else put (codes "dimension_separator") (string (codes ".")) ms

-- the document that is written for a document of version 2: each field as it is given, also one that isn't known, a separator, and the attribute `_zarrs` added to the given ones
abbrev pub written_version_2 : Members → Members
written_version_2 ms = joined (with_separator ms) (object (marked (given_attributes ms)))

-- the document that is written for a document: of version 3 each extension point in its shortest form, the fill value as its cell is written, no storage transformers, no null names, and the attribute `_zarrs` added to the given ones; a tree that is no object stays
abbrev pub written_document : Data → Data
written_document null = null
written_document (boolean b) = boolean b
written_document (number n) = number n
written_document (string s) = string s
written_document (array ds) = array ds
written_document (object ms) = object (if has_version_2 ms then written_version_2 ms else written_members ms)

-- what a document says, with the mark
abbrev pub with_mark : Metadata → Metadata
with_mark metadata = record metadata { attributes = marked metadata.attributes }
