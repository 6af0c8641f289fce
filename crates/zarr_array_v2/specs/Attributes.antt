-- The attributes of a version 2 document, which stand in a document of their own (Zarr storage specification version 2, "Attributes").
use Rattle.std.specs.Prelude.{ℕ, List, codes, bytes_eq, if◌then◌else◌, Option, Some, None, unwrap_or}
use Rattle.serde_json.specs.Data.{Data, object, Members, no_members, member, put}
use Rattle.serde_json.specs.Find.{get_member}

-- the members with other names
abbrev pub without : List ℕ → Members → Members
without name no_members = no_members
without name (member k d ms) = if bytes_eq name k then without name ms else member k d (without name ms)

-- the attributes of a document; an empty object where it has none
abbrev pub attributes_of : Members → Data
attributes_of ms = unwrap_or (get_member (codes "attributes") ms) (object no_members)

-- the document without its attributes, as `.zarray` holds it
abbrev pub without_attributes : Members → Members
without_attributes ms = without (codes "attributes") ms

-- the document with the attributes that `.zattrs` holds; where there is none, its own stay
abbrev pub with_attributes : Option Data → Members → Members
with_attributes None ms = ms
with_attributes (Some attributes) ms = put (codes "attributes") attributes ms

-- the document of these attributes and of what is left of these members
abbrev pub joined : Members → Data → Members
joined ms attributes = with_attributes (Some attributes) (without_attributes ms)
