-- Laws of version 2 documents: the version 3 document field by field, and the attributes apart.
use Rattle.std.specs.Prelude.{◌≡◌, ℕ, List, [], ◌∷◌, codes, bytes_eq, true, false, Option, Some, None, option_map, option_and_then}
use Rattle.std.specs.List.{list_any}
use Rattle.serde_json.specs.Data.{Data, number, unsigned, string, array, Members, put}
use Rattle.serde_json.specs.Find.{get_member}
use Rattle.serde_json.specs.View.{items_of}
use Rattle.zarr_grids_metadata.specs.Members.{has_only}
use Rattle.zarr_array_v2.specs.Attributes.{attributes_of, without_attributes, with_attributes, joined}
use Rattle.zarr_array_v2.specs.Conversion.{codecs_of, chunk_grid_of, chunk_key_encoding_of, to_v3}
use Rattle.zarr_array_v2.specs.Dtypes.{dtype_in, data_type_of, fill_value_of}
use Rattle.zarr_array_v2.specs.Fields.{Fields, order_in, fields_in}

-- ---- the version 3 document, by the names of its fields

-- the names that a converted document has
abbrev pub converted_names : List (List ℕ)
converted_names = codes "zarr_format" ∷ codes "node_type" ∷ codes "shape" ∷ codes "data_type" ∷ codes "chunk_grid" ∷ codes "chunk_key_encoding" ∷ codes "fill_value" ∷ codes "codecs" ∷ codes "attributes" ∷ []

-- a converted document has these fields and attributes, and no others
pub record IsConverted (f : Fields) (given : Option Data) (converted : Members) : Type 0 where
  pub zarr_format : get_member (codes "zarr_format") converted ≡ Some (number (unsigned 3))
  pub node_type : get_member (codes "node_type") converted ≡ Some (string (codes "array"))
  pub shape : get_member (codes "shape") converted ≡ Some f.shape
  pub data_type : get_member (codes "data_type") converted ≡ Some (data_type_of (dtype_in f.dtype))
  pub chunk_grid : get_member (codes "chunk_grid") converted ≡ Some (chunk_grid_of f.chunks)
  pub chunk_key_encoding : get_member (codes "chunk_key_encoding") converted ≡ Some (chunk_key_encoding_of f.dimension_separator)
  pub fill_value : get_member (codes "fill_value") converted ≡ Some (fill_value_of (dtype_in f.dtype) f.fill_value)
  pub codecs : get_member (codes "codecs") converted ≡ Some (array (items_of (codecs_of f)))
  pub attributes : get_member (codes "attributes") converted ≡ given
  pub no_other : has_only converted_names converted ≡ true

-- a document that is converted has the fields of version 2, and the version 3 document is made of these and the attributes
abbrev pub ConvertsFields : Type 0
ConvertsFields = (ms converted : Members) → to_v3 ms ≡ Some converted → (f : Fields) × (fields_in ms ≡ Some f) × IsConverted f (get_member (codes "attributes") ms) converted

-- ---- the fields of version 2, by their names

-- fields are those that stand at their names
pub record IsReadFrom (ms : Members) (f : Fields) : Type 0 where
  pub shape : get_member (codes "shape") ms ≡ Some f.shape
  pub chunks : get_member (codes "chunks") ms ≡ Some f.chunks
  pub dtype : get_member (codes "dtype") ms ≡ Some f.dtype
  pub fill_value : get_member (codes "fill_value") ms ≡ Some f.fill_value
  pub order : option_and_then order_in (get_member (codes "order") ms) ≡ Some f.order
  pub filters : get_member (codes "filters") ms ≡ Some f.filters
  pub compressor : get_member (codes "compressor") ms ≡ Some f.compressor
  pub dimension_separator : get_member (codes "dimension_separator") ms ≡ f.dimension_separator

-- the fields that are read are those that stand at their names
abbrev pub ReadsByName : Type 0
ReadsByName = (ms : Members) (f : Fields) → fields_in ms ≡ Some f → IsReadFrom ms f

-- the names of the fields
abbrev pub field_names : List (List ℕ)
field_names = codes "shape" ∷ codes "chunks" ∷ codes "dtype" ∷ codes "fill_value" ∷ codes "order" ∷ codes "filters" ∷ codes "compressor" ∷ codes "dimension_separator" ∷ []

-- members that agree at the names of the fields have the same fields
abbrev pub ReadsOnlyNames : Type 0
ReadsOnlyNames = (ms others : Members) → ((name : List ℕ) → list_any (bytes_eq name) field_names ≡ true → get_member name ms ≡ get_member name others) → fields_in ms ≡ fields_in others

-- ---- attributes

-- the version 3 document of a document with other attributes differs in these alone
abbrev pub ConvertsAttributes : Type 0
ConvertsAttributes = (ms : Members) (attributes : Data) → to_v3 (put (codes "attributes") attributes ms) ≡ option_map (put (codes "attributes") attributes) (to_v3 ms)

-- a document whose attributes were taken away has none, and all else as before
pub record IsWithoutAttributes (ms : Members) : Type 0 where
  pub attributes : get_member (codes "attributes") (without_attributes ms) ≡ None
  pub others : (name : List ℕ) → bytes_eq name (codes "attributes") ≡ false → get_member name (without_attributes ms) ≡ get_member name ms

-- taking the attributes away takes nothing else
abbrev pub TakesAttributes : Type 0
TakesAttributes = (ms : Members) → IsWithoutAttributes ms

-- a document that has attributes is put together again from its two parts: at each name stands what stood there
abbrev pub JoinsAgain : Type 0
JoinsAgain = (ms : Members) (attributes : Data) → get_member (codes "attributes") ms ≡ Some attributes
    → (name : List ℕ) → get_member name (with_attributes (Some (attributes_of ms)) (without_attributes ms)) ≡ get_member name ms

-- what was joined comes apart into the same parts, and is the same when it is joined again
pub record IsJoined (ms : Members) (attributes : Data) : Type 0 where
  pub rest : without_attributes (joined ms attributes) ≡ without_attributes ms
  pub attributes_are : attributes_of (joined ms attributes) ≡ attributes
  pub again : joined (joined ms attributes) (attributes_of (joined ms attributes)) ≡ joined ms attributes

-- what was joined comes apart again
abbrev pub SplitsAgain : Type 0
SplitsAgain = (ms : Members) (attributes : Data) → IsJoined ms attributes

-- a document from its two parts says the same as the document with these attributes
abbrev pub ConvertsParts : Type 0
ConvertsParts = (ms : Members) (attributes : Data) → to_v3 (with_attributes (Some attributes) (without_attributes ms)) ≡ option_map (put (codes "attributes") attributes) (to_v3 ms)

-- ---- the separator

-- a document without a separator says the same with a dot
abbrev pub ConvertsDot : Type 0
ConvertsDot = (ms : Members) → get_member (codes "dimension_separator") ms ≡ None → to_v3 (put (codes "dimension_separator") (string (codes ".")) ms) ≡ to_v3 ms
