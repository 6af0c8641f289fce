-- Array documents: what a JSON tree says, by checks in one order (Zarr core specification, "Array metadata"; Zarr storage specification version 2, "Metadata"; the order of the checks is this project's own).
use Rattle.std.specs.Prelude.{ℕ, List, [], ◌∷◌, ◌++◌, length, Bool, false, not, ◌||◌, ◌==◌, nat_le, codes, bytes_eq, if◌then◌else◌, Option, option_map, option_and_then, unwrap_or, Result, Ok, Err, ⊤}
use Rattle.std.specs.List.{list_any}
use Rattle.std.specs.Option.{ok_or}
use Rattle.serde_json.specs.Data.{Data, Members, no_members, member, depth}
use Rattle.serde_json.specs.Find.{get_member, as_number, as_u64, as_str, as_object}
use Rattle.serde_json.specs.Written.{has_float}
use Rattle.zarr_grids_chunks.specs.Grids.{Grid}
use Rattle.zarr_grids_configurations.specs.Configurations.{configuration_in}
use Rattle.zarr_grids_configurations.specs.Grids.{grid_in}
use Rattle.zarr_grids_configurations.specs.Numbers.{sizes_in}
use Rattle.zarr_grids_keys.specs.Keys.{KeyEncoding}
use Rattle.zarr_grids_keys.specs.EncodingMetadata.{keys_in}
use Rattle.zarr_codecs_meaning.specs.Types.{Elements}
use Rattle.zarr_codecs_meaning.specs.Chains.{Chain}
use Rattle.zarr_codecs_types.specs.Metadata.{data_type_in}
use Rattle.zarr_codecs_metadata.specs.Chains.{ReadsCodecs}
use Rattle.zarr_grids_metadata.specs.ExtensionPoints.{must_understand_field}
use Rattle.zarr_array_v2.specs.Conversion.{to_v3}
use Rattle.zarr_array_v2.specs.Versions.{has_version_2}
use Rattle.zarr_array_meaning.specs.Parts.{attributes_in, codecs_in, fill_in, has_no_transformers, dimension_names_in}
use Rattle.zarr_array_meaning.specs.declared.error.DocumentError.{DocumentError}
use Rattle.zarr_array_meaning.specs.declared.error.DocumentError.TheVariants.{Depth, Float, Fields, AdditionalField, Codecs, DataTypes, ChunkGrid, Dimensionality, FillValue, StorageTransformers, ChunkKeyEncoding, DimensionNames}

-- what a document says of the cells and of where they are stored
pub record Document : Type 0 where
  pub shape : List ℕ
  pub elements : Elements
  pub grid : Grid
  pub keys : KeyEncoding
  pub chain : Chain

-- all that a document says
pub record Metadata : Type 0 where
  pub document : Document
  pub attributes : Members
  pub dimension_names : Option (List (Option (List ℕ)))
  pub additional_fields : Members

infixl 10 ◌>>=◌
infixl 10 ◌>>◌
-- what follows a check that passed
abbrev pub ◌>>=◌ : {A B E : Type 0} → Result A E → (A → Result B E) → Result B E
(Ok x) >>= f = f x
(Err e) >>= f = Err e

-- one check after another: the first that refuses decides
abbrev pub ◌>>◌ : {A E : Type 0} → Result ⊤ E → Result A E → Result A E
(Ok x) >> r = r
(Err e) >> r = Err e

-- a check that gives nothing
abbrev pub check : Bool → DocumentError → Result ⊤ DocumentError
check passed e = if passed then Ok tt else Err e

-- ---- fields

-- the names of the fields that every document of version 3 has
abbrev pub required_names : List (List ℕ)
required_names = codes "zarr_format" ∷ codes "node_type" ∷ codes "shape" ∷ codes "data_type" ∷ codes "chunk_grid" ∷ codes "chunk_key_encoding" ∷ codes "fill_value" ∷ codes "codecs" ∷ []

-- the names of the fields that it may have
abbrev pub optional_names : List (List ℕ)
optional_names = codes "attributes" ∷ codes "storage_transformers" ∷ codes "dimension_names" ∷ []

-- whether a name is that of one of the document's own fields
abbrev pub is_own_name : List ℕ → Bool
is_own_name name = list_any (bytes_eq name) (required_names ++ optional_names)

-- the fields with other names
abbrev pub additional_in : Members → Members
additional_in no_members = no_members
additional_in (member name d ms) = if is_own_name name then additional_in ms else member name d (additional_in ms)

-- whether one of these fields must be understood
abbrev pub must_understand_any : Members → Bool
must_understand_any no_members = false
must_understand_any (member name d ms) = must_understand_field d || must_understand_any ms

-- the fields that every document of version 3 has, and the attributes
pub record FieldsFound : Type 0 where
  pub shape : List ℕ
  pub data_type : Data
  pub chunk_grid : Data
  pub chunk_key_encoding : Data
  pub fill_value : Data
  pub codecs : Data
  pub attributes : Members

-- whether a member is this whole number
abbrev pub is_number : ℕ → Option Data → Bool
is_number n d = unwrap_or (option_map (λ m. m == n) (option_and_then as_u64 (option_and_then as_number d))) false

-- whether a member is this text
abbrev pub is_text : List ℕ → Option Data → Bool
is_text s d = unwrap_or (option_map (λ t. bytes_eq t s) (option_and_then as_str d)) false

-- a member that has to be there
abbrev pub field : Members → List ℕ → Result Data DocumentError
field ms name = ok_or (get_member name ms) Fields

-- the sizes that the member `shape` lists
abbrev pub shape_in : Members → Result (List ℕ) DocumentError
shape_in ms = ok_or (option_and_then sizes_in (get_member (codes "shape") ms)) Fields

-- the fields of a document of version 3: `zarr_format` is 3, `node_type` is "array", `shape` lists sizes, the other required ones are there, and attributes are an object where they are given
abbrev pub fields_in : Members → Result FieldsFound DocumentError
fields_in ms = do
  check (is_number 3 (get_member (codes "zarr_format") ms)) Fields
  check (is_text (codes "array") (get_member (codes "node_type") ms)) Fields
  shape ← shape_in ms
  data_type ← field ms (codes "data_type")
  chunk_grid ← field ms (codes "chunk_grid")
  chunk_key_encoding ← field ms (codes "chunk_key_encoding")
  fill_value ← field ms (codes "fill_value")
  codecs ← field ms (codes "codecs")
  attributes ← ok_or (attributes_in (get_member (codes "attributes") ms)) Fields
  Ok (record { shape = shape; data_type = data_type; chunk_grid = chunk_grid; chunk_key_encoding = chunk_key_encoding; fill_value = fill_value; codecs = codecs; attributes = attributes })

-- ---- the checks, in their order

-- how deep arrays and objects of a document may nest
abbrev pub depth_limit : ℕ
depth_limit = 127

-- all that the members of an object say, given what the caller's codecs are, or the first check that refuses them
abbrev pub read_members : ReadsCodecs → Members → Result Metadata DocumentError
read_members reads ms = do
  found ← fields_in ms
  check (not (must_understand_any (additional_in ms))) AdditionalField
  chain ← ok_or (codecs_in reads found.codecs) Codecs
  type ← ok_or (data_type_in found.data_type) DataTypes
  configuration ← ok_or (configuration_in found.chunk_grid) ChunkGrid
  check (length configuration == length found.shape) Dimensionality
  grid ← ok_or (grid_in found.shape configuration) ChunkGrid
  fill ← ok_or (fill_in type found.fill_value) FillValue
  check (has_no_transformers (get_member (codes "storage_transformers") ms)) StorageTransformers
  keys ← ok_or (keys_in found.chunk_key_encoding) ChunkKeyEncoding
  names ← ok_or (dimension_names_in (length found.shape) (get_member (codes "dimension_names") ms)) DimensionNames
  Ok (record { document = record { shape = found.shape; elements = record { type = type; fill = fill }; grid = grid; keys = keys; chain = chain }; attributes = found.attributes; dimension_names = names; additional_fields = additional_in ms })

-- the members of the version 3 document that says the same: any other document says it itself; one of version 2 has to have its fields, and the order C or F
abbrev pub version_3_of : Members → Result Members DocumentError
version_3_of ms = if has_version_2 ms then ok_or (to_v3 ms) Fields else Ok ms

-- all that a document of version 3 or 2 says, or the first check that refuses it
abbrev pub read_metadata : ReadsCodecs → Data → Result Metadata DocumentError
read_metadata reads d = do
  check (nat_le (depth d) depth_limit) Depth
  check (not (has_float d)) Float
  ms ← ok_or (as_object d) Fields
  members ← version_3_of ms
  read_members reads members

-- what the metadata says of the cells and of where they are stored
abbrev pub document_of : Result Metadata DocumentError → Result Document DocumentError
document_of result = do
  metadata ← result
  Ok metadata.document

-- what a document says of the cells and of where they are stored, or the first check that refuses it
abbrev pub read_document : ReadsCodecs → Data → Result Document DocumentError
read_document reads d = document_of (read_metadata reads d)
