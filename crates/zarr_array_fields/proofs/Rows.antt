-- Worked documents: what the definitions say of them, by computation.
use Rattle.std.proofs.Common.{◌≡◌, ℕ, List, [], ◌∷◌, codes, bytes_eq, if◌then◌else◌, Bool, true, false, Some, None, Result, Ok, Err, refl}
use Rattle.serde_json.specs.Data.{Data, null, boolean, number, unsigned, string, array, object, Items, item, no_items, Members, member, no_members, put}
use Rattle.zarr_grids_chunks.specs.Grids.{regular, clipped, varying, Grid}
use Rattle.zarr_grids_keys.specs.Keys.{KeyEncoding, default, v2, suffixed}
use Rattle.zarr_codecs_meaning.specs.Types.{DataType, uint8, integer, signed, string as strings, variable_bytes, optional_of, Cell, of_bytes, absent, present}
use Rattle.zarr_codecs_meaning.specs.Chains.{ByteCodec}
use Rattle.zarr_codecs_meaning.specs.Chains.Endianness.{big}
use Rattle.zarr_codecs_meaning.specs.Chains.Chain.{bytes, then_bytes}
use Rattle.zarr_codecs_metadata.specs.Chains.{ReadsCodecs}
use Rattle.zarr_array_meaning.specs.Documents as documents
use Rattle.zarr_array_meaning.specs.Documents.{Document, Metadata}
use Rattle.zarr_array_meaning.specs.Written.{written_document}
use Rattle.zarr_array_meaning.specs.declared.error.DocumentError.{DocumentError}
use Rattle.zarr_array_meaning.specs.declared.error.DocumentError.TheVariants.{Fields, AdditionalField, Codecs, DataTypes, ChunkGrid, Dimensionality, FillValue, StorageTransformers, ChunkKeyEncoding, DimensionNames}

-- a codec that keeps bytes as they are
abbrev pub keeping : ByteCodec
keeping = record { encode = λ bs. Some bs; decode = λ bs. Some bs; representation = λ known. known }

-- it has the name "keep"
abbrev pub reads : ReadsCodecs
reads point = if bytes_eq point.name (codes "keep") then Some keeping else None

abbrev pub read_document : Data → Result Document DocumentError
read_document d = documents.read_document reads d

abbrev pub read_metadata : Data → Result Metadata DocumentError
read_metadata d = documents.read_metadata reads d

abbrev pub size : ℕ → Data
size n = number (unsigned n)

abbrev pub sizes : List ℕ → Items
sizes [] = no_items
sizes (n ∷ ns) = item (size n) (sizes ns)

-- {"configuration": {key: value}, "name": name}
abbrev pub point_with : List ℕ → List ℕ → Data → Data
point_with name key value = object (member (codes "configuration") (object (member key value no_members)) (member (codes "name") (string name) no_members))

abbrev pub regular_with : List ℕ → Data
regular_with edges = point_with (codes "regular") (codes "chunk_shape") (array (sizes edges))

-- {"must_understand": flag}
abbrev pub flagged : Bool → Data
flagged flag = object (member (codes "must_understand") (boolean flag) no_members)

-- {"chunk_grid": 2 by 2, "chunk_key_encoding": {"name": "default"}, "codecs": [{"name": "bytes"}], "data_type": "uint8",
-- "fill_value": 0, "node_type": "array", "shape": [4, 4], "zarr_format": 3}
abbrev pub plain : Members
plain =
    member (codes "chunk_grid") (regular_with (2 ∷ 2 ∷ [])) (
    member (codes "chunk_key_encoding") (object (member (codes "name") (string (codes "default")) no_members)) (
    member (codes "codecs") (array (item (object (member (codes "name") (string (codes "bytes")) no_members)) no_items)) (
    member (codes "data_type") (string (codes "uint8")) (
    member (codes "fill_value") (size 0) (
    member (codes "node_type") (string (codes "array")) (
    member (codes "shape") (array (sizes (4 ∷ 4 ∷ []))) (
    member (codes "zarr_format") (size 3) no_members)))))))

-- the plain document with one field put in
abbrev pub document_with : List ℕ → Data → Data
document_with name value = object (put name value plain)

-- ---- read

-- what is said of 4 by 4 cells on this grid, stored under these keys
abbrev pub four_by_four : Grid → KeyEncoding → Document
four_by_four grid keys = record { shape = 4 ∷ 4 ∷ []; elements = record { type = uint8; fill = of_bytes (0 ∷ []) }; grid = grid; keys = keys; chain = bytes None }

-- the same in chunks of 2 by 2, with this separator of keys
abbrev pub two_by_two : ℕ → Document
two_by_two separator = four_by_four (regular 4 2 ∷ regular 4 2 ∷ []) (default separator)

pub plain_reads : read_document (object plain) ≡ Ok (two_by_two 47)
plain_reads = refl

pub dot_reads : read_document (document_with (codes "chunk_key_encoding") (point_with (codes "default") (codes "separator") (string (codes ".")))) ≡ Ok (two_by_two 46)
dot_reads = refl

pub other_separator : read_document (document_with (codes "chunk_key_encoding") (point_with (codes "default") (codes "separator") (string (codes "-")))) ≡ Err ChunkKeyEncoding
other_separator = refl

-- the codecs: "bytes" with the highest byte first, and then the caller's twice
abbrev pub two_more : Data
two_more = array (item (point_with (codes "bytes") (codes "endian") (string (codes "big"))) (item (string (codes "keep")) (item (string (codes "keep")) no_items)))

pub more_codecs_read : read_document (object (put (codes "codecs") two_more (put (codes "data_type") (string (codes "int16")) plain)))
    ≡ Ok (record (two_by_two 47) { elements = record { type = integer signed 16; fill = of_bytes (0 ∷ 0 ∷ []) }; chain = then_bytes (then_bytes (bytes (Some big)) keeping) keeping })
more_codecs_read = refl

pub codec_unknown : read_document (document_with (codes "codecs") (array (item (string (codes "bytes")) (item (string (codes "gzip")) no_items)))) ≡ Err Codecs
codec_unknown = refl

pub type_unknown : read_document (document_with (codes "data_type") (string (codes "float32"))) ≡ Err DataTypes
type_unknown = refl

pub fill_of_256 : read_document (document_with (codes "fill_value") (size 256)) ≡ Err FillValue
fill_of_256 = refl

pub edge_of_0 : read_document (document_with (codes "chunk_grid") (regular_with (2 ∷ 0 ∷ []))) ≡ Err ChunkGrid
edge_of_0 = refl

pub three_edges : read_document (document_with (codes "chunk_grid") (regular_with (2 ∷ 2 ∷ 2 ∷ []))) ≡ Err Dimensionality
three_edges = refl

-- ---- types of elements of any length, and optional ones

-- the plain document with this data type and this fill value
abbrev pub typed : Data → Data → Data
typed type fill = object (put (codes "data_type") type (put (codes "fill_value") fill plain))

abbrev pub two_by_two_of : DataType → Cell → Document
two_by_two_of type fill = record (two_by_two 47) { elements = record { type = type; fill = fill } }

pub string_reads : read_document (typed (string (codes "string")) (string (codes "none"))) ≡ Ok (two_by_two_of strings (of_bytes (codes "none")))
string_reads = refl

pub string_of_0 : read_document (document_with (codes "data_type") (string (codes "string"))) ≡ Err FillValue
string_of_0 = refl

pub bytes_read : read_document (typed (string (codes "bytes")) (array (sizes (1 ∷ 2 ∷ [])))) ≡ Ok (two_by_two_of variable_bytes (of_bytes (1 ∷ 2 ∷ [])))
bytes_read = refl

-- {"configuration": {"name": name}, "name": "optional"}
abbrev pub optional_named : List ℕ → Data
optional_named name = point_with (codes "optional") (codes "name") (string name)

pub optional_reads : read_document (typed (optional_named (codes "uint8")) null) ≡ Ok (two_by_two_of (optional_of uint8) absent)
optional_reads = refl

pub present_reads : read_document (typed (optional_named (codes "uint8")) (array (item (size 7) no_items))) ≡ Ok (two_by_two_of (optional_of uint8) (present (of_bytes (7 ∷ []))))
present_reads = refl

pub optional_of_0 : read_document (document_with (codes "data_type") (optional_named (codes "uint8"))) ≡ Err FillValue
optional_of_0 = refl

-- {"_zarrs": {"description": .., "repository": .., "version": ..}}, and then these
abbrev pub marked_with : Members → Data
marked_with others = object (member (codes "_zarrs") (object (
    member (codes "description") (string (codes "This array was created with zarrs")) (
    member (codes "repository") (string (codes "https://github.com/zarrs/zarrs")) (
    member (codes "version") (string (codes "0.23.13")) no_members)))) others)

-- a list of bytes is written as it is
pub list_stays : written_document (typed (string (codes "bytes")) (array (sizes (1 ∷ 2 ∷ []))))
    ≡ object (put (codes "fill_value") (array (sizes (1 ∷ 2 ∷ []))) (put (codes "data_type") (string (codes "bytes"))
    (put (codes "attributes") (marked_with no_members) (put (codes "chunk_key_encoding") (string (codes "default")) (put (codes "codecs") (array (item (string (codes "bytes")) no_items)) plain)))))
list_stays = refl

-- ---- the other grids and encodings of keys

abbrev pub on_grid : List ℕ → Members → Result Document DocumentError
on_grid name configuration = read_document (document_with (codes "chunk_grid") (object (member (codes "configuration") (object configuration) (member (codes "name") (string name) no_members))))

pub bounded_reads : on_grid (codes "regular_bounded") (member (codes "chunk_shape") (array (sizes (3 ∷ 5 ∷ []))) no_members) ≡ Ok (four_by_four (clipped 4 3 ∷ clipped 4 5 ∷ []) (default 47))
bounded_reads = refl

-- a list of edges that sum to the size, and one edge
abbrev pub listed_edges : List ℕ → Members
listed_edges edges = member (codes "chunk_shape") (array (item (array (sizes edges)) (item (size 3) no_items))) no_members

pub rectangular_reads : on_grid (codes "rectangular") (listed_edges (1 ∷ 3 ∷ [])) ≡ Ok (four_by_four (varying 4 (1 ∷ 3 ∷ []) ∷ regular 4 3 ∷ []) (default 47))
rectangular_reads = refl

pub other_sum : on_grid (codes "rectangular") (listed_edges (1 ∷ 2 ∷ [])) ≡ Err ChunkGrid
other_sum = refl

-- two chunks of 1 and one of 3, and one edge
abbrev pub run_edges : List ℕ → Members
run_edges kind = member (codes "chunk_shapes") (array (item (array (item (array (sizes (1 ∷ 2 ∷ []))) (item (size 3) no_items))) (item (size 4) no_items))) (member (codes "kind") (string kind) no_members)

pub rectilinear_reads : on_grid (codes "rectilinear") (run_edges (codes "inline")) ≡ Ok (four_by_four (varying 4 (1 ∷ 1 ∷ 3 ∷ []) ∷ regular 4 4 ∷ []) (default 47))
rectilinear_reads = refl

pub other_kind : on_grid (codes "rectilinear") (run_edges (codes "outline")) ≡ Err ChunkGrid
other_kind = refl

abbrev pub with_keys : Data → Result Document DocumentError
with_keys encoding = read_document (document_with (codes "chunk_key_encoding") encoding)

pub v2_reads : with_keys (string (codes "v2")) ≡ Ok (four_by_four (regular 4 2 ∷ regular 4 2 ∷ []) (v2 46))
v2_reads = refl

abbrev pub suffix : List ℕ → Data
suffix text = point_with (codes "default_suffix") (codes "suffix") (string text)

pub suffix_reads : with_keys (suffix (codes ".bin")) ≡ Ok (four_by_four (regular 4 2 ∷ regular 4 2 ∷ []) (suffixed 47 (codes ".bin")))
suffix_reads = refl

pub suffix_with_slash : with_keys (suffix (codes "a/")) ≡ Err ChunkKeyEncoding
suffix_with_slash = refl

-- ---- the order of the checks

-- the codecs are checked before the chunk grid
pub codec_first : read_document (object (put (codes "codecs") (array (item (string (codes "gzip")) no_items)) (put (codes "chunk_grid") (regular_with (0 ∷ [])) plain))) ≡ Err Codecs
codec_first = refl

pub null_attributes : read_document (document_with (codes "attributes") null) ≡ Err Fields
null_attributes = refl

-- ---- additional fields

pub additional_passes : read_metadata (document_with (codes "more") (flagged false)) ≡ Ok (record { document = two_by_two 47; attributes = no_members; dimension_names = None; additional_fields = member (codes "more") (flagged false) no_members })
additional_passes = refl

pub additional_refused : read_metadata (document_with (codes "more") (flagged true)) ≡ Err AdditionalField
additional_refused = refl

pub additional_number_refused : read_metadata (document_with (codes "more") (size 1)) ≡ Err AdditionalField
additional_number_refused = refl

-- ---- optional fields

pub names_read : read_metadata (document_with (codes "dimension_names") (array (item (string (codes "y")) (item null no_items))))
    ≡ Ok (record { document = two_by_two 47; attributes = no_members; dimension_names = Some (Some (codes "y") ∷ None ∷ []); additional_fields = no_members })
names_read = refl

pub null_names_read : read_metadata (document_with (codes "dimension_names") null) ≡ Ok (record { document = two_by_two 47; attributes = no_members; dimension_names = None; additional_fields = no_members })
null_names_read = refl

pub one_name : read_document (document_with (codes "dimension_names") (array (item (string (codes "y")) no_items))) ≡ Err DimensionNames
one_name = refl

pub null_transformers : read_document (document_with (codes "storage_transformers") null) ≡ Err StorageTransformers
null_transformers = refl

-- ---- written

-- the plain document as it is written: with these attributes beside the mark, this encoding of keys, this codec, and these fields between `fill_value` and `zarr_format`
abbrev pub written_with : Members → Data → Data → Members → Data
written_with others encoding codec fields = object (
    member (codes "attributes") (marked_with others) (
    member (codes "chunk_grid") (regular_with (2 ∷ 2 ∷ [])) (
    member (codes "chunk_key_encoding") encoding (
    member (codes "codecs") (array (item codec no_items)) (
    member (codes "data_type") (string (codes "uint8")) (
    member (codes "fill_value") (size 0) fields))))))

abbrev pub last_fields : Members
last_fields =
    member (codes "node_type") (string (codes "array")) (
    member (codes "shape") (array (sizes (4 ∷ 4 ∷ []))) (
    member (codes "zarr_format") (size 3) no_members))

-- extension points are written bare
pub plain_written : written_document (object plain) ≡ written_with no_members (string (codes "default")) (string (codes "bytes")) last_fields
plain_written = refl

pub attributes_stay : written_document (document_with (codes "attributes") (object (member (codes "a") (size 1) no_members)))
    ≡ written_with (member (codes "a") (size 1) no_members) (string (codes "default")) (string (codes "bytes")) last_fields
attributes_stay = refl

pub null_names_left_out : written_document (document_with (codes "dimension_names") null) ≡ written_document (object plain)
null_names_left_out = refl

pub names_stay : written_document (document_with (codes "dimension_names") (array (item null (item null no_items))))
    ≡ object (member (codes "attributes") (marked_with no_members) (
    member (codes "chunk_grid") (regular_with (2 ∷ 2 ∷ [])) (
    member (codes "chunk_key_encoding") (string (codes "default")) (
    member (codes "codecs") (array (item (string (codes "bytes")) no_items)) (
    member (codes "data_type") (string (codes "uint8")) (
    member (codes "dimension_names") (array (item null (item null no_items))) (
    member (codes "fill_value") (size 0) last_fields)))))))
names_stay = refl

pub transformers_left_out : written_document (document_with (codes "storage_transformers") (array no_items)) ≡ written_document (object plain)
transformers_left_out = refl

pub additional_stays : written_document (document_with (codes "more") (flagged false))
    ≡ written_with no_members (string (codes "default")) (string (codes "bytes")) (member (codes "more") (flagged false) last_fields)
additional_stays = refl

-- a configuration without members stays
pub configuration_stays : written_document (document_with (codes "codecs") (array (item (object (member (codes "configuration") (object no_members) (member (codes "name") (string (codes "bytes")) no_members))) no_items)))
    ≡ written_with no_members (string (codes "default")) (object (member (codes "configuration") (object no_members) (member (codes "name") (string (codes "bytes")) no_members))) last_fields
configuration_stays = refl

-- `"must_understand": true` does not
pub flag_left_out : written_document (document_with (codes "data_type") (object (member (codes "must_understand") (boolean true) (member (codes "name") (string (codes "uint8")) no_members)))) ≡ written_document (object plain)
flag_left_out = refl

-- another flag does
pub flag_stays : written_document (document_with (codes "chunk_key_encoding") (object (member (codes "must_understand") (boolean false) (member (codes "name") (string (codes "default")) no_members))))
    ≡ written_with no_members (object (member (codes "must_understand") (boolean false) (member (codes "name") (string (codes "default")) no_members))) (string (codes "bytes")) last_fields
flag_stays = refl
