-- The version 3 document that says the same as a version 2 document.
use Rattle.std.specs.Prelude.{ℕ, List, ◌∷◌, ◌++◌, codes, Option, option_map, option_and_then, unwrap_or}
use Rattle.serde_json.specs.Data.{Data, number, unsigned, string, array, Members, no_members, put}
use Rattle.serde_json.specs.Find.{get_member}
use Rattle.serde_json.specs.View.{items_of}
use Rattle.zarr_array_v2.specs.Attributes.{with_attributes}
use Rattle.zarr_array_v2.specs.Codecs.{point, dimensions_of, order_codecs, bytes_codec, filters_in, compressor_in}
use Rattle.zarr_array_v2.specs.Dtypes.{Dtype, dtype_in, data_type_of, fill_value_of}
use Rattle.zarr_array_v2.specs.Fields.{Fields, fields_in}

-- the byte order that a dtype says, if it says one
abbrev pub endian_of : Option Dtype → Option (List ℕ)
endian_of dtype = option_and_then (λ (t : Dtype). t.endian) dtype

-- the codecs in their order: a transposition where the order is F, `bytes`, the filters, and the compressor
abbrev pub codecs_of : Fields → List Data
codecs_of f = order_codecs f.order (dimensions_of f.shape) ++ bytes_codec (endian_of (dtype_in f.dtype)) ∷ (filters_in f.filters ++ compressor_in f.compressor)

-- the separator of chunk keys: a dot, where none is given
abbrev pub separator_of : Option Data → Data
separator_of separator = unwrap_or separator (string (codes "."))

-- the chunk grid: `regular`, by the shape of a chunk
abbrev pub chunk_grid_of : Data → Data
chunk_grid_of chunks = point (codes "regular") (codes "chunk_shape") chunks

-- the keys of chunks: `v2`, by the separator
abbrev pub chunk_key_encoding_of : Option Data → Data
chunk_key_encoding_of separator = point (codes "v2") (codes "separator") (separator_of separator)

-- the fields of the version 3 document, but for its attributes
abbrev pub v3_fields : Fields → Members
v3_fields f =
    put (codes "zarr_format") (number (unsigned 3))
    (put (codes "node_type") (string (codes "array"))
    (put (codes "shape") f.shape
    (put (codes "data_type") (data_type_of (dtype_in f.dtype))
    (put (codes "chunk_grid") (chunk_grid_of f.chunks)
    (put (codes "chunk_key_encoding") (chunk_key_encoding_of f.dimension_separator)
    (put (codes "fill_value") (fill_value_of (dtype_in f.dtype) f.fill_value)
    (put (codes "codecs") (array (items_of (codecs_of f))) no_members)))))))

-- the version 3 document of exactly these parts, with the attributes; none where a field is missing, or the order is neither C nor F
abbrev pub to_v3 : Members → Option Members
to_v3 ms = option_map (λ f. with_attributes (get_member (codes "attributes") ms) (v3_fields f)) (fields_in ms)
