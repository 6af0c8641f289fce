-- What a version 2 document without a float is converted to has none.
use Rattle.std.proofs.Common.{◌≡◌, ℕ, zero, suc, List, [], ◌∷◌, ◌++◌, codes, Bool, true, false, if◌then◌else◌, ◌||◌, Option, Some, None, option_map, option_and_then, unwrap_or, refl, sym, ap, ◌∙◌}
use Rattle.std.proofs.lemmas.Bool.{or_parts, or_from}
use Rattle.serde_json.specs.Data.{Data, null, boolean, number, unsigned, string, array, object, Items, no_items, item, Members, no_members, member, put}
use Rattle.serde_json.specs.Find.{get_member, as_str}
use Rattle.serde_json.specs.View.{items_of}
use Rattle.serde_json.specs.Written.{has_float, items_have_float, members_have_float}
use Rattle.zarr_grids_metadata.specs.ExtensionPoints.{configured, written_point}
use Rattle.zarr_grids_metadata.proofs.PointLemmas.{float_written}
use Rattle.zarr_grids_metadata.proofs.PutLemmas.{float_put, float_got}
use Rattle.zarr_array_v2.specs.Attributes.{without, with_attributes}
use Rattle.zarr_array_v2.specs.Codecs.{point, falling, dimensions_of, order_codecs, bytes_codec, codec_named, codec_in, codecs_in, filters_in, compressor_in}
use Rattle.zarr_array_v2.specs.Conversion.{endian_of, codecs_of, separator_of, chunk_grid_of, chunk_key_encoding_of, v3_fields, to_v3}
use Rattle.zarr_array_v2.specs.Dtypes.{Dtype, dtype_in, data_type_of, is_bool, is_null, is_number, boolean_fill, number_fill, fill_value_of}
use Rattle.zarr_array_v2.specs.Fields.{Fields, fields_in}
use Rattle.zarr_array_v2.specs.declared.fields.Order.{Order}
use Rattle.zarr_array_v2.specs.declared.fields.Order.TheVariants.{C, F}
use Rattle.zarr_array_v2.proofs.Named.{reads}
use Rattle.zarr_array_meaning.proofs.WrittenTrees.{without_float}

-- ---- extension points

some_is : {A : Type 0} {a b : A} → Some a ≡ Some b → a ≡ b
some_is e = cc

configured_float : (name : List ℕ) (ms : Members) → members_have_float ms ≡ false → has_float (written_point (configured name ms)) ≡ false
configured_float name ms h = float_written (configured name ms) (λ c e. ap members_have_float (sym (some_is e)) ∙ h)

point_float : (name field : List ℕ) (d : Data) → has_float d ≡ false → has_float (point name field d) ≡ false
point_float name field d h = configured_float name (put field d no_members) (float_put field d no_members h refl)

-- ---- codecs

falling_float : (n : ℕ) → items_have_float (falling n) ≡ false
falling_float zero = refl
falling_float (suc n) = falling_float n

append_float : (xs ys : List Data) → items_have_float (items_of xs) ≡ false → items_have_float (items_of ys) ≡ false → items_have_float (items_of (xs ++ ys)) ≡ false
append_float [] ys h g = g
append_float (x ∷ xs) ys h g =
    let parts = or_parts (has_float x) (items_have_float (items_of xs)) h in
    or_from (has_float x) (items_have_float (items_of (xs ++ ys))) parts.0 (append_float xs ys parts.1 g)

order_float : (o : Order) (n : ℕ) → items_have_float (items_of (order_codecs o n)) ≡ false
order_float C n = refl
order_float F n = or_from _ false (point_float (codes "transpose") (codes "order") (array (falling n)) (falling_float n)) refl

bytes_float : (endian : Option (List ℕ)) → has_float (bytes_codec endian) ≡ false
bytes_float None = refl
bytes_float (Some endian) = point_float (codes "bytes") (codes "endian") (string endian) refl

named_float : (id : List ℕ) (ms : Members) → members_have_float ms ≡ false → has_float (written_point (codec_named id ms)) ≡ false
named_float id no_members h = refl
named_float id (member name d ms) h = configured_float id (member name d ms) h

codec_at : (id : Option (List ℕ)) (rest : Members) → members_have_float rest ≡ false → has_float (unwrap_or (option_map written_point (option_map (λ id. codec_named id rest) id)) null) ≡ false
codec_at None rest h = refl
codec_at (Some id) rest h = named_float id rest h

codec_float : (d : Data) → has_float d ≡ false → has_float (codec_in d) ≡ false
codec_float null h = refl
codec_float (boolean b) h = refl
codec_float (number n) h = refl
codec_float (string s) h = refl
codec_float (array ds) h = refl
codec_float (object ms) h = codec_at (option_and_then as_str (get_member (codes "id") ms)) (without (codes "id") ms) (without_float (codes "id") ms h)

codecs_float : (ds : Items) → items_have_float ds ≡ false → items_have_float (items_of (codecs_in ds)) ≡ false
codecs_float no_items h = refl
codecs_float (item d ds) h =
    let parts = or_parts (has_float d) (items_have_float ds) h in
    or_from (has_float (codec_in d)) (items_have_float (items_of (codecs_in ds))) (codec_float d parts.0) (codecs_float ds parts.1)

filters_float : (d : Data) → has_float d ≡ false → items_have_float (items_of (filters_in d)) ≡ false
filters_float null h = refl
filters_float (boolean b) h = refl
filters_float (number n) h = refl
filters_float (string s) h = refl
filters_float (array ds) h = codecs_float ds h
filters_float (object ms) h = refl

compressor_float : (d : Data) → has_float d ≡ false → items_have_float (items_of (compressor_in d)) ≡ false
compressor_float null h = refl
compressor_float (boolean b) h = refl
compressor_float (number n) h = refl
compressor_float (string s) h = refl
compressor_float (array ds) h = refl
compressor_float (object ms) h = or_from (has_float (codec_in (object ms))) false (codec_float (object ms) h) refl

chain_float : (f : Fields) → has_float f.filters ≡ false → has_float f.compressor ≡ false → items_have_float (items_of (codecs_of f)) ≡ false
chain_float f filters compressor =
    let bytes = bytes_codec (endian_of (dtype_in f.dtype)) in
    let later = append_float (filters_in f.filters) (compressor_in f.compressor) (filters_float f.filters filters) (compressor_float f.compressor compressor) in
    append_float (order_codecs f.order (dimensions_of f.shape)) (bytes ∷ (filters_in f.filters ++ compressor_in f.compressor)) (order_float f.order (dimensions_of f.shape))
    (or_from (has_float bytes) _ (bytes_float (endian_of (dtype_in f.dtype))) later)

-- ---- the other fields

type_float : (o : Option Dtype) → has_float (data_type_of o) ≡ false
type_float None = refl
type_float (Some t) = refl

chosen_float : (b : Bool) (x y : Data) → has_float x ≡ false → has_float y ≡ false → has_float (if b then x else y) ≡ false
chosen_float true x y h g = h
chosen_float false x y h g = g

fill_float : (o : Option Dtype) (d : Data) → has_float d ≡ false → has_float (fill_value_of o d) ≡ false
fill_float o d h =
    chosen_float (is_bool o) (boolean_fill d) (number_fill d)
    (chosen_float (is_null d || is_number 0 d) (boolean false) (if is_number 1 d then boolean true else d) refl (chosen_float (is_number 1 d) (boolean true) d refl h))
    (chosen_float (is_null d) (number (unsigned 0)) d refl h)

separator_float : (o : Option Data) → ((d : Data) → o ≡ Some d → has_float d ≡ false) → has_float (separator_of o) ≡ false
separator_float None h = refl
separator_float (Some d) h = h d refl

-- ---- the document

fields_float : (ms : Members) (f : Fields) → members_have_float ms ≡ false → fields_in ms ≡ Some f → members_have_float (v3_fields f) ≡ false
fields_float ms f none is =
    let r = reads ms f is in
    let with_codecs : Members = put (codes "codecs") (array (items_of (codecs_of f))) no_members in
    let with_fill : Members = put (codes "fill_value") (fill_value_of (dtype_in f.dtype) f.fill_value) with_codecs in
    let with_keys : Members = put (codes "chunk_key_encoding") (chunk_key_encoding_of f.dimension_separator) with_fill in
    let with_grid : Members = put (codes "chunk_grid") (chunk_grid_of f.chunks) with_keys in
    let with_type : Members = put (codes "data_type") (data_type_of (dtype_in f.dtype)) with_grid in
    let with_shape : Members = put (codes "shape") f.shape with_type in
    let with_node : Members = put (codes "node_type") (string (codes "array")) with_shape in
    let chain = float_put (codes "codecs") (array (items_of (codecs_of f))) no_members (chain_float f (float_got (codes "filters") f.filters ms none r.filters) (float_got (codes "compressor") f.compressor ms none r.compressor)) refl in
    let fill = float_put (codes "fill_value") (fill_value_of (dtype_in f.dtype) f.fill_value) with_codecs (fill_float (dtype_in f.dtype) f.fill_value (float_got (codes "fill_value") f.fill_value ms none r.fill_value)) chain in
    let separator = separator_float f.dimension_separator (λ d e. float_got (codes "dimension_separator") d ms none (r.dimension_separator ∙ e)) in
    let keys = float_put (codes "chunk_key_encoding") (chunk_key_encoding_of f.dimension_separator) with_fill (point_float (codes "v2") (codes "separator") (separator_of f.dimension_separator) separator) fill in
    let grid = float_put (codes "chunk_grid") (chunk_grid_of f.chunks) with_keys (point_float (codes "regular") (codes "chunk_shape") f.chunks (float_got (codes "chunks") f.chunks ms none r.chunks)) keys in
    let type = float_put (codes "data_type") (data_type_of (dtype_in f.dtype)) with_grid (type_float (dtype_in f.dtype)) grid in
    let shape = float_put (codes "shape") f.shape with_type (float_got (codes "shape") f.shape ms none r.shape) type in
    let node = float_put (codes "node_type") (string (codes "array")) with_shape refl shape in
    float_put (codes "zarr_format") (number (unsigned 3)) with_node refl node

given_float : (o : Option Data) (fields : Members) → ((d : Data) → o ≡ Some d → has_float d ≡ false) → members_have_float fields ≡ false → members_have_float (with_attributes o fields) ≡ false
given_float None fields h g = g
given_float (Some d) fields h g = float_put (codes "attributes") d fields (h d refl) g

converted_at : (o : Option Fields) (ms converted : Members) → members_have_float ms ≡ false → fields_in ms ≡ o
    → option_map (λ f. with_attributes (get_member (codes "attributes") ms) (v3_fields f)) o ≡ Some converted → members_have_float converted ≡ false
converted_at None ms converted none is made = absurd (cc)
converted_at (Some f) ms converted none is made =
    ap members_have_float (sym (some_is made)) ∙ given_float (get_member (codes "attributes") ms) (v3_fields f) (λ d e. float_got (codes "attributes") d ms none e) (fields_float ms f none is)

-- a document without a float is converted to one without a float
pub converted_float : (ms converted : Members) → members_have_float ms ≡ false → to_v3 ms ≡ Some converted → members_have_float converted ≡ false
converted_float ms converted none made = converted_at (fields_in ms) ms converted none refl made
