-- What is written for members of version 3 says what they say, with the mark; and so do members with the mark among their attributes.
use Rattle.std.proofs.Common.{◌≡◌, ℕ, List, length, bytes_eq, codes, Bool, true, false, not, ◌==◌, Option, Some, None, option_map, option_and_then, unwrap_or, Result, Ok, Err, refl, ap, ◌∙◌}
use Rattle.std.specs.Option.{ok_or}
use Rattle.std.specs.Result.{result_ok}
use Rattle.serde_json.specs.Data.{Data, Members, no_members, put}
use Rattle.serde_json.specs.Find.{get_member, as_object}
use Rattle.zarr_grids_chunks.specs.Grids.{Grid}
use Rattle.zarr_grids_configurations.specs.Configurations.{configuration_of_point, configuration_in}
use Rattle.zarr_grids_configurations.specs.Grids.{Edges, grid_in}
use Rattle.zarr_grids_configurations.specs.Numbers.{sizes_in}
use Rattle.zarr_grids_keys.specs.Keys.{KeyEncoding}
use Rattle.zarr_grids_keys.specs.EncodingMetadata.{keys_made, keys_in}
use Rattle.zarr_codecs_meaning.specs.Types.{DataType, Cell}
use Rattle.zarr_codecs_meaning.specs.Chains.{Chain}
use Rattle.zarr_codecs_types.specs.Metadata.{point_type, data_type_in}
use Rattle.zarr_codecs_metadata.specs.Chains.{ReadsCodecs}
use Rattle.zarr_grids_metadata.specs.ExtensionPoints.{written_point_in}
use Rattle.zarr_grids_metadata.proofs.PutLemmas.{get_put_same, get_put_other}
use Rattle.zarr_array_meaning.specs.Parts.{attributes_in, codecs_in, fill_in, has_no_transformers, dimension_names_in}
use Rattle.zarr_array_meaning.specs.Documents.{Metadata, FieldsFound, ◌>>=◌, ◌>>◌, check, additional_in, must_understand_any, is_number, is_text, read_members}
use Rattle.zarr_array_meaning.specs.Written.{written_codecs, written_fill, type_given, marked, written_fields, given_attributes, written_members, with_mark}
use Rattle.zarr_array_meaning.specs.declared.error.DocumentError.{DocumentError}
use Rattle.zarr_array_meaning.specs.declared.error.DocumentError.TheVariants.{Fields, AdditionalField, Codecs, DataTypes, ChunkGrid, Dimensionality, FillValue, StorageTransformers, ChunkKeyEncoding, DimensionNames}
use Rattle.zarr_array_meaning.proofs.Points.{extension_point-written, codecs_in-written}
use Rattle.zarr_array_meaning.proofs.WrittenFills.{fill_in-written}
use Rattle.zarr_array_meaning.proofs.WrittenFields.{additional_in-written_fields, additional_in-put}
use Rattle.zarr_array_meaning.proofs.WrittenDocuments.{marked_attributes, names_given, get_names, get_attributes, get_written, get_left_out, get_plain, names-written}

-- ---- additional fields

additional-written : (ms : Members) → additional_in (written_members ms) ≡ additional_in ms
additional-written ms =
    additional_in-put (codes "attributes") (marked_attributes ms) (written_fields (type_given ms) (names_given ms) ms) refl ∙ additional_in-written_fields (type_given ms) (names_given ms) ms

-- ---- the fields that every document has

abbrev written_found : FieldsFound → FieldsFound
written_found found = record found {
  data_type = written_point_in found.data_type;
  chunk_grid = written_point_in found.chunk_grid;
  chunk_key_encoding = written_point_in found.chunk_key_encoding;
  fill_value = written_fill (data_type_in found.data_type) found.fill_value;
  codecs = written_codecs found.codecs;
  attributes = marked found.attributes;
}

abbrev fields_from : Bool → Bool → Option (List ℕ) → Option Data → Option Data → Option Data → Option Data → Option Data → Option Members → Result FieldsFound DocumentError
fields_from version is_array shape type grid keys fill codecs attributes = do
  check version Fields
  check is_array Fields
  shape ← ok_or shape Fields
  data_type ← ok_or type Fields
  chunk_grid ← ok_or grid Fields
  chunk_key_encoding ← ok_or keys Fields
  fill_value ← ok_or fill Fields
  codecs ← ok_or codecs Fields
  attributes ← ok_or attributes Fields
  Ok (record { shape = shape; data_type = data_type; chunk_grid = chunk_grid; chunk_key_encoding = chunk_key_encoding; fill_value = fill_value; codecs = codecs; attributes = attributes })

fields_from-written : (version is_array : Bool) (shape : Option (List ℕ)) (type grid keys fill codecs : Option Data) (attributes new : Option Members) (found : FieldsFound)
    → ((ms : Members) → attributes ≡ Some ms → new ≡ Some (marked ms))
    → fields_from version is_array shape type grid keys fill codecs attributes ≡ Ok found
    → fields_from version is_array shape (option_map written_point_in type) (option_map written_point_in grid) (option_map written_point_in keys) (option_map (written_fill (option_and_then data_type_in type)) fill) (option_map written_codecs codecs) new ≡ Ok (written_found found)
fields_from-written false a s t g k v c m n f h is = absurd (cc)
fields_from-written true false s t g k v c m n f h is = absurd (cc)
fields_from-written true true None t g k v c m n f h is = absurd (cc)
fields_from-written true true (Some s) None g k v c m n f h is = absurd (cc)
fields_from-written true true (Some s) (Some t) None k v c m n f h is = absurd (cc)
fields_from-written true true (Some s) (Some t) (Some g) None v c m n f h is = absurd (cc)
fields_from-written true true (Some s) (Some t) (Some g) (Some k) None c m n f h is = absurd (cc)
fields_from-written true true (Some s) (Some t) (Some g) (Some k) (Some v) None m n f h is = absurd (cc)
fields_from-written true true (Some s) (Some t) (Some g) (Some k) (Some v) (Some c) None n f h is = absurd (cc)
fields_from-written true true (Some s) (Some t) (Some g) (Some k) (Some v) (Some c) (Some m) n f h is =
    let e : record { shape = s; data_type = t; chunk_grid = g; chunk_key_encoding = k; fill_value = v; codecs = c; attributes = m } ≡ f = cc in
    rw (h m refl) (ap (λ r. Ok (written_found r)) e)

attributes_found : (o : Option Data) (ms : Members) → attributes_in o ≡ Some ms → unwrap_or (option_and_then as_object o) no_members ≡ ms
attributes_found None ms is = let e : no_members ≡ ms = cc in e
attributes_found (Some d) ms is = rw is

abbrev fields_of : Members → Result FieldsFound DocumentError
fields_of ms =
    fields_from (is_number 3 (get_member (codes "zarr_format") ms)) (is_text (codes "array") (get_member (codes "node_type") ms)) (option_and_then sizes_in (get_member (codes "shape") ms))
    (get_member (codes "data_type") ms) (get_member (codes "chunk_grid") ms) (get_member (codes "chunk_key_encoding") ms) (get_member (codes "fill_value") ms) (get_member (codes "codecs") ms)
    (attributes_in (get_member (codes "attributes") ms))

fields-written : (ms : Members) (found : FieldsFound) → fields_of ms ≡ Ok found → fields_of (written_members ms) ≡ Ok (written_found found)
fields-written ms found is =
    rw (get_plain (codes "zarr_format") ms refl refl (λ d. refl), get_plain (codes "node_type") ms refl refl (λ d. refl), get_plain (codes "shape") ms refl refl (λ d. refl))
    (rw (get_written (codes "data_type") ms refl refl, get_written (codes "chunk_grid") ms refl refl, get_written (codes "chunk_key_encoding") ms refl refl)
    (rw (get_written (codes "fill_value") ms refl refl, get_written (codes "codecs") ms refl refl, get_attributes ms)
    (fields_from-written (is_number 3 (get_member (codes "zarr_format") ms)) (is_text (codes "array") (get_member (codes "node_type") ms)) (option_and_then sizes_in (get_member (codes "shape") ms))
    (get_member (codes "data_type") ms) (get_member (codes "chunk_grid") ms) (get_member (codes "chunk_key_encoding") ms) (get_member (codes "fill_value") ms) (get_member (codes "codecs") ms)
    (attributes_in (get_member (codes "attributes") ms)) (Some (marked (given_attributes ms))) found
    (λ as' e. ap (λ x. Some (marked x)) (attributes_found (get_member (codes "attributes") ms) as' e)) is)))

-- ---- the checks after the fields

data_type_in-written : (d : Data) → data_type_in (written_point_in d) ≡ data_type_in d
data_type_in-written d = ap (option_and_then point_type) (extension_point-written d)

configuration_in-written : (d : Data) → configuration_in (written_point_in d) ≡ configuration_in d
configuration_in-written d = ap (option_and_then configuration_of_point) (extension_point-written d)

keys_in-written : (d : Data) → keys_in (written_point_in d) ≡ keys_in d
keys_in-written d = ap (option_and_then (λ point. result_ok (keys_made point))) (extension_point-written d)

abbrev Rest : Type 0
Rest = Chain → DataType → List Edges → Result Metadata DocumentError

-- up to the configuration of the grid
abbrev early : Bool → Option Chain → Option DataType → Option (List Edges) → Rest → Result Metadata DocumentError
early understood chain type configuration rest = do
  check understood AdditionalField
  chain ← ok_or chain Codecs
  type ← ok_or type DataTypes
  configuration ← ok_or configuration ChunkGrid
  rest chain type configuration

-- and from there
abbrev late : Bool → Option Grid → Option Cell → Bool → Option KeyEncoding → Option (Option (List (Option (List ℕ)))) → List ℕ → Members → Members → Chain → DataType → Result Metadata DocumentError
late same grid fill plain keys names shape attributes additional chain type = do
  check same Dimensionality
  grid ← ok_or grid ChunkGrid
  fill ← ok_or fill FillValue
  check plain StorageTransformers
  keys ← ok_or keys ChunkKeyEncoding
  names ← ok_or names DimensionNames
  Ok (record { document = record { shape = shape; elements = record { type = type; fill = fill }; grid = grid; keys = keys; chain = chain }; attributes = attributes; dimension_names = names; additional_fields = additional })

early-written : (understood : Bool) (chain : Option Chain) (type : Option DataType) (configuration : Option (List Edges)) (rest new : Rest) (m n : Metadata)
    → ((c : Chain) (t : DataType) (es : List Edges) → type ≡ Some t → rest c t es ≡ Ok m → new c t es ≡ Ok n)
    → early understood chain type configuration rest ≡ Ok m → early understood chain type configuration new ≡ Ok n
early-written false c t es rest new m n h is = absurd (cc)
early-written true None t es rest new m n h is = absurd (cc)
early-written true (Some c) None es rest new m n h is = absurd (cc)
early-written true (Some c) (Some t) None rest new m n h is = absurd (cc)
early-written true (Some c) (Some t) (Some es) rest new m n h is = h c t es refl is

late-written : (same : Bool) (grid : Option Grid) (fill : Option Cell) (plain : Bool) (keys : Option KeyEncoding) (names : Option (Option (List (Option (List ℕ))))) (shape : List ℕ) (attributes additional : Members)
    → (c : Chain) (t : DataType) (m : Metadata) (new_plain : Bool) → (plain ≡ true → new_plain ≡ true)
    → late same grid fill plain keys names shape attributes additional c t ≡ Ok m → late same grid fill new_plain keys names shape (marked attributes) additional c t ≡ Ok (with_mark m)
late-written false g f p k n shape as' xs c t m r h is = absurd (cc)
late-written true None f p k n shape as' xs c t m r h is = absurd (cc)
late-written true (Some g) None p k n shape as' xs c t m r h is = absurd (cc)
late-written true (Some g) (Some f) false k n shape as' xs c t m r h is = absurd (cc)
late-written true (Some g) (Some f) true None n shape as' xs c t m r h is = absurd (cc)
late-written true (Some g) (Some f) true (Some k) None shape as' xs c t m r h is = absurd (cc)
late-written true (Some g) (Some f) true (Some k) (Some n) shape as' xs c t m r h is =
    let e : record { document = record { shape = shape; elements = record { type = t; fill = f }; grid = g; keys = k; chain = c }; attributes = as'; dimension_names = n; additional_fields = xs } ≡ m = cc in
    rw (h refl) (ap (λ r. Ok (with_mark r)) e)

fill_at : (type : Option DataType) (t : DataType) (d : Data) → type ≡ Some t → fill_in t (written_fill type d) ≡ fill_in t d
fill_at type t d is = ap (λ o. fill_in t (written_fill o d)) is ∙ fill_in-written t d

-- what follows once the fields were found
abbrev after_fields : ReadsCodecs → Members → Option Data → Option Data → FieldsFound → Result Metadata DocumentError
after_fields reads additional transformers names found =
    early (not (must_understand_any additional)) (codecs_in reads found.codecs) (data_type_in found.data_type) (configuration_in found.chunk_grid)
    (λ chain type configuration. late (length configuration == length found.shape) (grid_in found.shape configuration) (fill_in type found.fill_value) (has_no_transformers transformers) (keys_in found.chunk_key_encoding)
    (dimension_names_in (length found.shape) names) found.shape found.attributes additional chain type)

after_fields-written : (reads : ReadsCodecs) (additional : Members) (transformers names new : Option Data) (found : FieldsFound) (m : Metadata) → ((n : ℕ) → dimension_names_in n new ≡ dimension_names_in n names)
    → after_fields reads additional transformers names found ≡ Ok m → after_fields reads additional None new (written_found found) ≡ Ok (with_mark m)
after_fields-written reads additional transformers names new found m same is =
    rw (codecs_in-written reads found.codecs, data_type_in-written found.data_type, configuration_in-written found.chunk_grid)
    (early-written (not (must_understand_any additional)) (codecs_in reads found.codecs) (data_type_in found.data_type) (configuration_in found.chunk_grid) _ _ m (with_mark m)
    (λ c t es e h.
    rw (keys_in-written found.chunk_key_encoding, same (length found.shape), fill_at (data_type_in found.data_type) t found.fill_value e)
    (late-written (length es == length found.shape) (grid_in found.shape es) (fill_in t found.fill_value) (has_no_transformers transformers) (keys_in found.chunk_key_encoding) (dimension_names_in (length found.shape) names)
    found.shape found.attributes additional c t m true (λ e. refl) h)) is)

-- ---- all that the members say

-- all that members say, once their fields were found
abbrev read_from : Result FieldsFound DocumentError → (FieldsFound → Result Metadata DocumentError) → Result Metadata DocumentError
read_from fields rest = do
  found ← fields
  rest found

read_from-changed : (change : FieldsFound → FieldsFound) (fields new : Result FieldsFound DocumentError) (rest new_rest : FieldsFound → Result Metadata DocumentError) (m n : Metadata)
    → ((found : FieldsFound) → fields ≡ Ok found → new ≡ Ok (change found)) → ((found : FieldsFound) → rest found ≡ Ok m → new_rest (change found) ≡ Ok n) → read_from fields rest ≡ Ok m → read_from new new_rest ≡ Ok n
read_from-changed change (Err e) new rest new_rest m n s t is = absurd (cc)
read_from-changed change (Ok found) new rest new_rest m n s t is = rw (s found refl) (t found is)

-- what is written for members of version 3 says what they say, with the mark
pub members-written : (reads : ReadsCodecs) (ms : Members) (m : Metadata) → read_members reads ms ≡ Ok m → read_members reads (written_members ms) ≡ Ok (with_mark m)
members-written reads ms m is =
    read_from-changed written_found (fields_of ms) (fields_of (written_members ms)) (after_fields reads (additional_in ms) (get_member (codes "storage_transformers") ms) (get_names ms))
    (after_fields reads (additional_in (written_members ms)) (get_member (codes "storage_transformers") (written_members ms)) (get_names (written_members ms))) m (with_mark m) (fields-written ms)
    (λ found h.
    rw (additional-written ms, get_left_out (codes "storage_transformers") ms refl refl)
    (after_fields-written reads (additional_in ms) (get_member (codes "storage_transformers") ms) (get_names ms) (get_names (written_members ms)) found m (names-written ms) h))
    is

-- ---- members with the mark among their attributes

abbrev with_marked : Members → Members
with_marked ms = put (codes "attributes") (marked_attributes ms) ms

abbrev marked_found : FieldsFound → FieldsFound
marked_found found = record found { attributes = marked found.attributes }

fields_from-marked : (version is_array : Bool) (shape : Option (List ℕ)) (type grid keys fill codecs : Option Data) (attributes new : Option Members) (found : FieldsFound)
    → ((ms : Members) → attributes ≡ Some ms → new ≡ Some (marked ms))
    → fields_from version is_array shape type grid keys fill codecs attributes ≡ Ok found → fields_from version is_array shape type grid keys fill codecs new ≡ Ok (marked_found found)
fields_from-marked false a s t g k v c m n f h is = absurd (cc)
fields_from-marked true false s t g k v c m n f h is = absurd (cc)
fields_from-marked true true None t g k v c m n f h is = absurd (cc)
fields_from-marked true true (Some s) None g k v c m n f h is = absurd (cc)
fields_from-marked true true (Some s) (Some t) None k v c m n f h is = absurd (cc)
fields_from-marked true true (Some s) (Some t) (Some g) None v c m n f h is = absurd (cc)
fields_from-marked true true (Some s) (Some t) (Some g) (Some k) None c m n f h is = absurd (cc)
fields_from-marked true true (Some s) (Some t) (Some g) (Some k) (Some v) None m n f h is = absurd (cc)
fields_from-marked true true (Some s) (Some t) (Some g) (Some k) (Some v) (Some c) None n f h is = absurd (cc)
fields_from-marked true true (Some s) (Some t) (Some g) (Some k) (Some v) (Some c) (Some m) n f h is =
    let e : record { shape = s; data_type = t; chunk_grid = g; chunk_key_encoding = k; fill_value = v; codecs = c; attributes = m } ≡ f = cc in
    rw (h m refl) (ap (λ r. Ok (marked_found r)) e)

get_beside : (k : List ℕ) (ms : Members) → bytes_eq k (codes "attributes") ≡ false → get_member k (with_marked ms) ≡ get_member k ms
get_beside k ms apart = get_put_other k (codes "attributes") (marked_attributes ms) ms apart

fields-marked : (ms : Members) (found : FieldsFound) → fields_of ms ≡ Ok found → fields_of (with_marked ms) ≡ Ok (marked_found found)
fields-marked ms found is =
    rw (get_beside (codes "zarr_format") ms refl, get_beside (codes "node_type") ms refl, get_beside (codes "shape") ms refl)
    (rw (get_beside (codes "data_type") ms refl, get_beside (codes "chunk_grid") ms refl, get_beside (codes "chunk_key_encoding") ms refl)
    (rw (get_beside (codes "fill_value") ms refl, get_beside (codes "codecs") ms refl, get_put_same (codes "attributes") (marked_attributes ms) ms)
    (fields_from-marked (is_number 3 (get_member (codes "zarr_format") ms)) (is_text (codes "array") (get_member (codes "node_type") ms)) (option_and_then sizes_in (get_member (codes "shape") ms))
    (get_member (codes "data_type") ms) (get_member (codes "chunk_grid") ms) (get_member (codes "chunk_key_encoding") ms) (get_member (codes "fill_value") ms) (get_member (codes "codecs") ms)
    (attributes_in (get_member (codes "attributes") ms)) (Some (marked (given_attributes ms))) found
    (λ as' e. ap (λ x. Some (marked x)) (attributes_found (get_member (codes "attributes") ms) as' e)) is)))

after_fields-marked : (reads : ReadsCodecs) (additional : Members) (transformers names : Option Data) (found : FieldsFound) (m : Metadata)
    → after_fields reads additional transformers names found ≡ Ok m → after_fields reads additional transformers names (marked_found found) ≡ Ok (with_mark m)
after_fields-marked reads additional transformers names found m is =
    early-written (not (must_understand_any additional)) (codecs_in reads found.codecs) (data_type_in found.data_type) (configuration_in found.chunk_grid) _ _ m (with_mark m)
    (λ c t es e h.
    late-written (length es == length found.shape) (grid_in found.shape es) (fill_in t found.fill_value) (has_no_transformers transformers) (keys_in found.chunk_key_encoding) (dimension_names_in (length found.shape) names)
    found.shape found.attributes additional c t m (has_no_transformers transformers) (λ p. p) h) is

-- members with the mark among their attributes say what they say, with the mark
pub members-marked : (reads : ReadsCodecs) (ms : Members) (m : Metadata) → read_members reads ms ≡ Ok m → read_members reads (put (codes "attributes") (marked_attributes ms) ms) ≡ Ok (with_mark m)
members-marked reads ms m is =
    read_from-changed marked_found (fields_of ms) (fields_of (with_marked ms)) (after_fields reads (additional_in ms) (get_member (codes "storage_transformers") ms) (get_names ms))
    (after_fields reads (additional_in (with_marked ms)) (get_member (codes "storage_transformers") (with_marked ms)) (get_names (with_marked ms))) m (with_mark m) (fields-marked ms)
    (λ found h.
    rw (additional_in-put (codes "attributes") (marked_attributes ms) ms refl, get_beside (codes "storage_transformers") ms refl, get_beside (codes "dimension_names") ms refl)
    (after_fields-marked reads (additional_in ms) (get_member (codes "storage_transformers") ms) (get_names ms) found m h))
    is
