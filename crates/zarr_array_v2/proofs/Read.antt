-- What the readers of version 3 make of a converted document.
use Rattle.std.proofs.Common.{◌≡◌, ℕ, List, [], ◌∷◌, ◌++◌, map, codes, Option, Some, None, option_map, option_and_then, unwrap_or, refl, sym, ap, ◌∙◌}
use Rattle.std.specs.Option.{ok_or}
use Rattle.std.specs.Result.{result_ok}
use Rattle.serde_json.specs.Data.{Data, null, boolean, number, string, array, object, Items, no_items, item, Members, no_members, member}
use Rattle.serde_json.specs.Find.{get_member, as_str}
use Rattle.serde_json.specs.View.{items_of}
use Rattle.zarr_grids_metadata.specs.declared.error.PluginCreateError.{PluginCreateError}
use Rattle.zarr_grids_metadata.specs.ExtensionPoints.{ExtensionPoint, extension_point, written_point}
use Rattle.zarr_grids_configurations.specs.Configurations.{configuration_in}
use Rattle.zarr_grids_configurations.specs.Grids.{fixed}
use Rattle.zarr_grids_configurations.specs.Numbers.{sizes_in, positive_sizes}
use Rattle.zarr_grids_keys.specs.EncodingMetadata.{separator_of, separator_in, keys_in}
use Rattle.zarr_grids_keys.specs.Keys.{v2}
use Rattle.zarr_codecs_metadata.specs.Chains.{ReadsCodecs, points_in}
use Rattle.zarr_codecs_types.specs.Metadata.{data_type_in}
use Rattle.zarr_array_v2.specs.Attributes.{without}
use Rattle.zarr_array_v2.specs.Codecs.{order_codecs, bytes_codec, dimensions_of, codec_named, codec_of, codec_in, codecs_in, filters_in, compressor_in}
use Rattle.zarr_array_v2.specs.Conversion.{endian_of, codecs_of, chunk_grid_of, chunk_key_encoding_of}
use Rattle.zarr_array_v2.specs.Dtypes.{Dtype, dtype_in, data_type_of}
use Rattle.zarr_array_v2.specs.Fields.{Fields}
use Rattle.zarr_array_v2.specs.Reading.{order_points, bytes_point, codec_point, listed_points, filter_points, compressor_points, later_points, ChainSays}
use Rattle.zarr_array_v2.specs.declared.fields.Order.{Order}
use Rattle.zarr_array_v2.specs.declared.fields.Order.TheVariants.{C, F}

-- ---- the grid and the keys

pub grid_says : (chunks : Data) → configuration_in (chunk_grid_of chunks) ≡ option_map (map fixed) (option_and_then positive_sizes (sizes_in chunks))
grid_says chunks = refl

ok_again : {A : Type 0} (o : Option A) (e : PluginCreateError) → result_ok (ok_or o e) ≡ o
ok_again None e = refl
ok_again (Some x) e = refl

pub keys_say : (separator : Option Data) → keys_in (chunk_key_encoding_of separator) ≡ option_map v2 (separator_in 46 separator)
keys_say None = refl
keys_say (Some d) = ok_again (option_map v2 (option_and_then separator_of (as_str d))) _

-- ---- the codecs

-- points before others, where there are any
abbrev followed : Option ExtensionPoint → Option (List ExtensionPoint) → Option (List ExtensionPoint)
followed first rest = option_and_then (λ point. option_map (λ points. point ∷ points) rest) first

abbrev chained : Option (List ExtensionPoint) → Option (List ExtensionPoint) → Option (List ExtensionPoint)
chained before after = option_and_then (λ first. option_map (λ last. first ++ last) after) before

chained_more : (first : Option ExtensionPoint) (rest after : Option (List ExtensionPoint)) → followed first (chained rest after) ≡ chained (followed first rest) after
chained_more None rest after = refl
chained_more (Some point) None after = refl
chained_more (Some point) (Some points) None = refl
chained_more (Some point) (Some points) (Some last) = refl

chained_none : (after : Option (List ExtensionPoint)) → chained (Some []) after ≡ after
chained_none None = refl
chained_none (Some last) = refl

named_read : (id : List ℕ) (ms : Members) → extension_point (written_point (codec_named id ms)) ≡ Some (codec_named id ms)
named_read id no_members = refl
named_read id (member k d ms) = refl

point_read_at : (id : Option (List ℕ)) (ms : Members) → extension_point (unwrap_or (option_map written_point (option_map (λ i. codec_named i ms) id)) null) ≡ option_map (λ i. codec_named i ms) id
point_read_at None ms = refl
point_read_at (Some id) ms = named_read id ms

codec_read : (d : Data) → extension_point (codec_in d) ≡ codec_point d
codec_read null = refl
codec_read (boolean b) = refl
codec_read (number n) = refl
codec_read (string s) = refl
codec_read (array ds) = refl
codec_read (object ms) = point_read_at (option_and_then as_str (get_member (codes "id") ms)) (without (codes "id") ms)

listed_read : (ds : Items) (after : List Data) → points_in (items_of (codecs_in ds ++ after)) ≡ chained (listed_points ds) (points_in (items_of after))
listed_read no_items after = sym (chained_none (points_in (items_of after)))
listed_read (item d ds) after =
    ap (λ first. followed first (points_in (items_of (codecs_in ds ++ after)))) (codec_read d) ∙ ap (followed (codec_point d)) (listed_read ds after)
    ∙ chained_more (codec_point d) (listed_points ds) (points_in (items_of after))

filters_read : (d : Data) (after : List Data) → points_in (items_of (filters_in d ++ after)) ≡ chained (filter_points d) (points_in (items_of after))
filters_read null after = sym (chained_none (points_in (items_of after)))
filters_read (boolean b) after = refl
filters_read (number n) after = refl
filters_read (string s) after = refl
filters_read (array ds) after = listed_read ds after
filters_read (object ms) after = refl

single : (first : Option ExtensionPoint) → followed first (Some []) ≡ option_map (λ point. point ∷ []) first
single None = refl
single (Some point) = refl

compressor_read : (d : Data) → points_in (items_of (compressor_in d)) ≡ compressor_points d
compressor_read null = refl
compressor_read (boolean b) = refl
compressor_read (number n) = refl
compressor_read (string s) = refl
compressor_read (array ds) = refl
compressor_read (object ms) = ap (λ first. followed first (Some [])) (codec_read (object ms)) ∙ single (codec_of ms)

bytes_read : (endian : Option (List ℕ)) (rest : List Data) → points_in (items_of (bytes_codec endian ∷ rest)) ≡ option_map (λ later. bytes_point endian ∷ later) (points_in (items_of rest))
bytes_read None rest = refl
bytes_read (Some endian) rest = refl

unchanged : (o : Option (List ExtensionPoint)) → o ≡ option_map (λ points. [] ++ points) o
unchanged None = refl
unchanged (Some points) = refl

order_read : (order : Order) (n : ℕ) (rest : List Data) → points_in (items_of (order_codecs order n ++ rest)) ≡ option_map (λ points. order_points order n ++ points) (points_in (items_of rest))
order_read C n rest = unchanged (points_in (items_of rest))
order_read F n rest = refl

twice : (first : List ExtensionPoint) (point : ExtensionPoint) (o : Option (List ExtensionPoint)) → option_map (λ points. first ++ points) (option_map (λ later. point ∷ later) o) ≡ option_map (λ later. first ++ point ∷ later) o
twice first point None = refl
twice first point (Some later) = refl

pub codecs_say : (f : Fields) → points_in (items_of (codecs_of f)) ≡ option_map (λ later. order_points f.order (dimensions_of f.shape) ++ bytes_point (endian_of (dtype_in f.dtype)) ∷ later) (later_points f)
codecs_say f =
    let n = dimensions_of f.shape in
    let endian = endian_of (dtype_in f.dtype) in
    let later = filters_read f.filters (compressor_in f.compressor) ∙ ap (chained (filter_points f.filters)) (compressor_read f.compressor) in
    order_read f.order n (bytes_codec endian ∷ (filters_in f.filters ++ compressor_in f.compressor))
    ∙ ap (option_map (λ points. order_points f.order n ++ points)) (bytes_read endian (filters_in f.filters ++ compressor_in f.compressor) ∙ ap (option_map (λ l. bytes_point endian ∷ l)) later)
    ∙ twice (order_points f.order n) (bytes_point endian) (later_points f)

pub chains_say : (reads : ReadsCodecs) (later : List ExtensionPoint) → ChainSays reads later
chains_say reads later = record { one_byte = refl; little_first = refl; big_first = refl }

-- ---- the data types

pub refuses : (d : Data) → dtype_in d ≡ None → data_type_in (data_type_of (dtype_in d)) ≡ None
refuses d is = ap (λ (t : Option Dtype). data_type_in (data_type_of t)) is
