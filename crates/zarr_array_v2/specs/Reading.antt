-- What the readers of version 3 make of a converted document.
use Rattle.std.specs.Prelude.{◌≡◌, ℕ, List, [], ◌∷◌, ◌++◌, map, codes, Option, Some, None, option_map, option_and_then}
use Rattle.serde_json.specs.Data.{Data, null, boolean, number, string, array, object, Items, no_items, item, no_members, put}
use Rattle.serde_json.specs.Find.{as_object}
use Rattle.serde_json.specs.View.{items_of}
use Rattle.zarr_grids_metadata.specs.ExtensionPoints.{ExtensionPoint, named, configured}
use Rattle.zarr_grids_configurations.specs.Configurations.{configuration_in}
use Rattle.zarr_grids_configurations.specs.Grids.{fixed}
use Rattle.zarr_grids_configurations.specs.Numbers.{sizes_in, positive_sizes}
use Rattle.zarr_grids_keys.specs.EncodingMetadata.{separator_in, keys_in}
use Rattle.zarr_grids_keys.specs.Keys.{v2}
use Rattle.zarr_codecs_meaning.specs.Chains.Endianness.{little, big}
use Rattle.zarr_codecs_meaning.specs.Chains.Chain.{bytes}
use Rattle.zarr_codecs_meaning.specs.Types.{bool, integer, signed, unsigned}
use Rattle.zarr_codecs_metadata.specs.Chains.{ReadsCodecs, points_in, with_byte_codecs, chain_of}
use Rattle.zarr_codecs_types.specs.Metadata.{data_type_in}
use Rattle.zarr_array_v2.specs.Codecs.{falling, dimensions_of, codec_of}
use Rattle.zarr_array_v2.specs.Conversion.{endian_of, codecs_of, chunk_grid_of, chunk_key_encoding_of}
use Rattle.zarr_array_v2.specs.Dtypes.{dtype_in, data_type_of}
use Rattle.zarr_array_v2.specs.Fields.{Fields}
use Rattle.zarr_array_v2.specs.declared.fields.Order.{Order}
use Rattle.zarr_array_v2.specs.declared.fields.Order.TheVariants.{C, F}

-- ---- the grid and the keys

-- the chunk grid is `regular`, of the sizes that `chunks` lists
abbrev pub GridSays : Type 0
GridSays = (chunks : Data) → configuration_in (chunk_grid_of chunks) ≡ option_map (map fixed) (option_and_then positive_sizes (sizes_in chunks))

-- the keys are those of `v2`, with the separator that is given, or a dot
abbrev pub KeysSay : Type 0
KeysSay = (separator : Option Data) → keys_in (chunk_key_encoding_of separator) ≡ option_map v2 (separator_in 46 separator)

-- ---- the codecs

-- the codec of the order, as an extension point
abbrev pub order_points : Order → ℕ → List ExtensionPoint
order_points C dimensions = []
order_points F dimensions = configured (codes "transpose") (put (codes "order") (array (falling dimensions)) no_members) ∷ []

-- `bytes` with a byte order, where there is one, as an extension point
abbrev pub bytes_point : Option (List ℕ) → ExtensionPoint
bytes_point None = named (codes "bytes")
bytes_point (Some endian) = configured (codes "bytes") (put (codes "endian") (string endian) no_members)

-- the codec that a filter or a compressor is: an object with an `id`
abbrev pub codec_point : Data → Option ExtensionPoint
codec_point d = option_and_then codec_of (as_object d)

-- the codecs of a list, where each of its values is one
abbrev pub listed_points : Items → Option (List ExtensionPoint)
listed_points no_items = Some []
listed_points (item d ds) = option_and_then (λ point. option_map (λ points. point ∷ points) (listed_points ds)) (codec_point d)

-- the codecs of the filters: a list of codecs, or null for none
abbrev pub filter_points : Data → Option (List ExtensionPoint)
filter_points null = Some []
filter_points (boolean b) = None
filter_points (number n) = None
filter_points (string s) = None
filter_points (array ds) = listed_points ds
filter_points (object ms) = None

-- the codec of the compressor: one codec, or null for none
abbrev pub compressor_points : Data → Option (List ExtensionPoint)
compressor_points null = Some []
compressor_points (boolean b) = None
compressor_points (number n) = None
compressor_points (string s) = None
compressor_points (array ds) = None
compressor_points (object ms) = option_map (λ point. point ∷ []) (codec_of ms)

-- the codecs behind `bytes`: the filters, and then the compressor
abbrev pub later_points : Fields → Option (List ExtensionPoint)
later_points f = option_and_then (λ filters. option_map (λ compressor. filters ++ compressor) (compressor_points f.compressor)) (filter_points f.filters)

-- the codecs are that of the order, `bytes`, the filters and the compressor; there are none where a filter or the compressor is no codec
abbrev pub CodecsSay : Type 0
CodecsSay = (f : Fields) → points_in (items_of (codecs_of f))
    ≡ option_map (λ later. order_points f.order (dimensions_of f.shape) ++ bytes_point (endian_of (dtype_in f.dtype)) ∷ later) (later_points f)

-- the chain is `bytes`, and behind it the caller's codecs alone
pub record ChainSays (reads : ReadsCodecs) (later : List ExtensionPoint) : Type 0 where
  pub one_byte : chain_of reads (bytes_point None ∷ later) ≡ with_byte_codecs reads (bytes None) later
  pub little_first : chain_of reads (bytes_point (Some (codes "little")) ∷ later) ≡ with_byte_codecs reads (bytes (Some little)) later
  pub big_first : chain_of reads (bytes_point (Some (codes "big")) ∷ later) ≡ with_byte_codecs reads (bytes (Some big)) later

-- in the order C the chain has no array to array codec, whatever filters and compressor are called
abbrev pub ChainsSay : Type 0
ChainsSay = (reads : ReadsCodecs) (later : List ExtensionPoint) → ChainSays reads later

-- ---- the data types

-- a dtype that isn't known becomes no data type
abbrev pub RefusesDtypes : Type 0
RefusesDtypes = (d : Data) → dtype_in d ≡ None → data_type_in (data_type_of (dtype_in d)) ≡ None

-- the data types of the dtypes, by kind and count of bytes
pub record TypeRows : Type 0 where
  pub booleans : data_type_in (data_type_of (dtype_in (string (codes "|b1")))) ≡ Some bool
  pub signed_1 : data_type_in (data_type_of (dtype_in (string (codes "|i1")))) ≡ Some (integer signed 8)
  pub signed_2 : data_type_in (data_type_of (dtype_in (string (codes "<i2")))) ≡ Some (integer signed 16)
  pub signed_4 : data_type_in (data_type_of (dtype_in (string (codes ">i4")))) ≡ Some (integer signed 32)
  pub signed_8 : data_type_in (data_type_of (dtype_in (string (codes "<i8")))) ≡ Some (integer signed 64)
  pub unsigned_1 : data_type_in (data_type_of (dtype_in (string (codes ">u1")))) ≡ Some (integer unsigned 8)
  pub unsigned_2 : data_type_in (data_type_of (dtype_in (string (codes ">u2")))) ≡ Some (integer unsigned 16)
  pub unsigned_4 : data_type_in (data_type_of (dtype_in (string (codes "<u4")))) ≡ Some (integer unsigned 32)
  pub unsigned_8 : data_type_in (data_type_of (dtype_in (string (codes ">u8")))) ≡ Some (integer unsigned 64)
