-- The codecs of version 2: an order, filters and a compressor (Zarr storage specification version 2, "Arrays"; filters and compressors are the caller's codecs, this project's profile).
use Rattle.std.specs.Prelude.{ℕ, zero, suc, List, [], ◌∷◌, codes, Option, Some, None, option_map, option_and_then, unwrap_or}
use Rattle.serde_json.specs.Data.{Data, null, boolean, number, unsigned, string, array, object, Items, no_items, item, Members, no_members, member, put}
use Rattle.serde_json.specs.Find.{get_member, as_str, as_array, as_object}
use Rattle.serde_json.specs.Events.{items_len}
use Rattle.zarr_grids_metadata.specs.ExtensionPoints.{ExtensionPoint, named, configured, written_point}
use Rattle.zarr_array_v2.specs.Attributes.{without}
use Rattle.zarr_array_v2.specs.declared.fields.Order.{Order}
use Rattle.zarr_array_v2.specs.declared.fields.Order.TheVariants.{C, F}

-- an extension point whose configuration has one field
abbrev pub point : List ℕ → List ℕ → Data → Data
point name field d = written_point (configured name (put field d no_members))

-- ---- the order

-- the dimensions from the last to the first
abbrev pub falling : ℕ → Items
falling zero = no_items
falling (suc n) = item (number (unsigned n)) (falling n)

-- how many dimensions a shape has
abbrev pub dimensions_of : Data → ℕ
dimensions_of shape = unwrap_or (option_map items_len (as_array shape)) 0

-- the first codec: in the order F a transposition, and in the order C none
abbrev pub order_codecs : Order → ℕ → List Data
order_codecs C dimensions = []
order_codecs F dimensions = point (codes "transpose") (codes "order") (array (falling dimensions)) ∷ []

-- ---- numbers

-- `bytes` with a byte order, where there is one
abbrev pub bytes_codec : Option (List ℕ) → Data
bytes_codec None = string (codes "bytes")
bytes_codec (Some endian) = point (codes "bytes") (codes "endian") (string endian)

-- ---- filters and the compressor

-- a codec of this name, whose configuration has these members; without members it has none
abbrev pub codec_named : List ℕ → Members → ExtensionPoint
codec_named id no_members = named id
codec_named id (member name d ms) = configured id (member name d ms)

-- a filter or a compressor: `id` is its name, and the other members are its configuration
abbrev pub codec_of : Members → Option ExtensionPoint
codec_of ms = option_map (λ id. codec_named id (without (codes "id") ms)) (option_and_then as_str (get_member (codes "id") ms))

-- the codec that a value says; null, which is no codec, where it is no object or has no `id`
abbrev pub codec_in : Data → Data
codec_in d = unwrap_or (option_map written_point (option_and_then codec_of (as_object d))) null

-- the codec that each value says
abbrev pub codecs_in : Items → List Data
codecs_in no_items = []
codecs_in (item d ds) = codec_in d ∷ codecs_in ds

-- the filters: a list, or null for none; null, which is no codec, stands for what is neither
abbrev pub filters_in : Data → List Data
filters_in null = []
filters_in (boolean b) = null ∷ []
filters_in (number n) = null ∷ []
filters_in (string s) = null ∷ []
filters_in (array ds) = codecs_in ds
filters_in (object ms) = null ∷ []

-- the compressor: one codec, or null for none
abbrev pub compressor_in : Data → List Data
compressor_in null = []
compressor_in (boolean b) = codec_in (boolean b) ∷ []
compressor_in (number n) = codec_in (number n) ∷ []
compressor_in (string s) = codec_in (string s) ∷ []
compressor_in (array ds) = codec_in (array ds) ∷ []
compressor_in (object ms) = codec_in (object ms) ∷ []
