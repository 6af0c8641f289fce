-- The metadata of `packbits`, as it is read and written.
use Rattle.std.specs.Prelude.{ℕ, List, codes, bytes_eq, if◌then◌else◌, Option, Some, None}
use Rattle.serde_json.specs.Data.{Members, number, unsigned, string, no_members, put}
use Rattle.zarr_grids_metadata.specs.ExtensionPoints.{ExtensionPoint, configured, configuration_members}
use Rattle.zarr_codecs_meaning.specs.Chains.{Chain}
use Rattle.zarr_codecs_metadata.specs.PackBits.{packbits_of}
use Rattle.zarr_codecs_packbits.specs.declared.codec.PackBitsPaddingEncoding.{PackBitsPaddingEncoding}
use Rattle.zarr_codecs_packbits.specs.declared.codec.PackBitsPaddingEncoding.TheVariants as padding
use Rattle.zarr_codecs_packbits.specs.declared.codec.PackBitsCodec.{PackBitsCodec}

-- the codec that an extension point is, where its name is `packbits`
abbrev pub packbits_in : ExtensionPoint → Option Chain
packbits_in point = if bytes_eq point.name (codes "packbits") then packbits_of (configuration_members point.configuration) else None

-- the name of where the padding is told
abbrev pub padding_name : PackBitsPaddingEncoding → List ℕ
padding_name padding.None = codes "none"
padding_name padding.FirstByte = codes "first_byte"
padding_name padding.LastByte = codes "last_byte"

-- members with the number of a bit, where there is one
abbrev pub with_bit : List ℕ → Option ℕ → Members → Members
with_bit name None members = members
with_bit name (Some bit) members = put name (number (unsigned bit)) members

-- the members of the configuration
abbrev pub packbits_members : PackBitsCodec → Members
packbits_members codec = with_bit (codes "last_bit") codec.last_bit (with_bit (codes "first_bit") codec.first_bit (put (codes "padding_encoding") (string (padding_name codec.padding)) no_members))

-- the metadata of `packbits`
abbrev pub packbits_point : PackBitsCodec → ExtensionPoint
packbits_point codec = configured (codes "packbits") (packbits_members codec)
