-- What the codec of `src/` stands for.
use Rattle.std.specs.Prelude.{ℕ, List, Option, Some, None, option_map, codes}
use Rattle.serde_json.specs.Data.{string, no_members, put}
use Rattle.zarr_grids_metadata.specs.ExtensionPoints.{ExtensionPoint, named, configured}
use Rattle.zarr_codecs_meaning.specs.Chains as chains
use Rattle.zarr_codecs_meaning.specs.Chains.{Chain}
use Rattle.zarr_codecs_bytes.specs.declared.bytes.Endianness.{Endianness}
use Rattle.zarr_codecs_bytes.specs.declared.bytes.Endianness.TheVariants.{Little, Big}
use Rattle.zarr_codecs_bytes.specs.declared.bytes.BytesCodec.{BytesCodec}

-- the byte order
abbrev pub order_of : Endianness → chains.Endianness
order_of Little = chains.Endianness.little
order_of Big = chains.Endianness.big

-- the chain of `bytes` alone
abbrev pub bytes_chain : BytesCodec → Chain
bytes_chain codec = chains.Chain.bytes (option_map order_of codec.endian)

-- the name of a byte order
abbrev pub order_name : Endianness → List ℕ
order_name Little = codes "little"
order_name Big = codes "big"

-- the metadata of `bytes`
abbrev pub bytes_point : Option Endianness → ExtensionPoint
bytes_point None = named (codes "bytes")
bytes_point (Some endian) = configured (codes "bytes") (put (codes "endian") (string (order_name endian)) no_members)
