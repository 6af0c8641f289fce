-- What the codec of `src/` stands for.
use Rattle.std.specs.Prelude.{unwrap_or}
use Rattle.zarr_codecs_meaning.specs.Chains as chains
use Rattle.zarr_codecs_meaning.specs.Chains.{Chain}
use Rattle.zarr_codecs_packbits.specs.declared.codec.PackBitsPaddingEncoding.{PackBitsPaddingEncoding}
use Rattle.zarr_codecs_packbits.specs.declared.codec.PackBitsPaddingEncoding.TheVariants as padding
use Rattle.zarr_codecs_packbits.specs.declared.codec.PackBitsCodec.{PackBitsCodec}

-- where the padding is told
abbrev pub padding_of : PackBitsPaddingEncoding → chains.Padding
padding_of padding.None = chains.Padding.no_padding_byte
padding_of padding.FirstByte = chains.Padding.first_byte
padding_of padding.LastByte = chains.Padding.last_byte

-- the chain of `packbits` alone
abbrev pub packbits_chain : PackBitsCodec → Chain
packbits_chain codec = chains.Chain.packbits (padding_of codec.padding) (unwrap_or codec.first_bit 0) codec.last_bit
