-- Which chains can be encoded in part (this project's profile).
use Rattle.std.specs.Prelude.{Bool, true, false, ◌&&◌}
use Rattle.zarr_codecs_meaning.specs.Chains.{Chain}
use Rattle.zarr_codecs_meaning.specs.Chains.ArrayCodec.{transpose, reshape, squeeze}
use Rattle.zarr_codecs_meaning.specs.Chains.Chain.{bytes, packbits, vlen, optional, after_array_codec, then_bytes, sharded}
use Rattle.zarr_codecs_meaning.specs.Fits.{is_plain}

-- whether a chain can be encoded in part: it has no bytes codecs, and its array to bytes codec is `bytes`, or a shard without a `reshape` before it
abbrev pub encodes_in_part : Chain → Bool
encodes_in_part (bytes order) = true
encodes_in_part (packbits padding first last) = false
encodes_in_part (vlen index «data» width location) = false
encodes_in_part (optional mask values) = false
encodes_in_part (after_array_codec (transpose order) chain) = encodes_in_part chain
encodes_in_part (after_array_codec (reshape entries) chain) = is_plain chain && encodes_in_part chain
encodes_in_part (after_array_codec squeeze chain) = encodes_in_part chain
encodes_in_part (then_bytes chain codec) = false
encodes_in_part (sharded subchunk inner index location) = true
