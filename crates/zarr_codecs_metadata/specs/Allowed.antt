-- Where array to array codecs may stand (this project's profile).
use Rattle.std.specs.Prelude.{Bool, true, false, ◌&&◌, if◌then◌else◌, Option, Some, None}
use Rattle.zarr_codecs_meaning.specs.Chains.{Chain}
use Rattle.zarr_codecs_meaning.specs.Chains.Chain.{bytes, packbits, vlen, optional, after_array_codec, then_bytes, sharded}
use Rattle.zarr_codecs_meaning.specs.Fits.{takes_each_shape}

-- whether a chain itself has no array to array codec; the chains inside of its codecs may have some
abbrev pub has_no_array_codec : Chain → Bool
has_no_array_codec (bytes order) = true
has_no_array_codec (packbits padding first last) = true
has_no_array_codec (vlen index content width location) = true
has_no_array_codec (optional mask values) = true
has_no_array_codec (after_array_codec codec chain) = false
has_no_array_codec (then_bytes chain codec) = has_no_array_codec chain
has_no_array_codec (sharded subchunk inner index location) = true

-- whether array to array codecs stand only where they may: none in the data chain of `vlen` or `optional`, and none in any chain inside the data chain of `optional`
abbrev pub is_allowed : Chain → Bool
is_allowed (bytes order) = true
is_allowed (packbits padding first last) = true
is_allowed (vlen index content width location) = is_allowed index && (has_no_array_codec content && is_allowed content)
is_allowed (optional mask values) = is_allowed mask && takes_each_shape values
is_allowed (after_array_codec codec chain) = is_allowed chain
is_allowed (then_bytes chain codec) = is_allowed chain
is_allowed (sharded subchunk inner index location) = is_allowed inner && is_allowed index

-- a chain whose array to array codecs stand only where they may
abbrev pub allowed : Chain → Option Chain
allowed chain = if is_allowed chain then Some chain else None
