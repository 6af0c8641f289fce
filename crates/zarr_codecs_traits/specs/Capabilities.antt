-- Which chains decode parts of an array from parts of its value (this project's profile); which encode them so, zarr_codecs_meaning says.
use Rattle.std.specs.Prelude.{ℕ, List, Option, None, Some, Bool, true, false}
use Rattle.zarr_codecs_meaning.specs.Chains.{Chain, Endianness, Padding}
use Rattle.zarr_codecs_meaning.specs.Chains.Chain.{bytes, packbits, vlen, optional, after_array_codec, then_bytes, sharded}
use Rattle.zarr_codecs_meaning.specs.Chains.Endianness.{little, big}
use Rattle.zarr_codecs_meaning.specs.Chains.Padding.{no_padding_byte, first_byte, last_byte}

-- whether components stand in a value in the order that their bytes have in memory
abbrev pub is_memory_order : Option Endianness → Bool
is_memory_order None = true
is_memory_order (Some little) = true
is_memory_order (Some big) = false

-- whether the value of elements of one size is their bytes as they stand in memory: the chain is `bytes` alone, and not big endian
abbrev pub encodes_as_is : Chain → Bool
encodes_as_is (bytes order) = is_memory_order order
encodes_as_is (packbits padding first last) = false
encodes_as_is (vlen index «data» width location) = false
encodes_as_is (optional mask values) = false
encodes_as_is (after_array_codec codec chain) = false
encodes_as_is (then_bytes chain codec) = false
encodes_as_is (sharded subchunk inner index location) = false

-- whether `packbits` tells no padding
abbrev pub is_unpadded : Padding → Bool
is_unpadded no_padding_byte = true
is_unpadded first_byte = false
is_unpadded last_byte = false

-- whether a chain decodes a part of an array from a part of its value: no bytes codec follows, and the array to bytes codec is `bytes`, a shard, or `packbits` that tells no padding
abbrev pub decodes_parts : Chain → Bool
decodes_parts (bytes order) = true
decodes_parts (packbits padding first last) = is_unpadded padding
decodes_parts (vlen index «data» width location) = false
decodes_parts (optional mask values) = false
decodes_parts (after_array_codec codec chain) = decodes_parts chain
decodes_parts (then_bytes chain codec) = false
decodes_parts (sharded subchunk inner index location) = true

-- the shape of the parts of an array that are decoded one by one: the subchunks of a shard that no array codec precedes, else the whole array
abbrev pub granularity : Chain → List ℕ → List ℕ
granularity (bytes order) shape = shape
granularity (packbits padding first last) shape = shape
granularity (vlen index «data» width location) shape = shape
granularity (optional mask values) shape = shape
granularity (after_array_codec codec chain) shape = shape
granularity (then_bytes chain codec) shape = granularity chain shape
granularity (sharded subchunk inner index location) shape = subchunk
