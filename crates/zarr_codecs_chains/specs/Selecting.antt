-- Which codecs read a value whole for a part of its array.
use Rattle.std.specs.Prelude.{Bool, true, false}
use Rattle.zarr_codecs_meaning.specs.Chains.{Chain}
use Rattle.zarr_codecs_meaning.specs.Chains.Chain.{bytes, packbits, vlen, optional, after_array_codec, then_bytes, sharded}

-- whether a chain is a codec of which each place is that of the whole array
abbrev pub reads_whole : Chain → Bool
reads_whole (bytes order) = false
reads_whole (packbits padding first last) = false
reads_whole (vlen index «data» width location) = true
reads_whole (optional mask values) = true
reads_whole (after_array_codec codec chain) = false
reads_whole (then_bytes chain codec) = false
reads_whole (sharded subchunk inner index location) = false
