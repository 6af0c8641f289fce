-- Chunk key encodings.
use Rattle.std.specs.Prelude.{ℕ, List}
use Rattle.std.specs.String.{string_bytes}
use Rattle.zarr_grids_keys.specs.declared.default_encoding.DefaultChunkKeyEncoding.{DefaultChunkKeyEncoding}
use Rattle.zarr_grids_keys.specs.declared.default_suffix_encoding.DefaultSuffixChunkKeyEncoding.{DefaultSuffixChunkKeyEncoding}
use Rattle.zarr_grids_keys.specs.declared.encoding.ChunkKeyEncoding.{ChunkKeyEncoding}
use Rattle.zarr_grids_keys.specs.declared.encoding.ChunkKeyEncoding.TheVariants.{Default, V2, DefaultSuffix}
use Rattle.zarr_grids_keys.specs.declared.separator.ChunkKeySeparator.{ChunkKeySeparator}
use Rattle.zarr_grids_keys.specs.declared.v2_encoding.V2ChunkKeyEncoding.{V2ChunkKeyEncoding}
use Rattle.zarr_grids_keys.specs.Keys.{KeyEncoding, default, v2}
use Rattle.zarr_grids_keys.specs.Separators.{separator_byte, suffix_keys}

-- how the encoding `default` makes keys
abbrev pub default_keys : DefaultChunkKeyEncoding → KeyEncoding
default_keys encoding = default (separator_byte encoding.separator)

-- how the encoding `v2` makes keys
abbrev pub v2_keys : V2ChunkKeyEncoding → KeyEncoding
v2_keys encoding = v2 (separator_byte encoding.separator)

-- the separator of the encoding `default_suffix`
abbrev pub encoding_separator : DefaultSuffixChunkKeyEncoding → ChunkKeySeparator
encoding_separator encoding = encoding.separator

-- the suffix of the encoding `default_suffix`
abbrev pub encoding_suffix : DefaultSuffixChunkKeyEncoding → List ℕ
encoding_suffix encoding = string_bytes encoding.suffix

-- how the encoding `default_suffix` makes keys
abbrev pub suffixed_keys : DefaultSuffixChunkKeyEncoding → KeyEncoding
suffixed_keys encoding = suffix_keys (encoding_separator encoding) (encoding_suffix encoding)

-- how an encoding makes keys
abbrev pub keys_of : ChunkKeyEncoding → KeyEncoding
keys_of (Default encoding) = default_keys encoding
keys_of (V2 encoding) = v2_keys encoding
keys_of (DefaultSuffix encoding) = suffixed_keys encoding
