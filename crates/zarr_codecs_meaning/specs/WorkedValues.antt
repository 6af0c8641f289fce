-- The definitions computed on small examples: the expected values were worked out by hand.
use Rattle.std.specs.Prelude.{◌≡◌, List, [], ◌∷◌, reverse, Some, None, true, false}
use Rattle.zarr_codecs_meaning.specs.Types.{bool, integer, custom, string, variable_bytes, optional_of, uint8, signed, unsigned, Component, of_bytes, absent, present, is_value, byte_width, is_fill}
use Rattle.zarr_codecs_meaning.specs.Chains.BytesRepresentation.{bounded_size, unbounded_size}
use Rattle.zarr_codecs_meaning.specs.Chains.Chain.{bytes, packbits, vlen, optional, after_array_codec, then_bytes, sharded}
use Rattle.zarr_codecs_meaning.specs.Chains.Endianness.{little}
use Rattle.zarr_codecs_meaning.specs.Chains.Padding.{no_padding_byte, last_byte}
use Rattle.zarr_codecs_meaning.specs.Chains.Location.{at_start, at_end}
use Rattle.zarr_codecs_meaning.specs.Chains.ArrayCodec.{transpose, reshape, squeeze}
use Rattle.zarr_codecs_meaning.specs.Chains.ShapeEntry.{size_entry, product_entry, left_over}
use Rattle.zarr_codecs_meaning.specs.Fits.{fits, representation_of, size_of, is_lossless}

-- a number of 16 bits, and one of four bits with a sign, in three bytes
abbrev pub two_numbers : List Component
two_numbers = record { width = 16; byte_count = 2; sign = unsigned } ∷ record { width = 4; byte_count = 1; sign = signed } ∷ []

-- which bytes are values of which types
pub record ValueRows : Type 0 where
  pub bool_false : is_value bool (of_bytes (0 ∷ [])) ≡ true
  pub bool_true : is_value bool (of_bytes (1 ∷ [])) ≡ true
  pub bool_two : is_value bool (of_bytes (2 ∷ [])) ≡ false
  pub bool_empty : is_value bool (of_bytes ([])) ≡ false
  pub int2_minus_two : is_value (integer signed 2) (of_bytes (254 ∷ [])) ≡ true
  pub int2_one : is_value (integer signed 2) (of_bytes (1 ∷ [])) ≡ true
  pub int2_two : is_value (integer signed 2) (of_bytes (2 ∷ [])) ≡ false
  pub int4_minus_eight : is_value (integer signed 4) (of_bytes (248 ∷ [])) ≡ true
  pub int4_eight : is_value (integer signed 4) (of_bytes (8 ∷ [])) ≡ false
  pub uint4_fifteen : is_value (integer unsigned 4) (of_bytes (15 ∷ [])) ≡ true
  pub uint4_sixteen : is_value (integer unsigned 4) (of_bytes (16 ∷ [])) ≡ false
  pub int16_minus_five : is_value (integer signed 16) (of_bytes (251 ∷ 255 ∷ [])) ≡ true
  pub int16_one_byte : is_value (integer signed 16) (of_bytes (251 ∷ [])) ≡ false
  pub uint64_last : is_value (integer unsigned 64) (of_bytes (255 ∷ 255 ∷ 255 ∷ 255 ∷ 255 ∷ 255 ∷ 255 ∷ 255 ∷ [])) ≡ true
  pub no_byte : is_value uint8 (of_bytes (256 ∷ [])) ≡ false
  pub two_numbers_minus_one : is_value (custom two_numbers) (of_bytes (1 ∷ 2 ∷ 255 ∷ [])) ≡ true
  -- the second number has four bits and a sign
  pub two_numbers_eight : is_value (custom two_numbers) (of_bytes (1 ∷ 2 ∷ 8 ∷ [])) ≡ false
  pub string_empty : is_value string (of_bytes ([])) ≡ true
  pub string_not_utf8 : is_value string (of_bytes (255 ∷ [])) ≡ true
  pub bytes_any : is_value variable_bytes (of_bytes (0 ∷ 255 ∷ [])) ≡ true
  pub optional_absent : is_value (optional_of uint8) absent ≡ true
  pub optional_present : is_value (optional_of uint8) (present (of_bytes (5 ∷ []))) ≡ true
  pub optional_present_two : is_value (optional_of bool) (present (of_bytes (2 ∷ []))) ≡ false
  pub optional_bare : is_value (optional_of uint8) (of_bytes (5 ∷ [])) ≡ false
  pub optional_twice : is_value (optional_of (optional_of uint8)) (present absent) ≡ true
  pub uint8_absent : is_value uint8 absent ≡ false
  pub width_of_int2 : byte_width (integer signed 2) ≡ Some 1
  pub width_of_int64 : byte_width (integer signed 64) ≡ Some 8
  pub width_of_custom : byte_width (custom two_numbers) ≡ Some 3
  pub width_of_string : byte_width string ≡ None
  pub absent_is_fill : is_fill absent (absent ∷ absent ∷ []) ≡ true
  pub present_is_not_fill : is_fill absent (absent ∷ present (of_bytes (0 ∷ [])) ∷ []) ≡ false
  pub none_is_fill : is_fill absent [] ≡ true

-- which arrays a chain fits, what it keeps, and how long what it writes is
pub record FitRows : Type 0 where
  pub bytes_of_uint8 : fits (bytes None) uint8 (3 ∷ []) ≡ true
  pub bytes_of_uint16_without_order : fits (bytes None) (integer unsigned 16) (3 ∷ []) ≡ false
  pub bytes_of_string : fits (bytes (Some little)) string (3 ∷ []) ≡ false
  pub bytes_of_optional : fits (bytes (Some little)) (optional_of uint8) (3 ∷ []) ≡ false
  pub first_bit_after_last : fits (packbits no_padding_byte 3 (Some 2)) uint8 (3 ∷ []) ≡ false
  pub last_bit_too_large : fits (packbits no_padding_byte 0 (Some 8)) uint8 (3 ∷ []) ≡ false
  pub last_bit_of_bool : fits (packbits no_padding_byte 0 (Some 0)) bool (3 ∷ []) ≡ true
  pub transpose_of_two : fits (after_array_codec (transpose (1 ∷ 0 ∷ [])) (bytes None)) uint8 (2 ∷ 3 ∷ []) ≡ true
  pub transpose_of_three : fits (after_array_codec (transpose (1 ∷ 0 ∷ [])) (bytes None)) uint8 (2 ∷ 3 ∷ 4 ∷ []) ≡ false
  pub transpose_repeats : fits (after_array_codec (transpose (0 ∷ 0 ∷ [])) (bytes None)) uint8 (2 ∷ 3 ∷ []) ≡ false
  pub reshape_divides : fits (after_array_codec (reshape (size_entry 3 ∷ left_over ∷ [])) (bytes None)) uint8 (2 ∷ 6 ∷ []) ≡ true
  pub reshape_divides_not : fits (after_array_codec (reshape (size_entry 5 ∷ left_over ∷ [])) (bytes None)) uint8 (2 ∷ 6 ∷ []) ≡ false
  pub reshape_other_product : fits (after_array_codec (reshape (size_entry 5 ∷ [])) (bytes None)) uint8 (6 ∷ []) ≡ false
  pub reshape_no_dimension : fits (after_array_codec (reshape (product_entry (1 ∷ []) ∷ [])) (bytes None)) uint8 (6 ∷ []) ≡ false
  pub squeeze_fits : fits (after_array_codec squeeze (bytes None)) uint8 (1 ∷ 1 ∷ []) ≡ true
  pub vlen_of_string : fits (vlen (bytes (Some little)) (bytes None) 32 at_start) string (3 ∷ []) ≡ true
  pub vlen_of_uint8 : fits (vlen (bytes (Some little)) (bytes None) 32 at_start) uint8 (3 ∷ []) ≡ false
  pub vlen_index_without_order : fits (vlen (bytes None) (bytes None) 32 at_start) string (3 ∷ []) ≡ false
  -- the index has one offset more than there are elements
  pub vlen_index_reshaped : fits (vlen (after_array_codec (reshape (size_entry 4 ∷ [])) (bytes (Some little))) (bytes None) 32 at_start) string (3 ∷ []) ≡ true
  pub vlen_data_reshaped : fits (vlen (bytes (Some little)) (after_array_codec squeeze (bytes None)) 32 at_start) string (3 ∷ []) ≡ false
  pub optional_of_uint8_fits : fits (optional (packbits no_padding_byte 0 None) (bytes None)) (optional_of uint8) (3 ∷ []) ≡ true
  pub optional_of_uint16_without_order : fits (optional (packbits no_padding_byte 0 None) (bytes None)) (optional_of (integer unsigned 16)) (3 ∷ []) ≡ false
  pub optional_over_uint8 : fits (optional (packbits no_padding_byte 0 None) (bytes None)) uint8 (3 ∷ []) ≡ false
  pub shard_divides : fits (sharded (2 ∷ 2 ∷ []) (bytes None) (bytes (Some little)) at_end) uint8 (4 ∷ 4 ∷ []) ≡ true
  -- a last subchunk that is cut short, of one element; one that is larger than its shard, of three
  pub shard_clipped : fits (sharded (2 ∷ []) (bytes None) (bytes (Some little)) at_end) uint8 (3 ∷ []) ≡ true
  pub shard_clipped_reshape : fits (sharded (2 ∷ []) (after_array_codec (reshape (size_entry 2 ∷ [])) (bytes None)) (bytes (Some little)) at_end) uint8 (3 ∷ []) ≡ false
  pub shard_smaller : fits (sharded (4 ∷ []) (after_array_codec (reshape (size_entry 3 ∷ [])) (bytes None)) (bytes (Some little)) at_end) uint8 (3 ∷ []) ≡ true
  pub shard_smaller_reshape : fits (sharded (4 ∷ []) (after_array_codec (reshape (size_entry 4 ∷ [])) (bytes None)) (bytes (Some little)) at_end) uint8 (3 ∷ []) ≡ false
  pub shard_dimensions : fits (sharded (2 ∷ 2 ∷ []) (bytes None) (bytes (Some little)) at_end) uint8 (4 ∷ []) ≡ false
  pub shard_edge_zero : fits (sharded (0 ∷ []) (bytes None) (bytes (Some little)) at_end) uint8 (4 ∷ []) ≡ false
  pub shard_of_optional : fits (sharded (2 ∷ []) (optional (packbits no_padding_byte 0 None) (bytes None)) (bytes (Some little)) at_end) (optional_of uint8) (4 ∷ []) ≡ false
  pub shard_inner : fits (sharded (2 ∷ []) (bytes (Some little)) (bytes (Some little)) at_end) string (4 ∷ []) ≡ false
  -- where there is no subchunk, the inner chain may be any
  pub shard_without_subchunks : fits (sharded (2 ∷ []) (bytes None) (bytes (Some little)) at_end) (integer unsigned 16) (0 ∷ []) ≡ true
  pub shard_without_subchunks_in_order : fits (sharded (2 ∷ []) (bytes (Some little)) (bytes (Some little)) at_end) (integer unsigned 16) (0 ∷ []) ≡ true
  pub shard_index_without_order : fits (sharded (2 ∷ []) (bytes None) (bytes None) at_end) uint8 (4 ∷ []) ≡ false
  pub shard_nested : fits (sharded (2 ∷ 2 ∷ []) (sharded (1 ∷ 2 ∷ []) (bytes None) (bytes (Some little)) at_end) (bytes (Some little)) at_end) uint8 (4 ∷ 4 ∷ []) ≡ true
  pub shard_index_without_size : fits (sharded (2 ∷ []) (bytes None) (then_bytes (bytes (Some little)) (record { encode = λ given. Some given; decode = λ given. Some given; representation = λ known. unbounded_size })) at_end) uint8 (4 ∷ []) ≡ false
  pub shard_of_reshaped : fits (sharded (2 ∷ []) (after_array_codec (reshape (size_entry 2 ∷ [])) (bytes None)) (bytes (Some little)) at_end) uint8 (4 ∷ []) ≡ true
  pub size_of_bytes : size_of (bytes (Some little)) (integer unsigned 16) (2 ∷ 3 ∷ []) ≡ Some 12
  pub size_of_packbits : size_of (packbits last_byte 0 None) bool (9 ∷ []) ≡ Some 3
  pub size_of_shard : size_of (sharded (2 ∷ 2 ∷ []) (bytes None) (bytes (Some little)) at_end) uint8 (4 ∷ 4 ∷ []) ≡ None
  pub size_of_strings : size_of (vlen (bytes (Some little)) (bytes None) 32 at_start) string (3 ∷ []) ≡ None
  -- what a codec on bytes tells of the size of what it is given
  pub size_of_reversed : size_of (then_bytes (bytes (Some little)) (record { encode = λ given. Some (reverse given); decode = λ given. Some (reverse given); representation = λ known. known })) (integer unsigned 16) (3 ∷ []) ≡ Some 6
  pub shard_index_reversed : fits (sharded (2 ∷ []) (bytes None) (then_bytes (bytes (Some little)) (record { encode = λ given. Some (reverse given); decode = λ given. Some (reverse given); representation = λ known. known })) at_end) uint8 (4 ∷ []) ≡ true
  -- two lengths, one byte of mask bits and three elements
  pub bound_of_options : representation_of (optional (packbits no_padding_byte 0 None) (bytes None)) (optional_of uint8) (3 ∷ []) ≡ bounded_size 20
  -- an index of 64 bytes and 16 elements
  pub bound_of_shard : representation_of (sharded (2 ∷ 2 ∷ []) (bytes None) (bytes (Some little)) at_end) uint8 (4 ∷ 4 ∷ []) ≡ bounded_size 80
  -- subchunks of 4, 2, 2 and 1 elements
  pub bound_of_clipped : representation_of (sharded (2 ∷ 2 ∷ []) (bytes None) (bytes (Some little)) at_end) uint8 (3 ∷ 3 ∷ []) ≡ bounded_size 73
  pub lossless_whole : is_lossless (packbits no_padding_byte 0 None) uint8 ≡ true
  pub lossless_last : is_lossless (packbits no_padding_byte 0 (Some 7)) uint8 ≡ true
  pub lossless_not_first : is_lossless (packbits no_padding_byte 1 None) uint8 ≡ false
  pub lossless_not_last : is_lossless (packbits no_padding_byte 0 (Some 6)) uint8 ≡ false
  pub lossless_index : is_lossless (sharded (2 ∷ []) (bytes None) (packbits no_padding_byte 0 (Some 31)) at_end) uint8 ≡ false
  pub lossless_in_optional : is_lossless (optional (packbits no_padding_byte 0 None) (packbits no_padding_byte 1 None)) (optional_of uint8) ≡ false
