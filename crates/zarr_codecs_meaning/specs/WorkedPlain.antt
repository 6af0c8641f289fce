-- The definitions computed on small examples: the expected values were worked out by hand.
use Rattle.std.specs.Prelude.{◌≡◌, [], ◌∷◌, reverse, Some, None}
use Rattle.zarr_codecs_meaning.specs.Types.{bool, integer, custom, string, optional_of, uint8, signed, unsigned, of_bytes, absent, present, zero_filled}
use Rattle.zarr_codecs_meaning.specs.Chains.Chain.{bytes, packbits, vlen, optional, after_array_codec, then_bytes}
use Rattle.zarr_codecs_meaning.specs.Chains.Endianness.{little, big}
use Rattle.zarr_codecs_meaning.specs.Chains.Padding.{no_padding_byte, first_byte, last_byte}
use Rattle.zarr_codecs_meaning.specs.Chains.Location.{at_start, at_end}
use Rattle.zarr_codecs_meaning.specs.Chains.ArrayCodec.{transpose, reshape, squeeze}
use Rattle.zarr_codecs_meaning.specs.Chains.ShapeEntry.{size_entry, product_entry, left_over}
use Rattle.zarr_codecs_meaning.specs.Places.{encoded_shape}
use Rattle.zarr_codecs_meaning.specs.Encoding.{encoded, byte_cells}
use Rattle.zarr_codecs_meaning.specs.Keeping.{kept}
use Rattle.zarr_codecs_meaning.specs.Decoding.{decoded, part_decoded}
use Rattle.zarr_codecs_meaning.specs.WorkedValues.{two_numbers}

-- what codecs without shards make of cells, and what those bytes are decoded to
pub record PlainRows : Type 0 where
  -- an array without dimensions has one element
  pub minus_five : encoded (bytes (Some little)) (zero_filled (integer signed 16)) ([]) (of_bytes (251 ∷ 255 ∷ []) ∷ []) ≡ Some (251 ∷ 255 ∷ [])
  pub minus_five_back : decoded (bytes (Some little)) (zero_filled (integer signed 16)) ([]) (251 ∷ 255 ∷ []) ≡ Some (of_bytes (251 ∷ 255 ∷ []) ∷ [])
  pub big_endian : encoded (bytes (Some big)) (zero_filled (integer unsigned 16)) (2 ∷ []) (of_bytes (1 ∷ 0 ∷ []) ∷ of_bytes (2 ∷ 0 ∷ []) ∷ []) ≡ Some (0 ∷ 1 ∷ 0 ∷ 2 ∷ [])
  pub big_endian_back : decoded (bytes (Some big)) (zero_filled (integer unsigned 16)) (2 ∷ []) (0 ∷ 1 ∷ 0 ∷ 2 ∷ []) ≡ Some (of_bytes (1 ∷ 0 ∷ []) ∷ of_bytes (2 ∷ 0 ∷ []) ∷ [])
  pub each_component_big : encoded (bytes (Some big)) (zero_filled (custom two_numbers)) (1 ∷ []) (of_bytes (1 ∷ 2 ∷ 255 ∷ []) ∷ []) ≡ Some (2 ∷ 1 ∷ 255 ∷ [])
  pub each_component_big_back : decoded (bytes (Some big)) (zero_filled (custom two_numbers)) (1 ∷ []) (2 ∷ 1 ∷ 255 ∷ []) ≡ Some (of_bytes (1 ∷ 2 ∷ 255 ∷ []) ∷ [])
  pub transposed : encoded (after_array_codec (transpose (1 ∷ 0 ∷ [])) (bytes None)) (zero_filled uint8) (2 ∷ 3 ∷ []) (byte_cells (1 ∷ 2 ∷ 3 ∷ 4 ∷ 5 ∷ 6 ∷ [])) ≡ Some (1 ∷ 4 ∷ 2 ∷ 5 ∷ 3 ∷ 6 ∷ [])
  pub transposed_back : decoded (after_array_codec (transpose (1 ∷ 0 ∷ [])) (bytes None)) (zero_filled uint8) (2 ∷ 3 ∷ []) (1 ∷ 4 ∷ 2 ∷ 5 ∷ 3 ∷ 6 ∷ []) ≡ Some (byte_cells (1 ∷ 2 ∷ 3 ∷ 4 ∷ 5 ∷ 6 ∷ []))
  -- the middle column
  pub transposed_part : part_decoded (after_array_codec (transpose (1 ∷ 0 ∷ [])) (bytes None)) (zero_filled uint8) (2 ∷ 3 ∷ []) (1 ∷ 4 ∷ 2 ∷ 5 ∷ 3 ∷ 6 ∷ []) (1 ∷ 4 ∷ []) ≡ Some (byte_cells (2 ∷ 5 ∷ []))
  -- dimension 0 of the encoded array is dimension 2 of the decoded one
  pub rotated : encoded (after_array_codec (transpose (2 ∷ 0 ∷ 1 ∷ [])) (bytes None)) (zero_filled uint8) (1 ∷ 2 ∷ 3 ∷ []) (byte_cells (1 ∷ 2 ∷ 3 ∷ 4 ∷ 5 ∷ 6 ∷ [])) ≡ Some (1 ∷ 4 ∷ 2 ∷ 5 ∷ 3 ∷ 6 ∷ [])
  pub rotated_back : decoded (after_array_codec (transpose (2 ∷ 0 ∷ 1 ∷ [])) (bytes None)) (zero_filled uint8) (1 ∷ 2 ∷ 3 ∷ []) (1 ∷ 4 ∷ 2 ∷ 5 ∷ 3 ∷ 6 ∷ []) ≡ Some (byte_cells (1 ∷ 2 ∷ 3 ∷ 4 ∷ 5 ∷ 6 ∷ []))
  pub rotated_shape : encoded_shape (transpose (2 ∷ 0 ∷ 1 ∷ [])) (1 ∷ 2 ∷ 3 ∷ []) ≡ 3 ∷ 1 ∷ 2 ∷ []
  pub column_major : encoded (after_array_codec (transpose (1 ∷ 0 ∷ [])) (bytes (Some little))) (zero_filled (integer signed 16)) (2 ∷ 2 ∷ []) (of_bytes (1 ∷ 0 ∷ []) ∷ of_bytes (2 ∷ 0 ∷ []) ∷ of_bytes (3 ∷ 0 ∷ []) ∷ of_bytes (4 ∷ 0 ∷ []) ∷ []) ≡ Some (1 ∷ 0 ∷ 3 ∷ 0 ∷ 2 ∷ 0 ∷ 4 ∷ 0 ∷ [])
  pub column_major_back : decoded (after_array_codec (transpose (1 ∷ 0 ∷ [])) (bytes (Some little))) (zero_filled (integer signed 16)) (2 ∷ 2 ∷ []) (1 ∷ 0 ∷ 3 ∷ 0 ∷ 2 ∷ 0 ∷ 4 ∷ 0 ∷ []) ≡ Some (of_bytes (1 ∷ 0 ∷ []) ∷ of_bytes (2 ∷ 0 ∷ []) ∷ of_bytes (3 ∷ 0 ∷ []) ∷ of_bytes (4 ∷ 0 ∷ []) ∷ [])
  pub squeezed_shape : encoded_shape squeeze (1 ∷ 2 ∷ 1 ∷ 2 ∷ 3 ∷ []) ≡ 2 ∷ 2 ∷ 3 ∷ []
  pub squeezed_whole : encoded_shape squeeze (1 ∷ 1 ∷ []) ≡ 1 ∷ []
  pub squeezed_empty : encoded_shape squeeze [] ≡ 1 ∷ []
  pub reshaped_product : encoded_shape (reshape (product_entry (0 ∷ 2 ∷ []) ∷ size_entry 3 ∷ [])) (2 ∷ 3 ∷ 5 ∷ []) ≡ 10 ∷ 3 ∷ []
  pub reshaped_rest : encoded_shape (reshape (size_entry 3 ∷ left_over ∷ [])) (2 ∷ 6 ∷ []) ≡ 3 ∷ 4 ∷ []
  -- the order of the elements stays
  pub reshaped : encoded (after_array_codec (reshape (left_over ∷ [])) (bytes None)) (zero_filled uint8) (2 ∷ 2 ∷ []) (byte_cells (1 ∷ 2 ∷ 3 ∷ 4 ∷ [])) ≡ Some (1 ∷ 2 ∷ 3 ∷ 4 ∷ [])
  pub reshaped_back : decoded (after_array_codec (reshape (left_over ∷ [])) (bytes None)) (zero_filled uint8) (2 ∷ 2 ∷ []) (1 ∷ 2 ∷ 3 ∷ 4 ∷ []) ≡ Some (byte_cells (1 ∷ 2 ∷ 3 ∷ 4 ∷ []))
  pub reversed : encoded (then_bytes (bytes None) (record { encode = λ given. Some (reverse given); decode = λ given. Some (reverse given); representation = λ known. known })) (zero_filled uint8) (3 ∷ []) (byte_cells (1 ∷ 2 ∷ 3 ∷ [])) ≡ Some (3 ∷ 2 ∷ 1 ∷ [])
  pub reversed_back : decoded (then_bytes (bytes None) (record { encode = λ given. Some (reverse given); decode = λ given. Some (reverse given); representation = λ known. known })) (zero_filled uint8) (3 ∷ []) (3 ∷ 2 ∷ 1 ∷ []) ≡ Some (byte_cells (1 ∷ 2 ∷ 3 ∷ []))
  -- -8 and 7: the first element stands in the lowest bits
  pub four_bits : encoded (packbits no_padding_byte 0 None) (zero_filled (integer signed 4)) (2 ∷ []) (of_bytes (248 ∷ []) ∷ of_bytes (7 ∷ []) ∷ []) ≡ Some (120 ∷ [])
  pub four_bits_back : decoded (packbits no_padding_byte 0 None) (zero_filled (integer signed 4)) (2 ∷ []) (120 ∷ []) ≡ Some (of_bytes (248 ∷ []) ∷ of_bytes (7 ∷ []) ∷ [])
  pub three_bits : encoded (packbits no_padding_byte 0 None) (zero_filled bool) (3 ∷ []) (byte_cells (1 ∷ 0 ∷ 0 ∷ [])) ≡ Some (1 ∷ [])
  pub three_bits_back : decoded (packbits no_padding_byte 0 None) (zero_filled bool) (3 ∷ []) (1 ∷ []) ≡ Some (byte_cells (1 ∷ 0 ∷ 0 ∷ []))
  pub nine_bits : encoded (packbits no_padding_byte 0 None) (zero_filled bool) (9 ∷ []) (byte_cells (0 ∷ 1 ∷ 0 ∷ 0 ∷ 0 ∷ 0 ∷ 0 ∷ 0 ∷ 1 ∷ [])) ≡ Some (2 ∷ 1 ∷ [])
  pub nine_bits_back : decoded (packbits no_padding_byte 0 None) (zero_filled bool) (9 ∷ []) (2 ∷ 1 ∷ []) ≡ Some (byte_cells (0 ∷ 1 ∷ 0 ∷ 0 ∷ 0 ∷ 0 ∷ 0 ∷ 0 ∷ 1 ∷ []))
  pub padding_first : encoded (packbits first_byte 0 None) (zero_filled bool) (3 ∷ []) (byte_cells (1 ∷ 0 ∷ 0 ∷ [])) ≡ Some (5 ∷ 1 ∷ [])
  pub padding_first_back : decoded (packbits first_byte 0 None) (zero_filled bool) (3 ∷ []) (5 ∷ 1 ∷ []) ≡ Some (byte_cells (1 ∷ 0 ∷ 0 ∷ []))
  pub padding_last : encoded (packbits last_byte 0 None) (zero_filled bool) (3 ∷ []) (byte_cells (1 ∷ 0 ∷ 0 ∷ [])) ≡ Some (1 ∷ 5 ∷ [])
  pub padding_last_back : decoded (packbits last_byte 0 None) (zero_filled bool) (3 ∷ []) (1 ∷ 5 ∷ []) ≡ Some (byte_cells (1 ∷ 0 ∷ 0 ∷ []))
  pub padding_of_nothing : encoded (packbits last_byte 0 None) (zero_filled bool) (0 ∷ []) ([]) ≡ Some (0 ∷ [])
  pub padding_of_nothing_back : decoded (packbits last_byte 0 None) (zero_filled bool) (0 ∷ []) (0 ∷ []) ≡ Some ([])
  pub packed_components : encoded (packbits no_padding_byte 0 None) (zero_filled (custom two_numbers)) (1 ∷ []) (of_bytes (1 ∷ 2 ∷ 255 ∷ []) ∷ []) ≡ Some (1 ∷ 2 ∷ 15 ∷ [])
  pub packed_components_back : decoded (packbits no_padding_byte 0 None) (zero_filled (custom two_numbers)) (1 ∷ []) (1 ∷ 2 ∷ 15 ∷ []) ≡ Some (of_bytes (1 ∷ 2 ∷ 255 ∷ []) ∷ [])
  -- bits 1 and 2 of 11111011 are 1 and 0, of 00000101 0 and 1
  pub dropped_bits : encoded (packbits no_padding_byte 1 (Some 2)) (zero_filled uint8) (2 ∷ []) (byte_cells (251 ∷ 5 ∷ [])) ≡ Some (9 ∷ [])
  pub dropped_bits_back : decoded (packbits no_padding_byte 1 (Some 2)) (zero_filled uint8) (2 ∷ []) (9 ∷ []) ≡ Some (byte_cells (2 ∷ 4 ∷ []))
  pub dropped_bits_kept : kept (packbits no_padding_byte 1 (Some 2)) (zero_filled uint8) (2 ∷ []) (byte_cells (251 ∷ 5 ∷ [])) ≡ byte_cells (2 ∷ 4 ∷ [])
  -- the last kept bit is copied upwards
  pub sign_from_last_bit : kept (packbits no_padding_byte 0 (Some 3)) (zero_filled (integer signed 8)) (2 ∷ []) (byte_cells (15 ∷ 7 ∷ [])) ≡ byte_cells (255 ∷ 7 ∷ [])
  pub sign_from_last_bit_back : decoded (packbits no_padding_byte 0 (Some 3)) (zero_filled (integer signed 8)) (2 ∷ []) (127 ∷ []) ≡ Some (byte_cells (255 ∷ 7 ∷ []))
  pub all_kept : kept (after_array_codec (transpose (1 ∷ 0 ∷ [])) (packbits no_padding_byte 0 None)) (zero_filled (integer signed 4)) (1 ∷ 2 ∷ []) (of_bytes (248 ∷ []) ∷ of_bytes (7 ∷ []) ∷ []) ≡ of_bytes (248 ∷ []) ∷ of_bytes (7 ∷ []) ∷ []
  -- "a", "" and "bc"
  pub strings : encoded (vlen (bytes (Some little)) (bytes None) 32 at_start) (zero_filled string) (3 ∷ []) (of_bytes (97 ∷ []) ∷ of_bytes ([]) ∷ of_bytes (98 ∷ 99 ∷ []) ∷ []) ≡ Some (16 ∷ 0 ∷ 0 ∷ 0 ∷ 0 ∷ 0 ∷ 0 ∷ 0 ∷ 0 ∷ 0 ∷ 0 ∷ 0 ∷ 1 ∷ 0 ∷ 0 ∷ 0 ∷ 1 ∷ 0 ∷ 0 ∷ 0 ∷ 3 ∷ 0 ∷ 0 ∷ 0 ∷ 97 ∷ 98 ∷ 99 ∷ [])
  pub strings_back : decoded (vlen (bytes (Some little)) (bytes None) 32 at_start) (zero_filled string) (3 ∷ []) (16 ∷ 0 ∷ 0 ∷ 0 ∷ 0 ∷ 0 ∷ 0 ∷ 0 ∷ 0 ∷ 0 ∷ 0 ∷ 0 ∷ 1 ∷ 0 ∷ 0 ∷ 0 ∷ 1 ∷ 0 ∷ 0 ∷ 0 ∷ 3 ∷ 0 ∷ 0 ∷ 0 ∷ 97 ∷ 98 ∷ 99 ∷ []) ≡ Some (of_bytes (97 ∷ []) ∷ of_bytes ([]) ∷ of_bytes (98 ∷ 99 ∷ []) ∷ [])
  pub strings_index_at_end : encoded (vlen (bytes (Some little)) (bytes None) 32 at_end) (zero_filled string) (3 ∷ []) (of_bytes (97 ∷ []) ∷ of_bytes ([]) ∷ of_bytes (98 ∷ 99 ∷ []) ∷ []) ≡ Some (97 ∷ 98 ∷ 99 ∷ 0 ∷ 0 ∷ 0 ∷ 0 ∷ 1 ∷ 0 ∷ 0 ∷ 0 ∷ 1 ∷ 0 ∷ 0 ∷ 0 ∷ 3 ∷ 0 ∷ 0 ∷ 0 ∷ 16 ∷ 0 ∷ 0 ∷ 0 ∷ 0 ∷ 0 ∷ 0 ∷ 0 ∷ [])
  pub strings_index_at_end_back : decoded (vlen (bytes (Some little)) (bytes None) 32 at_end) (zero_filled string) (3 ∷ []) (97 ∷ 98 ∷ 99 ∷ 0 ∷ 0 ∷ 0 ∷ 0 ∷ 1 ∷ 0 ∷ 0 ∷ 0 ∷ 1 ∷ 0 ∷ 0 ∷ 0 ∷ 3 ∷ 0 ∷ 0 ∷ 0 ∷ 16 ∷ 0 ∷ 0 ∷ 0 ∷ 0 ∷ 0 ∷ 0 ∷ 0 ∷ []) ≡ Some (of_bytes (97 ∷ []) ∷ of_bytes ([]) ∷ of_bytes (98 ∷ 99 ∷ []) ∷ [])
  pub strings_wide_index : encoded (vlen (bytes (Some little)) (bytes None) 64 at_start) (zero_filled string) (1 ∷ []) (of_bytes (97 ∷ []) ∷ []) ≡ Some (16 ∷ 0 ∷ 0 ∷ 0 ∷ 0 ∷ 0 ∷ 0 ∷ 0 ∷ 0 ∷ 0 ∷ 0 ∷ 0 ∷ 0 ∷ 0 ∷ 0 ∷ 0 ∷ 1 ∷ 0 ∷ 0 ∷ 0 ∷ 0 ∷ 0 ∷ 0 ∷ 0 ∷ 97 ∷ [])
  pub strings_wide_index_back : decoded (vlen (bytes (Some little)) (bytes None) 64 at_start) (zero_filled string) (1 ∷ []) (16 ∷ 0 ∷ 0 ∷ 0 ∷ 0 ∷ 0 ∷ 0 ∷ 0 ∷ 0 ∷ 0 ∷ 0 ∷ 0 ∷ 0 ∷ 0 ∷ 0 ∷ 0 ∷ 1 ∷ 0 ∷ 0 ∷ 0 ∷ 0 ∷ 0 ∷ 0 ∷ 0 ∷ 97 ∷ []) ≡ Some (of_bytes (97 ∷ []) ∷ [])
  pub no_strings : encoded (vlen (bytes (Some little)) (bytes None) 32 at_start) (zero_filled string) (0 ∷ []) ([]) ≡ Some (4 ∷ 0 ∷ 0 ∷ 0 ∷ 0 ∷ 0 ∷ 0 ∷ 0 ∷ 0 ∷ 0 ∷ 0 ∷ 0 ∷ [])
  pub no_strings_back : decoded (vlen (bytes (Some little)) (bytes None) 32 at_start) (zero_filled string) (0 ∷ []) (4 ∷ 0 ∷ 0 ∷ 0 ∷ 0 ∷ 0 ∷ 0 ∷ 0 ∷ 0 ∷ 0 ∷ 0 ∷ 0 ∷ []) ≡ Some ([])
  pub empty_string : encoded (vlen (bytes (Some little)) (bytes None) 32 at_start) (zero_filled string) (1 ∷ []) (of_bytes ([]) ∷ []) ≡ Some (8 ∷ 0 ∷ 0 ∷ 0 ∷ 0 ∷ 0 ∷ 0 ∷ 0 ∷ 0 ∷ 0 ∷ 0 ∷ 0 ∷ 0 ∷ 0 ∷ 0 ∷ 0 ∷ [])
  pub empty_string_back : decoded (vlen (bytes (Some little)) (bytes None) 32 at_start) (zero_filled string) (1 ∷ []) (8 ∷ 0 ∷ 0 ∷ 0 ∷ 0 ∷ 0 ∷ 0 ∷ 0 ∷ 0 ∷ 0 ∷ 0 ∷ 0 ∷ 0 ∷ 0 ∷ 0 ∷ 0 ∷ []) ≡ Some (of_bytes ([]) ∷ [])
  -- an offset of 2 is too large for an index of one bit
  pub strings_too_long : encoded (vlen (bytes (Some little)) (bytes None) 1 at_start) (zero_filled string) (1 ∷ []) (of_bytes (97 ∷ 98 ∷ []) ∷ []) ≡ None
  pub present_and_absent : encoded (optional (packbits no_padding_byte 0 None) (bytes None)) (zero_filled (optional_of uint8)) (3 ∷ []) (present (of_bytes (5 ∷ [])) ∷ absent ∷ present (of_bytes (7 ∷ [])) ∷ []) ≡ Some (1 ∷ 0 ∷ 0 ∷ 0 ∷ 0 ∷ 0 ∷ 0 ∷ 0 ∷ 2 ∷ 0 ∷ 0 ∷ 0 ∷ 0 ∷ 0 ∷ 0 ∷ 0 ∷ 5 ∷ 5 ∷ 7 ∷ [])
  pub present_and_absent_back : decoded (optional (packbits no_padding_byte 0 None) (bytes None)) (zero_filled (optional_of uint8)) (3 ∷ []) (1 ∷ 0 ∷ 0 ∷ 0 ∷ 0 ∷ 0 ∷ 0 ∷ 0 ∷ 2 ∷ 0 ∷ 0 ∷ 0 ∷ 0 ∷ 0 ∷ 0 ∷ 0 ∷ 5 ∷ 5 ∷ 7 ∷ []) ≡ Some (present (of_bytes (5 ∷ [])) ∷ absent ∷ present (of_bytes (7 ∷ [])) ∷ [])
  pub only_absent : encoded (optional (packbits no_padding_byte 0 None) (bytes None)) (zero_filled (optional_of uint8)) (1 ∷ []) (absent ∷ []) ≡ Some (1 ∷ 0 ∷ 0 ∷ 0 ∷ 0 ∷ 0 ∷ 0 ∷ 0 ∷ 0 ∷ 0 ∷ 0 ∷ 0 ∷ 0 ∷ 0 ∷ 0 ∷ 0 ∷ 0 ∷ [])
  pub only_absent_back : decoded (optional (packbits no_padding_byte 0 None) (bytes None)) (zero_filled (optional_of uint8)) (1 ∷ []) (1 ∷ 0 ∷ 0 ∷ 0 ∷ 0 ∷ 0 ∷ 0 ∷ 0 ∷ 0 ∷ 0 ∷ 0 ∷ 0 ∷ 0 ∷ 0 ∷ 0 ∷ 0 ∷ 0 ∷ []) ≡ Some (absent ∷ [])
  pub no_options : encoded (optional (packbits no_padding_byte 0 None) (bytes None)) (zero_filled (optional_of uint8)) (0 ∷ []) ([]) ≡ Some (0 ∷ 0 ∷ 0 ∷ 0 ∷ 0 ∷ 0 ∷ 0 ∷ 0 ∷ 0 ∷ 0 ∷ 0 ∷ 0 ∷ 0 ∷ 0 ∷ 0 ∷ 0 ∷ [])
  pub no_options_back : decoded (optional (packbits no_padding_byte 0 None) (bytes None)) (zero_filled (optional_of uint8)) (0 ∷ []) (0 ∷ 0 ∷ 0 ∷ 0 ∷ 0 ∷ 0 ∷ 0 ∷ 0 ∷ 0 ∷ 0 ∷ 0 ∷ 0 ∷ 0 ∷ 0 ∷ 0 ∷ 0 ∷ []) ≡ Some ([])
  pub option_of_option : encoded (optional (packbits no_padding_byte 0 None) (optional (packbits no_padding_byte 0 None) (bytes None))) (zero_filled (optional_of (optional_of uint8))) (2 ∷ []) (present absent ∷ present (present (of_bytes (9 ∷ []))) ∷ []) ≡ Some (1 ∷ 0 ∷ 0 ∷ 0 ∷ 0 ∷ 0 ∷ 0 ∷ 0 ∷ 18 ∷ 0 ∷ 0 ∷ 0 ∷ 0 ∷ 0 ∷ 0 ∷ 0 ∷ 3 ∷ 1 ∷ 0 ∷ 0 ∷ 0 ∷ 0 ∷ 0 ∷ 0 ∷ 0 ∷ 1 ∷ 0 ∷ 0 ∷ 0 ∷ 0 ∷ 0 ∷ 0 ∷ 0 ∷ 2 ∷ 9 ∷ [])
  pub option_of_option_back : decoded (optional (packbits no_padding_byte 0 None) (optional (packbits no_padding_byte 0 None) (bytes None))) (zero_filled (optional_of (optional_of uint8))) (2 ∷ []) (1 ∷ 0 ∷ 0 ∷ 0 ∷ 0 ∷ 0 ∷ 0 ∷ 0 ∷ 18 ∷ 0 ∷ 0 ∷ 0 ∷ 0 ∷ 0 ∷ 0 ∷ 0 ∷ 3 ∷ 1 ∷ 0 ∷ 0 ∷ 0 ∷ 0 ∷ 0 ∷ 0 ∷ 0 ∷ 1 ∷ 0 ∷ 0 ∷ 0 ∷ 0 ∷ 0 ∷ 0 ∷ 0 ∷ 2 ∷ 9 ∷ []) ≡ Some (present absent ∷ present (present (of_bytes (9 ∷ []))) ∷ [])
  -- seven bits of each byte, and the lengths as they were
  pub strings_dropped : encoded (vlen (bytes (Some little)) (packbits no_padding_byte 1 None) 32 at_start) (zero_filled string) (2 ∷ []) (of_bytes (97 ∷ 98 ∷ []) ∷ of_bytes (99 ∷ []) ∷ []) ≡ Some (12 ∷ 0 ∷ 0 ∷ 0 ∷ 0 ∷ 0 ∷ 0 ∷ 0 ∷ 0 ∷ 0 ∷ 0 ∷ 0 ∷ 2 ∷ 0 ∷ 0 ∷ 0 ∷ 3 ∷ 0 ∷ 0 ∷ 0 ∷ 176 ∷ 88 ∷ 12 ∷ [])
  pub strings_dropped_back : decoded (vlen (bytes (Some little)) (packbits no_padding_byte 1 None) 32 at_start) (zero_filled string) (2 ∷ []) (12 ∷ 0 ∷ 0 ∷ 0 ∷ 0 ∷ 0 ∷ 0 ∷ 0 ∷ 0 ∷ 0 ∷ 0 ∷ 0 ∷ 2 ∷ 0 ∷ 0 ∷ 0 ∷ 3 ∷ 0 ∷ 0 ∷ 0 ∷ 176 ∷ 88 ∷ 12 ∷ []) ≡ Some (of_bytes (96 ∷ 98 ∷ []) ∷ of_bytes (98 ∷ []) ∷ [])
  pub strings_dropped_kept : kept (vlen (bytes (Some little)) (packbits no_padding_byte 1 None) 32 at_start) (zero_filled string) (2 ∷ []) (of_bytes (97 ∷ 98 ∷ []) ∷ of_bytes (99 ∷ []) ∷ []) ≡ of_bytes (96 ∷ 98 ∷ []) ∷ of_bytes (98 ∷ []) ∷ []
  -- an element stays present though none of its ones is kept
  pub options_dropped_back : decoded (optional (packbits no_padding_byte 0 None) (packbits no_padding_byte 4 None)) (zero_filled (optional_of uint8)) (3 ∷ []) (1 ∷ 0 ∷ 0 ∷ 0 ∷ 0 ∷ 0 ∷ 0 ∷ 0 ∷ 1 ∷ 0 ∷ 0 ∷ 0 ∷ 0 ∷ 0 ∷ 0 ∷ 0 ∷ 5 ∷ 5 ∷ []) ≡ Some (present (of_bytes (80 ∷ [])) ∷ absent ∷ present (of_bytes (0 ∷ [])) ∷ [])
  pub options_dropped_kept : kept (optional (packbits no_padding_byte 0 None) (packbits no_padding_byte 4 None)) (zero_filled (optional_of uint8)) (3 ∷ []) (present (of_bytes (87 ∷ [])) ∷ absent ∷ present (of_bytes (15 ∷ [])) ∷ []) ≡ present (of_bytes (80 ∷ [])) ∷ absent ∷ present (of_bytes (0 ∷ [])) ∷ []
  pub nothing : encoded (bytes None) (zero_filled uint8) (0 ∷ []) ([]) ≡ Some ([])
  pub nothing_back : decoded (bytes None) (zero_filled uint8) (0 ∷ []) ([]) ≡ Some ([])
  pub box_of_whole : part_decoded (bytes None) (zero_filled uint8) (4 ∷ 4 ∷ []) (0 ∷ 1 ∷ 2 ∷ 3 ∷ 4 ∷ 5 ∷ 6 ∷ 7 ∷ 8 ∷ 9 ∷ 10 ∷ 11 ∷ 12 ∷ 13 ∷ 14 ∷ 15 ∷ []) (4 ∷ 8 ∷ []) ≡ Some (byte_cells (4 ∷ 8 ∷ []))
