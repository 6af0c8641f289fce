-- The definitions computed on small examples: the expected values were worked out by hand.
use Rattle.std.specs.Prelude.{◌≡◌, [], ◌∷◌, ◌++◌, length, replicate, Some, None, option_map}
use Rattle.zarr_codecs_meaning.specs.Types.{bool, integer, string, optional_of, uint8, signed, unsigned, of_bytes, absent, present, zero_filled}
use Rattle.zarr_codecs_meaning.specs.Chains.Chain.{bytes, packbits, vlen, optional, after_array_codec, then_bytes, sharded}
use Rattle.zarr_codecs_meaning.specs.Chains.Endianness.{little}
use Rattle.zarr_codecs_meaning.specs.Chains.Padding.{no_padding_byte, first_byte}
use Rattle.zarr_codecs_meaning.specs.Chains.Location.{at_start, at_end}
use Rattle.zarr_codecs_meaning.specs.Chains.ArrayCodec.{transpose}
use Rattle.zarr_codecs_meaning.specs.Encoding.{encoded, stored_chunk, byte_cells, number_cells}
use Rattle.zarr_codecs_meaning.specs.Keeping.{kept}
use Rattle.zarr_codecs_meaning.specs.Decoding.{decoded, part_decoded}
use Rattle.zarr_codecs_meaning.specs.Standing.{Stands, Tight, ChunkStands}

-- shards and their parts
pub record ShardRows : Type 0 where
  -- 68 bytes; of four subchunks the second alone is present
  pub one_of_four : encoded (sharded (2 ∷ 2 ∷ []) (bytes None) (bytes (Some little)) at_end) (zero_filled uint8) (4 ∷ 4 ∷ []) (byte_cells (0 ∷ 0 ∷ 5 ∷ 6 ∷ 0 ∷ 0 ∷ 7 ∷ 8 ∷ 0 ∷ 0 ∷ 0 ∷ 0 ∷ 0 ∷ 0 ∷ 0 ∷ 0 ∷ [])) ≡ Some ((5 ∷ 6 ∷ 7 ∷ 8 ∷ []) ++ (replicate 16 255) ++ (0 ∷ 0 ∷ 0 ∷ 0 ∷ 0 ∷ 0 ∷ 0 ∷ 0 ∷ 4 ∷ 0 ∷ 0 ∷ 0 ∷ 0 ∷ 0 ∷ 0 ∷ 0 ∷ []) ++ (replicate 32 255))
  pub one_of_four_back : decoded (sharded (2 ∷ 2 ∷ []) (bytes None) (bytes (Some little)) at_end) (zero_filled uint8) (4 ∷ 4 ∷ []) ((5 ∷ 6 ∷ 7 ∷ 8 ∷ []) ++ (replicate 16 255) ++ (0 ∷ 0 ∷ 0 ∷ 0 ∷ 0 ∷ 0 ∷ 0 ∷ 0 ∷ 4 ∷ 0 ∷ 0 ∷ 0 ∷ 0 ∷ 0 ∷ 0 ∷ 0 ∷ []) ++ (replicate 32 255)) ≡ Some (byte_cells (0 ∷ 0 ∷ 5 ∷ 6 ∷ 0 ∷ 0 ∷ 7 ∷ 8 ∷ 0 ∷ 0 ∷ 0 ∷ 0 ∷ 0 ∷ 0 ∷ 0 ∷ 0 ∷ []))
  -- offsets count from the shard's first byte
  pub index_first : encoded (sharded (2 ∷ 2 ∷ []) (bytes None) (bytes (Some little)) at_start) (zero_filled uint8) (4 ∷ 4 ∷ []) (byte_cells (0 ∷ 0 ∷ 5 ∷ 6 ∷ 0 ∷ 0 ∷ 7 ∷ 8 ∷ 0 ∷ 0 ∷ 0 ∷ 0 ∷ 0 ∷ 0 ∷ 0 ∷ 0 ∷ [])) ≡ Some ((replicate 16 255) ++ (64 ∷ 0 ∷ 0 ∷ 0 ∷ 0 ∷ 0 ∷ 0 ∷ 0 ∷ 4 ∷ 0 ∷ 0 ∷ 0 ∷ 0 ∷ 0 ∷ 0 ∷ 0 ∷ []) ++ (replicate 32 255) ++ (5 ∷ 6 ∷ 7 ∷ 8 ∷ []))
  pub index_first_back : decoded (sharded (2 ∷ 2 ∷ []) (bytes None) (bytes (Some little)) at_start) (zero_filled uint8) (4 ∷ 4 ∷ []) ((replicate 16 255) ++ (64 ∷ 0 ∷ 0 ∷ 0 ∷ 0 ∷ 0 ∷ 0 ∷ 0 ∷ 4 ∷ 0 ∷ 0 ∷ 0 ∷ 0 ∷ 0 ∷ 0 ∷ 0 ∷ []) ++ (replicate 32 255) ++ (5 ∷ 6 ∷ 7 ∷ 8 ∷ [])) ≡ Some (byte_cells (0 ∷ 0 ∷ 5 ∷ 6 ∷ 0 ∷ 0 ∷ 7 ∷ 8 ∷ 0 ∷ 0 ∷ 0 ∷ 0 ∷ 0 ∷ 0 ∷ 0 ∷ 0 ∷ []))
  pub two_of_three : encoded (sharded (1 ∷ []) (bytes None) (bytes (Some little)) at_end) (zero_filled uint8) (3 ∷ []) (byte_cells (7 ∷ 0 ∷ 9 ∷ [])) ≡ Some ((7 ∷ 9 ∷ []) ++ (0 ∷ 0 ∷ 0 ∷ 0 ∷ 0 ∷ 0 ∷ 0 ∷ 0 ∷ 1 ∷ 0 ∷ 0 ∷ 0 ∷ 0 ∷ 0 ∷ 0 ∷ 0 ∷ []) ++ (replicate 16 255) ++ (1 ∷ 0 ∷ 0 ∷ 0 ∷ 0 ∷ 0 ∷ 0 ∷ 0 ∷ 1 ∷ 0 ∷ 0 ∷ 0 ∷ 0 ∷ 0 ∷ 0 ∷ 0 ∷ []))
  pub two_of_three_back : decoded (sharded (1 ∷ []) (bytes None) (bytes (Some little)) at_end) (zero_filled uint8) (3 ∷ []) ((7 ∷ 9 ∷ []) ++ (0 ∷ 0 ∷ 0 ∷ 0 ∷ 0 ∷ 0 ∷ 0 ∷ 0 ∷ 1 ∷ 0 ∷ 0 ∷ 0 ∷ 0 ∷ 0 ∷ 0 ∷ 0 ∷ []) ++ (replicate 16 255) ++ (1 ∷ 0 ∷ 0 ∷ 0 ∷ 0 ∷ 0 ∷ 0 ∷ 0 ∷ 1 ∷ 0 ∷ 0 ∷ 0 ∷ 0 ∷ 0 ∷ 0 ∷ 0 ∷ [])) ≡ Some (byte_cells (7 ∷ 0 ∷ 9 ∷ []))
  -- subchunks row-major
  pub row_major : encoded (sharded (2 ∷ 2 ∷ []) (bytes None) (bytes (Some little)) at_end) (zero_filled uint8) (4 ∷ 4 ∷ []) (byte_cells (0 ∷ 1 ∷ 2 ∷ 3 ∷ 4 ∷ 5 ∷ 6 ∷ 7 ∷ 8 ∷ 9 ∷ 10 ∷ 11 ∷ 12 ∷ 13 ∷ 14 ∷ 15 ∷ [])) ≡ Some ((0 ∷ 1 ∷ 4 ∷ 5 ∷ 2 ∷ 3 ∷ 6 ∷ 7 ∷ 8 ∷ 9 ∷ 12 ∷ 13 ∷ 10 ∷ 11 ∷ 14 ∷ 15 ∷ []) ++ (0 ∷ 0 ∷ 0 ∷ 0 ∷ 0 ∷ 0 ∷ 0 ∷ 0 ∷ 4 ∷ 0 ∷ 0 ∷ 0 ∷ 0 ∷ 0 ∷ 0 ∷ 0 ∷ []) ++ (4 ∷ 0 ∷ 0 ∷ 0 ∷ 0 ∷ 0 ∷ 0 ∷ 0 ∷ 4 ∷ 0 ∷ 0 ∷ 0 ∷ 0 ∷ 0 ∷ 0 ∷ 0 ∷ []) ++ (8 ∷ 0 ∷ 0 ∷ 0 ∷ 0 ∷ 0 ∷ 0 ∷ 0 ∷ 4 ∷ 0 ∷ 0 ∷ 0 ∷ 0 ∷ 0 ∷ 0 ∷ 0 ∷ []) ++ (12 ∷ 0 ∷ 0 ∷ 0 ∷ 0 ∷ 0 ∷ 0 ∷ 0 ∷ 4 ∷ 0 ∷ 0 ∷ 0 ∷ 0 ∷ 0 ∷ 0 ∷ 0 ∷ []))
  pub sixteen_bits : option_map length (encoded (sharded (2 ∷ 2 ∷ []) (bytes (Some little)) (bytes (Some little)) at_start) (zero_filled (integer unsigned 16)) (4 ∷ 4 ∷ []) (number_cells 16 (0 ∷ 1 ∷ 2 ∷ 3 ∷ 4 ∷ 5 ∷ 6 ∷ 7 ∷ 8 ∷ 9 ∷ 10 ∷ 11 ∷ 12 ∷ 13 ∷ 14 ∷ 15 ∷ []))) ≡ Some 96
  -- the first subchunk is a shard of 34 bytes
  pub nested : encoded (sharded (2 ∷ 2 ∷ []) (sharded (1 ∷ 2 ∷ []) (bytes None) (bytes (Some little)) at_end) (bytes (Some little)) at_end) (zero_filled uint8) (4 ∷ 4 ∷ []) (byte_cells (1 ∷ 2 ∷ 0 ∷ 0 ∷ 0 ∷ 0 ∷ 0 ∷ 0 ∷ 0 ∷ 0 ∷ 0 ∷ 0 ∷ 0 ∷ 0 ∷ 0 ∷ 0 ∷ [])) ≡ Some ((1 ∷ 2 ∷ []) ++ (0 ∷ 0 ∷ 0 ∷ 0 ∷ 0 ∷ 0 ∷ 0 ∷ 0 ∷ 2 ∷ 0 ∷ 0 ∷ 0 ∷ 0 ∷ 0 ∷ 0 ∷ 0 ∷ []) ++ (replicate 16 255) ++ (0 ∷ 0 ∷ 0 ∷ 0 ∷ 0 ∷ 0 ∷ 0 ∷ 0 ∷ 34 ∷ 0 ∷ 0 ∷ 0 ∷ 0 ∷ 0 ∷ 0 ∷ 0 ∷ []) ++ (replicate 48 255))
  pub nested_back : decoded (sharded (2 ∷ 2 ∷ []) (sharded (1 ∷ 2 ∷ []) (bytes None) (bytes (Some little)) at_end) (bytes (Some little)) at_end) (zero_filled uint8) (4 ∷ 4 ∷ []) ((1 ∷ 2 ∷ []) ++ (0 ∷ 0 ∷ 0 ∷ 0 ∷ 0 ∷ 0 ∷ 0 ∷ 0 ∷ 2 ∷ 0 ∷ 0 ∷ 0 ∷ 0 ∷ 0 ∷ 0 ∷ 0 ∷ []) ++ (replicate 16 255) ++ (0 ∷ 0 ∷ 0 ∷ 0 ∷ 0 ∷ 0 ∷ 0 ∷ 0 ∷ 34 ∷ 0 ∷ 0 ∷ 0 ∷ 0 ∷ 0 ∷ 0 ∷ 0 ∷ []) ++ (replicate 48 255)) ≡ Some (byte_cells (1 ∷ 2 ∷ 0 ∷ 0 ∷ 0 ∷ 0 ∷ 0 ∷ 0 ∷ 0 ∷ 0 ∷ 0 ∷ 0 ∷ 0 ∷ 0 ∷ 0 ∷ 0 ∷ []))
  pub nested_part : part_decoded (sharded (2 ∷ 2 ∷ []) (sharded (1 ∷ 2 ∷ []) (bytes None) (bytes (Some little)) at_end) (bytes (Some little)) at_end) (zero_filled uint8) (4 ∷ 4 ∷ []) ((1 ∷ 2 ∷ []) ++ (0 ∷ 0 ∷ 0 ∷ 0 ∷ 0 ∷ 0 ∷ 0 ∷ 0 ∷ 2 ∷ 0 ∷ 0 ∷ 0 ∷ 0 ∷ 0 ∷ 0 ∷ 0 ∷ []) ++ (replicate 16 255) ++ (0 ∷ 0 ∷ 0 ∷ 0 ∷ 0 ∷ 0 ∷ 0 ∷ 0 ∷ 34 ∷ 0 ∷ 0 ∷ 0 ∷ 0 ∷ 0 ∷ 0 ∷ 0 ∷ []) ++ (replicate 48 255)) (1 ∷ 4 ∷ 15 ∷ []) ≡ Some (byte_cells (2 ∷ 0 ∷ 0 ∷ []))
  -- a shard of fill values alone is an index of absent pairs
  pub all_fill : encoded (sharded (2 ∷ 2 ∷ []) (bytes None) (bytes (Some little)) at_end) (zero_filled uint8) (4 ∷ 4 ∷ []) (replicate 16 (of_bytes (0 ∷ []))) ≡ Some (replicate 64 255)
  pub all_fill_back : decoded (sharded (2 ∷ 2 ∷ []) (bytes None) (bytes (Some little)) at_end) (zero_filled uint8) (4 ∷ 4 ∷ []) (replicate 64 255) ≡ Some (replicate 16 (of_bytes (0 ∷ [])))
  pub all_fill_unstored : stored_chunk (sharded (2 ∷ 2 ∷ []) (bytes None) (bytes (Some little)) at_end) (zero_filled uint8) (4 ∷ 4 ∷ []) (replicate 16 (of_bytes (0 ∷ []))) ≡ Some None
  pub stored : stored_chunk (bytes None) (zero_filled uint8) (2 ∷ []) (byte_cells (0 ∷ 1 ∷ [])) ≡ Some (Some (0 ∷ 1 ∷ []))
  pub other_fill : encoded (sharded (1 ∷ []) (bytes None) (bytes (Some little)) at_end) (record { type = uint8; fill = of_bytes (7 ∷ []) }) (2 ∷ []) (byte_cells (7 ∷ 0 ∷ [])) ≡ Some ((0 ∷ []) ++ (replicate 16 255) ++ (0 ∷ 0 ∷ 0 ∷ 0 ∷ 0 ∷ 0 ∷ 0 ∷ 0 ∷ 1 ∷ 0 ∷ 0 ∷ 0 ∷ 0 ∷ 0 ∷ 0 ∷ 0 ∷ []))
  pub other_fill_back : decoded (sharded (1 ∷ []) (bytes None) (bytes (Some little)) at_end) (record { type = uint8; fill = of_bytes (7 ∷ []) }) (2 ∷ []) ((0 ∷ []) ++ (replicate 16 255) ++ (0 ∷ 0 ∷ 0 ∷ 0 ∷ 0 ∷ 0 ∷ 0 ∷ 0 ∷ 1 ∷ 0 ∷ 0 ∷ 0 ∷ 0 ∷ 0 ∷ 0 ∷ 0 ∷ [])) ≡ Some (byte_cells (7 ∷ 0 ∷ []))
  pub one_subchunk : encoded (sharded (2 ∷ []) (bytes None) (bytes (Some little)) at_end) (zero_filled uint8) (2 ∷ []) (byte_cells (1 ∷ 2 ∷ [])) ≡ Some ((1 ∷ 2 ∷ []) ++ (0 ∷ 0 ∷ 0 ∷ 0 ∷ 0 ∷ 0 ∷ 0 ∷ 0 ∷ 2 ∷ 0 ∷ 0 ∷ 0 ∷ 0 ∷ 0 ∷ 0 ∷ 0 ∷ []))
  pub one_subchunk_back : decoded (sharded (2 ∷ []) (bytes None) (bytes (Some little)) at_end) (zero_filled uint8) (2 ∷ []) ((1 ∷ 2 ∷ []) ++ (0 ∷ 0 ∷ 0 ∷ 0 ∷ 0 ∷ 0 ∷ 0 ∷ 0 ∷ 2 ∷ 0 ∷ 0 ∷ 0 ∷ 0 ∷ 0 ∷ 0 ∷ 0 ∷ [])) ≡ Some (byte_cells (1 ∷ 2 ∷ []))
  pub no_dimensions : encoded (sharded ([]) (bytes None) (bytes (Some little)) at_end) (zero_filled uint8) ([]) (byte_cells (5 ∷ [])) ≡ Some ((5 ∷ []) ++ (0 ∷ 0 ∷ 0 ∷ 0 ∷ 0 ∷ 0 ∷ 0 ∷ 0 ∷ 1 ∷ 0 ∷ 0 ∷ 0 ∷ 0 ∷ 0 ∷ 0 ∷ 0 ∷ []))
  pub no_dimensions_back : decoded (sharded ([]) (bytes None) (bytes (Some little)) at_end) (zero_filled uint8) ([]) ((5 ∷ []) ++ (0 ∷ 0 ∷ 0 ∷ 0 ∷ 0 ∷ 0 ∷ 0 ∷ 0 ∷ 1 ∷ 0 ∷ 0 ∷ 0 ∷ 0 ∷ 0 ∷ 0 ∷ 0 ∷ [])) ≡ Some (byte_cells (5 ∷ []))
  pub no_extent : encoded (sharded (2 ∷ []) (bytes None) (bytes (Some little)) at_end) (zero_filled uint8) (0 ∷ []) ([]) ≡ Some ([])
  pub no_extent_back : decoded (sharded (2 ∷ []) (bytes None) (bytes (Some little)) at_end) (zero_filled uint8) (0 ∷ []) ([]) ≡ Some ([])
  -- the last subchunk is clipped to the shard
  pub clipped : encoded (sharded (2 ∷ []) (bytes None) (bytes (Some little)) at_end) (zero_filled uint8) (3 ∷ []) (byte_cells (5 ∷ 6 ∷ 7 ∷ [])) ≡ Some ((5 ∷ 6 ∷ 7 ∷ []) ++ (0 ∷ 0 ∷ 0 ∷ 0 ∷ 0 ∷ 0 ∷ 0 ∷ 0 ∷ 2 ∷ 0 ∷ 0 ∷ 0 ∷ 0 ∷ 0 ∷ 0 ∷ 0 ∷ []) ++ (2 ∷ 0 ∷ 0 ∷ 0 ∷ 0 ∷ 0 ∷ 0 ∷ 0 ∷ 1 ∷ 0 ∷ 0 ∷ 0 ∷ 0 ∷ 0 ∷ 0 ∷ 0 ∷ []))
  pub clipped_back : decoded (sharded (2 ∷ []) (bytes None) (bytes (Some little)) at_end) (zero_filled uint8) (3 ∷ []) ((5 ∷ 6 ∷ 7 ∷ []) ++ (0 ∷ 0 ∷ 0 ∷ 0 ∷ 0 ∷ 0 ∷ 0 ∷ 0 ∷ 2 ∷ 0 ∷ 0 ∷ 0 ∷ 0 ∷ 0 ∷ 0 ∷ 0 ∷ []) ++ (2 ∷ 0 ∷ 0 ∷ 0 ∷ 0 ∷ 0 ∷ 0 ∷ 0 ∷ 1 ∷ 0 ∷ 0 ∷ 0 ∷ 0 ∷ 0 ∷ 0 ∷ 0 ∷ [])) ≡ Some (byte_cells (5 ∷ 6 ∷ 7 ∷ []))
  pub clipped_twice : encoded (sharded (2 ∷ 2 ∷ []) (bytes None) (bytes (Some little)) at_end) (zero_filled uint8) (3 ∷ 3 ∷ []) (byte_cells (1 ∷ 2 ∷ 3 ∷ 4 ∷ 5 ∷ 6 ∷ 7 ∷ 8 ∷ 9 ∷ [])) ≡ Some ((1 ∷ 2 ∷ 4 ∷ 5 ∷ 3 ∷ 6 ∷ 7 ∷ 8 ∷ 9 ∷ []) ++ (0 ∷ 0 ∷ 0 ∷ 0 ∷ 0 ∷ 0 ∷ 0 ∷ 0 ∷ 4 ∷ 0 ∷ 0 ∷ 0 ∷ 0 ∷ 0 ∷ 0 ∷ 0 ∷ []) ++ (4 ∷ 0 ∷ 0 ∷ 0 ∷ 0 ∷ 0 ∷ 0 ∷ 0 ∷ 2 ∷ 0 ∷ 0 ∷ 0 ∷ 0 ∷ 0 ∷ 0 ∷ 0 ∷ []) ++ (6 ∷ 0 ∷ 0 ∷ 0 ∷ 0 ∷ 0 ∷ 0 ∷ 0 ∷ 2 ∷ 0 ∷ 0 ∷ 0 ∷ 0 ∷ 0 ∷ 0 ∷ 0 ∷ []) ++ (8 ∷ 0 ∷ 0 ∷ 0 ∷ 0 ∷ 0 ∷ 0 ∷ 0 ∷ 1 ∷ 0 ∷ 0 ∷ 0 ∷ 0 ∷ 0 ∷ 0 ∷ 0 ∷ []))
  pub clipped_twice_back : decoded (sharded (2 ∷ 2 ∷ []) (bytes None) (bytes (Some little)) at_end) (zero_filled uint8) (3 ∷ 3 ∷ []) ((1 ∷ 2 ∷ 4 ∷ 5 ∷ 3 ∷ 6 ∷ 7 ∷ 8 ∷ 9 ∷ []) ++ (0 ∷ 0 ∷ 0 ∷ 0 ∷ 0 ∷ 0 ∷ 0 ∷ 0 ∷ 4 ∷ 0 ∷ 0 ∷ 0 ∷ 0 ∷ 0 ∷ 0 ∷ 0 ∷ []) ++ (4 ∷ 0 ∷ 0 ∷ 0 ∷ 0 ∷ 0 ∷ 0 ∷ 0 ∷ 2 ∷ 0 ∷ 0 ∷ 0 ∷ 0 ∷ 0 ∷ 0 ∷ 0 ∷ []) ++ (6 ∷ 0 ∷ 0 ∷ 0 ∷ 0 ∷ 0 ∷ 0 ∷ 0 ∷ 2 ∷ 0 ∷ 0 ∷ 0 ∷ 0 ∷ 0 ∷ 0 ∷ 0 ∷ []) ++ (8 ∷ 0 ∷ 0 ∷ 0 ∷ 0 ∷ 0 ∷ 0 ∷ 0 ∷ 1 ∷ 0 ∷ 0 ∷ 0 ∷ 0 ∷ 0 ∷ 0 ∷ 0 ∷ [])) ≡ Some (byte_cells (1 ∷ 2 ∷ 3 ∷ 4 ∷ 5 ∷ 6 ∷ 7 ∷ 8 ∷ 9 ∷ []))
  pub larger_subchunk : encoded (sharded (4 ∷ []) (bytes None) (bytes (Some little)) at_end) (zero_filled uint8) (3 ∷ []) (byte_cells (5 ∷ 6 ∷ 7 ∷ [])) ≡ Some ((5 ∷ 6 ∷ 7 ∷ []) ++ (0 ∷ 0 ∷ 0 ∷ 0 ∷ 0 ∷ 0 ∷ 0 ∷ 0 ∷ 3 ∷ 0 ∷ 0 ∷ 0 ∷ 0 ∷ 0 ∷ 0 ∷ 0 ∷ []))
  pub larger_subchunk_back : decoded (sharded (4 ∷ []) (bytes None) (bytes (Some little)) at_end) (zero_filled uint8) (3 ∷ []) ((5 ∷ 6 ∷ 7 ∷ []) ++ (0 ∷ 0 ∷ 0 ∷ 0 ∷ 0 ∷ 0 ∷ 0 ∷ 0 ∷ 3 ∷ 0 ∷ 0 ∷ 0 ∷ 0 ∷ 0 ∷ 0 ∷ 0 ∷ [])) ≡ Some (byte_cells (5 ∷ 6 ∷ 7 ∷ []))
  pub transposed_shard : encoded (after_array_codec (transpose (1 ∷ 0 ∷ [])) (sharded (1 ∷ 1 ∷ []) (bytes None) (bytes (Some little)) at_end)) (zero_filled uint8) (1 ∷ 2 ∷ []) (byte_cells (3 ∷ 4 ∷ [])) ≡ Some ((3 ∷ 4 ∷ []) ++ (0 ∷ 0 ∷ 0 ∷ 0 ∷ 0 ∷ 0 ∷ 0 ∷ 0 ∷ 1 ∷ 0 ∷ 0 ∷ 0 ∷ 0 ∷ 0 ∷ 0 ∷ 0 ∷ []) ++ (1 ∷ 0 ∷ 0 ∷ 0 ∷ 0 ∷ 0 ∷ 0 ∷ 0 ∷ 1 ∷ 0 ∷ 0 ∷ 0 ∷ 0 ∷ 0 ∷ 0 ∷ 0 ∷ []))
  pub transposed_shard_back : decoded (after_array_codec (transpose (1 ∷ 0 ∷ [])) (sharded (1 ∷ 1 ∷ []) (bytes None) (bytes (Some little)) at_end)) (zero_filled uint8) (1 ∷ 2 ∷ []) ((3 ∷ 4 ∷ []) ++ (0 ∷ 0 ∷ 0 ∷ 0 ∷ 0 ∷ 0 ∷ 0 ∷ 0 ∷ 1 ∷ 0 ∷ 0 ∷ 0 ∷ 0 ∷ 0 ∷ 0 ∷ 0 ∷ []) ++ (1 ∷ 0 ∷ 0 ∷ 0 ∷ 0 ∷ 0 ∷ 0 ∷ 0 ∷ 1 ∷ 0 ∷ 0 ∷ 0 ∷ 0 ∷ 0 ∷ 0 ∷ 0 ∷ [])) ≡ Some (byte_cells (3 ∷ 4 ∷ []))
  pub transposed_subchunk : encoded (sharded (2 ∷ 2 ∷ []) (after_array_codec (transpose (1 ∷ 0 ∷ [])) (bytes None)) (bytes (Some little)) at_end) (zero_filled uint8) (2 ∷ 2 ∷ []) (byte_cells (1 ∷ 2 ∷ 3 ∷ 4 ∷ [])) ≡ Some ((1 ∷ 3 ∷ 2 ∷ 4 ∷ []) ++ (0 ∷ 0 ∷ 0 ∷ 0 ∷ 0 ∷ 0 ∷ 0 ∷ 0 ∷ 4 ∷ 0 ∷ 0 ∷ 0 ∷ 0 ∷ 0 ∷ 0 ∷ 0 ∷ []))
  pub transposed_subchunk_back : decoded (sharded (2 ∷ 2 ∷ []) (after_array_codec (transpose (1 ∷ 0 ∷ [])) (bytes None)) (bytes (Some little)) at_end) (zero_filled uint8) (2 ∷ 2 ∷ []) ((1 ∷ 3 ∷ 2 ∷ 4 ∷ []) ++ (0 ∷ 0 ∷ 0 ∷ 0 ∷ 0 ∷ 0 ∷ 0 ∷ 0 ∷ 4 ∷ 0 ∷ 0 ∷ 0 ∷ 0 ∷ 0 ∷ 0 ∷ 0 ∷ [])) ≡ Some (byte_cells (1 ∷ 2 ∷ 3 ∷ 4 ∷ []))
  pub strings_in_a_shard : encoded (sharded (1 ∷ []) (vlen (bytes (Some little)) (bytes None) 32 at_start) (bytes (Some little)) at_end) (zero_filled string) (2 ∷ []) (of_bytes ([]) ∷ of_bytes (97 ∷ []) ∷ []) ≡ Some ((8 ∷ 0 ∷ 0 ∷ 0 ∷ 0 ∷ 0 ∷ 0 ∷ 0 ∷ 0 ∷ 0 ∷ 0 ∷ 0 ∷ 1 ∷ 0 ∷ 0 ∷ 0 ∷ 97 ∷ []) ++ (replicate 16 255) ++ (0 ∷ 0 ∷ 0 ∷ 0 ∷ 0 ∷ 0 ∷ 0 ∷ 0 ∷ 17 ∷ 0 ∷ 0 ∷ 0 ∷ 0 ∷ 0 ∷ 0 ∷ 0 ∷ []))
  pub strings_in_a_shard_back : decoded (sharded (1 ∷ []) (vlen (bytes (Some little)) (bytes None) 32 at_start) (bytes (Some little)) at_end) (zero_filled string) (2 ∷ []) ((8 ∷ 0 ∷ 0 ∷ 0 ∷ 0 ∷ 0 ∷ 0 ∷ 0 ∷ 0 ∷ 0 ∷ 0 ∷ 0 ∷ 1 ∷ 0 ∷ 0 ∷ 0 ∷ 97 ∷ []) ++ (replicate 16 255) ++ (0 ∷ 0 ∷ 0 ∷ 0 ∷ 0 ∷ 0 ∷ 0 ∷ 0 ∷ 17 ∷ 0 ∷ 0 ∷ 0 ∷ 0 ∷ 0 ∷ 0 ∷ 0 ∷ [])) ≡ Some (of_bytes ([]) ∷ of_bytes (97 ∷ []) ∷ [])
  -- a subchunk that is all fill isn't encoded, and loses no bit
  pub dropped_in_a_shard : kept (sharded (2 ∷ []) (packbits no_padding_byte 4 None) (bytes (Some little)) at_end) (record { type = uint8; fill = of_bytes (7 ∷ []) }) (4 ∷ []) (byte_cells (7 ∷ 7 ∷ 7 ∷ 87 ∷ [])) ≡ byte_cells (7 ∷ 7 ∷ 0 ∷ 80 ∷ [])
  -- cells that become fill are stored, and left out the second time
  pub becomes_fill : encoded (sharded (2 ∷ []) (packbits no_padding_byte 4 None) (bytes (Some little)) at_end) (zero_filled uint8) (2 ∷ []) (byte_cells (15 ∷ 3 ∷ [])) ≡ Some ((0 ∷ []) ++ (0 ∷ 0 ∷ 0 ∷ 0 ∷ 0 ∷ 0 ∷ 0 ∷ 0 ∷ 1 ∷ 0 ∷ 0 ∷ 0 ∷ 0 ∷ 0 ∷ 0 ∷ 0 ∷ []))
  pub becomes_fill_again : encoded (sharded (2 ∷ []) (packbits no_padding_byte 4 None) (bytes (Some little)) at_end) (zero_filled uint8) (2 ∷ []) (kept (sharded (2 ∷ []) (packbits no_padding_byte 4 None) (bytes (Some little)) at_end) (zero_filled uint8) (2 ∷ []) (byte_cells (15 ∷ 3 ∷ []))) ≡ Some (replicate 16 255)
  pub box_of_shard : part_decoded (sharded (2 ∷ 2 ∷ []) (bytes None) (bytes (Some little)) at_end) (zero_filled uint8) (4 ∷ 4 ∷ []) ((0 ∷ 1 ∷ 4 ∷ 5 ∷ 2 ∷ 3 ∷ 6 ∷ 7 ∷ 8 ∷ 9 ∷ 12 ∷ 13 ∷ 10 ∷ 11 ∷ 14 ∷ 15 ∷ []) ++ (0 ∷ 0 ∷ 0 ∷ 0 ∷ 0 ∷ 0 ∷ 0 ∷ 0 ∷ 4 ∷ 0 ∷ 0 ∷ 0 ∷ 0 ∷ 0 ∷ 0 ∷ 0 ∷ []) ++ (4 ∷ 0 ∷ 0 ∷ 0 ∷ 0 ∷ 0 ∷ 0 ∷ 0 ∷ 4 ∷ 0 ∷ 0 ∷ 0 ∷ 0 ∷ 0 ∷ 0 ∷ 0 ∷ []) ++ (8 ∷ 0 ∷ 0 ∷ 0 ∷ 0 ∷ 0 ∷ 0 ∷ 0 ∷ 4 ∷ 0 ∷ 0 ∷ 0 ∷ 0 ∷ 0 ∷ 0 ∷ 0 ∷ []) ++ (12 ∷ 0 ∷ 0 ∷ 0 ∷ 0 ∷ 0 ∷ 0 ∷ 0 ∷ 4 ∷ 0 ∷ 0 ∷ 0 ∷ 0 ∷ 0 ∷ 0 ∷ 0 ∷ [])) (4 ∷ 8 ∷ []) ≡ Some (byte_cells (4 ∷ 8 ∷ []))
  -- slices in any order and with gaps
  pub gap_and_other_order_decoded : decoded (sharded (1 ∷ []) (bytes None) (bytes (Some little)) at_end) (zero_filled uint8) (2 ∷ []) ((9 ∷ 2 ∷ 1 ∷ []) ++ (2 ∷ 0 ∷ 0 ∷ 0 ∷ 0 ∷ 0 ∷ 0 ∷ 0 ∷ 1 ∷ 0 ∷ 0 ∷ 0 ∷ 0 ∷ 0 ∷ 0 ∷ 0 ∷ []) ++ (1 ∷ 0 ∷ 0 ∷ 0 ∷ 0 ∷ 0 ∷ 0 ∷ 0 ∷ 1 ∷ 0 ∷ 0 ∷ 0 ∷ 0 ∷ 0 ∷ 0 ∷ 0 ∷ [])) ≡ Some (byte_cells (1 ∷ 2 ∷ []))

-- values that stand though encoding writes others
pub record StandingRows : Type 0 where
  -- a byte that no slice holds, and the second slice before the first
  pub gap_and_other_order : Stands (sharded (1 ∷ []) (bytes None) (bytes (Some little)) at_end) (zero_filled uint8) (2 ∷ []) ((9 ∷ 2 ∷ 1 ∷ []) ++ (2 ∷ 0 ∷ 0 ∷ 0 ∷ 0 ∷ 0 ∷ 0 ∷ 0 ∷ 1 ∷ 0 ∷ 0 ∷ 0 ∷ 0 ∷ 0 ∷ 0 ∷ 0 ∷ []) ++ (1 ∷ 0 ∷ 0 ∷ 0 ∷ 0 ∷ 0 ∷ 0 ∷ 0 ∷ 1 ∷ 0 ∷ 0 ∷ 0 ∷ 0 ∷ 0 ∷ 0 ∷ 0 ∷ [])) (byte_cells (1 ∷ 2 ∷ []))
  pub gap_is_tight : Tight (sharded (1 ∷ []) (bytes None) (bytes (Some little)) at_end) (zero_filled uint8) (2 ∷ []) ((9 ∷ 2 ∷ 1 ∷ []) ++ (2 ∷ 0 ∷ 0 ∷ 0 ∷ 0 ∷ 0 ∷ 0 ∷ 0 ∷ 1 ∷ 0 ∷ 0 ∷ 0 ∷ 0 ∷ 0 ∷ 0 ∷ 0 ∷ []) ++ (1 ∷ 0 ∷ 0 ∷ 0 ∷ 0 ∷ 0 ∷ 0 ∷ 0 ∷ 1 ∷ 0 ∷ 0 ∷ 0 ∷ 0 ∷ 0 ∷ 0 ∷ 0 ∷ [])) (byte_cells (1 ∷ 2 ∷ []))
  pub one_slice_twice : Stands (sharded (1 ∷ []) (bytes None) (bytes (Some little)) at_end) (zero_filled uint8) (2 ∷ []) ((7 ∷ []) ++ (0 ∷ 0 ∷ 0 ∷ 0 ∷ 0 ∷ 0 ∷ 0 ∷ 0 ∷ 1 ∷ 0 ∷ 0 ∷ 0 ∷ 0 ∷ 0 ∷ 0 ∷ 0 ∷ []) ++ (0 ∷ 0 ∷ 0 ∷ 0 ∷ 0 ∷ 0 ∷ 0 ∷ 0 ∷ 1 ∷ 0 ∷ 0 ∷ 0 ∷ 0 ∷ 0 ∷ 0 ∷ 0 ∷ [])) (byte_cells (7 ∷ 7 ∷ []))
  pub chunk_of_fill : ChunkStands (bytes None) (zero_filled uint8) (2 ∷ []) None (byte_cells (0 ∷ 0 ∷ []))

-- values that are damaged, whole or in part
pub record DamageRows : Type 0 where
  pub past_the_end_not_met : part_decoded (sharded (2 ∷ []) (bytes None) (bytes (Some little)) at_end) (zero_filled uint8) (4 ∷ []) ((1 ∷ 2 ∷ []) ++ (0 ∷ 0 ∷ 0 ∷ 0 ∷ 0 ∷ 0 ∷ 0 ∷ 0 ∷ 2 ∷ 0 ∷ 0 ∷ 0 ∷ 0 ∷ 0 ∷ 0 ∷ 0 ∷ []) ++ (100 ∷ 0 ∷ 0 ∷ 0 ∷ 0 ∷ 0 ∷ 0 ∷ 0 ∷ 2 ∷ 0 ∷ 0 ∷ 0 ∷ 0 ∷ 0 ∷ 0 ∷ 0 ∷ [])) (0 ∷ 1 ∷ []) ≡ Some (byte_cells (1 ∷ 2 ∷ []))
  pub past_the_end_met : part_decoded (sharded (2 ∷ []) (bytes None) (bytes (Some little)) at_end) (zero_filled uint8) (4 ∷ []) ((1 ∷ 2 ∷ []) ++ (0 ∷ 0 ∷ 0 ∷ 0 ∷ 0 ∷ 0 ∷ 0 ∷ 0 ∷ 2 ∷ 0 ∷ 0 ∷ 0 ∷ 0 ∷ 0 ∷ 0 ∷ 0 ∷ []) ++ (100 ∷ 0 ∷ 0 ∷ 0 ∷ 0 ∷ 0 ∷ 0 ∷ 0 ∷ 2 ∷ 0 ∷ 0 ∷ 0 ∷ 0 ∷ 0 ∷ 0 ∷ 0 ∷ [])) (2 ∷ []) ≡ None
  pub past_the_end : decoded (sharded (2 ∷ []) (bytes None) (bytes (Some little)) at_end) (zero_filled uint8) (4 ∷ []) ((1 ∷ 2 ∷ []) ++ (0 ∷ 0 ∷ 0 ∷ 0 ∷ 0 ∷ 0 ∷ 0 ∷ 0 ∷ 2 ∷ 0 ∷ 0 ∷ 0 ∷ 0 ∷ 0 ∷ 0 ∷ 0 ∷ []) ++ (100 ∷ 0 ∷ 0 ∷ 0 ∷ 0 ∷ 0 ∷ 0 ∷ 0 ∷ 2 ∷ 0 ∷ 0 ∷ 0 ∷ 0 ∷ 0 ∷ 0 ∷ 0 ∷ [])) ≡ None
  pub long_not_met : part_decoded (sharded (2 ∷ []) (bytes None) (bytes (Some little)) at_end) (zero_filled uint8) (4 ∷ []) ((1 ∷ 2 ∷ []) ++ (0 ∷ 0 ∷ 0 ∷ 0 ∷ 0 ∷ 0 ∷ 0 ∷ 0 ∷ 2 ∷ 0 ∷ 0 ∷ 0 ∷ 0 ∷ 0 ∷ 0 ∷ 0 ∷ []) ++ (0 ∷ 0 ∷ 0 ∷ 0 ∷ 0 ∷ 0 ∷ 0 ∷ 0 ∷ 255 ∷ 255 ∷ 255 ∷ 255 ∷ 255 ∷ 255 ∷ 255 ∷ 255 ∷ [])) (0 ∷ 1 ∷ []) ≡ Some (byte_cells (1 ∷ 2 ∷ []))
  pub long_met : part_decoded (sharded (2 ∷ []) (bytes None) (bytes (Some little)) at_end) (zero_filled uint8) (4 ∷ []) ((1 ∷ 2 ∷ []) ++ (0 ∷ 0 ∷ 0 ∷ 0 ∷ 0 ∷ 0 ∷ 0 ∷ 0 ∷ 2 ∷ 0 ∷ 0 ∷ 0 ∷ 0 ∷ 0 ∷ 0 ∷ 0 ∷ []) ++ (0 ∷ 0 ∷ 0 ∷ 0 ∷ 0 ∷ 0 ∷ 0 ∷ 0 ∷ 255 ∷ 255 ∷ 255 ∷ 255 ∷ 255 ∷ 255 ∷ 255 ∷ 255 ∷ [])) (2 ∷ 3 ∷ []) ≡ None
  pub far_not_met : part_decoded (sharded (2 ∷ []) (bytes None) (bytes (Some little)) at_end) (zero_filled uint8) (4 ∷ []) ((1 ∷ 2 ∷ []) ++ (0 ∷ 0 ∷ 0 ∷ 0 ∷ 0 ∷ 0 ∷ 0 ∷ 0 ∷ 2 ∷ 0 ∷ 0 ∷ 0 ∷ 0 ∷ 0 ∷ 0 ∷ 0 ∷ []) ++ (255 ∷ 255 ∷ 255 ∷ 255 ∷ 255 ∷ 255 ∷ 255 ∷ 255 ∷ 0 ∷ 0 ∷ 0 ∷ 0 ∷ 0 ∷ 0 ∷ 0 ∷ 0 ∷ [])) (0 ∷ 1 ∷ []) ≡ Some (byte_cells (1 ∷ 2 ∷ []))
  pub far_met : part_decoded (sharded (2 ∷ []) (bytes None) (bytes (Some little)) at_end) (zero_filled uint8) (4 ∷ []) ((1 ∷ 2 ∷ []) ++ (0 ∷ 0 ∷ 0 ∷ 0 ∷ 0 ∷ 0 ∷ 0 ∷ 0 ∷ 2 ∷ 0 ∷ 0 ∷ 0 ∷ 0 ∷ 0 ∷ 0 ∷ 0 ∷ []) ++ (255 ∷ 255 ∷ 255 ∷ 255 ∷ 255 ∷ 255 ∷ 255 ∷ 255 ∷ 0 ∷ 0 ∷ 0 ∷ 0 ∷ 0 ∷ 0 ∷ 0 ∷ 0 ∷ [])) (2 ∷ 3 ∷ []) ≡ None
  -- reading refuses a pair only where it ends past the value
  pub slice_in_the_index : decoded (sharded (2 ∷ []) (bytes None) (bytes (Some little)) at_end) (zero_filled uint8) (4 ∷ []) ((1 ∷ 2 ∷ []) ++ (0 ∷ 0 ∷ 0 ∷ 0 ∷ 0 ∷ 0 ∷ 0 ∷ 0 ∷ 2 ∷ 0 ∷ 0 ∷ 0 ∷ 0 ∷ 0 ∷ 0 ∷ 0 ∷ []) ++ (2 ∷ 0 ∷ 0 ∷ 0 ∷ 0 ∷ 0 ∷ 0 ∷ 0 ∷ 2 ∷ 0 ∷ 0 ∷ 0 ∷ 0 ∷ 0 ∷ 0 ∷ 0 ∷ [])) ≡ Some (byte_cells (1 ∷ 2 ∷ 0 ∷ 0 ∷ []))
  pub slice_twice : decoded (sharded (2 ∷ []) (bytes None) (bytes (Some little)) at_end) (zero_filled uint8) (4 ∷ []) ((1 ∷ 2 ∷ []) ++ (0 ∷ 0 ∷ 0 ∷ 0 ∷ 0 ∷ 0 ∷ 0 ∷ 0 ∷ 2 ∷ 0 ∷ 0 ∷ 0 ∷ 0 ∷ 0 ∷ 0 ∷ 0 ∷ []) ++ (0 ∷ 0 ∷ 0 ∷ 0 ∷ 0 ∷ 0 ∷ 0 ∷ 0 ∷ 2 ∷ 0 ∷ 0 ∷ 0 ∷ 0 ∷ 0 ∷ 0 ∷ 0 ∷ [])) ≡ Some (byte_cells (1 ∷ 2 ∷ 1 ∷ 2 ∷ []))
  pub short_of_an_index : decoded (sharded (2 ∷ []) (bytes None) (bytes (Some little)) at_end) (zero_filled uint8) (4 ∷ []) (1 ∷ 2 ∷ 3 ∷ []) ≡ None
  pub short_of_an_index_part : part_decoded (sharded (2 ∷ []) (bytes None) (bytes (Some little)) at_end) (zero_filled uint8) (4 ∷ []) (1 ∷ 2 ∷ 3 ∷ []) (0 ∷ []) ≡ None
  pub short_of_an_index_no_part : part_decoded (sharded (2 ∷ []) (bytes None) (bytes (Some little)) at_end) (zero_filled uint8) (4 ∷ []) (1 ∷ 2 ∷ 3 ∷ []) [] ≡ None
  pub no_part : part_decoded (sharded (2 ∷ []) (bytes None) (bytes (Some little)) at_end) (zero_filled uint8) (4 ∷ []) ((1 ∷ 2 ∷ []) ++ (0 ∷ 0 ∷ 0 ∷ 0 ∷ 0 ∷ 0 ∷ 0 ∷ 0 ∷ 2 ∷ 0 ∷ 0 ∷ 0 ∷ 0 ∷ 0 ∷ 0 ∷ 0 ∷ []) ++ (100 ∷ 0 ∷ 0 ∷ 0 ∷ 0 ∷ 0 ∷ 0 ∷ 0 ∷ 2 ∷ 0 ∷ 0 ∷ 0 ∷ 0 ∷ 0 ∷ 0 ∷ 0 ∷ [])) ([]) ≡ Some []
  pub slice_too_short : part_decoded (sharded (2 ∷ []) (bytes None) (bytes (Some little)) at_end) (zero_filled uint8) (4 ∷ []) ((1 ∷ 2 ∷ []) ++ (0 ∷ 0 ∷ 0 ∷ 0 ∷ 0 ∷ 0 ∷ 0 ∷ 0 ∷ 2 ∷ 0 ∷ 0 ∷ 0 ∷ 0 ∷ 0 ∷ 0 ∷ 0 ∷ []) ++ (0 ∷ 0 ∷ 0 ∷ 0 ∷ 0 ∷ 0 ∷ 0 ∷ 0 ∷ 1 ∷ 0 ∷ 0 ∷ 0 ∷ 0 ∷ 0 ∷ 0 ∷ 0 ∷ [])) (2 ∷ []) ≡ None
  pub last_offset : decoded (vlen (bytes (Some little)) (bytes None) 32 at_start) (zero_filled string) (3 ∷ []) (16 ∷ 0 ∷ 0 ∷ 0 ∷ 0 ∷ 0 ∷ 0 ∷ 0 ∷ 0 ∷ 0 ∷ 0 ∷ 0 ∷ 1 ∷ 0 ∷ 0 ∷ 0 ∷ 1 ∷ 0 ∷ 0 ∷ 0 ∷ 4 ∷ 0 ∷ 0 ∷ 0 ∷ 97 ∷ 98 ∷ 99 ∷ []) ≡ None
  pub falling_offsets : decoded (vlen (bytes (Some little)) (bytes None) 32 at_start) (zero_filled string) (3 ∷ []) (16 ∷ 0 ∷ 0 ∷ 0 ∷ 0 ∷ 0 ∷ 0 ∷ 0 ∷ 0 ∷ 0 ∷ 0 ∷ 0 ∷ 2 ∷ 0 ∷ 0 ∷ 0 ∷ 1 ∷ 0 ∷ 0 ∷ 0 ∷ 3 ∷ 0 ∷ 0 ∷ 0 ∷ 97 ∷ 98 ∷ 99 ∷ []) ≡ None
  pub first_offset : decoded (vlen (bytes (Some little)) (bytes None) 32 at_start) (zero_filled string) (3 ∷ []) (16 ∷ 0 ∷ 0 ∷ 0 ∷ 0 ∷ 0 ∷ 0 ∷ 0 ∷ 1 ∷ 0 ∷ 0 ∷ 0 ∷ 1 ∷ 0 ∷ 0 ∷ 0 ∷ 1 ∷ 0 ∷ 0 ∷ 0 ∷ 3 ∷ 0 ∷ 0 ∷ 0 ∷ 97 ∷ 98 ∷ 99 ∷ []) ≡ None
  pub index_length : decoded (vlen (bytes (Some little)) (bytes None) 32 at_start) (zero_filled string) (3 ∷ []) (255 ∷ 255 ∷ 255 ∷ 255 ∷ 255 ∷ 255 ∷ 255 ∷ 255 ∷ 0 ∷ 0 ∷ 0 ∷ 0 ∷ 1 ∷ 0 ∷ 0 ∷ 0 ∷ 1 ∷ 0 ∷ 0 ∷ 0 ∷ 3 ∷ 0 ∷ 0 ∷ 0 ∷ 97 ∷ 98 ∷ 99 ∷ []) ≡ None
  pub data_cut : decoded (vlen (bytes (Some little)) (bytes None) 32 at_start) (zero_filled string) (3 ∷ []) (16 ∷ 0 ∷ 0 ∷ 0 ∷ 0 ∷ 0 ∷ 0 ∷ 0 ∷ 0 ∷ 0 ∷ 0 ∷ 0 ∷ 1 ∷ 0 ∷ 0 ∷ 0 ∷ 1 ∷ 0 ∷ 0 ∷ 0 ∷ 3 ∷ 0 ∷ 0 ∷ 0 ∷ 97 ∷ 98 ∷ []) ≡ None
  pub data_longer : decoded (vlen (bytes (Some little)) (bytes None) 32 at_start) (zero_filled string) (3 ∷ []) (16 ∷ 0 ∷ 0 ∷ 0 ∷ 0 ∷ 0 ∷ 0 ∷ 0 ∷ 0 ∷ 0 ∷ 0 ∷ 0 ∷ 1 ∷ 0 ∷ 0 ∷ 0 ∷ 1 ∷ 0 ∷ 0 ∷ 0 ∷ 3 ∷ 0 ∷ 0 ∷ 0 ∷ 97 ∷ 98 ∷ 99 ∷ 100 ∷ []) ≡ None
  pub no_length : decoded (vlen (bytes (Some little)) (bytes None) 32 at_start) (zero_filled string) (3 ∷ []) (16 ∷ 0 ∷ 0 ∷ 0 ∷ 0 ∷ 0 ∷ 0 ∷ []) ≡ None
  -- a part of strings is selected from the whole
  pub strings_part_of_damage : part_decoded (vlen (bytes (Some little)) (bytes None) 32 at_start) (zero_filled string) (3 ∷ []) (16 ∷ 0 ∷ 0 ∷ 0 ∷ 0 ∷ 0 ∷ 0 ∷ 0 ∷ 0 ∷ 0 ∷ 0 ∷ 0 ∷ 2 ∷ 0 ∷ 0 ∷ 0 ∷ 1 ∷ 0 ∷ 0 ∷ 0 ∷ 3 ∷ 0 ∷ 0 ∷ 0 ∷ 97 ∷ 98 ∷ 99 ∷ []) (0 ∷ []) ≡ None
  pub mask_of_three : decoded (optional (packbits no_padding_byte 0 None) (bytes None)) (zero_filled (optional_of uint8)) (3 ∷ []) (1 ∷ 0 ∷ 0 ∷ 0 ∷ 0 ∷ 0 ∷ 0 ∷ 0 ∷ 2 ∷ 0 ∷ 0 ∷ 0 ∷ 0 ∷ 0 ∷ 0 ∷ 0 ∷ 7 ∷ 5 ∷ 7 ∷ []) ≡ None
  pub mask_fill_bits : decoded (optional (packbits no_padding_byte 0 None) (bytes None)) (zero_filled (optional_of uint8)) (3 ∷ []) (1 ∷ 0 ∷ 0 ∷ 0 ∷ 0 ∷ 0 ∷ 0 ∷ 0 ∷ 2 ∷ 0 ∷ 0 ∷ 0 ∷ 0 ∷ 0 ∷ 0 ∷ 0 ∷ 253 ∷ 5 ∷ 7 ∷ []) ≡ Some (present (of_bytes (5 ∷ [])) ∷ absent ∷ present (of_bytes (7 ∷ [])) ∷ [])
  pub option_cut : decoded (optional (packbits no_padding_byte 0 None) (bytes None)) (zero_filled (optional_of uint8)) (3 ∷ []) (1 ∷ 0 ∷ 0 ∷ 0 ∷ 0 ∷ 0 ∷ 0 ∷ 0 ∷ 2 ∷ 0 ∷ 0 ∷ 0 ∷ 0 ∷ 0 ∷ 0 ∷ 0 ∷ 5 ∷ 5 ∷ []) ≡ None
  pub option_longer : decoded (optional (packbits no_padding_byte 0 None) (bytes None)) (zero_filled (optional_of uint8)) (3 ∷ []) (1 ∷ 0 ∷ 0 ∷ 0 ∷ 0 ∷ 0 ∷ 0 ∷ 0 ∷ 2 ∷ 0 ∷ 0 ∷ 0 ∷ 0 ∷ 0 ∷ 0 ∷ 0 ∷ 5 ∷ 5 ∷ 7 ∷ 9 ∷ []) ≡ None
  pub data_of_nothing : decoded (optional (packbits no_padding_byte 0 None) (bytes None)) (zero_filled (optional_of uint8)) (3 ∷ []) (1 ∷ 0 ∷ 0 ∷ 0 ∷ 0 ∷ 0 ∷ 0 ∷ 0 ∷ 1 ∷ 0 ∷ 0 ∷ 0 ∷ 0 ∷ 0 ∷ 0 ∷ 0 ∷ 0 ∷ 5 ∷ []) ≡ None
  pub bool_of_two : decoded (bytes None) (zero_filled bool) (1 ∷ []) (2 ∷ []) ≡ None
  pub int4_of_eight : decoded (bytes None) (zero_filled (integer signed 4)) (1 ∷ []) (8 ∷ []) ≡ None
  pub three_of_four : decoded (bytes None) (zero_filled uint8) (2 ∷ 2 ∷ []) (1 ∷ 2 ∷ 3 ∷ []) ≡ None
  -- the element asked for alone is tested
  pub beside_damage : part_decoded (bytes None) (zero_filled bool) (2 ∷ []) (2 ∷ 1 ∷ []) (1 ∷ []) ≡ Some (byte_cells (1 ∷ []))
  pub at_damage : part_decoded (bytes None) (zero_filled bool) (2 ∷ []) (2 ∷ 1 ∷ []) (0 ∷ []) ≡ None
  pub part_of_wrong_length : part_decoded (bytes None) (zero_filled bool) (2 ∷ []) (1 ∷ []) (0 ∷ []) ≡ None
  pub wrong_length_no_part : part_decoded (bytes None) (zero_filled bool) (2 ∷ []) (1 ∷ []) [] ≡ None
  pub damage_beside_in_a_shard : part_decoded (sharded (2 ∷ []) (bytes None) (bytes (Some little)) at_end) (zero_filled bool) (2 ∷ []) ((2 ∷ 1 ∷ []) ++ (0 ∷ 0 ∷ 0 ∷ 0 ∷ 0 ∷ 0 ∷ 0 ∷ 0 ∷ 2 ∷ 0 ∷ 0 ∷ 0 ∷ 0 ∷ 0 ∷ 0 ∷ 0 ∷ [])) (1 ∷ []) ≡ Some (byte_cells (1 ∷ []))
  pub fill_bits_ignored : decoded (packbits no_padding_byte 0 None) (zero_filled bool) (3 ∷ []) (253 ∷ []) ≡ Some (byte_cells (1 ∷ 0 ∷ 1 ∷ []))
  pub padding_count_ignored : decoded (packbits first_byte 0 None) (zero_filled bool) (3 ∷ []) (255 ∷ 5 ∷ []) ≡ Some (byte_cells (1 ∷ 0 ∷ 1 ∷ []))
  pub refused_bytes : decoded (then_bytes (bytes None) (record { encode = λ given. Some given; decode = λ given. None; representation = λ known. known })) (zero_filled uint8) (1 ∷ []) (1 ∷ []) ≡ None
  pub no_bytes_for_one : decoded (bytes None) (zero_filled uint8) [] [] ≡ None
