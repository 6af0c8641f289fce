-- What chains may make of cells, on small examples: the expected values were worked out by hand.
use Rattle.std.specs.Prelude.{◌≡◌, ℕ, List, [], ◌∷◌, ◌++◌, replicate, Some, None, true, false}
use Rattle.zarr_codecs_meaning.specs.Chains.{ByteCodec, Chain}
use Rattle.zarr_codecs_meaning.specs.Chains.Chain.{bytes, sharded, then_bytes}
use Rattle.zarr_codecs_meaning.specs.Chains.Endianness.{little}
use Rattle.zarr_codecs_meaning.specs.Chains.Location.{at_end}
use Rattle.zarr_codecs_meaning.specs.Encoding.{byte_cells}
use Rattle.zarr_codecs_meaning.specs.Making.{IsMadeOf, IsShardOf, none_overlap}
use Rattle.zarr_codecs_meaning.specs.Types.{uint8, zero_filled}

-- a codec that leaves bytes as they are
abbrev pub leaving_bytes : ByteCodec
leaving_bytes = record { encode = λ given. Some given; decode = λ made. Some made; representation = λ known. known }

-- a shard of one-byte elements in subchunks of two, and that codec behind it
abbrev pub shard_left : Chain
shard_left = then_bytes (sharded (2 ∷ []) (bytes None) (bytes (Some little)) at_end) leaving_bytes

-- a shard of four elements, where the second slice stands before the first
abbrev pub second_first : List ℕ
second_first = (3 ∷ 4 ∷ 1 ∷ 2 ∷ []) ++ (2 ∷ 0 ∷ 0 ∷ 0 ∷ 0 ∷ 0 ∷ 0 ∷ 0 ∷ 2 ∷ 0 ∷ 0 ∷ 0 ∷ 0 ∷ 0 ∷ 0 ∷ 0 ∷ []) ++ (0 ∷ 0 ∷ 0 ∷ 0 ∷ 0 ∷ 0 ∷ 0 ∷ 0 ∷ 2 ∷ 0 ∷ 0 ∷ 0 ∷ 0 ∷ 0 ∷ 0 ∷ 0 ∷ [])

-- bytes that a chain may make of elements of one byte
pub record MakingRows : Type 0 where
  pub other_order : IsMadeOf (sharded (2 ∷ []) (bytes None) (bytes (Some little)) at_end) (zero_filled uint8) (4 ∷ []) (byte_cells (1 ∷ 2 ∷ 3 ∷ 4 ∷ [])) second_first
  -- a codec behind the shard is given its slices row-major
  pub row_major_inside : ¬ IsMadeOf shard_left (zero_filled uint8) (4 ∷ []) (byte_cells (1 ∷ 2 ∷ 3 ∷ 4 ∷ [])) second_first
  -- a subchunk that is all fill has no slice
  pub fill_left_out : IsMadeOf (sharded (2 ∷ []) (bytes None) (bytes (Some little)) at_end) (zero_filled uint8) (4 ∷ []) (byte_cells (1 ∷ 2 ∷ 0 ∷ 0 ∷ [])) ((1 ∷ 2 ∷ []) ++ (0 ∷ 0 ∷ 0 ∷ 0 ∷ 0 ∷ 0 ∷ 0 ∷ 0 ∷ 2 ∷ 0 ∷ 0 ∷ 0 ∷ 0 ∷ 0 ∷ 0 ∷ 0 ∷ []) ++ replicate 16 255)
  -- without a shard nothing but the encoding is made
  pub one_without_shards : ¬ IsMadeOf (bytes None) (zero_filled uint8) (2 ∷ []) (byte_cells (1 ∷ 2 ∷ [])) (2 ∷ 1 ∷ [])
  -- of two slices that are alike the data part holds both
  pub one_for_two : ¬ IsShardOf (λ cells made. Unit {0}) at_end 0 (Some (1 ∷ 2 ∷ []) ∷ Some (1 ∷ 2 ∷ []) ∷ []) (1 ∷ 2 ∷ 9 ∷ 9 ∷ [])
  -- slices that share a byte, and slices that don't
  pub sharing : none_overlap ((0, 2) ∷ (1, 2) ∷ []) ≡ false
  pub apart : none_overlap ((2, 2) ∷ (0, 2) ∷ []) ≡ true
