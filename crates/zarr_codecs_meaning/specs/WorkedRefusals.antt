-- Which cells are refused, on small examples.
use Rattle.std.specs.Prelude.{List, [], ◌∷◌, Some, None, ◌==◌, if◌then◌else◌}
use Rattle.std.specs.List.{list_all}
use Rattle.zarr_codecs_meaning.specs.Chains.{ByteCodec, Chain}
use Rattle.zarr_codecs_meaning.specs.Chains.Chain.{bytes, packbits, then_bytes, sharded}
use Rattle.zarr_codecs_meaning.specs.Chains.Endianness.{little}
use Rattle.zarr_codecs_meaning.specs.Chains.Location.{at_end}
use Rattle.zarr_codecs_meaning.specs.Chains.Padding.{no_padding_byte}
use Rattle.zarr_codecs_meaning.specs.Encoding.{byte_cells}
use Rattle.zarr_codecs_meaning.specs.Refusals.{CodecRefuses}
use Rattle.zarr_codecs_meaning.specs.Types.{uint8, zero_filled}

-- a codec that refuses bytes which are all zero, and leaves others as they are
abbrev pub refusing_zeros : ByteCodec
refusing_zeros = record { encode = λ given. if list_all (λ b. b == 0) given then None else Some given; decode = λ made. Some made; representation = λ known. known }

-- a shard of one-byte elements in subchunks of two, whose index goes through that codec
abbrev pub shard_refusing_zeros : Chain
shard_refusing_zeros = sharded (2 ∷ []) (bytes None) (then_bytes (bytes (Some little)) refusing_zeros) at_end

-- the same of elements of which the lower four bits are kept
abbrev pub bits_refusing_zeros : Chain
bits_refusing_zeros = sharded (2 ∷ []) (packbits no_padding_byte 0 (Some 3)) (then_bytes (bytes (Some little)) refusing_zeros) at_end

-- elements of one byte that are refused, and some that aren't
pub record RefusalRows : Type 0 where
  pub zeros : CodecRefuses (then_bytes (bytes None) refusing_zeros) (zero_filled uint8) (2 ∷ []) (byte_cells (0 ∷ 0 ∷ []))
  pub others : ¬ CodecRefuses (then_bytes (bytes None) refusing_zeros) (zero_filled uint8) (2 ∷ []) (byte_cells (0 ∷ 1 ∷ []))
  -- no subchunk of these is all fill, so both have a slice, and an index of two slices isn't all zero
  pub index_of_slices : ¬ CodecRefuses shard_refusing_zeros (zero_filled uint8) (4 ∷ []) (byte_cells (1 ∷ 2 ∷ 3 ∷ 4 ∷ []))
  -- nor where bits are dropped: each slice has its one byte
  pub index_of_bits : ¬ CodecRefuses bits_refusing_zeros (zero_filled uint8) (4 ∷ []) (byte_cells (1 ∷ 2 ∷ 3 ∷ 4 ∷ []))
