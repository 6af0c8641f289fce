-- What is read of values, and what writes in part leave, on small examples: the expected values were worked out by hand.
use Rattle.std.specs.Prelude.{◌≡◌, ℕ, List, [], ◌∷◌, ◌++◌, replicate, Some, None, true, false}
use Rattle.zarr_codecs_meaning.specs.Chains.{ByteCodec, Chain}
use Rattle.zarr_codecs_meaning.specs.Chains.Chain.{bytes, sharded, then_bytes}
use Rattle.zarr_codecs_meaning.specs.Chains.Endianness.{little}
use Rattle.zarr_codecs_meaning.specs.Chains.Location.{at_end}
use Rattle.zarr_codecs_meaning.specs.Encoding.{byte_cells}
use Rattle.zarr_codecs_meaning.specs.Payloads.{fixed}
use Rattle.zarr_codecs_meaning.specs.Types.{uint8, zero_filled}
use Rattle.zarr_sharding_changes.specs.WorkedCompactions.{reversing_bytes, shard_of_twos}
use Rattle.zarr_sharding_changes.specs.WorkedGapless.{first_two, first_two_and_gap}
use Rattle.zarr_codecs_traits.specs.Arrays.{coded, update_of}
use Rattle.zarr_codecs_traits.specs.Indexers.{listed}
use Rattle.zarr_codecs_traits.specs.PartWriting.{IsNewSlice, PartsRefused, PassesLength, WholeRefused, after_write}
use Rattle.zarr_codecs_traits.specs.ReadBytes.{most_of_numbers}
use Rattle.zarr_codecs_traits.specs.ShardWrites.{Appends, most_for_parts, most_patched}
use Rattle.zarr_codecs_traits.specs.Writes.{most_to_patch}

-- a shard of four elements in subchunks of two, both of which are present; its index takes 32 bytes
abbrev pub all_four : List ℕ
all_four = (1 ∷ 2 ∷ 3 ∷ 4 ∷ []) ++ (0 ∷ 0 ∷ 0 ∷ 0 ∷ 0 ∷ 0 ∷ 0 ∷ 0 ∷ 2 ∷ 0 ∷ 0 ∷ 0 ∷ 0 ∷ 0 ∷ 0 ∷ 0 ∷ []) ++ (2 ∷ 0 ∷ 0 ∷ 0 ∷ 0 ∷ 0 ∷ 0 ∷ 0 ∷ 2 ∷ 0 ∷ 0 ∷ 0 ∷ 0 ∷ 0 ∷ 0 ∷ 0 ∷ [])

-- the first two of four elements, where these sixteen bytes are the pair of the other two; it has 34 bytes
abbrev pub first_two_and : List ℕ → List ℕ
first_two_and pair = (1 ∷ 2 ∷ []) ++ (0 ∷ 0 ∷ 0 ∷ 0 ∷ 0 ∷ 0 ∷ 0 ∷ 0 ∷ 2 ∷ 0 ∷ 0 ∷ 0 ∷ 0 ∷ 0 ∷ 0 ∷ 0 ∷ []) ++ pair

-- a codec that refuses all bytes
abbrev pub refusing_all : ByteCodec
refusing_all = record { encode = λ given. None; decode = λ made. Some made; representation = λ known. known }

-- a shard of one-byte elements in subchunks of two, whose index that codec refuses
abbrev pub shard_refusing_all : Chain
shard_refusing_all = sharded (2 ∷ []) (bytes None) (then_bytes (bytes (Some little)) refusing_all) at_end

-- how many bytes of a value are taken for places
pub record ReadRows : Type 0 where
  -- the index, and the slice of the first subchunk
  pub one_place : most_of_numbers shard_of_twos uint8 (4 ∷ []) (Some all_four) (0 ∷ []) ≡ 34
  -- a slice is taken once
  pub places_of_one : most_of_numbers shard_of_twos uint8 (4 ∷ []) (Some all_four) (1 ∷ 0 ∷ 1 ∷ []) ≡ 34
  pub places_of_both : most_of_numbers shard_of_twos uint8 (4 ∷ []) (Some all_four) (1 ∷ 2 ∷ []) ≡ 36
  pub no_place : most_of_numbers shard_of_twos uint8 (4 ∷ []) (Some all_four) [] ≡ 32
  pub absent : most_of_numbers shard_of_twos uint8 (4 ∷ []) (Some first_two) (3 ∷ []) ≡ 32
  -- a slice that ends past the end is not taken, also where it begins in the value
  pub up_to_the_end : most_of_numbers shard_of_twos uint8 (4 ∷ []) (Some (first_two_and ((32 ∷ replicate 7 0) ++ (2 ∷ replicate 7 0)))) (2 ∷ 3 ∷ []) ≡ 34
  pub past_the_end : most_of_numbers shard_of_twos uint8 (4 ∷ []) (Some (first_two_and ((33 ∷ replicate 7 0) ++ (2 ∷ replicate 7 0)))) (2 ∷ 3 ∷ []) ≡ 32
  pub far_past_the_end : most_of_numbers shard_of_twos uint8 (4 ∷ []) (Some (first_two_and (replicate 8 0 ++ replicate 8 255))) (2 ∷ 3 ∷ []) ≡ 32
  pub no_value : most_of_numbers shard_of_twos uint8 (4 ∷ []) None (0 ∷ []) ≡ 0
  -- bytes codecs want all of it
  pub behind_bytes_codecs : most_of_numbers (then_bytes shard_of_twos reversing_bytes) uint8 (4 ∷ []) (Some all_four) (0 ∷ []) ≡ 36
  pub without_a_shard : most_of_numbers (bytes None) uint8 (4 ∷ []) (Some (1 ∷ 2 ∷ 3 ∷ 4 ∷ [])) (0 ∷ []) ≡ 1
  -- ranges of `bytes` are written without a byte of the value
  pub written : most_for_parts shard_of_twos uint8 (4 ∷ []) (Some all_four) (0 ∷ []) ≡ 34
  pub written_without_a_shard : most_for_parts (bytes None) uint8 (4 ∷ []) (Some (1 ∷ 2 ∷ 3 ∷ 4 ∷ [])) (0 ∷ []) ≡ 0
  -- a source that writes no ranges gives the value once, to a chain that has ranges of it written
  pub ranges_written : most_to_patch true (Some all_four) ≡ 0
  pub set_anew : most_to_patch false (Some all_four) ≡ 36
  pub set_whole : most_patched (coded (then_bytes (bytes None) reversing_bytes) (zero_filled uint8) (4 ∷ [])) (update_of (listed (0 ∷ [])) (fixed (9 ∷ [])) (Some (4 ∷ 3 ∷ 2 ∷ 1 ∷ []))) false ≡ 0

-- the second of four elements becomes 5, where the last two are the fill value
pub record WriteRows : Type 0 where
  -- the old slice stays as a gap
  pub appended : Appends shard_of_twos (zero_filled uint8) (4 ∷ []) (after_write (1 ∷ []) (Some first_two) (byte_cells (1 ∷ 5 ∷ 0 ∷ 0 ∷ []))) (Some ((1 ∷ 2 ∷ 1 ∷ 5 ∷ []) ++ (2 ∷ 0 ∷ 0 ∷ 0 ∷ 0 ∷ 0 ∷ 0 ∷ 0 ∷ 2 ∷ 0 ∷ 0 ∷ 0 ∷ 0 ∷ 0 ∷ 0 ∷ 0 ∷ []) ++ replicate 16 255))
  -- a shard that is written anew keeps no slice
  pub repacked : ¬ Appends shard_of_twos (zero_filled uint8) (4 ∷ []) (after_write (1 ∷ []) (Some first_two) (byte_cells (1 ∷ 5 ∷ 0 ∷ 0 ∷ []))) (Some ((1 ∷ 5 ∷ []) ++ (0 ∷ 0 ∷ 0 ∷ 0 ∷ 0 ∷ 0 ∷ 0 ∷ 0 ∷ 2 ∷ 0 ∷ 0 ∷ 0 ∷ 0 ∷ 0 ∷ 0 ∷ 0 ∷ []) ++ replicate 16 255))
  -- a new slice that is a shard has no gaps inside
  pub slice_with_gap : ¬ IsNewSlice shard_of_twos (zero_filled uint8) (4 ∷ []) (byte_cells (1 ∷ 2 ∷ 0 ∷ 0 ∷ [])) first_two_and_gap

-- why nothing is written into what holds the first two of four elements
pub record UnwrittenRows : Type 0 where
  -- the second of them becomes 5, and the new index is refused
  pub index_asked : PartsRefused shard_refusing_all (zero_filled uint8) (4 ∷ []) (after_write (1 ∷ []) (Some first_two) (byte_cells (1 ∷ 5 ∷ 0 ∷ 0 ∷ [])))
  -- both become fill: no subchunk is left, and so no index is made
  pub no_index : ¬ PartsRefused shard_refusing_all (zero_filled uint8) (4 ∷ []) (after_write (0 ∷ 1 ∷ []) (Some first_two) (byte_cells (0 ∷ 0 ∷ 0 ∷ 0 ∷ [])))
  -- a shard that is all fill is taken away, also where it would be written whole
  pub no_whole : ¬ WholeRefused shard_refusing_all (zero_filled uint8) (4 ∷ []) (byte_cells (0 ∷ 0 ∷ 0 ∷ 0 ∷ []))
  pub whole_asked : WholeRefused shard_refusing_all (zero_filled uint8) (4 ∷ []) (byte_cells (1 ∷ 5 ∷ 0 ∷ 0 ∷ []))
  -- the one subchunk that is met has a new slice of two bytes, and no other subchunk has one
  pub room : ¬ PassesLength shard_of_twos (zero_filled uint8) (4 ∷ []) (after_write (1 ∷ []) (Some first_two) (byte_cells (1 ∷ 5 ∷ 0 ∷ 0 ∷ [])))
