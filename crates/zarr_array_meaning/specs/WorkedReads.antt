-- How many bytes reads take at most of what is stored for chunks, on small examples: the expected values were worked out by hand.
use Rattle.std.specs.Prelude.{◌≡◌, ℕ, List, [], ◌∷◌, ◌++◌, Bool, true, false, Option, Some, None}
use Rattle.std.specs.FinMap.{empty}
use Rattle.zarr_grids_boxes.specs.Boxes.{Region}
use Rattle.zarr_grids_chunks.specs.Grids.{regular}
use Rattle.zarr_grids_keys.specs.Keys.{default}
use Rattle.zarr_codecs_meaning.specs.Chains.{Chain}
use Rattle.zarr_codecs_meaning.specs.Chains.Chain.{bytes, then_bytes}
use Rattle.zarr_codecs_meaning.specs.Types.{uint8, zero_filled}
use Rattle.zarr_sharding_changes.specs.WorkedCompactions.{reversing_bytes, shard_of_twos}
use Rattle.zarr_sharding_changes.specs.WorkedGapless.{first_two_and_gap}
use Rattle.zarr_codecs_traits.specs.WorkedWrites.{all_four}
use Rattle.zarr_array_meaning.specs.Chunks.{stored_at}
use Rattle.zarr_array_meaning.specs.Documents.{Document}
use Rattle.zarr_array_meaning.specs.ReadBytes.{box_read, most_of_box, most_of_chunk}
use Rattle.zarr_array_meaning.specs.StoreMaps.{StoreMap}

-- an array of eight bytes in chunks of four, by this chain
abbrev pub eight_by : Chain → Document
eight_by chain = record { shape = 8 ∷ []; elements = zero_filled uint8; grid = regular 8 4 ∷ []; keys = default 47; chain = chain }

-- a box of one dimension, by its start and by how many places it has
abbrev pub stretch : ℕ → ℕ → Region
stretch start long = record { start = start ∷ []; shape = long ∷ [] }

-- how many bytes are taken at most of what is stored for the second chunk, whose places are 4 to 7, for a read of a region with workers or without
abbrev pub most_of_second : Chain → Bool → Region → Option (List ℕ) → ℕ
most_of_second chain workers region stored = most_of_chunk (box_read [] (eight_by chain) empty region workers) (stretch 4 4) stored

-- two subchunks of one slice: the value ends with an index of 32 bytes
abbrev pub one_slice_twice : List ℕ
one_slice_twice = (1 ∷ 2 ∷ []) ++ (0 ∷ 0 ∷ 0 ∷ 0 ∷ 0 ∷ 0 ∷ 0 ∷ 0 ∷ 2 ∷ 0 ∷ 0 ∷ 0 ∷ 0 ∷ 0 ∷ 0 ∷ 0 ∷ []) ++ (0 ∷ 0 ∷ 0 ∷ 0 ∷ 0 ∷ 0 ∷ 0 ∷ 0 ∷ 2 ∷ 0 ∷ 0 ∷ 0 ∷ 0 ∷ 0 ∷ 0 ∷ 0 ∷ [])

-- how many bytes are taken at most of a chunk for a region
pub record ChunkReadRows : Type 0 where
  -- of a shard the index, and the slices of the subchunks that are met
  pub one_cell : most_of_second shard_of_twos true (stretch 5 1) (Some all_four) ≡ 34
  pub two_subchunks : most_of_second shard_of_twos true (stretch 5 2) (Some all_four) ≡ 36
  pub past_the_chunk : most_of_second shard_of_twos true (stretch 6 4) (Some all_four) ≡ 34
  pub absent : most_of_second shard_of_twos true (stretch 7 1) (Some first_two_and_gap) ≡ 32
  pub beside_a_gap : most_of_second shard_of_twos true (stretch 4 3) (Some first_two_and_gap) ≡ 34
  -- with workers a chunk that lies in the region may be taken as a whole, or slice by slice
  pub whole : most_of_second shard_of_twos true (stretch 0 8) (Some all_four) ≡ 36
  pub whole_with_a_gap : most_of_second shard_of_twos true (stretch 4 4) (Some first_two_and_gap) ≡ 36
  pub slice_by_slice : most_of_second shard_of_twos true (stretch 4 4) (Some one_slice_twice) ≡ 36
  -- without them its slices alone
  pub without_the_gap : most_of_second shard_of_twos false (stretch 4 4) (Some first_two_and_gap) ≡ 34
  pub no_value : most_of_second shard_of_twos true (stretch 4 4) None ≡ 0
  -- of other values the cells alone, or all
  pub without_a_shard : most_of_second (bytes None) true (stretch 5 1) (Some (1 ∷ 2 ∷ 3 ∷ 4 ∷ [])) ≡ 1
  pub behind_bytes_codecs : most_of_second (then_bytes shard_of_twos reversing_bytes) false (stretch 5 1) (Some all_four) ≡ 36

-- of each store that holds these values for the two chunks of the array at the root, so many bytes are taken at most for a read of a region
abbrev pub TakesOfTwo : List ℕ → List ℕ → Region → Bool → ℕ → Type 0
TakesOfTwo first second region workers most =
    (store : StoreMap) → stored_at [] (eight_by shard_of_twos) store (0 ∷ []) ≡ Some first → stored_at [] (eight_by shard_of_twos) store (1 ∷ []) ≡ Some second
    → most_of_box (box_read [] (eight_by shard_of_twos) store region workers) ≡ most

-- how many bytes are taken at most of two chunks for a region
pub record BoxReadRows : Type 0 where
  -- two cells of the first shard, and all of the second, which has a gap of two bytes
  pub in_order : TakesOfTwo all_four first_two_and_gap (stretch 2 6) false 68
  pub by_workers : TakesOfTwo all_four first_two_and_gap (stretch 2 6) true 70
  -- each chunk that is met, once
  pub both : TakesOfTwo all_four all_four (stretch 0 8) false 72
  pub first_alone : TakesOfTwo all_four first_two_and_gap (stretch 0 4) true 36
  pub no_place : TakesOfTwo all_four all_four (stretch 3 0) true 0
