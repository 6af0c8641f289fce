-- What is known of a shard in a source.
use Rattle.std.specs.Prelude.{◌≡◌, ℕ, ◌+◌, List, [], length, replicate, Option, None, Some, Bool, true, ◌&&◌, ◌||◌, nat_le}
use Rattle.std.specs.List.{list_all}
use Rattle.zarr_codecs_meaning.specs.Chains.{Chain, Location}
use Rattle.zarr_codecs_meaning.specs.Chains.Location.{at_start, at_end}
use Rattle.zarr_codecs_meaning.specs.Decoding.{is_absent}
use Rattle.zarr_codecs_meaning.specs.Encoding.{Pair, Piece, absent_pair}
use Rattle.zarr_codecs_meaning.specs.Standing.{IsLaidOut, PiecesStand, data_part, layout_size, layout_base, IndexLayout, Standing}
use Rattle.zarr_codecs_meaning.specs.Types.{Cell}
use Rattle.zarr_sharding_changes.specs.Compaction.{data_in}
use Rattle.zarr_sharding_index.specs.HeldIndex.{held_pairs}

-- how the index of a shard is coded: its chain, whether what that makes depends on the pairs alone, where the index stands, and its shape
pub record IndexCoding : Type 0 where
  pub chain : Chain
  pub exact : Bool
  pub location : Location
  pub shape : List ℕ

-- the same, put together
abbrev pub index_coding : Chain → Bool → Location → List ℕ → IndexCoding
index_coding chain exact location shape = record { chain = chain; exact = exact; location = location; shape = shape }

-- what a source holds, and what is known of it: the pairs of the shard's index, and where its data part ends
pub record Held : Type 0 where
  pub contents : Option (List ℕ)
  pub pairs : List Pair
  pub end : ℕ

-- the same, put together
abbrev pub held_as : Option (List ℕ) → List Pair → ℕ → Held
held_as contents pairs end = record { contents = contents; pairs = pairs; end = end }

-- whether no subchunk is present
abbrev pub are_absent : List Pair → Bool
are_absent pairs = list_all is_absent pairs

-- whether a pair lies in a data part from a base to an end
abbrev pub lies_within : ℕ → ℕ → Pair → Bool
lies_within base end pair = nat_le base pair.0 && nat_le (pair.0 + pair.1) end

-- whether a pair is absent, or lies in a data part from a base to an end
abbrev pub lies_between : ℕ → ℕ → Pair → Bool
lies_between base end pair = is_absent pair || lies_within base end pair

-- what is known of a shard once it is opened: its pairs, each of which lies in the data part, and where that ends. Where there is no value, each subchunk is absent, and the data part is empty
abbrev pub IsOpened : IndexLayout → ℕ → Option (List ℕ) → List Pair → ℕ → Type 0
IsOpened layout count None pairs end = (pairs ≡ replicate count absent_pair) × (end ≡ layout_base layout)
IsOpened layout count (Some value) pairs end =
    (held_pairs layout.chain layout.location layout.shape value ≡ Some pairs)
    × (end ≡ layout_base layout + length (data_in layout.location (layout_size layout) value)) × (list_all (lies_between (layout_base layout) end) pairs ≡ true)

-- a value is an index of pairs and a data part; where there is no value, each subchunk is absent, and the data part is empty
abbrev pub IsHeld : IndexLayout → Option (List ℕ) → List Pair → List ℕ → Type 0
IsHeld layout None pairs «data» = («data» ≡ []) × (are_absent pairs ≡ true)
IsHeld layout (Some value) pairs «data» = IsLaidOut layout value pairs «data»

-- a shard's pairs and its data part, which ends there, stand for the pieces
pub record HoldsPieces (inner : Standing) (fill : Cell) (layout : IndexLayout) (pieces : List Piece) (known : Held) : Type 0 where
  pub «data» : List ℕ
  pub held : IsHeld layout known.contents known.pairs «data»
  pub ends : known.end ≡ layout_base layout + length «data»
  pub stand : PiecesStand inner fill (data_part (layout_base layout) «data») pieces known.pairs

-- how many bytes a shard has whose data part ends there
abbrev pub shard_length : Location → ℕ → ℕ → ℕ
shard_length at_start size end = end
shard_length at_end size end = end + size
