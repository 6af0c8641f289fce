-- Laws of shards under change. Each is said of slices that stand for their subchunks' cells, and of slices that are what encoding writes.
use Rattle.std.specs.Prelude.{◌≡◌, ℕ, ◌+◌, ◌-◌, ◌^◌, ◌<◌, List, ◌++◌, length, get_or, None, Some, true, false}
use Rattle.zarr_grids_boxes.specs.Boxes.{Region, product, share_place, IsIndex}
use Rattle.zarr_codecs_meaning.specs.Types.{Cell, Elements}
use Rattle.zarr_codecs_meaning.specs.Chains.{Chain, Location}
use Rattle.zarr_codecs_meaning.specs.Chains.Chain.{sharded}
use Rattle.zarr_codecs_meaning.specs.Places.{gather, grid_of, box_of, part_of}
use Rattle.zarr_codecs_meaning.specs.Fits.{fits, can_cut, is_lossless, is_plain, keeps_indices}
use Rattle.zarr_codecs_meaning.specs.Encoding.{Pair, Piece, absent_pair, encoded}
use Rattle.zarr_codecs_meaning.specs.Standing.{Slices, PiecesStand, StandsBy, Tight, data_part}
use Rattle.zarr_codecs_meaning.specs.Laws.{IsLawfulChain, AreCells}
use Rattle.zarr_sharding_changes.specs.Changes.{Change, appended, pairs_after, pieces_after, SliceStandsBy, ChangesStand}
use Rattle.zarr_sharding_changes.specs.Regions.{IsInside, whole, overlaid}
use Rattle.zarr_sharding_changes.specs.Compaction.{compacted}
use Rattle.zarr_sharding_changes.specs.Compactions.{compaction, nothing_to_gain}
use Rattle.zarr_sharding_changes.specs.Gapless.{IsGapless}
use Rattle.zarr_sharding_changes.specs.HeldShards.{HeldShard, held_after}

-- where slices are appended and pairs replaced, the pairs and the longer data part stand for the changed pieces, in whatever order and however often subchunks are changed
abbrev pub ChangesWritten : Type 0
ChangesWritten = (slices : Slices) (inner : Chain) (elements : Elements) (base : ℕ) («data» : List ℕ) (pieces wanted : List Piece) (pairs : List Pair) (changes : List Change)
    → base + length («data» ++ appended changes) < 2 ^ 64 - 1
    → PiecesStand (SliceStandsBy slices inner elements) elements.fill (data_part base «data») pieces pairs → ChangesStand (SliceStandsBy slices inner elements) elements.fill wanted changes
    → PiecesStand (SliceStandsBy slices inner elements) elements.fill (data_part base («data» ++ appended changes)) (pieces_after wanted changes pieces) (pairs_after (base + length «data») changes pairs)

-- after a box of cells was put over an array that it lies in, the array has those cells at its places
abbrev pub RegionWritten : Type 0
RegionWritten = (fill : Cell) (shape : List ℕ) (region : Region) (new cells : List Cell) → IsInside region.start region.shape shape → length new ≡ product region.shape
    → gather fill (overlaid fill (whole shape) region new cells) (part_of shape region).places ≡ new

-- a box of cells put over an array is that box put over each subchunk
abbrev pub PartOverlaid : Type 0
PartOverlaid = (fill : Cell) (shape subchunk index : List ℕ) (region : Region) (new cells : List Cell) → can_cut shape subchunk ≡ true → IsIndex index (grid_of shape subchunk)
    → let box = box_of shape subchunk index in
    gather fill (overlaid fill (whole shape) region new cells) (part_of shape box).places ≡ overlaid fill box region new (gather fill cells (part_of shape box).places)

-- a subchunk that shares no place with the box keeps its cells
abbrev pub PartKept : Type 0
PartKept = (fill : Cell) (shape subchunk index : List ℕ) (region : Region) (new cells : List Cell) → can_cut shape subchunk ≡ true → IsIndex index (grid_of shape subchunk)
    → let box = box_of shape subchunk index in
    share_place box.start box.shape region.start region.shape ≡ false
    → gather fill (overlaid fill (whole shape) region new cells) (part_of shape box).places ≡ gather fill cells (part_of shape box).places

-- the slices of a value that stands, copied row-major without gaps, stand for the same cells
abbrev pub CompactedStands : Type 0
CompactedStands = (slices : Slices) (subchunk : List ℕ) (inner index : Chain) (location : Location) (elements : Elements) (shape value made : List ℕ) (cells : List Cell) → let chain = sharded subchunk inner index location in
    IsLawfulChain chain → fits chain elements.type shape ≡ true → is_lossless chain elements.type ≡ true → AreCells elements shape cells
    → StandsBy slices chain elements shape value cells → compacted subchunk index location shape value ≡ Some made → StandsBy slices chain elements shape made cells

-- of slices that are what encoding writes this makes the encoding of the cells
abbrev pub CompactedEncoded : Type 0
CompactedEncoded = (subchunk : List ℕ) (inner index : Chain) (location : Location) (elements : Elements) (shape value : List ℕ) (cells : List Cell) → let chain = sharded subchunk inner index location in
    Tight chain elements shape value cells → compacted subchunk index location shape value ≡ encoded chain elements shape cells

-- compaction leaves each value of a chain without a shard as it is
abbrev pub PlainKept : Type 0
PlainKept = (chain : Chain) (shape value : List ℕ) → is_plain chain ≡ true → compaction chain shape value ≡ nothing_to_gain

-- where some subchunks of a shard got new slices behind its data part, each other one keeps its pair, and the data part that it had is the beginning of the new one, so that its slice stands where it stood
abbrev pub UnmetKept : Type 0
UnmetKept = (base k : ℕ) (changes : List Change) (held : HeldShard) → ((i : ℕ) → i < length changes → (get_or changes i (0, None)).0 ≡ k → ⊥) → let after = held_after base changes held in
    (get_or after.pairs k absent_pair ≡ get_or held.pairs k absent_pair) × ((rest : List ℕ) × (after.content ≡ held.content ++ rest))

-- a value of a chain without a shard has no gaps
abbrev pub PlainGapless : Type 0
PlainGapless = (chain : Chain) (shape value : List ℕ) → is_plain chain ≡ true → IsGapless chain shape value

-- compaction leaves a value without gaps as it is, where the chain drops no bit of an index
abbrev pub GaplessKept : Type 0
GaplessKept = (chain : Chain) (shape value : List ℕ) → keeps_indices chain ≡ true → IsGapless chain shape value → compaction chain shape value ≡ nothing_to_gain
