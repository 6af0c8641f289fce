-- Laws of a shard in a source. Each is said of slices that stand for their subchunks' cells, and of slices that are what encoding writes.
use Rattle.std.specs.Prelude.{◌≡◌, ℕ, ◌+◌, ◌^◌, ◌<◌, List, length, Option, None, Some, Bool, true}
use Rattle.std.specs.List.{list_all}
use Rattle.zarr_codecs_meaning.specs.Chains.{Chain, Location}
use Rattle.zarr_codecs_meaning.specs.Encoding.{Pair, Piece}
use Rattle.zarr_codecs_meaning.specs.Fits.{is_lossless}
use Rattle.zarr_codecs_meaning.specs.Standing.{Slices, ShardStands, index_layout}
use Rattle.zarr_codecs_meaning.specs.Types.{Elements, is_fill, uint64}
use Rattle.zarr_sharding_changes.specs.Changes.{Change, ChangesStand, SliceStandsBy, appended, pairs_after, pieces_after}
use Rattle.zarr_sharding_index.specs.Held.{HoldsPieces, IsOpened, held_as, index_coding}
use Rattle.zarr_sharding_index.specs.Written.{IsChanged}

-- where a value stands for pieces, so does what is known of it once it is opened
abbrev pub OpenedStands : Type 0
OpenedStands = (slices : Slices) (inner index : Chain) (elements : Elements) (location : Location) (shape : List ℕ) (count end : ℕ) (pieces : List Piece) (value : List ℕ) (pairs : List Pair) → let relation = SliceStandsBy slices inner elements in
    ShardStands (index_layout index location shape) relation elements.fill pieces value → IsOpened (index_layout index location shape) count (Some value) pairs end
    → HoldsPieces relation elements.fill (index_layout index location shape) pieces (held_as (Some value) pairs end)

-- what stands for pieces is a value that does so, or there is none, and all cells are the fill value
abbrev pub HeldStands : Type 0
HeldStands = (slices : Slices) (inner index : Chain) (elements : Elements) (location : Location) (shape : List ℕ) (end : ℕ) (pieces : List Piece) (value : List ℕ) (pairs : List Pair) → let relation = SliceStandsBy slices inner elements in
    HoldsPieces relation elements.fill (index_layout index location shape) pieces (held_as (Some value) pairs end) → ShardStands (index_layout index location shape) relation elements.fill pieces value

-- where no value is held, each subchunk is all fill
abbrev pub NothingStands : Type 0
NothingStands = (slices : Slices) (inner index : Chain) (elements : Elements) (location : Location) (shape : List ℕ) (end : ℕ) (pieces : List Piece) (pairs : List Pair)
    → HoldsPieces (SliceStandsBy slices inner elements) elements.fill (index_layout index location shape) pieces (held_as None pairs end) → list_all (λ (piece : Piece). is_fill elements.fill piece.1) pieces ≡ true

-- after changes are written, what is held stands for the changed pieces; each subchunk that isn't changed keeps its pair and its slice
abbrev pub ChangedStands : Type 0
ChangedStands = (slices : Slices) (inner index : Chain) (exact : Bool) (elements : Elements) (location : Location) (shape : List ℕ) (pieces wanted : List Piece) (changes : List Change) (pairs : List Pair) (before after : Option (List ℕ)) (end ended : ℕ) → let relation = SliceStandsBy slices inner elements in
    is_lossless index uint64 ≡ true → end + length (appended changes) < 2 ^ 63
    → HoldsPieces relation elements.fill (index_layout index location shape) pieces (held_as before pairs end) → ChangesStand relation elements.fill wanted changes → IsChanged (index_coding index exact location shape) changes before end (held_as after (pairs_after end changes pairs) ended)
    → HoldsPieces relation elements.fill (index_layout index location shape) (pieces_after wanted changes pieces) (held_as after (pairs_after end changes pairs) ended)
