-- Laws of what storing cells afresh leaves, for any chain.
use Rattle.std.specs.Prelude.{◌≡◌, ℕ, List, Option, Some, None, is_some, true, not, nat_lt}
use Rattle.std.specs.List.{list_all}
use Rattle.zarr_grids_boxes.specs.Boxes.{product}
use Rattle.zarr_codecs_meaning.specs.Types.{Cell, is_fill, Elements}
use Rattle.zarr_codecs_meaning.specs.Chains.{Chain}
use Rattle.zarr_codecs_meaning.specs.Chunks.{chunk_part, IsStored}
use Rattle.zarr_codecs_meaning.specs.Decoding.{decoded}
use Rattle.zarr_codecs_meaning.specs.Encoding.{encoded, stored_chunk}
use Rattle.zarr_codecs_meaning.specs.Fits.{fits, is_lossless}
use Rattle.zarr_codecs_meaning.specs.Laws.{IsLawfulChain, AreCells}
use Rattle.zarr_codecs_meaning.specs.Standing.{ChunkStands, Tight}

-- what is stored for a chunk is what storing its cells afresh leaves: no value for the fill value alone, else their encoding
abbrev pub IsFresh : Chain → Elements → List ℕ → Option (List ℕ) → List Cell → Type 0
IsFresh chain elements shape stored cells = stored_chunk chain elements shape cells ≡ Some stored

-- a value that is there exactly where cells aren't all fill, and is then their encoding, is what storing them afresh leaves
abbrev pub EncodedFresh : Type 0
EncodedFresh = (chain : Chain) (elements : Elements) (shape : List ℕ) (stored : Option (List ℕ)) (cells : List Cell) → is_some stored ≡ not (is_fill elements.fill cells)
    → ((value : List ℕ) → stored ≡ Some value → encoded chain elements shape cells ≡ Some value) → IsFresh chain elements shape stored cells

-- a chunk without a value that stands for its cells holds just that
abbrev pub AbsentFresh : Type 0
AbsentFresh = (chain : Chain) (elements : Elements) (shape : List ℕ) (cells : List Cell) → IsStored chain elements shape None cells → IsFresh chain elements shape None cells

-- cells have one such value: where they are stored afresh again, no byte changes
abbrev pub FreshOnce : Type 0
FreshOnce = (chain : Chain) (elements : Elements) (shape : List ℕ) (one two : Option (List ℕ)) (cells : List Cell) → IsFresh chain elements shape one cells → IsFresh chain elements shape two cells → one ≡ two

-- what storing cells afresh leaves is tight
abbrev pub FreshTight : Type 0
FreshTight = (chain : Chain) (elements : Elements) (shape value : List ℕ) (cells : List Cell) → IsLawfulChain chain → fits chain elements.type shape ≡ true → is_lossless chain elements.type ≡ true → AreCells elements shape cells
    → IsFresh chain elements shape (Some value) cells → Tight chain elements shape value cells

-- the cells that a value stands for are those that it is decoded to
abbrev pub DecodedCells : Type 0
DecodedCells = (chain : Chain) (elements : Elements) (shape value : List ℕ) (found cells : List Cell) → IsLawfulChain chain → fits chain elements.type shape ≡ true → is_lossless chain elements.type ≡ true → AreCells elements shape cells
    → ChunkStands chain elements shape (Some value) cells → decoded chain elements shape value ≡ Some found → found ≡ cells

-- where what a value is decoded to is stored anew, each place is read as before, whatever the value was
abbrev pub StoredAnewShows : Type 0
StoredAnewShows = (chain : Chain) (elements : Elements) (shape value numbers : List ℕ) (stored : Option (List ℕ)) (cells : List Cell) → IsLawfulChain chain → fits chain elements.type shape ≡ true → is_lossless chain elements.type ≡ true
    → AreCells elements shape cells → list_all (λ number. nat_lt number (product shape)) numbers ≡ true → decoded chain elements shape value ≡ Some cells → ChunkStands chain elements shape stored cells
    → chunk_part chain elements shape stored numbers ≡ chunk_part chain elements shape (Some value) numbers
