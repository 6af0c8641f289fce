-- Which cells a store stands for. Cells are given as a function of their places.
use Rattle.std.specs.Prelude.{◌≡◌, ℕ, List, map, Option, None, true, is_some}
use Rattle.zarr_grids_boxes.specs.Boxes.{Region, places, is_in_box}
use Rattle.zarr_grids_chunks.specs.Grids.{IsInGrid}
use Rattle.zarr_codecs_meaning.specs.Types.{Cell, is_value}
use Rattle.zarr_codecs_meaning.specs.Fits.{is_lossless}
use Rattle.zarr_codecs_meaning.specs.Chunks.{IsStored}
use Rattle.zarr_codecs_meaning.specs.Laws.{IsLawfulChain}
use Rattle.zarr_codecs_traits.specs.PartWriting.{ChunkTight}
use Rattle.zarr_array_meaning.specs.Chunks.{stored_at, fits_box, ReadsCell}
use Rattle.zarr_array_meaning.specs.Documents.{Document}
use Rattle.zarr_array_meaning.specs.StoreMaps.{StoreMap}

-- what is stored for a chunk stands for its cells
abbrev pub ChunkStandsAt : Document → Region → Option (List ℕ) → (List ℕ → Cell) → Type 0
ChunkStandsAt document box stored cells = IsStored document.chain document.elements box.shape stored (map cells (places box.start box.shape))

-- the same, and each slice of a shard in it is what encoding writes
abbrev pub ChunkTightAt : Document → Region → Option (List ℕ) → (List ℕ → Cell) → Type 0
ChunkTightAt document box stored cells = ChunkTight document.chain document.elements box.shape stored (map cells (places box.start box.shape))

-- what is stored for each chunk in the grid stands for its cells
abbrev pub StoreStands : List ℕ → Document → StoreMap → (List ℕ → Cell) → Type 0
StoreStands path document store cells = (chunk : List ℕ) (box : Region) → IsInGrid document.grid chunk box → ChunkStandsAt document box (stored_at path document store chunk) cells

-- whatever cell is read at a place of a chunk is the function's; where a place is damaged this says nothing
abbrev pub ShowsOnly : List ℕ → Document → StoreMap → (List ℕ → Cell) → Type 0
ShowsOnly path document store cells = (chunk : List ℕ) (box : Region) (place : List ℕ) (cell : Cell) → IsInGrid document.grid chunk box → is_in_box box.start box.shape place ≡ true
    → ReadsCell document box (stored_at path document store chunk) place cell → cell ≡ cells place

-- the chain of a document keeps every bit of its cells
abbrev pub IsLossless : Document → Type 0
IsLossless document = is_lossless document.chain document.elements.type ≡ true

-- the caller's codecs in the chain of a document are lawful, and its fill value is a value
pub record IsGood (document : Document) : Type 0 where
  pub lawful : IsLawfulChain document.chain
  pub fill : is_value document.elements.type document.elements.fill ≡ true

-- each cell in the grid is a value of the document's type
abbrev pub AreValues : Document → (List ℕ → Cell) → Type 0
AreValues document cells = (chunk : List ℕ) (box : Region) (place : List ℕ) → IsInGrid document.grid chunk box → is_in_box box.start box.shape place ≡ true → is_value document.elements.type (cells place) ≡ true

-- each chunk that has a value fits the chain
abbrev pub ValuesFit : List ℕ → Document → StoreMap → Type 0
ValuesFit path document store = (chunk : List ℕ) (box : Region) → IsInGrid document.grid chunk box → is_some (stored_at path document store chunk) ≡ true → fits_box document box ≡ true

-- what stands for cells shows no others
abbrev pub StandingShows : Type 0
StandingShows = (path : List ℕ) (document : Document) (store : StoreMap) (cells : List ℕ → Cell) → IsGood document → IsLossless document → AreValues document cells
    → StoreStands path document store cells → ShowsOnly path document store cells

-- where nothing is stored for a chunk, the fill value is shown
abbrev pub NothingStoredShows : Type 0
NothingStoredShows = (path : List ℕ) (document : Document) (store : StoreMap) → ((chunk : List ℕ) (box : Region) → IsInGrid document.grid chunk box → stored_at path document store chunk ≡ None)
    → ShowsOnly path document store (λ place. document.elements.fill)

-- whatever is stored, it shows no more than one cell at each place
abbrev pub ShowingSomething : Type 0
ShowingSomething = (path : List ℕ) (document : Document) (store : StoreMap) → (cells : List ℕ → Cell) × ShowsOnly path document store cells

-- a cell that is read of a chunk that fits is a value of the type
abbrev pub ReadsValues : Type 0
ReadsValues = (path : List ℕ) (document : Document) (store : StoreMap) (chunk : List ℕ) (box : Region) (place : List ℕ) (cell : Cell) → IsGood document → fits_box document box ≡ true
    → ReadsCell document box (stored_at path document store chunk) place cell → is_value document.elements.type cell ≡ true
