-- Laws of what a chain keeps of cells.
use Rattle.std.specs.Prelude.{◌≡◌, ℕ, List, Some, true}
use Rattle.zarr_codecs_meaning.specs.Types.{Cell, Elements}
use Rattle.zarr_codecs_meaning.specs.Chains.{Chain}
use Rattle.zarr_codecs_meaning.specs.Fits.{fits, is_lossless, keeps_indices, is_plain}
use Rattle.zarr_codecs_meaning.specs.Encoding.{encoded}
use Rattle.zarr_codecs_meaning.specs.Keeping.{kept}
use Rattle.zarr_codecs_meaning.specs.Decoding.{decoded}
use Rattle.zarr_codecs_meaning.specs.Laws.{IsLawfulChain, AreCells}

-- what is encoded is decoded to what is kept of the cells, where no bit of an index is dropped
abbrev pub KeptDecoded : Type 0
KeptDecoded = (chain : Chain) (elements : Elements) (shape value : List ℕ) (cells : List Cell) → IsLawfulChain chain → fits chain elements.type shape ≡ true → keeps_indices chain ≡ true → AreCells elements shape cells
    → encoded chain elements shape cells ≡ Some value → decoded chain elements shape value ≡ Some (kept chain elements shape cells)

-- what is kept are cells of the array again
abbrev pub KeptCells : Type 0
KeptCells = (chain : Chain) (elements : Elements) (shape : List ℕ) (cells : List Cell) → fits chain elements.type shape ≡ true → AreCells elements shape cells → AreCells elements shape (kept chain elements shape cells)

-- of what is kept all is kept
abbrev pub KeptTwice : Type 0
KeptTwice = (chain : Chain) (elements : Elements) (shape : List ℕ) (cells : List Cell) → fits chain elements.type shape ≡ true → AreCells elements shape cells
    → kept chain elements shape (kept chain elements shape cells) ≡ kept chain elements shape cells

-- a chain without shards makes of what is kept what it makes of the cells. (Of a shard, cells that become fill are left out the second time)
abbrev pub KeptEncoded : Type 0
KeptEncoded = (chain : Chain) (elements : Elements) (shape : List ℕ) (cells : List Cell) → is_plain chain ≡ true → fits chain elements.type shape ≡ true → AreCells elements shape cells
    → encoded chain elements shape (kept chain elements shape cells) ≡ encoded chain elements shape cells

-- a lossless chain keeps all
abbrev pub KeptLossless : Type 0
KeptLossless = (chain : Chain) (elements : Elements) (shape : List ℕ) (cells : List Cell) → is_lossless chain elements.type ≡ true → fits chain elements.type shape ≡ true → AreCells elements shape cells
    → kept chain elements shape cells ≡ cells
