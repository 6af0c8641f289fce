-- Laws of what is stored for a chunk.
use Rattle.std.specs.Prelude.{◌≡◌, ℕ, List, Option, Some, true, nat_lt}
use Rattle.std.specs.List.{list_all}
use Rattle.zarr_grids_boxes.specs.Boxes.{product}
use Rattle.zarr_codecs_meaning.specs.Types.{Cell, Elements}
use Rattle.zarr_codecs_meaning.specs.Chains.{Chain}
use Rattle.zarr_codecs_meaning.specs.Places.{gather}
use Rattle.zarr_codecs_meaning.specs.Fits.{fits, is_lossless}
use Rattle.zarr_codecs_meaning.specs.Encoding.{stored_chunk}
use Rattle.zarr_codecs_meaning.specs.Standing.{ChunkStands}
use Rattle.zarr_codecs_meaning.specs.Chunks.{chunk_decoded, chunk_part, IsStored}
use Rattle.zarr_codecs_meaning.specs.Laws.{IsLawfulChain, AreCells}

-- what is to be stored for a chunk's cells stands for them
abbrev pub ChunkStored : Type 0
ChunkStored = (chain : Chain) (elements : Elements) (shape : List ℕ) (cells : List Cell) (stored : Option (List ℕ)) → IsLawfulChain chain → fits chain elements.type shape ≡ true → is_lossless chain elements.type ≡ true → AreCells elements shape cells
    → stored_chunk chain elements shape cells ≡ Some stored → ChunkStands chain elements shape stored cells

-- what is stored for a chunk is decoded to the cells that it stands for
abbrev pub StoredDecoded : Type 0
StoredDecoded = (chain : Chain) (elements : Elements) (shape : List ℕ) (stored : Option (List ℕ)) (cells : List Cell) → IsLawfulChain chain → is_lossless chain elements.type ≡ true → AreCells elements shape cells
    → IsStored chain elements shape stored cells → chunk_decoded chain elements shape stored ≡ Some cells

-- a part of what is stored for a chunk is the cells at its places
abbrev pub StoredPart : Type 0
StoredPart = (chain : Chain) (elements : Elements) (shape : List ℕ) (stored : Option (List ℕ)) (cells : List Cell) (places : List ℕ) → IsLawfulChain chain → is_lossless chain elements.type ≡ true → AreCells elements shape cells
    → IsStored chain elements shape stored cells → list_all (λ place. nat_lt place (product shape)) places ≡ true → chunk_part chain elements shape stored places ≡ Some (gather elements.fill cells places)

-- what is stored for a chunk stands for no other cells
abbrev pub StoredOnce : Type 0
StoredOnce = (chain : Chain) (elements : Elements) (shape : List ℕ) (stored : Option (List ℕ)) (cells others : List Cell) → IsLawfulChain chain → is_lossless chain elements.type ≡ true → AreCells elements shape cells → AreCells elements shape others
    → IsStored chain elements shape stored cells → IsStored chain elements shape stored others → cells ≡ others
