-- An array in a store.
use Rattle.std.specs.Prelude.{ℕ, List, Bool, Option}
use Rattle.zarr_array_meaning.specs.Chunks.{stored_at}
use Rattle.zarr_array_meaning.specs.Documents.{Document}
use Rattle.zarr_array_meaning.specs.StoreMaps.{StoreMap}

-- an array: its path, what its document says, and whether the value that is made of a chunk's cells depends on these alone
pub record Array : Type 0 where
  pub path : List ℕ
  pub document : Document
  pub exact : Bool

-- what a store holds for a chunk of an array
abbrev pub value_at : Array → StoreMap → List ℕ → Option (List ℕ)
value_at array store chunk = stored_at array.path array.document store chunk
