-- An array as a codec is given it.
use Rattle.std.specs.Prelude.{ℕ, List, Option}
use Rattle.zarr_codecs_meaning.specs.Chains.{Chain}
use Rattle.zarr_codecs_meaning.specs.Payloads.{Payload}
use Rattle.zarr_codecs_meaning.specs.Types.{Elements}
use Rattle.zarr_codecs_arrays.specs.Views.{elements_of, payload_of}
use Rattle.zarr_codecs_arrays.specs.declared.array_bytes.ArrayBytes.{ArrayBytes}
use Rattle.zarr_codecs_traits.specs.Indexers.{Asked, asked_of}
use Rattle.zarr_codecs_traits.specs.declared.array_part.ArrayPart.{ArrayPart}
use Rattle.zarr_codecs_traits.specs.declared.array_part.GivenPart.{GivenPart}
use Rattle.zarr_codecs_traits.specs.declared.array_part.WholeArray.{WholeArray}

-- an array that a chain encodes: the chain, what the array's elements are, and its shape
pub record Coded : Type 0 where
  pub chain : Chain
  pub elements : Elements
  pub shape : List ℕ

-- the same, put together
abbrev pub coded : Chain → Elements → List ℕ → Coded
coded chain elements shape = record { chain = chain; elements = elements; shape = shape }

-- an array that is encoded or decoded whole, by a chain
abbrev pub coded_array : Chain → WholeArray → Coded
coded_array chain array = coded chain (elements_of array.elements.now) array.shape.now

-- an array of which a part is encoded or decoded, by a chain
abbrev pub coded_part : Chain → ArrayPart → Coded
coded_part chain part = coded chain (elements_of part.elements.now) part.shape.now

-- new elements for places of an array that are asked for, and what is stored for the array before they are put there
pub record Update : Type 0 where
  pub asked : Asked
  pub payload : Payload
  pub stored : Option (List ℕ)

-- the same, put together
abbrev pub update_of : Asked → Payload → Option (List ℕ) → Update
update_of asked payload stored = record { asked = asked; payload = payload; stored = stored }

-- elements that are given for the places of a part, before they are put into what is stored
abbrev pub update_part : ArrayPart → ArrayBytes → Option (List ℕ) → Update
update_part part bytes stored = update_of (asked_of part.indexer) (payload_of bytes) stored

-- the same, where they are given together
abbrev pub update_given : GivenPart → Option (List ℕ) → Update
update_given given stored = update_part given.part given.bytes stored
