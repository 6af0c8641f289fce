-- What an array of `src/` stands for.
use Rattle.std.specs.Prelude.{ℕ, List, Bool}
use Rattle.zarr_grids_chunk_grids.specs.Grids.{grid_of_chunks, sizes_of_grid}
use Rattle.zarr_grids_keys.specs.Encodings.{keys_of}
use Rattle.zarr_codecs_meaning.specs.Types.{Cell}
use Rattle.zarr_codecs_arrays.specs.Outcomes.{IsCounted}
use Rattle.zarr_codecs_arrays.specs.Views.{elements_of, payload_of}
use Rattle.zarr_codecs_arrays.specs.declared.array_bytes.ArrayBytes.{ArrayBytes}
use Rattle.zarr_array_elements.specs.Boxes.{cells_of}
use Rattle.zarr_codecs_meaning.specs.Chains.{Chain}
use Rattle.zarr_array_meaning.specs.Documents.{Document}
use Rattle.zarr_array_core.specs.declared.array_core.ArrayCore.{ArrayCore}

-- what the array's document says of the cells and of where they are stored, given the chain that its codecs are
abbrev pub document_of : {C : Type 0} → (C → Chain) → ArrayCore C → Document
document_of meaning array = record { shape = sizes_of_grid array.grid; elements = elements_of array.elements; grid = grid_of_chunks array.grid; keys = keys_of array.keys; chain = meaning array.codecs }

-- the codecs that store the array's chunks
abbrev pub codecs_of : {C : Type 0} → ArrayCore C → C
codecs_of array = array.codecs

-- whether what the array's codecs make of elements depends on these alone
abbrev pub is_exact : {C : Type 0} → (C → Bool) → ArrayCore C → Bool
is_exact is_function array = is_function (codecs_of array)

-- the path of the array's node
abbrev pub path_of : {C : Type 0} → ArrayCore C → List ℕ
path_of array = array.path

-- the elements that bytes are of those of an array, and none where they are none of its type's
abbrev pub array_cells : {C : Type 0} → ArrayCore C → ArrayBytes → List Cell
array_cells array bytes = cells_of (elements_of array.elements).type (payload_of bytes)

-- bytes are so many elements of an array's type
abbrev pub AreSoMany : {C : Type 0} → ArrayCore C → ArrayBytes → ℕ → Type 0
AreSoMany array bytes count = IsCounted (elements_of array.elements).type (payload_of bytes) count (array_cells array bytes)
