-- The chunk grid of a document.
use Rattle.std.specs.Prelude.{ℕ, List, length, ◌==◌, Result}
use Rattle.std.specs.Option.{ok_or}
use Rattle.serde_json.specs.Data.{Data}
use Rattle.zarr_grids_chunks.specs.Grids.{Grid}
use Rattle.zarr_grids_configurations.specs.Configurations.{configuration_in}
use Rattle.zarr_grids_configurations.specs.Grids.{grid_in}
use Rattle.zarr_array_meaning.specs.Documents.{◌>>=◌, ◌>>◌, check}
use Rattle.zarr_array_meaning.specs.declared.error.DocumentError.{DocumentError}
use Rattle.zarr_array_meaning.specs.declared.error.DocumentError.TheVariants.{ChunkGrid, Dimensionality}

-- the chunk grid of an array's shape that the member `chunk_grid` says, or the first of its three checks that refuses it
abbrev pub grid_for : List ℕ → Data → Result Grid DocumentError
grid_for shape d = do
  configuration ← ok_or (configuration_in d) ChunkGrid
  check (length configuration == length shape) Dimensionality
  ok_or (grid_in shape configuration) ChunkGrid
