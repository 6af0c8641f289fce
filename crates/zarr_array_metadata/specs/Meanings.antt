-- What a document that was opened says.
use Rattle.std.specs.Prelude.{Result}
use Rattle.serde_json.specs.Data.{Members}
use Rattle.zarr_grids_chunk_grids.specs.Grids.{grid_of_chunks, sizes_of_grid}
use Rattle.zarr_grids_keys.specs.Encodings.{keys_of}
use Rattle.zarr_codecs_meaning.specs.Chains.{ByteCodec}
use Rattle.zarr_codecs_metadata.specs.Chains.{ReadsCodecs}
use Rattle.zarr_codecs_arrays.specs.Views.{elements_of}
use Rattle.zarr_sharding_chains.specs.ArrayChains.{array_meaning}
use Rattle.zarr_array_meaning.specs.Documents.{Document, Metadata, ◌>>=◌, version_3_of, read_members}
use Rattle.zarr_array_meaning.specs.declared.error.DocumentError.{DocumentError}
use Rattle.zarr_array_metadata.specs.declared.document.ArrayDocument.{ArrayDocument}

-- what a document that was opened says of the cells and of where they are stored, given what the caller's codecs are
abbrev pub meaning_of : {B : Type 0} → (B → ByteCodec) → ArrayDocument B → Document
meaning_of meaning d = record { shape = sizes_of_grid d.grid; elements = elements_of d.elements; grid = grid_of_chunks d.grid; keys = keys_of d.keys; chain = array_meaning meaning d.codecs }

-- all that the members of a document of version 3 or 2 say, or the first check that refuses them
abbrev pub read_versions : ReadsCodecs → Members → Result Metadata DocumentError
read_versions reads ms = do
  members ← version_3_of ms
  read_members reads members
