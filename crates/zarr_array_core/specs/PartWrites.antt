-- A part of a chunk, written into its value.
use Rattle.std.specs.Prelude.{◌≡◌, ℕ, List, Some, Bool, true, false}
use Rattle.zarr_grids_boxes.specs.Boxes.{Region}
use Rattle.zarr_codecs_meaning.specs.Decoding.{decoded}
use Rattle.zarr_codecs_meaning.specs.Types.{Cell}
use Rattle.zarr_codecs_traits.specs.declared.bytes_representation.BytesRepresentation.{BytesRepresentation}
use Rattle.zarr_codecs_traits.specs.declared.bytes_representation.BytesRepresentation.TheVariants.{FixedSize, BoundedSize, UnboundedSize}
use Rattle.zarr_codecs_traits.specs.Patches.{Patch, any_too_far, patched}
use Rattle.zarr_array_meaning.specs.Writes.{Write}
use Rattle.zarr_array_core.specs.ChunkValues.{MakesValue}

-- whether a size is told, and not a bound or nothing
abbrev pub tells_size : BytesRepresentation → Bool
tells_size (FixedSize n) = true
tells_size (BoundedSize n) = false
tells_size UnboundedSize = false

-- ranges to be written into the value of a chunk, if it is decoded: it is then the value that the chunk is to get
pub record PatchesChunk (write : Write) (box : Region) (patches : List Patch) : Type 0 where
  pub near : any_too_far patches ≡ false
  pub makes : (value : List ℕ) (before : List Cell) → decoded write.array.document.chain write.array.document.elements box.shape value ≡ Some before
      → MakesValue write box (Some value) (Some (patched value patches))
