-- What is told of the sizes of arrays of few elements.
use Rattle.std.specs.Prelude.{◌≡◌, ◌<◌, ℕ, ◌^◌, List, true, Result, IfErr}
use Rattle.zarr_grids_boxes.specs.Boxes.{product}
use Rattle.zarr_codecs_meaning.specs.Chains.{Chain}
use Rattle.zarr_codecs_meaning.specs.Types.{DataType}
use Rattle.zarr_codecs_arrays.specs.declared.error.CodecError.{CodecError}
use Rattle.zarr_codecs_arrays.specs.declared.error.CodecError.TheVariants as error
use Rattle.zarr_codecs_meaning.specs.Fits.{tells_too_long}
use Rattle.zarr_codecs_traits.specs.declared.bytes_representation.BytesRepresentation.{BytesRepresentation}

-- of fewer than 2^63 elements the size is refused as too large only where one of 2^63 bytes or more is told, however many bytes the elements have in memory
abbrev pub RefusesToldSizes : Chain → DataType → List ℕ → Result BytesRepresentation CodecError → Type 0
RefusesToldSizes chain type shape result = product shape < 2 ^ 63 → IfErr result (λ e. e ≡ error.Size → tells_too_long chain type shape ≡ true)
