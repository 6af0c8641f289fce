-- Array codecs leave as many places as there were.
use Rattle.std.proofs.Common.{◌≡◌, ℕ, List, sym, true}
use Rattle.zarr_grids_boxes.specs.Boxes.{product}
use Rattle.zarr_codecs_meaning.specs.Chains.{ArrayCodec}
use Rattle.zarr_codecs_meaning.specs.Fits.{array_codec_fits}
use Rattle.zarr_codecs_meaning.specs.Places.{encoded_shape}
use Rattle.zarr_codecs_meaning.proofs.Once.{product_moved}

pub array_codec_places : (codec : ArrayCodec) (shape : List ℕ) → array_codec_fits codec shape ≡ true → product (encoded_shape codec shape) ≡ product shape
array_codec_places codec shape fit = sym (product_moved codec shape fit)
