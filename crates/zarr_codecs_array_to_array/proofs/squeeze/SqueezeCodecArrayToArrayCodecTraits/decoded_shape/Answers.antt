use Rattle.std.proofs.Common.{refl}
use Rattle.zarr_codecs_array_to_array.proofs.DecodedShapes.{none_squeezed}
use Rattle.zarr_codecs_array_to_array.proofs.squeeze.SqueezeCodecArrayToArrayCodecTraits.decoded_shape.Goals as goal

pub returns : goal.returns
returns c = (refl, none_squeezed c.args.arg3.now)
