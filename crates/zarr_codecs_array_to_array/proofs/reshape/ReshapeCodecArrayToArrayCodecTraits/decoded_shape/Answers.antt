use Rattle.std.proofs.Common.{refl}
use Rattle.zarr_codecs_array_to_array.specs.Views.{entries_of}
use Rattle.zarr_codecs_array_to_array.proofs.DecodedShapes.{none_reshaped}
use Rattle.zarr_codecs_array_to_array.proofs.reshape.ReshapeCodecArrayToArrayCodecTraits.decoded_shape.Goals as goal

pub returns : goal.returns
returns c = (refl, none_reshaped (entries_of c.args.self.now.shape) c.args.arg3.now)
