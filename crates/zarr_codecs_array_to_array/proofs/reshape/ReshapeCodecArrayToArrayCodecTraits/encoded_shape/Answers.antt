use Rattle.std.proofs.Common.{map}
use Rattle.zarr_codecs_array_to_array.specs.Entries.{entry_of}
use Rattle.zarr_codecs_array_to_array.specs.Views.{entries_of}
use Rattle.zarr_codecs_array_to_array.proofs.NewSizes.{encoded_by}
use Rattle.zarr_codecs_array_to_array.proofs.reshape.ReshapeCodecArrayToArrayCodecTraits.encoded_shape.Goals as goal

pub returns-in_ok-sizes-in-Some : goal.returns-in_ok-sizes-in-Some
returns-in_ok-sizes-in-Some c =
    encoded_by (map entry_of c.as_slice-dimensions.result.now) (entries_of c.args.self.now.shape) c.args.decoded_shape.now c.in_ok-sizes-in-Some.field-0.items c.in-Some.left c.as_slice-dimensions.ensures c.in-Some.ensures c.in_ok-sizes-in-Some.ensures
