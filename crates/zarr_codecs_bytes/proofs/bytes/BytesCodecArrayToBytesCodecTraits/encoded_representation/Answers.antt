use Rattle.std.proofs.Common.{◌∙◌, option_map, sym}
use Rattle.zarr_codecs_types.specs.Views.{type_of}
use Rattle.zarr_codecs_bytes.specs.Views.{order_of}
use Rattle.zarr_codecs_bytes.proofs.ToldSizes.{bytes_told}
use Rattle.zarr_codecs_bytes.proofs.bytes.BytesCodecArrayToBytesCodecTraits.encoded_representation.Goals as goal

pub returns-in-Ok : goal.returns-in-Ok
returns-in-Ok c =
    bytes_told (option_map order_of c.args.self.now.endian) (type_of c.args.data_type.now) c.args.shape.now c.in-Some.count c.in-Ok.size (sym c.suits.ensures ∙ c.if-not-suits.false) c.in-Some.ensures.1 c.in-Ok.ensures.ok c.in-Ok.ensures.small
