use Rattle.std.proofs.Common.{map}
use Rattle.zarr_codecs_arrays.specs.Views.{elements_of}
use Rattle.zarr_codecs_around.proofs.Chains.{decodes_with}
use Rattle.zarr_codecs_around.proofs.then_bytes.ThenBytesArrayToBytesCodecTraits.put_pieces.Goals as goal

pub returns : goal.returns
returns g c = λ value cut made.
    let codecs = map g.B.BytesToBytesCodecTraits.meaning c.args.self.now.bytes_to_bytes.items in
    decodes_with (g.A.ArrayToBytesCodecTraits.meaning c.args.self.now.codec) codecs (elements_of c.args.elements.now) c.args.shape.now value cut.inside c.put_pieces.result cut.undone (c.put_pieces.ensures cut.inside cut.cut made)
