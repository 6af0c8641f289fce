use Rattle.std.proofs.Common.{map}
use Rattle.zarr_codecs_arrays.specs.Views.{elements_of}
use Rattle.zarr_codecs_traits.specs.Indexers.{asked_of}
use Rattle.zarr_codecs_around.proofs.CutInside.{stored_undone}
use Rattle.zarr_codecs_around.proofs.then_bytes.ThenBytesArrayToBytesCodecTraits.put_part.Goals as goal

pub returns-clause-part : goal.returns-clause-part
returns-clause-part g c = λ stored cut made.
    let codecs = map g.B.BytesToBytesCodecTraits.meaning c.args.self.now.bytes_to_bytes.items in
    stored_undone (g.A.ArrayToBytesCodecTraits.meaning c.args.self.now.codec) codecs (elements_of c.args.part.elements.now) c.args.part.shape.now stored cut.inside (asked_of c.args.part.indexer) c.put_part.result cut.undone (c.put_part.ensures.part cut.inside cut.cut made)
