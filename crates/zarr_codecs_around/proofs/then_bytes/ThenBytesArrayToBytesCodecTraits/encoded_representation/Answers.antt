use Rattle.std.proofs.Common.{map, subst}
use Rattle.zarr_codecs_types.specs.Views.{type_of}
use Rattle.zarr_codecs_traits.specs.Representations.{known_size}
use Rattle.zarr_codecs_around.specs.Codecs.{RepresentsAll}
use Rattle.zarr_codecs_around.proofs.Telling.{represents_with, unrepresented_with}
use Rattle.zarr_codecs_around.proofs.then_bytes.ThenBytesArrayToBytesCodecTraits.encoded_representation.Goals as goal

pub returns-in-Ok : goal.returns-in-Ok
returns-in-Ok g c =
    let codecs = map g.B.BytesToBytesCodecTraits.meaning c.args.self.now.bytes_to_bytes.items in
    let told = subst (λ xs. RepresentsAll (map g.B.BytesToBytesCodecTraits.meaning xs) (known_size c.in-Ok.size) c.represent_all.result) c.as_slice.ensures.value c.represent_all.ensures in
    represents_with (g.A.ArrayToBytesCodecTraits.meaning c.args.self.now.codec) codecs (type_of c.args.data_type.now) c.args.shape.now c.in-Ok.size c.represent_all.result c.in-Ok.ensures told

pub returns-in-Err : goal.returns-in-Err
returns-in-Err g c =
    unrepresented_with (g.A.ArrayToBytesCodecTraits.meaning c.args.self.now.codec) (map g.B.BytesToBytesCodecTraits.meaning c.args.self.now.bytes_to_bytes.items) (type_of c.args.data_type.now) c.args.shape.now c.in-Err.error c.in-Err.ensures
