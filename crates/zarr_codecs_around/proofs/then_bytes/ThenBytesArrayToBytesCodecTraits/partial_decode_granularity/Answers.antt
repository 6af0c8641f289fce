use Rattle.std.proofs.Common.{◌≡◌, map, sym, subst}
use Rattle.std.specs.Prelude.{IfOk}
use Rattle.zarr_codecs_around.proofs.Telling.{granularity_with}
use Rattle.zarr_codecs_around.proofs.then_bytes.ThenBytesArrayToBytesCodecTraits.partial_decode_granularity.Goals as goal

pub returns : goal.returns
returns g c =
    let codecs = map g.B.BytesToBytesCodecTraits.meaning c.args.self.now.bytes_to_bytes.items in
    subst (λ sizes. IfOk c.partial_decode_granularity.result (λ part. part.items ≡ sizes)) (sym (granularity_with (g.A.ArrayToBytesCodecTraits.meaning c.args.self.now.codec) codecs c.args.shape.now)) c.partial_decode_granularity.ensures
