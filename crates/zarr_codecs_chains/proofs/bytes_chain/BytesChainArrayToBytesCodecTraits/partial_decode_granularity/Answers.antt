use Rattle.std.proofs.Common.{◌≡◌, map, sym, subst}
use Rattle.std.specs.Prelude.{IfOk}
use Rattle.zarr_codecs_chains.specs.Views.{codec_chain}
use Rattle.zarr_codecs_around.proofs.Telling.{granularity_with}
use Rattle.zarr_codecs_chains.proofs.bytes_chain.BytesChainArrayToBytesCodecTraits.partial_decode_granularity.Goals as goal

pub returns : goal.returns
returns g c =
    let codecs = map g.B.BytesToBytesCodecTraits.meaning c.args.self.now.bytes_to_bytes.items in
    subst (λ sizes. IfOk c.partial_decode_granularity.result (λ part. part.items ≡ sizes)) (sym (granularity_with (codec_chain g.B.BytesToBytesCodecTraits.meaning c.args.self.now.array_to_bytes) codecs c.args.shape.now)) c.partial_decode_granularity.ensures
