use Rattle.std.proofs.Common.{◌∙◌, ap, sym}
use Rattle.zarr_codecs_meaning.specs.Fits.{fits}
use Rattle.zarr_sharding_changes.proofs.Compactions.{plain_kept}
use Rattle.zarr_codecs_chains.specs.Views.{codec_chain}
use Rattle.zarr_codecs_chains.specs.Views.{codec_plain}
use Rattle.zarr_codecs_chains.proofs.array_to_bytes.ArrayToBytesCodecArrayToBytesCodecTraits.compact_in_order.Goals as goal

pub returns : goal.returns
returns g c =
    let meaning = g.B.BytesToBytesCodecTraits.meaning in
    let chain = codec_chain meaning c.args.self.now in
    (ap (λ t. fits chain t c.args.shape.now) (sym c.data_type.ensures) ∙ (sym c.in_ok-fits_codec.ensures ∙ c.if-not-branch.false), plain_kept chain c.args.shape.now c.args.arg3.now (codec_plain meaning c.args.self.now))
