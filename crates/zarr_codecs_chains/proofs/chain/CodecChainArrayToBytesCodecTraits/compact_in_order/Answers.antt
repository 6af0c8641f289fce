use Rattle.std.proofs.Common.{◌∙◌, ap, sym}
use Rattle.zarr_codecs_meaning.specs.Fits.{fits}
use Rattle.zarr_sharding_changes.proofs.Compactions.{plain_kept}
use Rattle.zarr_codecs_around.specs.Views.{codecs_of}
use Rattle.zarr_codecs_chains.specs.Views.{bytes_meaning, meaning_of}
use Rattle.zarr_codecs_around.specs.Views.{plain_before}
use Rattle.zarr_codecs_chains.specs.Views.{bytes_plain}
use Rattle.zarr_codecs_chains.proofs.chain.CodecChainArrayToBytesCodecTraits.compact_in_order.Goals as goal

pub returns : goal.returns
returns g c =
    let rest = bytes_meaning g.B.BytesToBytesCodecTraits.meaning c.args.self.now.others in
    let chain = meaning_of g.B.BytesToBytesCodecTraits.meaning c.args.self.now in (
      ap (λ t. fits chain t c.args.shape.now) (sym c.data_type.ensures) ∙ (sym c.in_ok-fits.ensures ∙ c.if-not-branch.false),
      plain_kept chain c.args.shape.now c.args.arg3.now (plain_before (codecs_of c.args.self.now.array_to_array.items) rest ∙ bytes_plain g.B.BytesToBytesCodecTraits.meaning c.args.self.now.others),
    )
