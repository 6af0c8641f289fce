use Rattle.std.proofs.Common.{◌≡◌, Bool, map, sym, subst}
use Rattle.std.specs.Prelude.{IfOk}
use Rattle.zarr_codecs_types.specs.Views.{type_of}
use Rattle.zarr_codecs_chains.specs.Views.{codec_chain}
use Rattle.zarr_codecs_around.proofs.Chains.{fits_with}
use Rattle.zarr_codecs_chains.proofs.bytes_chain.BytesChainArrayToBytesCodecTraits.fits.Goals as goal

pub returns : goal.returns
returns g c =
    let codecs = map g.B.BytesToBytesCodecTraits.meaning c.args.self.now.bytes_to_bytes.items in
    subst (λ (b : Bool). IfOk c.fits.result (λ fit. fit ≡ b)) (sym (fits_with (codec_chain g.B.BytesToBytesCodecTraits.meaning c.args.self.now.array_to_bytes) codecs (type_of c.args.data_type.now) c.args.shape.now)) c.fits.ensures
