use Rattle.std.proofs.Common.{◌≡◌, Bool, subst}
use Rattle.std.specs.Prelude.{IfOk}
use Rattle.zarr_codecs_types.specs.Views.{type_of}
use Rattle.zarr_codecs_chains.specs.Views.{codec_chain}
use Rattle.zarr_codecs_chains.proofs.Alone.{fits_alone, none_before, takes_alone}
use Rattle.zarr_codecs_chains.proofs.fitting.+fitting_alike.Goals as goal

pub fits_alike-returns : goal.fits_alike-returns
fits_alike-returns g t c = λ shape takes.
    let meaning = g.B.BytesToBytesCodecTraits.meaning in
    let own = c.args.chain.now in
    let before = own.array_to_array.items in
    let chain = codec_chain meaning own.others.array_to_bytes in
    let after = own.others.bytes_to_bytes.items in
    subst (λ (b : Bool). IfOk c.codec_fits_alike.result (λ fit. fit ≡ b))
    (fits_alone meaning before chain after (type_of c.args.data_type.now) shape (none_before meaning before chain after takes)) (c.codec_fits_alike.ensures shape (takes_alone meaning before chain after takes))
