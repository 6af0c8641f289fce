use Rattle.std.proofs.Common.{◌∙◌, ap, subst}
use Rattle.std.specs.Prelude.{unwrap_or}
use Rattle.std.proofs.lemmas.Result.{IfOk-weaker}
use Rattle.zarr_codecs_meaning.specs.Encoding.{with_padding}
use Rattle.zarr_codecs_types.specs.Views.{components_of}
use Rattle.zarr_codecs_packbits.specs.Packing.{AreSingle}
use Rattle.zarr_codecs_packbits.specs.Views.{padding_of}
use Rattle.zarr_codecs_packbits.specs.declared.turning.Turn.{Turn}
use Rattle.zarr_codecs_packbits.proofs.Singles.{single_kept}
use Rattle.zarr_codecs_packbits.proofs.packing.pack.Goals as goal

pub returns-in-Some : goal.returns-in-Some
returns-in-Some c =
    let parts = components_of c.args.parts.now in
    let kept = c.in-Some.kept in
    let s = subst (λ (t : Turn). AreSingle t.first t.last parts kept) c.turn.ensures c.in-Some.ensures in
    IfOk-weaker c.pack_bytes.result _ _ (λ v h. h ∙ ap (with_padding (padding_of c.args.codec.padding)) (single_kept (unwrap_or c.args.codec.first_bit 0) c.args.codec.last_bit parts kept c.args.bytes.now s)) c.pack_bytes.ensures
