use Rattle.std.proofs.Common.{◌∙◌, ◌-◌, ap, arith, sym, Some}
use Rattle.zarr_codecs_around.proofs.Left.{refused_before}
use Rattle.zarr_codecs_around.proofs.byte_codecs.decode_all.Goals as goal

pub returns-in-Err : goal.returns-in-Err
returns-in-Err g c =
    let meaning = g.B.BytesToBytesCodecTraits.meaning in
    refused_before meaning c.args.codecs.now c.index-codecs-k.result (c.loop-k.k - 1) c.loop-k.k c.args.bytes.items c.as_slice.result.now c.in-Err.error (omega arith) (omega arith) c.index-codecs-k.is (c.loop-k.invariant ∙ ap Some (sym c.as_slice.ensures.value)) c.in-Err.ensures
