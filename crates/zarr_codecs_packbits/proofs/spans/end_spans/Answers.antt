use Rattle.std.proofs.Common.{subst, sym}
use Rattle.zarr_codecs_packbits.specs.Spans.{AreSpans, IsOpen}
use Rattle.zarr_codecs_packbits.proofs.SpanNumbers.{ended_spans}
use Rattle.zarr_codecs_packbits.proofs.spans.end_spans.Goals as goal

pub returns-in_ok-push : goal.returns-in_ok-push
returns-in_ok-push c = λ numbers h.
    let items = c.args.spans.now.items in
    subst (AreSpans numbers) (sym c.in_ok-push.ensures.items) (ended_spans numbers items c.in-Some.last (subst (IsOpen numbers items) c.in-Some.is h))
