use Rattle.std.proofs.Common.{◌≤◌, ◌+◌, ◌^◌, take, IfSome}
use Rattle.zarr_codecs_packbits.specs.Spans.{IsOpen}
use Rattle.zarr_codecs_packbits.specs.declared.spans.Span.{Span}
use Rattle.zarr_codecs_packbits.proofs.spans.spans_of.Given as goal

abbrev pub invariant-loop-number : goal.invariant-loop-number
invariant-loop-number l = record {
  small : IfSome l.open (λ (span : Span). span.start + span.count ≤ 2 ^ 63);
  so_far : IsOpen (take l.number-index l.numbers) l.spans.items l.open;
}
