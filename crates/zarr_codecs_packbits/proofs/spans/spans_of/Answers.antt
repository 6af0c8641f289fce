use Rattle.std.proofs.Common.{rules, ◌≤◌, ℕ, List, length, take, subst}
use Rattle.std.proofs.lemmas.List.{take_all}
use Rattle.zarr_codecs_packbits.specs.Spans.{AreSpans}
use Rattle.zarr_codecs_packbits.proofs.spans.spans_of.Goals as goal

pub returns : goal.returns
returns c =
    let numbers = c.args.numbers.now in
    let i = c.loop-number.number-index in
    let done : length numbers ≤ i = search (rules, c.loop-number-test.false) in
    subst (λ (ns : List ℕ). AreSpans ns c.end_spans.new.spans.items) (take_all i numbers done) (c.in_ok-end_spans.ensures (take i numbers) c.loop-number.invariant.so_far)
