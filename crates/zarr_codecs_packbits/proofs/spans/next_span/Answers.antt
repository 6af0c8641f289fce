use Rattle.std.proofs.Common.{◌++◌, [], ℕ, List, subst, sym}
use Rattle.zarr_codecs_packbits.specs.Spans.{AreSoFar, IsOpen, span_numbers}
use Rattle.zarr_codecs_packbits.specs.declared.spans.Span.{Span}
use Rattle.zarr_codecs_packbits.proofs.SpanNumbers.{first_so_far, joined_so_far, pushed_so_far}
use Rattle.zarr_codecs_packbits.proofs.spans.next_span.Goals as goal

pub returns-in_default-clause-so_far : goal.returns-in_default-clause-so_far
returns-in_default-clause-so_far c = λ numbers h.
    let next = c.args.next in
    let none = subst (IsOpen numbers c.args.spans.now.items) c.in_default.is h in
    subst (λ (spans : List Span). AreSoFar (numbers ++ span_numbers next) spans next) (sym none.1) (subst (λ (ns : List ℕ). AreSoFar (ns ++ span_numbers next) [] next) (sym none.0) (first_so_far next c.requires.some))

pub returns-in-Some-joined-clause-so_far : goal.returns-in-Some-joined-clause-so_far
returns-in-Some-joined-clause-so_far c = λ numbers h.
    let next = c.args.next in
    let items = c.args.spans.now.items in
    let open_span = subst (IsOpen numbers items) c.in-Some.is h in
    subst (AreSoFar (numbers ++ span_numbers next) items) (sym c.in-Some-joined.ensures.both) (joined_so_far numbers items c.in-Some.last next open_span c.requires.some c.in-Some-joined.ensures.next)

pub returns-in_ok-push-in-None-clause-so_far : goal.returns-in_ok-push-in-None-clause-so_far
returns-in_ok-push-in-None-clause-so_far c = λ numbers h.
    let next = c.args.next in
    let items = c.args.spans.now.items in
    let open_span = subst (IsOpen numbers items) c.in-Some.is h in
    subst (λ (spans : List Span). AreSoFar (numbers ++ span_numbers next) spans next) (sym c.in_ok-push-in-None.ensures.items) (pushed_so_far numbers items c.in-Some.last next open_span c.requires.some c.in-None.ensures.none)
