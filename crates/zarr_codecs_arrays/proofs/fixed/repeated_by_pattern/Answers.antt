use Rattle.std.proofs.Common.{◌≡◌, ◌++◌, ◌/◌, ◌%◌, ap, ◌∙◌}
use Rattle.std.specs.List.{repeat}
use Rattle.zarr_codecs_arrays.proofs.Repeats.{repeat_runs}
use Rattle.zarr_codecs_arrays.proofs.fixed.repeated_by_pattern.Goals as goal

pub returns : goal.returns
returns c =
    let run = c.max-run.result in
    let element = c.args.element.now in
    let pattern : c.as_slice.result.now ≡ repeat run element = c.as_slice.ensures.value ∙ (c.in_ok-push_copies.ensures ∙ ap (λ ns. ns ++ repeat run element) c.new-pattern.ensures.items) in
    let runs : c.push_copies-2.new.bytes.items ≡ repeat (c.args.count / run) (repeat run element) =
    c.in_ok-push_copies-2.ensures ∙ (ap (λ ns. ns ++ repeat (c.args.count / run) c.as_slice.result.now) c.in_ok-bytes.ensures.items ∙ ap (repeat (c.args.count / run)) pattern) in
    c.in_ok-push_copies-3.ensures ∙ (ap (λ ns. ns ++ repeat (c.args.count % run) element) runs ∙ repeat_runs c.args.count run element)
