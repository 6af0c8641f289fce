use Rattle.std.proofs.Common.{ap, ◌∙◌, sym, ◌++◌, append_assoc}
use Rattle.std.specs.List.{repeat}
use Rattle.zarr_codecs_arrays.proofs.Repeats.{repeat_more}
use Rattle.zarr_codecs_arrays.proofs.fixed.push_copies.Goals as goal

pub loop-copy-preserved : goal.loop-copy-preserved
loop-copy-preserved c =
    let piece = c.args.piece.now in
    let before = c.args.bytes.now.items in
    let done = c.loop-copy._copy in
    c.in_ok-extend_from_slice.ensures.items
    ∙ (ap (λ ns. ns ++ piece) c.loop-copy.invariant ∙ (append_assoc before (repeat done piece) piece ∙ ap (λ ns. before ++ ns) (sym (repeat_more done piece))))
