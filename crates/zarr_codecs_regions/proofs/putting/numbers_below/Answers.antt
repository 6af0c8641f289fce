use Rattle.std.proofs.Common.{◌≡◌, ◌∙◌, ◌+◌, [], ◌∷◌, ◌++◌, sym, ap, arith}
use Rattle.std.specs.List.{range_with_len}
use Rattle.zarr_grids_boxes.proofs.Places.{range_with_len-append}
use Rattle.zarr_codecs_regions.proofs.putting.numbers_below.Goals as goal

pub loop-number-preserved : goal.loop-number-preserved
loop-number-preserved c =
    let n = c.loop-number.number in
    let same : 0 + n ≡ n = omega arith in
    c.in_ok-push.ensures.items
    ∙ (ap (λ ns. ns ++ n ∷ []) c.loop-number.invariant
    ∙ sym (range_with_len-append 0 n 1 ∙ ap (λ m. range_with_len 0 n ++ m ∷ []) same))
