use Rattle.std.proofs.Common.{◌∙◌, sym}
use Rattle.zarr_codecs_arrays.proofs.Counts.{masked_count_then, masked_count_long, masked_count_marks}
use Rattle.zarr_codecs_arrays.proofs.counting.masked_count.Goals as goal
use Rattle.zarr_codecs_arrays.proofs.counting.masked_count.Goals.{else-branch-mask-via-then-branch-mask+else-are_below, else-branch-mask-via-else-branch-mask}

pub returns-then-are_below : goal.returns-then-are_below
returns-then-are_below c below h = masked_count_then c.args.count c.args.mask.now c.in_ok-count.field-0 below c.in_ok-count.was c.if-branch-mask.true (sym c.are_below.ensures ∙ c.if-are_below.true) h

pub returns-else-branch-mask : goal.returns-else-branch-mask
returns-else-branch-mask c below h = elim c.else-branch-mask.branch [
  | else-branch-mask-via-then-branch-mask+else-are_below w ↦ masked_count_marks c.args.count c.args.mask.now below (sym w.are_below.ensures ∙ w.if-are_below.false) h
  | else-branch-mask-via-else-branch-mask w ↦ masked_count_long c.args.count c.args.mask.now c.in_ok-count.field-0 below c.in_ok-count.was w.if-branch-mask.false h
]
