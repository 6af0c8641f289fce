use Rattle.std.proofs.Common.{◌∙◌, sym, ap, Bool, ◌&&◌}
use Rattle.zarr_codecs_arrays.proofs.Filled.{present_long, present_marks}
use Rattle.zarr_codecs_arrays.proofs.fills.are_all_present.Goals as goal

pub returns-then-count-mask : goal.returns-then-count-mask
returns-then-count-mask c cell elements h k = present_long c.args.count c.in-Some.count c.args.mask.now cell elements c.in-Some.is c.if-count-mask.true h

pub returns-then-not-is_all : goal.returns-then-not-is_all
returns-then-not-is_all c cell elements h k = present_marks c.args.count c.in-Some.count c.args.mask.now cell elements _ c.args.below c.in-Some.is c.if-count-mask.false h k (ap (λ (b : Bool). b && c.args.below) (sym c.is_all.ensures ∙ c.if-not-is_all.true))

pub returns-else-not-is_all : goal.returns-else-not-is_all
returns-else-not-is_all c cell elements h k = present_marks c.args.count c.in-Some.count c.args.mask.now cell elements _ c.args.below c.in-Some.is c.if-count-mask.false h k (ap (λ (b : Bool). b && c.args.below) (sym c.is_all.ensures ∙ c.if-not-is_all.false))
