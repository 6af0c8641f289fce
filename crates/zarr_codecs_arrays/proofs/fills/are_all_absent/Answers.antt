use Rattle.zarr_codecs_arrays.proofs.Filled.{absent_long, absent_marks}
use Rattle.zarr_codecs_arrays.proofs.fills.are_all_absent.Goals as goal

pub returns-then-count-mask : goal.returns-then-count-mask
returns-then-count-mask c below h = absent_long c.args.count c.in-Some.count c.args.mask.now below c.in-Some.is c.if-count-mask.true h

pub returns-else-count-mask : goal.returns-else-count-mask
returns-else-count-mask c below h = absent_marks c.args.count c.in-Some.count c.args.mask.now below c.is_all.result c.in-Some.is c.if-count-mask.false h c.is_all.ensures
