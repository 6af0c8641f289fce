use Rattle.zarr_sharding_codec.proofs.ShardSizes.{sum_long, sum_told}
use Rattle.zarr_sharding_codec.proofs.representing.bounded.Goals as goal

pub returns-then-all : goal.returns-then-all
returns-then-all c = λ sum is. sum_told c.args.size sum c.args.slices c.in-Some.all is c.in-Some.ensures.1 c.if-all.true

pub returns-else-all : goal.returns-else-all
returns-else-all c = λ sum is. sum_long c.args.size sum c.args.slices c.in-Some.all is c.in-Some.ensures.1 c.if-all.false
