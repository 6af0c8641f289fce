use Rattle.std.proofs.Common.{◌∙◌, ap, arith, sym}
use Rattle.std.specs.List.{list_all}
use Rattle.zarr_sharding_index.specs.Held.{lies_between}
use Rattle.zarr_sharding_index.specs.Views.{pairs_of}
use Rattle.zarr_sharding_index.proofs.Lying.{all_within_lie, all_within_present}
use Rattle.zarr_sharding_index.proofs.fetched_shard.pairs_between.Goals as goal

pub from_all_present-requires : goal.from_all_present-requires
from_all_present-requires c = all_within_present c.args.base c.args.end (pairs_of c.args.index) (omega arith) (sym c.all_lie_within.ensures ∙ c.if-all_lie_within.true)

pub returns-then-all_lie_within-clause-lie : goal.returns-then-all_lie_within-clause-lie
returns-then-all_lie_within-clause-lie c = sym (all_within_lie c.args.base c.args.end (pairs_of c.args.index) (sym c.all_lie_within.ensures ∙ c.if-all_lie_within.true))

pub returns-then-all_lie_between-clause-lie : goal.returns-then-all_lie_between-clause-lie
returns-then-all_lie_between-clause-lie c = sym c.if-all_lie_between.true ∙ (c.all_lie_between.ensures ∙ ap (list_all (lies_between c.args.base c.args.end)) c.in_ok-pairs.ensures)

pub returns-else-all_lie_between-clause-lie : goal.returns-else-all_lie_between-clause-lie
returns-else-all_lie_between-clause-lie c = sym c.if-all_lie_between.false ∙ (c.all_lie_between.ensures ∙ ap (list_all (lies_between c.args.base c.args.end)) c.in_ok-pairs.ensures)
