use Rattle.std.proofs.Common.{◌∙◌, ap}
use Rattle.zarr_sharding_index.specs.Views.{pairs_of_bytes}
use Rattle.zarr_sharding_index.proofs.PairBytes.{pairs_absent}
use Rattle.zarr_sharding_index.proofs.index.ShardIndex.all_absent.Goals as goal

pub returns : goal.returns
returns c = ap pairs_of_bytes (c.in_ok-vec.ensures.items_if_clones_equal (λ x e. e)) ∙ pairs_absent c.args.count c.in-Some.total c.in-Some.ensures.1
