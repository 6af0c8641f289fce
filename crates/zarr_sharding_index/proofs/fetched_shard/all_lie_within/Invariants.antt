use Rattle.std.proofs.Common.{◌≡◌, drop}
use Rattle.std.specs.List.{list_all}
use Rattle.zarr_sharding_index.specs.Held.{lies_within}
use Rattle.zarr_sharding_index.specs.Views.{pairs_of}
use Rattle.zarr_sharding_index.proofs.fetched_shard.all_lie_within.Given as goal

-- the pairs that are left decide
abbrev pub invariant-loop-n : goal.invariant-loop-n
invariant-loop-n l = list_all (lies_within l.base l.end) (drop l.n (pairs_of l.index)) ≡ list_all (lies_within l.base l.end) (pairs_of l.index)
