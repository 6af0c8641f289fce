use Rattle.std.proofs.Common.{◌≡◌, drop}
use Rattle.std.specs.List.{list_all}
use Rattle.zarr_sharding_index.specs.Held.{lies_between}
use Rattle.zarr_sharding_index.specs.Present.{kept_pairs}
use Rattle.zarr_sharding_index.specs.Views.{pair_of}
use Rattle.zarr_sharding_index.specs.declared.pair.PresentPair.{PresentPair}
use Rattle.zarr_sharding_index.proofs.fetched_shard.all_lie_between.Given as goal

-- the pairs that are left decide
abbrev pub invariant-loop-k : goal.invariant-loop-k
invariant-loop-k l =
    let lies = λ (p : PresentPair). lies_between l.base l.end (pair_of p.range) in
    list_all lies (drop l.k (kept_pairs l.pairs)) ≡ list_all lies (kept_pairs l.pairs)
