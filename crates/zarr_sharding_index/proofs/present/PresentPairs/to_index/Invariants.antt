use Rattle.std.proofs.Common.{◌≡◌, take}
use Rattle.zarr_sharding_index.specs.Listed.{full_list}
use Rattle.zarr_sharding_index.specs.Present.{kept_pairs}
use Rattle.zarr_sharding_index.specs.Views.{pairs_of}
use Rattle.zarr_sharding_index.proofs.present.PresentPairs.to_index.Given as goal

-- the full list of the pairs so far
abbrev pub invariant-loop-k : goal.invariant-loop-k
invariant-loop-k l = pairs_of l.index ≡ full_list l.self.count (take l.k (kept_pairs l.self))
