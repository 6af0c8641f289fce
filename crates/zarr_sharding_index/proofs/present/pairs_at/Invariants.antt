use Rattle.std.proofs.Common.{◌≡◌, map, take}
use Rattle.zarr_sharding_index.specs.Views.{pairs_of}
use Rattle.zarr_sharding_index.proofs.Numbered.{at}
use Rattle.zarr_sharding_index.proofs.present.pairs_at.Given as goal

-- the pairs so far
abbrev pub invariant-loop-number : goal.invariant-loop-number
invariant-loop-number l = pairs_of l.pairs ≡ map (at (pairs_of l.index)) (take l.number-index l.numbers)
