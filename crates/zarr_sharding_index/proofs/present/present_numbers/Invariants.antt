use Rattle.std.proofs.Common.{◌≡◌}
use Rattle.zarr_sharding_index.specs.Views.{pairs_of}
use Rattle.zarr_sharding_index.proofs.Numbered.{present_below}
use Rattle.zarr_sharding_index.proofs.present.present_numbers.Given as goal

-- the numbers so far
abbrev pub invariant-loop-number : goal.invariant-loop-number
invariant-loop-number l = l.numbers.items ≡ present_below (pairs_of l.index) l.number
