use Rattle.std.proofs.Common.{◌≡◌, ◌++◌, ◌-◌, drop}
use Rattle.zarr_grids_boxes.specs.Boxes.{each2}
use Rattle.zarr_grids_dimensions.proofs.lookups.differences.Given as goal

-- what is left goes on from what was found
abbrev pub invariant-loop-k : goal.invariant-loop-k
invariant-loop-k l = each2 (λ n o. n - o) l.numbers l.others ≡ l.found.items ++ each2 (λ n o. n - o) (drop l.k l.numbers) (drop l.k l.others)
