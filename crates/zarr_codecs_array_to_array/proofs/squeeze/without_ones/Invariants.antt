use Rattle.std.proofs.Common.{◌≡◌, ◌==◌, ◌++◌, drop, not}
use Rattle.std.specs.List.{filter}
use Rattle.zarr_codecs_array_to_array.proofs.squeeze.without_ones.Given as goal

-- the sizes so far, and those that are left
abbrev pub invariant-loop-size : goal.invariant-loop-size
invariant-loop-size l = filter (λ size. not (size == 1)) l.shape ≡ l.sizes.items ++ filter (λ size. not (size == 1)) (drop l.size-index l.shape)
