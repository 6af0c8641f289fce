use Rattle.std.proofs.Common.{◌≡◌, ◌+◌, ◌*◌, ◌++◌, length}
use Rattle.std.specs.Prelude.{flat_map}
use Rattle.std.specs.List.{range_with_len}
use Rattle.zarr_codecs_strides.specs.Strides.{walked}
use Rattle.zarr_codecs_strides.proofs.gathering.+push_walk.Given as goal

abbrev pub decreases-push_walk : goal.decreases-push_walk
decreases-push_walk l = length l.walk.sizes.now

-- the elements so far
abbrev pub invariant-loop-i : goal.invariant-loop-i
invariant-loop-i l = l.out.items ≡ l.initial.out.items ++ flat_map (λ k. walked l.stretches.width l.stretches.bytes.now (l.base + k * l.stride) l.sizes l.strides) (range_with_len 0 l.i)
