use Rattle.std.proofs.Common.{◌≡◌, ◌+◌, ◌*◌, ◌++◌, length}
use Rattle.std.specs.Prelude.{flat_map}
use Rattle.std.specs.List.{range_with_len}
use Rattle.zarr_codecs_strides.specs.Strides.{strided, stretch_at}
use Rattle.zarr_codecs_strides.proofs.stretches.+push_stretches.Given as goal

abbrev pub decreases-push_stretches : goal.decreases-push_stretches
decreases-push_stretches l = length l.walk.sizes.now

-- the stretches so far
abbrev pub invariant-loop-i : goal.invariant-loop-i
invariant-loop-i l = l.out.items ≡ l.initial.out.items ++ flat_map (λ k. flat_map (stretch_at l.stretches.width l.stretches.stretch l.stretches.bytes.now) (strided (l.base + k * l.stride) l.sizes l.strides)) (range_with_len 0 l.i)
