use Rattle.std.proofs.Common.{◌≡◌, map, take}
use Rattle.zarr_sharding_index.specs.Present.{kept_pairs}
use Rattle.zarr_sharding_codec.specs.Pieces.{whole_slice}
use Rattle.zarr_sharding_codec.proofs.cut_values.slices_present.Given as goal

-- the slices so far
abbrev pub invariant-loop-k : goal.invariant-loop-k
invariant-loop-k l = l.slices.items ≡ map whole_slice (take l.k (kept_pairs l.pairs))
