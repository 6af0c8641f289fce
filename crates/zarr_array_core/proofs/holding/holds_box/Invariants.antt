use Rattle.std.proofs.Common.{◌≡◌, drop}
use Rattle.zarr_array_meaning.specs.Chunks.{contains_box}
use Rattle.zarr_array_core.proofs.holding.holds_box.Given as goal

-- what is left answers as the whole
abbrev pub invariant-loop-k : goal.invariant-loop-k
invariant-loop-k l = contains_box l.region.start.now l.region.shape.now l.other.start.now l.other.shape.now ≡ contains_box (drop l.k l.region.start.now) (drop l.k l.region.shape.now) (drop l.k l.other.start.now) (drop l.k l.other.shape.now)
