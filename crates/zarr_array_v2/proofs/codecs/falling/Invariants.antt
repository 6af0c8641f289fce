use Rattle.std.proofs.Common.{◌≡◌, ◌-◌, map}
use Rattle.serde_json.specs.View.{view}
use Rattle.zarr_array_v2.specs.Codecs.{falling}
use Rattle.zarr_array_v2.proofs.Falling.{before}
use Rattle.zarr_array_v2.proofs.codecs.falling.Given as goal

-- the list, and then the dimensions that are left
abbrev pub invariant-loop-passed : goal.invariant-loop-passed
invariant-loop-passed l = before (map view l.list.items) (falling (l.dimensions - l.passed)) ≡ falling l.dimensions
