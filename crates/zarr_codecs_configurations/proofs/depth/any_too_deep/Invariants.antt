use Rattle.std.proofs.Common.{◌≡◌, drop, map}
use Rattle.zarr_grids_metadata.specs.Views.{point_of}
use Rattle.zarr_codecs_metadata.specs.Chains.{any_too_deep}
use Rattle.zarr_codecs_configurations.proofs.depth.any_too_deep.Given as goal

-- those that are left answer as all do
abbrev pub invariant-loop-metadata : goal.invariant-loop-metadata
invariant-loop-metadata l = any_too_deep (map point_of l.codecs) ≡ any_too_deep (map point_of (drop l.metadata-index l.codecs))
