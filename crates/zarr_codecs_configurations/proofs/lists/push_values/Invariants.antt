use Rattle.std.proofs.Common.{◌≡◌, ◌++◌, map, take}
use Rattle.serde_json.specs.View.{view}
use Rattle.zarr_grids_metadata.specs.ExtensionPoints.{written_point}
use Rattle.zarr_grids_metadata.specs.Views.{point_of}
use Rattle.zarr_codecs_configurations.proofs.lists.push_values.Given as goal

-- the values of the metadata so far are appended
abbrev pub invariant-loop-metadata : goal.invariant-loop-metadata
invariant-loop-metadata l = map view l.values.items ≡ map view l.initial.values.items ++ map written_point (map point_of (take l.metadata-index l.metadatas))
