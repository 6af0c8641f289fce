use Rattle.zarr_grids_metadata.specs.Views.{point_view}
use Rattle.zarr_codecs_types.specs.Metadata.{configuration_depth}
use Rattle.zarr_codecs_types.proofs.metadata.+point_type.Given as goal

-- the configuration of the inner type nests less deep
abbrev pub decreases-point_type : goal.decreases-point_type
decreases-point_type l = configuration_depth (point_view l.point).configuration
