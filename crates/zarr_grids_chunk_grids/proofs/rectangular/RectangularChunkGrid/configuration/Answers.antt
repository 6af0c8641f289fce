use Rattle.std.proofs.Common.{map, ap, ◌∙◌}
use Rattle.zarr_grids_dimensions.specs.Dimensions.{grid_of}
use Rattle.zarr_grids_configurations.specs.Configurations.{rectangular, configuration_of_kind}
use Rattle.zarr_grids_configurations.specs.Views.{rectangular_view}
use Rattle.zarr_grids_configurations.specs.Written.{rectangular_members}
use Rattle.zarr_grids_configurations.proofs.Positive.{grid-positive}
use Rattle.zarr_grids_configurations.proofs.ReadsBack.{rectangular-back}
use Rattle.zarr_grids_chunk_grids.proofs.rectangular.RectangularChunkGrid.configuration.Goals as goal

pub returns-clause-reads : goal.returns-clause-reads
returns-clause-reads c = let s = c.args.self.now in ap (configuration_of_kind rectangular) (c.in_ok-members.ensures ∙ ap rectangular_members c.deref.ensures.value) ∙ rectangular-back s.chunk_shape.items (grid-positive s.array_shape.items (map rectangular_view s.chunk_shape.items) (grid_of s.dimensions.items) s.made)
