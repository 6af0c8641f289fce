use Rattle.std.proofs.Common.{map, ap, ◌∙◌}
use Rattle.zarr_grids_dimensions.specs.Dimensions.{grid_of}
use Rattle.zarr_grids_configurations.specs.Configurations.{rectilinear, configuration_of_kind}
use Rattle.zarr_grids_configurations.specs.Views.{rectilinear_view}
use Rattle.zarr_grids_configurations.specs.Written.{rectilinear_members}
use Rattle.zarr_grids_configurations.proofs.Positive.{grid-positive}
use Rattle.zarr_grids_configurations.proofs.ReadsBack.{rectilinear-back}
use Rattle.zarr_grids_chunk_grids.proofs.rectilinear.RectilinearChunkGrid.configuration.Goals as goal

pub returns-clause-reads : goal.returns-clause-reads
returns-clause-reads c = let s = c.args.self.now in ap (configuration_of_kind rectilinear) (c.in_ok-members.ensures ∙ ap rectilinear_members c.deref.ensures.value) ∙ rectilinear-back s.chunk_shapes.items (grid-positive s.array_shape.items (map rectilinear_view s.chunk_shapes.items) (grid_of s.dimensions.items) s.made)
