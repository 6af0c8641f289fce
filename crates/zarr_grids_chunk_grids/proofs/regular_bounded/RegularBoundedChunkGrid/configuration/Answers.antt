use Rattle.std.proofs.Common.{ap, ◌∙◌}
use Rattle.zarr_grids_dimensions.specs.Dimensions.{grid_of}
use Rattle.zarr_grids_configurations.specs.Configurations.{regular_bounded, configuration_of_kind}
use Rattle.zarr_grids_configurations.specs.Written.{regular_members}
use Rattle.zarr_grids_configurations.proofs.Positive.{grid-bounded_positive}
use Rattle.zarr_grids_configurations.proofs.ReadsBack.{regular-back}
use Rattle.zarr_grids_chunk_grids.proofs.regular_bounded.RegularBoundedChunkGrid.configuration.Goals as goal

pub returns-clause-reads : goal.returns-clause-reads
returns-clause-reads c = let s = c.args.self.now in ap (configuration_of_kind regular_bounded) (c.in_ok-members.ensures ∙ ap regular_members c.as_slice.ensures.edges) ∙ (regular-back s.chunk_shape (grid-bounded_positive s.array_shape.items s.chunk_shape (grid_of s.dimensions.items) s.made)).1
