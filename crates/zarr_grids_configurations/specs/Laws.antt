-- Laws of configurations.
use Rattle.std.specs.Prelude.{◌≡◌, ℕ, List, map, true, Some}
use Rattle.zarr_grids_dimensions.specs.Lookups.{all_positive}
use Rattle.zarr_grids_configurations.specs.Grids.{fixed, bounded, are_positive}
use Rattle.zarr_grids_configurations.specs.Configurations.{regular, regular_bounded, rectangular, rectilinear, configuration_of_kind}
use Rattle.zarr_grids_configurations.specs.Views.{rectangular_view, rectilinear_view}
use Rattle.zarr_grids_configurations.specs.Written.{regular_members, rectangular_members, rectilinear_members}
use Rattle.zarr_grids_configurations.specs.declared.rectangular.RectangularChunkGridDimensionConfiguration.{RectangularChunkGridDimensionConfiguration}
use Rattle.zarr_grids_configurations.specs.declared.rectilinear.ChunkEdgeLengths.{ChunkEdgeLengths}

-- what is written for a configuration of positive edges reads as those edges
abbrev pub RegularReadsBack : Type 0
RegularReadsBack = (edges : List ℕ) → all_positive edges ≡ true
    → (configuration_of_kind regular (regular_members edges) ≡ Some (map fixed edges)) × (configuration_of_kind regular_bounded (regular_members edges) ≡ Some (map bounded edges))

-- the same of `rectangular`
abbrev pub RectangularReadsBack : Type 0
RectangularReadsBack = (given : List RectangularChunkGridDimensionConfiguration) → are_positive (map rectangular_view given) ≡ true
    → configuration_of_kind rectangular (rectangular_members given) ≡ Some (map rectangular_view given)

-- the same of `rectilinear`
abbrev pub RectilinearReadsBack : Type 0
RectilinearReadsBack = (given : List ChunkEdgeLengths) → are_positive (map rectilinear_view given) ≡ true
    → configuration_of_kind rectilinear (rectilinear_members given) ≡ Some (map rectilinear_view given)
