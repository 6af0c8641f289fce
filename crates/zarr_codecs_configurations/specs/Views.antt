-- What the configurations of `src/` give.
use Rattle.std.specs.Prelude.{map}
use Rattle.zarr_grids_metadata.specs.Views.{point_of, point_view}
use Rattle.zarr_codecs_sections.specs.Views.{width_of, location_of}
use Rattle.zarr_codecs_configurations.specs.Reading.{VlenPoints, OptionalPoints}
use Rattle.zarr_codecs_configurations.specs.declared.optional.LentOptionalConfiguration.{LentOptionalConfiguration}
use Rattle.zarr_codecs_configurations.specs.declared.optional.OptionalCodecConfiguration.{OptionalCodecConfiguration}
use Rattle.zarr_codecs_configurations.specs.declared.vlen.LentVlenConfiguration.{LentVlenConfiguration}
use Rattle.zarr_codecs_configurations.specs.declared.vlen.VlenCodecConfiguration.{VlenCodecConfiguration}

-- what a configuration of `vlen` gives
abbrev pub vlen_points : VlenCodecConfiguration → VlenPoints
vlen_points given = record { index = map point_of given.index_codecs.items; content = map point_of given.data_codecs.items; width = width_of given.index_data_type; location = location_of given.index_location }

-- what a configuration of `optional` gives
abbrev pub optional_points : OptionalCodecConfiguration → OptionalPoints
optional_points given = record { mask = map point_of given.mask_codecs.items; content = map point_of given.data_codecs.items }

-- what a lent configuration of `vlen` gives
abbrev pub lent_vlen_points : LentVlenConfiguration → VlenPoints
lent_vlen_points given = record { index = map point_view given.index_codecs.items; content = map point_view given.data_codecs.items; width = width_of given.index_data_type; location = location_of given.index_location }

-- what a lent configuration of `optional` gives
abbrev pub lent_optional_points : LentOptionalConfiguration → OptionalPoints
lent_optional_points given = record { mask = map point_view given.mask_codecs.items; content = map point_view given.data_codecs.items }
