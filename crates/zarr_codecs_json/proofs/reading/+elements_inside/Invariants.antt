use Rattle.std.proofs.Common.{◌+◌, ◌*◌}
use Rattle.zarr_codecs_types.specs.Views.{type_of}
use Rattle.zarr_codecs_arrays.proofs.Fillings.{levels}
use Rattle.zarr_codecs_json.proofs.reading.+elements_inside.Given as goal

abbrev pub decreases-elements_inside : goal.decreases-elements_inside
decreases-elements_inside l = 2 * levels (type_of l.data_type.now)

abbrev pub decreases-optional_inside : goal.decreases-optional_inside
decreases-optional_inside l = 2 * levels (type_of l.of_type.now) + 1
