use Rattle.std.proofs.Common.{◌+◌, ◌*◌}
use Rattle.zarr_codecs_types.specs.Views.{type_of}
use Rattle.zarr_codecs_arrays.proofs.Fillings.{levels}
use Rattle.zarr_codecs_json.proofs.cells.+push_cell.Given as goal

abbrev pub decreases-push_cell : goal.decreases-push_cell
decreases-push_cell l = 2 * levels (type_of l.data_type.now)

abbrev pub decreases-push_optional : goal.decreases-push_optional
decreases-push_optional l = 2 * levels (type_of l.of_type.now) + 1
