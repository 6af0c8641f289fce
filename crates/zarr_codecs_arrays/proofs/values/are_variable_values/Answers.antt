use Rattle.zarr_codecs_types.specs.Views.{type_of}
use Rattle.zarr_codecs_arrays.specs.Views.{numbers_of}
use Rattle.zarr_codecs_arrays.proofs.ElementValues.{variable_values}
use Rattle.zarr_codecs_arrays.proofs.values.are_variable_values.Goals as goal

pub returns-clause-values : goal.returns-clause-values
returns-clause-values c cells is = variable_values (type_of c.args.data_type.now) c.args.bytes.now (numbers_of c.args.offsets.now) cells c.type_inv.bytes is
