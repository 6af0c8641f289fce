use Rattle.zarr_codecs_types.specs.Views.{type_of}
use Rattle.zarr_codecs_arrays.specs.Views.{payload_of}
use Rattle.zarr_codecs_arrays.proofs.Counts.{form_refused}
use Rattle.zarr_codecs_arrays.proofs.array_bytes.ArrayBytes.test_count.Goals as goal

pub returns-in_default : goal.returns-in_default
returns-in_default c = form_refused c.form_error.result (type_of c.args.data_type.now) (payload_of c.args.self.now) c.args.count c.form_error.ensures c.in_default.ensures
