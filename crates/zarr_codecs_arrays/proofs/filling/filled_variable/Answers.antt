use Rattle.std.proofs.Common.{◌∙◌}
use Rattle.zarr_codecs_types.specs.Views.{type_of}
use Rattle.zarr_codecs_arrays.specs.Views.{numbers_of}
use Rattle.zarr_codecs_arrays.proofs.Fillings.{variable_filled}
use Rattle.zarr_codecs_arrays.proofs.filling.filled_variable.Goals as goal

pub returns-in-Some : goal.returns-in-Some
returns-in-Some c = variable_filled (type_of c.args.data_type.now) c.args.element.now c.in_ok-bytes.bytes.items (numbers_of c.in-Some.offsets) c.args.count c.requires.variable c.requires.value c.in_ok-bytes.ensures (c.in-Some.ensures.some ∙ c.in_ok-offsets.ensures)
