use Rattle.zarr_codecs_arrays.specs.Views.{elements_of, payload_of}
use Rattle.zarr_codecs_bytes.proofs.ListedParts.{filled_listed}
use Rattle.zarr_codecs_bytes.proofs.listed.fill_listed.Goals as goal

pub returns-clause-part : goal.returns-clause-part
returns-clause-part c = λ chain fit. filled_listed chain (elements_of c.args.part.elements.now) c.args.part.shape.now c.args.part.numbers.now (payload_of c.in_ok-fill_values.field-0) c.args.part.inside fit c.in_ok-fill_values.ensures
