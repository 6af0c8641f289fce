use Rattle.std.proofs.Common.{◌∙◌, sym, ap, Some}
use Rattle.zarr_codecs_arrays.specs.Views.{payload_of, elements_of}
use Rattle.zarr_codecs_meaning.proofs.Counts.{decoded_count}
use Rattle.zarr_array_elements.proofs.FixedPuts.{counted, known}
use Rattle.zarr_array_core.proofs.array_core.ArrayCore.decode_value.Goals as goal

pub returns-in-Ok-clause-ok : goal.returns-in-Ok-clause-ok
returns-in-Ok-clause-ok g c =
    let elements = elements_of c.args.self.now.elements in
    let d = c.in-Ok.ensures in
    d.is ∙ ap (λ cells. Some cells) (sym (known elements.type (payload_of c.in-Ok.bytes) d.cells d.lists))

pub returns-in-Ok-clause-counted : goal.returns-in-Ok-clause-counted
returns-in-Ok-clause-counted g c =
    let elements = elements_of c.args.self.now.elements in
    let d = c.in-Ok.ensures in
    counted elements.type (payload_of c.in-Ok.bytes) d.cells _ d.lists (decoded_count (g.C.ArrayToBytesCodecTraits.meaning c.args.self.now.codecs) elements c.args.shape.now c.args.value.items d.cells d.is)
