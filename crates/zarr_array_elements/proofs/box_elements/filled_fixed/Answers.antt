use Rattle.std.proofs.Common.{◌≡◌, ◌∙◌, ◌*◌, sym, ap, replicate, Some}
use Rattle.std.proofs.lemmas.List.{length-replicate}
use Rattle.zarr_codecs_meaning.specs.Payloads.{fixed, cells_in}
use Rattle.zarr_codecs_arrays.specs.Views.{payload_of, elements_of}
use Rattle.zarr_codecs_arrays.specs.declared.array_bytes.ArrayBytes.{ArrayBytes}
use Rattle.zarr_array_elements.proofs.Payloads.{fixed_elements}
use Rattle.zarr_array_elements.proofs.box_elements.filled_fixed.Goals as goal

pub returns-in-Ok-Fixed-clause-shown : goal.returns-in-Ok-Fixed-clause-shown
returns-in-Ok-Fixed-clause-shown c = λ box e.
    let elements = elements_of c.args.elements.now in
    let width = c.args.width in
    let bytes = c.in-Ok-Fixed.bytes.items in
    let found : cells_in elements.type (fixed bytes) ≡ Some (replicate c.args.count elements.fill) = sym (ap (λ (a : ArrayBytes). cells_in elements.type (payload_of a)) c.in-Ok-Fixed.field-0-is) ∙ c.in-Ok-Fixed.ensures in
    let are = fixed_elements elements.type width bytes (replicate c.args.count elements.fill) c.requires.sized found in
    record { sized = c.requires.sized; some = c.requires.positive; long = are.long ∙ ap (λ n. n * width) (length-replicate c.args.count elements.fill ∙ sym e) }
