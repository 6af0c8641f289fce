use Rattle.std.proofs.Common.{◌∙◌, subst}
use Rattle.zarr_codecs_arrays.specs.Views.{elements_of}
use Rattle.zarr_codecs_traits.specs.Compactions.{Compacts}
use Rattle.zarr_codecs_around.specs.Views.{codecs_of}
use Rattle.zarr_codecs_around.proofs.Compacting.{compacts_before, uncompacted_before}
use Rattle.zarr_codecs_around.proofs.whole_arrays.compact_after.Goals as goal

pub returns-in-Ok : goal.returns-in-Ok
returns-in-Ok g c =
    let rest = g.A.ArrayToBytesCodecTraits.meaning c.args.rest.now in
    let type = (elements_of c.args.array.elements.now).type in
    let r = c.compact_in_order.result in
    compacts_before (codecs_of c.args.codecs.now) rest type c.args.array.shape.now c.args.value.now r c.in-Ok.ensures.0
    (subst (λ es. Compacts rest type es c.args.value.now r) (c.as_slice.ensures.value ∙ c.in-Ok.ensures.1) c.compact_in_order.ensures)

pub returns-in-Err : goal.returns-in-Err
returns-in-Err g c =
    uncompacted_before (codecs_of c.args.codecs.now) (g.A.ArrayToBytesCodecTraits.meaning c.args.rest.now) (elements_of c.args.array.elements.now).type c.args.array.shape.now c.args.value.now c.in-Err.error c.in-Err.ensures
