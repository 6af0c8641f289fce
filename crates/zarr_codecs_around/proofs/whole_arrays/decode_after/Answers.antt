use Rattle.std.proofs.Common.{◌∙◌, subst, Ok, Err}
use Rattle.zarr_codecs_arrays.specs.Views.{elements_of}
use Rattle.zarr_codecs_traits.specs.Arrays.{coded}
use Rattle.zarr_codecs_traits.specs.Outcomes.{Decodes}
use Rattle.zarr_codecs_around.specs.Views.{codecs_of}
use Rattle.zarr_codecs_around.proofs.AllArrayCodecs.{undecoded_all, unshaped_decodes}
use Rattle.zarr_codecs_around.proofs.whole_arrays.decode_after.Goals as goal

pub returns-in-Err : goal.returns-in-Err
returns-in-Err g c = unshaped_decodes (codecs_of c.args.codecs.now) (g.A.ArrayToBytesCodecTraits.meaning c.args.rest.now) (elements_of c.args.array.elements.now) c.args.array.shape.now c.args.value.items c.in-Err.error c.in-Err.ensures

pub returns-in-Ok-decode_in_order : goal.returns-in-Ok-decode_in_order
returns-in-Ok-decode_in_order g c =
    let rest = g.A.ArrayToBytesCodecTraits.meaning c.args.rest.now in
    let elements = elements_of c.args.array.elements.now in
    let found = c.in-Ok-decode_in_order.found in
    c.undo_all.ensures rest c.args.value.items (subst (λ es. Decodes (coded rest elements es) c.args.value.items (Ok found)) (c.as_slice.ensures.value ∙ c.in-Ok.ensures.1) c.in-Ok-decode_in_order.ensures)

pub returns : goal.returns
returns g c =
    let rest = g.A.ArrayToBytesCodecTraits.meaning c.args.rest.now in
    let elements = elements_of c.args.array.elements.now in
    let e = c.in-Err-decode_in_order.error in
    undecoded_all (codecs_of c.args.codecs.now) rest elements c.args.array.shape.now c.args.value.items e c.in-Ok.ensures.0
    (subst (λ es. Decodes (coded rest elements es) c.args.value.items (Err e)) (c.as_slice.ensures.value ∙ c.in-Ok.ensures.1) c.in-Err-decode_in_order.ensures)
