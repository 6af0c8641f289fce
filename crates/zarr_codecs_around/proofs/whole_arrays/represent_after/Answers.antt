use Rattle.std.proofs.Common.{◌∙◌, subst}
use Rattle.zarr_codecs_types.specs.Views.{type_of}
use Rattle.zarr_codecs_traits.specs.Representations.{RepresentsArray}
use Rattle.zarr_codecs_around.specs.Views.{codecs_of}
use Rattle.zarr_codecs_around.proofs.AllArrayCodecs.{represents_all, unshaped_all}
use Rattle.zarr_codecs_around.proofs.whole_arrays.represent_after.Goals as goal

pub returns-in-Ok : goal.returns-in-Ok
returns-in-Ok g c =
    let rest = g.A.ArrayToBytesCodecTraits.meaning c.args.rest.now in
    let type = type_of c.args.data_type.now in
    let r = c.encoded_representation.result in
    represents_all (codecs_of c.args.codecs.now) rest type c.args.shape.now r c.in-Ok.ensures.0
    (subst (λ es. RepresentsArray rest type es r) (c.as_slice.ensures.value ∙ c.in-Ok.ensures.1) c.encoded_representation.ensures)

pub returns-in-Err : goal.returns-in-Err
returns-in-Err g c = unshaped_all (codecs_of c.args.codecs.now) (g.A.ArrayToBytesCodecTraits.meaning c.args.rest.now) (type_of c.args.data_type.now) c.args.shape.now c.in-Err.error c.in-Err.ensures
