use Rattle.std.proofs.Common.{◌≡◌, ◌∙◌, Bool, subst, Err, false}
use Rattle.std.specs.Prelude.{IfOk}
use Rattle.zarr_codecs_types.specs.Views.{type_of}
use Rattle.zarr_codecs_around.specs.ArrayCodecs.{EncodesShapes, all_fit}
use Rattle.zarr_codecs_around.specs.Views.{codecs_of}
use Rattle.zarr_codecs_around.proofs.AllArrayCodecs.{fits_before, never_before}
use Rattle.zarr_codecs_around.proofs.whole_arrays.fits_after.Goals as goal

pub returns-in-Ok : goal.returns-in-Ok
returns-in-Ok g c =
    let rest = g.A.ArrayToBytesCodecTraits.meaning c.args.rest.now in
    subst (λ (b : Bool). IfOk c.fits.result (λ fit. fit ≡ b))
    (fits_before (codecs_of c.args.codecs.now) rest (type_of c.args.data_type.now) c.args.shape.now c.as_slice.result.now c.in-Ok.ensures.0 (c.as_slice.ensures.value ∙ c.in-Ok.ensures.1)) c.fits.ensures

pub returns-in-Err-Fit : goal.returns-in-Err-Fit
returns-in-Err-Fit g c =
    let rest = g.A.ArrayToBytesCodecTraits.meaning c.args.rest.now in
    let codecs = codecs_of c.args.codecs.now in
    let none : all_fit codecs c.args.shape.now ≡ false = subst (λ e. EncodesShapes codecs c.args.shape.now (Err e)) c.in-Err-Fit.field-0-is c.in-Err-Fit.ensures in
    never_before codecs rest (type_of c.args.data_type.now) c.args.shape.now none
