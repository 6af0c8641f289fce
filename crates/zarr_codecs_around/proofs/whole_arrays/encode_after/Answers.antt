use Rattle.std.proofs.Common.{◌≡◌, ◌∙◌, ap, sym, subst, true, false}
use Rattle.zarr_codecs_meaning.specs.Fits.{fits}
use Rattle.zarr_codecs_arrays.specs.Views.{elements_of, payload_of}
use Rattle.zarr_codecs_traits.specs.Arrays.{coded}
use Rattle.zarr_codecs_traits.specs.Outcomes.{Encodes}
use Rattle.zarr_codecs_around.specs.Views.{codecs_of}
use Rattle.zarr_codecs_around.proofs.AllArrayCodecs.{fits_before, unshaped_encodes}
use Rattle.zarr_codecs_around.proofs.whole_arrays.encode_after.Goals as goal

pub returns-in-Err : goal.returns-in-Err
returns-in-Err g c =
    let A = g.A.ArrayToBytesCodecTraits in
    unshaped_encodes (codecs_of c.args.codecs.now) (A.meaning c.args.rest.now) (A.is_function c.args.rest.now) (elements_of c.args.array.elements.now) c.args.array.shape.now (payload_of c.args.bytes) c.in-Err.error c.in-Err.ensures

pub returns-then-not-branch : goal.returns-then-not-branch
returns-then-not-branch g c =
    let rest = g.A.ArrayToBytesCodecTraits.meaning c.args.rest.now in
    let codecs = codecs_of c.args.codecs.now in
    let elements = elements_of c.args.array.elements.now in
    let shape = c.args.array.shape.now in
    let last = c.in-Ok.last.items in
    let unfit : fits rest elements.type last ≡ false = ap (fits rest elements.type) (sym c.as_slice.ensures.value) ∙ (ap (λ t. fits rest t c.as_slice.result.now) (sym c.data_type.ensures) ∙ (sym c.in_ok-fits.ensures ∙ c.if-not-branch.true)) in
    sym (fits_before codecs rest elements.type shape last c.in-Ok.ensures.0 c.in-Ok.ensures.1) ∙ unfit

pub returns-in-Ok-move_all : goal.returns-in-Ok-move_all
returns-in-Ok-move_all g c =
    let A = g.A.ArrayToBytesCodecTraits in
    let rest = A.meaning c.args.rest.now in
    let exact = A.is_function c.args.rest.now in
    let elements = elements_of c.args.array.elements.now in
    let shape = c.args.array.shape.now in
    let last = c.in-Ok.last.items in
    let fit : fits rest elements.type last ≡ true = ap (fits rest elements.type) (sym c.as_slice.ensures.value) ∙ (ap (λ t. fits rest t c.as_slice.result.now) (sym c.data_type.ensures) ∙ (sym c.in_ok-fits.ensures ∙ c.if-not-branch.false)) in
    c.in-Ok-move_all.ensures rest exact c.encode_in_order.result (ap (fits rest elements.type) (sym c.in-Ok.ensures.1) ∙ fit)
    (subst (λ es. Encodes (coded rest elements es) exact (payload_of c.in-Ok-move_all.moved) c.encode_in_order.result) (c.as_slice-in-Ok-move_all.ensures.value ∙ c.in-Ok.ensures.1) c.encode_in_order.ensures)

pub returns : goal.returns
returns g c =
    let A = g.A.ArrayToBytesCodecTraits in
    let rest = A.meaning c.args.rest.now in
    let exact = A.is_function c.args.rest.now in
    let elements = elements_of c.args.array.elements.now in
    let last = c.in-Ok.last.items in
    let fit : fits rest elements.type last ≡ true = ap (fits rest elements.type) (sym c.as_slice.ensures.value) ∙ (ap (λ t. fits rest t c.as_slice.result.now) (sym c.data_type.ensures) ∙ (sym c.in_ok-fits.ensures ∙ c.if-not-branch.false)) in
    c.in-Err-move_all.ensures rest exact (ap (fits rest elements.type) (sym c.in-Ok.ensures.1) ∙ fit)
