use Rattle.std.proofs.Common.{◌≡◌, ◌∙◌, ap, sym, subst, true, false, List, ℕ}
use Rattle.zarr_codecs_meaning.specs.Fits.{fits}
use Rattle.zarr_codecs_arrays.specs.Views.{elements_of, payload_of}
use Rattle.zarr_codecs_traits.specs.Arrays.{coded}
use Rattle.zarr_codecs_traits.specs.Pieces.{SplitsArray}
use Rattle.zarr_codecs_around.specs.ArrayCodecs.{shape_after}
use Rattle.zarr_codecs_around.specs.Views.{codecs_of, with_array_codecs}
use Rattle.zarr_codecs_around.proofs.AllArrayCodecs.{fits_before, unshaped_encodes}
use Rattle.zarr_codecs_around.proofs.CutBefore.{split_moved}
use Rattle.zarr_codecs_around.proofs.pieces_after.split_array_after.Goals as goal

pub returns-in-Err : goal.returns-in-Err
returns-in-Err g c =
    let A = g.A.ArrayToBytesCodecTraits in
    let codec = c.args.chain.rest.now in
    unshaped_encodes (codecs_of c.args.chain.array_to_array.now) (A.meaning codec) (A.is_function codec) (elements_of c.args.array.elements.now) c.args.array.shape.now (payload_of c.args.bytes) c.in-Err.error c.in-Err.ensures

pub returns-then-not-branch : goal.returns-then-not-branch
returns-then-not-branch g c =
    let rest = g.A.ArrayToBytesCodecTraits.meaning c.args.chain.rest.now in
    let codecs = codecs_of c.args.chain.array_to_array.now in
    let elements = elements_of c.args.array.elements.now in
    let shape = c.args.array.shape.now in
    let last = c.in-Ok.last.items in
    let unfit : fits rest elements.type last ≡ false = ap (fits rest elements.type) (sym c.as_slice.ensures.value) ∙ (ap (λ t. fits rest t c.as_slice.result.now) (sym c.data_type.ensures) ∙ (sym c.in_ok-fits.ensures ∙ c.if-not-branch.true)) in
    sym (fits_before codecs rest elements.type shape last c.in-Ok.ensures.0 c.in-Ok.ensures.1) ∙ unfit

pub returns-in-Ok-move_all : goal.returns-in-Ok-move_all
returns-in-Ok-move_all g c =
    let A = g.A.ArrayToBytesCodecTraits in
    let codec = c.args.chain.rest.now in
    let rest = A.meaning codec in
    let exact = A.is_function codec in
    let codecs = codecs_of c.args.chain.array_to_array.now in
    let elements = elements_of c.args.array.elements.now in
    let shape = c.args.array.shape.now in
    let last = c.in-Ok.last.items in
    let moved = payload_of c.in-Ok-move_all.moved in
    let r = c.split_array.result in
    let fit : fits rest elements.type last ≡ true = ap (fits rest elements.type) (sym c.as_slice.ensures.value) ∙ (ap (λ t. fits rest t c.as_slice.result.now) (sym c.data_type.ensures) ∙ (sym c.in_ok-fits.ensures ∙ c.if-not-branch.false)) in
    let suits = ap (fits rest elements.type) (sym c.in-Ok.ensures.1) ∙ fit in
    let split = subst (λ (es : List ℕ). SplitsArray (A.cuts_array codec (coded rest elements es) moved) (coded rest elements es) exact moved r) (c.as_slice-in-Ok-move_all.ensures.value ∙ c.in-Ok.ensures.1) c.split_array.ensures in
    let behind = coded rest elements (shape_after codecs shape) in
    split_moved (A.cuts_array codec behind) exact (coded (with_array_codecs codecs rest) elements shape) behind (payload_of c.args.bytes) moved r (λ r h. c.in-Ok-move_all.ensures rest exact r suits h) split

pub returns : goal.returns
returns g c =
    let A = g.A.ArrayToBytesCodecTraits in
    let codec = c.args.chain.rest.now in
    let rest = A.meaning codec in
    let elements = elements_of c.args.array.elements.now in
    let last = c.in-Ok.last.items in
    let fit : fits rest elements.type last ≡ true = ap (fits rest elements.type) (sym c.as_slice.ensures.value) ∙ (ap (λ t. fits rest t c.as_slice.result.now) (sym c.data_type.ensures) ∙ (sym c.in_ok-fits.ensures ∙ c.if-not-branch.false)) in
    c.in-Err-move_all.ensures rest (A.is_function codec) (ap (fits rest elements.type) (sym c.in-Ok.ensures.1) ∙ fit)
