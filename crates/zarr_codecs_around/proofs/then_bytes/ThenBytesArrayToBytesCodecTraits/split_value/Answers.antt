use Rattle.std.proofs.Common.{◌≡◌, map, ap, ◌∙◌, sym, true, false, subst, Err}
use Rattle.zarr_codecs_meaning.specs.Fits.{fits}
use Rattle.zarr_codecs_types.specs.Views.{type_of}
use Rattle.zarr_codecs_traits.specs.Arrays.{coded}
use Rattle.zarr_codecs_traits.specs.Outcomes.{UndoesBytes}
use Rattle.zarr_codecs_arrays.specs.Views.{elements_of}
use Rattle.zarr_codecs_around.specs.Codecs.{all_decoded}
use Rattle.zarr_codecs_around.proofs.Chains.{undone_with}
use Rattle.zarr_codecs_around.proofs.CutInside.{split_undone}
use Rattle.zarr_codecs_around.proofs.PartChains.{fits_as}
use Rattle.zarr_codecs_around.proofs.then_bytes.ThenBytesArrayToBytesCodecTraits.split_value.Goals as goal

pub returns-then-not-branch : goal.returns-then-not-branch
returns-then-not-branch g c =
    let codecs = map g.B.BytesToBytesCodecTraits.meaning c.args.self.now.bytes_to_bytes.items in
    fits_as (g.A.ArrayToBytesCodecTraits.meaning c.args.self.now.codec) codecs (type_of c.data_type.result.now) (elements_of c.args.elements.now).type c.args.shape.now c.in_ok-fits.field-0 false c.data_type.ensures c.in_ok-fits.ensures c.if-not-branch.true

pub returns-in-Ok : goal.returns-in-Ok
returns-in-Ok g c =
    let A = g.A.ArrayToBytesCodecTraits in
    let codec = c.args.self.now.codec in
    let chain = A.meaning codec in
    let elements = elements_of c.args.elements.now in
    let shape = c.args.shape.now in
    let codecs = map g.B.BytesToBytesCodecTraits.meaning c.args.self.now.bytes_to_bytes.items in
    let undone = ap (λ xs. all_decoded (map g.B.BytesToBytesCodecTraits.meaning xs) c.args.value.items) (sym c.as_slice.ensures.value) ∙ c.in-Ok.ensures in
    split_undone (A.cuts_value codec (coded chain elements shape)) chain codecs elements shape c.args.value.items c.in-Ok.value.items c.split_value.result undone c.split_value.ensures

pub returns-in-Err : goal.returns-in-Err
returns-in-Err g c =
    let chain = g.A.ArrayToBytesCodecTraits.meaning c.args.self.now.codec in
    let fit : fits chain (elements_of c.args.elements.now).type c.args.shape.now ≡ true = ap (λ t. fits chain t c.args.shape.now) (sym c.data_type.ensures) ∙ (sym c.in_ok-fits.ensures ∙ c.if-not-branch.false) in
    let codecs = map g.B.BytesToBytesCodecTraits.meaning c.args.self.now.bytes_to_bytes.items in
    let undone = subst (λ xs. UndoesBytes (all_decoded (map g.B.BytesToBytesCodecTraits.meaning xs)) c.args.value.items (Err c.in-Err.error)) c.as_slice.ensures.value c.in-Err.ensures in
    undone_with chain codecs (elements_of c.args.elements.now) c.args.shape.now c.args.value.items c.in-Err.error fit undone
