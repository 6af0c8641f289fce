use Rattle.std.proofs.Common.{◌∙◌, subst, List, ℕ, Ok, Err}
use Rattle.zarr_codecs_arrays.specs.Views.{elements_of}
use Rattle.zarr_codecs_traits.specs.Arrays.{coded}
use Rattle.zarr_codecs_traits.specs.Outcomes.{Decodes}
use Rattle.zarr_codecs_traits.specs.Pieces.{SplitsValue}
use Rattle.zarr_codecs_traits.specs.declared.pieces.SplitValue.{SplitValue}
use Rattle.zarr_codecs_around.specs.Views.{codecs_of}
use Rattle.zarr_codecs_around.proofs.AllArrayCodecs.{undecoded_all, unshaped_decodes}
use Rattle.zarr_codecs_around.proofs.pieces_after.split_after.Goals as goal

pub returns-in-Err : goal.returns-in-Err
returns-in-Err g c =
    unshaped_decodes (codecs_of c.args.chain.array_to_array.now) (g.A.ArrayToBytesCodecTraits.meaning c.args.chain.rest.now) (elements_of c.args.array.elements.now) c.args.array.shape.now c.args.value.items c.in-Err.error c.in-Err.ensures

pub returns-in-Ok-undo_all : goal.returns-in-Ok-undo_all
returns-in-Ok-undo_all g c =
    let A = g.A.ArrayToBytesCodecTraits in
    let codec = c.args.chain.rest.now in
    let rest = A.meaning codec in
    let elements = elements_of c.args.array.elements.now in
    let value = c.args.value.items in
    let last = c.as_slice.ensures.value ∙ c.in-Ok.ensures.1 in
    let array = coded rest elements c.as_slice.result.now in
    let split = subst (λ (s : SplitValue). SplitsValue (A.cuts_value codec array value) array value (Ok s)) c.in-Ok-Decoded.field-0-is c.in-Ok-Decoded.ensures in
    c.in-Ok-undo_all.ensures rest value (subst (λ (es : List ℕ). Decodes (coded rest elements es) value (Ok c.in-Ok-Decoded.found)) last split)

pub returns-in-Ok-Decoded : goal.returns-in-Ok-Decoded
returns-in-Ok-Decoded g c =
    let A = g.A.ArrayToBytesCodecTraits in
    let codec = c.args.chain.rest.now in
    let rest = A.meaning codec in
    let elements = elements_of c.args.array.elements.now in
    let value = c.args.value.items in
    let last = c.as_slice.ensures.value ∙ c.in-Ok.ensures.1 in
    let array = coded rest elements c.as_slice.result.now in
    let split = subst (λ (s : SplitValue). SplitsValue (A.cuts_value codec array value) array value (Ok s)) c.in-Ok-Decoded.field-0-is c.in-Ok-Decoded.ensures in
    c.in-Err-undo_all.ensures rest value (subst (λ (es : List ℕ). Decodes (coded rest elements es) value (Ok c.in-Ok-Decoded.found)) last split)

pub returns-in-Ok-Cut : goal.returns-in-Ok-Cut
returns-in-Ok-Cut g c =
    let A = g.A.ArrayToBytesCodecTraits in
    let codec = c.args.chain.rest.now in
    let rest = A.meaning codec in
    let elements = elements_of c.args.array.elements.now in
    let value = c.args.value.items in
    let last = c.as_slice.ensures.value ∙ c.in-Ok.ensures.1 in
    let array = coded rest elements c.as_slice.result.now in
    let split = subst (λ (s : SplitValue). SplitsValue (A.cuts_value codec array value) array value (Ok s)) c.in-Ok-Cut.field-0-is c.in-Ok-Cut.ensures in
    subst (λ (es : List ℕ). A.cuts_value codec (coded rest elements es) value c.in-Ok-Cut.pieces) last split

pub returns : goal.returns
returns g c =
    let rest = g.A.ArrayToBytesCodecTraits.meaning c.args.chain.rest.now in
    let elements = elements_of c.args.array.elements.now in
    let value = c.args.value.items in
    let e = c.in-Err-split_value.error in
    let last = c.as_slice.ensures.value ∙ c.in-Ok.ensures.1 in
    undecoded_all (codecs_of c.args.chain.array_to_array.now) rest elements c.args.array.shape.now value e c.in-Ok.ensures.0 (subst (λ (es : List ℕ). Decodes (coded rest elements es) value (Err e)) last c.in-Err-split_value.ensures)
