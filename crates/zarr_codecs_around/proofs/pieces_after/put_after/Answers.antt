use Rattle.std.proofs.Common.{◌∙◌, sym, subst, List, ℕ, Ok, Err}
use Rattle.zarr_codecs_arrays.specs.Views.{elements_of}
use Rattle.zarr_codecs_traits.specs.Arrays.{coded}
use Rattle.zarr_codecs_traits.specs.Outcomes.{Decodes}
use Rattle.zarr_codecs_around.specs.Views.{codecs_of}
use Rattle.zarr_codecs_around.proofs.AllArrayCodecs.{undecoded_all, unshaped_decodes}
use Rattle.zarr_codecs_around.proofs.pieces_after.put_after.Goals as goal

pub returns-in-Err : goal.returns-in-Err
returns-in-Err g c = λ value cut made. unshaped_decodes (codecs_of c.args.chain.array_to_array.now) (g.A.ArrayToBytesCodecTraits.meaning c.args.chain.rest.now) (elements_of c.args.array.elements.now) c.args.array.shape.now value c.in-Err.error c.in-Err.ensures

pub returns-in-Ok-put_pieces : goal.returns-in-Ok-put_pieces
returns-in-Ok-put_pieces g c = λ value cut made.
    let A = g.A.ArrayToBytesCodecTraits in
    let rest = A.meaning c.args.chain.rest.now in
    let elements = elements_of c.args.array.elements.now in
    let last = c.as_slice.ensures.value ∙ c.in-Ok.ensures.1 in
    let found = c.in-Ok-put_pieces.ensures value (subst (λ (es : List ℕ). A.cuts_value c.args.chain.rest.now (coded rest elements es) value c.args.pieces) (sym last) cut) made in
    c.undo_all.ensures rest value (subst (λ (es : List ℕ). Decodes (coded rest elements es) value (Ok c.in-Ok-put_pieces.found)) last found)

pub returns : goal.returns
returns g c = λ value cut made.
    let A = g.A.ArrayToBytesCodecTraits in
    let rest = A.meaning c.args.chain.rest.now in
    let elements = elements_of c.args.array.elements.now in
    let e = c.in-Err-put_pieces.error in
    let last = c.as_slice.ensures.value ∙ c.in-Ok.ensures.1 in
    let lost = c.in-Err-put_pieces.ensures value (subst (λ (es : List ℕ). A.cuts_value c.args.chain.rest.now (coded rest elements es) value c.args.pieces) (sym last) cut) made in
    undecoded_all (codecs_of c.args.chain.array_to_array.now) rest elements c.args.array.shape.now value e c.in-Ok.ensures.0 (subst (λ (es : List ℕ). Decodes (coded rest elements es) value (Err e)) last lost)
