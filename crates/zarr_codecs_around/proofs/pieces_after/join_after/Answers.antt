use Rattle.std.proofs.Common.{◌∙◌, sym, subst, List, ℕ}
use Rattle.zarr_codecs_arrays.specs.Views.{elements_of}
use Rattle.zarr_codecs_traits.specs.Arrays.{coded}
use Rattle.zarr_codecs_traits.specs.Outcomes.{Encodes}
use Rattle.zarr_codecs_around.specs.Views.{codecs_of}
use Rattle.zarr_codecs_around.proofs.AllArrayCodecs.{unshaped_encodes}
use Rattle.zarr_codecs_around.proofs.pieces_after.join_after.Goals as goal

pub returns-in-Err : goal.returns-in-Err
returns-in-Err g c = λ payload cut made.
    let A = g.A.ArrayToBytesCodecTraits in
    unshaped_encodes (codecs_of c.args.chain.array_to_array.now) (A.meaning c.args.chain.rest.now) (A.is_function c.args.chain.rest.now) (elements_of c.args.array.elements.now) c.args.array.shape.now payload c.in-Err.error c.in-Err.ensures

pub returns : goal.returns
returns g c = λ payload cut made.
    let A = g.A.ArrayToBytesCodecTraits in
    let rest = A.meaning c.args.chain.rest.now in
    let elements = elements_of c.args.array.elements.now in
    let last = c.as_slice.ensures.value ∙ c.in-Ok.ensures.1 in
    let joined = c.join_pieces.ensures cut.moved (subst (λ (es : List ℕ). A.cuts_array c.args.chain.rest.now (coded rest elements es) cut.moved c.args.pieces) (sym last) cut.cut) made in
    cut.moves_to c.join_pieces.result (subst (λ (es : List ℕ). Encodes (coded rest elements es) (A.is_function c.args.chain.rest.now) cut.moved c.join_pieces.result) last joined)
