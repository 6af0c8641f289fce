use Rattle.std.proofs.Common.{sym, subst}
use Rattle.zarr_codecs_meaning.specs.Payloads.{Payload}
use Rattle.zarr_codecs_arrays.specs.Views.{elements_of}
use Rattle.zarr_codecs_traits.specs.Arrays.{coded}
use Rattle.zarr_codecs_traits.specs.Outcomes.{Encodes}
use Rattle.zarr_codecs_traits.specs.Pieces.{AreMade}
use Rattle.zarr_sharding_chains.specs.ArrayChains.{array_function, array_meaning}
use Rattle.zarr_sharding_chains.specs.Pieces.{EncodesOutermost, SplitsOutermostArray, around_outermost}
use Rattle.zarr_sharding_chains.proofs.array_values.ArrayChainArrayToBytesCodecTraits.join_pieces.Goals as goal

pub returns-in-Sharded : goal.returns-in-Sharded
returns-in-Sharded g c =
    let bytes = g.B.BytesToBytesCodecTraits.meaning in
    let elements = elements_of c.args.elements.now in
    let shape = c.args.shape.now in
    subst (λ s. (payload : Payload) → SplitsOutermostArray (around_outermost bytes s) (coded (array_meaning bytes s) elements shape) payload c.args.pieces → AreMade (EncodesOutermost (around_outermost bytes s) elements c.args.pieces) c.args.pieces.count c.args.made.items → Encodes (coded (array_meaning bytes s) elements shape) (array_function s) payload c.join_pieces-in-Sharded.result)
    (sym c.in-Sharded.is) c.join_pieces-in-Sharded.ensures

pub returns-in-Nested : goal.returns-in-Nested
returns-in-Nested g c =
    let bytes = g.B.BytesToBytesCodecTraits.meaning in
    let elements = elements_of c.args.elements.now in
    let shape = c.args.shape.now in
    subst (λ s. (payload : Payload) → SplitsOutermostArray (around_outermost bytes s) (coded (array_meaning bytes s) elements shape) payload c.args.pieces → AreMade (EncodesOutermost (around_outermost bytes s) elements c.args.pieces) c.args.pieces.count c.args.made.items → Encodes (coded (array_meaning bytes s) elements shape) (array_function s) payload c.join_pieces-in-Nested.result)
    (sym c.in-Nested.is) c.join_pieces-in-Nested.ensures
