use Rattle.std.proofs.Common.{ℕ, List, length, sym, subst}
use Rattle.zarr_codecs_arrays.specs.Views.{elements_of}
use Rattle.zarr_codecs_traits.specs.Arrays.{coded}
use Rattle.zarr_codecs_traits.specs.Outcomes.{Decodes}
use Rattle.zarr_codecs_traits.specs.Pieces.{AreMade}
use Rattle.zarr_sharding_chains.specs.ArrayChains.{array_meaning}
use Rattle.zarr_sharding_chains.specs.Pieces.{DecodesOutermost, SplitsOutermost, around_outermost}
use Rattle.zarr_sharding_chains.proofs.array_values.ArrayChainArrayToBytesCodecTraits.put_pieces.Goals as goal

pub returns-in-Sharded : goal.returns-in-Sharded
returns-in-Sharded g c =
    let bytes = g.B.BytesToBytesCodecTraits.meaning in
    let elements = elements_of c.args.elements.now in
    let shape = c.args.shape.now in
    subst (λ s. (value : List ℕ) → SplitsOutermost (around_outermost bytes s) (coded (array_meaning bytes s) elements shape) value c.args.pieces → AreMade (DecodesOutermost (around_outermost bytes s) elements c.args.pieces) (length c.args.pieces.slices.items) c.args.made.items → Decodes (coded (array_meaning bytes s) elements shape) value c.put_pieces-in-Sharded.result)
    (sym c.in-Sharded.is) c.put_pieces-in-Sharded.ensures

pub returns-in-Nested : goal.returns-in-Nested
returns-in-Nested g c =
    let bytes = g.B.BytesToBytesCodecTraits.meaning in
    let elements = elements_of c.args.elements.now in
    let shape = c.args.shape.now in
    subst (λ s. (value : List ℕ) → SplitsOutermost (around_outermost bytes s) (coded (array_meaning bytes s) elements shape) value c.args.pieces → AreMade (DecodesOutermost (around_outermost bytes s) elements c.args.pieces) (length c.args.pieces.slices.items) c.args.made.items → Decodes (coded (array_meaning bytes s) elements shape) value c.put_pieces-in-Nested.result)
    (sym c.in-Nested.is) c.put_pieces-in-Nested.ensures
