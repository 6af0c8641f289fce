use Rattle.std.proofs.Common.{ℕ, List, length, sym, subst, Option}
use Rattle.zarr_codecs_arrays.specs.Views.{elements_of}
use Rattle.zarr_codecs_traits.specs.Arrays.{coded_part}
use Rattle.zarr_codecs_traits.specs.Indexers.{asked_of}
use Rattle.zarr_codecs_traits.specs.Outcomes.{DecodesPart}
use Rattle.zarr_codecs_traits.specs.Pieces.{AreMade, IsStoppedBy}
use Rattle.zarr_sharding_chains.specs.ArrayChains.{array_meaning}
use Rattle.zarr_sharding_chains.specs.Pieces.{DecodesOutermost, SplitsOutermostPart, around_outermost}
use Rattle.zarr_sharding_chains.proofs.array_values.ArrayChainArrayToBytesCodecTraits.put_part.Goals as goal

pub returns-in-Plain-clause-stopped : goal.returns-in-Plain-clause-stopped
returns-in-Plain-clause-stopped g c =
    let bytes = g.B.BytesToBytesCodecTraits.meaning in
    let elements = elements_of c.args.part.elements.now in
    subst (λ s. AreMade (DecodesOutermost (around_outermost bytes s) elements c.args.pieces) (length c.args.pieces.slices.items) c.args.made.items → IsStoppedBy c.args.pieces.stopped c.put_part.result) (sym c.in-Plain.is) c.put_part.ensures.stopped

pub returns-in-Sharded-clause-part : goal.returns-in-Sharded-clause-part
returns-in-Sharded-clause-part g c =
    let bytes = g.B.BytesToBytesCodecTraits.meaning in
    let elements = elements_of c.args.part.elements.now in
    let asked = asked_of c.args.part.indexer in
    subst (λ s. (stored : Option (List ℕ)) → SplitsOutermostPart (around_outermost bytes s) (coded_part (array_meaning bytes s) c.args.part) stored asked c.args.pieces → AreMade (DecodesOutermost (around_outermost bytes s) elements c.args.pieces) (length c.args.pieces.slices.items) c.args.made.items → DecodesPart (coded_part (array_meaning bytes s) c.args.part) stored asked c.put_part-in-Sharded.result)
    (sym c.in-Sharded.is) c.put_part-in-Sharded.ensures.part

pub returns-in-Sharded-clause-stopped : goal.returns-in-Sharded-clause-stopped
returns-in-Sharded-clause-stopped g c =
    let bytes = g.B.BytesToBytesCodecTraits.meaning in
    let elements = elements_of c.args.part.elements.now in
    subst (λ s. AreMade (DecodesOutermost (around_outermost bytes s) elements c.args.pieces) (length c.args.pieces.slices.items) c.args.made.items → IsStoppedBy c.args.pieces.stopped c.put_part-in-Sharded.result) (sym c.in-Sharded.is) c.put_part-in-Sharded.ensures.stopped

pub returns-in-Nested-clause-part : goal.returns-in-Nested-clause-part
returns-in-Nested-clause-part g c =
    let bytes = g.B.BytesToBytesCodecTraits.meaning in
    let elements = elements_of c.args.part.elements.now in
    let asked = asked_of c.args.part.indexer in
    subst (λ s. (stored : Option (List ℕ)) → SplitsOutermostPart (around_outermost bytes s) (coded_part (array_meaning bytes s) c.args.part) stored asked c.args.pieces → AreMade (DecodesOutermost (around_outermost bytes s) elements c.args.pieces) (length c.args.pieces.slices.items) c.args.made.items → DecodesPart (coded_part (array_meaning bytes s) c.args.part) stored asked c.put_part-in-Nested.result)
    (sym c.in-Nested.is) c.put_part-in-Nested.ensures.part

pub returns-in-Nested-clause-stopped : goal.returns-in-Nested-clause-stopped
returns-in-Nested-clause-stopped g c =
    let bytes = g.B.BytesToBytesCodecTraits.meaning in
    let elements = elements_of c.args.part.elements.now in
    subst (λ s. AreMade (DecodesOutermost (around_outermost bytes s) elements c.args.pieces) (length c.args.pieces.slices.items) c.args.made.items → IsStoppedBy c.args.pieces.stopped c.put_part-in-Nested.result) (sym c.in-Nested.is) c.put_part-in-Nested.ensures.stopped
