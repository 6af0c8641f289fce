use Rattle.std.proofs.Common.{Option, subst}
use Rattle.zarr_sharding_index.specs.HeldIndex.{IsWholeFetched}
use Rattle.zarr_sharding_index.specs.Views.{location_of}
use Rattle.zarr_sharding_index.specs.declared.fetched_index.WholeIndex.{WholeIndex}
use Rattle.zarr_sharding_index.proofs.HeldIndex.{present_fetched}
use Rattle.zarr_sharding_index.proofs.fetched_index.fetch_index.Goals as goal

pub returns-in_ok-pairs-in-Ok-Some-clause-index : goal.returns-in_ok-pairs-in-Ok-Some-clause-index
returns-in_ok-pairs-in-Ok-Some-clause-index g c = λ honest.
    let meaning = g.X.ArrayToBytesCodecTraits.meaning c.args.codec.now in
    let location = location_of c.args.layout.location in
    let contents = g.D.BytesPartialDecoderTraits.contents c.args.source.now in
    present_fetched meaning location c.args.layout.shape.now contents c.in-Ok-Some.found c.in_ok-pairs-in-Ok-Some.pairs c.in_ok-pairs-in-Ok-Some.ensures
    (subst (λ (o : Option WholeIndex). IsWholeFetched meaning location c.args.layout.shape.now contents o) c.in-Ok-Some.field-0-is (c.in-Ok-Some.ensures.index honest))
