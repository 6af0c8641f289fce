use Rattle.std.proofs.Common.{◌≡◌, ◌<◌, ◌^◌, ◌*◌, List, ℕ, Some, Option, length, true, refl, sym, subst, ap, rules}
use Rattle.zarr_grids_boxes.specs.Boxes.{product}
use Rattle.zarr_codecs_arrays.specs.Outcomes.{IsValid}
use Rattle.zarr_codecs_arrays.specs.Views.{elements_of, payload_of}
use Rattle.zarr_codecs_meaning.specs.Types.{Cell, DataType}
use Rattle.zarr_codecs_regions.proofs.AskedPlaces.{asked_places}
use Rattle.zarr_codecs_traits.specs.Indexers.{are_inside, asked_of, numbers_asked}
use Rattle.zarr_sharding_codec.specs.Fitting.{Suits}
use Rattle.zarr_sharding_codec.specs.Views.{shard_chain}
use Rattle.zarr_sharding_codec.proofs.codec.ShardingCodec.index_size_for.Goals as goal

pub returns-in-Ok-clause-ok : goal.returns-in-Ok-clause-ok
returns-in-Ok-clause-ok g c =
    let chain = shard_chain g.I.ArrayToBytesCodecTraits.meaning g.X.ArrayToBytesCodecTraits.meaning c.args.self.now in
    let type = (elements_of c.args.part.elements.now).type in
    let shape = c.args.part.shape.now in
    let asked = asked_of c.args.part.indexer in
    let payload = payload_of c.args.bytes.now in
    let numbers = numbers_asked shape asked in
    let suited : Suits chain type shape (Some c.in-Some.size) = search rules in
    let inside : are_inside shape asked ≡ true = search rules in
    let small : product shape < 2 ^ 63 = search rules in
    let many : c.in-Some-count_asked.count ≡ length numbers = search rules in
    let given : (cells : List Cell) × IsValid type payload c.in-Some-count_asked.count cells = search rules in
    let valid = subst (λ n. (cells : List Cell) × IsValid type payload n cells) many given in
    record { cells = valid.0; valid = valid.1; fit = suited.0; inside = inside; small = small; numbers_are = refl; below = asked_places shape asked inside; size_is = suited.1 }
