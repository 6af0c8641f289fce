use Rattle.zarr_codecs_arrays.specs.Views.{elements_of}
use Rattle.zarr_codecs_traits.specs.Indexers.{asked_of}
use Rattle.zarr_codecs_around.specs.Views.{codecs_of}
use Rattle.zarr_sharding_chains.specs.Views.{arrays_of, others_meaning}
use Rattle.zarr_sharding_chains.proofs.CutSharded.{part_alone}
use Rattle.zarr_sharding_chains.proofs.sharded_chain.ShardedChainArrayToBytesCodecTraits.put_part.Goals as goal

pub returns-clause-part : goal.returns-clause-part
returns-clause-part g c = λ stored cut made.
    let rest = others_meaning g.I.ArrayToBytesCodecTraits.meaning g.B.BytesToBytesCodecTraits.meaning c.args.self.now in
    part_alone (codecs_of (arrays_of c.args.self.now)) rest (elements_of c.args.part.elements.now) c.args.part.shape.now stored (asked_of c.args.part.indexer) c.put_part.result cut.alone (c.put_part.ensures.part stored cut.cut made)
