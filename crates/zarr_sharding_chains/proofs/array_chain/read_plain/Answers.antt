use Rattle.std.proofs.Common.{map}
use Rattle.zarr_grids_metadata.specs.Views.{point_of}
use Rattle.zarr_codecs_chains.specs.Views.{meaning_of}
use Rattle.zarr_sharding_chains.proofs.ShardsNest.{no_plain, plain_array, plain_refused}
use Rattle.zarr_sharding_chains.proofs.array_chain.read_plain.Goals as goal

pub returns-in-Ok-clause-ok : goal.returns-in-Ok-clause-ok
returns-in-Ok-clause-ok g c =
    let b = g.B.BytesToBytesCodecTraits in
    plain_array b.reads (map point_of c.args.codecs.now) (meaning_of b.meaning c.in-Ok.chain) c.in-Ok.ensures.ok

pub returns-in-Err-clause-err : goal.returns-in-Err-clause-err
returns-in-Err-clause-err g c = λ none other. no_plain g.B.BytesToBytesCodecTraits.reads (map point_of c.args.codecs.now) none (c.in-Err.ensures.err other)

pub returns-in-Err-clause-refused : goal.returns-in-Err-clause-refused
returns-in-Err-clause-refused g c = λ none other. plain_refused g.B.BytesToBytesCodecTraits.reads (map point_of c.args.codecs.now) c.in-Err.error none (c.in-Err.ensures.refused other)
