use Rattle.std.proofs.Common.{subst}
use Rattle.zarr_sharding_index.specs.Views.{location_of}
use Rattle.zarr_sharding_index.specs.Opened.{Opens}
use Rattle.zarr_sharding_index.proofs.Opened.{known_or_refused}
use Rattle.zarr_sharding_index.proofs.known_shard.KnownShard.open.Goals as goal

pub returns-in-Ok-clause-cause : goal.returns-in-Ok-clause-cause
returns-in-Ok-clause-cause g c = λ honest.
    let layout = c.args.layout in
    let location = location_of layout.location in
    known_or_refused (g.X.ArrayToBytesCodecTraits.meaning c.args.codecs.now) location layout.shape.now (g.D.BytesPartialDecoderTraits.contents c.args.source.now) c.in-Ok.fetched c.open_fetched.result (c.in-Ok.ensures.index honest)
    (subst (λ n. Opens location layout.shape.now n c.in-Ok.fetched c.open_fetched.result) c.requires.size c.open_fetched.ensures.opens)
