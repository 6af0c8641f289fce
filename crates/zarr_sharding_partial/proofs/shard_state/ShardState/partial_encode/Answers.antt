use Rattle.zarr_codecs_arrays.specs.Views.{elements_of, payload_of}
use Rattle.std.proofs.Common.{arith}
use Rattle.zarr_codecs_regions.proofs.AskedPlaces as regions
use Rattle.zarr_codecs_traits.specs.Indexers.{asked_of}
use Rattle.zarr_sharding_partial.specs.Shards.{ShardOf}
use Rattle.zarr_sharding_index.specs.Views.{location_of}
use Rattle.zarr_sharding_index.specs.Known.{end_of, pairs_in}
use Rattle.zarr_sharding_partial.specs.Puts.{Putting}
use Rattle.zarr_sharding_index.specs.Held.{Held, held_as}
use Rattle.zarr_sharding_partial.proofs.Known.{pairs_count}
use Rattle.zarr_sharding_partial.proofs.PutInto.{IsKnown, put_ok, put_refused}
use Rattle.zarr_sharding_partial.proofs.shard_state.ShardState.partial_encode.Goals as goal

pub returns-in-Ok-clause-ok : goal.returns-in-Ok-clause-ok
returns-in-Ok-clause-ok g c = λ honest told.
    let self = c.args.self.now in
    let codec = self.codec.now in
    let contents = g.E.BytesPartialDecoderTraits.contents in
    let s : ShardOf = record {
      subchunk = codec.subchunk_shape;
      inner = g.I.ArrayToBytesCodecTraits.meaning codec.inner_codecs;
      index = g.X.ArrayToBytesCodecTraits.meaning codec.index_codecs;
      location = location_of codec.index_location;
      elements = elements_of self.elements.now;
      shape = self.shape.now;
    } in
    let old : Held = held_as (contents self.source) (pairs_in self.known) (end_of self.known) in
    let asked = asked_of c.args.indexer in
    let payload = payload_of c.args.bytes in
    let exact = g.I.ArrayToBytesCodecTraits.is_function codec.inner_codecs in
    let a = c.in-Ok.ensures.ok in
    let made = c.put_asked.new.self in
    let new : Held = held_as (contents made.source) (pairs_in made.known) (end_of made.known) in
    let known : IsKnown s old = record {
      -- (a codec is lawful wherever a thread may run, so here too)
      lawful = (
        (g.met.I.ArrayToBytesCodecTraits g.world.𝓛 g.world.𝓜 g.world.𝓡 ((λ s x. x), (λ x. x), (λ x. x), λ x. x)).lawful codec.inner_codecs,
        (g.met.X.ArrayToBytesCodecTraits g.world.𝓛 g.world.𝓜 g.world.𝓡 ((λ s x. x), (λ x. x), (λ x. x), λ x. x)).lawful codec.index_codecs,
      );
      fill = self.elements.now.fills;
      fit = self.fit;
      small = self.small;
      count = pairs_count s self.known.shape.items old.pairs self.cut self.known.many;
      told = told;
    } in
    let put : Putting = record { shard = s; exact = exact; one = g.X.ArrayToBytesCodecTraits.is_function codec.index_codecs; asked = asked; payload = payload } in
    put_ok c.put_asked.result put a.cells old new a.given (regions.asked_places s.shape asked a.given.inside) known (c.put_asked.ensures.ok honest told a.cells a.given.valid)

pub returns-in-Ok-clause-cause : goal.returns-in-Ok-clause-cause
returns-in-Ok-clause-cause g c = λ honest told.
    let self = c.args.self.now in
    let codec = self.codec.now in
    let contents = g.E.BytesPartialDecoderTraits.contents in
    let s : ShardOf = record {
      subchunk = codec.subchunk_shape;
      inner = g.I.ArrayToBytesCodecTraits.meaning codec.inner_codecs;
      index = g.X.ArrayToBytesCodecTraits.meaning codec.index_codecs;
      location = location_of codec.index_location;
      elements = elements_of self.elements.now;
      shape = self.shape.now;
    } in
    let old : Held = held_as (contents self.source) (pairs_in self.known) (end_of self.known) in
    let asked = asked_of c.args.indexer in
    let a = c.in-Ok.ensures.ok in
    let exact = g.I.ArrayToBytesCodecTraits.is_function codec.inner_codecs in
    let put : Putting = record { shard = s; exact = exact; one = g.X.ArrayToBytesCodecTraits.is_function codec.index_codecs; asked = asked; payload = payload_of c.args.bytes } in
    put_refused c.put_asked.result put a.cells old a.given (c.put_asked.ensures.cause honest told a.cells a.given.valid)

pub returns-in-Err-clause-given : goal.returns-in-Err-clause-given
returns-in-Err-clause-given g c = record { all = λ honest. omega arith; unwritten = λ honest first. omega arith }

pub put_asked-requires : goal.put_asked-requires
put_asked-requires g c = c.in-Ok.ensures.ok.given.inside
