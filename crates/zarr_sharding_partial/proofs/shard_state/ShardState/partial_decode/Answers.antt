use Rattle.std.proofs.Common.{◌≡◌, ◌∙◌, ◌+◌, ◌≤◌, ap, sym, refl, subst, length, List, [], unwrap_or}
use Rattle.zarr_codecs_arrays.specs.Views.{elements_of}
use Rattle.zarr_codecs_meaning.specs.Chains.{Location}
use Rattle.zarr_codecs_meaning.specs.Encoding.{Pair}
use Rattle.zarr_codecs_regions.proofs.AskedPlaces as regions
use Rattle.zarr_codecs_traits.specs.Indexers.{asked_of, numbers_asked}
use Rattle.zarr_sharding_codec.specs.BytesMet.{bytes_met}
use Rattle.zarr_sharding_codec.specs.Reading.{IsTotalOf, ListsRead, shard_cells, subchunks_of}
use Rattle.zarr_sharding_partial.specs.Pairs.{index_length}
use Rattle.zarr_sharding_partial.specs.Shards.{ShardOf}
use Rattle.zarr_sharding_index.specs.Present.{all_pairs}
use Rattle.zarr_sharding_index.specs.Views.{location_of}
use Rattle.zarr_sharding_index.specs.Held.{shard_length, Held, held_as}
use Rattle.zarr_sharding_index.specs.Known.{end_of, pairs_in}
use Rattle.zarr_sharding_partial.proofs.Known.{pairs_count}
use Rattle.zarr_sharding_partial.proofs.ReadBack.{part_read_back, told_total}
use Rattle.zarr_sharding_partial.proofs.shard_state.ShardState.partial_decode.Goals as goal

pub read_asked-requires-clause-many : goal.read_asked-requires-clause-many
read_asked-requires-clause-many g c =
    let self = c.args.self.now in
    let codec = self.codec.now in
    let s : ShardOf = record {
      subchunk = codec.subchunk_shape;
      inner = g.I.ArrayToBytesCodecTraits.meaning codec.inner_codecs;
      index = g.X.ArrayToBytesCodecTraits.meaning codec.index_codecs;
      location = location_of codec.index_location;
      elements = elements_of self.elements.now;
      shape = self.shape.now;
    } in
    ap (λ (ps : List Pair). length ps) c.pairs.ensures ∙ pairs_count s self.known.shape.items (pairs_in self.known) self.cut self.known.many

pub returns-clause-part : goal.returns-clause-part
returns-clause-part g c = λ honest told.
    let self = c.args.self.now in
    let codec = self.codec.now in
    let s : ShardOf = record {
      subchunk = codec.subchunk_shape;
      inner = g.I.ArrayToBytesCodecTraits.meaning codec.inner_codecs;
      index = g.X.ArrayToBytesCodecTraits.meaning codec.index_codecs;
      location = location_of codec.index_location;
      elements = elements_of self.elements.now;
      shape = self.shape.now;
    } in
    let contents = g.E.BytesPartialDecoderTraits.contents self.source in
    let held : Held = held_as contents (pairs_in self.known) (end_of self.known) in
    let lent = all_pairs c.pairs.result.now in
    let asked = asked_of c.args.indexer in
    let numbers = numbers_asked s.shape asked in
    let result = c.read_asked.result in
    let size_is = self.sized in
    let long = c.total.ensures ∙ (ap (λ (l : Location). shard_length l self.known.size held.end) self.located ∙ ap (λ n. shard_length s.location n held.end) size_is) in
    let total = subst (λ (ps : List Pair). IsTotalOf contents ps c.total.result) (sym c.pairs.ensures) (told_total s held c.total.result told long) in
    let read = subst (λ (ps : List Pair). ListsRead s.elements s.shape (shard_cells (subchunks_of s.inner s.elements s.shape s.subchunk) (unwrap_or contents []) ps numbers) result) c.pairs.ensures (c.read_asked.ensures.part honest total) in
    part_read_back s numbers asked self.fit c.in_default.ensures refl (regions.asked_places s.shape asked c.in_default.ensures) held result
    (pairs_count s self.known.shape.items held.pairs self.cut self.known.many) told read

pub returns-clause-given : goal.returns-clause-given
returns-clause-given g c = λ honest.
    let self = c.args.self.now in
    let codec = self.codec.now in
    let s : ShardOf = record {
      subchunk = codec.subchunk_shape;
      inner = g.I.ArrayToBytesCodecTraits.meaning codec.inner_codecs;
      index = g.X.ArrayToBytesCodecTraits.meaning codec.index_codecs;
      location = location_of codec.index_location;
      elements = elements_of self.elements.now;
      shape = self.shape.now;
    } in
    let count = g.E.BytesPartialDecoderTraits.given_bytes in
    let numbers = numbers_asked s.shape (asked_of c.args.indexer) in
    let end = end_of self.known in
    let size_is = self.sized in
    let long : c.total.result ≡ shard_length s.location (index_length s) end = c.total.ensures ∙ (ap (λ (l : Location). shard_length l self.known.size end) self.located ∙ ap (λ n. shard_length s.location n end) size_is) in
    subst (λ n. count c.read_asked.new.source ≤ count self.source + bytes_met s.shape s.subchunk numbers (pairs_in self.known) n) long
    (subst (λ (ps : List Pair). count c.read_asked.new.source ≤ count self.source + bytes_met s.shape s.subchunk numbers ps c.total.result) c.pairs.ensures (c.read_asked.ensures.given honest))
