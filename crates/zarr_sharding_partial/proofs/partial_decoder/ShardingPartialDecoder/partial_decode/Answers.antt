use Rattle.std.proofs.Common.{◌≡◌, ◌∙◌, ◌*◌, ap, sym, refl, subst, length, Option, List, ℕ}
use Rattle.zarr_codecs_arrays.specs.Views.{elements_of}
use Rattle.zarr_codecs_meaning.specs.Chains.{sharded}
use Rattle.zarr_codecs_meaning.specs.Places.{grid_of, index_shape, parts_of}
use Rattle.zarr_codecs_meaning.proofs.Parts.{index_product, length-parts}
use Rattle.zarr_codecs_traits.specs.Indexers.{asked_of, numbers_asked}
use Rattle.zarr_codecs_traits.specs.Arrays.{coded}
use Rattle.zarr_codecs_traits.specs.Outcomes.{DecodesPart}
use Rattle.zarr_codecs_traits.proofs.CountedReads.{read_counted}
use Rattle.zarr_grids_boxes.specs.Boxes.{product}
use Rattle.zarr_sharding_index.specs.HeldIndex.{IsIndexHeld}
use Rattle.zarr_sharding_index.specs.Present.{all_pairs}
use Rattle.zarr_sharding_index.specs.Views.{location_of}
use Rattle.zarr_sharding_codec.proofs.PartsRead.{part_found, value_read, value_total}
use Rattle.zarr_sharding_partial.specs.Shards.{ShardOf}
use Rattle.zarr_sharding_partial.specs.Decoders.{shard_of}
use Rattle.zarr_sharding_partial.proofs.Opened.{held_count, held_nothing, held_value, parts_taken}
use Rattle.zarr_sharding_partial.proofs.partial_decoder.ShardingPartialDecoder.partial_decode.Goals as goal

pub returns-in_default-held-clause-part : goal.returns-in_default-held-clause-part
returns-in_default-held-clause-part g c = λ honest.
    let self = c.args.self.now in
    let codec = self.codec.now in
    let inner = g.I.ArrayToBytesCodecTraits.meaning codec.inner_codecs in
    let index = g.X.ArrayToBytesCodecTraits.meaning codec.index_codecs in
    let location = location_of codec.index_location in
    let elements = elements_of self.elements.now in
    let shape = self.shape.now in
    let asked = asked_of c.args.indexer in
    let contents = g.D.BytesPartialDecoderTraits.contents self.source.now in
    let none = held_nothing contents self.held c.in_default-held.is (self.told honest) in
    let chain = sharded codec.subchunk_shape inner index location in
    subst (λ (stored : Option (List ℕ)). DecodesPart (coded chain elements shape) stored asked c.fill_asked.result) (sym none) (c.fill_asked.ensures.part chain self.fit)

pub returns-in_default-held-clause-refused : goal.returns-in_default-held-clause-refused
returns-in_default-held-clause-refused g c =
    let count = g.D.BytesPartialDecoderTraits.refused_calls c.args.self.now.source.now in
    read_counted count count c.fill_asked.result (sym (c.fill_asked.ensures.no_source count))

pub read_asked-requires-clause-many : goal.read_asked-requires-clause-many
read_asked-requires-clause-many g c =
    let self = c.args.self.now in
    let subchunk = self.codec.now.subchunk_shape in
    held_count (product (grid_of self.shape.now subchunk)) self.held c.in-Some.fetched c.in-Some.is self.many ∙ sym (length-parts self.shape.now subchunk)

pub returns-clause-part : goal.returns-clause-part
returns-clause-part g c = λ honest.
    let self = c.args.self.now in
    let codec = self.codec.now in
    let subchunk = codec.subchunk_shape in
    let inner = g.I.ArrayToBytesCodecTraits.meaning codec.inner_codecs in
    let index = g.X.ArrayToBytesCodecTraits.meaning codec.index_codecs in
    let location = location_of codec.index_location in
    let elements = elements_of self.elements.now in
    let shape = self.shape.now in
    let asked = asked_of c.args.indexer in
    let contents = g.D.BytesPartialDecoderTraits.contents self.source.now in
    let pairs = all_pairs c.in-Some.fetched.pairs in
    let count : length pairs ≡ length (parts_of shape subchunk) = held_count (product (grid_of shape subchunk)) self.held c.in-Some.fetched c.in-Some.is self.many ∙ sym (length-parts shape subchunk) in
    let found = held_value index location (index_shape shape subchunk) contents self.held c.in-Some.fetched c.in-Some.is (self.told honest) (self.opened honest) in
    let held : IsIndexHeld index location (index_shape shape subchunk) found.value pairs = record { is = found.pairs; many = index_product shape subchunk ∙ ap (λ n. 2 * n) (sym count) } in
    let numbers = numbers_asked shape asked in
    let read = value_read inner elements shape subchunk contents found.value pairs numbers c.read_asked.result found.is (c.read_asked.ensures.part honest (value_total contents pairs c.in-Some.fetched.total found.value found.is found.total)) in
    subst (λ (stored : Option (List ℕ)). DecodesPart (coded (sharded subchunk inner index location) elements shape) stored asked c.read_asked.result) (sym found.is)
    (part_found subchunk inner index location elements shape found.value pairs numbers asked c.read_asked.result self.fit c.in_default.ensures refl held read)

pub returns-clause-given : goal.returns-clause-given
returns-clause-given g c = λ honest.
    let self = c.args.self.now in
    let D = g.D.BytesPartialDecoderTraits in
    let s : ShardOf = shard_of g.I.ArrayToBytesCodecTraits.meaning g.X.ArrayToBytesCodecTraits.meaning self in
    let contents = D.contents self.source.now in
    let held = held_value s.index s.location (index_shape s.shape s.subchunk) contents self.held c.in-Some.fetched c.in-Some.is (self.told honest) (self.opened honest) in
    parts_taken s contents c.in-Some.fetched (asked_of c.args.indexer) (D.given_bytes self.source.now) (D.given_bytes c.read_asked.new.source) held (c.read_asked.ensures.given honest)
