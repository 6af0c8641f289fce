use Rattle.std.proofs.Common.{◌≤◌, ◌+◌, ◌∙◌, sym, refl, subst, IsTrue, Option, List, ℕ}
use Rattle.zarr_codecs_arrays.specs.Views.{elements_of}
use Rattle.zarr_codecs_meaning.specs.Chains.{sharded}
use Rattle.zarr_codecs_meaning.specs.Places.{grid_of, index_shape}
use Rattle.zarr_codecs_meaning.proofs.Fitting.{fitted}
use Rattle.zarr_codecs_meaning.proofs.Parts.{length-parts}
use Rattle.zarr_codecs_regions.proofs.AskedPlaces.{asked_places}
use Rattle.zarr_codecs_traits.specs.Indexers.{asked_of, numbers_asked}
use Rattle.zarr_codecs_traits.specs.Arrays.{coded}
use Rattle.zarr_codecs_traits.specs.Outcomes.{DecodesPart}
use Rattle.zarr_codecs_traits.specs.ReadBytes.{most_of_numbers}
use Rattle.zarr_grids_boxes.specs.Boxes.{product}
use Rattle.zarr_sharding_index.specs.Present.{all_pairs}
use Rattle.zarr_sharding_index.specs.Views.{location_of}
use Rattle.zarr_sharding_codec.specs.Reading.{HasPairs}
use Rattle.zarr_sharding_codec.proofs.EncodedShard.{index_part}
use Rattle.zarr_sharding_codec.proofs.MostTaken.{slices_taken}
use Rattle.zarr_sharding_codec.proofs.PartsRead.{fetched_nothing, fetched_value, part_found, value_read, value_total}
use Rattle.zarr_sharding_codec.proofs.StoredLoop.{rank_fits}
use Rattle.zarr_sharding_codec.proofs.codec.ShardingCodec.read_part.Goals as goal

pub open_index-requires-clause-rank : goal.open_index-requires-clause-rank
open_index-requires-clause-rank g c =
    let self = c.args.self.now in
    rank_fits self.subchunk_shape (g.I.ArrayToBytesCodecTraits.meaning self.inner_codecs) (g.X.ArrayToBytesCodecTraits.meaning self.index_codecs) (location_of self.index_location) (elements_of c.args.part.elements.now) c.args.part.shape.now c.requires.fit

pub open_index-requires-clause-fit : goal.open_index-requires-clause-fit
open_index-requires-clause-fit g c =
    let self = c.args.self.now in
    index_part self.subchunk_shape (g.I.ArrayToBytesCodecTraits.meaning self.inner_codecs) (g.X.ArrayToBytesCodecTraits.meaning self.index_codecs) (location_of self.index_location) (elements_of c.args.part.elements.now) c.args.part.shape.now c.requires.fit

pub read_asked-requires-clause-many : goal.read_asked-requires-clause-many
read_asked-requires-clause-many g c =
    let self = c.args.self.now in
    let shape = c.args.part.shape.now in
    subst (HasPairs (product (grid_of shape self.subchunk_shape))) c.in-Ok-Some.field-0-is c.in-Ok-Some.ensures.many ∙ sym (length-parts shape self.subchunk_shape)

pub returns-in-Ok-Some-clause-part : goal.returns-in-Ok-Some-clause-part
returns-in-Ok-Some-clause-part g c = λ honest.
    let self = c.args.self.now in
    let laws = g.met.D.BytesPartialDecoderTraits in
    let inner = g.I.ArrayToBytesCodecTraits.meaning self.inner_codecs in
    let index = g.X.ArrayToBytesCodecTraits.meaning self.index_codecs in
    let location = location_of self.index_location in
    let elements = elements_of c.args.part.elements.now in
    let shape = c.args.part.shape.now in
    let asked = asked_of c.args.part.indexer in
    let numbers = numbers_asked shape asked in
    let first = c.in-Ok-Some.ensures in
    let contents = g.D.BytesPartialDecoderTraits.contents c.args.source.now in
    let opened = fetched_value index location (index_shape shape self.subchunk_shape) contents c.in-Ok-Some.field-0 c.in-Ok-Some.fetched c.in-Ok-Some.field-0-is (first.index honest) in
    let same = laws.same _ _ first.follows in
    let still = subst IsTrue (laws.honest _ _ first.follows) honest in
    let is = sym same ∙ opened.is in
    let pairs = all_pairs c.in-Ok-Some.fetched.pairs in
    let found = value_read inner elements shape self.subchunk_shape (g.D.BytesPartialDecoderTraits.contents c.open_index.new.source) opened.value pairs numbers c.read_asked.result is
    (c.read_asked.ensures.part still (value_total (g.D.BytesPartialDecoderTraits.contents c.open_index.new.source) pairs c.in-Ok-Some.fetched.total opened.value is opened.total)) in
    subst (λ (stored : Option (List ℕ)). DecodesPart (coded (sharded self.subchunk_shape inner index location) elements shape) stored asked c.read_asked.result) (sym opened.is)
    (part_found self.subchunk_shape inner index location elements shape opened.value pairs numbers asked c.read_asked.result c.requires.fit c.requires.inside refl opened.held found)

pub returns-in-Ok-None-clause-part : goal.returns-in-Ok-None-clause-part
returns-in-Ok-None-clause-part g c = λ honest.
    let self = c.args.self.now in
    let index = g.X.ArrayToBytesCodecTraits.meaning self.index_codecs in
    let location = location_of self.index_location in
    let shape = c.args.part.shape.now in
    let array = coded (sharded self.subchunk_shape (g.I.ArrayToBytesCodecTraits.meaning self.inner_codecs) index location) (elements_of c.args.part.elements.now) shape in
    let contents = g.D.BytesPartialDecoderTraits.contents c.args.source.now in
    let none = fetched_nothing index location (index_shape shape self.subchunk_shape) contents c.in-Ok-None.field-0 c.in-Ok-None.field-0-is (c.in-Ok-None.ensures.index honest) in
    subst (λ (stored : Option (List ℕ)). DecodesPart array stored (asked_of c.args.part.indexer) c.fill_asked.result) (sym none) (c.fill_asked.ensures.part array.chain c.requires.fit)

pub returns-in-Ok-None-clause-refused : goal.returns-in-Ok-None-clause-refused
returns-in-Ok-None-clause-refused g c = c.in-Ok-None.ensures.refused ∙ sym (c.fill_asked.ensures.no_source (g.D.BytesPartialDecoderTraits.refused_calls c.args.source.now))

pub returns-in-Ok-Some-clause-given : goal.returns-in-Ok-Some-clause-given
returns-in-Ok-Some-clause-given g c = λ honest.
    let self = c.args.self.now in
    let subchunk = self.subchunk_shape in
    let D = g.D.BytesPartialDecoderTraits in
    let inner = g.I.ArrayToBytesCodecTraits.meaning self.inner_codecs in
    let index = g.X.ArrayToBytesCodecTraits.meaning self.index_codecs in
    let location = location_of self.index_location in
    let elements = elements_of c.args.part.elements.now in
    let shape = c.args.part.shape.now in
    let asked = asked_of c.args.part.indexer in
    let numbers = numbers_asked shape asked in
    let first = c.in-Ok-Some.ensures in
    let contents = D.contents c.args.source.now in
    let opened = fetched_value index location (index_shape shape subchunk) contents c.in-Ok-Some.field-0 c.in-Ok-Some.fetched c.in-Ok-Some.field-0-is (first.index honest) in
    let still = subst IsTrue (g.met.D.BytesPartialDecoderTraits.honest _ _ first.follows) honest in
    let many = subst (HasPairs (product (grid_of shape subchunk))) c.in-Ok-Some.field-0-is first.many ∙ sym (length-parts shape subchunk) in
    subst (λ (stored : Option (List ℕ)). D.given_bytes c.read_asked.new.source ≤ D.given_bytes c.args.source.now + most_of_numbers (sharded subchunk inner index location) elements.type shape stored numbers) (sym opened.is)
    (slices_taken subchunk inner index location elements.type shape opened.value numbers (all_pairs c.in-Ok-Some.fetched.pairs) c.in-Ok-Some.fetched.total c.args.size (D.given_bytes c.args.source.now) (D.given_bytes c.open_index.new.source) (D.given_bytes c.read_asked.new.source)
    opened.total (fitted subchunk inner index location elements shape c.requires.fit).cuts many (asked_places shape asked c.requires.inside) opened.held.is c.requires.size (first.given honest) (c.read_asked.ensures.given still))
