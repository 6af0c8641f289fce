use Rattle.std.proofs.Common.{◌∙◌, [], List, ℕ, Option, IsTrue, subst, sym, unwrap_or}
use Rattle.zarr_codecs_arrays.specs.Views.{elements_of}
use Rattle.zarr_codecs_meaning.specs.Chains.{sharded}
use Rattle.zarr_codecs_meaning.specs.Places.{grid_of, index_shape}
use Rattle.zarr_codecs_meaning.proofs.Parts.{length-parts}
use Rattle.zarr_codecs_regions.proofs.AskedPlaces.{asked_places}
use Rattle.zarr_codecs_regions.proofs.FillValues.{too_large_asked}
use Rattle.zarr_codecs_traits.specs.Arrays.{coded}
use Rattle.zarr_codecs_traits.specs.Indexers.{asked_of, numbers_asked}
use Rattle.zarr_codecs_traits.specs.Pieces.{SplitsPart}
use Rattle.zarr_grids_boxes.specs.Boxes.{product}
use Rattle.zarr_sharding_index.specs.Present.{all_pairs}
use Rattle.zarr_sharding_index.specs.Views.{location_of}
use Rattle.zarr_sharding_codec.specs.Pieces.{ArePartRead, IsCutPart, asked_part}
use Rattle.zarr_sharding_codec.specs.Reading.{HasPairs}
use Rattle.zarr_sharding_codec.proofs.EncodedShard.{index_part}
use Rattle.zarr_sharding_codec.proofs.GivenCuts.{value_taken}
use Rattle.zarr_sharding_codec.proofs.MostTaken.{index_taken}
use Rattle.zarr_sharding_codec.proofs.PartsRead.{fetched_nothing, fetched_value, value_total}
use Rattle.zarr_sharding_codec.proofs.StoredLoop.{rank_fits}
use Rattle.zarr_sharding_codec.proofs.codec.ShardingCodec.cut_part.Goals as goal

pub open_index-requires-clause-rank : goal.open_index-requires-clause-rank
open_index-requires-clause-rank g c =
    let self = c.args.self.now in
    let subchunk = self.subchunk_shape in
    let inner = g.I.ArrayToBytesCodecTraits.meaning self.inner_codecs in
    let index = g.X.ArrayToBytesCodecTraits.meaning self.index_codecs in
    let location = location_of self.index_location in
    rank_fits subchunk inner index location (elements_of c.args.part.elements.now) c.args.part.shape.now c.requires.fit

pub open_index-requires-clause-fit : goal.open_index-requires-clause-fit
open_index-requires-clause-fit g c =
    let self = c.args.self.now in
    let subchunk = self.subchunk_shape in
    let inner = g.I.ArrayToBytesCodecTraits.meaning self.inner_codecs in
    let index = g.X.ArrayToBytesCodecTraits.meaning self.index_codecs in
    let location = location_of self.index_location in
    index_part subchunk inner index location (elements_of c.args.part.elements.now) c.args.part.shape.now c.requires.fit

pub cut_asked-requires-clause-many : goal.cut_asked-requires-clause-many
cut_asked-requires-clause-many g c =
    let self = c.args.self.now in
    let shape = c.args.part.shape.now in
    subst (HasPairs (product (grid_of shape self.subchunk_shape))) c.in-Ok-Some.field-0-is c.in-Ok-Some.ensures.many ∙ sym (length-parts shape self.subchunk_shape)

pub returns-in_ok-cut_asked-in-Ok-Some-clause-part : goal.returns-in_ok-cut_asked-in-Ok-Some-clause-part
returns-in_ok-cut_asked-in-Ok-Some-clause-part g c = λ honest.
    let self = c.args.self.now in
    let subchunk = self.subchunk_shape in
    let inner = g.I.ArrayToBytesCodecTraits.meaning self.inner_codecs in
    let index = g.X.ArrayToBytesCodecTraits.meaning self.index_codecs in
    let location = location_of self.index_location in
    let laws = g.met.D.BytesPartialDecoderTraits in
    let shape = c.args.part.shape.now in
    let asked = asked_of c.args.part.indexer in
    let first = c.in-Ok-Some.ensures in
    let contents = g.D.BytesPartialDecoderTraits.contents in
    let opened = fetched_value index location (index_shape shape subchunk) (contents c.args.source.now) c.in-Ok-Some.field-0 c.in-Ok-Some.fetched c.in-Ok-Some.field-0-is (first.index honest) in
    let still = subst IsTrue (laws.honest _ _ first.follows) honest in
    let is = sym (laws.same _ _ first.follows) ∙ opened.is in
    let pairs = all_pairs c.in-Ok-Some.fetched.pairs in
    let array = coded (sharded subchunk inner index location) (elements_of c.args.part.elements.now) shape in
    let told = value_total (contents c.open_index.new.source) pairs c.in-Ok-Some.fetched.total opened.value is opened.total in
    record {
      fit = c.requires.fit;
      inside = c.requires.inside;
      value = opened.value;
      stored_is = opened.is;
      pairs = pairs;
      held = opened.held;
      are = subst (λ (o : Option (List ℕ)). ArePartRead (asked_part array asked (unwrap_or o []) pairs) c.in_ok-cut_asked-in-Ok-Some.field-0) is (c.in_ok-cut_asked-in-Ok-Some.ensures.part still told);
    }

pub returns-then-is_box_too_large-clause-part : goal.returns-then-is_box_too_large-clause-part
returns-then-is_box_too_large-clause-part g c = λ honest.
    let part = c.args.part in
    too_large_asked (elements_of part.elements.now).type part.shape.now part.indexer c.requires.inside (c.is_box_too_large.ensures.0 c.if-is_box_too_large.true)

pub returns-in-Ok-None-clause-part : goal.returns-in-Ok-None-clause-part
returns-in-Ok-None-clause-part g c = λ honest.
    let self = c.args.self.now in
    let subchunk = self.subchunk_shape in
    let inner = g.I.ArrayToBytesCodecTraits.meaning self.inner_codecs in
    let index = g.X.ArrayToBytesCodecTraits.meaning self.index_codecs in
    let location = location_of self.index_location in
    let shape = c.args.part.shape.now in
    let asked = asked_of c.args.part.indexer in
    let array = coded (sharded subchunk inner index location) (elements_of c.args.part.elements.now) shape in
    let contents = g.D.BytesPartialDecoderTraits.contents c.args.source.now in
    let none = fetched_nothing index location (index_shape shape subchunk) contents c.in-Ok-None.field-0 c.in-Ok-None.field-0-is (c.in-Ok-None.ensures.index honest) in
    subst (λ (stored : Option (List ℕ)). SplitsPart (IsCutPart array stored asked) array stored asked c.fill_split.result) (sym none) (c.fill_split.ensures.part array.chain c.requires.fit)

pub returns-in-Ok-None-clause-refused : goal.returns-in-Ok-None-clause-refused
returns-in-Ok-None-clause-refused g c = c.in-Ok-None.ensures.refused ∙ sym (c.fill_split.ensures.refused (g.D.BytesPartialDecoderTraits.refused_calls c.args.source.now))

pub returns-in_ok-cut_asked-in-Ok-Some-clause-given : goal.returns-in_ok-cut_asked-in-Ok-Some-clause-given
returns-in_ok-cut_asked-in-Ok-Some-clause-given g c = λ honest.
    let self = c.args.self.now in
    let subchunk = self.subchunk_shape in
    let inner = g.I.ArrayToBytesCodecTraits.meaning self.inner_codecs in
    let index = g.X.ArrayToBytesCodecTraits.meaning self.index_codecs in
    let location = location_of self.index_location in
    let D = g.D.BytesPartialDecoderTraits in
    let shape = c.args.part.shape.now in
    let asked = asked_of c.args.part.indexer in
    let first = c.in-Ok-Some.ensures in
    let opened = fetched_value index location (index_shape shape subchunk) (D.contents c.args.source.now) c.in-Ok-Some.field-0 c.in-Ok-Some.fetched c.in-Ok-Some.field-0-is (first.index honest) in
    let still = subst IsTrue (g.met.D.BytesPartialDecoderTraits.honest _ _ first.follows) honest in
    let many = subst (HasPairs (product (grid_of shape subchunk))) c.in-Ok-Some.field-0-is first.many ∙ sym (length-parts shape subchunk) in
    value_taken subchunk inner index location (elements_of c.args.part.elements.now) shape (D.contents c.args.source.now) opened.value (numbers_asked shape asked) (all_pairs c.in-Ok-Some.fetched.pairs) c.in-Ok-Some.fetched.total c.args.size (D.given_bytes c.args.source.now) (D.given_bytes c.open_index.new.source) (D.given_bytes c.cut_asked.new.source)
    opened.is opened.total c.requires.fit many (asked_places shape asked c.requires.inside) opened.held.is c.requires.size (first.given honest) (c.in_ok-cut_asked-in-Ok-Some.ensures.given still)

pub returns-in_err-cut_asked-in-Ok-Some-clause-given : goal.returns-in_err-cut_asked-in-Ok-Some-clause-given
returns-in_err-cut_asked-in-Ok-Some-clause-given g c = λ honest.
    let self = c.args.self.now in
    let subchunk = self.subchunk_shape in
    let inner = g.I.ArrayToBytesCodecTraits.meaning self.inner_codecs in
    let index = g.X.ArrayToBytesCodecTraits.meaning self.index_codecs in
    let location = location_of self.index_location in
    let D = g.D.BytesPartialDecoderTraits in
    let shape = c.args.part.shape.now in
    let asked = asked_of c.args.part.indexer in
    let first = c.in-Ok-Some.ensures in
    let opened = fetched_value index location (index_shape shape subchunk) (D.contents c.args.source.now) c.in-Ok-Some.field-0 c.in-Ok-Some.fetched c.in-Ok-Some.field-0-is (first.index honest) in
    let still = subst IsTrue (g.met.D.BytesPartialDecoderTraits.honest _ _ first.follows) honest in
    let many = subst (HasPairs (product (grid_of shape subchunk))) c.in-Ok-Some.field-0-is first.many ∙ sym (length-parts shape subchunk) in
    value_taken subchunk inner index location (elements_of c.args.part.elements.now) shape (D.contents c.args.source.now) opened.value (numbers_asked shape asked) (all_pairs c.in-Ok-Some.fetched.pairs) c.in-Ok-Some.fetched.total c.args.size (D.given_bytes c.args.source.now) (D.given_bytes c.open_index.new.source) (D.given_bytes c.cut_asked.new.source)
    opened.is opened.total c.requires.fit many (asked_places shape asked c.requires.inside) opened.held.is c.requires.size (first.given honest) (c.in_err-cut_asked-in-Ok-Some.ensures.given still)

pub returns-in-Ok-None-clause-given : goal.returns-in-Ok-None-clause-given
returns-in-Ok-None-clause-given g c = λ honest.
    let self = c.args.self.now in
    let subchunk = self.subchunk_shape in
    let inner = g.I.ArrayToBytesCodecTraits.meaning self.inner_codecs in
    let index = g.X.ArrayToBytesCodecTraits.meaning self.index_codecs in
    let location = location_of self.index_location in
    let D = g.D.BytesPartialDecoderTraits in
    let shape = c.args.part.shape.now in
    let first = c.in-Ok-None.ensures in
    index_taken subchunk inner index location (elements_of c.args.part.elements.now).type shape (D.contents c.args.source.now) (numbers_asked shape (asked_of c.args.part.indexer)) c.args.size (D.given_bytes c.args.source.now) (D.given_bytes c.open_index.new.source) c.requires.size (first.given honest) (first.within honest)

pub returns-in-Err-clause-given : goal.returns-in-Err-clause-given
returns-in-Err-clause-given g c = λ honest.
    let self = c.args.self.now in
    let subchunk = self.subchunk_shape in
    let inner = g.I.ArrayToBytesCodecTraits.meaning self.inner_codecs in
    let index = g.X.ArrayToBytesCodecTraits.meaning self.index_codecs in
    let location = location_of self.index_location in
    let D = g.D.BytesPartialDecoderTraits in
    let shape = c.args.part.shape.now in
    let first = c.in-Err.ensures in
    index_taken subchunk inner index location (elements_of c.args.part.elements.now).type shape (D.contents c.args.source.now) (numbers_asked shape (asked_of c.args.part.indexer)) c.args.size (D.given_bytes c.args.source.now) (D.given_bytes c.open_index.new.source) c.requires.size (first.given honest) (first.within honest)
