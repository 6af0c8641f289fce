use Rattle.std.proofs.Common.{◌∙◌, ◌+◌, ◌<◌, [], List, ℕ, Option, IsTrue, ap, arith, get_or, length, refl, subst, sym, unwrap_or}
use Rattle.zarr_codecs_arrays.specs.Views.{elements_of}
use Rattle.zarr_codecs_meaning.specs.Chains.{sharded}
use Rattle.zarr_codecs_meaning.specs.Encoding.{absent_pair}
use Rattle.zarr_codecs_meaning.proofs.Fitting.{fitted}
use Rattle.zarr_codecs_regions.proofs.AskedPlaces as regions
use Rattle.zarr_codecs_traits.specs.Arrays.{coded}
use Rattle.zarr_codecs_traits.specs.Indexers.{in_box, numbers_of}
use Rattle.zarr_codecs_traits.specs.Pieces.{refused_by_pieces}
use Rattle.zarr_codecs_traits.specs.declared.pieces.PiecePlaces.TheVariants as places
use Rattle.zarr_grids_boxes.specs.Subsets.{region_of}
use Rattle.zarr_sharding_index.specs.Present.{all_pairs}
use Rattle.zarr_sharding_index.specs.Views.{location_of}
use Rattle.zarr_sharding_codec.specs.BoxReading.{AreMet}
use Rattle.zarr_sharding_codec.specs.Pieces.{ReadsMore, asked_part, asked_piece}
use Rattle.zarr_sharding_codec.specs.Reading.{IsTotalOf}
use Rattle.zarr_sharding_codec.proofs.BoxRead.{given_begun, given_done}
use Rattle.zarr_sharding_codec.proofs.CutPart.{can_ask}
use Rattle.zarr_sharding_codec.proofs.GivenCuts.{box_given}
use Rattle.zarr_sharding_codec.proofs.PartFound.{shard_asked}
use Rattle.zarr_sharding_codec.proofs.PlacesCut.{BoxDone, box_all, box_either, box_reads}
use Rattle.zarr_sharding_codec.proofs.SlicesRead.{none_read, not_stopped, read_all, read_next, read_stopped, was_stopped}
use Rattle.zarr_sharding_codec.proofs.SoFarRead.{askable}
use Rattle.zarr_sharding_codec.proofs.StoredLoop.{rank_fits}
use Rattle.zarr_sharding_codec.proofs.codec.ShardingCodec.cut_box.Goals as goal

pub subchunks_met-requires-clause-cuts : goal.subchunks_met-requires-clause-cuts
subchunks_met-requires-clause-cuts g c =
    let self = c.args.self.now in
    let subchunk = self.subchunk_shape in
    let inner = g.I.ArrayToBytesCodecTraits.meaning self.inner_codecs in
    let index = g.X.ArrayToBytesCodecTraits.meaning self.index_codecs in
    let location = location_of self.index_location in
    (fitted subchunk inner index location (elements_of c.args.shard.elements.now) c.args.asked.shape.now c.requires.fit).cuts

pub subchunks_met-requires-clause-rank : goal.subchunks_met-requires-clause-rank
subchunks_met-requires-clause-rank g c =
    let self = c.args.self.now in
    let subchunk = self.subchunk_shape in
    let inner = g.I.ArrayToBytesCodecTraits.meaning self.inner_codecs in
    let index = g.X.ArrayToBytesCodecTraits.meaning self.index_codecs in
    let location = location_of self.index_location in
    rank_fits subchunk inner index location (elements_of c.args.shard.elements.now) c.args.asked.shape.now c.requires.fit

pub cut_at-requires-clause-cuts : goal.cut_at-requires-clause-cuts
cut_at-requires-clause-cuts g c =
    let self = c.args.self.now in
    let subchunk = self.subchunk_shape in
    let inner = g.I.ArrayToBytesCodecTraits.meaning self.inner_codecs in
    let index = g.X.ArrayToBytesCodecTraits.meaning self.index_codecs in
    let location = location_of self.index_location in
    (fitted subchunk inner index location (elements_of c.args.shard.elements.now) c.args.asked.shape.now c.requires.fit).cuts

pub cut_at-requires-clause-rank : goal.cut_at-requires-clause-rank
cut_at-requires-clause-rank g c =
    let self = c.args.self.now in
    let subchunk = self.subchunk_shape in
    let inner = g.I.ArrayToBytesCodecTraits.meaning self.inner_codecs in
    let index = g.X.ArrayToBytesCodecTraits.meaning self.index_codecs in
    let location = location_of self.index_location in
    rank_fits subchunk inner index location (elements_of c.args.shard.elements.now) c.args.asked.shape.now c.requires.fit

pub cut_at-requires-clause-below : goal.cut_at-requires-clause-below
cut_at-requires-clause-below g c =
    let subchunk = c.args.self.now.subchunk_shape in
    let shape = c.args.asked.shape.now in
    let are = subst (λ (ns : List ℕ). AreMet shape subchunk (numbers_of shape (region_of c.args.asked.region.now)) ns) (sym c.as_slice-met.ensures.value) c.in_ok-found.ensures in
    are.below c.loop-j.j c.loop-j-test.true

pub read_more-requires-clause-below : goal.read_more-requires-clause-below
read_more-requires-clause-below g c =
    let subchunk = c.args.self.now.subchunk_shape in
    let shape = c.args.asked.shape.now in
    let are = subst (λ (ns : List ℕ). AreMet shape subchunk (numbers_of shape (region_of c.args.asked.region.now)) ns) (sym c.as_slice-met.ensures.value) c.in_ok-found.ensures in
    let below = are.below c.loop-j.j c.loop-j-test.true in
    let many = c.requires.many in
    omega (arith, below, many)

pub read_more-requires-clause-none : goal.read_more-requires-clause-none
read_more-requires-clause-none g c = c.loop-j.invariant.goes_on

pub loop-j-init : goal.loop-j-init
loop-j-init g c =
    let self = c.args.self.now in
    let subchunk = self.subchunk_shape in
    let inner = g.I.ArrayToBytesCodecTraits.meaning self.inner_codecs in
    let index = g.X.ArrayToBytesCodecTraits.meaning self.index_codecs in
    let location = location_of self.index_location in
    let pairs = all_pairs c.args.shard.pairs.now in
    let array = coded (sharded subchunk inner index location) (elements_of c.args.shard.elements.now) c.args.asked.shape.now in
    let value = unwrap_or (g.D.BytesPartialDecoderTraits.contents c.args.source.now) [] in
    let part = asked_part array (in_box (region_of c.args.asked.region.now)) value pairs in
    record {
      follows = g.met.D.BytesPartialDecoderTraits.stays c.args.source.now;
      refused = refl;
      goes_on = c.in_ok-pieces.ensures.goes_on;
      read = λ honest told. none_read part (BoxDone part c.as_slice-met.result.now 0) c.in_ok-pieces.pieces c.in_ok-pieces.ensures (λ t done. let low = done.1 in omega (arith, low));
      given = λ honest. given_begun (shard_asked (asked_part array (in_box (region_of c.args.asked.region.now)) [] pairs)) c.args.shard.total c.as_slice-met.result.now (g.D.BytesPartialDecoderTraits.given_bytes c.args.source.now);
    }

pub loop-j-preserved : goal.loop-j-preserved
loop-j-preserved g c =
    let self = c.args.self.now in
    let subchunk = self.subchunk_shape in
    let inner = g.I.ArrayToBytesCodecTraits.meaning self.inner_codecs in
    let index = g.X.ArrayToBytesCodecTraits.meaning self.index_codecs in
    let location = location_of self.index_location in
    let laws = g.met.D.BytesPartialDecoderTraits in
    let inv = c.loop-j.invariant in
    let shape = c.args.asked.shape.now in
    let region = region_of c.args.asked.region.now in
    let pairs = all_pairs c.args.shard.pairs.now in
    let met = c.as_slice-met.result.now in
    let j = c.loop-j.j in
    let are = subst (λ (ns : List ℕ). AreMet shape subchunk (numbers_of shape region) ns) (sym c.as_slice-met.ensures.value) c.in_ok-found.ensures in
    let array = coded (sharded subchunk inner index location) (elements_of c.args.shard.elements.now) shape in
    let contents = g.D.BytesPartialDecoderTraits.contents in
    let calls = g.D.BytesPartialDecoderTraits.refused_calls in
    let more = c.in_ok-pieces-2.ensures in
    let after = c.in_ok-pieces-2.pieces in
    let none = not_stopped after.stopped (sym c.is_some.ensures ∙ c.if-is_some.false) in
    let k = get_or met j 0 in
    let cut = c.in_ok-inside.field-0 in
    let slots = places.InBox cut.inside.region cut.target in
    record {
      follows = laws.goes_on _ _ _ inv.follows more.follows;
      refused = more.refused ∙ (ap (refused_by_pieces (calls c.loop-j.source)) none ∙ inv.refused);
      goes_on = none;
      read = λ honest told.
          let part = asked_part array (in_box region) (unwrap_or (contents c.args.source.now) []) pairs in
          let same = laws.same _ _ inv.follows in
          let still = subst IsTrue (laws.honest _ _ inv.follows) honest in
          let low : k < length pairs = let below = are.below j c.loop-j-test.true in let many = c.requires.many in omega (arith, below, many) in
          let pair = get_or pairs k absent_pair in
          let read = subst (λ (o : Option (List ℕ)). ReadsMore (unwrap_or o []) (asked_piece pair k slots) c.loop-j.pieces after) (sym same) (more.more still (subst (λ (o : Option (List ℕ)). IsTotalOf o pairs c.args.shard.total) same told)) in
          read_next part k slots pair c.loop-j.pieces after low refl (box_reads part region refl k cut c.in_ok-inside.ensures) (BoxDone part met j) (BoxDone part met (j + 1)) (inv.read honest told) read none
          (box_either part region refl met j k cut refl c.in_ok-inside.ensures);
      given = λ honest.
          let s = shard_asked (asked_part array (in_box region) [] pairs) in
          let can = askable s index location c.requires.fit c.requires.many (regions.asked_places shape (in_box region) c.requires.inside) in
          let count = g.D.BytesPartialDecoderTraits.given_bytes in
          box_given s c.args.shard.total region met cut (count c.args.source.now) (count c.loop-j.source) (count c.read_more.new.source) j can are refl c.loop-j-test.true c.in_ok-inside.ensures (inv.given honest) (more.given (subst IsTrue (laws.honest _ _ inv.follows) honest));
    }

pub returns-then-is_some : goal.returns-then-is_some
returns-then-is_some g c =
    let self = c.args.self.now in
    let subchunk = self.subchunk_shape in
    let inner = g.I.ArrayToBytesCodecTraits.meaning self.inner_codecs in
    let index = g.X.ArrayToBytesCodecTraits.meaning self.index_codecs in
    let location = location_of self.index_location in
    let laws = g.met.D.BytesPartialDecoderTraits in
    let inv = c.loop-j.invariant in
    let shape = c.args.asked.shape.now in
    let region = region_of c.args.asked.region.now in
    let pairs = all_pairs c.args.shard.pairs.now in
    let met = c.as_slice-met.result.now in
    let j = c.loop-j.j in
    let are = subst (λ (ns : List ℕ). AreMet shape subchunk (numbers_of shape region) ns) (sym c.as_slice-met.ensures.value) c.in_ok-found.ensures in
    let array = coded (sharded subchunk inner index location) (elements_of c.args.shard.elements.now) shape in
    let contents = g.D.BytesPartialDecoderTraits.contents in
    let more = c.in_ok-pieces-2.ensures in
    let after = c.in_ok-pieces-2.pieces in
    let some = was_stopped after.stopped (sym c.is_some.ensures ∙ c.if-is_some.true) in
    let k = get_or met j 0 in
    let cut = c.in_ok-inside.field-0 in
    let slots = places.InBox cut.inside.region cut.target in
    record {
      part = λ honest told.
          let value = unwrap_or (contents c.args.source.now) [] in
          let part = asked_part array (in_box region) value pairs in
          let can = can_ask subchunk inner index location (elements_of c.args.shard.elements.now) shape value (in_box region) pairs c.requires.fit c.requires.many (regions.asked_places shape (in_box region) c.requires.inside) in
          let same = laws.same _ _ inv.follows in
          let still = subst IsTrue (laws.honest _ _ inv.follows) honest in
          let low : k < length pairs = let below = are.below j c.loop-j-test.true in let many = c.requires.many in omega (arith, below, many) in
          let pair = get_or pairs k absent_pair in
          let read = subst (λ (o : Option (List ℕ)). ReadsMore (unwrap_or o []) (asked_piece pair k slots) c.loop-j.pieces after) (sym same) (more.more still (subst (λ (o : Option (List ℕ)). IsTotalOf o pairs c.args.shard.total) same told)) in
          read_stopped part k slots pair c.loop-j.pieces after low refl (box_reads part region refl k cut c.in_ok-inside.ensures) (BoxDone part met j) can inv.goes_on (inv.read honest told) read some;
      refused = more.refused ∙ ap (λ n. refused_by_pieces n after.stopped) inv.refused;
      given = λ honest.
          let s = shard_asked (asked_part array (in_box region) [] pairs) in
          let can = askable s index location c.requires.fit c.requires.many (regions.asked_places shape (in_box region) c.requires.inside) in
          let count = g.D.BytesPartialDecoderTraits.given_bytes in
          given_done s c.args.shard.total met (count c.args.source.now) (count c.read_more.new.source) (j + 1)
          (box_given s c.args.shard.total region met cut (count c.args.source.now) (count c.loop-j.source) (count c.read_more.new.source) j can are refl c.loop-j-test.true c.in_ok-inside.ensures (inv.given honest) (more.given (subst IsTrue (laws.honest _ _ inv.follows) honest)));
      follows = laws.goes_on _ _ _ inv.follows more.follows;
    }

pub returns : goal.returns
returns g c =
    let self = c.args.self.now in
    let subchunk = self.subchunk_shape in
    let inner = g.I.ArrayToBytesCodecTraits.meaning self.inner_codecs in
    let index = g.X.ArrayToBytesCodecTraits.meaning self.index_codecs in
    let location = location_of self.index_location in
    let inv = c.loop-j.invariant in
    let shape = c.args.asked.shape.now in
    let region = region_of c.args.asked.region.now in
    let pairs = all_pairs c.args.shard.pairs.now in
    let met = c.as_slice-met.result.now in
    let j = c.loop-j.j in
    let are = subst (λ (ns : List ℕ). AreMet shape subchunk (numbers_of shape region) ns) (sym c.as_slice-met.ensures.value) c.in_ok-found.ensures in
    let array = coded (sharded subchunk inner index location) (elements_of c.args.shard.elements.now) shape in
    record {
      part = λ honest told.
          let part = asked_part array (in_box region) (unwrap_or (g.D.BytesPartialDecoderTraits.contents c.args.source.now) []) pairs in
          read_all part (BoxDone part met j) c.loop-j.pieces (inv.read honest told) inv.goes_on (box_all part region refl met j are c.loop-j-test.false);
      refused = inv.refused ∙ sym (ap (refused_by_pieces (g.D.BytesPartialDecoderTraits.refused_calls c.args.source.now)) inv.goes_on);
      given = λ honest.
          given_done (shard_asked (asked_part array (in_box region) [] pairs)) c.args.shard.total met (g.D.BytesPartialDecoderTraits.given_bytes c.args.source.now) (g.D.BytesPartialDecoderTraits.given_bytes c.loop-j.source) j (inv.given honest);
      follows = inv.follows;
    }

pub returns-in_err-pieces-2-clause-follows : goal.returns-in_err-pieces-2-clause-follows
returns-in_err-pieces-2-clause-follows g c = g.met.D.BytesPartialDecoderTraits.goes_on _ _ _ c.loop-j.invariant.follows c.in_err-pieces-2.ensures.follows

pub returns-in_err-pieces-2-clause-given : goal.returns-in_err-pieces-2-clause-given
returns-in_err-pieces-2-clause-given g c = λ honest.
    let self = c.args.self.now in
    let subchunk = self.subchunk_shape in
    let inner = g.I.ArrayToBytesCodecTraits.meaning self.inner_codecs in
    let index = g.X.ArrayToBytesCodecTraits.meaning self.index_codecs in
    let location = location_of self.index_location in
    let laws = g.met.D.BytesPartialDecoderTraits in
    let inv = c.loop-j.invariant in
    let shape = c.args.asked.shape.now in
    let region = region_of c.args.asked.region.now in
    let met = c.as_slice-met.result.now in
    let j = c.loop-j.j in
    let are = subst (λ (ns : List ℕ). AreMet shape subchunk (numbers_of shape region) ns) (sym c.as_slice-met.ensures.value) c.in_ok-found.ensures in
    let array = coded (sharded subchunk inner index location) (elements_of c.args.shard.elements.now) shape in
    let s = shard_asked (asked_part array (in_box region) [] (all_pairs c.args.shard.pairs.now)) in
    let can = askable s index location c.requires.fit c.requires.many (regions.asked_places shape (in_box region) c.requires.inside) in
    let count = g.D.BytesPartialDecoderTraits.given_bytes in
    given_done s c.args.shard.total met (count c.args.source.now) (count c.read_more.new.source) (j + 1)
    (box_given s c.args.shard.total region met c.in_ok-inside.field-0 (count c.args.source.now) (count c.loop-j.source) (count c.read_more.new.source) j can are refl c.loop-j-test.true c.in_ok-inside.ensures (inv.given honest)
    (c.in_err-pieces-2.ensures.given (subst IsTrue (laws.honest _ _ inv.follows) honest)))

pub returns-in_err-inside-clause-given : goal.returns-in_err-inside-clause-given
returns-in_err-inside-clause-given g c = λ honest.
    let self = c.args.self.now in
    let subchunk = self.subchunk_shape in
    let inner = g.I.ArrayToBytesCodecTraits.meaning self.inner_codecs in
    let index = g.X.ArrayToBytesCodecTraits.meaning self.index_codecs in
    let location = location_of self.index_location in
    let array = coded (sharded subchunk inner index location) (elements_of c.args.shard.elements.now) c.args.asked.shape.now in
    let s = shard_asked (asked_part array (in_box (region_of c.args.asked.region.now)) [] (all_pairs c.args.shard.pairs.now)) in
    given_done s c.args.shard.total c.as_slice-met.result.now (g.D.BytesPartialDecoderTraits.given_bytes c.args.source.now) (g.D.BytesPartialDecoderTraits.given_bytes c.loop-j.source) c.loop-j.j (c.loop-j.invariant.given honest)
