use Rattle.std.proofs.Common.{◌≡◌, ◌∙◌, ◌++◌, [], List, ℕ, Option, IsTrue, append_assoc, append-nil, ap, arith, get_or, length, length-append, refl, subst, sym, unwrap_or}
use Rattle.std.specs.List.Sorted.{IsNonDecreasingBy, IsPermutation}
use Rattle.std.proofs.lemmas.List.{nil_from_length}
use Rattle.zarr_codecs_arrays.specs.Views.{elements_of}
use Rattle.zarr_codecs_meaning.specs.Chains.{sharded}
use Rattle.zarr_codecs_meaning.specs.Encoding.{absent_pair}
use Rattle.zarr_codecs_meaning.proofs.Positions.{each_at}
use Rattle.zarr_codecs_traits.specs.Arrays.{coded}
use Rattle.zarr_codecs_traits.specs.Indexers.{listed}
use Rattle.zarr_codecs_traits.specs.Pieces.{refused_by_pieces}
use Rattle.zarr_codecs_traits.specs.declared.pieces.PiecePlaces.TheVariants as places
use Rattle.zarr_sharding_index.specs.Present.{all_pairs}
use Rattle.zarr_sharding_index.specs.Views.{location_of}
use Rattle.zarr_sharding_places.specs.Groups.{no_place}
use Rattle.zarr_sharding_places.specs.Locating.{asked_places}
use Rattle.zarr_sharding_places.specs.declared.locating.AskedPlace.{AskedPlace}
use Rattle.zarr_sharding_codec.specs.Pieces.{ReadsMore, asked_part, asked_piece}
use Rattle.zarr_sharding_codec.specs.Reading.{IsTotalOf}
use Rattle.zarr_sharding_codec.proofs.CutPart.{can_ask}
use Rattle.zarr_sharding_codec.proofs.GivenCuts.{group_given}
use Rattle.zarr_sharding_codec.proofs.GivenSoFar.{given_all, none_given, rest_sorted}
use Rattle.zarr_sharding_codec.proofs.GroupsRead.{IsAsked, subchunk_below}
use Rattle.zarr_sharding_codec.proofs.PartFound.{shard_asked}
use Rattle.zarr_sharding_codec.proofs.PlacesCut.{ListDone, list_all_done, list_either, list_reads}
use Rattle.zarr_sharding_codec.proofs.SlicesRead.{none_read, not_stopped, read_all, read_next, read_stopped, was_stopped}
use Rattle.zarr_sharding_codec.proofs.SoFarRead.{askable, group_asked}
use Rattle.zarr_sharding_codec.proofs.StoredLoop.{rank_fits}
use Rattle.zarr_sharding_codec.proofs.codec.ShardingCodec.cut_listed.Goals as goal

pub places_of-requires : goal.places_of-requires
places_of-requires g c =
    let self = c.args.self.now in
    let subchunk = self.subchunk_shape in
    let inner = g.I.ArrayToBytesCodecTraits.meaning self.inner_codecs in
    let index = g.X.ArrayToBytesCodecTraits.meaning self.index_codecs in
    let location = location_of self.index_location in
    rank_fits subchunk inner index location (elements_of c.args.shard.elements.now) c.args.asked.shape.now c.requires.fit

pub loop-rest-smaller : goal.loop-rest-smaller
loop-rest-smaller g c =
    let cut = ap length c.leading_group.ensures.all in
    let sum = length-append c.leading_group.result.0.now c.leading_group.result.1.now in
    let some = c.leading_group.ensures.some in
    omega (arith, cut, sum, some)

pub read_more-requires-clause-below : goal.read_more-requires-clause-below
read_more-requires-clause-below g c =
    let self = c.args.self.now in
    let subchunk = self.subchunk_shape in
    let inner = g.I.ArrayToBytesCodecTraits.meaning self.inner_codecs in
    let index = g.X.ArrayToBytesCodecTraits.meaning self.index_codecs in
    let location = location_of self.index_location in
    let inv = c.loop-rest.invariant in
    let shape = c.args.asked.shape.now in
    let numbers = c.args.asked.numbers.now in
    let pairs = all_pairs c.args.shard.pairs.now in
    let array = coded (sharded subchunk inner index location) (elements_of c.args.shard.elements.now) shape in
    let group = c.leading_group.result.0.now in
    let others = c.leading_group.result.1.now in
    let cut = c.leading_group.ensures.all in
    let s = shard_asked (asked_part array (listed numbers) [] pairs) in
    let can = askable s index location c.requires.fit c.requires.many c.requires.below in
    let moved = subst (λ (ps : List AskedPlace). IsPermutation (asked_places shape subchunk numbers) ps) (sym c.as_slice-rest.ensures.value) c.in_ok-places.ensures.all in
    let asked = group_asked s c.as_slice-rest.result.now c.loop-rest.rest.now group others moved (record { done = inv.left.0; split = inv.left.1 }) cut in
    subchunk_below s (get_or group 0 no_place) can (each_at (IsAsked s) group 0 no_place asked c.leading_group.ensures.some)

pub read_more-requires-clause-none : goal.read_more-requires-clause-none
read_more-requires-clause-none g c = c.loop-rest.invariant.goes_on

pub loop-rest-init : goal.loop-rest-init
loop-rest-init g c =
    let self = c.args.self.now in
    let subchunk = self.subchunk_shape in
    let inner = g.I.ArrayToBytesCodecTraits.meaning self.inner_codecs in
    let index = g.X.ArrayToBytesCodecTraits.meaning self.index_codecs in
    let location = location_of self.index_location in
    let pairs = all_pairs c.args.shard.pairs.now in
    let array = coded (sharded subchunk inner index location) (elements_of c.args.shard.elements.now) c.args.asked.shape.now in
    let value = unwrap_or (g.D.BytesPartialDecoderTraits.contents c.args.source.now) [] in
    let part = asked_part array (listed c.args.asked.numbers.now) value pairs in
    record {
      follows = g.met.D.BytesPartialDecoderTraits.stays c.args.source.now;
      refused = refl;
      goes_on = c.in_ok-pieces.ensures.goes_on;
      left = ([], refl, λ honest told. none_read part (ListDone []) c.in_ok-pieces.pieces c.in_ok-pieces.ensures (λ t done. let low = done.1 in omega (arith, low)));
      sorted = subst (λ (ps : List AskedPlace). IsNonDecreasingBy (λ (place : AskedPlace). place.subchunk) ps) (sym c.as_slice-rest.ensures.value) c.in_ok-places.ensures.sorted;
      given = λ honest. none_given (shard_asked (asked_part array (listed c.args.asked.numbers.now) [] pairs)) c.args.shard.total (g.D.BytesPartialDecoderTraits.given_bytes c.args.source.now) c.as_slice-rest.result.now;
    }

pub loop-rest-preserved : goal.loop-rest-preserved
loop-rest-preserved g c =
    let self = c.args.self.now in
    let subchunk = self.subchunk_shape in
    let inner = g.I.ArrayToBytesCodecTraits.meaning self.inner_codecs in
    let index = g.X.ArrayToBytesCodecTraits.meaning self.index_codecs in
    let location = location_of self.index_location in
    let laws = g.met.D.BytesPartialDecoderTraits in
    let inv = c.loop-rest.invariant in
    let shape = c.args.asked.shape.now in
    let numbers = c.args.asked.numbers.now in
    let pairs = all_pairs c.args.shard.pairs.now in
    let array = coded (sharded subchunk inner index location) (elements_of c.args.shard.elements.now) shape in
    let contents = g.D.BytesPartialDecoderTraits.contents in
    let group = c.leading_group.result.0.now in
    let others = c.leading_group.result.1.now in
    let cut = c.leading_group.ensures.all in
    let done = inv.left.0 in
    let k = (get_or group 0 no_place).subchunk in
    let calls = g.D.BytesPartialDecoderTraits.refused_calls in
    let more = c.in_ok-pieces-2.ensures in
    let after = c.in_ok-pieces-2.pieces in
    let slots = places.Listed c.in_ok-insides.insides c.in_ok-positions.positions in
    let none = not_stopped after.stopped (sym c.is_some.ensures ∙ c.if-is_some.false) in
    record {
      follows = laws.goes_on _ _ _ inv.follows more.follows;
      refused = more.refused ∙ (ap (refused_by_pieces (calls c.loop-rest.source)) none ∙ inv.refused);
      goes_on = none;
      left = (
        done ++ group,
        append_assoc done group others ∙ (ap (λ ps. done ++ ps) cut ∙ inv.left.1),
        λ honest told.
            let value = unwrap_or (contents c.args.source.now) [] in
            let part = asked_part array (listed numbers) value pairs in
            let s = shard_asked part in
            let can = can_ask subchunk inner index location (elements_of c.args.shard.elements.now) shape value (listed numbers) pairs c.requires.fit c.requires.many c.requires.below in
            let moved = subst (λ (ps : List AskedPlace). IsPermutation (asked_places shape subchunk numbers) ps) (sym c.as_slice-rest.ensures.value) c.in_ok-places.ensures.all in
            let asked = group_asked s c.as_slice-rest.result.now c.loop-rest.rest.now group others moved (record { done = done; split = inv.left.1 }) cut in
            let low = subchunk_below s (get_or group 0 no_place) (record { cuts = can.cuts; many = can.many; below = can.below }) (each_at (IsAsked s) group 0 no_place asked c.leading_group.ensures.some) in
            let same = laws.same _ _ inv.follows in
            let still = subst IsTrue (laws.honest _ _ inv.follows) honest in
            let pair = get_or pairs k absent_pair in
            let read = subst (λ (o : Option (List ℕ)). ReadsMore (unwrap_or o []) (asked_piece pair k slots) c.loop-rest.pieces after) (sym same) (more.more still (subst (λ (o : Option (List ℕ)). IsTotalOf o pairs c.args.shard.total) same told)) in
            read_next part k slots pair c.loop-rest.pieces after low refl
            (list_reads part numbers refl k group c.in_ok-insides.insides c.in_ok-positions.positions can asked c.leading_group.ensures.one c.leading_group.ensures.some refl c.in_ok-insides.ensures c.in_ok-positions.ensures)
            (ListDone done) (ListDone (done ++ group)) (inv.left.2 honest told) read none
            (list_either part numbers refl k done group c.in_ok-insides.insides c.in_ok-positions.positions asked c.leading_group.ensures.one refl c.in_ok-positions.ensures),
      );
      sorted = rest_sorted c.loop-rest.rest.now group others cut inv.sorted;
      given = λ honest.
          let s = shard_asked (asked_part array (listed numbers) [] pairs) in
          let can = askable s index location c.requires.fit c.requires.many c.requires.below in
          let moved = subst (λ (ps : List AskedPlace). IsPermutation (asked_places shape subchunk numbers) ps) (sym c.as_slice-rest.ensures.value) c.in_ok-places.ensures.all in
          let count = g.D.BytesPartialDecoderTraits.given_bytes in
          group_given s c.args.shard.total c.as_slice-rest.result.now c.loop-rest.rest.now group others (count c.args.source.now) (count c.loop-rest.source) (count c.read_more.new.source) can moved (record { done = inv.left.0; split = inv.left.1 }) cut
          c.leading_group.ensures.some c.leading_group.ensures.next inv.sorted (inv.given honest) (more.given (subst IsTrue (laws.honest _ _ inv.follows) honest));
    }

pub returns-then-is_some : goal.returns-then-is_some
returns-then-is_some g c =
    let self = c.args.self.now in
    let subchunk = self.subchunk_shape in
    let inner = g.I.ArrayToBytesCodecTraits.meaning self.inner_codecs in
    let index = g.X.ArrayToBytesCodecTraits.meaning self.index_codecs in
    let location = location_of self.index_location in
    let laws = g.met.D.BytesPartialDecoderTraits in
    let inv = c.loop-rest.invariant in
    let shape = c.args.asked.shape.now in
    let numbers = c.args.asked.numbers.now in
    let pairs = all_pairs c.args.shard.pairs.now in
    let array = coded (sharded subchunk inner index location) (elements_of c.args.shard.elements.now) shape in
    let contents = g.D.BytesPartialDecoderTraits.contents in
    let group = c.leading_group.result.0.now in
    let others = c.leading_group.result.1.now in
    let cut = c.leading_group.ensures.all in
    let done = inv.left.0 in
    let k = (get_or group 0 no_place).subchunk in
    let more = c.in_ok-pieces-2.ensures in
    let after = c.in_ok-pieces-2.pieces in
    let slots = places.Listed c.in_ok-insides.insides c.in_ok-positions.positions in
    let some = was_stopped after.stopped (sym c.is_some.ensures ∙ c.if-is_some.true) in
    record {
      part = λ honest told.
          let value = unwrap_or (contents c.args.source.now) [] in
          let part = asked_part array (listed numbers) value pairs in
          let s = shard_asked part in
          let can = can_ask subchunk inner index location (elements_of c.args.shard.elements.now) shape value (listed numbers) pairs c.requires.fit c.requires.many c.requires.below in
          let moved = subst (λ (ps : List AskedPlace). IsPermutation (asked_places shape subchunk numbers) ps) (sym c.as_slice-rest.ensures.value) c.in_ok-places.ensures.all in
          let asked = group_asked s c.as_slice-rest.result.now c.loop-rest.rest.now group others moved (record { done = done; split = inv.left.1 }) cut in
          let low = subchunk_below s (get_or group 0 no_place) (record { cuts = can.cuts; many = can.many; below = can.below }) (each_at (IsAsked s) group 0 no_place asked c.leading_group.ensures.some) in
          let same = laws.same _ _ inv.follows in
          let still = subst IsTrue (laws.honest _ _ inv.follows) honest in
          let pair = get_or pairs k absent_pair in
          let read = subst (λ (o : Option (List ℕ)). ReadsMore (unwrap_or o []) (asked_piece pair k slots) c.loop-rest.pieces after) (sym same) (more.more still (subst (λ (o : Option (List ℕ)). IsTotalOf o pairs c.args.shard.total) same told)) in
          read_stopped part k slots pair c.loop-rest.pieces after low refl
          (list_reads part numbers refl k group c.in_ok-insides.insides c.in_ok-positions.positions can asked c.leading_group.ensures.one c.leading_group.ensures.some refl c.in_ok-insides.ensures c.in_ok-positions.ensures)
          (ListDone done) can inv.goes_on (inv.left.2 honest told) read some;
      refused = more.refused ∙ ap (λ n. refused_by_pieces n after.stopped) inv.refused;
      given = λ honest.
          let s = shard_asked (asked_part array (listed numbers) [] pairs) in
          let can = askable s index location c.requires.fit c.requires.many c.requires.below in
          let moved = subst (λ (ps : List AskedPlace). IsPermutation (asked_places shape subchunk numbers) ps) (sym c.as_slice-rest.ensures.value) c.in_ok-places.ensures.all in
          let count = g.D.BytesPartialDecoderTraits.given_bytes in
          given_all s c.args.shard.total (count c.args.source.now) (count c.read_more.new.source) others
          (group_given s c.args.shard.total c.as_slice-rest.result.now c.loop-rest.rest.now group others (count c.args.source.now) (count c.loop-rest.source) (count c.read_more.new.source) can moved (record { done = inv.left.0; split = inv.left.1 }) cut
          c.leading_group.ensures.some c.leading_group.ensures.next inv.sorted (inv.given honest) (more.given (subst IsTrue (laws.honest _ _ inv.follows) honest)));
      follows = laws.goes_on _ _ _ inv.follows more.follows;
    }

pub returns : goal.returns
returns g c =
    let self = c.args.self.now in
    let subchunk = self.subchunk_shape in
    let inner = g.I.ArrayToBytesCodecTraits.meaning self.inner_codecs in
    let index = g.X.ArrayToBytesCodecTraits.meaning self.index_codecs in
    let location = location_of self.index_location in
    let inv = c.loop-rest.invariant in
    let shape = c.args.asked.shape.now in
    let numbers = c.args.asked.numbers.now in
    let pairs = all_pairs c.args.shard.pairs.now in
    let array = coded (sharded subchunk inner index location) (elements_of c.args.shard.elements.now) shape in
    let places = c.as_slice-rest.result.now in
    record {
      part = λ honest told.
          let part = asked_part array (listed numbers) (unwrap_or (g.D.BytesPartialDecoderTraits.contents c.args.source.now) []) pairs in
          let moved = subst (λ (ps : List AskedPlace). IsPermutation (asked_places shape subchunk numbers) ps) (sym c.as_slice-rest.ensures.value) c.in_ok-places.ensures.all in
          let all : inv.left.0 ≡ places = sym (append-nil inv.left.0) ∙ (ap (λ (ps : List AskedPlace). inv.left.0 ++ ps) (sym (nil_from_length c.loop-rest.rest.now (omega (arith, c.loop-rest-test.false)))) ∙ inv.left.1) in
          read_all part (ListDone inv.left.0) c.loop-rest.pieces (inv.left.2 honest told) inv.goes_on (λ t low. subst (λ (ps : List AskedPlace). ListDone ps t) (sym all) (list_all_done part numbers refl places moved t low));
      refused = inv.refused ∙ sym (ap (refused_by_pieces (g.D.BytesPartialDecoderTraits.refused_calls c.args.source.now)) inv.goes_on);
      given = λ honest.
          given_all (shard_asked (asked_part array (listed numbers) [] pairs)) c.args.shard.total (g.D.BytesPartialDecoderTraits.given_bytes c.args.source.now) (g.D.BytesPartialDecoderTraits.given_bytes c.loop-rest.source) c.loop-rest.rest.now (inv.given honest);
      follows = inv.follows;
    }

pub returns-in_err-pieces-2-clause-follows : goal.returns-in_err-pieces-2-clause-follows
returns-in_err-pieces-2-clause-follows g c = g.met.D.BytesPartialDecoderTraits.goes_on _ _ _ c.loop-rest.invariant.follows c.in_err-pieces-2.ensures.follows

pub returns-in_err-pieces-2-clause-given : goal.returns-in_err-pieces-2-clause-given
returns-in_err-pieces-2-clause-given g c = λ honest.
    let self = c.args.self.now in
    let subchunk = self.subchunk_shape in
    let inner = g.I.ArrayToBytesCodecTraits.meaning self.inner_codecs in
    let index = g.X.ArrayToBytesCodecTraits.meaning self.index_codecs in
    let location = location_of self.index_location in
    let laws = g.met.D.BytesPartialDecoderTraits in
    let inv = c.loop-rest.invariant in
    let shape = c.args.asked.shape.now in
    let numbers = c.args.asked.numbers.now in
    let array = coded (sharded subchunk inner index location) (elements_of c.args.shard.elements.now) shape in
    let group = c.leading_group.result.0.now in
    let others = c.leading_group.result.1.now in
    let cut = c.leading_group.ensures.all in
    let s = shard_asked (asked_part array (listed numbers) [] (all_pairs c.args.shard.pairs.now)) in
    let can = askable s index location c.requires.fit c.requires.many c.requires.below in
    let moved = subst (λ (ps : List AskedPlace). IsPermutation (asked_places shape subchunk numbers) ps) (sym c.as_slice-rest.ensures.value) c.in_ok-places.ensures.all in
    let count = g.D.BytesPartialDecoderTraits.given_bytes in
    given_all s c.args.shard.total (count c.args.source.now) (count c.read_more.new.source) others
    (group_given s c.args.shard.total c.as_slice-rest.result.now c.loop-rest.rest.now group others (count c.args.source.now) (count c.loop-rest.source) (count c.read_more.new.source) can moved (record { done = inv.left.0; split = inv.left.1 }) cut
    c.leading_group.ensures.some c.leading_group.ensures.next inv.sorted (inv.given honest) (c.in_err-pieces-2.ensures.given (subst IsTrue (laws.honest _ _ inv.follows) honest)))

pub returns-in_err-insides-clause-given : goal.returns-in_err-insides-clause-given
returns-in_err-insides-clause-given g c = λ honest.
    let self = c.args.self.now in
    let subchunk = self.subchunk_shape in
    let inner = g.I.ArrayToBytesCodecTraits.meaning self.inner_codecs in
    let index = g.X.ArrayToBytesCodecTraits.meaning self.index_codecs in
    let location = location_of self.index_location in
    let array = coded (sharded subchunk inner index location) (elements_of c.args.shard.elements.now) c.args.asked.shape.now in
    let s = shard_asked (asked_part array (listed c.args.asked.numbers.now) [] (all_pairs c.args.shard.pairs.now)) in
    given_all s c.args.shard.total (g.D.BytesPartialDecoderTraits.given_bytes c.args.source.now) (g.D.BytesPartialDecoderTraits.given_bytes c.loop-rest.source) c.loop-rest.rest.now (c.loop-rest.invariant.given honest)

pub returns-in_err-positions-clause-given : goal.returns-in_err-positions-clause-given
returns-in_err-positions-clause-given g c = λ honest.
    let self = c.args.self.now in
    let subchunk = self.subchunk_shape in
    let inner = g.I.ArrayToBytesCodecTraits.meaning self.inner_codecs in
    let index = g.X.ArrayToBytesCodecTraits.meaning self.index_codecs in
    let location = location_of self.index_location in
    let array = coded (sharded subchunk inner index location) (elements_of c.args.shard.elements.now) c.args.asked.shape.now in
    let s = shard_asked (asked_part array (listed c.args.asked.numbers.now) [] (all_pairs c.args.shard.pairs.now)) in
    given_all s c.args.shard.total (g.D.BytesPartialDecoderTraits.given_bytes c.args.source.now) (g.D.BytesPartialDecoderTraits.given_bytes c.loop-rest.source) c.loop-rest.rest.now (c.loop-rest.invariant.given honest)
