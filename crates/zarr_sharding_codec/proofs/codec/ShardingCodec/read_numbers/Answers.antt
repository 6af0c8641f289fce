use Rattle.std.proofs.Common.{◌≡◌, ◌∙◌, true, IsTrue, Option, List, ℕ, [], Ok, Err, ap, sym, refl, subst, arith, length, length-append, get_or, unwrap_or}
use Rattle.std.specs.Prelude.{nat_lt}
use Rattle.std.specs.List.{list_all}
use Rattle.std.specs.List.Sorted.{IsNonDecreasingBy, IsPermutation}
use Rattle.zarr_codecs_arrays.specs.Views.{elements_of}
use Rattle.zarr_codecs_meaning.specs.Fits.{fits}
use Rattle.zarr_codecs_meaning.proofs.Parts.{length-parts}
use Rattle.zarr_codecs_meaning.proofs.Positions.{each_at}
use Rattle.zarr_codecs_traits.specs.Sources.{refused_after}
use Rattle.zarr_grids_boxes.specs.Boxes.{product}
use Rattle.zarr_sharding_index.specs.Present.{all_pairs}
use Rattle.zarr_sharding_index.specs.Views.{location_of}
use Rattle.zarr_sharding_places.specs.Groups.{no_place}
use Rattle.zarr_sharding_places.specs.Locating.{asked_places}
use Rattle.zarr_sharding_places.specs.declared.locating.AskedPlace.{AskedPlace}
use Rattle.zarr_sharding_codec.proofs.NumberedParts.{part_fits}
use Rattle.zarr_sharding_codec.proofs.GroupsRead.{AskedShard, IsAsked, insides, insides_below, subchunk_below}
use Rattle.zarr_sharding_codec.proofs.GivenSoFar.{GivenSoFar, given_all, given_more, given_refused, none_given, rest_sorted}
use Rattle.zarr_sharding_codec.specs.Reading.{IsTotalOf}
use Rattle.zarr_sharding_codec.proofs.SoFarRead.{askable, group_asked, group_unread, left_more, none_so_far, read_before, so_far_all, so_far_more}
use Rattle.zarr_sharding_codec.proofs.StoredLoop.{rank_fits}
use Rattle.zarr_sharding_codec.proofs.codec.ShardingCodec.read_numbers.Goals as goal

pub places_of-requires : goal.places_of-requires
places_of-requires g c =
    let self = c.args.self.now in
    rank_fits self.subchunk_shape (g.I.ArrayToBytesCodecTraits.meaning self.inner_codecs) (g.X.ArrayToBytesCodecTraits.meaning self.index_codecs) (location_of self.index_location) (elements_of c.args.shard.elements.now) c.args.asked.shape.now c.requires.fit

pub loop-rest-init : goal.loop-rest-init
loop-rest-init g c =
    let self = c.args.self.now in
    record {
      follows = g.met.D.BytesPartialDecoderTraits.stays c.args.source.now;
      refused = refl;
      left = record { done = []; split = refl };
      read = λ honest told.
          let s : AskedShard = record {
            inner = g.I.ArrayToBytesCodecTraits.meaning self.inner_codecs;
            elements = elements_of c.args.shard.elements.now;
            shape = c.args.asked.shape.now;
            subchunk = self.subchunk_shape;
            value = unwrap_or (g.D.BytesPartialDecoderTraits.contents c.args.source.now) [];
            pairs = all_pairs c.args.shard.pairs.now;
            numbers = c.args.asked.numbers.now;
          } in
          none_so_far s c.in_ok-filled.filled c.as_slice-rest.result.now c.in_ok-filled.ensures;
      sorted = subst (λ (ps : List AskedPlace). IsNonDecreasingBy (λ (place : AskedPlace). place.subchunk) ps) (sym c.as_slice-rest.ensures.value) c.in_ok-places.ensures.sorted;
      given = λ honest.
          let s : AskedShard = record {
            inner = g.I.ArrayToBytesCodecTraits.meaning self.inner_codecs;
            elements = elements_of c.args.shard.elements.now;
            shape = c.args.asked.shape.now;
            subchunk = self.subchunk_shape;
            value = [];
            pairs = all_pairs c.args.shard.pairs.now;
            numbers = c.args.asked.numbers.now;
          } in
          none_given s c.args.shard.total (g.D.BytesPartialDecoderTraits.given_bytes c.args.source.now) c.as_slice-rest.result.now;
    }

pub loop-rest-smaller : goal.loop-rest-smaller
loop-rest-smaller g c =
    let cut = ap length c.leading_group.ensures.all in
    let sum = length-append c.leading_group.result.0.now c.leading_group.result.1.now in
    let some = c.leading_group.ensures.some in
    omega (arith, cut, sum, some)

pub part_shape-requires-clause-rank : goal.part_shape-requires-clause-rank
part_shape-requires-clause-rank g c =
    let self = c.args.self.now in
    rank_fits self.subchunk_shape (g.I.ArrayToBytesCodecTraits.meaning self.inner_codecs) (g.X.ArrayToBytesCodecTraits.meaning self.index_codecs) (location_of self.index_location) (elements_of c.args.shard.elements.now) c.args.asked.shape.now c.requires.fit

pub part_shape-requires-clause-below : goal.part_shape-requires-clause-below
part_shape-requires-clause-below g c =
    let self = c.args.self.now in
    let s : AskedShard = record {
      inner = g.I.ArrayToBytesCodecTraits.meaning self.inner_codecs;
      elements = elements_of c.args.shard.elements.now;
      shape = c.args.asked.shape.now;
      subchunk = self.subchunk_shape;
      value = [];
      pairs = all_pairs c.args.shard.pairs.now;
      numbers = c.args.asked.numbers.now;
    } in
    let can = askable s (g.X.ArrayToBytesCodecTraits.meaning self.index_codecs) (location_of self.index_location) c.requires.fit c.requires.many c.requires.below in
    let moved = subst (λ (ps : List AskedPlace). IsPermutation (asked_places s.shape s.subchunk s.numbers) ps) (sym c.as_slice-rest.ensures.value) c.in_ok-places.ensures.all in
    let group = c.leading_group.result.0.now in
    let asked = group_asked s c.as_slice-rest.result.now c.loop-rest.rest.now group c.leading_group.result.1.now moved c.loop-rest.invariant.left c.leading_group.ensures.all in
    let below = subchunk_below s (get_or group 0 no_place) can (each_at (IsAsked s) group 0 no_place asked c.leading_group.ensures.some) in
    let many = c.requires.many in
    let count = length-parts s.shape s.subchunk in
    omega (arith, below, many, count)

pub read_group-requires-clause-fit : goal.read_group-requires-clause-fit
read_group-requires-clause-fit g c =
    let self = c.args.self.now in
    let s : AskedShard = record {
      inner = g.I.ArrayToBytesCodecTraits.meaning self.inner_codecs;
      elements = elements_of c.args.shard.elements.now;
      shape = c.args.asked.shape.now;
      subchunk = self.subchunk_shape;
      value = [];
      pairs = all_pairs c.args.shard.pairs.now;
      numbers = c.args.asked.numbers.now;
    } in
    let can = askable s (g.X.ArrayToBytesCodecTraits.meaning self.index_codecs) (location_of self.index_location) c.requires.fit c.requires.many c.requires.below in
    let moved = subst (λ (ps : List AskedPlace). IsPermutation (asked_places s.shape s.subchunk s.numbers) ps) (sym c.as_slice-rest.ensures.value) c.in_ok-places.ensures.all in
    let group = c.leading_group.result.0.now in
    let asked = group_asked s c.as_slice-rest.result.now c.loop-rest.rest.now group c.leading_group.result.1.now moved c.loop-rest.invariant.left c.leading_group.ensures.all in
    let below = subchunk_below s (get_or group 0 no_place) can (each_at (IsAsked s) group 0 no_place asked c.leading_group.ensures.some) in
    let many = c.requires.many in
    ap (fits s.inner s.elements.type) (c.as_slice-shape.ensures.value ∙ c.in_ok-edges.ensures)
    ∙ part_fits s.subchunk s.inner (g.X.ArrayToBytesCodecTraits.meaning self.index_codecs) (location_of self.index_location) s.elements s.shape (get_or group 0 no_place).subchunk c.requires.fit (omega (arith, below, many))

pub read_group-requires-clause-pair : goal.read_group-requires-clause-pair
read_group-requires-clause-pair g c =
    let self = c.args.self.now in
    let s : AskedShard = record {
      inner = g.I.ArrayToBytesCodecTraits.meaning self.inner_codecs;
      elements = elements_of c.args.shard.elements.now;
      shape = c.args.asked.shape.now;
      subchunk = self.subchunk_shape;
      value = [];
      pairs = all_pairs c.args.shard.pairs.now;
      numbers = c.args.asked.numbers.now;
    } in
    let can = askable s (g.X.ArrayToBytesCodecTraits.meaning self.index_codecs) (location_of self.index_location) c.requires.fit c.requires.many c.requires.below in
    let moved = subst (λ (ps : List AskedPlace). IsPermutation (asked_places s.shape s.subchunk s.numbers) ps) (sym c.as_slice-rest.ensures.value) c.in_ok-places.ensures.all in
    let group = c.leading_group.result.0.now in
    let asked = group_asked s c.as_slice-rest.result.now c.loop-rest.rest.now group c.leading_group.result.1.now moved c.loop-rest.invariant.left c.leading_group.ensures.all in
    subchunk_below s (get_or group 0 no_place) can (each_at (IsAsked s) group 0 no_place asked c.leading_group.ensures.some)

pub read_group-requires-clause-inside : goal.read_group-requires-clause-inside
read_group-requires-clause-inside g c =
    let self = c.args.self.now in
    let s : AskedShard = record {
      inner = g.I.ArrayToBytesCodecTraits.meaning self.inner_codecs;
      elements = elements_of c.args.shard.elements.now;
      shape = c.args.asked.shape.now;
      subchunk = self.subchunk_shape;
      value = [];
      pairs = all_pairs c.args.shard.pairs.now;
      numbers = c.args.asked.numbers.now;
    } in
    let can = askable s (g.X.ArrayToBytesCodecTraits.meaning self.index_codecs) (location_of self.index_location) c.requires.fit c.requires.many c.requires.below in
    let moved = subst (λ (ps : List AskedPlace). IsPermutation (asked_places s.shape s.subchunk s.numbers) ps) (sym c.as_slice-rest.ensures.value) c.in_ok-places.ensures.all in
    let group = c.leading_group.result.0.now in
    let asked = group_asked s c.as_slice-rest.result.now c.loop-rest.rest.now group c.leading_group.result.1.now moved c.loop-rest.invariant.left c.leading_group.ensures.all in
    subst (λ (e : List ℕ). list_all (λ n. nat_lt n (product e)) (insides group) ≡ true) (sym (c.as_slice-shape.ensures.value ∙ c.in_ok-edges.ensures)) (insides_below s group can asked c.leading_group.ensures.one)

pub loop-rest-preserved : goal.loop-rest-preserved
loop-rest-preserved g c =
    let self = c.args.self.now in
    let laws = g.met.D.BytesPartialDecoderTraits in
    let inv = c.loop-rest.invariant in
    let places = c.as_slice-rest.result.now in
    let group = c.leading_group.result.0.now in
    let others = c.leading_group.result.1.now in
    let cut = c.leading_group.ensures.all in
    record {
      follows = laws.goes_on _ _ _ inv.follows c.in-Ok.ensures.follows;
      refused = c.in-Ok.ensures.refused ∙ inv.refused;
      left = left_more places c.loop-rest.rest.now group others inv.left cut;
      read = λ honest told.
          let s : AskedShard = record {
            inner = g.I.ArrayToBytesCodecTraits.meaning self.inner_codecs;
            elements = elements_of c.args.shard.elements.now;
            shape = c.args.asked.shape.now;
            subchunk = self.subchunk_shape;
            value = unwrap_or (g.D.BytesPartialDecoderTraits.contents c.args.source.now) [];
            pairs = all_pairs c.args.shard.pairs.now;
            numbers = c.args.asked.numbers.now;
          } in
          let can = askable s (g.X.ArrayToBytesCodecTraits.meaning self.index_codecs) (location_of self.index_location) c.requires.fit c.requires.many c.requires.below in
          let moved = subst (λ (ps : List AskedPlace). IsPermutation (asked_places s.shape s.subchunk s.numbers) ps) (sym c.as_slice-rest.ensures.value) c.in_ok-places.ensures.all in
          let still = subst IsTrue (laws.honest _ _ inv.follows) honest in
          let same = laws.same _ _ inv.follows in
          let is = c.as_slice-shape.ensures.value ∙ c.in_ok-edges.ensures in
          let found = read_before s (g.D.BytesPartialDecoderTraits.contents c.args.source.now) (g.D.BytesPartialDecoderTraits.contents c.loop-rest.source) c.as_slice-shape.result.now group (Ok c.in-Ok.piece) same is (c.in-Ok.ensures.part still (subst (λ (o : Option (List ℕ)). IsTotalOf o s.pairs c.args.shard.total) same told)) in
          so_far_more s c.loop-rest.all c.in_ok-all-in-Ok.all places c.loop-rest.rest.now group others found.cells can moved (inv.read honest told) cut c.leading_group.ensures.one found.is
          (λ cells shows many. c.in_ok-all-in-Ok.ensures cells found.cells shows found.lists many);
      sorted = rest_sorted c.loop-rest.rest.now group others cut inv.sorted;
      given = λ honest.
          let s : AskedShard = record {
            inner = g.I.ArrayToBytesCodecTraits.meaning self.inner_codecs;
            elements = elements_of c.args.shard.elements.now;
            shape = c.args.asked.shape.now;
            subchunk = self.subchunk_shape;
            value = [];
            pairs = all_pairs c.args.shard.pairs.now;
            numbers = c.args.asked.numbers.now;
          } in
          let can = askable s (g.X.ArrayToBytesCodecTraits.meaning self.index_codecs) (location_of self.index_location) c.requires.fit c.requires.many c.requires.below in
          let moved = subst (λ (ps : List AskedPlace). IsPermutation (asked_places s.shape s.subchunk s.numbers) ps) (sym c.as_slice-rest.ensures.value) c.in_ok-places.ensures.all in
          let asked = group_asked s c.as_slice-rest.result.now c.loop-rest.rest.now group c.leading_group.result.1.now moved inv.left c.leading_group.ensures.all in
          let sorted = subst (λ (ps : List AskedPlace). IsNonDecreasingBy (λ (place : AskedPlace). place.subchunk) ps) (sym c.leading_group.ensures.all) inv.sorted in
          let count = g.D.BytesPartialDecoderTraits.given_bytes in
          let was = subst (λ (ps : List AskedPlace). GivenSoFar s c.args.shard.total (count c.args.source.now) (count c.loop-rest.source) ps) (sym c.leading_group.ensures.all) (inv.given honest) in
          given_more s c.args.shard.total (count c.args.source.now) (count c.loop-rest.source) (count c.read_group.new.source) group others can asked c.leading_group.ensures.some c.leading_group.ensures.next sorted was
          (c.in-Ok.ensures.given (subst IsTrue (laws.honest _ _ inv.follows) honest));
    }

pub returns-in-Err : goal.returns-in-Err
returns-in-Err g c =
    let self = c.args.self.now in
    let laws = g.met.D.BytesPartialDecoderTraits in
    let inv = c.loop-rest.invariant in
    let e = c.in-Err.error in
    record {
      part = λ honest told.
          let s : AskedShard = record {
            inner = g.I.ArrayToBytesCodecTraits.meaning self.inner_codecs;
            elements = elements_of c.args.shard.elements.now;
            shape = c.args.asked.shape.now;
            subchunk = self.subchunk_shape;
            value = unwrap_or (g.D.BytesPartialDecoderTraits.contents c.args.source.now) [];
            pairs = all_pairs c.args.shard.pairs.now;
            numbers = c.args.asked.numbers.now;
          } in
          let can = askable s (g.X.ArrayToBytesCodecTraits.meaning self.index_codecs) (location_of self.index_location) c.requires.fit c.requires.many c.requires.below in
          let moved = subst (λ (ps : List AskedPlace). IsPermutation (asked_places s.shape s.subchunk s.numbers) ps) (sym c.as_slice-rest.ensures.value) c.in_ok-places.ensures.all in
          let still = subst IsTrue (laws.honest _ _ inv.follows) honest in
          let group = c.leading_group.result.0.now in
          let asked = group_asked s c.as_slice-rest.result.now c.loop-rest.rest.now group c.leading_group.result.1.now moved inv.left c.leading_group.ensures.all in
          let same = laws.same _ _ inv.follows in
          let is = c.as_slice-shape.ensures.value ∙ c.in_ok-edges.ensures in
          group_unread s group e can asked c.leading_group.ensures.one
          (read_before s (g.D.BytesPartialDecoderTraits.contents c.args.source.now) (g.D.BytesPartialDecoderTraits.contents c.loop-rest.source) c.as_slice-shape.result.now group (Err e) same is (c.in-Err.ensures.part still (subst (λ (o : Option (List ℕ)). IsTotalOf o s.pairs c.args.shard.total) same told)));
      refused = c.in-Err.ensures.refused ∙ ap (λ n. refused_after {A = List ℕ} n (Err e)) inv.refused;
      given = λ honest.
          let s : AskedShard = record {
            inner = g.I.ArrayToBytesCodecTraits.meaning self.inner_codecs;
            elements = elements_of c.args.shard.elements.now;
            shape = c.args.asked.shape.now;
            subchunk = self.subchunk_shape;
            value = [];
            pairs = all_pairs c.args.shard.pairs.now;
            numbers = c.args.asked.numbers.now;
          } in
          let can = askable s (g.X.ArrayToBytesCodecTraits.meaning self.index_codecs) (location_of self.index_location) c.requires.fit c.requires.many c.requires.below in
          let moved = subst (λ (ps : List AskedPlace). IsPermutation (asked_places s.shape s.subchunk s.numbers) ps) (sym c.as_slice-rest.ensures.value) c.in_ok-places.ensures.all in
          let group = c.leading_group.result.0.now in
          let others = c.leading_group.result.1.now in
          let asked = group_asked s c.as_slice-rest.result.now c.loop-rest.rest.now group c.leading_group.result.1.now moved inv.left c.leading_group.ensures.all in
          let sorted = subst (λ (ps : List AskedPlace). IsNonDecreasingBy (λ (place : AskedPlace). place.subchunk) ps) (sym c.leading_group.ensures.all) inv.sorted in
          let count = g.D.BytesPartialDecoderTraits.given_bytes in
          let was = subst (λ (ps : List AskedPlace). GivenSoFar s c.args.shard.total (count c.args.source.now) (count c.loop-rest.source) ps) (sym c.leading_group.ensures.all) (inv.given honest) in
          given_refused s c.args.shard.total (count c.args.source.now) (count c.loop-rest.source) (count c.read_group.new.source) group others can asked c.leading_group.ensures.some c.leading_group.ensures.next sorted was
          (c.in-Err.ensures.given (subst IsTrue (laws.honest _ _ inv.follows) honest));
      follows = laws.goes_on _ _ _ inv.follows c.in-Err.ensures.follows;
    }

pub returns : goal.returns
returns g c =
    let self = c.args.self.now in
    let inv = c.loop-rest.invariant in
    record {
      part = λ honest told.
          let s : AskedShard = record {
            inner = g.I.ArrayToBytesCodecTraits.meaning self.inner_codecs;
            elements = elements_of c.args.shard.elements.now;
            shape = c.args.asked.shape.now;
            subchunk = self.subchunk_shape;
            value = unwrap_or (g.D.BytesPartialDecoderTraits.contents c.args.source.now) [];
            pairs = all_pairs c.args.shard.pairs.now;
            numbers = c.args.asked.numbers.now;
          } in
          let moved = subst (λ (ps : List AskedPlace). IsPermutation (asked_places s.shape s.subchunk s.numbers) ps) (sym c.as_slice-rest.ensures.value) c.in_ok-places.ensures.all in
          let so = inv.read honest told in
          record {
            cells = so.cells;
            is = so_far_all s c.loop-rest.all c.as_slice-rest.result.now c.loop-rest.rest.now moved so c.loop-rest-test.false;
            lists = c.in_ok-gather.ensures so.cells so.shows;
          };
      refused = inv.refused;
      given = λ honest.
          let s : AskedShard = record {
            inner = g.I.ArrayToBytesCodecTraits.meaning self.inner_codecs;
            elements = elements_of c.args.shard.elements.now;
            shape = c.args.asked.shape.now;
            subchunk = self.subchunk_shape;
            value = [];
            pairs = all_pairs c.args.shard.pairs.now;
            numbers = c.args.asked.numbers.now;
          } in
          given_all s c.args.shard.total (g.D.BytesPartialDecoderTraits.given_bytes c.args.source.now) (g.D.BytesPartialDecoderTraits.given_bytes c.loop-rest.source) c.loop-rest.rest.now (inv.given honest);
      follows = inv.follows;
    }

pub returns-in_err-all-in-Ok-clause-follows : goal.returns-in_err-all-in-Ok-clause-follows
returns-in_err-all-in-Ok-clause-follows g c = g.met.D.BytesPartialDecoderTraits.goes_on _ _ _ c.loop-rest.invariant.follows c.in-Ok.ensures.follows

pub returns-in_err-all-in-Ok-clause-given : goal.returns-in_err-all-in-Ok-clause-given
returns-in_err-all-in-Ok-clause-given g c = λ honest.
    let self = c.args.self.now in
    let laws = g.met.D.BytesPartialDecoderTraits in
    let inv = c.loop-rest.invariant in
    let group = c.leading_group.result.0.now in
    let others = c.leading_group.result.1.now in
    let s : AskedShard = record {
      inner = g.I.ArrayToBytesCodecTraits.meaning self.inner_codecs;
      elements = elements_of c.args.shard.elements.now;
      shape = c.args.asked.shape.now;
      subchunk = self.subchunk_shape;
      value = [];
      pairs = all_pairs c.args.shard.pairs.now;
      numbers = c.args.asked.numbers.now;
    } in
    let can = askable s (g.X.ArrayToBytesCodecTraits.meaning self.index_codecs) (location_of self.index_location) c.requires.fit c.requires.many c.requires.below in
    let moved = subst (λ (ps : List AskedPlace). IsPermutation (asked_places s.shape s.subchunk s.numbers) ps) (sym c.as_slice-rest.ensures.value) c.in_ok-places.ensures.all in
    let asked = group_asked s c.as_slice-rest.result.now c.loop-rest.rest.now group others moved inv.left c.leading_group.ensures.all in
    let sorted = subst (λ (ps : List AskedPlace). IsNonDecreasingBy (λ (place : AskedPlace). place.subchunk) ps) (sym c.leading_group.ensures.all) inv.sorted in
    let count = g.D.BytesPartialDecoderTraits.given_bytes in
    let was = subst (λ (ps : List AskedPlace). GivenSoFar s c.args.shard.total (count c.args.source.now) (count c.loop-rest.source) ps) (sym c.leading_group.ensures.all) (inv.given honest) in
    given_refused s c.args.shard.total (count c.args.source.now) (count c.loop-rest.source) (count c.read_group.new.source) group others can asked c.leading_group.ensures.some c.leading_group.ensures.next sorted was
    (c.in-Ok.ensures.given (subst IsTrue (laws.honest _ _ inv.follows) honest))

pub returns-in_err-gather-clause-given : goal.returns-in_err-gather-clause-given
returns-in_err-gather-clause-given g c = λ honest.
    let self = c.args.self.now in
    let s : AskedShard = record {
      inner = g.I.ArrayToBytesCodecTraits.meaning self.inner_codecs;
      elements = elements_of c.args.shard.elements.now;
      shape = c.args.asked.shape.now;
      subchunk = self.subchunk_shape;
      value = [];
      pairs = all_pairs c.args.shard.pairs.now;
      numbers = c.args.asked.numbers.now;
    } in
    given_all s c.args.shard.total (g.D.BytesPartialDecoderTraits.given_bytes c.args.source.now) (g.D.BytesPartialDecoderTraits.given_bytes c.loop-rest.source) c.loop-rest.rest.now (c.loop-rest.invariant.given honest)

pub returns-in_err-edges-clause-given : goal.returns-in_err-edges-clause-given
returns-in_err-edges-clause-given g c = λ honest.
    let self = c.args.self.now in
    let s : AskedShard = record {
      inner = g.I.ArrayToBytesCodecTraits.meaning self.inner_codecs;
      elements = elements_of c.args.shard.elements.now;
      shape = c.args.asked.shape.now;
      subchunk = self.subchunk_shape;
      value = [];
      pairs = all_pairs c.args.shard.pairs.now;
      numbers = c.args.asked.numbers.now;
    } in
    given_all s c.args.shard.total (g.D.BytesPartialDecoderTraits.given_bytes c.args.source.now) (g.D.BytesPartialDecoderTraits.given_bytes c.loop-rest.source) c.loop-rest.rest.now (c.loop-rest.invariant.given honest)
