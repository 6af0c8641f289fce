use Rattle.std.proofs.Common.{◌≡◌, ◌∙◌, ◌∷◌, ◌<◌, ℕ, List, [], Option, Err, Ok, IsTrue, true, nat_lt, ap, sym, refl, subst, arith, length, length-append, get_or, unwrap_or}
use Rattle.std.specs.List.{list_all}
use Rattle.std.specs.List.Sorted.{IsNonDecreasingBy, IsPermutation}
use Rattle.std.proofs.lemmas.List.{map-append}
use Rattle.zarr_codecs_arrays.specs.Views.{elements_of}
use Rattle.zarr_codecs_meaning.specs.Fits.{fits}
use Rattle.zarr_codecs_meaning.proofs.Parts.{length-parts}
use Rattle.zarr_codecs_meaning.proofs.Positions.{each_at}
use Rattle.zarr_grids_boxes.specs.Boxes.{product}
use Rattle.zarr_sharding_index.specs.Views.{location_of}
use Rattle.zarr_sharding_places.specs.Groups.{no_place}
use Rattle.zarr_sharding_places.specs.Locating.{asked_places, part_shape}
use Rattle.zarr_sharding_places.specs.declared.locating.AskedPlace.{AskedPlace}
use Rattle.zarr_sharding_index.specs.Known.{end_of, pairs_in, known_location, known_length}
use Rattle.zarr_sharding_index.specs.SliceChanges.{change_of, changes_of, is_below}
use Rattle.zarr_sharding_index.specs.declared.slice_changes.SliceChange.{SliceChange}
use Rattle.zarr_sharding_codec.specs.PartWriting.{IsOf, UpdatesGroup, given_group, insides, stored_in}
use Rattle.zarr_sharding_codec.specs.Updating.{total_of}
use Rattle.zarr_sharding_codec.proofs.NumberedParts.{part_fits}
use Rattle.zarr_sharding_codec.proofs.GivenSoFar.{GivenSoFar, given_all, given_more, given_refused, none_given, rest_sorted, shard_asked}
use Rattle.zarr_sharding_codec.proofs.GroupsRead.{AskedShard, IsAsked, insides_below, subchunk_below}
use Rattle.zarr_sharding_codec.proofs.SoFarRead.{askable, group_asked}
use Rattle.zarr_sharding_codec.proofs.SoFarWritten.{UpdatedSoFar, below_more, cut_more, front_asked, front_of, group_unwritten, nothing_cut, nothing_updated, number_of, positions_below, updated_all, updated_more, writing_of}
use Rattle.zarr_sharding_codec.proofs.StoredLoop.{rank_fits}
use Rattle.zarr_sharding_codec.proofs.codec.ShardingCodec.update_slices.Goals as goal

pub places_of-requires : goal.places_of-requires
places_of-requires g c =
    let self = c.args.self.now in
    rank_fits self.subchunk_shape (g.I.ArrayToBytesCodecTraits.meaning self.inner_codecs) (g.X.ArrayToBytesCodecTraits.meaning self.index_codecs) (location_of self.index_location) (elements_of c.args.shard.elements.now) c.args.given.shape.now c.requires.fit

pub loop-rest-init : goal.loop-rest-init
loop-rest-init g c =
    let self = c.args.self.now in
    let none = c.new-changes.ensures.items in
    record {
      follows = g.met.D.BytesPartialDecoderTraits.stays c.args.source.now;
      refused = refl;
      cut = nothing_cut c.as_slice-rest.result.now;
      below = ap (list_all (is_below (length (pairs_in c.args.shard.known.now)))) none;
      updated = λ honest of cells valid.
          let s : AskedShard = record {
            inner = g.I.ArrayToBytesCodecTraits.meaning self.inner_codecs;
            elements = elements_of c.args.shard.elements.now;
            shape = c.args.given.shape.now;
            subchunk = self.subchunk_shape;
            value = unwrap_or (g.D.BytesPartialDecoderTraits.contents c.args.source.now) [];
            pairs = pairs_in c.args.shard.known.now;
            numbers = c.args.given.numbers.now;
          } in
          let exact = g.I.ArrayToBytesCodecTraits.is_function self.inner_codecs in
          let places = c.as_slice-rest.result.now in
          subst (λ (cs : List SliceChange). UpdatedSoFar s exact cells places places (changes_of cs)) (sym none) (nothing_updated s exact cells places);
      sorted = subst (λ (ps : List AskedPlace). IsNonDecreasingBy (λ (place : AskedPlace). place.subchunk) ps) (sym c.as_slice-rest.ensures.value) c.in_ok-places.ensures.sorted;
      given = λ honest.
          let s = shard_asked (g.I.ArrayToBytesCodecTraits.meaning self.inner_codecs) (elements_of c.args.shard.elements.now) c.args.given.shape.now self.subchunk_shape (pairs_in c.args.shard.known.now) c.args.given.numbers.now in
          none_given s (total_of c.args.shard) (g.D.BytesPartialDecoderTraits.given_bytes c.args.source.now) c.as_slice-rest.result.now;
    }

pub loop-rest-smaller : goal.loop-rest-smaller
loop-rest-smaller g c =
    let cut = ap length c.leading_group.ensures.all in
    let sum = length-append c.leading_group.result.0.now c.leading_group.result.1.now in
    let some = c.leading_group.ensures.some in
    omega (arith, cut, sum, some)

pub part_shape-requires-clause-rank : goal.part_shape-requires-clause-rank
part_shape-requires-clause-rank g c =
    let self = c.args.self.now in
    rank_fits self.subchunk_shape (g.I.ArrayToBytesCodecTraits.meaning self.inner_codecs) (g.X.ArrayToBytesCodecTraits.meaning self.index_codecs) (location_of self.index_location) (elements_of c.args.shard.elements.now) c.args.given.shape.now c.requires.fit

pub part_shape-requires-clause-below : goal.part_shape-requires-clause-below
part_shape-requires-clause-below g c =
    let self = c.args.self.now in
    let s : AskedShard = record {
      inner = g.I.ArrayToBytesCodecTraits.meaning self.inner_codecs;
      elements = elements_of c.args.shard.elements.now;
      shape = c.args.given.shape.now;
      subchunk = self.subchunk_shape;
      value = unwrap_or (g.D.BytesPartialDecoderTraits.contents c.args.source.now) [];
      pairs = pairs_in c.args.shard.known.now;
      numbers = c.args.given.numbers.now;
    } in
    let can = askable s (g.X.ArrayToBytesCodecTraits.meaning self.index_codecs) (location_of self.index_location) c.requires.fit c.requires.many c.requires.below in
    let cut = c.loop-rest.invariant.cut in
    let group = c.leading_group.result.0.now in
    let moved = subst (λ (ps : List AskedPlace). IsPermutation (asked_places s.shape s.subchunk s.numbers) ps) (sym c.as_slice-rest.ensures.value) c.in_ok-places.ensures.all in
    let asked = group_asked s c.as_slice-rest.result.now c.loop-rest.rest.now group c.leading_group.result.1.now moved (record { done = cut.done; split = cut.split }) c.leading_group.ensures.all in
    let below = subchunk_below s (get_or group 0 no_place) can (each_at (IsAsked s) group 0 no_place asked c.leading_group.ensures.some) in
    let many = c.requires.many in
    let count = length-parts s.shape s.subchunk in
    omega (arith, below, many, count)

pub update_group-requires-clause-fit : goal.update_group-requires-clause-fit
update_group-requires-clause-fit g c =
    let self = c.args.self.now in
    let s : AskedShard = record {
      inner = g.I.ArrayToBytesCodecTraits.meaning self.inner_codecs;
      elements = elements_of c.args.shard.elements.now;
      shape = c.args.given.shape.now;
      subchunk = self.subchunk_shape;
      value = unwrap_or (g.D.BytesPartialDecoderTraits.contents c.args.source.now) [];
      pairs = pairs_in c.args.shard.known.now;
      numbers = c.args.given.numbers.now;
    } in
    let can = askable s (g.X.ArrayToBytesCodecTraits.meaning self.index_codecs) (location_of self.index_location) c.requires.fit c.requires.many c.requires.below in
    let cut = c.loop-rest.invariant.cut in
    let group = c.leading_group.result.0.now in
    let moved = subst (λ (ps : List AskedPlace). IsPermutation (asked_places s.shape s.subchunk s.numbers) ps) (sym c.as_slice-rest.ensures.value) c.in_ok-places.ensures.all in
    let asked = group_asked s c.as_slice-rest.result.now c.loop-rest.rest.now group c.leading_group.result.1.now moved (record { done = cut.done; split = cut.split }) c.leading_group.ensures.all in
    let below = subchunk_below s (get_or group 0 no_place) can (each_at (IsAsked s) group 0 no_place asked c.leading_group.ensures.some) in
    let many = c.requires.many in
    ap (λ (es : List ℕ). fits s.inner s.elements.type es) (c.as_slice-edges.ensures.value ∙ c.in_ok-lengths.ensures)
    ∙ part_fits s.subchunk s.inner (g.X.ArrayToBytesCodecTraits.meaning self.index_codecs) (location_of self.index_location) s.elements s.shape (get_or group 0 no_place).subchunk c.requires.fit (omega (arith, below, many))

pub returns-in_err-lengths-clause-given : goal.returns-in_err-lengths-clause-given
returns-in_err-lengths-clause-given g c = λ honest.
    let self = c.args.self.now in
    let count = g.D.BytesPartialDecoderTraits.given_bytes in
    let s = shard_asked (g.I.ArrayToBytesCodecTraits.meaning self.inner_codecs) (elements_of c.args.shard.elements.now) c.args.given.shape.now self.subchunk_shape (pairs_in c.args.shard.known.now) c.args.given.numbers.now in
    given_all s (total_of c.args.shard) (count c.args.source.now) (count c.loop-rest.source) c.loop-rest.rest.now (c.loop-rest.invariant.given honest)

pub returns-in_err-lengths-clause-follows : goal.returns-in_err-lengths-clause-follows
returns-in_err-lengths-clause-follows g c = c.loop-rest.invariant.follows

pub update_group-requires-clause-pair : goal.update_group-requires-clause-pair
update_group-requires-clause-pair g c =
    let self = c.args.self.now in
    let s : AskedShard = record {
      inner = g.I.ArrayToBytesCodecTraits.meaning self.inner_codecs;
      elements = elements_of c.args.shard.elements.now;
      shape = c.args.given.shape.now;
      subchunk = self.subchunk_shape;
      value = unwrap_or (g.D.BytesPartialDecoderTraits.contents c.args.source.now) [];
      pairs = pairs_in c.args.shard.known.now;
      numbers = c.args.given.numbers.now;
    } in
    let can = askable s (g.X.ArrayToBytesCodecTraits.meaning self.index_codecs) (location_of self.index_location) c.requires.fit c.requires.many c.requires.below in
    let cut = c.loop-rest.invariant.cut in
    let group = c.leading_group.result.0.now in
    let moved = subst (λ (ps : List AskedPlace). IsPermutation (asked_places s.shape s.subchunk s.numbers) ps) (sym c.as_slice-rest.ensures.value) c.in_ok-places.ensures.all in
    let asked = group_asked s c.as_slice-rest.result.now c.loop-rest.rest.now group c.leading_group.result.1.now moved (record { done = cut.done; split = cut.split }) c.leading_group.ensures.all in
    subchunk_below s (get_or group 0 no_place) can (each_at (IsAsked s) group 0 no_place asked c.leading_group.ensures.some)

pub returns-in_err-push-in-Ok-clause-follows : goal.returns-in_err-push-in-Ok-clause-follows
returns-in_err-push-in-Ok-clause-follows g c = g.met.D.BytesPartialDecoderTraits.goes_on _ _ _ c.loop-rest.invariant.follows c.in-Ok.ensures.follows

pub returns-in-Err-clause-changes : goal.returns-in-Err-clause-changes
returns-in-Err-clause-changes g c = λ honest of cells valid.
    let self = c.args.self.now in
    let s : AskedShard = record {
      inner = g.I.ArrayToBytesCodecTraits.meaning self.inner_codecs;
      elements = elements_of c.args.shard.elements.now;
      shape = c.args.given.shape.now;
      subchunk = self.subchunk_shape;
      value = unwrap_or (g.D.BytesPartialDecoderTraits.contents c.args.source.now) [];
      pairs = pairs_in c.args.shard.known.now;
      numbers = c.args.given.numbers.now;
    } in
    let can = askable s (g.X.ArrayToBytesCodecTraits.meaning self.index_codecs) (location_of self.index_location) c.requires.fit c.requires.many c.requires.below in
    let inv = c.loop-rest.invariant in
    let places = c.as_slice-rest.result.now in
    let items = c.in_ok-places.places.items in
    let are = c.as_slice-rest.ensures.value in
    let rest = c.loop-rest.rest.now in
    let group = c.leading_group.result.0.now in
    let others = c.leading_group.result.1.now in
    let front = front_of places items rest group others are c.in_ok-places.ensures.sorted inv.cut c.leading_group.ensures.all c.leading_group.ensures.some c.leading_group.ensures.one c.leading_group.ensures.next in
    let laws = g.met.D.BytesPartialDecoderTraits in
    let exact = g.I.ArrayToBytesCodecTraits.is_function self.inner_codecs in
    let writing = writing_of s cells places items are can valid.is.many c.in_ok-places.ensures.all c.in_ok-places.ensures.stable in
    let asked = front_asked s exact cells places rest group others writing front in
    let same = laws.same _ _ inv.follows in
    let still = subst IsTrue (laws.honest _ _ inv.follows) honest in
    let kept = subst (λ (o : Option (List ℕ)). IsOf (known_location c.args.shard.known.now) (known_length c.args.shard.known.now) o (pairs_in c.args.shard.known.now) (end_of c.args.shard.known.now)) same of in
    let here : c.as_slice-edges.result.now ≡ part_shape s.shape s.subchunk (number_of group) = c.as_slice-edges.ensures.value ∙ c.in_ok-lengths.ensures in
    let inside = subst (λ (es : List ℕ). list_all (λ n. nat_lt n (product es)) (insides group) ≡ true) (sym here) (insides_below s group can asked c.leading_group.ensures.one) in
    let found = c.in-Err.ensures.change still kept cells (length c.args.given.numbers.now) valid (positions_below s group asked) inside in
    let e = c.in-Err.error in
    group_unwritten s exact cells places rest group others writing front e
    (subst (λ (es : List ℕ). UpdatesGroup (stored_in s.inner exact s.elements (g.D.BytesPartialDecoderTraits.contents c.args.source.now) s.pairs) (given_group es (number_of group) group cells) (Err e)) here
    (subst (λ (o : Option (List ℕ)). UpdatesGroup (stored_in s.inner exact s.elements o s.pairs) (given_group c.as_slice-edges.result.now (number_of group) group cells) (Err e)) (sym same) found))

pub loop-rest-preserved : goal.loop-rest-preserved
loop-rest-preserved g c =
    let self = c.args.self.now in
    let inv = c.loop-rest.invariant in
    let places = c.as_slice-rest.result.now in
    let items = c.in_ok-places.places.items in
    let are = c.as_slice-rest.ensures.value in
    let rest = c.loop-rest.rest.now in
    let group = c.leading_group.result.0.now in
    let others = c.leading_group.result.1.now in
    let front = front_of places items rest group others are c.in_ok-places.ensures.sorted inv.cut c.leading_group.ensures.all c.leading_group.ensures.some c.leading_group.ensures.one c.leading_group.ensures.next in
    let more = c.in_ok-push-in-Ok.ensures.items in
    let old = c.loop-rest.changes.items in
    let change = c.in-Ok.change in
    let s : AskedShard = record {
      inner = g.I.ArrayToBytesCodecTraits.meaning self.inner_codecs;
      elements = elements_of c.args.shard.elements.now;
      shape = c.args.given.shape.now;
      subchunk = self.subchunk_shape;
      value = unwrap_or (g.D.BytesPartialDecoderTraits.contents c.args.source.now) [];
      pairs = pairs_in c.args.shard.known.now;
      numbers = c.args.given.numbers.now;
    } in
    let can = askable s (g.X.ArrayToBytesCodecTraits.meaning self.index_codecs) (location_of self.index_location) c.requires.fit c.requires.many c.requires.below in
    let moved = subst (λ (ps : List AskedPlace). IsPermutation (asked_places s.shape s.subchunk s.numbers) ps) (sym are) c.in_ok-places.ensures.all in
    let left = group_asked s places rest group others moved (record { done = inv.cut.done; split = inv.cut.split }) c.leading_group.ensures.all in
    let low : change.number < length (pairs_in c.args.shard.known.now) = let number = c.in-Ok.ensures.number in let below = subchunk_below s (get_or group 0 no_place) can (each_at (IsAsked s) group 0 no_place left c.leading_group.ensures.some) in omega (arith, number, below) in
    record {
      follows = g.met.D.BytesPartialDecoderTraits.goes_on _ _ _ inv.follows c.in-Ok.ensures.follows;
      refused = c.in-Ok.ensures.refused ∙ inv.refused;
      cut = cut_more places rest group others front;
      below = ap (list_all (is_below (length (pairs_in c.args.shard.known.now)))) more ∙ below_more (length (pairs_in c.args.shard.known.now)) old change inv.below low;
      updated = λ honest of cells valid.
          let laws = g.met.D.BytesPartialDecoderTraits in
          let exact = g.I.ArrayToBytesCodecTraits.is_function self.inner_codecs in
          let writing = writing_of s cells places items are can valid.is.many c.in_ok-places.ensures.all c.in_ok-places.ensures.stable in
          let asked = front_asked s exact cells places rest group others writing front in
          let same = laws.same _ _ inv.follows in
          let still = subst IsTrue (laws.honest _ _ inv.follows) honest in
          let kept = subst (λ (o : Option (List ℕ)). IsOf (known_location c.args.shard.known.now) (known_length c.args.shard.known.now) o (pairs_in c.args.shard.known.now) (end_of c.args.shard.known.now)) same of in
          let here : c.as_slice-edges.result.now ≡ part_shape s.shape s.subchunk (number_of group) = c.as_slice-edges.ensures.value ∙ c.in_ok-lengths.ensures in
          let inside = subst (λ (es : List ℕ). list_all (λ n. nat_lt n (product es)) (insides group) ≡ true) (sym here) (insides_below s group can asked c.leading_group.ensures.one) in
          let found = c.in-Ok.ensures.change still kept cells (length c.args.given.numbers.now) valid (positions_below s group asked) inside in
          let is = subst (λ (es : List ℕ). UpdatesGroup (stored_in s.inner exact s.elements (g.D.BytesPartialDecoderTraits.contents c.args.source.now) s.pairs) (given_group es (number_of group) group cells) (Ok change)) here
          (subst (λ (o : Option (List ℕ)). UpdatesGroup (stored_in s.inner exact s.elements o s.pairs) (given_group c.as_slice-edges.result.now (number_of group) group cells) (Ok change)) (sym same) found) in
          let next = updated_more s exact cells places rest group others (changes_of old) (change_of change) writing front (inv.updated honest of cells valid) is in
          subst (λ cs. UpdatedSoFar s exact cells places others cs) (sym (ap changes_of more ∙ map-append change_of old (change ∷ []))) next;
      sorted = rest_sorted rest group others c.leading_group.ensures.all inv.sorted;
      given = λ honest.
          let laws = g.met.D.BytesPartialDecoderTraits in
          let count = g.D.BytesPartialDecoderTraits.given_bytes in
          let t = shard_asked s.inner s.elements s.shape s.subchunk s.pairs s.numbers in
          let could = askable t (g.X.ArrayToBytesCodecTraits.meaning self.index_codecs) (location_of self.index_location) c.requires.fit c.requires.many c.requires.below in
          let all = c.leading_group.ensures.all in
          let asked = group_asked t places rest group others moved (record { done = inv.cut.done; split = inv.cut.split }) all in
          let sorted = subst (λ (ps : List AskedPlace). IsNonDecreasingBy (λ (place : AskedPlace). place.subchunk) ps) (sym all) inv.sorted in
          let was = subst (λ (ps : List AskedPlace). GivenSoFar t (total_of c.args.shard) (count c.args.source.now) (count c.loop-rest.source) ps) (sym all) (inv.given honest) in
          given_more t (total_of c.args.shard) (count c.args.source.now) (count c.loop-rest.source) (count c.update_group.new.source) group others could asked c.leading_group.ensures.some c.leading_group.ensures.next sorted was
          (c.in-Ok.ensures.given (subst IsTrue (laws.honest _ _ inv.follows) honest));
    }

pub returns-clause-changes : goal.returns-clause-changes
returns-clause-changes g c = λ honest of cells valid.
    let self = c.args.self.now in
    let s : AskedShard = record {
      inner = g.I.ArrayToBytesCodecTraits.meaning self.inner_codecs;
      elements = elements_of c.args.shard.elements.now;
      shape = c.args.given.shape.now;
      subchunk = self.subchunk_shape;
      value = unwrap_or (g.D.BytesPartialDecoderTraits.contents c.args.source.now) [];
      pairs = pairs_in c.args.shard.known.now;
      numbers = c.args.given.numbers.now;
    } in
    let can = askable s (g.X.ArrayToBytesCodecTraits.meaning self.index_codecs) (location_of self.index_location) c.requires.fit c.requires.many c.requires.below in
    let inv = c.loop-rest.invariant in
    let places = c.as_slice-rest.result.now in
    let writing = writing_of s cells places c.in_ok-places.places.items c.as_slice-rest.ensures.value can valid.is.many c.in_ok-places.ensures.all c.in_ok-places.ensures.stable in
    updated_all s (g.I.ArrayToBytesCodecTraits.is_function self.inner_codecs) cells places c.loop-rest.rest.now (changes_of c.loop-rest.changes.items) writing (inv.updated honest of cells valid) c.loop-rest-test.false

pub returns-in_err-push-in-Ok-clause-given : goal.returns-in_err-push-in-Ok-clause-given
returns-in_err-push-in-Ok-clause-given g c = λ honest.
    let self = c.args.self.now in
    let laws = g.met.D.BytesPartialDecoderTraits in
    let count = g.D.BytesPartialDecoderTraits.given_bytes in
    let inv = c.loop-rest.invariant in
    let places = c.as_slice-rest.result.now in
    let group = c.leading_group.result.0.now in
    let others = c.leading_group.result.1.now in
    let all = c.leading_group.ensures.all in
    let s = shard_asked (g.I.ArrayToBytesCodecTraits.meaning self.inner_codecs) (elements_of c.args.shard.elements.now) c.args.given.shape.now self.subchunk_shape (pairs_in c.args.shard.known.now) c.args.given.numbers.now in
    let can = askable s (g.X.ArrayToBytesCodecTraits.meaning self.index_codecs) (location_of self.index_location) c.requires.fit c.requires.many c.requires.below in
    let moved = subst (λ (ps : List AskedPlace). IsPermutation (asked_places s.shape s.subchunk s.numbers) ps) (sym c.as_slice-rest.ensures.value) c.in_ok-places.ensures.all in
    let asked = group_asked s places c.loop-rest.rest.now group others moved (record { done = inv.cut.done; split = inv.cut.split }) all in
    let sorted = subst (λ (ps : List AskedPlace). IsNonDecreasingBy (λ (place : AskedPlace). place.subchunk) ps) (sym all) inv.sorted in
    let was = subst (λ (ps : List AskedPlace). GivenSoFar s (total_of c.args.shard) (count c.args.source.now) (count c.loop-rest.source) ps) (sym all) (inv.given honest) in
    given_refused s (total_of c.args.shard) (count c.args.source.now) (count c.loop-rest.source) (count c.update_group.new.source) group others can asked c.leading_group.ensures.some c.leading_group.ensures.next sorted was
    (c.in-Ok.ensures.given (subst IsTrue (laws.honest _ _ inv.follows) honest))

pub returns-in-Err-clause-given : goal.returns-in-Err-clause-given
returns-in-Err-clause-given g c = λ honest.
    let self = c.args.self.now in
    let laws = g.met.D.BytesPartialDecoderTraits in
    let count = g.D.BytesPartialDecoderTraits.given_bytes in
    let inv = c.loop-rest.invariant in
    let places = c.as_slice-rest.result.now in
    let group = c.leading_group.result.0.now in
    let others = c.leading_group.result.1.now in
    let all = c.leading_group.ensures.all in
    let s = shard_asked (g.I.ArrayToBytesCodecTraits.meaning self.inner_codecs) (elements_of c.args.shard.elements.now) c.args.given.shape.now self.subchunk_shape (pairs_in c.args.shard.known.now) c.args.given.numbers.now in
    let can = askable s (g.X.ArrayToBytesCodecTraits.meaning self.index_codecs) (location_of self.index_location) c.requires.fit c.requires.many c.requires.below in
    let moved = subst (λ (ps : List AskedPlace). IsPermutation (asked_places s.shape s.subchunk s.numbers) ps) (sym c.as_slice-rest.ensures.value) c.in_ok-places.ensures.all in
    let asked = group_asked s places c.loop-rest.rest.now group others moved (record { done = inv.cut.done; split = inv.cut.split }) all in
    let sorted = subst (λ (ps : List AskedPlace). IsNonDecreasingBy (λ (place : AskedPlace). place.subchunk) ps) (sym all) inv.sorted in
    let was = subst (λ (ps : List AskedPlace). GivenSoFar s (total_of c.args.shard) (count c.args.source.now) (count c.loop-rest.source) ps) (sym all) (inv.given honest) in
    given_refused s (total_of c.args.shard) (count c.args.source.now) (count c.loop-rest.source) (count c.update_group.new.source) group others can asked c.leading_group.ensures.some c.leading_group.ensures.next sorted was
    (c.in-Err.ensures.given (subst IsTrue (laws.honest _ _ inv.follows) honest))

pub returns-clause-given : goal.returns-clause-given
returns-clause-given g c = λ honest.
    let self = c.args.self.now in
    let count = g.D.BytesPartialDecoderTraits.given_bytes in
    let s = shard_asked (g.I.ArrayToBytesCodecTraits.meaning self.inner_codecs) (elements_of c.args.shard.elements.now) c.args.given.shape.now self.subchunk_shape (pairs_in c.args.shard.known.now) c.args.given.numbers.now in
    given_all s (total_of c.args.shard) (count c.args.source.now) (count c.loop-rest.source) c.loop-rest.rest.now (c.loop-rest.invariant.given honest)
