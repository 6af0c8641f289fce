use Rattle.std.proofs.Common.{◌∙◌, ◌∷◌, ◌+◌, ◌<◌, ℕ, List, [], Option, Err, Ok, IsTrue, ap, sym, refl, subst, arith, length, get_or, unwrap_or}
use Rattle.std.specs.List.{list_all}
use Rattle.std.proofs.lemmas.List.{map-append}
use Rattle.zarr_codecs_arrays.specs.Outcomes.{IsValid}
use Rattle.zarr_codecs_arrays.specs.Views.{elements_of, payload_of}
use Rattle.zarr_codecs_meaning.specs.Fits.{fits}
use Rattle.zarr_codecs_meaning.proofs.Fitting.{fitted}
use Rattle.zarr_codecs_regions.proofs.AskedPlaces as regions
use Rattle.zarr_codecs_traits.specs.Indexers.{in_box}
use Rattle.zarr_grids_boxes.specs.Boxes.{product}
use Rattle.zarr_grids_boxes.specs.Subsets.{region_of}
use Rattle.zarr_sharding_index.specs.Views.{location_of}
use Rattle.zarr_sharding_index.specs.Known.{end_of, pairs_in, known_location, known_length}
use Rattle.zarr_sharding_index.specs.SliceChanges.{change_of, changes_of, is_below}
use Rattle.zarr_sharding_index.specs.declared.slice_changes.SliceChange.{SliceChange}
use Rattle.zarr_sharding_codec.specs.BoxReading.{AreMet}
use Rattle.zarr_sharding_codec.specs.PartWriting.{IsOf}
use Rattle.zarr_sharding_codec.specs.Updating.{total_of}
use Rattle.zarr_sharding_codec.proofs.BoxInSubchunk.{numbers_many}
use Rattle.zarr_sharding_codec.proofs.BoxRead.{given_begun, given_done}
use Rattle.zarr_sharding_codec.proofs.BoxWritten.{BoxUpdated, all_updated, box_asked, box_updated, cut_before, cut_below, cut_given, cut_group, cut_whole, group_at, none_updated}
use Rattle.zarr_sharding_codec.proofs.NumberedParts.{part_fits}
use Rattle.zarr_sharding_codec.proofs.SoFarRead.{askable}
use Rattle.zarr_sharding_codec.proofs.SoFarWritten.{below_more, part_unwritten}
use Rattle.zarr_sharding_codec.proofs.StoredLoop.{rank_fits}
use Rattle.zarr_sharding_codec.proofs.codec.ShardingCodec.update_box.Goals as goal

pub subchunks_met-requires-clause-cuts : goal.subchunks_met-requires-clause-cuts
subchunks_met-requires-clause-cuts g c =
    let self = c.args.self.now in
    (fitted self.subchunk_shape (g.I.ArrayToBytesCodecTraits.meaning self.inner_codecs) (g.X.ArrayToBytesCodecTraits.meaning self.index_codecs) (location_of self.index_location) (elements_of c.args.shard.elements.now) c.args.given.shape.now c.requires.fit).cuts

pub subchunks_met-requires-clause-rank : goal.subchunks_met-requires-clause-rank
subchunks_met-requires-clause-rank g c =
    let self = c.args.self.now in
    rank_fits self.subchunk_shape (g.I.ArrayToBytesCodecTraits.meaning self.inner_codecs) (g.X.ArrayToBytesCodecTraits.meaning self.index_codecs) (location_of self.index_location) (elements_of c.args.shard.elements.now) c.args.given.shape.now c.requires.fit

pub cut_at-requires-clause-cuts : goal.cut_at-requires-clause-cuts
cut_at-requires-clause-cuts g c =
    let self = c.args.self.now in
    (fitted self.subchunk_shape (g.I.ArrayToBytesCodecTraits.meaning self.inner_codecs) (g.X.ArrayToBytesCodecTraits.meaning self.index_codecs) (location_of self.index_location) (elements_of c.args.shard.elements.now) c.args.given.shape.now c.requires.fit).cuts

pub cut_at-requires-clause-rank : goal.cut_at-requires-clause-rank
cut_at-requires-clause-rank g c =
    let self = c.args.self.now in
    rank_fits self.subchunk_shape (g.I.ArrayToBytesCodecTraits.meaning self.inner_codecs) (g.X.ArrayToBytesCodecTraits.meaning self.index_codecs) (location_of self.index_location) (elements_of c.args.shard.elements.now) c.args.given.shape.now c.requires.fit

pub cut_at-requires-clause-below : goal.cut_at-requires-clause-below
cut_at-requires-clause-below g c =
    let self = c.args.self.now in
    let region = region_of c.args.given.region.now in
    let s = box_asked (g.I.ArrayToBytesCodecTraits.meaning self.inner_codecs) (elements_of c.args.shard.elements.now) c.args.given.shape.now self.subchunk_shape (unwrap_or (g.D.BytesPartialDecoderTraits.contents c.args.source.now) []) (pairs_in c.args.shard.known.now) (region_of c.args.given.region.now) in
    let met = c.as_slice-met.result.now in
    let are = subst (AreMet s.shape s.subchunk s.numbers) (sym c.as_slice-met.ensures.value) c.in_ok-found.ensures in
    are.below c.loop-j.j c.loop-j-test.true

pub update_cut-requires-clause-fit : goal.update_cut-requires-clause-fit
update_cut-requires-clause-fit g c =
    let self = c.args.self.now in
    let region = region_of c.args.given.region.now in
    let s = box_asked (g.I.ArrayToBytesCodecTraits.meaning self.inner_codecs) (elements_of c.args.shard.elements.now) c.args.given.shape.now self.subchunk_shape (unwrap_or (g.D.BytesPartialDecoderTraits.contents c.args.source.now) []) (pairs_in c.args.shard.known.now) (region_of c.args.given.region.now) in
    let met = c.as_slice-met.result.now in
    let are = subst (AreMet s.shape s.subchunk s.numbers) (sym c.as_slice-met.ensures.value) c.in_ok-found.ensures in
    ap (fits s.inner s.elements.type) c.in_ok-made.ensures.edges
    ∙ part_fits self.subchunk_shape s.inner (g.X.ArrayToBytesCodecTraits.meaning self.index_codecs) (location_of self.index_location) s.elements s.shape _ c.requires.fit (are.below c.loop-j.j c.loop-j-test.true)

pub update_cut-requires-clause-pair : goal.update_cut-requires-clause-pair
update_cut-requires-clause-pair g c =
    let self = c.args.self.now in
    let region = region_of c.args.given.region.now in
    let s = box_asked (g.I.ArrayToBytesCodecTraits.meaning self.inner_codecs) (elements_of c.args.shard.elements.now) c.args.given.shape.now self.subchunk_shape (unwrap_or (g.D.BytesPartialDecoderTraits.contents c.args.source.now) []) (pairs_in c.args.shard.known.now) (region_of c.args.given.region.now) in
    let met = c.as_slice-met.result.now in
    let are = subst (AreMet s.shape s.subchunk s.numbers) (sym c.as_slice-met.ensures.value) c.in_ok-found.ensures in
    cut_below s region c.in_ok-made.made _ refl c.in_ok-made.ensures met c.loop-j.j c.requires.many are c.loop-j-test.true refl

pub loop-j-init : goal.loop-j-init
loop-j-init g c =
    let self = c.args.self.now in
    let region = region_of c.args.given.region.now in
    let s = box_asked (g.I.ArrayToBytesCodecTraits.meaning self.inner_codecs) (elements_of c.args.shard.elements.now) c.args.given.shape.now self.subchunk_shape (unwrap_or (g.D.BytesPartialDecoderTraits.contents c.args.source.now) []) (pairs_in c.args.shard.known.now) (region_of c.args.given.region.now) in
    let met = c.as_slice-met.result.now in
    let none = c.in_ok-changes.ensures.items in
    record {
      follows = g.met.D.BytesPartialDecoderTraits.stays c.args.source.now;
      refused = refl;
      below = ap (list_all (is_below (length s.pairs))) none;
      updated = λ honest of cells valid.
          let exact = g.I.ArrayToBytesCodecTraits.is_function self.inner_codecs in
          subst (λ (cs : List SliceChange). BoxUpdated s exact cells met (changes_of cs) 0) (sym none) (none_updated s exact cells met);
      given = λ honest. given_begun s (total_of c.args.shard) met (g.D.BytesPartialDecoderTraits.given_bytes c.args.source.now);
    }

pub loop-j-preserved : goal.loop-j-preserved
loop-j-preserved g c =
    let self = c.args.self.now in
    let region = region_of c.args.given.region.now in
    let s = box_asked (g.I.ArrayToBytesCodecTraits.meaning self.inner_codecs) (elements_of c.args.shard.elements.now) c.args.given.shape.now self.subchunk_shape (unwrap_or (g.D.BytesPartialDecoderTraits.contents c.args.source.now) []) (pairs_in c.args.shard.known.now) (region_of c.args.given.region.now) in
    let met = c.as_slice-met.result.now in
    let are = subst (AreMet s.shape s.subchunk s.numbers) (sym c.as_slice-met.ensures.value) c.in_ok-found.ensures in
    let cut = c.in_ok-made.made in
    let out = c.in_ok-made.ensures in
    let low = c.loop-j-test.true in
    let laws = g.met.D.BytesPartialDecoderTraits in
    let inv = c.loop-j.invariant in
    let j = c.loop-j.j in
    let n = get_or met j 0 in
    let k = cut.inside.number in
    let change = c.in-Ok.change in
    let more = c.in_ok-push-in-Ok.ensures.items in
    let old = c.loop-j.changes.items in
    let below : change.number < length s.pairs = let one = cut_below s region cut n refl out met j c.requires.many are low refl in let two = c.in-Ok.ensures.number in omega (arith, one, two) in
    record {
      follows = laws.goes_on _ _ _ inv.follows c.in-Ok.ensures.follows;
      refused = c.in-Ok.ensures.refused ∙ inv.refused;
      below = ap (list_all (is_below (length s.pairs))) more ∙ below_more (length s.pairs) old change inv.below below;
      updated = λ honest of cells valid.
          let exact = g.I.ArrayToBytesCodecTraits.is_function self.inner_codecs in
          let still = subst IsTrue (laws.honest _ _ inv.follows) honest in
          let same = laws.same _ _ inv.follows in
          let kept = subst (λ (o : Option (List ℕ)). IsOf (known_location c.args.shard.known.now) (known_length c.args.shard.known.now) o (pairs_in c.args.shard.known.now) (end_of c.args.shard.known.now)) same of in
          let lengths = c.shape-lengths.ensures in
          let new = subst (λ m. IsValid s.elements.type (payload_of c.args.given.bytes.now) m cells) (numbers_many s.shape region c.args.given.region.now.same ∙ ap product (sym lengths)) valid in
          let whole = cut_whole s region cut n refl out cells valid.is.many (cut_below s region cut n refl out met j c.requires.many are low refl) in
          let found = c.in-Ok.ensures.change still kept cells (group_at s k) new (cut_group s region cut n refl out c.shape-lengths.result.now lengths) in
          let is = cut_before s region cut n refl out exact _ _ cells (Ok change) same found in
          let next = box_updated s exact cells met (changes_of old) (change_of change) j k whole low (sym out.number) (inv.updated honest of cells valid) is in
          subst (λ cs. BoxUpdated s exact cells met cs (j + 1)) (sym (ap changes_of more ∙ map-append change_of old (change ∷ []))) next;
      given = λ honest.
          let can = askable s (g.X.ArrayToBytesCodecTraits.meaning self.index_codecs) (location_of self.index_location) c.requires.fit c.requires.many (regions.asked_places s.shape (in_box region) c.requires.inside) in
          let count = g.D.BytesPartialDecoderTraits.given_bytes in
          let next = cut_given s region cut n refl out (total_of c.args.shard) met (count c.args.source.now) (count c.loop-j.source) (count c.update_cut.new.source) j can are low refl (inv.given honest) (c.in-Ok.ensures.given (subst IsTrue (laws.honest _ _ inv.follows) honest)) in
          next;
    }

pub returns-in-Err-clause-changes : goal.returns-in-Err-clause-changes
returns-in-Err-clause-changes g c = λ honest of cells valid.
    let self = c.args.self.now in
    let region = region_of c.args.given.region.now in
    let s = box_asked (g.I.ArrayToBytesCodecTraits.meaning self.inner_codecs) (elements_of c.args.shard.elements.now) c.args.given.shape.now self.subchunk_shape (unwrap_or (g.D.BytesPartialDecoderTraits.contents c.args.source.now) []) (pairs_in c.args.shard.known.now) (region_of c.args.given.region.now) in
    let met = c.as_slice-met.result.now in
    let are = subst (AreMet s.shape s.subchunk s.numbers) (sym c.as_slice-met.ensures.value) c.in_ok-found.ensures in
    let cut = c.in_ok-made.made in
    let out = c.in_ok-made.ensures in
    let low = c.loop-j-test.true in
    let laws = g.met.D.BytesPartialDecoderTraits in
    let inv = c.loop-j.invariant in
    let j = c.loop-j.j in
    let n = get_or met j 0 in
    let k = cut.inside.number in
    let exact = g.I.ArrayToBytesCodecTraits.is_function self.inner_codecs in
    let still = subst IsTrue (laws.honest _ _ inv.follows) honest in
    let same = laws.same _ _ inv.follows in
    let kept = subst (λ (o : Option (List ℕ)). IsOf (known_location c.args.shard.known.now) (known_length c.args.shard.known.now) o (pairs_in c.args.shard.known.now) (end_of c.args.shard.known.now)) same of in
    let lengths = c.shape-lengths.ensures in
    let new = subst (λ m. IsValid s.elements.type (payload_of c.args.given.bytes.now) m cells) (numbers_many s.shape region c.args.given.region.now.same ∙ ap product (sym lengths)) valid in
    let whole = cut_whole s region cut n refl out cells valid.is.many (cut_below s region cut n refl out met j c.requires.many are low refl) in
    let found = c.in-Err.ensures.change still kept cells (group_at s k) new (cut_group s region cut n refl out c.shape-lengths.result.now lengths) in
    let is = cut_before s region cut n refl out exact _ _ cells (Err c.in-Err.error) same found in
    part_unwritten s exact cells k (group_at s k) whole c.in-Err.error is

pub returns-in-Err-clause-given : goal.returns-in-Err-clause-given
returns-in-Err-clause-given g c = λ honest.
    let self = c.args.self.now in
    let region = region_of c.args.given.region.now in
    let s = box_asked (g.I.ArrayToBytesCodecTraits.meaning self.inner_codecs) (elements_of c.args.shard.elements.now) c.args.given.shape.now self.subchunk_shape (unwrap_or (g.D.BytesPartialDecoderTraits.contents c.args.source.now) []) (pairs_in c.args.shard.known.now) (region_of c.args.given.region.now) in
    let met = c.as_slice-met.result.now in
    let are = subst (AreMet s.shape s.subchunk s.numbers) (sym c.as_slice-met.ensures.value) c.in_ok-found.ensures in
    let cut = c.in_ok-made.made in
    let out = c.in_ok-made.ensures in
    let low = c.loop-j-test.true in
    let laws = g.met.D.BytesPartialDecoderTraits in
    let inv = c.loop-j.invariant in
    let j = c.loop-j.j in
    let n = get_or met j 0 in
    let k = cut.inside.number in
    let can = askable s (g.X.ArrayToBytesCodecTraits.meaning self.index_codecs) (location_of self.index_location) c.requires.fit c.requires.many (regions.asked_places s.shape (in_box region) c.requires.inside) in
    let count = g.D.BytesPartialDecoderTraits.given_bytes in
    let next = cut_given s region cut n refl out (total_of c.args.shard) met (count c.args.source.now) (count c.loop-j.source) (count c.update_cut.new.source) j can are low refl (inv.given honest) (c.in-Err.ensures.given (subst IsTrue (laws.honest _ _ inv.follows) honest)) in
    given_done s (total_of c.args.shard) met (count c.args.source.now) (count c.update_cut.new.source) (j + 1) next

pub returns-in_err-push-in-Ok-clause-given : goal.returns-in_err-push-in-Ok-clause-given
returns-in_err-push-in-Ok-clause-given g c = λ honest.
    let self = c.args.self.now in
    let region = region_of c.args.given.region.now in
    let s = box_asked (g.I.ArrayToBytesCodecTraits.meaning self.inner_codecs) (elements_of c.args.shard.elements.now) c.args.given.shape.now self.subchunk_shape (unwrap_or (g.D.BytesPartialDecoderTraits.contents c.args.source.now) []) (pairs_in c.args.shard.known.now) (region_of c.args.given.region.now) in
    let met = c.as_slice-met.result.now in
    let are = subst (AreMet s.shape s.subchunk s.numbers) (sym c.as_slice-met.ensures.value) c.in_ok-found.ensures in
    let cut = c.in_ok-made.made in
    let out = c.in_ok-made.ensures in
    let low = c.loop-j-test.true in
    let laws = g.met.D.BytesPartialDecoderTraits in
    let inv = c.loop-j.invariant in
    let j = c.loop-j.j in
    let n = get_or met j 0 in
    let k = cut.inside.number in
    let can = askable s (g.X.ArrayToBytesCodecTraits.meaning self.index_codecs) (location_of self.index_location) c.requires.fit c.requires.many (regions.asked_places s.shape (in_box region) c.requires.inside) in
    let count = g.D.BytesPartialDecoderTraits.given_bytes in
    let next = cut_given s region cut n refl out (total_of c.args.shard) met (count c.args.source.now) (count c.loop-j.source) (count c.update_cut.new.source) j can are low refl (inv.given honest) (c.in-Ok.ensures.given (subst IsTrue (laws.honest _ _ inv.follows) honest)) in
    given_done s (total_of c.args.shard) met (count c.args.source.now) (count c.update_cut.new.source) (j + 1) next

pub returns-in-Err-clause-follows : goal.returns-in-Err-clause-follows
returns-in-Err-clause-follows g c = g.met.D.BytesPartialDecoderTraits.goes_on _ _ _ c.loop-j.invariant.follows c.in-Err.ensures.follows

pub returns-in_err-push-in-Ok-clause-follows : goal.returns-in_err-push-in-Ok-clause-follows
returns-in_err-push-in-Ok-clause-follows g c =
    g.met.D.BytesPartialDecoderTraits.goes_on _ _ _ c.loop-j.invariant.follows c.in-Ok.ensures.follows

pub returns-in_err-made-clause-given : goal.returns-in_err-made-clause-given
returns-in_err-made-clause-given g c = λ honest.
    let self = c.args.self.now in
    let region = region_of c.args.given.region.now in
    let s = box_asked (g.I.ArrayToBytesCodecTraits.meaning self.inner_codecs) (elements_of c.args.shard.elements.now) c.args.given.shape.now self.subchunk_shape (unwrap_or (g.D.BytesPartialDecoderTraits.contents c.args.source.now) []) (pairs_in c.args.shard.known.now) (region_of c.args.given.region.now) in
    let count = g.D.BytesPartialDecoderTraits.given_bytes in
    given_done s (total_of c.args.shard) c.as_slice-met.result.now (count c.args.source.now) (count c.loop-j.source) c.loop-j.j (c.loop-j.invariant.given honest)

pub returns-clause-given : goal.returns-clause-given
returns-clause-given g c = λ honest.
    let self = c.args.self.now in
    let region = region_of c.args.given.region.now in
    let s = box_asked (g.I.ArrayToBytesCodecTraits.meaning self.inner_codecs) (elements_of c.args.shard.elements.now) c.args.given.shape.now self.subchunk_shape (unwrap_or (g.D.BytesPartialDecoderTraits.contents c.args.source.now) []) (pairs_in c.args.shard.known.now) (region_of c.args.given.region.now) in
    let count = g.D.BytesPartialDecoderTraits.given_bytes in
    given_done s (total_of c.args.shard) c.as_slice-met.result.now (count c.args.source.now) (count c.loop-j.source) c.loop-j.j (c.loop-j.invariant.given honest)

pub returns-clause-changes : goal.returns-clause-changes
returns-clause-changes g c = λ honest of cells valid.
    let self = c.args.self.now in
    let region = region_of c.args.given.region.now in
    let s = box_asked (g.I.ArrayToBytesCodecTraits.meaning self.inner_codecs) (elements_of c.args.shard.elements.now) c.args.given.shape.now self.subchunk_shape (unwrap_or (g.D.BytesPartialDecoderTraits.contents c.args.source.now) []) (pairs_in c.args.shard.known.now) (region_of c.args.given.region.now) in
    let met = c.as_slice-met.result.now in
    let are = subst (AreMet s.shape s.subchunk s.numbers) (sym c.as_slice-met.ensures.value) c.in_ok-found.ensures in
    let inv = c.loop-j.invariant in
    let past = c.loop-j-test.false in
    all_updated s (g.I.ArrayToBytesCodecTraits.is_function self.inner_codecs) cells met (changes_of c.loop-j.changes.items) c.loop-j.j are (omega (arith, past)) (inv.updated honest of cells valid)
