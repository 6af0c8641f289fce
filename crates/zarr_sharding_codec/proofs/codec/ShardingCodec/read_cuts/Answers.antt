use Rattle.std.proofs.Common.{◌≡◌, ◌∙◌, ◌+◌, IsTrue, Option, List, ℕ, [], Ok, Err, ap, sym, refl, subst, arith, length, replicate, unwrap_or}
use Rattle.zarr_codecs_arrays.specs.Views.{elements_of}
use Rattle.zarr_codecs_meaning.specs.Fits.{fits}
use Rattle.zarr_codecs_meaning.specs.Types.{IsTooLarge}
use Rattle.zarr_codecs_meaning.proofs.Fitting.{fitted}
use Rattle.zarr_codecs_regions.proofs.AskedPlaces as regions
use Rattle.zarr_codecs_regions.proofs.FillValues.{larger_too}
use Rattle.zarr_codecs_regions.specs.Updates.{put}
use Rattle.zarr_codecs_traits.specs.Indexers.{in_box, numbers_of}
use Rattle.zarr_codecs_traits.specs.Sources.{refused_after}
use Rattle.zarr_grids_boxes.specs.Boxes.{product}
use Rattle.zarr_grids_boxes.specs.Subsets.{region_of}
use Rattle.zarr_sharding_index.specs.Present.{all_pairs}
use Rattle.zarr_sharding_index.specs.Views.{location_of}
use Rattle.zarr_sharding_places.specs.Boxed.{ShowsBoxes}
use Rattle.zarr_sharding_places.specs.Locating.{part_shape}
use Rattle.zarr_sharding_codec.specs.BoxReading.{AreMet, StandIn, cut_places}
use Rattle.zarr_sharding_codec.specs.Reading.{IsTotalOf}
use Rattle.zarr_sharding_codec.proofs.BoxInSubchunk.{numbers_many}
use Rattle.zarr_sharding_codec.proofs.BoxRead.{box_before, box_begun, box_done, box_more, box_unread, given_begun, given_done, given_next}
use Rattle.zarr_sharding_codec.proofs.GroupsRead.{AskedShard}
use Rattle.zarr_sharding_codec.proofs.NumberedParts.{part_fits}
use Rattle.zarr_sharding_codec.proofs.SoFarRead.{askable}
use Rattle.zarr_sharding_codec.proofs.StoredLoop.{rank_fits}
use Rattle.zarr_sharding_codec.proofs.codec.ShardingCodec.read_cuts.Goals as goal

pub subchunks_met-requires-clause-cuts : goal.subchunks_met-requires-clause-cuts
subchunks_met-requires-clause-cuts g c =
    let self = c.args.self.now in
    (fitted self.subchunk_shape (g.I.ArrayToBytesCodecTraits.meaning self.inner_codecs) (g.X.ArrayToBytesCodecTraits.meaning self.index_codecs) (location_of self.index_location) (elements_of c.args.shard.elements.now) c.args.asked.shape.now c.requires.fit).cuts

pub subchunks_met-requires-clause-rank : goal.subchunks_met-requires-clause-rank
subchunks_met-requires-clause-rank g c =
    let self = c.args.self.now in
    rank_fits self.subchunk_shape (g.I.ArrayToBytesCodecTraits.meaning self.inner_codecs) (g.X.ArrayToBytesCodecTraits.meaning self.index_codecs) (location_of self.index_location) (elements_of c.args.shard.elements.now) c.args.asked.shape.now c.requires.fit

pub cut_at-requires-clause-cuts : goal.cut_at-requires-clause-cuts
cut_at-requires-clause-cuts g c =
    let self = c.args.self.now in
    (fitted self.subchunk_shape (g.I.ArrayToBytesCodecTraits.meaning self.inner_codecs) (g.X.ArrayToBytesCodecTraits.meaning self.index_codecs) (location_of self.index_location) (elements_of c.args.shard.elements.now) c.args.asked.shape.now c.requires.fit).cuts

pub cut_at-requires-clause-rank : goal.cut_at-requires-clause-rank
cut_at-requires-clause-rank g c =
    let self = c.args.self.now in
    rank_fits self.subchunk_shape (g.I.ArrayToBytesCodecTraits.meaning self.inner_codecs) (g.X.ArrayToBytesCodecTraits.meaning self.index_codecs) (location_of self.index_location) (elements_of c.args.shard.elements.now) c.args.asked.shape.now c.requires.fit

pub cut_at-requires-clause-below : goal.cut_at-requires-clause-below
cut_at-requires-clause-below g c =
    let are = subst (λ (ns : List ℕ). AreMet c.args.asked.shape.now c.args.self.now.subchunk_shape (numbers_of c.args.asked.shape.now (region_of c.args.asked.region.now)) ns) (sym c.as_slice-met.ensures.value) c.in_ok-found.ensures in
    are.below c.loop-j.j c.loop-j-test.true

pub read_inside-requires-clause-fit : goal.read_inside-requires-clause-fit
read_inside-requires-clause-fit g c =
    let self = c.args.self.now in
    let inner = g.I.ArrayToBytesCodecTraits.meaning self.inner_codecs in
    let elements = elements_of c.args.shard.elements.now in
    let are = subst (λ (ns : List ℕ). AreMet c.args.asked.shape.now c.args.self.now.subchunk_shape (numbers_of c.args.asked.shape.now (region_of c.args.asked.region.now)) ns) (sym c.as_slice-met.ensures.value) c.in_ok-found.ensures in
    ap (fits inner elements.type) c.in_ok-cut.ensures.edges
    ∙ part_fits self.subchunk_shape inner (g.X.ArrayToBytesCodecTraits.meaning self.index_codecs) (location_of self.index_location) elements c.args.asked.shape.now _ c.requires.fit (are.below c.loop-j.j c.loop-j-test.true)

pub read_inside-requires-clause-pair : goal.read_inside-requires-clause-pair
read_inside-requires-clause-pair g c =
    let are = subst (λ (ns : List ℕ). AreMet c.args.asked.shape.now c.args.self.now.subchunk_shape (numbers_of c.args.asked.shape.now (region_of c.args.asked.region.now)) ns) (sym c.as_slice-met.ensures.value) c.in_ok-found.ensures in
    let below = are.below c.loop-j.j c.loop-j-test.true in
    let many = c.requires.many in
    let number = c.in_ok-cut.ensures.number in
    omega (arith, below, many, number)

pub read_inside-requires-clause-inside : goal.read_inside-requires-clause-inside
read_inside-requires-clause-inside g c = c.in_ok-cut.ensures.inside

pub read_inside-requires-clause-some : goal.read_inside-requires-clause-some
read_inside-requires-clause-some g c = c.in_ok-cut.ensures.some

pub loop-j-init : goal.loop-j-init
loop-j-init g c =
    let self = c.args.self.now in
    let region = region_of c.args.asked.region.now in
    record {
      follows = g.met.D.BytesPartialDecoderTraits.stays c.args.source.now;
      refused = refl;
      read = λ honest told.
          let s : AskedShard = record {
            inner = g.I.ArrayToBytesCodecTraits.meaning self.inner_codecs;
            elements = elements_of c.args.shard.elements.now;
            shape = c.args.asked.shape.now;
            subchunk = self.subchunk_shape;
            value = unwrap_or (g.D.BytesPartialDecoderTraits.contents c.args.source.now) [];
            pairs = all_pairs c.args.shard.pairs.now;
            numbers = numbers_of c.args.asked.shape.now region;
          } in
          let count : c.in-Some.count ≡ length s.numbers = c.in-Some.ensures.some ∙ (ap product c.shape-lengths.ensures ∙ sym (numbers_many s.shape region c.args.asked.region.now.same)) in
          box_begun s c.as_slice-met.result.now c.in_ok-filled.filled (subst (λ n. ShowsBoxes s.elements c.in_ok-filled.filled (replicate n s.elements.fill)) count c.in_ok-filled.ensures);
      given = λ honest.
          let s : AskedShard = record {
            inner = g.I.ArrayToBytesCodecTraits.meaning self.inner_codecs;
            elements = elements_of c.args.shard.elements.now;
            shape = c.args.asked.shape.now;
            subchunk = self.subchunk_shape;
            value = [];
            pairs = all_pairs c.args.shard.pairs.now;
            numbers = numbers_of c.args.asked.shape.now region;
          } in
          given_begun s c.args.shard.total c.as_slice-met.result.now (g.D.BytesPartialDecoderTraits.given_bytes c.args.source.now);
    }

pub loop-j-preserved : goal.loop-j-preserved
loop-j-preserved g c =
    let self = c.args.self.now in
    let region = region_of c.args.asked.region.now in
    let laws = g.met.D.BytesPartialDecoderTraits in
    let inv = c.loop-j.invariant in
    let cut = c.in_ok-cut.cut in
    let out = c.in_ok-cut.ensures in
    let met = c.as_slice-met.result.now in
    let are = subst (λ (ns : List ℕ). AreMet c.args.asked.shape.now c.args.self.now.subchunk_shape (numbers_of c.args.asked.shape.now (region_of c.args.asked.region.now)) ns) (sym c.as_slice-met.ensures.value) c.in_ok-found.ensures in
    let j = c.loop-j.j in
    let k = cut.inside.number in
    let positions = numbers_of region.shape (region_of cut.target) in
    let edges = cut.inside.shape.items in
    let insides = numbers_of edges (region_of cut.inside.region) in
    record {
      follows = laws.goes_on _ _ _ inv.follows c.in-Ok.ensures.follows;
      refused = c.in-Ok.ensures.refused ∙ inv.refused;
      read = λ honest told.
          let s : AskedShard = record {
            inner = g.I.ArrayToBytesCodecTraits.meaning self.inner_codecs;
            elements = elements_of c.args.shard.elements.now;
            shape = c.args.asked.shape.now;
            subchunk = self.subchunk_shape;
            value = unwrap_or (g.D.BytesPartialDecoderTraits.contents c.args.source.now) [];
            pairs = all_pairs c.args.shard.pairs.now;
            numbers = numbers_of c.args.asked.shape.now region;
          } in
          let can = askable s (g.X.ArrayToBytesCodecTraits.meaning self.index_codecs) (location_of self.index_location) c.requires.fit c.requires.many (regions.asked_places s.shape (in_box region) c.requires.inside) in
          let stand = subst (λ n. StandIn (cut_places s.shape s.subchunk s.numbers) positions insides n) (sym out.number) out.stand in
          let still = subst IsTrue (laws.honest _ _ inv.follows) honest in
          let same = laws.same _ _ inv.follows in
          let is = out.edges ∙ ap (part_shape s.shape s.subchunk) (sym out.number) in
          let found = box_before s (g.D.BytesPartialDecoderTraits.contents c.args.source.now) (g.D.BytesPartialDecoderTraits.contents c.loop-j.source) edges k insides (Ok c.in-Ok.piece) same is
          (c.in-Ok.ensures.part still (subst (λ (o : Option (List ℕ)). IsTotalOf o s.pairs c.args.shard.total) same told)) in
          let long = numbers_many region.shape (region_of cut.target) cut.target.same in
          box_more s positions insides k can stand met c.loop-j.all c.in_ok-all-in-Ok.all j found.cells (sym out.number) (inv.read honest told) found.is
          (λ cells shows many. subst (λ (l : List ℕ). ShowsBoxes s.elements c.in_ok-all-in-Ok.all (put (numbers_of l (region_of cut.target)) found.cells cells)) c.shape-lengths.ensures (c.in_ok-all-in-Ok.ensures cells found.cells shows found.lists (many ∙ long)));
      given = λ honest.
          let s : AskedShard = record {
            inner = g.I.ArrayToBytesCodecTraits.meaning self.inner_codecs;
            elements = elements_of c.args.shard.elements.now;
            shape = c.args.asked.shape.now;
            subchunk = self.subchunk_shape;
            value = [];
            pairs = all_pairs c.args.shard.pairs.now;
            numbers = numbers_of c.args.asked.shape.now region;
          } in
          let can = askable s (g.X.ArrayToBytesCodecTraits.meaning self.index_codecs) (location_of self.index_location) c.requires.fit c.requires.many (regions.asked_places s.shape (in_box region) c.requires.inside) in
          let stand = subst (λ n. StandIn (cut_places s.shape s.subchunk s.numbers) positions insides n) (sym out.number) out.stand in
          let count = g.D.BytesPartialDecoderTraits.given_bytes in
          let some = out.some in
          let size = numbers_many edges (region_of cut.inside.region) cut.inside.region.same in
          let many = stand.many in
          given_next s c.args.shard.total met positions insides k (count c.args.source.now) (count c.loop-j.source) (count c.read_inside.new.source) j can are stand (omega (arith, some, size, many)) c.loop-j-test.true (sym out.number) (inv.given honest)
          (c.in-Ok.ensures.given (subst IsTrue (laws.honest _ _ inv.follows) honest));
    }

pub returns-in-Err : goal.returns-in-Err
returns-in-Err g c =
    let self = c.args.self.now in
    let region = region_of c.args.asked.region.now in
    let laws = g.met.D.BytesPartialDecoderTraits in
    let inv = c.loop-j.invariant in
    let cut = c.in_ok-cut.cut in
    let out = c.in_ok-cut.ensures in
    let met = c.as_slice-met.result.now in
    let j = c.loop-j.j in
    let k = cut.inside.number in
    let e = c.in-Err.error in
    let positions = numbers_of region.shape (region_of cut.target) in
    let edges = cut.inside.shape.items in
    let insides = numbers_of edges (region_of cut.inside.region) in
    let are = subst (λ (ns : List ℕ). AreMet c.args.asked.shape.now c.args.self.now.subchunk_shape (numbers_of c.args.asked.shape.now (region_of c.args.asked.region.now)) ns) (sym c.as_slice-met.ensures.value) c.in_ok-found.ensures in
    record {
      part = λ honest told.
          let s : AskedShard = record {
            inner = g.I.ArrayToBytesCodecTraits.meaning self.inner_codecs;
            elements = elements_of c.args.shard.elements.now;
            shape = c.args.asked.shape.now;
            subchunk = self.subchunk_shape;
            value = unwrap_or (g.D.BytesPartialDecoderTraits.contents c.args.source.now) [];
            pairs = all_pairs c.args.shard.pairs.now;
            numbers = numbers_of c.args.asked.shape.now region;
          } in
          let can = askable s (g.X.ArrayToBytesCodecTraits.meaning self.index_codecs) (location_of self.index_location) c.requires.fit c.requires.many (regions.asked_places s.shape (in_box region) c.requires.inside) in
          let stand = subst (λ n. StandIn (cut_places s.shape s.subchunk s.numbers) positions insides n) (sym out.number) out.stand in
          let still = subst IsTrue (laws.honest _ _ inv.follows) honest in
          let same = laws.same _ _ inv.follows in
          let is = out.edges ∙ ap (part_shape s.shape s.subchunk) (sym out.number) in
          box_unread s positions insides k can stand e
          (box_before s (g.D.BytesPartialDecoderTraits.contents c.args.source.now) (g.D.BytesPartialDecoderTraits.contents c.loop-j.source) edges k insides (Err e) same is (c.in-Err.ensures.part still (subst (λ (o : Option (List ℕ)). IsTotalOf o s.pairs c.args.shard.total) same told)));
      refused = c.in-Err.ensures.refused ∙ ap (λ n. refused_after {A = List ℕ} n (Err e)) inv.refused;
      given = λ honest.
          let s : AskedShard = record {
            inner = g.I.ArrayToBytesCodecTraits.meaning self.inner_codecs;
            elements = elements_of c.args.shard.elements.now;
            shape = c.args.asked.shape.now;
            subchunk = self.subchunk_shape;
            value = [];
            pairs = all_pairs c.args.shard.pairs.now;
            numbers = numbers_of c.args.asked.shape.now region;
          } in
          let can = askable s (g.X.ArrayToBytesCodecTraits.meaning self.index_codecs) (location_of self.index_location) c.requires.fit c.requires.many (regions.asked_places s.shape (in_box region) c.requires.inside) in
          let stand = subst (λ n. StandIn (cut_places s.shape s.subchunk s.numbers) positions insides n) (sym out.number) out.stand in
          let count = g.D.BytesPartialDecoderTraits.given_bytes in
          let some = out.some in
          let size = numbers_many edges (region_of cut.inside.region) cut.inside.region.same in
          let many = stand.many in
          given_done s c.args.shard.total met (count c.args.source.now) (count c.read_inside.new.source) (j + 1)
          (given_next s c.args.shard.total met positions insides k (count c.args.source.now) (count c.loop-j.source) (count c.read_inside.new.source) j can are stand (omega (arith, some, size, many)) c.loop-j-test.true (sym out.number) (inv.given honest)
          (c.in-Err.ensures.given (subst IsTrue (laws.honest _ _ inv.follows) honest)));
      follows = laws.goes_on _ _ _ inv.follows c.in-Err.ensures.follows;
    }

pub returns : goal.returns
returns g c =
    let are = subst (λ (ns : List ℕ). AreMet c.args.asked.shape.now c.args.self.now.subchunk_shape (numbers_of c.args.asked.shape.now (region_of c.args.asked.region.now)) ns) (sym c.as_slice-met.ensures.value) c.in_ok-found.ensures in
    let self = c.args.self.now in
    let region = region_of c.args.asked.region.now in
    let inv = c.loop-j.invariant in
    let met = c.as_slice-met.result.now in
    record {
      part = λ honest told.
          let s : AskedShard = record {
            inner = g.I.ArrayToBytesCodecTraits.meaning self.inner_codecs;
            elements = elements_of c.args.shard.elements.now;
            shape = c.args.asked.shape.now;
            subchunk = self.subchunk_shape;
            value = unwrap_or (g.D.BytesPartialDecoderTraits.contents c.args.source.now) [];
            pairs = all_pairs c.args.shard.pairs.now;
            numbers = numbers_of c.args.asked.shape.now region;
          } in
          let so_far = inv.read honest told in
          let past = c.loop-j-test.false in
          record {
            cells = so_far.cells;
            is = box_done s met c.loop-j.all c.loop-j.j are (omega (arith, past)) so_far;
            lists = c.in_ok-into_bytes.ensures so_far.cells so_far.shows;
          };
      refused = inv.refused;
      given = λ honest.
          let s : AskedShard = record {
            inner = g.I.ArrayToBytesCodecTraits.meaning self.inner_codecs;
            elements = elements_of c.args.shard.elements.now;
            shape = c.args.asked.shape.now;
            subchunk = self.subchunk_shape;
            value = [];
            pairs = all_pairs c.args.shard.pairs.now;
            numbers = numbers_of c.args.asked.shape.now region;
          } in
          given_done s c.args.shard.total met (g.D.BytesPartialDecoderTraits.given_bytes c.args.source.now) (g.D.BytesPartialDecoderTraits.given_bytes c.loop-j.source) c.loop-j.j (inv.given honest);
      follows = inv.follows;
    }

pub returns-in_default-clause-part : goal.returns-in_default-clause-part
returns-in_default-clause-part g c = λ honest told.
    let type = (elements_of c.args.shard.elements.now).type in
    larger_too type c.args.asked.shape.now (region_of c.args.asked.region.now) c.args.asked.region.now.same c.requires.inside
    (subst (λ (es : List ℕ). IsTooLarge type (product es)) c.shape-lengths.ensures c.in_default.ensures.none)

pub returns-in_err-cut-clause-given : goal.returns-in_err-cut-clause-given
returns-in_err-cut-clause-given g c = λ honest.
    let self = c.args.self.now in
    let region = region_of c.args.asked.region.now in
    let s : AskedShard = record {
      inner = g.I.ArrayToBytesCodecTraits.meaning self.inner_codecs;
      elements = elements_of c.args.shard.elements.now;
      shape = c.args.asked.shape.now;
      subchunk = self.subchunk_shape;
      value = [];
      pairs = all_pairs c.args.shard.pairs.now;
      numbers = numbers_of c.args.asked.shape.now region;
    } in
    given_done s c.args.shard.total c.as_slice-met.result.now (g.D.BytesPartialDecoderTraits.given_bytes c.args.source.now) (g.D.BytesPartialDecoderTraits.given_bytes c.loop-j.source) c.loop-j.j (c.loop-j.invariant.given honest)

pub returns-in_err-into_bytes-clause-given : goal.returns-in_err-into_bytes-clause-given
returns-in_err-into_bytes-clause-given g c = λ honest.
    let self = c.args.self.now in
    let region = region_of c.args.asked.region.now in
    let s : AskedShard = record {
      inner = g.I.ArrayToBytesCodecTraits.meaning self.inner_codecs;
      elements = elements_of c.args.shard.elements.now;
      shape = c.args.asked.shape.now;
      subchunk = self.subchunk_shape;
      value = [];
      pairs = all_pairs c.args.shard.pairs.now;
      numbers = numbers_of c.args.asked.shape.now region;
    } in
    given_done s c.args.shard.total c.as_slice-met.result.now (g.D.BytesPartialDecoderTraits.given_bytes c.args.source.now) (g.D.BytesPartialDecoderTraits.given_bytes c.loop-j.source) c.loop-j.j (c.loop-j.invariant.given honest)

pub returns-in_err-all-in-Ok-clause-follows : goal.returns-in_err-all-in-Ok-clause-follows
returns-in_err-all-in-Ok-clause-follows g c = g.met.D.BytesPartialDecoderTraits.goes_on _ _ _ c.loop-j.invariant.follows c.in-Ok.ensures.follows

pub returns-in_err-all-in-Ok-clause-given : goal.returns-in_err-all-in-Ok-clause-given
returns-in_err-all-in-Ok-clause-given g c = λ honest.
    let self = c.args.self.now in
    let region = region_of c.args.asked.region.now in
    let laws = g.met.D.BytesPartialDecoderTraits in
    let inv = c.loop-j.invariant in
    let cut = c.in_ok-cut.cut in
    let out = c.in_ok-cut.ensures in
    let met = c.as_slice-met.result.now in
    let are = subst (λ (ns : List ℕ). AreMet c.args.asked.shape.now c.args.self.now.subchunk_shape (numbers_of c.args.asked.shape.now (region_of c.args.asked.region.now)) ns) (sym c.as_slice-met.ensures.value) c.in_ok-found.ensures in
    let j = c.loop-j.j in
    let k = cut.inside.number in
    let positions = numbers_of region.shape (region_of cut.target) in
    let edges = cut.inside.shape.items in
    let insides = numbers_of edges (region_of cut.inside.region) in
    let s : AskedShard = record {
      inner = g.I.ArrayToBytesCodecTraits.meaning self.inner_codecs;
      elements = elements_of c.args.shard.elements.now;
      shape = c.args.asked.shape.now;
      subchunk = self.subchunk_shape;
      value = [];
      pairs = all_pairs c.args.shard.pairs.now;
      numbers = numbers_of c.args.asked.shape.now region;
    } in
    let can = askable s (g.X.ArrayToBytesCodecTraits.meaning self.index_codecs) (location_of self.index_location) c.requires.fit c.requires.many (regions.asked_places s.shape (in_box region) c.requires.inside) in
    let stand = subst (λ n. StandIn (cut_places s.shape s.subchunk s.numbers) positions insides n) (sym out.number) out.stand in
    let count = g.D.BytesPartialDecoderTraits.given_bytes in
    let some = out.some in
    let size = numbers_many edges (region_of cut.inside.region) cut.inside.region.same in
    let many = stand.many in
    given_done s c.args.shard.total met (count c.args.source.now) (count c.read_inside.new.source) (j + 1)
    (given_next s c.args.shard.total met positions insides k (count c.args.source.now) (count c.loop-j.source) (count c.read_inside.new.source) j can are stand (omega (arith, some, size, many)) c.loop-j-test.true (sym out.number) (inv.given honest)
    (c.in-Ok.ensures.given (subst IsTrue (laws.honest _ _ inv.follows) honest)))
