use Rattle.std.proofs.Common.{◌∙◌, [], ap, sym, Option, IfSome, subst, arith, unwrap_or}
use Rattle.zarr_codecs_arrays.specs.Views.{elements_of}
use Rattle.zarr_codecs_meaning.specs.Fits.{fits}
use Rattle.zarr_codecs_meaning.specs.Places.{place_numbers}
use Rattle.zarr_codecs_meaning.proofs.Fitting.{fitted}
use Rattle.zarr_codecs_regions.proofs.AskedPlaces as regions
use Rattle.zarr_codecs_traits.specs.Indexers.{in_box, numbers_of}
use Rattle.zarr_grids_boxes.specs.Boxes.{product}
use Rattle.zarr_grids_boxes.specs.Subsets.{region_of}
use Rattle.zarr_sharding_index.specs.Present.{all_pairs}
use Rattle.zarr_sharding_index.specs.Views.{location_of}
use Rattle.zarr_sharding_codec.specs.BoxReading.{IsBoxInside}
use Rattle.zarr_sharding_codec.specs.declared.box_reading.BoxInside.{BoxInside}
use Rattle.zarr_sharding_codec.proofs.BoxInSubchunk.{inside_given, inside_read, numbers_many}
use Rattle.zarr_sharding_codec.proofs.GroupsRead.{AskedShard}
use Rattle.zarr_sharding_codec.proofs.NumberedParts.{part_fits, part_some}
use Rattle.zarr_sharding_codec.proofs.SoFarRead.{askable}
use Rattle.zarr_sharding_codec.proofs.WholeBox.{whole_lies, whole_some}
use Rattle.zarr_sharding_codec.proofs.codec.ShardingCodec.read_box.Goals as goal

pub subchunk_of_box-requires-clause-cuts : goal.subchunk_of_box-requires-clause-cuts
subchunk_of_box-requires-clause-cuts g c =
    let self = c.args.self.now in
    (fitted self.subchunk_shape (g.I.ArrayToBytesCodecTraits.meaning self.inner_codecs) (g.X.ArrayToBytesCodecTraits.meaning self.index_codecs) (location_of self.index_location) (elements_of c.args.shard.elements.now) c.args.asked.shape.now c.requires.fit).cuts

pub read_whole-requires-clause-fit : goal.read_whole-requires-clause-fit
read_whole-requires-clause-fit g c =
    let self = c.args.self.now in
    let inner = g.I.ArrayToBytesCodecTraits.meaning self.inner_codecs in
    let elements = elements_of c.args.shard.elements.now in
    ap (fits inner elements.type) (c.shape.ensures ∙ c.in-Some.ensures.shape)
    ∙ part_fits self.subchunk_shape inner (g.X.ArrayToBytesCodecTraits.meaning self.index_codecs) (location_of self.index_location) elements c.args.asked.shape.now c.in-Some.number c.requires.fit c.in-Some.ensures.places.below

pub read_whole-requires-clause-pair : goal.read_whole-requires-clause-pair
read_whole-requires-clause-pair g c =
    let below = c.in-Some.ensures.places.below in
    let many = c.requires.many in
    omega (arith, below, many)

pub read_whole-requires-clause-some : goal.read_whole-requires-clause-some
read_whole-requires-clause-some g c =
    let self = c.args.self.now in
    let shape = c.args.asked.shape.now in
    let cuts = (fitted self.subchunk_shape (g.I.ArrayToBytesCodecTraits.meaning self.inner_codecs) (g.X.ArrayToBytesCodecTraits.meaning self.index_codecs) (location_of self.index_location) (elements_of c.args.shard.elements.now) shape c.requires.fit).cuts in
    let some = part_some shape self.subchunk_shape c.in-Some.number cuts c.in-Some.ensures.places.below in
    let size = ap product (c.shape.ensures ∙ c.in-Some.ensures.shape) in
    omega (arith, some, size)

pub returns-in-Some-clause-part : goal.returns-in-Some-clause-part
returns-in-Some-clause-part g c = λ honest told.
    let self = c.args.self.now in
    let shape = c.args.asked.shape.now in
    let asked = region_of c.args.asked.region.now in
    let s : AskedShard = record {
      inner = g.I.ArrayToBytesCodecTraits.meaning self.inner_codecs;
      elements = elements_of c.args.shard.elements.now;
      shape = shape;
      subchunk = self.subchunk_shape;
      value = unwrap_or (g.D.BytesPartialDecoderTraits.contents c.args.source.now) [];
      pairs = all_pairs c.args.shard.pairs.now;
      numbers = numbers_of shape asked;
    } in
    let k = c.in-Some.number in
    let can = askable s (g.X.ArrayToBytesCodecTraits.meaning self.index_codecs) (location_of self.index_location) c.requires.fit c.requires.many (regions.asked_places shape (in_box asked) c.requires.inside) in
    let edges = c.shape.result.now in
    let count = ap product c.shape.ensures ∙ sym (numbers_many shape asked c.args.asked.region.now.same) in
    inside_read s (place_numbers edges) k can (whole_lies s edges k can c.in-Some.ensures.places count) edges c.read_whole.result (c.shape.ensures ∙ c.in-Some.ensures.shape) (c.read_whole.ensures.part honest told)

pub returns-in-Some-clause-given : goal.returns-in-Some-clause-given
returns-in-Some-clause-given g c = λ honest.
    let self = c.args.self.now in
    let shape = c.args.asked.shape.now in
    let asked = region_of c.args.asked.region.now in
    let s : AskedShard = record {
      inner = g.I.ArrayToBytesCodecTraits.meaning self.inner_codecs;
      elements = elements_of c.args.shard.elements.now;
      shape = shape;
      subchunk = self.subchunk_shape;
      value = [];
      pairs = all_pairs c.args.shard.pairs.now;
      numbers = numbers_of shape asked;
    } in
    let k = c.in-Some.number in
    let can = askable s (g.X.ArrayToBytesCodecTraits.meaning self.index_codecs) (location_of self.index_location) c.requires.fit c.requires.many (regions.asked_places shape (in_box asked) c.requires.inside) in
    let count = g.D.BytesPartialDecoderTraits.given_bytes in
    let edges = c.shape.result.now in
    let long = ap product c.shape.ensures ∙ sym (numbers_many shape asked c.args.asked.region.now.same) in
    inside_given s (place_numbers edges) k can (whole_lies s edges k can c.in-Some.ensures.places long) c.args.shard.total (count c.args.source.now) (count c.read_whole.new.source) (whole_some s k can c.in-Some.ensures.places) (c.read_whole.ensures.given honest)

pub subchunk_around-requires-clause-cuts : goal.subchunk_around-requires-clause-cuts
subchunk_around-requires-clause-cuts g c =
    let self = c.args.self.now in
    (fitted self.subchunk_shape (g.I.ArrayToBytesCodecTraits.meaning self.inner_codecs) (g.X.ArrayToBytesCodecTraits.meaning self.index_codecs) (location_of self.index_location) (elements_of c.args.shard.elements.now) c.args.asked.shape.now c.requires.fit).cuts

pub read_inside-requires-clause-fit : goal.read_inside-requires-clause-fit
read_inside-requires-clause-fit g c =
    let self = c.args.self.now in
    let inner = g.I.ArrayToBytesCodecTraits.meaning self.inner_codecs in
    let elements = elements_of c.args.shard.elements.now in
    let shape = c.args.asked.shape.now in
    let is = subst (λ (o : Option BoxInside). IfSome o (IsBoxInside shape self.subchunk_shape (numbers_of shape (region_of c.args.asked.region.now)))) c.in-Some-2.is c.in_ok-found.ensures in
    ap (fits inner elements.type) is.edges ∙ part_fits self.subchunk_shape inner (g.X.ArrayToBytesCodecTraits.meaning self.index_codecs) (location_of self.index_location) elements shape c.in-Some-2.found.number c.requires.fit is.lie.below

pub read_inside-requires-clause-pair : goal.read_inside-requires-clause-pair
read_inside-requires-clause-pair g c =
    let self = c.args.self.now in
    let shape = c.args.asked.shape.now in
    let is = subst (λ (o : Option BoxInside). IfSome o (IsBoxInside shape self.subchunk_shape (numbers_of shape (region_of c.args.asked.region.now)))) c.in-Some-2.is c.in_ok-found.ensures in
    let below = is.lie.below in
    let many = c.requires.many in
    omega (arith, below, many)

pub read_inside-requires-clause-inside : goal.read_inside-requires-clause-inside
read_inside-requires-clause-inside g c =
    let self = c.args.self.now in
    let shape = c.args.asked.shape.now in
    (subst (λ (o : Option BoxInside). IfSome o (IsBoxInside shape self.subchunk_shape (numbers_of shape (region_of c.args.asked.region.now)))) c.in-Some-2.is c.in_ok-found.ensures).inside

pub read_inside-requires-clause-some : goal.read_inside-requires-clause-some
read_inside-requires-clause-some g c =
    let self = c.args.self.now in
    let shape = c.args.asked.shape.now in
    (subst (λ (o : Option BoxInside). IfSome o (IsBoxInside shape self.subchunk_shape (numbers_of shape (region_of c.args.asked.region.now)))) c.in-Some-2.is c.in_ok-found.ensures).some

pub returns-in-Some-2-clause-part : goal.returns-in-Some-2-clause-part
returns-in-Some-2-clause-part g c = λ honest told.
    let self = c.args.self.now in
    let shape = c.args.asked.shape.now in
    let asked = region_of c.args.asked.region.now in
    let found = c.in-Some-2.found in
    let is = subst (λ (o : Option BoxInside). IfSome o (IsBoxInside shape self.subchunk_shape (numbers_of shape asked))) c.in-Some-2.is c.in_ok-found.ensures in
    let s : AskedShard = record {
      inner = g.I.ArrayToBytesCodecTraits.meaning self.inner_codecs;
      elements = elements_of c.args.shard.elements.now;
      shape = shape;
      subchunk = self.subchunk_shape;
      value = unwrap_or (g.D.BytesPartialDecoderTraits.contents c.args.source.now) [];
      pairs = all_pairs c.args.shard.pairs.now;
      numbers = numbers_of shape asked;
    } in
    let can = askable s (g.X.ArrayToBytesCodecTraits.meaning self.index_codecs) (location_of self.index_location) c.requires.fit c.requires.many (regions.asked_places shape (in_box asked) c.requires.inside) in
    inside_read s (numbers_of found.shape.items (region_of found.region)) found.number can is.lie found.shape.items c.read_inside.result is.edges (c.read_inside.ensures.part honest told)

pub returns-in-Some-2-clause-given : goal.returns-in-Some-2-clause-given
returns-in-Some-2-clause-given g c = λ honest.
    let self = c.args.self.now in
    let shape = c.args.asked.shape.now in
    let asked = region_of c.args.asked.region.now in
    let found = c.in-Some-2.found in
    let is = subst (λ (o : Option BoxInside). IfSome o (IsBoxInside shape self.subchunk_shape (numbers_of shape asked))) c.in-Some-2.is c.in_ok-found.ensures in
    let s : AskedShard = record {
      inner = g.I.ArrayToBytesCodecTraits.meaning self.inner_codecs;
      elements = elements_of c.args.shard.elements.now;
      shape = shape;
      subchunk = self.subchunk_shape;
      value = [];
      pairs = all_pairs c.args.shard.pairs.now;
      numbers = numbers_of shape asked;
    } in
    let can = askable s (g.X.ArrayToBytesCodecTraits.meaning self.index_codecs) (location_of self.index_location) c.requires.fit c.requires.many (regions.asked_places shape (in_box asked) c.requires.inside) in
    let count = g.D.BytesPartialDecoderTraits.given_bytes in
    let some = is.some in
    let many = is.lie.many in
    let all = numbers_many found.shape.items (region_of found.region) found.region.same in
    inside_given s (numbers_of found.shape.items (region_of found.region)) found.number can is.lie c.args.shard.total (count c.args.source.now) (count c.read_inside.new.source) (omega (arith, some, many, all)) (c.read_inside.ensures.given honest)
