use Rattle.std.proofs.Common.{◌≡◌, ◌∙◌, ◌+◌, ◌≤◌, ℕ, List, [], Option, Err, IfSome, ap, sym, refl, subst, arith, length, true, unwrap_or}
use Rattle.std.specs.List.{list_all}
use Rattle.zarr_codecs_arrays.specs.Outcomes.{IsValid}
use Rattle.zarr_codecs_arrays.specs.Views.{elements_of, payload_of}
use Rattle.zarr_codecs_meaning.specs.Fits.{fits}
use Rattle.zarr_codecs_meaning.proofs.Fitting.{fitted}
use Rattle.zarr_codecs_meaning.proofs.Parts.{length-parts}
use Rattle.zarr_codecs_regions.proofs.AskedPlaces as regions
use Rattle.zarr_codecs_traits.specs.Indexers.{are_inside, asked_of, numbers_asked}
use Rattle.zarr_codecs_traits.specs.declared.indexer.Indexer.{Indexer}
use Rattle.zarr_grids_boxes.specs.Boxes.{product}
use Rattle.zarr_sharding_index.specs.Views.{location_of}
use Rattle.zarr_sharding_places.specs.Locating.{asked_places, part_shape}
use Rattle.zarr_sharding_index.specs.Known.{pairs_in}
use Rattle.zarr_sharding_index.specs.SliceChanges.{change_of, changes_of, is_below}
use Rattle.zarr_sharding_index.specs.declared.slice_changes.SliceChange.{SliceChange}
use Rattle.zarr_sharding_codec.specs.BytesMet.{bytes_met}
use Rattle.zarr_sharding_codec.specs.PartWriting.{AreChanged, AreSubchunk, IsGroupUpdated, PutsAll, UpdatesGroup, UpdatesSlices, given_group, put_at, stored_in}
use Rattle.zarr_sharding_codec.specs.Updating.{total_of}
use Rattle.zarr_sharding_codec.proofs.NumberedParts.{part_fits}
use Rattle.zarr_sharding_codec.proofs.GroupsRead.{AskedShard}
use Rattle.zarr_sharding_codec.proofs.SoFarRead.{askable}
use Rattle.zarr_sharding_codec.proofs.SoFarWritten.{below_more, put_as, stored_as}
use Rattle.zarr_sharding_codec.proofs.StoredLoop.{rank_fits}
use Rattle.zarr_sharding_codec.proofs.WholeSubchunk.{whole_count, whole_given, whole_puts, whole_unwritten, whole_updated}
use Rattle.zarr_sharding_codec.proofs.codec.ShardingCodec.update_asked.Goals as goal

pub whole_subchunk-requires-clause-cuts : goal.whole_subchunk-requires-clause-cuts
whole_subchunk-requires-clause-cuts g c =
    let self = c.args.self.now in
    (fitted self.subchunk_shape (g.I.ArrayToBytesCodecTraits.meaning self.inner_codecs) (g.X.ArrayToBytesCodecTraits.meaning self.index_codecs) (location_of self.index_location) (elements_of c.args.shard.elements.now) c.args.given.shape.now c.requires.fit).cuts

pub replace_subchunk-requires-clause-fit : goal.replace_subchunk-requires-clause-fit
replace_subchunk-requires-clause-fit g c =
    let self = c.args.self.now in
    let shape = c.args.given.shape.now in
    let numbers = numbers_asked shape (asked_of c.args.given.indexer) in
    let n = c.in-Some.subchunk.number in
    let is = c.in-Some.ensures.places in
    let inner = g.I.ArrayToBytesCodecTraits.meaning self.inner_codecs in
    let elements = elements_of c.args.shard.elements.now in
    ap (λ (es : List ℕ). fits inner elements.type es) c.in-Some.ensures.shape
    ∙ part_fits self.subchunk_shape inner (g.X.ArrayToBytesCodecTraits.meaning self.index_codecs) (location_of self.index_location) elements shape n c.requires.fit is.below

pub replace_subchunk-requires-clause-pair : goal.replace_subchunk-requires-clause-pair
replace_subchunk-requires-clause-pair g c =
    let self = c.args.self.now in
    let shape = c.args.given.shape.now in
    let numbers = numbers_asked shape (asked_of c.args.given.indexer) in
    let n = c.in-Some.subchunk.number in
    let is = c.in-Some.ensures.places in
    let below = is.below in
    let many = c.requires.many in
    omega (arith, below, many)

pub update_slices-requires-clause-below : goal.update_slices-requires-clause-below
update_slices-requires-clause-below g c = subst (λ (i : Indexer). are_inside c.args.given.shape.now (asked_of i) ≡ true) c.in-List.is c.requires.inside

pub returns-in_err-one_change-in-Ok-clause-given : goal.returns-in_err-one_change-in-Ok-clause-given
returns-in_err-one_change-in-Ok-clause-given g c = λ honest.
    let self = c.args.self.now in
    let shape = c.args.given.shape.now in
    let numbers = numbers_asked shape (asked_of c.args.given.indexer) in
    let n = c.in-Some.subchunk.number in
    let is = c.in-Some.ensures.places in
    let s : AskedShard = record {
      inner = g.I.ArrayToBytesCodecTraits.meaning self.inner_codecs;
      elements = elements_of c.args.shard.elements.now;
      shape = shape;
      subchunk = self.subchunk_shape;
      value = unwrap_or (g.D.BytesPartialDecoderTraits.contents c.args.source.now) [];
      pairs = pairs_in c.args.shard.known.now;
      numbers = numbers;
    } in
    let can = askable s (g.X.ArrayToBytesCodecTraits.meaning self.index_codecs) (location_of self.index_location) c.requires.fit c.requires.many (regions.asked_places shape (asked_of c.args.given.indexer) c.requires.inside) in
    let count = g.D.BytesPartialDecoderTraits.given_bytes in
    whole_given s n can is (total_of c.args.shard) (count c.args.source.now) (count c.replace_subchunk.new.source) (c.in-Ok.ensures.given honest)

pub returns-in-Ok-clause-given : goal.returns-in-Ok-clause-given
returns-in-Ok-clause-given g c = λ honest.
    let self = c.args.self.now in
    let shape = c.args.given.shape.now in
    let numbers = numbers_asked shape (asked_of c.args.given.indexer) in
    let n = c.in-Some.subchunk.number in
    let is = c.in-Some.ensures.places in
    let s : AskedShard = record {
      inner = g.I.ArrayToBytesCodecTraits.meaning self.inner_codecs;
      elements = elements_of c.args.shard.elements.now;
      shape = shape;
      subchunk = self.subchunk_shape;
      value = unwrap_or (g.D.BytesPartialDecoderTraits.contents c.args.source.now) [];
      pairs = pairs_in c.args.shard.known.now;
      numbers = numbers;
    } in
    let can = askable s (g.X.ArrayToBytesCodecTraits.meaning self.index_codecs) (location_of self.index_location) c.requires.fit c.requires.many (regions.asked_places shape (asked_of c.args.given.indexer) c.requires.inside) in
    let count = g.D.BytesPartialDecoderTraits.given_bytes in
    whole_given s n can is (total_of c.args.shard) (count c.args.source.now) (count c.replace_subchunk.new.source) (c.in-Ok.ensures.given honest)

pub returns-in-Some-clause-given : goal.returns-in-Some-clause-given
returns-in-Some-clause-given g c = λ honest.
    let self = c.args.self.now in
    let shape = c.args.given.shape.now in
    let numbers = numbers_asked shape (asked_of c.args.given.indexer) in
    let n = c.in-Some.subchunk.number in
    let is = c.in-Some.ensures.places in
    let s : AskedShard = record {
      inner = g.I.ArrayToBytesCodecTraits.meaning self.inner_codecs;
      elements = elements_of c.args.shard.elements.now;
      shape = shape;
      subchunk = self.subchunk_shape;
      value = unwrap_or (g.D.BytesPartialDecoderTraits.contents c.args.source.now) [];
      pairs = pairs_in c.args.shard.known.now;
      numbers = numbers;
    } in
    let can = askable s (g.X.ArrayToBytesCodecTraits.meaning self.index_codecs) (location_of self.index_location) c.requires.fit c.requires.many (regions.asked_places shape (asked_of c.args.given.indexer) c.requires.inside) in
    let count = g.D.BytesPartialDecoderTraits.given_bytes in
    whole_given s n can is (total_of c.args.shard) (count c.args.source.now) (count c.replace_subchunk.new.source) (c.in-Err.ensures.given honest)

pub returns-in-Ok-clause-below : goal.returns-in-Ok-clause-below
returns-in-Ok-clause-below g c =
    let self = c.args.self.now in
    let shape = c.args.given.shape.now in
    let numbers = numbers_asked shape (asked_of c.args.given.indexer) in
    let n = c.in-Some.subchunk.number in
    let is = c.in-Some.ensures.places in
    let below = is.below in
    let many = c.requires.many in
    let number = c.in-Ok.ensures.number in
    let count = length (pairs_in c.args.shard.known.now) in
    ap (list_all (is_below count)) c.in_ok-one_change-in-Ok.ensures ∙ below_more count [] c.in-Ok.change refl (omega (arith, below, many, number))

pub returns-in-Ok-clause-changes : goal.returns-in-Ok-clause-changes
returns-in-Ok-clause-changes g c = λ honest of cells valid.
    let self = c.args.self.now in
    let shape = c.args.given.shape.now in
    let numbers = numbers_asked shape (asked_of c.args.given.indexer) in
    let n = c.in-Some.subchunk.number in
    let is = c.in-Some.ensures.places in
    let s : AskedShard = record {
      inner = g.I.ArrayToBytesCodecTraits.meaning self.inner_codecs;
      elements = elements_of c.args.shard.elements.now;
      shape = shape;
      subchunk = self.subchunk_shape;
      value = unwrap_or (g.D.BytesPartialDecoderTraits.contents c.args.source.now) [];
      pairs = pairs_in c.args.shard.known.now;
      numbers = numbers;
    } in
    let can = askable s (g.X.ArrayToBytesCodecTraits.meaning self.index_codecs) (location_of self.index_location) c.requires.fit c.requires.many (regions.asked_places shape (asked_of c.args.given.indexer) c.requires.inside) in
    let exact = g.I.ArrayToBytesCodecTraits.is_function self.inner_codecs in
    let here : c.in-Some.subchunk.shape.now ≡ part_shape shape self.subchunk_shape n = c.in-Some.ensures.shape in
    let new = subst (λ (m : ℕ). IsValid s.elements.type (payload_of c.args.given.bytes) m cells) (whole_count s n can is ∙ ap product (sym here)) valid in
    let change = c.in-Ok.change in
    let puts = subst (λ (es : List ℕ). PutsAll es s.elements.fill (asked_places s.shape s.subchunk s.numbers) cells) (sym here) (whole_puts s n can is exact cells valid.is.many) in
    let made = subst (λ (es : List ℕ). IsGroupUpdated (stored_as s exact) (given_group es n (asked_places s.shape s.subchunk s.numbers) cells) (change_of change)) here (c.in-Ok.ensures.change honest of cells (asked_places s.shape s.subchunk s.numbers) new puts) in
    subst (λ (cs : List SliceChange). AreChanged (stored_as s exact) (put_as s cells) (changes_of cs)) (sym c.in_ok-one_change-in-Ok.ensures) (whole_updated s n can is exact cells valid.is.many (change_of change) made)

pub returns-in-Some-clause-changes : goal.returns-in-Some-clause-changes
returns-in-Some-clause-changes g c = λ honest of cells valid.
    let self = c.args.self.now in
    let shape = c.args.given.shape.now in
    let numbers = numbers_asked shape (asked_of c.args.given.indexer) in
    let n = c.in-Some.subchunk.number in
    let is = c.in-Some.ensures.places in
    let s : AskedShard = record {
      inner = g.I.ArrayToBytesCodecTraits.meaning self.inner_codecs;
      elements = elements_of c.args.shard.elements.now;
      shape = shape;
      subchunk = self.subchunk_shape;
      value = unwrap_or (g.D.BytesPartialDecoderTraits.contents c.args.source.now) [];
      pairs = pairs_in c.args.shard.known.now;
      numbers = numbers;
    } in
    let can = askable s (g.X.ArrayToBytesCodecTraits.meaning self.index_codecs) (location_of self.index_location) c.requires.fit c.requires.many (regions.asked_places shape (asked_of c.args.given.indexer) c.requires.inside) in
    let exact = g.I.ArrayToBytesCodecTraits.is_function self.inner_codecs in
    let here : c.in-Some.subchunk.shape.now ≡ part_shape shape self.subchunk_shape n = c.in-Some.ensures.shape in
    let new = subst (λ (m : ℕ). IsValid s.elements.type (payload_of c.args.given.bytes) m cells) (whole_count s n can is ∙ ap product (sym here)) valid in
    let puts = subst (λ (es : List ℕ). PutsAll es s.elements.fill (asked_places s.shape s.subchunk s.numbers) cells) (sym here) (whole_puts s n can is exact cells valid.is.many) in
    let why = subst (λ (es : List ℕ). UpdatesGroup (stored_as s exact) (given_group es n (asked_places s.shape s.subchunk s.numbers) cells) (Err c.in-Err.error)) here (c.in-Err.ensures.change honest of cells (asked_places s.shape s.subchunk s.numbers) new puts) in
    whole_unwritten s n can is exact cells valid.is.many c.in-Err.error why

pub returns-in-Subset-clause-changes : goal.returns-in-Subset-clause-changes
returns-in-Subset-clause-changes g c = λ honest of cells valid.
    let self = c.args.self.now in
    let elements = elements_of c.args.shard.elements.now in
    let shape = c.args.given.shape.now in
    let stored = stored_in (g.I.ArrayToBytesCodecTraits.meaning self.inner_codecs) (g.I.ArrayToBytesCodecTraits.is_function self.inner_codecs) elements (g.D.BytesPartialDecoderTraits.contents c.args.source.now) (pairs_in c.args.shard.known.now) in
    subst (λ (i : Indexer). UpdatesSlices stored (put_at shape self.subchunk_shape (numbers_asked shape (asked_of i)) cells) c.update_box.result) (sym c.in-Subset.is)
    (c.update_box.ensures.changes honest of cells (subst (λ (i : Indexer). IsValid elements.type (payload_of c.args.given.bytes) (length (numbers_asked shape (asked_of i))) cells) c.in-Subset.is valid))

pub returns-in-Subset-clause-given : goal.returns-in-Subset-clause-given
returns-in-Subset-clause-given g c = λ honest.
    let count = g.D.BytesPartialDecoderTraits.given_bytes in
    let shape = c.args.given.shape.now in
    subst (λ (i : Indexer). count c.update_box.new.source ≤ count c.args.source.now + bytes_met shape c.args.self.now.subchunk_shape (numbers_asked shape (asked_of i)) (pairs_in c.args.shard.known.now) (total_of c.args.shard)) (sym c.in-Subset.is) (c.update_box.ensures.given honest)

pub returns-clause-changes : goal.returns-clause-changes
returns-clause-changes g c = λ honest of cells valid.
    let self = c.args.self.now in
    let elements = elements_of c.args.shard.elements.now in
    let shape = c.args.given.shape.now in
    let stored = stored_in (g.I.ArrayToBytesCodecTraits.meaning self.inner_codecs) (g.I.ArrayToBytesCodecTraits.is_function self.inner_codecs) elements (g.D.BytesPartialDecoderTraits.contents c.args.source.now) (pairs_in c.args.shard.known.now) in
    subst (λ (i : Indexer). UpdatesSlices stored (put_at shape self.subchunk_shape (numbers_asked shape (asked_of i)) cells) c.update_slices.result) (sym c.in-List.is)
    (c.update_slices.ensures.changes honest of cells (subst (λ (i : Indexer). IsValid elements.type (payload_of c.args.given.bytes) (length (numbers_asked shape (asked_of i))) cells) c.in-List.is valid))

pub returns-clause-given : goal.returns-clause-given
returns-clause-given g c = λ honest.
    let count = g.D.BytesPartialDecoderTraits.given_bytes in
    let shape = c.args.given.shape.now in
    subst (λ (i : Indexer). count c.update_slices.new.source ≤ count c.args.source.now + bytes_met shape c.args.self.now.subchunk_shape (numbers_asked shape (asked_of i)) (pairs_in c.args.shard.known.now) (total_of c.args.shard)) (sym c.in-List.is) (c.update_slices.ensures.given honest)
