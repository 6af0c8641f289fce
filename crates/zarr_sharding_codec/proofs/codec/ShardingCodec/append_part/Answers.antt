use Rattle.std.proofs.Common.{◌≡◌, ◌∙◌, ap, sym, refl, subst, arith, length, Bool, IsTrue, Option, List, ℕ, OnErr, Err, ◌+◌, ◌≤◌}
use Rattle.std.proofs.lemmas.Bool.{and_parts}
use Rattle.zarr_grids_boxes.specs.Boxes.{product}
use Rattle.zarr_codecs_arrays.specs.Views.{elements_of, payload_of}
use Rattle.zarr_codecs_meaning.specs.Encoding.{index_size}
use Rattle.zarr_codecs_meaning.specs.Places.{index_shape}
use Rattle.zarr_codecs_meaning.proofs.Parts.{index_product}
use Rattle.zarr_codecs_arrays.specs.Outcomes.{IsValid}
use Rattle.zarr_codecs_traits.specs.Indexers.{asked_of, numbers_asked}
use Rattle.std.specs.Prelude.{◌&&◌, IfOk}
use Rattle.zarr_sharding_index.specs.Stored.{index_fits}
use Rattle.zarr_sharding_index.specs.Views.{location_of}
use Rattle.zarr_sharding_index.specs.Known.{end_of, pairs_in}
use Rattle.zarr_sharding_index.specs.SliceChanges.{changes_of}
use Rattle.zarr_codecs_traits.specs.Sources.{refused_after}
use Rattle.zarr_sharding_codec.specs.Appending.{accepted_by, most_tried, AppendsChanges, ChangesUnwritten, shard_write}
use Rattle.zarr_sharding_inner.specs.Orders.{is_row_major}
use Rattle.zarr_sharding_codec.specs.Views.{makes_a_function}
use Rattle.zarr_sharding_codec.proofs.EncodedShard.{index_part}
use Rattle.zarr_sharding_codec.proofs.PartAppended.{IsRead, appended_read, not_opened, not_updated, not_written, read_of, read_valid, taken_read, taken_unopened}
use Rattle.zarr_sharding_codec.proofs.StoredLoop.{rank_fits}
use Rattle.zarr_codecs_meaning.specs.Chains.{Location}
use Rattle.zarr_sharding_changes.specs.Changes.{pairs_after}
use Rattle.zarr_sharding_index.specs.Held.{index_coding, shard_length}
use Rattle.zarr_sharding_codec.specs.BytesMet.{bytes_met}
use Rattle.zarr_sharding_codec.specs.PartWriting.{IsOf}
use Rattle.zarr_sharding_codec.proofs.codec.ShardingCodec.append_part.Goals as goal

pub open_known-requires-clause-rank : goal.open_known-requires-clause-rank
open_known-requires-clause-rank g c =
    let self = c.args.self.now in
    let subchunk = self.subchunk_shape in
    let inner = g.I.ArrayToBytesCodecTraits.meaning self.inner_codecs in
    let index = g.X.ArrayToBytesCodecTraits.meaning self.index_codecs in
    let location = location_of self.index_location in
    let elements = elements_of c.args.part.elements.now in
    let shape = c.args.part.shape.now in
    let tested = c.requires.tested in
    rank_fits subchunk inner index location elements shape tested.fit

pub open_known-requires-clause-fit : goal.open_known-requires-clause-fit
open_known-requires-clause-fit g c =
    let self = c.args.self.now in
    let subchunk = self.subchunk_shape in
    let inner = g.I.ArrayToBytesCodecTraits.meaning self.inner_codecs in
    let index = g.X.ArrayToBytesCodecTraits.meaning self.index_codecs in
    let location = location_of self.index_location in
    let elements = elements_of c.args.part.elements.now in
    let shape = c.args.part.shape.now in
    let tested = c.requires.tested in
    index_part subchunk inner index location elements shape tested.fit

pub open_known-requires-clause-size : goal.open_known-requires-clause-size
open_known-requires-clause-size g c = c.requires.tested.size_is

pub update_asked-requires-clause-many : goal.update_asked-requires-clause-many
update_asked-requires-clause-many g c =
    let self = c.args.self.now in
    let subchunk = self.subchunk_shape in
    let inner = g.I.ArrayToBytesCodecTraits.meaning self.inner_codecs in
    let index = g.X.ArrayToBytesCodecTraits.meaning self.index_codecs in
    let location = location_of self.index_location in
    let elements = elements_of c.args.part.elements.now in
    let shape = c.args.part.shape.now in
    let tested = c.requires.tested in
    let two = index_product shape subchunk in
    let many = c.in-Ok.known.many in
    let is = ap product c.in-Ok.ensures.laid.shape in
    omega (arith, two, many, is)

pub update_asked-requires-clause-inside : goal.update_asked-requires-clause-inside
update_asked-requires-clause-inside g c = c.requires.tested.inside

pub update_asked-requires-clause-small : goal.update_asked-requires-clause-small
update_asked-requires-clause-small g c = c.requires.tested.small

pub append_changes-requires-clause-fit : goal.append_changes-requires-clause-fit
append_changes-requires-clause-fit g c =
    let self = c.args.self.now in
    let subchunk = self.subchunk_shape in
    let inner = g.I.ArrayToBytesCodecTraits.meaning self.inner_codecs in
    let index = g.X.ArrayToBytesCodecTraits.meaning self.index_codecs in
    let location = location_of self.index_location in
    let elements = elements_of c.args.part.elements.now in
    let shape = c.args.part.shape.now in
    let tested = c.requires.tested in
    ap (index_fits index) c.in-Ok.ensures.laid.shape ∙ index_part subchunk inner index location elements shape tested.fit

pub append_changes-requires-clause-size : goal.append_changes-requires-clause-size
append_changes-requires-clause-size g c =
    let index = g.X.ArrayToBytesCodecTraits.meaning c.args.self.now.index_codecs in
    c.in-Ok.ensures.laid.size ∙ (c.requires.tested.size_is ∙ ap (index_size index) (sym c.in-Ok.ensures.laid.shape))

pub append_changes-requires-clause-below : goal.append_changes-requires-clause-below
append_changes-requires-clause-below g c = c.in-Ok-update_asked.ensures.below

pub returns-in-Err-clause-cause : goal.returns-in-Err-clause-cause
returns-in-Err-clause-cause g c = λ honest.
    let self = c.args.self.now in
    let subchunk = self.subchunk_shape in
    let inner = g.I.ArrayToBytesCodecTraits.meaning self.inner_codecs in
    let index = g.X.ArrayToBytesCodecTraits.meaning self.index_codecs in
    let location = location_of self.index_location in
    let elements = elements_of c.args.part.elements.now in
    let shape = c.args.part.shape.now in
    let tested = c.requires.tested in
    let asked = asked_of c.args.part.indexer in
    let payload = payload_of c.args.tested.bytes.now in
    let size = c.args.tested.size in
    let numbers = numbers_asked shape asked in
    let exact = g.I.ArrayToBytesCodecTraits.is_function self.inner_codecs in
    let laws = g.met.E.BytesPartialDecoderTraits in
    let old = g.E.BytesPartialDecoderTraits.contents c.args.source.now in
    not_opened Bool subchunk inner index location elements shape asked payload size numbers (index_shape shape subchunk) old c.in-Err.error tested refl (c.in-Err.ensures.cause honest)

pub returns-in-Err-update_asked-clause-cause : goal.returns-in-Err-update_asked-clause-cause
returns-in-Err-update_asked-clause-cause g c = λ honest.
    let self = c.args.self.now in
    let subchunk = self.subchunk_shape in
    let inner = g.I.ArrayToBytesCodecTraits.meaning self.inner_codecs in
    let index = g.X.ArrayToBytesCodecTraits.meaning self.index_codecs in
    let location = location_of self.index_location in
    let elements = elements_of c.args.part.elements.now in
    let shape = c.args.part.shape.now in
    let tested = c.requires.tested in
    let asked = asked_of c.args.part.indexer in
    let payload = payload_of c.args.tested.bytes.now in
    let size = c.args.tested.size in
    let numbers = numbers_asked shape asked in
    let exact = g.I.ArrayToBytesCodecTraits.is_function self.inner_codecs in
    let laws = g.met.E.BytesPartialDecoderTraits in
    let old = g.E.BytesPartialDecoderTraits.contents c.args.source.now in
    let pairs_shape = index_shape shape subchunk in
    let given = numbers in
    let pairs = pairs_in c.in-Ok.known in
    let end = end_of c.in-Ok.known in
    let later = g.E.BytesPartialDecoderTraits.contents c.open_known.new.source in
    let same = laws.same _ _ c.in-Ok.ensures.follows in
    let still = subst IsTrue (laws.honest _ _ c.in-Ok.ensures.follows) honest in
    let h : IsRead subchunk inner index location elements shape asked payload size numbers pairs_shape given old pairs end = record {
      lawful = (g.met.I.ArrayToBytesCodecTraits.lawful self.inner_codecs, g.met.X.ArrayToBytesCodecTraits.lawful self.index_codecs);
      fill = c.args.part.elements.now.fills;
      tested = tested;
      shape_is = refl;
      given_is = refl;
      opened = c.in-Ok.ensures.opened honest;
      many = ap product (sym c.in-Ok.ensures.laid.shape) ∙ c.in-Ok.known.many;
    } in
    let of = read_of subchunk inner index location exact elements shape asked payload size numbers pairs_shape given old later pairs end h same in
    let of_known : IsOf (location_of c.in-Ok.known.location) c.in-Ok.known.size later pairs end =
    subst (λ (l : Location). IsOf l c.in-Ok.known.size later pairs end) (sym c.in-Ok.ensures.laid.location)
    (subst (λ n. IsOf location n later pairs end) (sym c.in-Ok.ensures.laid.size) of) in
    let valid = read_valid subchunk inner index location exact elements shape asked payload size numbers pairs_shape given old later pairs end h same in
    not_updated subchunk inner index location exact elements shape asked payload size numbers pairs_shape given old later pairs end h same Bool c.in-Err-update_asked.error (c.in-Err-update_asked.ensures.changes still of_known tested.cells (subst (λ p. IsValid elements.type p (length numbers) tested.cells) (sym c.in_ok-bytes.ensures) valid))

pub returns-in-Ok-update_asked-clause-ok : goal.returns-in-Ok-update_asked-clause-ok
returns-in-Ok-update_asked-clause-ok g c = λ honest.
    let self = c.args.self.now in
    let subchunk = self.subchunk_shape in
    let inner = g.I.ArrayToBytesCodecTraits.meaning self.inner_codecs in
    let index = g.X.ArrayToBytesCodecTraits.meaning self.index_codecs in
    let location = location_of self.index_location in
    let elements = elements_of c.args.part.elements.now in
    let shape = c.args.part.shape.now in
    let tested = c.requires.tested in
    let asked = asked_of c.args.part.indexer in
    let payload = payload_of c.args.tested.bytes.now in
    let size = c.args.tested.size in
    let numbers = numbers_asked shape asked in
    let exact = g.I.ArrayToBytesCodecTraits.is_function self.inner_codecs in
    let laws = g.met.E.BytesPartialDecoderTraits in
    let old = g.E.BytesPartialDecoderTraits.contents c.args.source.now in
    let pairs_shape = index_shape shape subchunk in
    let given = numbers in
    let pairs = pairs_in c.in-Ok.known in
    let end = end_of c.in-Ok.known in
    let later = g.E.BytesPartialDecoderTraits.contents c.open_known.new.source in
    let same = laws.same _ _ c.in-Ok.ensures.follows in
    let still = subst IsTrue (laws.honest _ _ c.in-Ok.ensures.follows) honest in
    let h : IsRead subchunk inner index location elements shape asked payload size numbers pairs_shape given old pairs end = record {
      lawful = (g.met.I.ArrayToBytesCodecTraits.lawful self.inner_codecs, g.met.X.ArrayToBytesCodecTraits.lawful self.index_codecs);
      fill = c.args.part.elements.now.fills;
      tested = tested;
      shape_is = refl;
      given_is = refl;
      opened = c.in-Ok.ensures.opened honest;
      many = ap product (sym c.in-Ok.ensures.laid.shape) ∙ c.in-Ok.known.many;
    } in
    let of = read_of subchunk inner index location exact elements shape asked payload size numbers pairs_shape given old later pairs end h same in
    let of_known : IsOf (location_of c.in-Ok.known.location) c.in-Ok.known.size later pairs end =
    subst (λ (l : Location). IsOf l c.in-Ok.known.size later pairs end) (sym c.in-Ok.ensures.laid.location)
    (subst (λ n. IsOf location n later pairs end) (sym c.in-Ok.ensures.laid.size) of) in
    let valid = read_valid subchunk inner index location exact elements shape asked payload size numbers pairs_shape given old later pairs end h same in
    let whole = makes_a_function g.I.ArrayToBytesCodecTraits.is_function g.X.ArrayToBytesCodecTraits.is_function self in
    let one = g.X.ArrayToBytesCodecTraits.is_function self.index_codecs in
    let to_exact : IsTrue whole → IsTrue exact = λ e. (and_parts exact one (and_parts (is_row_major self.subchunk_write_order) (exact && one) e).1).0 in
    let both = laws.goes_on _ _ _ c.in-Ok.ensures.follows c.in-Ok-update_asked.ensures.follows in
    let last = g.E.BytesPartialDecoderTraits.contents c.update_asked.new.source in
    let of_index = λ (l : Location) (s : List ℕ). IfOk c.append_changes.result (AppendsChanges (index_coding index one l s) (shard_write (changes_of c.in-Ok-update_asked.changes.items) end pairs last) (g.E.BytesPartialDecoderTraits.contents c.append_changes.new.source)) in
    appended_read subchunk inner index location exact elements shape asked payload size numbers pairs_shape given old later pairs end h same one whole (g.E.BytesPartialDecoderTraits.contents c.append_changes.new.source) c.in-Ok-update_asked.changes.items c.in-Ok-update_asked.changes.items c.append_changes.result refl to_exact
    (c.in-Ok-update_asked.ensures.changes still of_known tested.cells (subst (λ p. IsValid elements.type p (length numbers) tested.cells) (sym c.in_ok-bytes.ensures) valid)) last (laws.same _ _ both) (subst (of_index (location_of self.index_location)) c.in-Ok.ensures.laid.shape (subst (λ (l : Location). of_index l c.in-Ok.known.shape.items) c.in-Ok.ensures.laid.location (c.append_changes.ensures.ok (subst IsTrue (laws.honest _ _ both) honest))))

pub returns-in-Ok-update_asked-clause-cause : goal.returns-in-Ok-update_asked-clause-cause
returns-in-Ok-update_asked-clause-cause g c = λ honest.
    let self = c.args.self.now in
    let subchunk = self.subchunk_shape in
    let inner = g.I.ArrayToBytesCodecTraits.meaning self.inner_codecs in
    let index = g.X.ArrayToBytesCodecTraits.meaning self.index_codecs in
    let location = location_of self.index_location in
    let elements = elements_of c.args.part.elements.now in
    let shape = c.args.part.shape.now in
    let tested = c.requires.tested in
    let asked = asked_of c.args.part.indexer in
    let payload = payload_of c.args.tested.bytes.now in
    let size = c.args.tested.size in
    let numbers = numbers_asked shape asked in
    let exact = g.I.ArrayToBytesCodecTraits.is_function self.inner_codecs in
    let laws = g.met.E.BytesPartialDecoderTraits in
    let old = g.E.BytesPartialDecoderTraits.contents c.args.source.now in
    let pairs_shape = index_shape shape subchunk in
    let given = numbers in
    let pairs = pairs_in c.in-Ok.known in
    let end = end_of c.in-Ok.known in
    let later = g.E.BytesPartialDecoderTraits.contents c.open_known.new.source in
    let same = laws.same _ _ c.in-Ok.ensures.follows in
    let still = subst IsTrue (laws.honest _ _ c.in-Ok.ensures.follows) honest in
    let h : IsRead subchunk inner index location elements shape asked payload size numbers pairs_shape given old pairs end = record {
      lawful = (g.met.I.ArrayToBytesCodecTraits.lawful self.inner_codecs, g.met.X.ArrayToBytesCodecTraits.lawful self.index_codecs);
      fill = c.args.part.elements.now.fills;
      tested = tested;
      shape_is = refl;
      given_is = refl;
      opened = c.in-Ok.ensures.opened honest;
      many = ap product (sym c.in-Ok.ensures.laid.shape) ∙ c.in-Ok.known.many;
    } in
    let of = read_of subchunk inner index location exact elements shape asked payload size numbers pairs_shape given old later pairs end h same in
    let of_known : IsOf (location_of c.in-Ok.known.location) c.in-Ok.known.size later pairs end =
    subst (λ (l : Location). IsOf l c.in-Ok.known.size later pairs end) (sym c.in-Ok.ensures.laid.location)
    (subst (λ n. IsOf location n later pairs end) (sym c.in-Ok.ensures.laid.size) of) in
    let valid = read_valid subchunk inner index location exact elements shape asked payload size numbers pairs_shape given old later pairs end h same in
    let both = laws.goes_on _ _ _ c.in-Ok.ensures.follows c.in-Ok-update_asked.ensures.follows in
    let of_index = λ (l : Location) (s : List ℕ). ChangesUnwritten index s (pairs_after end (changes_of c.in-Ok-update_asked.changes.items) pairs) c.append_changes.result in
    not_written subchunk inner index location exact elements shape asked payload size numbers pairs_shape given old later pairs end h same (changes_of c.in-Ok-update_asked.changes.items) c.append_changes.result
    (c.in-Ok-update_asked.ensures.changes still of_known tested.cells (subst (λ p. IsValid elements.type p (length numbers) tested.cells) (sym c.in_ok-bytes.ensures) valid)) (subst (of_index (location_of self.index_location)) c.in-Ok.ensures.laid.shape (subst (λ (l : Location). of_index l c.in-Ok.known.shape.items) c.in-Ok.ensures.laid.location (c.append_changes.ensures.cause (subst IsTrue (laws.honest _ _ both) honest))))

pub returns-in-Err-clause-call : goal.returns-in-Err-clause-call
returns-in-Err-clause-call g c =
    let laws = g.met.E.BytesPartialDecoderTraits in
    let follows = c.in-Err.ensures.follows in
    record {
      err = λ honest. sym (laws.same _ _ follows);
      refused = c.in-Err.ensures.refused;
      accepted = sym (g.met.E.BytesPartialEncoderTraits.unwritten _ _ follows);
      rewrites = g.met.E.BytesPartialEncoderTraits.reads _ _ follows;
    }

pub returns-in-Err-update_asked-clause-call : goal.returns-in-Err-update_asked-clause-call
returns-in-Err-update_asked-clause-call g c =
    let laws = g.met.E.BytesPartialDecoderTraits in
    let both = laws.goes_on _ _ _ c.in-Ok.ensures.follows c.in-Err-update_asked.ensures.follows in
    record {
      err = λ honest. sym (laws.same _ _ both);
      refused = c.in-Err-update_asked.ensures.refused ∙ ap (λ n. refused_after {A = Bool} n (Err c.in-Err-update_asked.error)) c.in-Ok.ensures.refused;
      accepted = sym (g.met.E.BytesPartialEncoderTraits.unwritten _ _ both);
      rewrites = g.met.E.BytesPartialEncoderTraits.reads _ _ both;
    }

pub returns-in-Ok-update_asked-clause-call : goal.returns-in-Ok-update_asked-clause-call
returns-in-Ok-update_asked-clause-call g c =
    let laws = g.met.E.BytesPartialDecoderTraits in
    let both = laws.goes_on _ _ _ c.in-Ok.ensures.follows c.in-Ok-update_asked.ensures.follows in
    let call = c.append_changes.ensures.call in
    record {
      err = λ honest. subst (λ (o : Option (List ℕ)). OnErr c.append_changes.result (g.E.BytesPartialDecoderTraits.contents c.append_changes.new.source ≡ o)) (sym (laws.same _ _ both)) (call.err (subst IsTrue (laws.honest _ _ both) honest));
      refused = call.refused ∙ ap (λ n. refused_after n c.append_changes.result) (c.in-Ok-update_asked.ensures.refused ∙ c.in-Ok.ensures.refused);
      accepted = call.accepted ∙ ap (λ n. accepted_by n c.append_changes.result) (sym (g.met.E.BytesPartialEncoderTraits.unwritten _ _ both));
      rewrites = g.met.E.BytesPartialEncoderTraits.writes_on _ _ _ (g.met.E.BytesPartialEncoderTraits.reads _ _ both) call.rewrites;
    }

pub returns-in-Err-clause-given : goal.returns-in-Err-clause-given
returns-in-Err-clause-given g c = λ honest.
    let self = c.args.self.now in
    let subchunk = self.subchunk_shape in
    let inner = g.I.ArrayToBytesCodecTraits.meaning self.inner_codecs in
    let index = g.X.ArrayToBytesCodecTraits.meaning self.index_codecs in
    let location = location_of self.index_location in
    let elements = elements_of c.args.part.elements.now in
    let shape = c.args.part.shape.now in
    let tested = c.requires.tested in
    let asked = asked_of c.args.part.indexer in
    let payload = payload_of c.args.tested.bytes.now in
    let size = c.args.tested.size in
    let numbers = numbers_asked shape asked in
    let laws = g.met.E.BytesPartialDecoderTraits in
    let D = g.E.BytesPartialDecoderTraits in
    let old = D.contents c.args.source.now in
    let taken = taken_unopened subchunk inner index location elements shape asked payload size numbers old (D.given_bytes c.args.source.now) (D.given_bytes c.open_known.new.source) tested (c.in-Err.ensures.given honest) (c.in-Err.ensures.within honest) in
    omega (arith, taken)

pub returns-in-Err-update_asked-clause-given : goal.returns-in-Err-update_asked-clause-given
returns-in-Err-update_asked-clause-given g c = λ honest.
    let self = c.args.self.now in
    let subchunk = self.subchunk_shape in
    let inner = g.I.ArrayToBytesCodecTraits.meaning self.inner_codecs in
    let index = g.X.ArrayToBytesCodecTraits.meaning self.index_codecs in
    let location = location_of self.index_location in
    let elements = elements_of c.args.part.elements.now in
    let shape = c.args.part.shape.now in
    let tested = c.requires.tested in
    let asked = asked_of c.args.part.indexer in
    let payload = payload_of c.args.tested.bytes.now in
    let size = c.args.tested.size in
    let numbers = numbers_asked shape asked in
    let laws = g.met.E.BytesPartialDecoderTraits in
    let D = g.E.BytesPartialDecoderTraits in
    let old = D.contents c.args.source.now in
    let exact = g.I.ArrayToBytesCodecTraits.is_function self.inner_codecs in
    let pairs_shape = index_shape shape subchunk in
    let pairs = pairs_in c.in-Ok.known in
    let end = end_of c.in-Ok.known in
    let later = D.contents c.open_known.new.source in
    let same = laws.same _ _ c.in-Ok.ensures.follows in
    let still = subst IsTrue (laws.honest _ _ c.in-Ok.ensures.follows) honest in
    let h : IsRead subchunk inner index location elements shape asked payload size numbers pairs_shape numbers old pairs end = record {
      lawful = (g.met.I.ArrayToBytesCodecTraits.lawful self.inner_codecs, g.met.X.ArrayToBytesCodecTraits.lawful self.index_codecs);
      fill = c.args.part.elements.now.fills;
      tested = tested;
      shape_is = refl;
      given_is = refl;
      opened = c.in-Ok.ensures.opened honest;
      many = ap product (sym c.in-Ok.ensures.laid.shape) ∙ c.in-Ok.known.many;
    } in
    let total : shard_length (location_of c.in-Ok.known.location) c.in-Ok.known.size end ≡ shard_length location size end =
    ap (λ (l : Location). shard_length l c.in-Ok.known.size end) c.in-Ok.ensures.laid.location ∙ ap (λ n. shard_length location n end) c.in-Ok.ensures.laid.size in
    let taken = taken_read subchunk inner index location exact elements shape asked payload size numbers pairs_shape numbers old later pairs end h same (D.given_bytes c.args.source.now) (D.given_bytes c.open_known.new.source) (D.given_bytes c.update_asked.new.source)
    (c.in-Ok.ensures.given honest) (c.in-Ok.ensures.within honest) (subst (λ n. D.given_bytes c.update_asked.new.source ≤ D.given_bytes c.open_known.new.source + bytes_met shape subchunk numbers pairs n) total (c.in-Err-update_asked.ensures.given still)) in
    omega (arith, taken)

pub returns-in-Ok-update_asked-clause-given : goal.returns-in-Ok-update_asked-clause-given
returns-in-Ok-update_asked-clause-given g c = λ honest.
    let self = c.args.self.now in
    let subchunk = self.subchunk_shape in
    let inner = g.I.ArrayToBytesCodecTraits.meaning self.inner_codecs in
    let index = g.X.ArrayToBytesCodecTraits.meaning self.index_codecs in
    let location = location_of self.index_location in
    let elements = elements_of c.args.part.elements.now in
    let shape = c.args.part.shape.now in
    let tested = c.requires.tested in
    let asked = asked_of c.args.part.indexer in
    let payload = payload_of c.args.tested.bytes.now in
    let size = c.args.tested.size in
    let numbers = numbers_asked shape asked in
    let laws = g.met.E.BytesPartialDecoderTraits in
    let D = g.E.BytesPartialDecoderTraits in
    let old = D.contents c.args.source.now in
    let exact = g.I.ArrayToBytesCodecTraits.is_function self.inner_codecs in
    let pairs_shape = index_shape shape subchunk in
    let pairs = pairs_in c.in-Ok.known in
    let end = end_of c.in-Ok.known in
    let later = D.contents c.open_known.new.source in
    let same = laws.same _ _ c.in-Ok.ensures.follows in
    let still = subst IsTrue (laws.honest _ _ c.in-Ok.ensures.follows) honest in
    let h : IsRead subchunk inner index location elements shape asked payload size numbers pairs_shape numbers old pairs end = record {
      lawful = (g.met.I.ArrayToBytesCodecTraits.lawful self.inner_codecs, g.met.X.ArrayToBytesCodecTraits.lawful self.index_codecs);
      fill = c.args.part.elements.now.fills;
      tested = tested;
      shape_is = refl;
      given_is = refl;
      opened = c.in-Ok.ensures.opened honest;
      many = ap product (sym c.in-Ok.ensures.laid.shape) ∙ c.in-Ok.known.many;
    } in
    let both = laws.goes_on _ _ _ c.in-Ok.ensures.follows c.in-Ok-update_asked.ensures.follows in
    let total : shard_length (location_of c.in-Ok.known.location) c.in-Ok.known.size end ≡ shard_length location size end =
    ap (λ (l : Location). shard_length l c.in-Ok.known.size end) c.in-Ok.ensures.laid.location ∙ ap (λ n. shard_length location n end) c.in-Ok.ensures.laid.size in
    let taken = taken_read subchunk inner index location exact elements shape asked payload size numbers pairs_shape numbers old later pairs end h same (D.given_bytes c.args.source.now) (D.given_bytes c.open_known.new.source) (D.given_bytes c.update_asked.new.source)
    (c.in-Ok.ensures.given honest) (c.in-Ok.ensures.within honest) (subst (λ n. D.given_bytes c.update_asked.new.source ≤ D.given_bytes c.open_known.new.source + bytes_met shape subchunk numbers pairs n) total (c.in-Ok-update_asked.ensures.given still)) in
    let ranges = g.E.BytesPartialEncoderTraits.writes_ranges in
    let last = c.update_asked.new.source in
    let first = g.met.E.BytesPartialEncoderTraits.still_ranges _ _ (g.met.E.BytesPartialEncoderTraits.reads _ _ both) in
    let patch = ap (λ (b : Bool). most_tried b (D.contents c.args.source.now) c.append_changes.result) first ∙ ap (λ (o : Option (List ℕ)). most_tried (ranges last) o c.append_changes.result) (laws.same _ _ both) in
    let kept = c.append_changes.ensures.given (subst IsTrue (laws.honest _ _ both) honest) in
    omega (arith, taken, patch, kept)
