use Rattle.std.proofs.Common.{◌≡◌, ◌∙◌, ◌+◌, ◌≤◌, ap, arith, sym, subst, Bool, IsTrue, List, ℕ, Option, OnErr, OnOk}
use Rattle.zarr_codecs_arrays.specs.Views.{elements_of, payload_of}
use Rattle.zarr_codecs_meaning.specs.Chains.{Location}
use Rattle.zarr_codecs_meaning.specs.Encoding.{index_size}
use Rattle.zarr_codecs_meaning.specs.Places.{index_shape}
use Rattle.zarr_codecs_meaning.specs.Standing.{index_layout}
use Rattle.zarr_codecs_traits.specs.Indexers.{asked_of, numbers_asked}
use Rattle.zarr_codecs_traits.specs.Writes.{most_to_patch}
use Rattle.zarr_sharding_changes.specs.Changes.{pairs_after}
use Rattle.zarr_sharding_codec.specs.BytesMet.{bytes_met}
use Rattle.zarr_sharding_codec.specs.PartWriting.{IsOf, put_at}
use Rattle.zarr_sharding_codec.proofs.EncodedShard.{index_part}
use Rattle.zarr_sharding_partial.specs.Pairs.{index_length}
use Rattle.zarr_sharding_partial.specs.Shards.{ShardOf}
use Rattle.zarr_sharding_partial.specs.Puts.{Putting}
use Rattle.zarr_sharding_index.specs.Stored.{index_fits}
use Rattle.zarr_sharding_index.specs.Views.{location_of}
use Rattle.zarr_sharding_index.specs.Held.{shard_length, Held, held_as, index_coding}
use Rattle.zarr_sharding_index.specs.Known.{end_of, pairs_in}
use Rattle.zarr_sharding_index.specs.SliceChanges.{changes_of}
use Rattle.zarr_sharding_index.specs.Written.{ChangesRefused, IsChanged}
use Rattle.zarr_sharding_partial.proofs.Changed.{IsAfter, after_refused, after_told, after_written, changed_as, refused_as}
use Rattle.zarr_sharding_partial.proofs.Known.{again_told, pairs_count, told_again, told_of}
use Rattle.zarr_sharding_partial.proofs.Refused.{unchanged, written_after}
use Rattle.zarr_sharding_partial.proofs.shard_state.ShardState.put_asked.Goals as goal

pub update_asked-requires-clause-many : goal.update_asked-requires-clause-many
update_asked-requires-clause-many g c =
    let self = c.args.self.now in
    let codec = self.codec.now in
    let contents = g.E.BytesPartialDecoderTraits.contents in
    let s : ShardOf = record {
      subchunk = codec.subchunk_shape;
      inner = g.I.ArrayToBytesCodecTraits.meaning codec.inner_codecs;
      index = g.X.ArrayToBytesCodecTraits.meaning codec.index_codecs;
      location = location_of codec.index_location;
      elements = elements_of self.elements.now;
      shape = self.shape.now;
    } in
    let old : Held = held_as (contents self.source) (pairs_in self.known) (end_of self.known) in
    pairs_count s self.known.shape.items old.pairs self.cut self.known.many

pub update_asked-requires-clause-small : goal.update_asked-requires-clause-small
update_asked-requires-clause-small g c = c.args.self.now.small

pub write_given-requires-clause-fit : goal.write_given-requires-clause-fit
write_given-requires-clause-fit g c =
    let self = c.args.self.now in
    let codec = self.codec.now in
    let meaning = g.X.ArrayToBytesCodecTraits.meaning in
    let index = meaning codec.index_codecs in
    ap (λ x. index_fits (meaning x) self.known.shape.items) c.index_codecs-codecs.ensures
    ∙ (ap (index_fits index) self.cut ∙ index_part codec.subchunk_shape (g.I.ArrayToBytesCodecTraits.meaning codec.inner_codecs) index (location_of codec.index_location) (elements_of self.elements.now) self.shape.now self.fit)

pub write_given-requires-clause-size : goal.write_given-requires-clause-size
write_given-requires-clause-size g c =
    let self = c.args.self.now in
    let codec = self.codec.now in
    let meaning = g.X.ArrayToBytesCodecTraits.meaning in
    self.sized ∙ (ap (index_size (meaning codec.index_codecs)) (sym self.cut) ∙ ap (λ x. index_size (meaning x) self.known.shape.items) (sym c.index_codecs-codecs.ensures))

pub invariant_of-self : goal.invariant_of-self
invariant_of-self g c =
    let self = c.args.self.now in
    let codec = self.codec.now in
    let contents = g.E.BytesPartialDecoderTraits.contents in
    let s : ShardOf = record {
      subchunk = codec.subchunk_shape;
      inner = g.I.ArrayToBytesCodecTraits.meaning codec.inner_codecs;
      index = g.X.ArrayToBytesCodecTraits.meaning codec.index_codecs;
      location = location_of codec.index_location;
      elements = elements_of self.elements.now;
      shape = self.shape.now;
    } in
    let old : Held = held_as (contents self.source) (pairs_in self.known) (end_of self.known) in
    let count = pairs_count s self.known.shape.items old.pairs self.cut self.known.many in
    let pairs_shape = self.known.shape.items in
    let shape_is : pairs_shape ≡ index_shape s.shape s.subchunk = self.cut in
    let new : Held = held_as (contents c.write_given.new.source) (pairs_in c.write_given.new.self) (end_of c.write_given.new.self) in
    let changes = changes_of c.in-Ok.changes.items in
    let laws = g.met.E.BytesPartialDecoderTraits in
    let follows = c.in-Ok.ensures.follows in
    let later = contents c.update_asked.new.source in
    let same = laws.same _ _ follows in
    let one = g.X.ArrayToBytesCodecTraits.is_function codec.index_codecs in
    let result = c.write_given.result in
    let after_call : IsTrue (g.E.BytesPartialDecoderTraits.is_honest c.update_asked.new.source) → IsAfter result s one changes old new = λ still. record {
      pairs = c.write_given.ensures.known.pairs;
      room = c.write_given.ensures.known.room;
      written = changed_as result s.index one s.location (location_of self.known.location) (index_shape s.shape s.subchunk) pairs_shape changes old.end new.end new.pairs old.contents later new.contents self.located shape_is same
          (subst (λ x. OnOk result (IsChanged (index_coding (g.X.ArrayToBytesCodecTraits.meaning x) (g.X.ArrayToBytesCodecTraits.is_function x) (location_of self.known.location) pairs_shape) changes later old.end new)) c.index_codecs-codecs.ensures (c.write_given.ensures.ok still));
      same = c.write_given.ensures.known.same;
      err = subst (λ (o : Option (List ℕ)). OnErr result (new.contents ≡ o)) (sym same) (c.write_given.ensures.call.err still);
    } in
    record {
      fit = self.fit;
      small = self.small;
      located = c.write_given.ensures.known.laid.location ∙ self.located;
      cut = c.write_given.ensures.known.laid.shape ∙ self.cut;
      sized = c.write_given.ensures.known.laid.size ∙ self.sized;
      told = λ honest lossless.
          let still = subst IsTrue (sym (g.met.E.BytesPartialEncoderTraits.still_honest _ _ c.write_given.ensures.call.rewrites)) honest in
          let before = subst IsTrue (sym (laws.honest _ _ follows)) still in
          told_again s new.contents new.pairs new.end (after_told result s one changes old new (after_call still) count lossless (again_told s old.contents old.pairs old.end (self.told before lossless)));
    }

pub returns-in-Ok-clause-ok : goal.returns-in-Ok-clause-ok
returns-in-Ok-clause-ok g c = λ honest told cells valid.
    let self = c.args.self.now in
    let codec = self.codec.now in
    let contents = g.E.BytesPartialDecoderTraits.contents in
    let s : ShardOf = record {
      subchunk = codec.subchunk_shape;
      inner = g.I.ArrayToBytesCodecTraits.meaning codec.inner_codecs;
      index = g.X.ArrayToBytesCodecTraits.meaning codec.index_codecs;
      location = location_of codec.index_location;
      elements = elements_of self.elements.now;
      shape = self.shape.now;
    } in
    let old : Held = held_as (contents self.source) (pairs_in self.known) (end_of self.known) in
    let pairs_shape = self.known.shape.items in
    let shape_is : pairs_shape ≡ index_shape s.shape s.subchunk = self.cut in
    let new : Held = held_as (contents c.write_given.new.source) (pairs_in c.write_given.new.self) (end_of c.write_given.new.self) in
    let changes = changes_of c.in-Ok.changes.items in
    let laws = g.met.E.BytesPartialDecoderTraits in
    let follows = c.in-Ok.ensures.follows in
    let later = contents c.update_asked.new.source in
    let same = laws.same _ _ follows in
    let one = g.X.ArrayToBytesCodecTraits.is_function codec.index_codecs in
    let result = c.write_given.result in
    let after_call : IsTrue (g.E.BytesPartialDecoderTraits.is_honest c.update_asked.new.source) → IsAfter result s one changes old new = λ still. record {
      pairs = c.write_given.ensures.known.pairs;
      room = c.write_given.ensures.known.room;
      written = changed_as result s.index one s.location (location_of self.known.location) (index_shape s.shape s.subchunk) pairs_shape changes old.end new.end new.pairs old.contents later new.contents self.located shape_is same
          (subst (λ x. OnOk result (IsChanged (index_coding (g.X.ArrayToBytesCodecTraits.meaning x) (g.X.ArrayToBytesCodecTraits.is_function x) (location_of self.known.location) pairs_shape) changes later old.end new)) c.index_codecs-codecs.ensures (c.write_given.ensures.ok still));
      same = c.write_given.ensures.known.same;
      err = subst (λ (o : Option (List ℕ)). OnErr result (new.contents ≡ o)) (sym same) (c.write_given.ensures.call.err still);
    } in
    let size_is = self.sized in
    let of : IsOf (location_of self.known.location) self.known.size old.contents old.pairs old.end =
    subst (λ (l : Location). IsOf l self.known.size old.contents old.pairs old.end) (sym self.located) (subst (λ n. IsOf s.location n old.contents old.pairs old.end) (sym size_is) (told_of s old told)) in
    let exact = g.I.ArrayToBytesCodecTraits.is_function codec.inner_codecs in
    let still = subst IsTrue (laws.honest _ _ follows) honest in
    let put : Putting = record { shard = s; exact = exact; one = one; asked = asked_of c.args.indexer; payload = payload_of c.args.bytes } in
    after_written result put cells changes old new (after_call still) (c.in-Ok.ensures.changes honest of cells valid)

pub returns-in-Ok-clause-cause : goal.returns-in-Ok-clause-cause
returns-in-Ok-clause-cause g c = λ honest told cells valid.
    let self = c.args.self.now in
    let codec = self.codec.now in
    let contents = g.E.BytesPartialDecoderTraits.contents in
    let s : ShardOf = record {
      subchunk = codec.subchunk_shape;
      inner = g.I.ArrayToBytesCodecTraits.meaning codec.inner_codecs;
      index = g.X.ArrayToBytesCodecTraits.meaning codec.index_codecs;
      location = location_of codec.index_location;
      elements = elements_of self.elements.now;
      shape = self.shape.now;
    } in
    let old : Held = held_as (contents self.source) (pairs_in self.known) (end_of self.known) in
    let pairs_shape = self.known.shape.items in
    let shape_is : pairs_shape ≡ index_shape s.shape s.subchunk = self.cut in
    let new : Held = held_as (contents c.write_given.new.source) (pairs_in c.write_given.new.self) (end_of c.write_given.new.self) in
    let changes = changes_of c.in-Ok.changes.items in
    let laws = g.met.E.BytesPartialDecoderTraits in
    let follows = c.in-Ok.ensures.follows in
    let later = contents c.update_asked.new.source in
    let same = laws.same _ _ follows in
    let one = g.X.ArrayToBytesCodecTraits.is_function codec.index_codecs in
    let result = c.write_given.result in
    let after_call : IsTrue (g.E.BytesPartialDecoderTraits.is_honest c.update_asked.new.source) → IsAfter result s one changes old new = λ still. record {
      pairs = c.write_given.ensures.known.pairs;
      room = c.write_given.ensures.known.room;
      written = changed_as result s.index one s.location (location_of self.known.location) (index_shape s.shape s.subchunk) pairs_shape changes old.end new.end new.pairs old.contents later new.contents self.located shape_is same
          (subst (λ x. OnOk result (IsChanged (index_coding (g.X.ArrayToBytesCodecTraits.meaning x) (g.X.ArrayToBytesCodecTraits.is_function x) (location_of self.known.location) pairs_shape) changes later old.end new)) c.index_codecs-codecs.ensures (c.write_given.ensures.ok still));
      same = c.write_given.ensures.known.same;
      err = subst (λ (o : Option (List ℕ)). OnErr result (new.contents ≡ o)) (sym same) (c.write_given.ensures.call.err still);
    } in
    let size_is = self.sized in
    let of : IsOf (location_of self.known.location) self.known.size old.contents old.pairs old.end =
    subst (λ (l : Location). IsOf l self.known.size old.contents old.pairs old.end) (sym self.located) (subst (λ n. IsOf s.location n old.contents old.pairs old.end) (sym size_is) (told_of s old told)) in
    let exact = g.I.ArrayToBytesCodecTraits.is_function codec.inner_codecs in
    let still = subst IsTrue (laws.honest _ _ follows) honest in
    after_refused result s exact (put_at s.shape s.subchunk (numbers_asked s.shape (asked_of c.args.indexer)) cells) changes old (c.in-Ok.ensures.changes honest of cells valid)
    (refused_as result s.index s.location (location_of self.known.location) (index_shape s.shape s.subchunk) pairs_shape changes old.end (pairs_after old.end changes old.pairs) self.located shape_is
    (subst (λ x. ChangesRefused (index_layout (g.X.ArrayToBytesCodecTraits.meaning x) (location_of self.known.location) pairs_shape) changes old.end (pairs_after old.end changes old.pairs) result) c.index_codecs-codecs.ensures (c.write_given.ensures.cause still)))

pub returns-in-Err-clause-cause : goal.returns-in-Err-clause-cause
returns-in-Err-clause-cause g c = λ honest told cells valid.
    let self = c.args.self.now in
    let codec = self.codec.now in
    let contents = g.E.BytesPartialDecoderTraits.contents in
    let s : ShardOf = record {
      subchunk = codec.subchunk_shape;
      inner = g.I.ArrayToBytesCodecTraits.meaning codec.inner_codecs;
      index = g.X.ArrayToBytesCodecTraits.meaning codec.index_codecs;
      location = location_of codec.index_location;
      elements = elements_of self.elements.now;
      shape = self.shape.now;
    } in
    let old : Held = held_as (contents self.source) (pairs_in self.known) (end_of self.known) in
    let size_is = self.sized in
    let of : IsOf (location_of self.known.location) self.known.size old.contents old.pairs old.end =
    subst (λ (l : Location). IsOf l self.known.size old.contents old.pairs old.end) (sym self.located) (subst (λ n. IsOf s.location n old.contents old.pairs old.end) (sym size_is) (told_of s old told)) in
    let exact = g.I.ArrayToBytesCodecTraits.is_function codec.inner_codecs in
    unchanged s exact (put_at s.shape s.subchunk (numbers_asked s.shape (asked_of c.args.indexer)) cells) old c.in-Err.error (c.in-Err.ensures.changes honest of cells valid)

pub returns-in-Ok-clause-given : goal.returns-in-Ok-clause-given
returns-in-Ok-clause-given g c =
    let self = c.args.self.now in
    let codec = self.codec.now in
    let s : ShardOf = record {
      subchunk = codec.subchunk_shape;
      inner = g.I.ArrayToBytesCodecTraits.meaning codec.inner_codecs;
      index = g.X.ArrayToBytesCodecTraits.meaning codec.index_codecs;
      location = location_of codec.index_location;
      elements = elements_of self.elements.now;
      shape = self.shape.now;
    } in
    let D = g.E.BytesPartialDecoderTraits in
    let numbers = numbers_asked s.shape (asked_of c.args.indexer) in
    let pairs = pairs_in self.known in
    let end = end_of self.known in
    let size_is = self.sized in
    let long : shard_length (location_of self.known.location) self.known.size end ≡ shard_length s.location (index_length s) end = ap (λ (l : Location). shard_length l self.known.size end) self.located ∙ ap (λ n. shard_length s.location n end) size_is in
    let ranges = g.E.BytesPartialEncoderTraits.writes_ranges in
    let laws = g.met.E.BytesPartialDecoderTraits in
    let follows = c.in-Ok.ensures.follows in
    let changes = changes_of c.in-Ok.changes.items in
    record {
      all = λ honest.
          let still = subst IsTrue (laws.honest _ _ follows) honest in
          let first = g.met.E.BytesPartialEncoderTraits.still_ranges _ _ (g.met.E.BytesPartialEncoderTraits.reads _ _ follows) in
          let patch = ap (λ (b : Bool). most_to_patch b (D.contents self.source)) first ∙ ap (most_to_patch (ranges c.update_asked.new.source)) (laws.same _ _ follows) in
          let few = subst (λ n. D.given_bytes c.update_asked.new.source ≤ D.given_bytes self.source + bytes_met s.shape s.subchunk numbers pairs n) long (c.in-Ok.ensures.given honest) in
          let taken = c.write_given.ensures.call.taken still in
          omega (arith, few, patch, taken);
      unwritten = λ honest.
          let still = subst IsTrue (laws.honest _ _ follows) honest in
          written_after _ _ (g.X.ArrayToBytesCodecTraits.meaning c.index_codecs-codecs.result.now) (location_of self.known.location) self.known.shape.items changes end (pairs_after end changes pairs) c.write_given.result (c.write_given.ensures.cause still);
    }

pub returns-in-Err-clause-given : goal.returns-in-Err-clause-given
returns-in-Err-clause-given g c =
    let self = c.args.self.now in
    let codec = self.codec.now in
    let s : ShardOf = record {
      subchunk = codec.subchunk_shape;
      inner = g.I.ArrayToBytesCodecTraits.meaning codec.inner_codecs;
      index = g.X.ArrayToBytesCodecTraits.meaning codec.index_codecs;
      location = location_of codec.index_location;
      elements = elements_of self.elements.now;
      shape = self.shape.now;
    } in
    let D = g.E.BytesPartialDecoderTraits in
    let numbers = numbers_asked s.shape (asked_of c.args.indexer) in
    let pairs = pairs_in self.known in
    let end = end_of self.known in
    let size_is = self.sized in
    let long : shard_length (location_of self.known.location) self.known.size end ≡ shard_length s.location (index_length s) end = ap (λ (l : Location). shard_length l self.known.size end) self.located ∙ ap (λ n. shard_length s.location n end) size_is in
    record {
      all = λ honest.
          let few = subst (λ n. D.given_bytes c.update_asked.new.source ≤ D.given_bytes self.source + bytes_met s.shape s.subchunk numbers pairs n) long (c.in-Err.ensures.given honest) in
          omega (arith, few);
      unwritten = λ honest first. subst (λ n. D.given_bytes c.update_asked.new.source ≤ D.given_bytes self.source + bytes_met s.shape s.subchunk numbers pairs n) long (c.in-Err.ensures.given honest);
    }
