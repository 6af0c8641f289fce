use Rattle.std.proofs.Common.{◌≡◌, ◌∙◌, sym, subst, length, replicate, IsTrue, OnOk}
use Rattle.zarr_codecs_arrays.specs.Views.{elements_of}
use Rattle.zarr_codecs_meaning.specs.Chains.{Location}
use Rattle.zarr_codecs_meaning.specs.Encoding.{absent_pair, base_of}
use Rattle.zarr_sharding_partial.specs.Shards.{ShardOf}
use Rattle.zarr_sharding_index.specs.Views.{location_of}
use Rattle.zarr_sharding_index.specs.Known.{end_of, pairs_in}
use Rattle.zarr_sharding_index.specs.Held.{Held, held_as}
use Rattle.zarr_sharding_partial.proofs.Known.{IsLeft, again_told, left_erased, left_told, pairs_count, told_again}
use Rattle.zarr_sharding_partial.proofs.shard_state.ShardState.erase.Goals as goal

pub invariant_of-self : goal.invariant_of-self
invariant_of-self g c =
    let self = c.args.self.now in
    let codec = self.codec.now in
    let s : ShardOf = record {
      subchunk = codec.subchunk_shape;
      inner = g.I.ArrayToBytesCodecTraits.meaning codec.inner_codecs;
      index = g.X.ArrayToBytesCodecTraits.meaning codec.index_codecs;
      location = location_of codec.index_location;
      elements = elements_of self.elements.now;
      shape = self.shape.now;
    } in
    let old : Held = held_as (g.E.BytesPartialDecoderTraits.contents self.source) (pairs_in self.known) (end_of self.known) in
    let new : Held = held_as (g.E.BytesPartialDecoderTraits.contents c.erase.new.source) (pairs_in c.erase.new.self) (end_of c.erase.new.self) in
    let size_is = self.sized in
    let located = subst (λ (l : Location). OnOk c.erase.result ((new.pairs ≡ replicate (length old.pairs) absent_pair) × (new.end ≡ base_of l self.known.size))) self.located c.erase.ensures.ok in
    let known = subst (λ n. OnOk c.erase.result ((new.pairs ≡ replicate (length old.pairs) absent_pair) × (new.end ≡ base_of s.location n))) size_is located in
    record {
      fit = self.fit;
      small = self.small;
      located = c.erase.ensures.laid.location ∙ self.located;
      cut = c.erase.ensures.laid.shape ∙ self.cut;
      sized = c.erase.ensures.laid.size ∙ self.sized;
      told = λ honest lossless.
          let before = subst IsTrue (sym (g.met.E.BytesPartialEncoderTraits.still_honest _ _ c.erase.ensures.rewrites)) honest in
          let left : IsLeft c.erase.result s old new = record {
            count = pairs_count s self.known.shape.items old.pairs self.cut self.known.many;
            known = known;
            erased = c.erase.ensures.erased before;
            same = c.erase.ensures.same;
            err = c.erase.ensures.err before;
          } in
          told_again s new.contents new.pairs new.end (left_told c.erase.result s old new left (again_told s old.contents old.pairs old.end (self.told before lossless)));
    }

pub returns-clause-ok : goal.returns-clause-ok
returns-clause-ok g c = λ honest.
    let self = c.args.self.now in
    let codec = self.codec.now in
    let s : ShardOf = record {
      subchunk = codec.subchunk_shape;
      inner = g.I.ArrayToBytesCodecTraits.meaning codec.inner_codecs;
      index = g.X.ArrayToBytesCodecTraits.meaning codec.index_codecs;
      location = location_of codec.index_location;
      elements = elements_of self.elements.now;
      shape = self.shape.now;
    } in
    let old : Held = held_as (g.E.BytesPartialDecoderTraits.contents self.source) (pairs_in self.known) (end_of self.known) in
    let new : Held = held_as (g.E.BytesPartialDecoderTraits.contents c.erase.new.source) (pairs_in c.erase.new.self) (end_of c.erase.new.self) in
    let size_is = self.sized in
    let located = subst (λ (l : Location). OnOk c.erase.result ((new.pairs ≡ replicate (length old.pairs) absent_pair) × (new.end ≡ base_of l self.known.size))) self.located c.erase.ensures.ok in
    let known = subst (λ n. OnOk c.erase.result ((new.pairs ≡ replicate (length old.pairs) absent_pair) × (new.end ≡ base_of s.location n))) size_is located in
    left_erased c.erase.result s old new (record {
      count = pairs_count s self.known.shape.items old.pairs self.cut self.known.many;
      known = known;
      erased = c.erase.ensures.erased honest;
      same = c.erase.ensures.same;
      err = c.erase.ensures.err honest;
    })
