use Rattle.std.proofs.Common.{◌∙◌, ap, sym, subst, IsTrue, length, option_and_then, option_map}
use Rattle.zarr_codecs_meaning.specs.Places.{index_shape}
use Rattle.zarr_sharding_index.specs.HeldIndex.{held_pairs}
use Rattle.zarr_sharding_index.specs.Views.{location_of, pair_of}
use Rattle.zarr_sharding_partial.specs.Pairs.{totals}
use Rattle.zarr_sharding_partial.specs.Decoders.{shard_of}
use Rattle.zarr_sharding_partial.proofs.Opened.{slice_taken}
use Rattle.zarr_sharding_partial.proofs.partial_decoder.ShardingPartialDecoder.retrieve_subchunk_encoded.Goals as goal

pub invariant_of-self-2 : goal.invariant_of-self-2
invariant_of-self-2 g c =
    let self = c.args.self.now in
    let laws = g.met.D.BytesPartialDecoderTraits in
    let same = laws.same _ _ c.fetch_slice.ensures.follows in
    let still = laws.honest _ _ c.fetch_slice.ensures.follows in
    let held = held_pairs (g.X.ArrayToBytesCodecTraits.meaning self.codec.now.index_codecs) (location_of self.codec.now.index_location) (index_shape self.shape.now self.codec.now.subchunk_shape) in
    record {
      fit = self.fit;
      told = λ honest. ap (option_map length) (sym same) ∙ self.told (subst IsTrue (sym still) honest);
      opened = λ honest. ap (option_and_then held) (sym same) ∙ self.opened (subst IsTrue (sym still) honest);
      many = self.many;
      cut = self.cut;
      few = self.few;
      sized = self.sized;
    }

pub returns-in-Ok-clause-given : goal.returns-in-Ok-clause-given
returns-in-Ok-clause-given g c = λ honest.
    let self = c.args.self.now in
    let D = g.D.BytesPartialDecoderTraits in
    let s = shard_of g.I.ArrayToBytesCodecTraits.meaning g.X.ArrayToBytesCodecTraits.meaning self in
    let pair = sym (ap (option_map pair_of) c.in-Ok-Some.field-0-is) ∙ (c.in-Ok-Some.ensures.pair honest).1 in
    slice_taken s (D.contents self.source.now) c.args.subchunk_indices.now c.in-Ok-Some.range c.in-Some.held.total (D.given_bytes self.source.now) (D.given_bytes c.fetch_slice.new.source) (self.told honest ∙ ap totals c.in-Some.is) pair (c.in-Ok.ensures.given honest) c.in-Ok.ensures.past

pub returns-in-Err-fetch_slice-clause-given : goal.returns-in-Err-fetch_slice-clause-given
returns-in-Err-fetch_slice-clause-given g c = λ honest.
    let self = c.args.self.now in
    let D = g.D.BytesPartialDecoderTraits in
    let s = shard_of g.I.ArrayToBytesCodecTraits.meaning g.X.ArrayToBytesCodecTraits.meaning self in
    let pair = sym (ap (option_map pair_of) c.in-Ok-Some.field-0-is) ∙ (c.in-Ok-Some.ensures.pair honest).1 in
    slice_taken s (D.contents self.source.now) c.args.subchunk_indices.now c.in-Ok-Some.range c.in-Some.held.total (D.given_bytes self.source.now) (D.given_bytes c.fetch_slice.new.source) (self.told honest ∙ ap totals c.in-Some.is) pair (c.in-Err-fetch_slice.ensures.given honest) c.in-Err-fetch_slice.ensures.past
