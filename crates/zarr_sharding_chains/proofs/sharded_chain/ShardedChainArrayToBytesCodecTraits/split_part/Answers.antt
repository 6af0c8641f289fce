use Rattle.std.proofs.Common.{rules, ◌≡◌, ◌∙◌, ap, sym, length, []}
use Rattle.std.proofs.lemmas.Bool.{eqb-true}
use Rattle.std.proofs.lemmas.List.{nil_from_length}
use Rattle.zarr_codecs_arrays.specs.Views.{elements_of}
use Rattle.zarr_codecs_traits.specs.Indexers.{asked_of}
use Rattle.zarr_codecs_around.specs.Views.{codecs_of}
use Rattle.zarr_sharding_chains.specs.Pieces.{around_shard}
use Rattle.zarr_sharding_chains.specs.Views.{others_meaning}
use Rattle.zarr_sharding_chains.proofs.CutSharded.{part_cut_alone}
use Rattle.zarr_sharding_chains.proofs.sharded_chain.ShardedChainArrayToBytesCodecTraits.split_part.Goals as goal

pub returns-then-is_empty-clause-part : goal.returns-then-is_empty-clause-part
returns-then-is_empty-clause-part g c = λ honest.
    let I = g.I.ArrayToBytesCodecTraits in
    let bytes = g.B.BytesToBytesCodecTraits.meaning in
    let around = around_shard I.meaning I.is_function bytes c.args.self.now in
    let rest = others_meaning I.meaning bytes c.args.self.now in
    let arrays = c.args.self.now.array_to_array in
    let same : arrays.len ≡ length arrays.items = search rules in
    let none : codecs_of arrays.items ≡ [] = ap codecs_of (nil_from_length arrays.items (sym same ∙ eqb-true arrays.len 0 (sym c.is_empty.ensures ∙ c.if-is_empty.true))) in
    part_cut_alone around rest (elements_of c.args.part.elements.now) c.args.part.shape.now (g.D.BytesPartialDecoderTraits.contents c.args.source.now) (asked_of c.args.part.indexer) c.split_part.result none (c.split_part.ensures.part honest)
