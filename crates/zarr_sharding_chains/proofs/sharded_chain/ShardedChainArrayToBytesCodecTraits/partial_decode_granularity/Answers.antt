use Rattle.std.proofs.Common.{rules, ◌≡◌, ◌∙◌, sym, subst, length}
use Rattle.std.proofs.lemmas.Bool.{eqb-false}
use Rattle.std.specs.Prelude.{IfOk}
use Rattle.zarr_codecs_around.proofs.Telling.{granularity_whole}
use Rattle.zarr_sharding_chains.specs.Views.{others_meaning}
use Rattle.zarr_sharding_chains.proofs.sharded_chain.ShardedChainArrayToBytesCodecTraits.partial_decode_granularity.Goals as goal

pub returns : goal.returns
returns g c =
    let rest = others_meaning g.I.ArrayToBytesCodecTraits.meaning g.B.BytesToBytesCodecTraits.meaning c.args.self.now in
    let codecs = c.args.self.now.array_to_array in
    let some = eqb-false codecs.len 0 (sym c.is_empty.ensures ∙ c.if-is_empty.false) in
    let same : codecs.len ≡ length codecs.items = search rules in
    let copied : IfOk c.to_vec.result (λ part. part.items ≡ c.args.shape.now) = search rules in
    subst (λ es. IfOk c.to_vec.result (λ part. part.items ≡ es)) (granularity_whole codecs.items rest c.args.shape.now (λ e. some (same ∙ e))) copied
