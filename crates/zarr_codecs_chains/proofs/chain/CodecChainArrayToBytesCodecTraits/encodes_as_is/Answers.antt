use Rattle.std.proofs.Common.{rules, ◌≡◌, ◌∙◌, sym, length}
use Rattle.std.proofs.lemmas.Bool.{eqb-false}
use Rattle.zarr_codecs_chains.specs.Views.{bytes_meaning}
use Rattle.zarr_codecs_around.proofs.Telling.{never_as_is_before}
use Rattle.zarr_codecs_chains.proofs.chain.CodecChainArrayToBytesCodecTraits.encodes_as_is.Goals as goal

pub returns-else-is_empty : goal.returns-else-is_empty
returns-else-is_empty g c =
    let rest = bytes_meaning g.B.BytesToBytesCodecTraits.meaning c.args.self.now.others in
    let codecs = c.args.self.now.array_to_array in
    let some = eqb-false codecs.len 0 (sym c.is_empty.ensures ∙ c.if-is_empty.false) in
    let same : codecs.len ≡ length codecs.items = search rules in
    c.if-is_empty.false ∙ never_as_is_before codecs.items rest (λ e. some (same ∙ e))
