use Rattle.std.proofs.Common.{rules, ◌≡◌, ◌∙◌, sym, length}
use Rattle.std.proofs.lemmas.Bool.{eqb-false}
use Rattle.zarr_codecs_chains.specs.Views.{codec_chain}
use Rattle.zarr_codecs_around.proofs.Telling.{never_as_is_after}
use Rattle.zarr_codecs_chains.proofs.bytes_chain.BytesChainArrayToBytesCodecTraits.encodes_as_is.Goals as goal

pub returns-else-is_empty : goal.returns-else-is_empty
returns-else-is_empty g c =
    let codecs = c.args.self.now.bytes_to_bytes in
    let some = eqb-false codecs.len 0 (sym c.is_empty.ensures ∙ c.if-is_empty.false) in
    let same : codecs.len ≡ length codecs.items = search rules in
    c.if-is_empty.false ∙ never_as_is_after (codec_chain g.B.BytesToBytesCodecTraits.meaning c.args.self.now.array_to_bytes) g.B.BytesToBytesCodecTraits.meaning codecs.items (λ e. some (same ∙ e))
