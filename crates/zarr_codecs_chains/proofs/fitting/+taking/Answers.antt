use Rattle.std.proofs.Common.{rules, ◌≡◌, ◌∙◌, sym, length}
use Rattle.std.proofs.lemmas.Bool.{eqb-false}
use Rattle.zarr_codecs_chains.specs.Views.{codec_chain}
use Rattle.zarr_codecs_around.proofs.AllArrayCodecs.{takes_between, never_takes}
use Rattle.zarr_codecs_chains.proofs.fitting.+taking.Goals as goal

pub takes_each_shape-returns-then-is_empty : goal.takes_each_shape-returns-then-is_empty
takes_each_shape-returns-then-is_empty g t c =
    let meaning = g.B.BytesToBytesCodecTraits.meaning in
    let chain = c.args.chain.now in
    let none : length chain.array_to_array.items ≡ 0 = search rules in
    c.codec_takes_each_shape.ensures ∙ takes_between meaning chain.array_to_array.items (codec_chain meaning chain.others.array_to_bytes) chain.others.bytes_to_bytes.items none

pub takes_each_shape-returns-else-is_empty : goal.takes_each_shape-returns-else-is_empty
takes_each_shape-returns-else-is_empty g t c =
    let meaning = g.B.BytesToBytesCodecTraits.meaning in
    let chain = c.args.chain.now in
    let some = eqb-false chain.array_to_array.len 0 (sym c.is_empty.ensures ∙ c.if-is_empty.false) in
    let same : chain.array_to_array.len ≡ length chain.array_to_array.items = search rules in
    c.if-is_empty.false ∙ never_takes meaning chain.array_to_array.items (codec_chain meaning chain.others.array_to_bytes) chain.others.bytes_to_bytes.items (λ e. some (same ∙ e))
