use Rattle.std.proofs.Common.{rules, ◌≡◌, ◌∙◌, ap, length, ◌==◌}
use Rattle.zarr_codecs_chains.proofs.Allowed.{none_between}
use Rattle.zarr_codecs_chains.proofs.allowing.has_no_array_codec.Goals as goal

pub returns : goal.returns
returns g c =
    let meaning = g.B.BytesToBytesCodecTraits.meaning in
    let chain = c.args.chain.now in
    let same : chain.array_to_array.len ≡ length chain.array_to_array.items = search rules in
    c.is_empty.ensures ∙ (ap (λ n. n == 0) same ∙ none_between meaning chain.array_to_array.items chain.others.array_to_bytes chain.others.bytes_to_bytes.items)
