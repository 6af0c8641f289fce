use Rattle.std.proofs.Common.{◌≡◌, ◌∙◌}
use Rattle.zarr_codecs_chains.specs.Views.{codec_chain}
use Rattle.zarr_codecs_chains.proofs.Allowed.{allowed_between}
use Rattle.zarr_codecs_chains.proofs.allowing.+allowing.Goals as goal

pub is_allowed-returns : goal.is_allowed-returns
is_allowed-returns g t c =
    let meaning = g.B.BytesToBytesCodecTraits.meaning in
    let chain = c.args.chain.now in
    c.codec_is_allowed.ensures ∙ allowed_between meaning chain.array_to_array.items (codec_chain meaning chain.others.array_to_bytes) chain.others.bytes_to_bytes.items
