use Rattle.std.proofs.Common.{◌≡◌, sym}
use Rattle.zarr_codecs_chains.specs.Views.{codec_chain}
use Rattle.zarr_codecs_chains.proofs.Allowed.{allowed_between}
use Rattle.zarr_codecs_chains.proofs.chain.CodecChain.new.Goals as goal

pub returns-clause-allowed : goal.returns-clause-allowed
returns-clause-allowed g c =
    let meaning = g.B.BytesToBytesCodecTraits.meaning in
    sym (allowed_between meaning c.args.array_to_array.items (codec_chain meaning c.args.array_to_bytes) c.args.bytes_to_bytes.items)
