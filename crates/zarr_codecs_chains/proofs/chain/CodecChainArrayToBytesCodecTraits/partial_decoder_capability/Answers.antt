use Rattle.std.proofs.Common.{◌∙◌, sym}
use Rattle.zarr_codecs_around.specs.Views.{codecs_of}
use Rattle.zarr_codecs_chains.specs.Views.{bytes_meaning}
use Rattle.zarr_codecs_around.proofs.Telling.{decodes_before}
use Rattle.zarr_codecs_chains.proofs.chain.CodecChainArrayToBytesCodecTraits.partial_decoder_capability.Goals as goal

pub returns : goal.returns
returns g c =
    let rest = bytes_meaning g.B.BytesToBytesCodecTraits.meaning c.args.self.now.others in
    c.partial_decoder_capability.ensures ∙ sym (decodes_before (codecs_of c.args.self.now.array_to_array.items) rest)
