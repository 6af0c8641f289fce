use Rattle.std.proofs.Common.{◌∙◌, sym}
use Rattle.zarr_codecs_around.specs.Views.{codecs_of}
use Rattle.zarr_codecs_chains.specs.Views.{bytes_meaning}
use Rattle.zarr_codecs_chains.specs.Views.{bytes_plain}
use Rattle.zarr_codecs_around.proofs.Telling.{encodes_before}
use Rattle.zarr_codecs_chains.proofs.chain.CodecChainArrayToBytesCodecTraits.partial_encoder_capability.Goals as goal

pub returns : goal.returns
returns g c =
    let rest = bytes_meaning g.B.BytesToBytesCodecTraits.meaning c.args.self.now.others in
    c.partial_encoder_capability.ensures ∙ sym (encodes_before (codecs_of c.args.self.now.array_to_array.items) rest (bytes_plain g.B.BytesToBytesCodecTraits.meaning c.args.self.now.others))
