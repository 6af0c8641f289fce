use Rattle.std.proofs.Common.{◌∙◌, sym}
use Rattle.zarr_codecs_around.specs.Views.{codecs_of}
use Rattle.zarr_codecs_around.proofs.Telling.{decodes_before}
use Rattle.zarr_sharding_chains.specs.Views.{others_meaning}
use Rattle.zarr_sharding_chains.proofs.sharded_chain.ShardedChainArrayToBytesCodecTraits.partial_decoder_capability.Goals as goal

pub returns : goal.returns
returns g c =
    let rest = others_meaning g.I.ArrayToBytesCodecTraits.meaning g.B.BytesToBytesCodecTraits.meaning c.args.self.now in
    c.partial_decoder_capability.ensures ∙ sym (decodes_before (codecs_of c.args.self.now.array_to_array.items) rest)
