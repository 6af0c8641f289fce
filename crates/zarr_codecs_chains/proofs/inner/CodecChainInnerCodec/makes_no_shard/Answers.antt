use Rattle.std.proofs.Common.{sym}
use Rattle.zarr_codecs_chains.specs.Views.{chain_plain}
use Rattle.zarr_codecs_chains.proofs.inner.CodecChainInnerCodec.makes_no_shard.Goals as goal

pub returns : goal.returns
returns g c = sym (chain_plain g.B.BytesToBytesCodecTraits.meaning c.args.self.now)
