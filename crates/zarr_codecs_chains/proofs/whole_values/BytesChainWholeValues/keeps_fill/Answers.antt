use Rattle.std.proofs.Common.{sym}
use Rattle.zarr_codecs_chains.specs.Views.{bytes_plain}
use Rattle.zarr_codecs_chains.proofs.whole_values.BytesChainWholeValues.keeps_fill.Goals as goal

pub returns : goal.returns
returns g c = sym (bytes_plain g.B.BytesToBytesCodecTraits.meaning c.args.self.now)
