use Rattle.std.proofs.Common.{◌∙◌, map, sym}
use Rattle.zarr_codecs_around.specs.Views.{plain_with}
use Rattle.zarr_codecs_around.proofs.then_bytes_values.ThenBytesWholeValues.keeps_fill.Goals as goal

pub returns : goal.returns
returns g c = c.makes_no_shard.ensures ∙ sym (plain_with (g.A.ArrayToBytesCodecTraits.meaning c.args.self.now.codec) (map g.B.BytesToBytesCodecTraits.meaning c.args.self.now.bytes_to_bytes.items))
