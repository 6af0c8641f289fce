use Rattle.std.proofs.Common.{◌≡◌}
use Rattle.zarr_codecs_chains.specs.Names.{WritesAlike}
use Rattle.zarr_codecs_chains.specs.Views.{codec_point}
use Rattle.zarr_codecs_chains.proofs.Copied.{copied_each}
use Rattle.zarr_codecs_chains.proofs.array_to_bytes.ArrayToBytesCodecArrayToBytesCodecTraits.try_clone.Goals as goal

pub returns-clause-copied : goal.returns-clause-copied
returns-clause-copied g c = copied_each (WritesAlike g.B.BytesToBytesCodecTraits.meaning) (λ described copy. codec_point described copy ≡ codec_point described c.args.self.now) c.copy_codec.result c.copy_codec.ensures.written
