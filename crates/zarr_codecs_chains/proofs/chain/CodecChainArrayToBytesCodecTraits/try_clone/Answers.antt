use Rattle.std.proofs.Common.{◌≡◌}
use Rattle.zarr_codecs_chains.specs.Names.{WritesAlike}
use Rattle.zarr_codecs_chains.specs.Views.{points_of}
use Rattle.zarr_codecs_chains.proofs.Copied.{copied_each}
use Rattle.zarr_codecs_chains.proofs.chain.CodecChainArrayToBytesCodecTraits.try_clone.Goals as goal

pub returns-clause-copied : goal.returns-clause-copied
returns-clause-copied g c = copied_each (WritesAlike g.B.BytesToBytesCodecTraits.meaning) (λ described copy. points_of described copy ≡ points_of described c.args.self.now) c.copy_chain.result c.copy_chain.ensures.written
