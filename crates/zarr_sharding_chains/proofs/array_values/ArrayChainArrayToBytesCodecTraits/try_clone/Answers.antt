use Rattle.std.proofs.Common.{◌≡◌, ◌∙◌, [], ◌∷◌, ap, sym}
use Rattle.zarr_codecs_chains.specs.Views.{meaning_of, points_of}
use Rattle.zarr_sharding_chains.specs.Metadata.{IsArrayCopy}
use Rattle.zarr_sharding_chains.proofs.CopiedPoints.{nested_copy, sharded_copy}
use Rattle.zarr_sharding_chains.proofs.array_values.ArrayChainArrayToBytesCodecTraits.try_clone.Goals as goal

pub returns-in_ok-try_clone-in-Sharded-clause-copied : goal.returns-in_ok-try_clone-in-Sharded-clause-copied
returns-in_ok-try_clone-in-Sharded-clause-copied g c =
    sharded_copy g.B.BytesToBytesCodecTraits.meaning c.args.self.now c.in-Sharded.chain c.in_ok-try_clone-in-Sharded.field-0 c.in-Sharded.is c.in_ok-try_clone-in-Sharded.ensures.meaning c.in_ok-try_clone-in-Sharded.ensures.copied

pub returns-in_ok-try_clone-in-Nested-clause-copied : goal.returns-in_ok-try_clone-in-Nested-clause-copied
returns-in_ok-try_clone-in-Nested-clause-copied g c =
    nested_copy g.B.BytesToBytesCodecTraits.meaning c.args.self.now c.in-Nested.chain c.in_ok-try_clone-in-Nested.field-0 c.in-Nested.is c.in_ok-try_clone-in-Nested.ensures.meaning c.in_ok-try_clone-in-Nested.ensures.copied
