use Rattle.std.proofs.Common.{◌≡◌, ◌∙◌, ap, Some}
use Rattle.std.proofs.lemmas.Result.{IfOk-weaker}
use Rattle.zarr_grids_metadata.specs.ExtensionPoints.{configuration_members}
use Rattle.zarr_grids_metadata.specs.Views.{point_of}
use Rattle.zarr_codecs_chains.specs.Views.{meaning_of}
use Rattle.zarr_sharding_metadata.specs.Metadata.{shard_points_in}
use Rattle.zarr_sharding_metadata.specs.Nesting.{shard_in}
use Rattle.zarr_sharding_configurations.specs.Views.{shard_points}
use Rattle.zarr_sharding_configurations.specs.Written.{shard_point}
use Rattle.zarr_sharding_codec.specs.Views.{shard_chain}
use Rattle.zarr_sharding_chains.specs.Metadata.{sharding_point}
use Rattle.zarr_sharding_chains.proofs.Written.{both_made, said_written}
use Rattle.zarr_sharding_chains.proofs.sharded_metadata.shard_metadata.Goals as goal

pub returns-clause-written : goal.returns-clause-written
returns-clause-written g c =
    let codec = c.args.codec.now in
    let given = c.in_ok-configuration.configuration in
    IfOk-weaker c.metadata.result (λ metadata. point_of metadata ≡ shard_point (shard_points given)) (λ metadata. point_of metadata ≡ sharding_point g.I.ChainOfMetadata.described g.B.BytesToBytesCodecTraits.described codec)
    (λ metadata is. is ∙ ap shard_point c.in_ok-configuration.ensures.given) c.metadata.ensures.written

pub returns-clause-made_again : goal.returns-clause-made_again
returns-clause-made_again g c = λ allowed.
    let b = g.B.BytesToBytesCodecTraits in
    let inner = g.I.ChainOfMetadata.reads in
    let chain = shard_chain g.I.ArrayToBytesCodecTraits.meaning (meaning_of b.meaning) c.args.codec.now in
    let given = shard_points c.in_ok-configuration.configuration in
    both_made c.metadata.result (λ metadata. point_of metadata ≡ shard_point given) (λ metadata. shard_points_in (configuration_members (point_of metadata).configuration) ≡ Some given) (λ metadata. shard_in b.reads inner (point_of metadata) ≡ Some chain)
    (λ metadata is back. said_written b.reads inner (point_of metadata) given chain is back (c.in_ok-configuration.ensures.made_again allowed)) c.metadata.ensures.written c.metadata.ensures.reads_back
