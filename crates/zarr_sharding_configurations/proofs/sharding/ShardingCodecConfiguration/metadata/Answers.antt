use Rattle.std.proofs.Common.{◌∙◌, ap}
use Rattle.zarr_grids_metadata.specs.ExtensionPoints.{ExtensionPoint, configuration_members}
use Rattle.zarr_sharding_metadata.specs.Metadata.{shard_points_in}
use Rattle.zarr_sharding_configurations.specs.Views.{shard_points}
use Rattle.zarr_sharding_configurations.proofs.ReadsBack.{shard_back}
use Rattle.zarr_sharding_configurations.proofs.sharding.ShardingCodecConfiguration.metadata.Goals as goal

pub returns-clause-reads_back : goal.returns-clause-reads_back
returns-clause-reads_back c =
    ap (λ (p : ExtensionPoint). shard_points_in (configuration_members p.configuration)) c.new_with_configuration.ensures
    ∙ (ap shard_points_in c.in_ok-members.ensures.written ∙ shard_back (shard_points c.args.self.now) c.members_of.ensures.positive)
