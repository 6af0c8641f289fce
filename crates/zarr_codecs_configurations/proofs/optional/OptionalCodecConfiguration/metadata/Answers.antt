use Rattle.std.proofs.Common.{◌∙◌, ap}
use Rattle.zarr_grids_metadata.specs.ExtensionPoints.{ExtensionPoint, configuration_members}
use Rattle.zarr_codecs_configurations.specs.Reading.{optional_points_in}
use Rattle.zarr_codecs_configurations.specs.Views.{optional_points}
use Rattle.zarr_codecs_configurations.proofs.ReadsBack.{optional_back}
use Rattle.zarr_codecs_configurations.proofs.optional.OptionalCodecConfiguration.metadata.Goals as goal

pub returns-clause-reads_back : goal.returns-clause-reads_back
returns-clause-reads_back c =
    ap (λ (p : ExtensionPoint). optional_points_in (configuration_members p.configuration)) c.new_with_configuration.ensures
    ∙ (ap optional_points_in c.in_ok-members.ensures ∙ optional_back (optional_points c.args.self.now))
