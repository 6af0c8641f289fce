use Rattle.std.proofs.Common.{◌∙◌, ap, refl}
use Rattle.zarr_grids_metadata.specs.ExtensionPoints.{ExtensionPoint, configuration_members}
use Rattle.zarr_codecs_sections.specs.Views.{width_of}
use Rattle.zarr_codecs_sections.specs.declared.index.VlenIndexDataType.{VlenIndexDataType}
use Rattle.zarr_codecs_sections.specs.declared.index.VlenIndexDataType.TheVariants.{UInt32, UInt64}
use Rattle.zarr_codecs_configurations.specs.Reading.{vlen_points_in}
use Rattle.zarr_codecs_configurations.specs.Views.{vlen_points}
use Rattle.zarr_codecs_configurations.proofs.ReadsBack.{IsWidth, vlen_back}
use Rattle.zarr_codecs_configurations.proofs.vlen.VlenCodecConfiguration.metadata.Goals as goal

width_back : (d : VlenIndexDataType) → IsWidth (width_of d)
width_back UInt32 = refl
width_back UInt64 = refl

pub returns-clause-reads_back : goal.returns-clause-reads_back
returns-clause-reads_back c =
    let configuration = c.args.self.now in
    ap (λ (p : ExtensionPoint). vlen_points_in (configuration_members p.configuration)) c.new_with_configuration.ensures
    ∙ (ap vlen_points_in c.in_ok-members.ensures ∙ vlen_back (vlen_points configuration) (width_back configuration.index_data_type))
