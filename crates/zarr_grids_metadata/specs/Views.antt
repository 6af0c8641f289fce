-- What the extension points and the configurations of `src/` stand for.
use Rattle.std.specs.Prelude.{string_bytes, option_map}
use Rattle.serde_json.specs.Data.{Members}
use Rattle.serde_json.specs.View.{members_view}
use Rattle.zarr_grids_metadata.specs.declared.extension_point.Configuration.{Configuration}
use Rattle.zarr_grids_metadata.specs.declared.extension_point.ExtensionPoint.{ExtensionPoint}
use Rattle.zarr_grids_metadata.specs.declared.metadata.MetadataV3.{MetadataV3}
use Rattle.zarr_grids_metadata.specs.ExtensionPoints as points

-- the members of a configuration
abbrev pub configuration_view : Configuration → Members
configuration_view configuration = points.configuration_members (option_map (λ members. members_view members.now.entries) configuration.members)

-- the name, the configuration and the flag of an extension point
abbrev pub point_view : ExtensionPoint → points.ExtensionPoint
point_view point = record { name = point.name.now; configuration = option_map (λ members. members_view members.now.entries) point.configuration; must_understand = point.must_understand }

-- the name, the configuration and the flag of an extension point that owns them
abbrev pub point_of : MetadataV3 → points.ExtensionPoint
point_of metadata = record { name = string_bytes metadata.name; configuration = option_map (λ members. members_view members.entries) metadata.configuration; must_understand = metadata.must_understand }
