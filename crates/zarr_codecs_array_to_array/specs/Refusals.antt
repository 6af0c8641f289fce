-- Why metadata is refused as that of a codec between arrays (this project's profile).
use Rattle.std.specs.Prelude.{ℕ, List, codes, bytes_eq, Bool, true, false, ◌||◌}
use Rattle.zarr_grids_metadata.specs.declared.error.PluginCreateError.{PluginCreateError}
use Rattle.zarr_grids_metadata.specs.declared.error.PluginCreateError.TheVariants as plugin
use Rattle.zarr_codecs_metadata.specs.ArrayCodecs.{names_squeeze}

-- whether a name is that of a codec between arrays
abbrev pub names_array_codec : List ℕ → Bool
names_array_codec name = bytes_eq name (codes "transpose") || (bytes_eq name (codes "reshape") || names_squeeze name)

-- the cause for which metadata is refused, memory aside: the configuration where the name is known, else the name
abbrev pub cause_of : Bool → PluginCreateError
cause_of true = plugin.MetadataInvalid
cause_of false = plugin.NameUnsupported
