-- Parts of what metadata says.
use Rattle.std.specs.Prelude.{codes, bytes_eq, if◌then◌else◌, Option, None}
use Rattle.zarr_grids_metadata.specs.ExtensionPoints.{ExtensionPoint, configuration_members}
use Rattle.zarr_codecs_meaning.specs.Chains.{Chain}
use Rattle.zarr_codecs_metadata.specs.Chains.{bytes_of}
use Rattle.zarr_codecs_metadata.specs.PackBits.{packbits_of}

-- the array to bytes codec without chains inside of it that an extension point is
abbrev pub leaf_in : ExtensionPoint → Option Chain
leaf_in point =
    if bytes_eq point.name (codes "bytes") then bytes_of (configuration_members point.configuration)
    else (if bytes_eq point.name (codes "packbits") then packbits_of (configuration_members point.configuration) else None)
