-- The codec `x-reverse`, which reverses bytes.
use Rattle.std.specs.Prelude.{◌≡◌, reverse, Option, Some, None, Bool, [], codes, bytes_eq, if◌then◌else◌, ◌&&◌}
use Rattle.zarr_grids_metadata.specs.ExtensionPoints.{ExtensionPoint, configuration_members, named}
use Rattle.zarr_grids_metadata.specs.Members.{has_only}
use Rattle.zarr_codecs_meaning.specs.Chains.{ByteCodec}
use Rattle.zarr_codecs_meaning.specs.Laws.{IsLawful}

-- the codec that reverses bytes, and undoes that by the same
abbrev pub reversing : ByteCodec
reversing = record { encode = λ bytes. Some (reverse bytes); decode = λ bytes. Some (reverse bytes); representation = λ known. known }

-- the metadata of the codec: its name alone
abbrev pub reversing_point : ExtensionPoint
reversing_point = named (codes "x-reverse")

-- whether metadata says this codec: it has the codec's name, and no field in its configuration
abbrev pub names_reversing : ExtensionPoint → Bool
names_reversing point = bytes_eq point.name (codes "x-reverse") && has_only [] (configuration_members point.configuration)

-- the codec that metadata says
abbrev pub reads_reversing : ExtensionPoint → Option ByteCodec
reads_reversing point = if names_reversing point then Some reversing else None

-- each codec that metadata says so is lawful
abbrev pub ReadsLawful : Type 0
ReadsLawful = (point : ExtensionPoint) (codec : ByteCodec) → reads_reversing point ≡ Some codec → IsLawful codec
