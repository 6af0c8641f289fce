-- The codec `x-wait`, which leaves bytes as they are.
use Rattle.std.specs.Prelude.{◌≡◌, length, codes, bytes_eq, Option, Some, None, if◌then◌else◌}
use Rattle.std.proofs.Common.{ap, ◌∙◌, sym, subst}
use Rattle.zarr_grids_metadata.specs.ExtensionPoints.{ExtensionPoint, named}
use Rattle.zarr_codecs_meaning.specs.Chains.{ByteCodec}
use Rattle.zarr_codecs_meaning.specs.Fits.{is_size_as}
use Rattle.zarr_codecs_meaning.specs.Laws.{IsLawful}
use Rattle.zarr_codecs_meaning.proofs.Lists.{if_some, some_same}

-- the codec that encodes and decodes bytes as themselves
abbrev pub waiting : ByteCodec
waiting = record { encode = λ bytes. Some bytes; decode = λ bytes. Some bytes; representation = λ known. known }

-- the metadata of the codec: its name alone
abbrev pub waiting_point : ExtensionPoint
waiting_point = named (codes "x-wait")

-- the codec with this metadata, of which the name alone decides
abbrev pub reads_waiting : ExtensionPoint → Option ByteCodec
reads_waiting point = if bytes_eq point.name (codes "x-wait") then Some waiting else None

-- the codec is lawful
pub waiting_lawful : IsLawful waiting
waiting_lawful = record {
  undoes = λ given made is. sym is;
  honest = λ known given made is size. ap (λ ns. is_size_as known (length ns)) (sym (some_same is)) ∙ size;
  monotone = λ known wider within. within;
}

-- and each that metadata says is this codec
pub reads_waiting_lawful : (point : ExtensionPoint) (codec : ByteCodec) → reads_waiting point ≡ Some codec → IsLawful codec
reads_waiting_lawful point codec is = subst IsLawful (some_same (if_some (bytes_eq point.name (codes "x-wait")) (Some waiting) codec is).1) waiting_lawful
