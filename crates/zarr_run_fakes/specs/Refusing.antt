-- The codec `x-refuse`, which leaves bytes as they are, and refuses some.
use Rattle.std.specs.Prelude.{◌≡◌, ℕ, List, [], ◌∷◌, length, codes, bytes_eq, Option, Some, None, if◌then◌else◌}
use Rattle.std.proofs.Common.{Bool, true, false, ap, ◌∙◌, sym, subst}
use Rattle.zarr_grids_metadata.specs.ExtensionPoints.{ExtensionPoint, named}
use Rattle.zarr_codecs_meaning.specs.Chains.{ByteCodec}
use Rattle.zarr_codecs_meaning.specs.Fits.{is_size_as}
use Rattle.zarr_codecs_meaning.specs.Laws.{IsLawful}
use Rattle.zarr_codecs_meaning.proofs.Lists.{if_some, some_same}

-- bytes other than 7, 8
abbrev pub unless_stated : List ℕ → Option (List ℕ)
unless_stated bytes = if bytes_eq bytes (7 ∷ 8 ∷ []) then None else Some bytes

-- the codec that encodes and decodes all other bytes as themselves
abbrev pub refusing : ByteCodec
refusing = record { encode = unless_stated; decode = unless_stated; representation = λ known. known }

-- the metadata of the codec: its name alone
abbrev pub refusing_point : ExtensionPoint
refusing_point = named (codes "x-refuse")

-- the codec with this metadata, of which the name alone decides
abbrev pub reads_refusing : ExtensionPoint → Option ByteCodec
reads_refusing point = if bytes_eq point.name (codes "x-refuse") then Some refusing else None

same_unless : (b : Bool) (given made : List ℕ) → (if b then None else Some given) ≡ Some made → given ≡ made
same_unless true given made h = cc
same_unless false given made h = cc

unless_same : (given made : List ℕ) → unless_stated given ≡ Some made → given ≡ made
unless_same given made h = same_unless (bytes_eq given (7 ∷ 8 ∷ [])) given made h

-- the codec is lawful
pub refusing_lawful : IsLawful refusing
refusing_lawful = record {
  undoes = λ given made h. let e = unless_same given made h in ap unless_stated (sym e) ∙ (h ∙ ap (λ ns. Some ns) (sym e));
  honest = λ known given made h size. ap (λ ns. is_size_as known (length ns)) (sym (unless_same given made h)) ∙ size;
  monotone = λ known wider within. within;
}

-- and each that metadata says is this codec
pub reads_refusing_lawful : (point : ExtensionPoint) (codec : ByteCodec) → reads_refusing point ≡ Some codec → IsLawful codec
reads_refusing_lawful point codec is = subst IsLawful (some_same (if_some (bytes_eq point.name (codes "x-refuse")) (Some refusing) codec is).1) refusing_lawful
