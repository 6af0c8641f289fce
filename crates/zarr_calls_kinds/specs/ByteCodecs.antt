-- The bytes codecs that the tests bring.
use Rattle.std.specs.Prelude.{◌≡◌, ℕ, ◌==◌, List, [], ◌∷◌, reverse, length, codes, bytes_eq, Option, Some, None, true, if◌then◌else◌}
use Rattle.std.proofs.Common.{Bool, false, ap, ◌∙◌, sym, refl, subst}
use Rattle.std.proofs.lemmas.List.{reverse-reverse, length-reverse}
use Rattle.std.proofs.lemmas.Option.{none-some}
use Rattle.zarr_grids_metadata.specs.ExtensionPoints.{ExtensionPoint, named}
use Rattle.zarr_codecs_meaning.specs.Chains.{ByteCodec, BytesRepresentation}
use Rattle.zarr_codecs_meaning.specs.Chains.BytesRepresentation.{unbounded_size}
use Rattle.zarr_codecs_meaning.specs.Fits.{is_size_as}
use Rattle.zarr_codecs_meaning.specs.Laws.{IsLawful}
use Rattle.zarr_codecs_meaning.proofs.Lists.{some_same}
use Rattle.zarr_calls_kinds.specs.declared.byte_codecs.TestCodec.{TestCodec}
use Rattle.zarr_calls_kinds.specs.declared.byte_codecs.TestCodec.TheVariants.{Reverse, Refuse, Lengthen}

-- bytes other than 1, 2, 3
abbrev pub unless_stated : List ℕ → Option (List ℕ)
unless_stated bytes = if bytes_eq bytes (1 ∷ 2 ∷ 3 ∷ []) then None else Some bytes

-- the bytes after a first byte 0
abbrev pub after_zero : List ℕ → Option (List ℕ)
after_zero [] = None
after_zero (b ∷ bytes) = if b == 0 then Some bytes else None

-- `x-reverse` makes of bytes the bytes from the last to the first; `x-refuse` leaves them as they are, and refuses some; `x-longer` puts a byte 0 before them, and tells nothing of sizes
abbrev pub codec_of : TestCodec → ByteCodec
codec_of Reverse = record { encode = λ bytes. Some (reverse bytes); decode = λ bytes. Some (reverse bytes); representation = λ known. known }
codec_of Refuse = record { encode = unless_stated; decode = unless_stated; representation = λ known. known }
codec_of Lengthen = record { encode = λ bytes. Some (0 ∷ bytes); decode = after_zero; representation = λ known. unbounded_size }

-- the metadata of a codec: its name
abbrev pub point_of_codec : TestCodec → ExtensionPoint
point_of_codec Reverse = named (codes "x-reverse")
point_of_codec Refuse = named (codes "x-refuse")
point_of_codec Lengthen = named (codes "x-longer")

-- the codec that a name says
abbrev pub codec_in : ExtensionPoint → Option ByteCodec
codec_in point =
    if bytes_eq point.name (codes "x-reverse") then Some (codec_of Reverse)
    else (if bytes_eq point.name (codes "x-refuse") then Some (codec_of Refuse) else (if bytes_eq point.name (codes "x-longer") then Some (codec_of Lengthen) else None))

reversed_twice : (given made : List ℕ) → Some (reverse given) ≡ Some made → Some (reverse made) ≡ Some given
reversed_twice given made h = let e : reverse given ≡ made = cc in ap (λ ns. Some (reverse ns)) (sym e) ∙ ap (λ ns. Some ns) (reverse-reverse given)

reversed_size : (known : BytesRepresentation) (given made : List ℕ) → Some (reverse given) ≡ Some made → is_size_as known (length given) ≡ true → is_size_as known (length made) ≡ true
reversed_size known given made h size = let e : reverse given ≡ made = cc in ap (is_size_as known) (ap length (sym e) ∙ length-reverse given) ∙ size

same_unless : (b : Bool) (given made : List ℕ) → (if b then None else Some given) ≡ Some made → given ≡ made
same_unless true given made h = cc
same_unless false given made h = cc

unless_same : (given made : List ℕ) → unless_stated given ≡ Some made → given ≡ made
unless_same given made h = same_unless (bytes_eq given (1 ∷ 2 ∷ 3 ∷ [])) given made h

lengthened_back : (given made : List ℕ) → Some (0 ∷ given) ≡ Some made → after_zero made ≡ Some given
lengthened_back given made h = ap after_zero (sym (some_same h))

pub codec_lawful : (codec : TestCodec) → IsLawful (codec_of codec)
codec_lawful Reverse = record { undoes = reversed_twice; honest = reversed_size; monotone = λ known wider h. h }
codec_lawful Refuse = record {
  undoes = λ given made h. let e = unless_same given made h in ap unless_stated (sym e) ∙ (h ∙ ap (λ ns. Some ns) (sym e));
  honest = λ known given made h size. ap (λ ns. is_size_as known (length ns)) (sym (unless_same given made h)) ∙ size;
  monotone = λ known wider h. h;
}
codec_lawful Lengthen = record { undoes = lengthened_back; honest = λ known given made h size. refl; monotone = λ known wider h. refl }

codec_if : (is_reverse is_refuse is_longer : Bool) (codec : ByteCodec)
    → (if is_reverse then Some (codec_of Reverse) else (if is_refuse then Some (codec_of Refuse) else (if is_longer then Some (codec_of Lengthen) else None))) ≡ Some codec → IsLawful codec
codec_if true is_refuse is_longer codec h = subst IsLawful (some_same h) (codec_lawful Reverse)
codec_if false true is_longer codec h = subst IsLawful (some_same h) (codec_lawful Refuse)
codec_if false false true codec h = subst IsLawful (some_same h) (codec_lawful Lengthen)
codec_if false false false codec h = absurd (none-some codec h)

pub codec_in_lawful : (point : ExtensionPoint) (codec : ByteCodec) → codec_in point ≡ Some codec → IsLawful codec
codec_in_lawful point codec h = codec_if (bytes_eq point.name (codes "x-reverse")) (bytes_eq point.name (codes "x-refuse")) (bytes_eq point.name (codes "x-longer")) codec h

pub codec_reads_back : (codec : TestCodec) → codec_in (point_of_codec codec) ≡ Some (codec_of codec)
codec_reads_back Reverse = refl
codec_reads_back Refuse = refl
codec_reads_back Lengthen = refl
