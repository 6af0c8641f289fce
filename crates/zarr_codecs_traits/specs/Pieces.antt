-- What calls answer that cut a value or an array into pieces.
use Rattle.std.specs.Prelude.{◌≡◌, ℕ, List, Option, None, Some, Bool, Result, Ok, Err}
use Rattle.std.specs.List.{AllZip, range_with_len}
use Rattle.zarr_codecs_meaning.specs.Payloads.{Payload}
use Rattle.zarr_codecs_arrays.specs.declared.error.CodecError.{CodecError}
use Rattle.zarr_codecs_arrays.specs.declared.error.CodecError.TheVariants as error
use Rattle.zarr_codecs_traits.specs.Arrays.{Coded}
use Rattle.zarr_codecs_traits.specs.Indexers.{Asked}
use Rattle.zarr_codecs_traits.specs.Outcomes.{Decodes, DecodesPart, Encodes}
use Rattle.zarr_codecs_traits.specs.Sources.{refused_after}
use Rattle.zarr_codecs_traits.specs.declared.pieces.ArrayPieces.{ArrayPieces}
use Rattle.zarr_codecs_traits.specs.declared.pieces.SplitArray.{SplitArray}
use Rattle.zarr_codecs_traits.specs.declared.pieces.SplitArray.TheVariants as array_split
use Rattle.zarr_codecs_traits.specs.declared.pieces.SplitValue.{SplitValue}
use Rattle.zarr_codecs_traits.specs.declared.pieces.SplitValue.TheVariants as split
use Rattle.zarr_codecs_traits.specs.declared.pieces.ValuePieces.{ValuePieces}

-- a call for a piece answers what is to be made of it, or has no memory; no source refuses it
abbrev pub AnswersPiece : {A : Type 0} → (Result A CodecError → Type 0) → Result A CodecError → Type 0
AnswersPiece made (Ok value) = made (Ok value)
AnswersPiece made (Err error.Source) = ⊥
AnswersPiece made (Err error.Memory) = Unit {0}
AnswersPiece made (Err e) = made (Err e)

-- results are those of so many pieces, in their order
abbrev pub AreMade : {A : Type 0} → (ℕ → Result A CodecError → Type 0) → ℕ → List (Result A CodecError) → Type 0
AreMade made count results = AllZip (λ n result. AnswersPiece (made n) result) (range_with_len 0 count) results

-- what a value is decoded to, or the pieces that it is cut into, or why it isn't decoded
abbrev pub SplitsValue : (ValuePieces → Type 0) → Coded → List ℕ → Result SplitValue CodecError → Type 0
SplitsValue cuts array value (Ok (split.Decoded bytes)) = Decodes array value (Ok bytes)
SplitsValue cuts array value (Ok (split.Cut pieces)) = cuts pieces
SplitsValue cuts array value (Err e) = Decodes array value (Err e)

-- the elements at the places that are asked for, or the pieces to be decoded for them, or why there are none
abbrev pub SplitsPart : (ValuePieces → Type 0) → Coded → Option (List ℕ) → Asked → Result SplitValue CodecError → Type 0
SplitsPart cuts array stored asked (Ok (split.Decoded bytes)) = DecodesPart array stored asked (Ok bytes)
SplitsPart cuts array stored asked (Ok (split.Cut pieces)) = cuts pieces
SplitsPart cuts array stored asked (Err e) = DecodesPart array stored asked (Err e)

-- the count of refused calls after pieces were read: one more where the source refused to give the next one
abbrev pub refused_by_pieces : ℕ → Option CodecError → ℕ
refused_by_pieces count None = count
refused_by_pieces count (Some e) = refused_after {A = Unit {0}} count (Err e)

-- the count of refused calls after a value was cut or decoded
abbrev pub refused_splitting : ℕ → Result SplitValue CodecError → ℕ
refused_splitting count (Ok (split.Decoded bytes)) = count
refused_splitting count (Ok (split.Cut pieces)) = refused_by_pieces count pieces.stopped
refused_splitting count (Err e) = refused_after {A = Unit {0}} count (Err e)

-- a part is decoded only where no piece was refused, and is refused by the source only where a piece was
abbrev pub IsStoppedBy : {A : Type 0} → Option CodecError → Result A CodecError → Type 0
IsStoppedBy stopped (Ok value) = stopped ≡ None
IsStoppedBy stopped (Err error.Source) = stopped ≡ Some error.Source
IsStoppedBy stopped (Err e) = Unit {0}

-- what the elements of an array are encoded to, or the pieces that it is cut into, or why it isn't encoded
abbrev pub SplitsArray : (ArrayPieces → Type 0) → Coded → Bool → Payload → Result SplitArray CodecError → Type 0
SplitsArray cuts array exact payload (Ok (array_split.Encoded value)) = Encodes array exact payload (Ok value)
SplitsArray cuts array exact payload (Ok (array_split.Cut pieces)) = cuts pieces
SplitsArray cuts array exact payload (Err e) = Encodes array exact payload (Err e)
