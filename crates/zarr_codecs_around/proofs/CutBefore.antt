-- Pieces of arrays that are encoded with other codecs around the one that cuts them.
use Rattle.std.proofs.Common.{◌≡◌, ℕ, List, [], ◌∷◌, length, map, refl, sym, subst, inl, inr, Bool, true, Result, Ok, Err, Vec, Global}
use Rattle.std.specs.Prelude.{◌⊎◌}
use Rattle.zarr_codecs_meaning.specs.Chains.{ByteCodec, Chain}
use Rattle.zarr_codecs_meaning.specs.Payloads.{Payload}
use Rattle.zarr_codecs_meaning.specs.Types.{Elements}
use Rattle.zarr_codecs_arrays.specs.declared.error.CodecError.{CodecError}
use Rattle.zarr_codecs_traits.specs.Arrays.{Coded, coded}
use Rattle.zarr_codecs_traits.specs.Outcomes.{Encodes}
use Rattle.zarr_codecs_traits.specs.Pieces.{SplitsArray}
use Rattle.zarr_codecs_traits.specs.declared.pieces.ArrayPieces.{ArrayPieces}
use Rattle.zarr_codecs_traits.specs.declared.pieces.SplitArray.{SplitArray}
use Rattle.zarr_codecs_traits.specs.declared.pieces.SplitArray.TheVariants as split
use Rattle.zarr_codecs_around.specs.Pieces.{EncodesAs, IsCutBefore, IsCutMoved}
use Rattle.zarr_codecs_around.specs.Views.{with_codecs}
use Rattle.zarr_codecs_around.proofs.Chains.{encodes_alike, refused_with}

-- ---- bytes codecs behind

-- where there are none, an array is encoded as the codec before them encodes it
pub encodes_alone : (chain : Chain) (codecs : List ByteCodec) (exact : Bool) (elements : Elements) (shape : List ℕ) (payload : Payload) (r : Result (Vec ℕ Global) CodecError) → codecs ≡ []
    → Encodes (coded chain elements shape) exact payload r → Encodes (coded (with_codecs chain codecs) elements shape) exact payload r
encodes_alone chain codecs exact elements shape payload r none h = subst (λ (behind : List ByteCodec). Encodes (coded (with_codecs chain behind) elements shape) exact payload r) (sym none) h

-- and is cut as it cuts it
pub split_alone : (cuts : ArrayPieces → Type 0) (chain : Chain) (codecs : List ByteCodec) (exact : Bool) (elements : Elements) (shape : List ℕ) (payload : Payload) (r : Result SplitArray CodecError) → codecs ≡ []
    → SplitsArray cuts (coded chain elements shape) exact payload r → SplitsArray (IsCutBefore cuts codecs exact) (coded (with_codecs chain codecs) elements shape) exact payload r
split_alone cuts chain codecs exact elements shape payload (Ok (split.Encoded value)) none h = encodes_alone chain codecs exact elements shape payload (Ok value) none h
split_alone cuts chain codecs exact elements shape payload (Ok (split.Cut pieces)) none h = record { alone = inl none; cut = h }
split_alone cuts chain codecs exact elements shape payload (Err e) none h = encodes_alone chain codecs exact elements shape payload (Err e) none h

-- where there are some, what is made of an array that is cut depends on its elements alone
pub exact_behind : {B : Type 0} (meaning : B → ByteCodec) (codecs : List B) (exact : Bool) → (length codecs ≡ 0 → ⊥) → (map meaning codecs ≡ []) ⊎ (exact ≡ true) → exact ≡ true
exact_behind meaning [] exact some alone = absurd (some refl)
exact_behind meaning (codec ∷ codecs) exact some (inl none) = absurd (cc)
exact_behind meaning (codec ∷ codecs) exact some (inr is) = is

-- and an array is refused as the codec before them refuses it
pub refused_behind : (chain : Chain) (codecs : List ByteCodec) (exact : Bool) (elements : Elements) (shape : List ℕ) (payload : Payload) (e : CodecError) → exact ≡ true
    → Encodes (coded chain elements shape) exact payload (Err e) → Encodes (coded (with_codecs chain codecs) elements shape) exact payload (Err e)
refused_behind chain codecs exact elements shape payload e is h =
    encodes_alike (with_codecs chain codecs) exact elements shape payload (Err e) (refused_with chain codecs elements shape payload e (subst (λ (b : Bool). Encodes (coded chain elements shape) b payload (Err e)) is h))

-- ---- array codecs before

-- an array that was moved, and then cut or encoded
pub split_moved : (cuts : Payload → ArrayPieces → Type 0) (exact : Bool) (array last : Coded) (payload moved : Payload) (r : Result SplitArray CodecError) → EncodesAs exact array last payload moved
    → SplitsArray (cuts moved) last exact moved r → SplitsArray (IsCutMoved cuts (EncodesAs exact array last payload)) array exact payload r
split_moved cuts exact array last payload moved (Ok (split.Encoded value)) moves h = moves (Ok value) h
split_moved cuts exact array last payload moved (Ok (split.Cut pieces)) moves h = record { moved = moved; moves_to = moves; cut = h }
split_moved cuts exact array last payload moved (Err e) moves h = moves (Err e) h
