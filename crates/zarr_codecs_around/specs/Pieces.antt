-- Pieces of what a codec decodes and encodes, with others around it.
use Rattle.std.specs.Prelude.{◌≡◌, ◌⊎◌, ℕ, List, [], Option, None, Some, Bool, true, Result, Vec}
use Rattle.std.specs.declared.alloc.Global.{Global}
use Rattle.zarr_codecs_meaning.specs.Chains.{ArrayCodec, ByteCodec, Chain}
use Rattle.zarr_codecs_meaning.specs.Payloads.{Payload}
use Rattle.zarr_codecs_arrays.specs.declared.error.CodecError.{CodecError}
use Rattle.zarr_codecs_traits.specs.Arrays.{Coded, coded, coded_array}
use Rattle.zarr_codecs_traits.specs.Outcomes.{Encodes}
use Rattle.zarr_codecs_traits.specs.declared.array_part.WholeArray.{WholeArray}
use Rattle.zarr_codecs_traits.specs.declared.pieces.ArrayPieces.{ArrayPieces}
use Rattle.zarr_codecs_traits.specs.declared.pieces.ValuePieces.{ValuePieces}
use Rattle.zarr_codecs_around.specs.ArrayCodecs.{shape_after}
use Rattle.zarr_codecs_around.specs.Codecs.{all_decoded}
use Rattle.zarr_codecs_around.specs.Views.{chain_after, codecs_of}
use Rattle.zarr_codecs_around.specs.declared.array_codecs.AfterArrayCodecs.{AfterArrayCodecs}

-- the same array, encoded by another chain
abbrev pub coded_by : Chain → Coded → Coded
coded_by chain array = coded chain array.elements array.shape

-- ---- bytes codecs behind

-- bytes codecs are undone, and what is inside is cut into these pieces
pub record IsCutInside (cuts : List ℕ → ValuePieces → Type 0) (codecs : List ByteCodec) (value : List ℕ) (pieces : ValuePieces) : Type 0 where
  pub inside : List ℕ
  pub undone : all_decoded codecs value ≡ Some inside
  pub cut : cuts inside pieces

-- what bytes codecs undo what is stored to, if anything is
abbrev pub UndoesStored : List ByteCodec → Option (List ℕ) → Option (List ℕ) → Type 0
UndoesStored codecs None inside = inside ≡ None
UndoesStored codecs (Some value) None = ⊥
UndoesStored codecs (Some value) (Some inside) = all_decoded codecs value ≡ Some inside

-- bytes codecs are undone, and of what is inside these pieces hold what is asked for
pub record IsPartCutInside (cuts : Option (List ℕ) → ValuePieces → Type 0) (codecs : List ByteCodec) (stored : Option (List ℕ)) (pieces : ValuePieces) : Type 0 where
  pub inside : Option (List ℕ)
  pub undone : UndoesStored codecs stored inside
  pub cut : cuts inside pieces

-- an array is cut into these pieces; where bytes codecs come after, what is made of it depends on the elements alone
pub record IsCutBefore (cuts : ArrayPieces → Type 0) (codecs : List ByteCodec) (exact : Bool) (pieces : ArrayPieces) : Type 0 where
  pub alone : (codecs ≡ []) ⊎ (exact ≡ true)
  pub cut : cuts pieces

-- ---- array codecs before

-- an array after array codecs, encoded by the chain behind them
abbrev pub coded_after : List ArrayCodec → Chain → Coded → Coded
coded_after codecs chain array = coded chain array.elements (shape_after codecs array.shape)

-- an array, encoded by array codecs and the codec after them
abbrev pub array_before : {A : Type 0} → (A → Chain) → AfterArrayCodecs A → WholeArray → Coded
array_before meaning codecs array = coded_array (chain_after meaning codecs) array

-- the array that the codec after array codecs encodes
abbrev pub array_behind : {A : Type 0} → (A → Chain) → AfterArrayCodecs A → WholeArray → Coded
array_behind meaning codecs array = coded_after (codecs_of codecs.array_to_array.now) (meaning codecs.rest.now) (coded_array (meaning codecs.rest.now) array)

-- what encoding elements of the second array answers, encoding elements of the first does
abbrev pub EncodesAs : Bool → Coded → Coded → Payload → Payload → Type 0
EncodesAs exact array last payload moved = (r : Result (Vec ℕ Global) CodecError) → Encodes last exact moved r → Encodes array exact payload r

-- the elements of an array are moved by array codecs, and the array of what they are then is cut into these pieces
pub record IsCutMoved (cuts : Payload → ArrayPieces → Type 0) (moves : Payload → Type 0) (pieces : ArrayPieces) : Type 0 where
  pub moved : Payload
  pub moves_to : moves moved
  pub cut : cuts moved pieces
