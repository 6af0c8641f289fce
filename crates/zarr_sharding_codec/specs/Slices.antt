-- What is stored of the subchunks of a shard.
use Rattle.std.specs.Prelude.{◌≡◌, ◌⊎◌, ℕ, List, [], ◌∷◌, length, Option, None, Some, option_map, Bool, true, false, IsTrue, Vec, Result, Ok, Err}
use Rattle.std.specs.declared.alloc.Global.{Global}
use Rattle.zarr_grids_boxes.specs.Boxes.{product}
use Rattle.zarr_codecs_meaning.specs.Chains.{Chain}
use Rattle.zarr_codecs_meaning.specs.Encoding.{Pair, Piece, encoded, joined_slices, pairs_from}
use Rattle.zarr_codecs_meaning.specs.Fits.{is_lossless, is_size_as, representation_of}
use Rattle.zarr_codecs_meaning.specs.Making.{IsMadeOf}
use Rattle.zarr_codecs_meaning.specs.Refusals.{CodecRefuses, PassesIndex, PieceRefused}
use Rattle.zarr_codecs_meaning.specs.Standing.{Stands}
use Rattle.zarr_codecs_meaning.specs.Types.{Elements, is_fill, IsTooLarge}
use Rattle.zarr_codecs_arrays.specs.declared.error.CodecError.{CodecError}
use Rattle.zarr_codecs_arrays.specs.declared.error.CodecError.TheVariants as error
use Rattle.zarr_sharding_changes.specs.Gapless.{IsGapless}
use Rattle.zarr_sharding_index.specs.Views.{pairs_of}
use Rattle.zarr_sharding_index.specs.declared.index.ShardIndex.{ShardIndex}

-- the bytes of a slice, if there is one
abbrev pub slice_of : Option (Vec ℕ Global) → Option (List ℕ)
slice_of slice = option_map (λ (bytes : Vec ℕ Global). bytes.items) slice

-- the slice of a subchunk that isn't all fill: one that its chain may make of its cells, and what encoding them means, where that is a function; it stands for them, where every bit is kept; it has no gaps
pub record IsSlice (inner : Chain) (exact : Bool) (elements : Elements) (piece : Piece) (slice : List ℕ) : Type 0 where
  pub some : is_fill elements.fill piece.1 ≡ false
  pub made : IsMadeOf inner elements piece.0 piece.1 slice
  pub encodes : IsTrue exact → encoded inner elements piece.0 piece.1 ≡ Some slice
  pub stands : is_lossless inner elements.type ≡ true → Stands inner elements piece.0 slice piece.1
  pub sized : is_size_as (representation_of inner elements.type piece.0) (length slice) ≡ true
  pub gapless : IsGapless inner piece.0 slice

-- what is stored of a subchunk: nothing where it is all fill, else its slice
abbrev pub IsPieceStored : Chain → Bool → Elements → Piece → Option (List ℕ) → Type 0
IsPieceStored inner exact elements piece None = is_fill elements.fill piece.1 ≡ true
IsPieceStored inner exact elements piece (Some slice) = IsSlice inner exact elements piece slice

-- what is stored of each subchunk
abbrev pub ArePiecesStored : Chain → Bool → Elements → List Piece → List (Option (List ℕ)) → Type 0
ArePiecesStored inner exact elements [] [] = Unit {0}
ArePiecesStored inner exact elements [] (slice ∷ slices) = ⊥
ArePiecesStored inner exact elements (piece ∷ pieces) [] = ⊥
ArePiecesStored inner exact elements (piece ∷ pieces) (slice ∷ slices) = IsPieceStored inner exact elements piece slice × ArePiecesStored inner exact elements pieces slices

-- what is stored of a subchunk, or why nothing is
abbrev pub StoresPiece : Chain → Bool → Elements → Piece → Result (Option (Vec ℕ Global)) CodecError → Type 0
StoresPiece inner exact elements piece (Ok slice) = IsPieceStored inner exact elements piece (slice_of slice)
StoresPiece inner exact elements piece (Err error.Codec) = (is_fill elements.fill piece.1 ≡ false) × CodecRefuses inner elements piece.0 piece.1
StoresPiece inner exact elements piece (Err error.Size) = IsTooLarge elements.type (product piece.0) ⊎ ((is_fill elements.fill piece.1 ≡ false) × PassesIndex inner elements piece.0 piece.1)
StoresPiece inner exact elements piece (Err error.Memory) = Unit {0}
StoresPiece inner exact elements piece (Err e) = ⊥

-- how subchunks are coded: their chain, whether what that makes depends on the elements alone, and what the elements are
pub record PieceCoding : Type 0 where
  pub inner : Chain
  pub exact : Bool
  pub elements : Elements

-- the same, put together
abbrev pub piece_coding : Chain → Bool → Elements → PieceCoding
piece_coding inner exact elements = record { inner = inner; exact = exact; elements = elements }

-- what is stored of subchunks is laid out without gaps: these bytes are the slices in a row, and these pairs their index, where the first slice begins at an offset
pub record AreLaidOut (coding : PieceCoding) (pieces : List Piece) (base : ℕ) («data» : List ℕ) (pairs : List Pair) : Type 0 where
  pub stored : List (Option (List ℕ))
  pub are : ArePiecesStored coding.inner coding.exact coding.elements pieces stored
  pub in_row : «data» ≡ joined_slices stored
  pub indexed : pairs ≡ pairs_from base stored

-- what is stored of the subchunks of a shape, laid out, or why nothing is
abbrev pub StoresPieces : PieceCoding → List ℕ → List Piece → ℕ → Result (Vec ℕ Global × ShardIndex) CodecError → Type 0
StoresPieces coding shape pieces base (Ok made) = AreLaidOut coding pieces base made.0.items (pairs_of made.1)
StoresPieces coding shape pieces base (Err error.Codec) = PieceRefused (CodecRefuses coding.inner coding.elements) coding.elements.fill pieces
StoresPieces coding shape pieces base (Err error.Size) = IsTooLarge coding.elements.type (product shape) ⊎ PieceRefused (PassesIndex coding.inner coding.elements) coding.elements.fill pieces
StoresPieces coding shape pieces base (Err error.Memory) = Unit {0}
StoresPieces coding shape pieces base (Err e) = ⊥
