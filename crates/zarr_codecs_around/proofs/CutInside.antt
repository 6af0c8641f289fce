-- Pieces of what bytes codecs were undone to.
use Rattle.std.proofs.Common.{◌≡◌, ℕ, List, [], refl, ap, subst, Option, None, Some, Result, Ok, Err}
use Rattle.zarr_codecs_meaning.specs.Chains.{ByteCodec, Chain}
use Rattle.zarr_codecs_meaning.specs.Types.{Elements}
use Rattle.zarr_codecs_arrays.specs.declared.array_bytes.ArrayBytes.{ArrayBytes}
use Rattle.zarr_codecs_arrays.specs.declared.error.CodecError.{CodecError}
use Rattle.zarr_codecs_traits.specs.Arrays.{coded}
use Rattle.zarr_codecs_traits.specs.Indexers.{Asked}
use Rattle.zarr_codecs_traits.specs.Outcomes.{DecodesPart}
use Rattle.zarr_codecs_traits.specs.Pieces.{SplitsPart, SplitsValue, refused_by_pieces, refused_splitting}
use Rattle.zarr_codecs_traits.specs.declared.pieces.SplitValue.{SplitValue}
use Rattle.zarr_codecs_traits.specs.declared.pieces.SplitValue.TheVariants as split
use Rattle.zarr_codecs_traits.specs.declared.pieces.ValuePieces.{ValuePieces}
use Rattle.zarr_codecs_around.specs.Codecs.{all_decoded}
use Rattle.zarr_codecs_around.specs.Pieces.{IsCutInside, IsPartCutInside, UndoesStored}
use Rattle.zarr_codecs_around.specs.Views.{with_codecs}
use Rattle.zarr_codecs_around.proofs.Chains.{decodes_with}
use Rattle.zarr_codecs_around.proofs.PartChains.{never_refused, part_of_none, part_undone}

-- a source that refuses no call refused no piece
pieces_unrefused : (stopped : Option CodecError) → 0 ≡ refused_by_pieces 0 stopped → (count : ℕ) → refused_by_pieces count stopped ≡ count
pieces_unrefused None h count = refl
pieces_unrefused (Some e) h count = never_refused {A = Unit {0}} (Err e) h count

pub never_split : (r : Result SplitValue CodecError) → 0 ≡ refused_splitting 0 r → (count : ℕ) → refused_splitting count r ≡ count
never_split (Ok (split.Decoded bytes)) h count = refl
never_split (Ok (split.Cut pieces)) h count = pieces_unrefused pieces.stopped h count
never_split (Err e) h count = never_refused {A = Unit {0}} (Err e) h count

-- a value that was undone, and then cut
pub split_undone : (cuts : List ℕ → ValuePieces → Type 0) (chain : Chain) (codecs : List ByteCodec) (elements : Elements) (shape value inside : List ℕ) (r : Result SplitValue CodecError) → all_decoded codecs value ≡ Some inside
    → SplitsValue (cuts inside) (coded chain elements shape) inside r → SplitsValue (IsCutInside cuts codecs value) (coded (with_codecs chain codecs) elements shape) value r
split_undone cuts chain codecs elements shape value inside (Ok (split.Decoded bytes)) undone h = decodes_with chain codecs elements shape value inside (Ok bytes) undone h
split_undone cuts chain codecs elements shape value inside (Ok (split.Cut pieces)) undone h = record { inside = inside; undone = undone; cut = h }
split_undone cuts chain codecs elements shape value inside (Err e) undone h = decodes_with chain codecs elements shape value inside (Err e) undone h

-- what is stored, undone
pub stored_undone : (chain : Chain) (codecs : List ByteCodec) (elements : Elements) (shape : List ℕ) (stored inside : Option (List ℕ)) (asked : Asked) (r : Result ArrayBytes CodecError) → UndoesStored codecs stored inside
    → DecodesPart (coded chain elements shape) inside asked r → DecodesPart (coded (with_codecs chain codecs) elements shape) stored asked r
stored_undone chain codecs elements shape None inside asked r none h = part_of_none chain codecs elements shape asked r (subst (λ (o : Option (List ℕ)). DecodesPart (coded chain elements shape) o asked r) none h)
stored_undone chain codecs elements shape (Some value) None asked r undone h = absurd undone
stored_undone chain codecs elements shape (Some value) (Some inside) asked r undone h = part_undone chain codecs elements shape value inside asked r undone h

pub part_split : (cuts : Option (List ℕ) → ValuePieces → Type 0) (chain : Chain) (codecs : List ByteCodec) (elements : Elements) (shape : List ℕ) (stored inside : Option (List ℕ)) (asked : Asked) (r : Result SplitValue CodecError) → UndoesStored codecs stored inside
    → SplitsPart (cuts inside) (coded chain elements shape) inside asked r → SplitsPart (IsPartCutInside cuts codecs stored) (coded (with_codecs chain codecs) elements shape) stored asked r
part_split cuts chain codecs elements shape stored inside asked (Ok (split.Decoded bytes)) undone h = stored_undone chain codecs elements shape stored inside asked (Ok bytes) undone h
part_split cuts chain codecs elements shape stored inside asked (Ok (split.Cut pieces)) undone h = record { inside = inside; undone = undone; cut = h }
part_split cuts chain codecs elements shape stored inside asked (Err e) undone h = stored_undone chain codecs elements shape stored inside asked (Err e) undone h

-- where there are no bytes codecs, nothing is undone
pub none_undone : (codecs : List ByteCodec) (stored : Option (List ℕ)) → codecs ≡ [] → UndoesStored codecs stored stored
none_undone codecs None none = refl
none_undone codecs (Some value) none = ap (λ (cs : List ByteCodec). all_decoded cs value) none
