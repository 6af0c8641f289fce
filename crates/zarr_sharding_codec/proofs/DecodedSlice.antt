-- What one slice of a value that was cut is decoded to.
use Rattle.std.proofs.Common.{◌≡◌, ℕ, List, get_or, sym, refl, subst, true, false, Option, Some, None, Result, Ok, Err, Vec, Global, is_err}
use Rattle.zarr_grids_boxes.specs.Subsets.{region_of}
use Rattle.zarr_grids_boxes.specs.declared.subset.ArraySubset.{ArraySubset}
use Rattle.zarr_codecs_meaning.specs.Decoding.{slice_at}
use Rattle.zarr_codecs_meaning.specs.Fits.{fits}
use Rattle.zarr_codecs_meaning.specs.Chains.{Chain}
use Rattle.zarr_codecs_meaning.specs.Types.{Elements}
use Rattle.zarr_codecs_arrays.specs.declared.array_bytes.ArrayBytes.{ArrayBytes}
use Rattle.zarr_codecs_arrays.specs.declared.error.CodecError.{CodecError}
use Rattle.zarr_codecs_arrays.specs.declared.error.CodecError.TheVariants as error
use Rattle.zarr_codecs_traits.specs.Arrays.{Coded, coded}
use Rattle.zarr_codecs_regions.specs.Asking.{TestsAsked}
use Rattle.zarr_codecs_traits.specs.Indexers.{Asked, are_inside, in_box, listed}
use Rattle.zarr_codecs_traits.specs.Outcomes.{Decodes}
use Rattle.zarr_codecs_traits.specs.Pieces.{AnswersPiece}
use Rattle.zarr_codecs_traits.specs.declared.pieces.PiecePlaces.{PiecePlaces}
use Rattle.zarr_codecs_traits.specs.declared.pieces.PiecePlaces.TheVariants as places
use Rattle.zarr_codecs_traits.specs.declared.pieces.PieceSlice.{PieceSlice}
use Rattle.zarr_codecs_traits.specs.declared.pieces.ValuePieces.{ValuePieces}
use Rattle.zarr_sharding_index.specs.Views.{pair_of}
use Rattle.zarr_sharding_codec.specs.Pieces.{DecodesAsked, DecodesPieceOf, DecodesPlaces, DecodesSlice, inner_chain, no_slice, part_array}
use Rattle.zarr_sharding_codec.proofs.MadePieces.{answered, answers_as, decoded_listed, decodes_unrefused}

-- no bytes are damage
lost_places : (part : Coded) (slots : PiecePlaces) → DecodesPlaces part None slots (Err error.Damage)
lost_places part places.All = refl
lost_places part (places.InBox inside target) = λ asked. refl
lost_places part (places.Listed insides positions) = λ asked. refl

pub slice_past : (array : Coded) («data» : List ℕ) (slice : PieceSlice) → slice_at «data» (pair_of slice.range) ≡ None → DecodesSlice array «data» slice (Err error.Damage)
slice_past array «data» slice past = λ fit.
    subst (λ (o : Option (List ℕ)). DecodesPlaces (part_array array slice.number) o slice.places (Err error.Damage)) (sym past) (lost_places (part_array array slice.number) slice.places)

-- the places of a slice, by the kind of them
of_places : (array : Coded) («data» bytes : List ℕ) (slice : PieceSlice) (slots : PiecePlaces) (r : Result ArrayBytes CodecError) → slice_at «data» (pair_of slice.range) ≡ Some bytes → slice.places ≡ slots
    → (let part = part_array array slice.number in fits part.chain part.elements.type part.shape ≡ true → DecodesPlaces part (Some bytes) slots r) → DecodesSlice array «data» slice r
of_places array «data» bytes slice slots r found are h = λ fit.
    subst (λ (o : Option (List ℕ)). DecodesPlaces (part_array array slice.number) o slice.places r) (sym found)
    (subst (λ (s : PiecePlaces). DecodesPlaces (part_array array slice.number) (Some bytes) s r) (sym are) (h fit))

pub whole_decoded : (array : Coded) («data» bytes edges : List ℕ) (slice : PieceSlice) (r : Result ArrayBytes CodecError) → edges ≡ (part_array array slice.number).shape → slice_at «data» (pair_of slice.range) ≡ Some bytes → slice.places ≡ places.All
    → Decodes (coded (inner_chain array.chain) array.elements edges) bytes r → AnswersPiece (DecodesSlice array «data» slice) r
whole_decoded array «data» bytes edges slice r is found are h =
    let part = part_array array slice.number in
    let here = subst (λ (s : List ℕ). Decodes (coded (inner_chain array.chain) array.elements s) bytes r) is h in
    answered (DecodesSlice array «data» slice) r (decodes_unrefused part bytes r here)
    (of_places array «data» bytes slice places.All r found are (λ fit. decoded_listed part bytes r fit here))

pub box_decoded : (array : Coded) («data» bytes edges : List ℕ) (slice : PieceSlice) (inside target : ArraySubset) (r : Result ArrayBytes CodecError) → edges ≡ (part_array array slice.number).shape → slice_at «data» (pair_of slice.range) ≡ Some bytes → slice.places ≡ places.InBox inside target
    → AnswersPiece (DecodesAsked (coded (inner_chain array.chain) array.elements edges) bytes (in_box (region_of inside))) r → AnswersPiece (DecodesSlice array «data» slice) r
box_decoded array «data» bytes edges slice inside target r is found are h =
    let here = subst (λ (s : List ℕ). AnswersPiece (DecodesAsked (coded (inner_chain array.chain) array.elements s) bytes (in_box (region_of inside))) r) is h in
    answers_as (DecodesAsked (part_array array slice.number) bytes (in_box (region_of inside))) (DecodesSlice array «data» slice) r
    (λ x read. of_places array «data» bytes slice (places.InBox inside target) x found are read) here

pub list_decoded : (array : Coded) («data» bytes edges : List ℕ) (slice : PieceSlice) (insides positions : Vec ℕ Global) (r : Result ArrayBytes CodecError) → edges ≡ (part_array array slice.number).shape → slice_at «data» (pair_of slice.range) ≡ Some bytes → slice.places ≡ places.Listed insides positions
    → AnswersPiece (DecodesAsked (coded (inner_chain array.chain) array.elements edges) bytes (listed insides.items)) r → AnswersPiece (DecodesSlice array «data» slice) r
list_decoded array «data» bytes edges slice insides positions r is found are h =
    let here = subst (λ (s : List ℕ). AnswersPiece (DecodesAsked (coded (inner_chain array.chain) array.elements s) bytes (listed insides.items)) r) is h in
    answers_as (DecodesAsked (part_array array slice.number) bytes (listed insides.items)) (DecodesSlice array «data» slice) r
    (λ x read. of_places array «data» bytes slice (places.Listed insides positions) x found are read) here

-- what is decoded of the slice of a piece is that of the piece
pub of_pieces : (chain : Chain) (elements : Elements) (pieces : ValuePieces) (n : ℕ) (shape «data» : List ℕ) (slice : PieceSlice) (r : Result ArrayBytes CodecError) → shape ≡ pieces.shape.items → «data» ≡ pieces.data.items → slice ≡ get_or pieces.slices.items n no_slice
    → AnswersPiece (DecodesSlice (coded chain elements shape) «data» slice) r → AnswersPiece (DecodesPieceOf (coded chain elements pieces.shape.items) pieces n) r
of_pieces chain elements pieces n shape «data» slice r shape_is data_is slice_is h =
    subst (λ (s : PieceSlice). AnswersPiece (DecodesSlice (coded chain elements pieces.shape.items) pieces.data.items s) r) slice_is
    (subst (λ (d : List ℕ). AnswersPiece (DecodesSlice (coded chain elements pieces.shape.items) d slice) r) data_is
    (subst (λ (s : List ℕ). AnswersPiece (DecodesSlice (coded chain elements s) «data» slice) r) shape_is h))

-- places that were tested lie in the shape
pub tested_inside : {A : Type 0} (shape : List ℕ) (asked : Asked) (r : Result A CodecError) → TestsAsked shape asked r → is_err r ≡ false → are_inside shape asked ≡ true
tested_inside shape asked (Ok value) h ok = h
tested_inside shape asked (Err e) h ok = cc
