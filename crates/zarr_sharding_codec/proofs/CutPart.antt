-- A part of the array of a shard that was cut, and the elements of its pieces.
use Rattle.std.proofs.Common.{◌≡◌, ◌∙◌, ℕ, ◌<◌, inl, inr, List, length, get_or, map, refl, sym, ap, subst, arith, true, Option, None, Some, Result, Ok, Err, IfOk}
use Rattle.std.specs.Prelude.{nat_lt}
use Rattle.std.specs.List.{list_all}
use Rattle.std.proofs.lemmas.List.{length-map}
use Rattle.std.specs.declared.alloc.AllocError.{AllocError}
use Rattle.zarr_grids_boxes.specs.Boxes.{product}
use Rattle.zarr_codecs_meaning.specs.Chains.{Chain, Location, sharded}
use Rattle.zarr_codecs_meaning.specs.Encoding.{Pair}
use Rattle.zarr_codecs_meaning.specs.Fits.{fits}
use Rattle.zarr_codecs_meaning.specs.Places.{parts_of}
use Rattle.zarr_codecs_meaning.specs.Types.{Elements}
use Rattle.zarr_codecs_meaning.proofs.Fitting.{fitted}
use Rattle.zarr_codecs_regions.proofs.AskedPlaces as regions
use Rattle.zarr_codecs_arrays.specs.declared.array_bytes.ArrayBytes.{ArrayBytes}
use Rattle.zarr_codecs_arrays.specs.declared.error.CodecError.{CodecError}
use Rattle.zarr_codecs_arrays.specs.declared.error.CodecError.TheVariants as error
use Rattle.zarr_codecs_traits.specs.Arrays.{coded}
use Rattle.zarr_codecs_traits.specs.Indexers.{Asked, numbers_asked}
use Rattle.zarr_codecs_traits.specs.Outcomes.{DecodesPart}
use Rattle.zarr_codecs_traits.specs.Pieces.{AnswersPiece, AreMade, IsStoppedBy}
use Rattle.zarr_codecs_traits.specs.declared.pieces.ValuePieces.{ValuePieces}
use Rattle.zarr_sharding_codec.specs.Pieces.{AreDecoded, CanBeAsked, DecodesPieceOf, DecodesSlice, IsCutPart, IsRefusalOf, PutsPart, asked_part, cells_asked, no_slice}
use Rattle.zarr_sharding_codec.specs.Reading.{AreCells, ListsRead}
use Rattle.zarr_sharding_codec.proofs.DecodedShard.{pair_count}
use Rattle.zarr_sharding_codec.proofs.MadePieces.{made_at, made_long, refusal_made, value_made}
use Rattle.zarr_sharding_codec.proofs.NumberedParts.{part_fits}
use Rattle.zarr_sharding_codec.proofs.PartFound.{slice_lost}
use Rattle.zarr_sharding_codec.proofs.PartsRead.{part_found}

-- what may be asked of a shard that fits
pub can_ask : (subchunk : List ℕ) (inner index : Chain) (location : Location) (elements : Elements) (shape value : List ℕ) (asked : Asked) (pairs : List Pair) → fits (sharded subchunk inner index location) elements.type shape ≡ true → length pairs ≡ length (parts_of shape subchunk)
    → list_all (λ n. nat_lt n (product shape)) (numbers_asked shape asked) ≡ true → CanBeAsked (asked_part (coded (sharded subchunk inner index location) elements shape) asked value pairs)
can_ask subchunk inner index location elements shape value asked pairs fit many below = record {
  cuts = (fitted subchunk inner index location elements shape fit).cuts;
  many = many;
  below = below;
  fit = λ k low. part_fits subchunk inner index location elements shape k fit (omega (arith, low, many));
}

module _ (subchunk : List ℕ) (inner index : Chain) (location : Location) (elements : Elements) (shape : List ℕ) (stored : Option (List ℕ)) (asked : Asked) (pieces : ValuePieces) (cut : IsCutPart (coded (sharded subchunk inner index location) elements shape) stored asked pieces) where
  cut_can : CanBeAsked (asked_part (coded (sharded subchunk inner index location) elements shape) asked cut.value cut.pairs)
  cut_can = can_ask subchunk inner index location elements shape cut.value asked cut.pairs cut.fit (pair_count index location shape subchunk cut.value cut.pairs cut.held) (regions.asked_places shape asked cut.inside)

  -- what is listed is what is asked for
  cut_found : (result : Result ArrayBytes CodecError) → ListsRead elements shape (cells_asked (asked_part (coded (sharded subchunk inner index location) elements shape) asked cut.value cut.pairs)) result → DecodesPart (coded (sharded subchunk inner index location) elements shape) stored asked result
  cut_found result found =
      subst (λ (o : Option (List ℕ)). DecodesPart (coded (sharded subchunk inner index location) elements shape) o asked result) (sym cut.stored_is)
      (part_found subchunk inner index location elements shape cut.value cut.pairs (numbers_asked shape asked) asked result cut.fit cut.inside refl cut.held found)

  -- why there are no more pieces
  pub cut_stopped : (e : CodecError) → pieces.stopped ≡ Some e → DecodesPart (coded (sharded subchunk inner index location) elements shape) stored asked (Err e)
  cut_stopped e is = cut_found (Err e) (cut.are.stops e is)

  module _ (made : List (Result ArrayBytes CodecError)) (are : AreMade (DecodesPieceOf (coded (sharded subchunk inner index location) elements pieces.shape.items) pieces) (length pieces.slices.items) made) where
    of_part : (j : ℕ) (r : Result ArrayBytes CodecError) → DecodesPieceOf (coded (sharded subchunk inner index location) elements pieces.shape.items) pieces j r
        → DecodesSlice (coded (sharded subchunk inner index location) elements shape) pieces.data.items (get_or pieces.slices.items j no_slice) r
    of_part j r h = subst (λ (s : List ℕ). DecodesSlice (coded (sharded subchunk inner index location) elements s) pieces.data.items (get_or pieces.slices.items j no_slice) r) cut.are.shape_is h

    part_decoded : (found : List ArrayBytes) → map Ok found ≡ made → AreDecoded (coded (sharded subchunk inner index location) elements shape) pieces.data.items pieces.slices.items found
    part_decoded found same =
        let said = DecodesPieceOf (coded (sharded subchunk inner index location) elements pieces.shape.items) pieces in
        let count = length pieces.slices.items in
        record {
          many = sym (length-map found Ok) ∙ (ap (λ (rs : List (Result ArrayBytes CodecError)). length rs) same ∙ made_long said count made are);
          each = λ j d low. of_part j (Ok (get_or found j d)) (value_made said count made found j d are same low);
        }

    -- the elements of the pieces were put together
    pub part_put : (found : List ArrayBytes) (put : Result ArrayBytes AllocError) (bytes : ArrayBytes) → map Ok found ≡ made → pieces.stopped ≡ None → PutsPart elements asked pieces.slices.items found put → put ≡ Ok bytes
        → DecodesPart (coded (sharded subchunk inner index location) elements shape) stored asked (Ok bytes)
    part_put found put bytes same none puts is =
        let part = asked_part (coded (sharded subchunk inner index location) elements shape) asked cut.value cut.pairs in
        let ok = puts part pieces.data.items refl refl cut_can cut.are.each (part_decoded found same) (cut.are.all none) in
        cut_found (Ok bytes) (subst (λ (r : Result ArrayBytes AllocError). IfOk r (AreCells elements (cells_asked part))) is ok)

    -- one of the pieces was refused
    pub part_lost : (e : CodecError) → IsRefusalOf made e → DecodesPart (coded (sharded subchunk inner index location) elements shape) stored asked (Err e)
    part_lost e (inl memory) = subst (λ (x : CodecError). DecodesPart (coded (sharded subchunk inner index location) elements shape) stored asked (Err x)) (sym memory) tt
    part_lost e (inr refusal) =
        let said = DecodesPieceOf (coded (sharded subchunk inner index location) elements pieces.shape.items) pieces in
        let count = length pieces.slices.items in
        let long = made_long said count made are in
        let low = refusal.below in
        let inside : refusal.at_ < count = omega (arith, low, long) in
        let here = subst (λ (r : Result ArrayBytes CodecError). AnswersPiece (said refusal.at_) r) (refusal.is (Err e)) (made_at said count made refusal.at_ (Err e) are inside) in
        let part = asked_part (coded (sharded subchunk inner index location) elements shape) asked cut.value cut.pairs in
        elim (refusal_made (said refusal.at_) e here) [
          | inl memory ↦ subst (λ (x : CodecError). DecodesPart (coded (sharded subchunk inner index location) elements shape) stored asked (Err x)) (sym memory) tt
          | inr lost ↦ cut_found (Err e) (slice_lost part pieces.data.items (get_or pieces.slices.items refusal.at_ no_slice) e cut_can (cut.are.each refusal.at_ inside) (of_part refusal.at_ (Err e) lost))
        ]

-- a refusal of a piece isn't the source's
pub unstopped : {A : Type 0} (B : Type 0) (said : ℕ → Result A CodecError → Type 0) (count : ℕ) (made : List (Result A CodecError)) (stopped : Option CodecError) (e : CodecError) → AreMade said count made → IsRefusalOf made e → IsStoppedBy {A = B} stopped (Err e)
unstopped {A} B said count made stopped e are (inl memory) = subst (λ (x : CodecError). IsStoppedBy {A = B} stopped (Err x)) (sym memory) tt
unstopped {A} B said count made stopped e are (inr refusal) =
    let long = made_long said count made are in
    let low = refusal.below in
    not_source B (said refusal.at_) stopped e (subst (λ (r : Result A CodecError). AnswersPiece (said refusal.at_) r) (refusal.is (Err e)) (made_at said count made refusal.at_ (Err e) are (omega (arith, low, long)))) where
      not_source : {A : Type 0} (B : Type 0) (said : Result A CodecError → Type 0) (stopped : Option CodecError) (e : CodecError) → AnswersPiece said (Err e) → IsStoppedBy {A = B} stopped (Err e)
      not_source B said stopped error.Source h = absurd h
      not_source B said stopped e h = tt

-- why there are no more pieces is told as it is
pub stopped_told : (A : Type 0) (stopped : Option CodecError) (e : CodecError) → stopped ≡ Some e → IsStoppedBy {A = A} stopped (Err e)
stopped_told A stopped error.Source is = is
stopped_told A stopped e is = tt
