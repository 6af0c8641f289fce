-- A value of a shard that was cut, and the elements of its pieces.
use Rattle.std.proofs.Common.{◌≡◌, ◌∙◌, ℕ, ◌<◌, inl, inr, List, length, get_or, map, sym, ap, subst, arith, Result, Ok, Err}
use Rattle.std.proofs.lemmas.List.{length-map}
use Rattle.zarr_codecs_meaning.specs.Chains.{Chain, Location, sharded}
use Rattle.zarr_codecs_meaning.specs.Types.{Elements}
use Rattle.zarr_codecs_arrays.specs.declared.array_bytes.ArrayBytes.{ArrayBytes}
use Rattle.zarr_codecs_arrays.specs.declared.error.CodecError.{CodecError}
use Rattle.zarr_codecs_traits.specs.Arrays.{coded}
use Rattle.zarr_codecs_traits.specs.Outcomes.{Decodes}
use Rattle.zarr_codecs_traits.specs.Pieces.{AnswersPiece, AreMade}
use Rattle.zarr_codecs_traits.specs.declared.pieces.ValuePieces.{ValuePieces}
use Rattle.zarr_sharding_codec.specs.Pieces.{AreDecoded, DecodesPieceOf, DecodesSlice, IsCut, IsRefusalOf, PutsSlices, no_slice}
use Rattle.zarr_sharding_codec.proofs.DecodedShard.{pair_count, shard_read}
use Rattle.zarr_sharding_codec.proofs.MadePieces.{made_at, made_long, refusal_made, value_made}
use Rattle.zarr_sharding_codec.proofs.PutSlices.{put_lost}

module _ (subchunk : List ℕ) (inner index : Chain) (location : Location) (elements : Elements) (shape value : List ℕ) (pieces : ValuePieces) (made : List (Result ArrayBytes CodecError))
    (cut : IsCut (coded (sharded subchunk inner index location) elements shape) value pieces)
    (are : AreMade (DecodesPieceOf (coded (sharded subchunk inner index location) elements pieces.shape.items) pieces) (length pieces.slices.items) made) where
  -- what was said of a piece is said of the slice of the value
  of_value : (j : ℕ) (r : Result ArrayBytes CodecError) → DecodesPieceOf (coded (sharded subchunk inner index location) elements pieces.shape.items) pieces j r
      → DecodesSlice (coded (sharded subchunk inner index location) elements shape) value (get_or pieces.slices.items j no_slice) r
  of_value j r h =
      subst (λ (d : List ℕ). DecodesSlice (coded (sharded subchunk inner index location) elements shape) d (get_or pieces.slices.items j no_slice) r) cut.data_is
      (subst (λ (s : List ℕ). DecodesSlice (coded (sharded subchunk inner index location) elements s) pieces.data.items (get_or pieces.slices.items j no_slice) r) cut.shape_is h)

  all_decoded : (found : List ArrayBytes) → map Ok found ≡ made → AreDecoded (coded (sharded subchunk inner index location) elements shape) value pieces.slices.items found
  all_decoded found same =
      let said = DecodesPieceOf (coded (sharded subchunk inner index location) elements pieces.shape.items) pieces in
      let count = length pieces.slices.items in
      record {
        many = sym (length-map found Ok) ∙ (ap (λ (rs : List (Result ArrayBytes CodecError)). length rs) same ∙ made_long said count made are);
        each = λ j d low. of_value j (Ok (get_or found j d)) (value_made said count made found j d are same low);
      }

  -- the elements of the pieces were put together
  pub pieces_put : (found : List ArrayBytes) (result : Result ArrayBytes CodecError) → map Ok found ≡ made → PutsSlices (coded (sharded subchunk inner index location) elements shape) pieces.slices.items found result
      → Decodes (coded (sharded subchunk inner index location) elements shape) value result
  pieces_put found result same puts =
      shard_read subchunk inner index location elements shape value cut.pairs result cut.fit cut.held
      (puts value cut.pairs cut.fit (pair_count index location shape subchunk value cut.pairs cut.held) cut.sliced (all_decoded found same))

  -- one of them was refused
  pub pieces_lost : (e : CodecError) → IsRefusalOf made e → Decodes (coded (sharded subchunk inner index location) elements shape) value (Err e)
  pieces_lost e (inl memory) = subst (λ (x : CodecError). Decodes (coded (sharded subchunk inner index location) elements shape) value (Err x)) (sym memory) tt
  pieces_lost e (inr refusal) =
      let said = DecodesPieceOf (coded (sharded subchunk inner index location) elements pieces.shape.items) pieces in
      let count = length pieces.slices.items in
      let long = made_long said count made are in
      let low = refusal.below in
      let inside : refusal.at_ < count = omega (arith, low, long) in
      let here = made_at said count made refusal.at_ (Err e) are inside in
      let is = refusal.is (Err e) in
      elim (refusal_made (said refusal.at_) e (subst (λ (r : Result ArrayBytes CodecError). AnswersPiece (said refusal.at_) r) is here)) [
        | inl memory ↦ subst (λ (x : CodecError). Decodes (coded (sharded subchunk inner index location) elements shape) value (Err x)) (sym memory) tt
        | inr lost ↦
            shard_read subchunk inner index location elements shape value cut.pairs (Err e) cut.fit cut.held
            (put_lost subchunk inner index location elements shape value cut.pairs pieces.slices.items cut.fit (pair_count index location shape subchunk value cut.pairs cut.held) cut.sliced refusal.at_ e inside (of_value refusal.at_ (Err e) lost))
      ]
