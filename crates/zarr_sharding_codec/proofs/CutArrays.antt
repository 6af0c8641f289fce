-- An array of a shard that was cut, and what is stored of its pieces.
use Rattle.std.proofs.Common.{◌≡◌, ◌∙◌, ℕ, suc, ◌<◌, inl, inr, List, [], ◌∷◌, length, get_or, map, refl, sym, ap, subst, arith, Bool, Option, None, Result, Ok, Err, Vec, Global}
use Rattle.std.proofs.lemmas.List.{length-map}
use Rattle.zarr_grids_boxes.specs.Boxes.{product}
use Rattle.zarr_codecs_meaning.specs.Chains.{Chain, Location, sharded}
use Rattle.zarr_codecs_meaning.specs.Encoding.{Piece, piece_of, pieces_of}
use Rattle.zarr_codecs_meaning.specs.Payloads.{Payload}
use Rattle.zarr_codecs_meaning.specs.Places.{gather, parts_of}
use Rattle.zarr_codecs_meaning.specs.Types.{Cell, Elements}
use Rattle.zarr_codecs_meaning.proofs.Parts.{length-parts}
use Rattle.zarr_codecs_arrays.specs.Outcomes.{IsValid}
use Rattle.zarr_codecs_arrays.specs.declared.error.CodecError.{CodecError}
use Rattle.zarr_codecs_traits.specs.Arrays.{coded}
use Rattle.zarr_codecs_traits.specs.Outcomes.{Encodes}
use Rattle.zarr_codecs_traits.specs.Pieces.{AnswersPiece, AreMade}
use Rattle.zarr_codecs_traits.specs.declared.pieces.ArrayPieces.{ArrayPieces}
use Rattle.zarr_sharding_codec.specs.Pieces.{IsCutArray, IsRefusalOf, JoinsSlices, StoresPieceOf}
use Rattle.zarr_sharding_codec.specs.Slices.{ArePiecesStored, IsPieceStored, StoresPiece, slice_of}
use Rattle.zarr_sharding_places.specs.Locating.{part_shape}
use Rattle.zarr_sharding_codec.proofs.EncodedShard.{pieces_refused}
use Rattle.zarr_sharding_codec.proofs.MadePieces.{made_at, made_long, refusal_made, value_made}
use Rattle.zarr_sharding_codec.proofs.NumberedParts.{part_at}
use Rattle.zarr_sharding_codec.proofs.StoredLoop.{IsSubchunk, is_subchunk, no_piece, piece_number, refused_step}

-- what is stored of each piece is stored of all
stored_each : (inner : Chain) (exact : Bool) (elements : Elements) (pieces : List Piece) (stored : List (Option (Vec ℕ Global))) → length stored ≡ length pieces
    → ((n : ℕ) → n < length pieces → IsPieceStored inner exact elements (get_or pieces n no_piece) (slice_of (get_or stored n None))) → ArePiecesStored inner exact elements pieces (map slice_of stored)
stored_each inner exact elements [] [] many each = tt
stored_each inner exact elements [] (s ∷ ss) many each = absurd (omega (arith, many))
stored_each inner exact elements (p ∷ ps) [] many each = absurd (omega (arith, many))
stored_each inner exact elements (p ∷ ps) (s ∷ ss) many each = (each 0 (omega arith), stored_each inner exact elements ps ss (omega (arith, many)) (λ n low. each (suc n) (omega (arith, low))))

-- what is stored of the cells of the subchunk with a number is stored of that piece
pub stored_numbered : (inner : Chain) (exact : Bool) (elements : Elements) (shape subchunk edges : List ℕ) (n : ℕ) (cells : List Cell) (r : Result (Option (Vec ℕ Global)) CodecError) → IsSubchunk shape subchunk n → edges ≡ part_shape shape subchunk n
    → StoresPiece inner exact elements (edges, gather elements.fill cells (part_at shape subchunk n).places) r → StoresPiece inner exact elements (get_or (pieces_of elements.fill cells (parts_of shape subchunk)) n no_piece) r
stored_numbered inner exact elements shape subchunk edges n cells r is same h =
    subst (λ (p : Piece). StoresPiece inner exact elements p r) (sym (piece_number elements.fill cells shape subchunk n is))
    (subst (λ (s : List ℕ). StoresPiece inner exact elements (s, gather elements.fill cells (part_at shape subchunk n).places) r) same h)

module _ (subchunk : List ℕ) (inner index : Chain) (location : Location) (one all : Bool) (elements : Elements) (shape : List ℕ) (payload : Payload) (pieces : ArrayPieces) (made : List (Result (Option (Vec ℕ Global)) CodecError))
    (cut : IsCutArray (coded (sharded subchunk inner index location) elements shape) payload pieces)
    (are : AreMade (StoresPieceOf one (coded (sharded subchunk inner index location) elements pieces.shape.items) pieces) pieces.count made) where
  -- what was said of a piece is said of that subchunk of the array
  of_array : (n : ℕ) (r : Result (Option (Vec ℕ Global)) CodecError) → StoresPieceOf one (coded (sharded subchunk inner index location) elements pieces.shape.items) pieces n r
      → StoresPiece inner one elements (get_or (pieces_of elements.fill cut.cells (parts_of shape subchunk)) n no_piece) r
  of_array n r h =
      let same = subst (λ (s : List ℕ). StoresPieceOf one (coded (sharded subchunk inner index location) elements s) pieces n r) cut.shape_is h in
      same cut.cells cut.fit (subst (λ (p : Payload). IsValid elements.type p (product shape) cut.cells) (sym cut.bytes_are) cut.valid)

  length-all : length (pieces_of elements.fill cut.cells (parts_of shape subchunk)) ≡ pieces.count
  length-all = length-map (parts_of shape subchunk) (piece_of elements.fill cut.cells) ∙ sym cut.count_is

  -- the slices of the pieces were joined
  pub pieces_joined : (stored : List (Option (Vec ℕ Global))) (result : Result (Vec ℕ Global) CodecError) → map Ok stored ≡ made → JoinsSlices (coded (sharded subchunk inner index location) elements shape) one all (map slice_of stored) result
      → Encodes (coded (sharded subchunk inner index location) elements shape) all payload result
  pieces_joined stored result same joins =
      let said = StoresPieceOf one (coded (sharded subchunk inner index location) elements pieces.shape.items) pieces in
      let long = made_long said pieces.count made are in
      let many : length stored ≡ pieces.count = sym (length-map stored Ok) ∙ (ap (λ (rs : List (Result (Option (Vec ℕ Global)) CodecError)). length rs) same ∙ long) in
      joins payload cut.cells cut.valid
      (stored_each inner one elements (pieces_of elements.fill cut.cells (parts_of shape subchunk)) stored (many ∙ sym length-all)
      (λ n low. of_array n (Ok (get_or stored n None)) (value_made said pieces.count made stored n None are same (omega (arith, low, length-all)))))

  -- one of them was refused
  pub pieces_unstored : (e : CodecError) → IsRefusalOf made e → Encodes (coded (sharded subchunk inner index location) elements shape) all payload (Err e)
  pieces_unstored e (inl memory) = subst (λ (x : CodecError). Encodes (coded (sharded subchunk inner index location) elements shape) all payload (Err x)) (sym memory) tt
  pieces_unstored e (inr refusal) =
      let said = StoresPieceOf one (coded (sharded subchunk inner index location) elements pieces.shape.items) pieces in
      let long = made_long said pieces.count made are in
      let low = refusal.below in
      let n = refusal.at_ in
      let inside : n < pieces.count = omega (arith, low, long) in
      let grid = length-parts shape subchunk in
      let count = cut.count_is in
      let here = subst (λ (r : Result (Option (Vec ℕ Global)) CodecError). AnswersPiece (said n) r) (refusal.is (Err e)) (made_at said pieces.count made n (Err e) are inside) in
      elim (refusal_made (said n) e here) [
        | inl memory ↦ subst (λ (x : CodecError). Encodes (coded (sharded subchunk inner index location) elements shape) all payload (Err x)) (sym memory) tt
        | inr lost ↦
            let is = is_subchunk subchunk inner index location elements shape n cut.fit (omega (arith, inside, grid, count)) in
            let piece = subst (λ (p : Piece). StoresPiece inner one elements p (Err e)) (piece_number elements.fill cut.cells shape subchunk n is) (of_array n (Err e) lost) in
            pieces_refused subchunk inner index location one all elements shape 0 payload cut.cells e cut.fit cut.valid
            (refused_step inner one elements shape subchunk (part_shape shape subchunk n) n 0 cut.cells e is refl piece)
      ]
