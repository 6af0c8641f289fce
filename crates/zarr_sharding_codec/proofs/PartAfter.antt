-- The cells of an array after new ones were put, subchunk by subchunk.
use Rattle.std.proofs.Common.{◌≡◌, ◌∙◌, ℕ, ◌<◌, List, [], length, map, get_or, ap, sym, arith, Option, Some, unwrap_or}
use Rattle.std.proofs.lemmas.List.{get_or-map, length-map}
use Rattle.zarr_codecs_meaning.specs.Chains.{Chain, Location, sharded}
use Rattle.zarr_codecs_meaning.specs.Encoding.{Pair, absent_pair, piece_of, pieces_of}
use Rattle.zarr_codecs_meaning.specs.Payloads.{Payload}
use Rattle.zarr_codecs_meaning.specs.Places.{gather, parts_of}
use Rattle.zarr_codecs_meaning.specs.Types.{Cell, Elements}
use Rattle.zarr_codecs_meaning.proofs.Parts.{no_part}
use Rattle.zarr_codecs_traits.specs.Arrays.{coded}
use Rattle.zarr_codecs_traits.specs.Indexers.{Asked, numbers_asked, put}
use Rattle.zarr_codecs_traits.specs.PartWriting.{cells_after, cells_shown, only_cell}
use Rattle.zarr_sharding_places.specs.Locating.{part_shape}
use Rattle.zarr_sharding_places.specs.Pieces.{piece_decoded}
use Rattle.zarr_sharding_codec.specs.Appending.{IsTestedPart}
use Rattle.zarr_sharding_codec.specs.PartWriting.{cells_put, given_in, numbers_in, put_at}
use Rattle.zarr_sharding_codec.proofs.PartHolds.{piece_there, put_gathered}
use Rattle.zarr_sharding_codec.proofs.PartShown.{IsShardOpened, piece_gathered, shown_count}
use Rattle.zarr_sharding_codec.proofs.PutPieces.{places_at}
use Rattle.zarr_sharding_codec.proofs.StoredLoop.{no_piece}

module _ (subchunk : List ℕ) (inner index : Chain) (location : Location) (elements : Elements) (shape : List ℕ) (asked : Asked) (payload : Payload) (size : ℕ) (numbers : List ℕ) (old : Option (List ℕ)) (pairs : List Pair)
    (tested : IsTestedPart (coded (sharded subchunk inner index location) elements shape) asked payload size numbers) (opened : IsShardOpened subchunk inner index location elements shape old pairs) where
  -- the cells that the array would have
  abbrev pub after : List Cell
  after = cells_after (coded (sharded subchunk inner index location) elements shape) old (numbers_asked shape asked) tested.cells

  -- those of a subchunk that is decoded
  pub after_piece : (k : ℕ) (before : List Cell) → k < length pairs → piece_decoded inner elements (unwrap_or old []) (part_shape shape subchunk k) (get_or pairs k absent_pair) ≡ Some before
      → get_or (pieces_of elements.fill after (parts_of shape subchunk)) k no_piece ≡ (part_shape shape subchunk k, cells_put (put_at shape subchunk numbers tested.cells) k before)
  after_piece k before low held =
      let many = opened.many in
      let there : k < length (parts_of shape subchunk) = omega (arith, low, many) in
      let shown = map (only_cell elements.fill) (cells_shown (sharded subchunk inner index location) elements shape old) in
      let long = length-map (cells_shown (sharded subchunk inner index location) elements shape old) (only_cell elements.fill) ∙ shown_count subchunk inner index location elements shape old in
      piece_there elements.fill after shape subchunk k opened.cuts there
      ∙ ap (λ (cs : List Cell). (part_shape shape subchunk k, cs))
      (ap (λ (ns : List ℕ). gather elements.fill (put ns tested.cells shown) (places_at shape subchunk k)) (sym tested.numbers_are)
      ∙ (put_gathered elements.fill shape subchunk k numbers tested.cells shown opened.cuts there tested.below long
      ∙ ap (put (numbers_in shape subchunk k numbers) (given_in shape subchunk k numbers tested.cells)) (piece_gathered subchunk inner index location elements shape old pairs k before opened there held)))

  -- the same by the subchunk itself
  pub after_part : (k : ℕ) (before : List Cell) → k < length pairs → piece_decoded inner elements (unwrap_or old []) (part_shape shape subchunk k) (get_or pairs k absent_pair) ≡ Some before
      → piece_of elements.fill after (get_or (parts_of shape subchunk) k no_part) ≡ (part_shape shape subchunk k, cells_put (put_at shape subchunk numbers tested.cells) k before)
  after_part k before low held =
      let many = opened.many in
      sym (get_or-map (piece_of elements.fill after) (parts_of shape subchunk) k no_part no_piece (omega (arith, low, many))) ∙ after_piece k before low held
