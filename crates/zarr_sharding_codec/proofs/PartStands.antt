-- What is stored after new cells were put stands for the updated array.
use Rattle.std.proofs.Common.{◌≡◌, ◌∙◌, inl, inr, ℕ, ◌+◌, ◌<◌, ◌^◌, List, [], length, map, ap, sym, refl, subst, arith, Bool, true, Option, Some, None, IsTrue, MatchOption}
use Rattle.std.proofs.lemmas.Bool.{and_parts}
use Rattle.std.specs.Prelude.{nat_lt}
use Rattle.std.specs.List.{list_all}
use Rattle.zarr_grids_boxes.specs.Boxes.{product}
use Rattle.zarr_codecs_meaning.specs.Chains.{Chain, Location, sharded}
use Rattle.zarr_codecs_meaning.specs.Chunks.{chunk_decoded}
use Rattle.zarr_codecs_meaning.specs.Encoding.{Pair, Piece, base_of, index_size, pieces_of}
use Rattle.zarr_codecs_meaning.specs.Fits.{can_cut, fits, is_lossless}
use Rattle.zarr_codecs_meaning.specs.Laws.{AreCells, IsLawfulChain}
use Rattle.zarr_codecs_meaning.specs.Places.{gather, index_shape, parts_of}
use Rattle.zarr_codecs_meaning.specs.Standing.{ChunkStands, PiecesStand, Slices, StandsBy, data_part, index_layout}
use Rattle.zarr_codecs_meaning.specs.Standing.Slices.{standing_slices, encoded_slices}
use Rattle.zarr_codecs_meaning.specs.Types.{Cell, Elements, is_fill, is_value, uint64}
use Rattle.zarr_codecs_meaning.proofs.Fitting.{fitted}
use Rattle.zarr_codecs_regions.proofs.Shown.{put_cells, shown_cells, standing_decoded, tight_standing}
use Rattle.zarr_codecs_traits.specs.Indexers.{put}
use Rattle.zarr_codecs_traits.specs.PartWriting.{ChunkTight, cells_shown, only_cell}
use Rattle.zarr_sharding_changes.specs.Changes.{Change, SliceStandsBy, appended, pairs_after}
use Rattle.zarr_sharding_index.specs.Held.{HoldsPieces, IsOpened, are_absent, held_as, index_coding}
use Rattle.zarr_sharding_index.specs.Written.{IsChanged}
use Rattle.zarr_sharding_index.proofs.Stands.{changed_holds, nothing_left, opened_holds}
use Rattle.zarr_sharding_codec.specs.PartWriting.{AreChanged, put_at, stored_in}
use Rattle.zarr_sharding_codec.proofs.NumberedParts.{part_fits}
use Rattle.zarr_sharding_codec.proofs.PartFill.{all_absent, filled_stand, none_present, pieces_fill, whole_fill}
use Rattle.zarr_sharding_codec.proofs.PartHolds.{CanBe, IsGathered, changes_stand, pieces_are}
use Rattle.zarr_sharding_codec.proofs.PartShown.{IsShardOpened, piece_gathered, shown_back}
use Rattle.zarr_sharding_codec.proofs.PutPieces.{places_at}

-- new cells were put at places of an array, and the changes of its subchunks were written into its shard
pub record IsAppended (subchunk : List ℕ) (inner index : Chain) (location : Location) (exact one : Bool) (elements : Elements) (shape numbers : List ℕ) (cells : List Cell) (old new : Option (List ℕ)) : Type 0 where
  pub lawful : IsLawfulChain (sharded subchunk inner index location)
  pub fit : fits (sharded subchunk inner index location) elements.type shape ≡ true
  pub fill : is_value elements.type elements.fill ≡ true
  pub values : list_all (is_value elements.type) cells ≡ true
  pub many : length cells ≡ length numbers
  pub below : list_all (λ n. nat_lt n (product shape)) numbers ≡ true
  pub pairs : List Pair
  pub end : ℕ
  pub ended : ℕ
  pub changes : List Change
  pub count : length pairs ≡ length (parts_of shape subchunk)
  pub opened : IsOpened (index_layout index location (index_shape shape subchunk)) (length (parts_of shape subchunk)) old pairs end
  pub changed : AreChanged (stored_in inner exact elements old pairs) (put_at shape subchunk numbers cells) changes
  pub room : end + length (appended changes) < 2 ^ 63
  pub written : IsChanged (index_coding index one location (index_shape shape subchunk)) changes old end (held_as new (pairs_after end changes pairs) ended)

-- what is stored for cells, by its slices
abbrev pub ChunkBy : Slices → Chain → Elements → List ℕ → Option (List ℕ) → List Cell → Type 0
ChunkBy slices chain elements shape stored cells = MatchOption stored (is_fill elements.fill cells ≡ true) (λ value. StandsBy slices chain elements shape value cells)

module _ (subchunk : List ℕ) (inner index : Chain) (location : Location) (exact one : Bool) (elements : Elements) (shape numbers : List ℕ) (cells : List Cell) (old new : Option (List ℕ)) (h : IsAppended subchunk inner index location exact one elements shape numbers cells old new) where
  cuts : can_cut shape subchunk ≡ true
  cuts = (fitted subchunk inner index location elements shape h.fit).cuts

  pub shard_opened : IsShardOpened subchunk inner index location elements shape old h.pairs
  shard_opened = record {
    cuts = cuts;
    fit = λ k low. part_fits subchunk inner index location elements shape k h.fit low;
    many = h.count;
    count = length (parts_of shape subchunk);
    end = h.end;
    opened = h.opened;
  }

  -- the cells that the array is taken to have before
  abbrev pub taken_cells : List Cell
  taken_cells = map (only_cell elements.fill) (cells_shown (sharded subchunk inner index location) elements shape old)

  pub gathered : (whole : List Cell) → taken_cells ≡ whole → length whole ≡ product shape → IsGathered (stored_in inner exact elements old h.pairs) (put_at shape subchunk numbers cells) whole h.changes
  gathered whole same long = record {
    cuts = cuts;
    many = h.count;
    below = h.below;
    long = long;
    changed = h.changed;
    held = λ k before low held.
        let count = h.count in
        ap (λ (cs : List Cell). gather elements.fill cs (places_at shape subchunk k)) (sym same) ∙ piece_gathered subchunk inner index location elements shape old h.pairs k before shard_opened (omega (arith, count, low)) held;
  }

  -- they are the cells that it stands for
  standing_taken : (before : List Cell) → chunk_decoded (sharded subchunk inner index location) elements shape old ≡ Some before → taken_cells ≡ before
  standing_taken before is = ap (map (only_cell elements.fill)) (shown_cells (sharded subchunk inner index location) elements shape old before h.fit is) ∙ shown_back elements.fill before

  -- what is known of a shard that stands
  holds_before : (slices : Slices) (before : List Cell) → ChunkBy slices (sharded subchunk inner index location) elements shape old before
      → HoldsPieces (SliceStandsBy slices inner elements) elements.fill (index_layout index location (index_shape shape subchunk)) (pieces_of elements.fill before (parts_of shape subchunk)) (held_as old h.pairs h.end)
  holds_before slices before stands = by_stored old h.opened stands where
    by_stored : (o : Option (List ℕ)) → IsOpened (index_layout index location (index_shape shape subchunk)) (length (parts_of shape subchunk)) o h.pairs h.end → ChunkBy slices (sharded subchunk inner index location) elements shape o before
        → HoldsPieces (SliceStandsBy slices inner elements) elements.fill (index_layout index location (index_shape shape subchunk)) (pieces_of elements.fill before (parts_of shape subchunk)) (held_as o h.pairs h.end)
    by_stored None opened stands =
        let base = base_of location (index_size index (index_shape shape subchunk)) in
        let ends = opened.1 in
        record {
          «data» = [];
          held = (refl, ap are_absent opened.0 ∙ none_present (length (parts_of shape subchunk)));
          ends = omega (arith, ends);
          stand = subst (λ (ps : List Pair). PiecesStand (SliceStandsBy slices inner elements) elements.fill (data_part base []) (pieces_of elements.fill before (parts_of shape subchunk)) ps) (sym opened.0)
              (filled_stand (SliceStandsBy slices inner elements) elements.fill base before (parts_of shape subchunk) stands);
        }
    by_stored (Some value) opened stands =
        opened_holds (SliceStandsBy slices inner elements) elements.fill index location (index_shape shape subchunk) (length (parts_of shape subchunk)) h.end (pieces_of elements.fill before (parts_of shape subchunk)) value h.pairs stands opened

  -- what is known of it after the changes
  holds_after : (slices : Slices) (before : List Cell) → CanBe slices exact → is_lossless (sharded subchunk inner index location) elements.type ≡ true → taken_cells ≡ before → length before ≡ product shape → ChunkBy slices (sharded subchunk inner index location) elements shape old before
      → HoldsPieces (SliceStandsBy slices inner elements) elements.fill (index_layout index location (index_shape shape subchunk)) (pieces_of elements.fill (put numbers cells before) (parts_of shape subchunk)) (held_as new (pairs_after h.end h.changes h.pairs) h.ended)
  holds_after slices before can lossless same long stands =
      let both = and_parts (is_lossless inner elements.type) (is_lossless index uint64) lossless in
      let stored = stored_in inner exact elements old h.pairs in
      let given = put_at shape subchunk numbers cells in
      let is = gathered before same long in
      let pieces = pieces_of elements.fill before (parts_of shape subchunk) in
      let wanted = pieces_of elements.fill (put numbers cells before) (parts_of shape subchunk) in
      let relation = SliceStandsBy slices inner elements in
      subst (λ (xs : List Piece). HoldsPieces relation elements.fill (index_layout index location (index_shape shape subchunk)) xs (held_as new (pairs_after h.end h.changes h.pairs) h.ended)) (pieces_are stored given before h.changes is)
      (changed_holds relation elements.fill index one location (index_shape shape subchunk) pieces wanted h.changes h.pairs h.end old new h.ended both.1 h.room (holds_before slices before stands)
      (changes_stand slices stored given before h.changes h.changes can both.0 is h.changed.are) h.written)

  -- so it stands for the updated cells
  stands_after : (slices : Slices) (before : List Cell) → CanBe slices exact → is_lossless (sharded subchunk inner index location) elements.type ≡ true → AreCells elements shape before → taken_cells ≡ before → ChunkBy slices (sharded subchunk inner index location) elements shape old before
      → ChunkBy slices (sharded subchunk inner index location) elements shape new (put numbers cells before)
  stands_after slices before can lossless are same stands =
      by_stored new (holds_after slices before can lossless same are.whole stands) where
        after : AreCells elements shape (put numbers cells before)
        after = put_cells elements shape numbers cells before h.values are

        by_stored : (o : Option (List ℕ)) → HoldsPieces (SliceStandsBy slices inner elements) elements.fill (index_layout index location (index_shape shape subchunk)) (pieces_of elements.fill (put numbers cells before) (parts_of shape subchunk)) (held_as o (pairs_after h.end h.changes h.pairs) h.ended)
            → ChunkBy slices (sharded subchunk inner index location) elements shape o (put numbers cells before)
        by_stored None holds =
            whole_fill elements.fill shape subchunk (put numbers cells before) cuts after.whole
            (nothing_left (SliceStandsBy slices inner elements) elements.fill (base_of location (index_size index (index_shape shape subchunk))) holds.«data» (pieces_of elements.fill (put numbers cells before) (parts_of shape subchunk)) (pairs_after h.end h.changes h.pairs) holds.stand holds.held.1)
        by_stored (Some value) holds = (pairs_after h.end h.changes h.pairs, holds.«data», holds.held, holds.stand)

  pub stands_put : (before : List Cell) → is_lossless (sharded subchunk inner index location) elements.type ≡ true → AreCells elements shape before → ChunkStands (sharded subchunk inner index location) elements shape old before
      → ChunkStands (sharded subchunk inner index location) elements shape new (put numbers cells before)
  stands_put before lossless are stands =
      let is = standing_decoded (sharded subchunk inner index location) elements shape old before h.lawful h.fit lossless are stands in
      stands_after standing_slices before tt lossless are (standing_taken before is) stands

  pub tight_put : (before : List Cell) → IsTrue exact → is_lossless (sharded subchunk inner index location) elements.type ≡ true → AreCells elements shape before → ChunkTight (sharded subchunk inner index location) elements shape old before
      → ChunkTight (sharded subchunk inner index location) elements shape new (put numbers cells before)
  tight_put before can lossless are tight =
      let stands = tight_standing (sharded subchunk inner index location) elements shape old before h.lawful h.fit lossless are tight in
      let is = standing_decoded (sharded subchunk inner index location) elements shape old before h.lawful h.fit lossless are stands in
      stands_after encoded_slices before can lossless are (standing_taken before is) tight

  -- a shard that became all fill is taken away
  pub absent_put : (before : List Cell) → is_lossless (sharded subchunk inner index location) elements.type ≡ true → AreCells elements shape before → ChunkStands (sharded subchunk inner index location) elements shape old before
      → is_fill elements.fill (put numbers cells before) ≡ true → new ≡ None
  absent_put before lossless are stands filled = elim h.written [
    | inl erased ↦ erased.1
    | inr made ↦
        let is = standing_decoded (sharded subchunk inner index location) elements shape old before h.lawful h.fit lossless are stands in
        let holds = holds_after standing_slices before tt lossless (standing_taken before is) are.whole stands in
        let pieces = pieces_of elements.fill (put numbers cells before) (parts_of shape subchunk) in
        let none = all_absent (SliceStandsBy standing_slices inner elements) elements.fill (base_of location (index_size index (index_shape shape subchunk))) holds.«data» pieces (pairs_after h.end h.changes h.pairs) holds.stand (pieces_fill elements.fill (put numbers cells before) (parts_of shape subchunk) filled) in
        let some = made.some in absurd (cc)
  ]
