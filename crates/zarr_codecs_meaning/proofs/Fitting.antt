-- What it says that a chain with chains inside fits, and what such a chain makes of cells.
use Rattle.std.proofs.Common.{◌≡◌, ℕ, ◌+◌, ◌-◌, ◌*◌, ◌^◌, ◌<◌, List, [], ◌∷◌, length, ap, ◌∙◌, sym, refl, arith, Option, Some, None, option_map, true, false, not, ◌&&◌, is_some, length-append}
use Rattle.std.specs.Prelude.{nat_lt}
use Rattle.std.specs.List.{list_all}
use Rattle.std.proofs.lemmas.Bool.{ltb-true, and_parts, not-true}
use Rattle.std.proofs.lemmas.List.{length-map}
use Rattle.zarr_grids_boxes.specs.Boxes.{product}
use Rattle.zarr_codecs_meaning.specs.Types.{uint64, Elements, Cell, is_value, inner_type, zero_filled}
use Rattle.zarr_codecs_meaning.specs.Chains.{Chain, Location}
use Rattle.zarr_codecs_meaning.specs.Chains.Chain.{sharded}
use Rattle.zarr_codecs_meaning.specs.Chains.Location.{at_start, at_end}
use Rattle.zarr_codecs_meaning.specs.Places.{Part, parts_of, index_shape}
use Rattle.zarr_codecs_meaning.specs.Fits.{fits, size_of, has_index_size, is_some_below, can_cut, tells_too_long}
use Rattle.zarr_codecs_meaning.specs.Encoding.{encoded, Pair, Piece, piece_of, pieces_of, stored_pieces, joined_slices, pairs_from, pair_cells, index_size, base_of, joined, shard_of}
use Rattle.zarr_codecs_meaning.specs.Laws.{AreCells}
use Rattle.zarr_codecs_meaning.proofs.Lists.{map_some, if_some, Each, each_passes}
use Rattle.zarr_codecs_meaning.proofs.ArrayCodecs.{length-gather, values_gathered}
use Rattle.zarr_codecs_meaning.proofs.Shards.{length-pairs_from, length-stored, length-pair_cells, AreWords, words_from, part_cells, SlicesStand, stored_stand}
use Rattle.zarr_codecs_meaning.proofs.Parts.{part_counts, index_product}
use Rattle.zarr_codecs_meaning.proofs.Words.{pair_cells_are_values}

-- what a shard's fitting says
pub record Fitted (subchunk : List ℕ) (inner index : Chain) (elements : Elements) (shape : List ℕ) : Type 0 where
  pub cuts : can_cut shape subchunk ≡ true
  pub each : list_all (λ (part : Part). fits inner elements.type part.shape) (parts_of shape subchunk) ≡ true
  pub index_fits : fits index uint64 (index_shape shape subchunk) ≡ true
  pub sized : (n : ℕ) × (size_of index uint64 (index_shape shape subchunk) ≡ Some n)

some_below : (bound : ℕ) (o : Option ℕ) → is_some_below bound o ≡ true → (n : ℕ) × (o ≡ Some n)
some_below bound None h = cc
some_below bound (Some n) h = (n, refl)

-- an index that has a size has one below 2^63
pub size_is_below : (index : Chain) (shape : List ℕ) → has_index_size index shape ≡ true → is_some_below (2 ^ 63) (size_of index uint64 shape) ≡ true
size_is_below index shape h = (and_parts (is_some_below (2 ^ 63) (size_of index uint64 shape)) (nat_lt (8 * product shape) (2 ^ 63) && not (tells_too_long index uint64 shape)) h).0

-- and none of its codecs tells too long a size of it
pub index_is_short : (index : Chain) (shape : List ℕ) → has_index_size index shape ≡ true → tells_too_long index uint64 shape ≡ false
index_is_short index shape h =
    let few = nat_lt (8 * product shape) (2 ^ 63) in
    let short = not (tells_too_long index uint64 shape) in
    not-true (tells_too_long index uint64 shape) (and_parts few short (and_parts (is_some_below (2 ^ 63) (size_of index uint64 shape)) (few && short) h).1).1

pub fitted : (subchunk : List ℕ) (inner index : Chain) (location : Location) (elements : Elements) (shape : List ℕ) → fits (sharded subchunk inner index location) elements.type shape ≡ true → Fitted subchunk inner index elements shape
fitted subchunk inner index location elements shape fit =
    let pairs_shape = index_shape shape subchunk in
    let e = has_index_size index pairs_shape in
    let d = fits index uint64 pairs_shape in
    let c = list_all (λ (part : Part). fits inner elements.type part.shape) (parts_of shape subchunk) in
    let b = can_cut shape subchunk in
    let a = not (is_some (inner_type elements.type)) in
    let two = and_parts a (b && (c && (d && e))) fit in
    let three = and_parts b (c && (d && e)) two.1 in
    let four = and_parts c (d && e) three.1 in
    let five = and_parts d e four.1 in
    record { cuts = three.0; each = four.0; index_fits = five.0; sized = some_below (2 ^ 63) (size_of index uint64 pairs_shape) (size_is_below index pairs_shape five.1) }

-- the pairs of a shard as the cells of its index
pub pairs_are_cells : (shape subchunk : List ℕ) (pairs : List Pair) → AreWords pairs → length pairs ≡ length (parts_of shape subchunk) → AreCells (zero_filled uint64) (index_shape shape subchunk) (pair_cells pairs)
pairs_are_cells shape subchunk pairs are count = record {
  fill = refl;
  values = pair_cells_are_values pairs are;
  whole = length-pair_cells pairs ∙ (ap (λ n. 2 * n) count ∙ sym (index_product shape subchunk));
}

-- the cells of each part
pub each_part : (subchunk : List ℕ) (inner index : Chain) (elements : Elements) (shape : List ℕ) (cells : List Cell) (Q : Part → Type 0) → Fitted subchunk inner index elements shape → AreCells elements shape cells
    → ((part : Part) → fits inner elements.type part.shape ≡ true → AreCells elements part.shape (part_cells elements.fill cells part) → Q part) → Each Q (parts_of shape subchunk)
each_part subchunk inner index elements shape cells Q f are law =
    go (parts_of shape subchunk) (part_counts shape subchunk f.cuts) (each_passes (λ (part : Part). fits inner elements.type part.shape) (parts_of shape subchunk) f.each) where
      go : (parts : List Part) → Each (λ (part : Part). length part.places ≡ product part.shape) parts → Each (λ (part : Part). fits inner elements.type part.shape ≡ true) parts → Each Q parts
      go [] counts fit = tt
      go (part ∷ parts) counts fit = (
        law part fit.0 (record {
          fill = are.fill;
          values = values_gathered (is_value elements.type) elements.fill cells part.places are.fill are.values;
          whole = length-gather elements.fill cells part.places ∙ counts.0;
        }),
        go parts counts.1 fit.1,
      )

pub each_piece : (P : Piece → Type 0) (fill : Cell) (cells : List Cell) (parts : List Part) → Each (λ (part : Part). P (piece_of fill cells part)) parts → Each P (pieces_of fill cells parts)
each_piece P fill cells [] h = tt
each_piece P fill cells (part ∷ parts) h = (h.0, each_piece P fill cells parts h.1)

-- what is shown of what encoding writes holds of a shard's slices
pub slices_stand : (subchunk : List ℕ) (inner index : Chain) (elements : Elements) (shape : List ℕ) (cells : List Cell) (stored : List (Option (List ℕ))) (slice : List ℕ → List ℕ → List Cell → Type 0)
    → Fitted subchunk inner index elements shape → AreCells elements shape cells
    → ((part : List ℕ) (made : List ℕ) (found : List Cell) → fits inner elements.type part ≡ true → AreCells elements part found → encoded inner elements part found ≡ Some made → slice part made found)
    → stored_pieces (encoded inner elements) elements.fill (pieces_of elements.fill cells (parts_of shape subchunk)) ≡ Some stored
    → SlicesStand slice elements.fill (pieces_of elements.fill cells (parts_of shape subchunk)) stored
slices_stand subchunk inner index elements shape cells stored slice f are law e =
    let fill = elements.fill in
    let each = each_piece (λ x. (v : List ℕ) → encoded inner elements x.0 x.1 ≡ Some v → slice x.0 v x.1) fill cells (parts_of shape subchunk)
    (each_part subchunk inner index elements shape cells (λ (part : Part). (v : List ℕ) → encoded inner elements part.shape (part_cells fill cells part) ≡ Some v → slice part.shape v (part_cells fill cells part)) f are
    (λ part one two v h. law part.shape v (part_cells fill cells part) one two h)) in
    stored_stand (encoded inner elements) slice fill (pieces_of fill cells (parts_of shape subchunk)) stored each e

-- what is made of a shard's slices: offsets below the mark of an absent one, and the bytes of the index
pub record IsShard (subchunk : List ℕ) (index : Chain) (location : Location) (shape value : List ℕ) (stored : List (Option (List ℕ))) : Type 0 where
  pub short : base_of location (index_size index (index_shape shape subchunk)) + length (joined_slices stored) < 2 ^ 64 - 1
  pub pairs_are : AreCells (zero_filled uint64) (index_shape shape subchunk) (pair_cells (pairs_from (base_of location (index_size index (index_shape shape subchunk))) stored))
  pub index_bytes : List ℕ
  pub is_index : encoded index (zero_filled uint64) (index_shape shape subchunk) (pair_cells (pairs_from (base_of location (index_size index (index_shape shape subchunk))) stored)) ≡ Some index_bytes
  pub is : joined location index_bytes (joined_slices stored) ≡ value

pub shard_made : (subchunk : List ℕ) (index : Chain) (location : Location) (shape value : List ℕ) (stored : List (Option (List ℕ))) → length stored ≡ length (parts_of shape subchunk)
    → shard_of (encoded index (zero_filled uint64) (index_shape shape subchunk)) location (index_size index (index_shape shape subchunk)) stored ≡ Some value → IsShard subchunk index location shape value stored
shard_made subchunk index location shape value stored count h =
    let pairs_shape = index_shape shape subchunk in
    let base = base_of location (index_size index pairs_shape) in
    let content = joined_slices stored in
    let pairs = pairs_from base stored in
    let index_bytes = encoded index (zero_filled uint64) pairs_shape (pair_cells pairs) in
    let guarded = if_some (nat_lt (base + length content) (2 ^ 64 - 1)) (option_map (λ (front : List ℕ). joined location front content) index_bytes) value h in
    let short = ltb-true (base + length content) (2 ^ 64 - 1) guarded.0 in
    let made = map_some (λ (front : List ℕ). joined location front content) index_bytes value guarded.1 in
    record { short = short; pairs_are = pairs_are_cells shape subchunk pairs (words_from stored base short) (length-pairs_from stored base ∙ count); index_bytes = made.0; is_index = made.1; is = made.2 }

-- as many slices are stored as there are subchunks
pub stored_count : (encode : List ℕ → List Cell → Option (List ℕ)) (fill : Cell) (cells : List Cell) (parts : List Part) (stored : List (Option (List ℕ))) → stored_pieces encode fill (pieces_of fill cells parts) ≡ Some stored → length stored ≡ length parts
stored_count encode fill cells parts stored e = length-stored encode fill (pieces_of fill cells parts) stored e ∙ length-map parts (piece_of fill cells)

pub length-joined : (location : Location) (index «data» : List ℕ) → length (joined location index «data») ≡ length index + length «data»
length-joined at_start index «data» = length-append index «data»
length-joined at_end index «data» = length-append «data» index ∙ omega arith
