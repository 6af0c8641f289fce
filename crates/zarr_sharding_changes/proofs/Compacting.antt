-- What stands, stands where its slices are copied without gaps; what is tight becomes what encoding writes.
use Rattle.std.proofs.Common.{◌≡◌, ℕ, List, [], ◌∷◌, ap, ◌∙◌, sym, refl, Option, Some, None, Bool, true, option_and_then, option_map, if◌then◌else◌}
use Rattle.std.proofs.lemmas.Bool.{and_parts}
use Rattle.zarr_codecs_meaning.specs.Types.{Cell, uint64, Elements, zero_filled}
use Rattle.zarr_codecs_meaning.specs.Chains.{Chain, Location}
use Rattle.zarr_codecs_meaning.specs.Chains.Chain.{sharded}
use Rattle.zarr_codecs_meaning.specs.Places.{parts_of, index_shape}
use Rattle.zarr_codecs_meaning.specs.Fits.{fits, is_lossless}
use Rattle.zarr_codecs_meaning.specs.Encoding.{Piece, pieces_of, stored_pieces, index_size, shard_of, encoded}
use Rattle.zarr_codecs_meaning.specs.Standing.{Slices, IsEncoding, StandsBy, Tight, index_layout}
use Rattle.zarr_codecs_meaning.specs.Laws.{IsLawfulChain, AreCells}
use Rattle.zarr_codecs_meaning.proofs.Shards.{SlicesStand}
use Rattle.zarr_codecs_meaning.proofs.Fitting.{fitted}
use Rattle.zarr_codecs_meaning.proofs.Meaning.{laws_of, stored_stands}
use Rattle.zarr_sharding_changes.specs.Changes.{SliceStandsBy}
use Rattle.zarr_sharding_changes.specs.Compaction.{compacted}
use Rattle.zarr_sharding_changes.proofs.Slices.{shard_read}

-- slices that encoding writes are what is stored of the pieces
are_stored : (encode : List ℕ → List Cell → Option (List ℕ)) (fill : Cell) (pieces : List Piece) (stored : List (Option (List ℕ))) → SlicesStand (λ shape slice cells. encode shape cells ≡ Some slice) fill pieces stored → stored_pieces encode fill pieces ≡ Some stored
are_stored encode fill [] [] h = refl
are_stored encode fill [] (first ∷ others) h = elim h [ ]
are_stored encode fill (piece ∷ pieces) [] h = elim h [ ]
are_stored encode fill (piece ∷ pieces) (None ∷ others) h =
    let next : Option (List ℕ) → Option (List (Option (List ℕ))) = λ first. option_map (λ (rest : List (Option (List ℕ))). first ∷ rest) (stored_pieces encode fill pieces) in
    ap (λ (t : Bool). option_and_then next (if t then Some None else option_map Some (encode piece.0 piece.1))) h.0
    ∙ ap (option_map (λ (rest : List (Option (List ℕ))). None ∷ rest)) (are_stored encode fill pieces others h.1)
are_stored encode fill (piece ∷ pieces) (Some slice ∷ others) h =
    let next : Option (List ℕ) → Option (List (Option (List ℕ))) = λ first. option_map (λ (rest : List (Option (List ℕ))). first ∷ rest) (stored_pieces encode fill pieces) in
    ap (λ (t : Bool). option_and_then next (if t then Some None else option_map Some (encode piece.0 piece.1))) h.0.0
    ∙ (ap (λ (o : Option (List ℕ)). option_and_then next (option_map Some o)) h.0.1
    ∙ ap (option_map (λ (rest : List (Option (List ℕ))). Some slice ∷ rest)) (are_stored encode fill pieces others h.1))

pub compacted_stands : (slices : Slices) (subchunk : List ℕ) (inner index : Chain) (location : Location) (elements : Elements) (shape value made : List ℕ) (cells : List Cell) → let chain = sharded subchunk inner index location in
    IsLawfulChain chain → fits chain elements.type shape ≡ true → is_lossless chain elements.type ≡ true → AreCells elements shape cells
    → StandsBy slices chain elements shape value cells → compacted subchunk index location shape value ≡ Some made → StandsBy slices chain elements shape made cells
compacted_stands slices subchunk inner index location elements shape value made cells lawful fit lossless are h is =
    let pairs_shape = index_shape shape subchunk in
    let words = zero_filled uint64 in
    let size = index_size index pairs_shape in
    let slice = SliceStandsBy slices inner elements in
    let found = shard_read (index_layout index location pairs_shape) slice elements.fill (pieces_of elements.fill cells (parts_of shape subchunk)) value h in
    let written : shard_of (encoded index words pairs_shape) location size found.0 ≡ Some made = sym (ap (option_and_then (shard_of (encoded index words pairs_shape) location size)) found.1) ∙ is in
    stored_stands subchunk inner index location elements shape made cells slice found.0 lawful.1 (laws_of index lawful.1) (fitted subchunk inner index location elements shape fit) (and_parts (is_lossless inner elements.type) (is_lossless index uint64) lossless).1 found.2 written

pub compacted_encoded : (subchunk : List ℕ) (inner index : Chain) (location : Location) (elements : Elements) (shape value : List ℕ) (cells : List Cell) → let chain = sharded subchunk inner index location in
    Tight chain elements shape value cells → compacted subchunk index location shape value ≡ encoded chain elements shape cells
compacted_encoded subchunk inner index location elements shape value cells h =
    let pairs_shape = index_shape shape subchunk in
    let words = zero_filled uint64 in
    let size = index_size index pairs_shape in
    let pieces = pieces_of elements.fill cells (parts_of shape subchunk) in
    let found = shard_read (index_layout index location pairs_shape) (IsEncoding inner elements) elements.fill pieces value h in
    ap (option_and_then (shard_of (encoded index words pairs_shape) location size)) (found.1 ∙ sym (are_stored (encoded inner elements) elements.fill pieces found.0 found.2))
