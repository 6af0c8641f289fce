-- The bytes that a chain may make of cells: what encoding writes, with the slices of each shard in any order.
use Rattle.std.specs.Prelude.{◌≡◌, ℕ, ◌+◌, List, [], ◌∷◌, length, Option, Some, Bool, true, false, ◌&&◌, ◌||◌, nat_le, MatchOption}
use Rattle.std.specs.List.{list_all}
use Rattle.zarr_codecs_meaning.specs.Types.{uint64, Cell, is_fill, Elements, zero_filled}
use Rattle.zarr_codecs_meaning.specs.Chains.{Chain, Location}
use Rattle.zarr_codecs_meaning.specs.Chains.Chain.{bytes, packbits, vlen, optional, after_array_codec, then_bytes, sharded}
use Rattle.zarr_codecs_meaning.specs.Fits.{is_plain}
use Rattle.zarr_codecs_meaning.specs.Places.{gather, encoded_shape, source_places, parts_of, index_shape}
use Rattle.zarr_codecs_meaning.specs.Encoding.{Pair, absent_pair, Piece, pieces_of, joined_slices, pair_cells, index_size, base_of, joined, encoded}
use Rattle.zarr_codecs_meaning.specs.Decoding.{is_absent}
use Rattle.zarr_codecs_meaning.specs.Standing.{HasSlice, IsEncoding}

-- slices are those of pieces: of a piece that is all fill there is none, and each other one has a slice that was made of it
abbrev pub SlicesMade : (List ℕ → List Cell → List ℕ → Type 0) → Cell → List Piece → List (Option (List ℕ)) → Type 0
SlicesMade made fill [] [] = Unit {0}
SlicesMade made fill [] (slice ∷ slices) = ⊥
SlicesMade made fill (piece ∷ pieces) [] = ⊥
SlicesMade made fill (piece ∷ pieces) (slice ∷ slices) =
    MatchOption slice (is_fill fill piece.1 ≡ true) (λ found. (is_fill fill piece.1 ≡ false) × made piece.0 piece.1 found) × SlicesMade made fill pieces slices

-- pairs are those of slices in a data part that begins at the base, in whatever order these stand there; where there is no slice the pair is absent
abbrev pub ArePairsOf : ℕ → List ℕ → List (Option (List ℕ)) → List Pair → Type 0
ArePairsOf base «data» [] [] = Unit {0}
ArePairsOf base «data» [] (pair ∷ pairs) = ⊥
ArePairsOf base «data» (slice ∷ slices) [] = ⊥
ArePairsOf base «data» (slice ∷ slices) (pair ∷ pairs) = MatchOption slice (pair ≡ absent_pair) (HasSlice base «data» pair) × ArePairsOf base «data» slices pairs

-- whether the slices of two pairs share no byte: one of the pairs is absent, or one slice ends before the other one begins
abbrev pub are_apart : Pair → Pair → Bool
are_apart first second = (is_absent first || is_absent second) || (nat_le (first.0 + first.1) second.0 || nat_le (second.0 + second.1) first.0)

-- whether no two of the slices share a byte
abbrev pub none_overlap : List Pair → Bool
none_overlap [] = true
none_overlap (pair ∷ pairs) = list_all (are_apart pair) pairs && none_overlap pairs

-- bytes are a shard of these slices: its data part is the slices in some order, for it holds each, no two of them share a byte, and it has as many bytes as they have together; its index was made of their pairs
pub record IsShardOf (index : List Cell → List ℕ → Type 0) (location : Location) (size : ℕ) (slices : List (Option (List ℕ))) (made : List ℕ) : Type 0 where
  pub pairs : List Pair
  pub «data» : List ℕ
  pub index_bytes : List ℕ
  pub are : ArePairsOf (base_of location size) «data» slices pairs
  pub apart : none_overlap pairs ≡ true
  pub whole : length «data» ≡ length (joined_slices slices)
  pub written : index (pair_cells pairs) index_bytes
  pub is : made ≡ joined location index_bytes «data»

-- bytes that a chain may make of cells: without shards, and where bytes codecs follow, what encoding writes; of a shard the slices that the chain inside may make of the subchunks, in any order, and their index
abbrev pub IsMadeOf : Chain → Elements → List ℕ → List Cell → List ℕ → Type 0
IsMadeOf (bytes order) elements shape cells made = IsEncoding (bytes order) elements shape made cells
IsMadeOf (packbits padding first last) elements shape cells made = IsEncoding (packbits padding first last) elements shape made cells
IsMadeOf (vlen index «data» width location) elements shape cells made = IsEncoding (vlen index «data» width location) elements shape made cells
IsMadeOf (optional mask values) elements shape cells made = IsEncoding (optional mask values) elements shape made cells
IsMadeOf (after_array_codec codec chain) elements shape cells made = IsMadeOf chain elements (encoded_shape codec shape) (gather elements.fill cells (source_places codec shape)) made
IsMadeOf (then_bytes chain codec) elements shape cells made = IsEncoding (then_bytes chain codec) elements shape made cells
IsMadeOf (sharded subchunk inner index location) elements shape cells made =
    let pairs_shape = index_shape shape subchunk in
    (slices : List (Option (List ℕ))) × SlicesMade (IsMadeOf inner elements) elements.fill (pieces_of elements.fill cells (parts_of shape subchunk)) slices
    × IsShardOf (IsMadeOf index (zero_filled uint64) pairs_shape) location (index_size index pairs_shape) slices made

-- what encoding writes is one of them
abbrev pub EncodedMade : Type 0
EncodedMade = (chain : Chain) (elements : Elements) (shape : List ℕ) (cells : List Cell) (made : List ℕ) → encoded chain elements shape cells ≡ Some made → IsMadeOf chain elements shape cells made

-- a chain without shards makes nothing else
abbrev pub PlainMade : Type 0
PlainMade = (chain : Chain) (elements : Elements) (shape : List ℕ) (cells : List Cell) (made : List ℕ) → is_plain chain ≡ true → IsMadeOf chain elements shape cells made → encoded chain elements shape cells ≡ Some made
