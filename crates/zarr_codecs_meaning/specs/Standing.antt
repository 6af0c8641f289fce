-- What a stored value means, however it was written.
use Rattle.std.specs.Prelude.{◌≡◌, ℕ, ◌+◌, ◌-◌, ◌^◌, ◌<◌, List, [], ◌∷◌, ◌++◌, length, Option, Some, None, true, false, ◌⊎◌, MatchBool, MatchOption}
use Rattle.zarr_codecs_meaning.specs.Types.{uint64, Cell, is_fill, Elements, zero_filled}
use Rattle.zarr_codecs_meaning.specs.Chains.{Chain, Location}
use Rattle.zarr_codecs_meaning.specs.Chains.Chain.{bytes, packbits, vlen, optional, after_array_codec, then_bytes, sharded}
use Rattle.zarr_codecs_meaning.specs.Places.{gather, encoded_shape, source_places, parts_of, index_shape}
use Rattle.zarr_codecs_meaning.specs.Fits.{is_plain}
use Rattle.zarr_codecs_meaning.specs.Encoding.{Pair, absent_pair, Piece, pieces_of, pair_cells, index_size, base_of, joined, encoded}
use Rattle.zarr_codecs_meaning.specs.Decoding.{decoded}

-- when a value stands for cells: a relation between an array's shape, the value and the array's cells
abbrev pub Standing : Type 1
Standing = List ℕ → List ℕ → List Cell → Type 0

-- the data part of a shard: where it begins in the shard's value, and its bytes
pub record DataPart : Type 0 where
  pub base : ℕ
  pub bytes : List ℕ

-- these bytes as a data part that begins there
abbrev pub data_part : ℕ → List ℕ → DataPart
data_part base content = record { base = base; bytes = content }

-- how the index of a shard is laid out: its chain, where it stands, and the shape of its pairs
pub record IndexLayout : Type 0 where
  pub chain : Chain
  pub location : Location
  pub shape : List ℕ

-- an index of this chain that stands there and has this shape
abbrev pub index_layout : Chain → Location → List ℕ → IndexLayout
index_layout chain location shape = record { chain = chain; location = location; shape = shape }

-- how many bytes such an index has
abbrev pub layout_size : IndexLayout → ℕ
layout_size layout = index_size layout.chain layout.shape

-- where the data part begins in a shard with such an index
abbrev pub layout_base : IndexLayout → ℕ
layout_base layout = base_of layout.location (layout_size layout)

-- a slice is that of a pair in a data part that begins at the base
pub record HasSlice (base : ℕ) («data» : List ℕ) (pair : Pair) (slice : List ℕ) : Type 0 where
  pub before : List ℕ
  pub after : List ℕ
  pub is : «data» ≡ before ++ (slice ++ after)
  pub begins : pair.0 ≡ base + length before
  pub long : pair.1 ≡ length slice
  pub low : pair.0 + pair.1 < 2 ^ 64 - 1

-- the pair is absent exactly where the subchunk is all fill; else its slice lies in the data part and stands for the cells
abbrev pub PieceStands : Standing → Cell → DataPart → Piece → Pair → Type 0
PieceStands inner fill «data» piece pair =
    ((is_fill fill piece.1 ≡ true) × (pair ≡ absent_pair)) ⊎ ((is_fill fill piece.1 ≡ false) × ((slice : List ℕ) × HasSlice «data».base «data».bytes pair slice × inner piece.0 slice piece.1))

-- there is no slice for a subchunk that is all fill; any other slice stands for the subchunk's cells
abbrev pub SliceStands : Standing → Cell → Piece → Option (List ℕ) → Type 0
SliceStands inner fill piece None = is_fill fill piece.1 ≡ true
SliceStands inner fill piece (Some slice) = (is_fill fill piece.1 ≡ false) × inner piece.0 slice piece.1

-- each pair stands for its subchunk, and there are as many of both
abbrev pub PiecesStand : Standing → Cell → DataPart → List Piece → List Pair → Type 0
PiecesStand inner fill «data» [] [] = Unit {0}
PiecesStand inner fill «data» [] (pair ∷ pairs) = ⊥
PiecesStand inner fill «data» (piece ∷ pieces) [] = ⊥
PiecesStand inner fill «data» (piece ∷ pieces) (pair ∷ pairs) = PieceStands inner fill «data» piece pair × PiecesStand inner fill «data» pieces pairs

-- the value is an index that is decoded to these pairs, joined with this data part
pub record IsLaidOut (layout : IndexLayout) (value : List ℕ) (pairs : List Pair) («data» : List ℕ) : Type 0 where
  pub index_bytes : List ℕ
  pub long : length index_bytes ≡ layout_size layout
  pub read : decoded layout.chain (zero_filled uint64) layout.shape index_bytes ≡ Some (pair_cells pairs)
  pub is : value ≡ joined layout.location index_bytes «data»

-- an index of pairs and a data part make the value, and they stand for the pieces
abbrev pub ShardStands : IndexLayout → Standing → Cell → List Piece → List ℕ → Type 0
ShardStands layout inner fill pieces value =
    (pairs : List Pair) × («data» : List ℕ) × IsLaidOut layout value pairs «data» × PiecesStand inner fill (data_part (layout_base layout) «data») pieces pairs

-- what the slices of a shard are to be: any that stand for their cells, or what encoding writes
pub data Slices : Type 0 where
  standing_slices : Slices
  encoded_slices : Slices

-- a value is what encoding writes for the cells
abbrev pub IsEncoding : Chain → Elements → Standing
IsEncoding chain elements = λ shape value cells. encoded chain elements shape cells ≡ Some value

-- a value stands for cells: of a plain chain it is what encoding writes; of a shard, the bytes codecs undone, its pairs and slices stand for the subchunks in any order and with gaps
abbrev pub StandsBy : Slices → Chain → Elements → Standing
StandsBy slices (bytes order) elements = IsEncoding (bytes order) elements
StandsBy slices (packbits padding first last) elements = IsEncoding (packbits padding first last) elements
StandsBy slices (vlen index «data» width location) elements = IsEncoding (vlen index «data» width location) elements
StandsBy slices (optional mask values) elements = IsEncoding (optional mask values) elements
StandsBy slices (after_array_codec codec chain) elements = λ shape value cells. StandsBy slices chain elements (encoded_shape codec shape) value (gather elements.fill cells (source_places codec shape))
StandsBy slices (then_bytes chain codec) elements = λ shape value cells.
    MatchBool (is_plain chain) (IsEncoding (then_bytes chain codec) elements shape value cells)
    ((inside : List ℕ) × (codec.decode value ≡ Some inside) × StandsBy slices chain elements shape inside cells)
StandsBy slices (sharded subchunk inner index location) elements = λ shape value cells.
    ShardStands (index_layout index location (index_shape shape subchunk)) (elim slices [ standing_slices ↦ StandsBy standing_slices inner elements | encoded_slices ↦ IsEncoding inner elements ])
    elements.fill (pieces_of elements.fill cells (parts_of shape subchunk)) value

-- a value stands for cells, whatever the order and the gaps of its slices
abbrev pub Stands : Chain → Elements → List ℕ → List ℕ → List Cell → Type 0
Stands chain elements shape value cells = StandsBy standing_slices chain elements shape value cells

-- each slice is what encoding writes
abbrev pub Tight : Chain → Elements → List ℕ → List ℕ → List Cell → Type 0
Tight chain elements shape value cells = StandsBy encoded_slices chain elements shape value cells

-- what is stored for a chunk stands for its cells: no value for the fill value alone, else one that stands
abbrev pub ChunkStands : Chain → Elements → List ℕ → Option (List ℕ) → List Cell → Type 0
ChunkStands chain elements shape stored cells = MatchOption stored (is_fill elements.fill cells ≡ true) (λ value. Stands chain elements shape value cells)
