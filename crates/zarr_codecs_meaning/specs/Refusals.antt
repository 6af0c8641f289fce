-- Why encoding refuses cells: a caller's codec refuses bytes, or an offset or a length is too large for where it is written.
use Rattle.std.specs.Prelude.{◌≡◌, ◌⊎◌, ℕ, ◌+◌, ◌-◌, ◌^◌, ◌≤◌, List, [], ◌∷◌, map, length, Option, Some, None, unwrap_or, false, flat_map}
use Rattle.std.specs.List.{filter_map}
use Rattle.zarr_grids_boxes.specs.Boxes.{product}
use Rattle.zarr_codecs_meaning.specs.Types.{bool, integer, unsigned, uint8, uint64, inner_type, Cell, cell_bytes, is_fill, Elements, zero_filled}
use Rattle.zarr_codecs_meaning.specs.Chains.{Chain}
use Rattle.zarr_codecs_meaning.specs.Chains.Chain.{bytes, packbits, vlen, optional, after_array_codec, then_bytes, sharded}
use Rattle.zarr_codecs_meaning.specs.Places.{gather, encoded_shape, source_places, parts_of, index_shape}
use Rattle.zarr_codecs_meaning.specs.Encoding.{ends_from, last_number, number_cells, byte_cells, is_short, unless_none, mask_cell, present_cell, Pair, Piece, pieces_of, stored_pieces, joined_slices, pair_cells, pairs_from, index_size, base_of, encoded}
use Rattle.zarr_codecs_meaning.specs.Making.{IsMadeOf, SlicesMade}

-- where each element of variable length begins, and where the last one ends
abbrev pub offsets_of : List Cell → List ℕ
offsets_of cells = 0 ∷ ends_from 0 (map cell_bytes cells)

-- there are cells to encode, and they are refused
abbrev pub SomeRefused : List Cell → Type 0 → Type 0
SomeRefused [] refused = ⊥
SomeRefused (cell ∷ cells) refused = refused

-- a subchunk that is not all fill is refused
abbrev pub PieceRefused : (List ℕ → List Cell → Type 0) → Cell → List Piece → Type 0
PieceRefused refused fill [] = ⊥
PieceRefused refused fill (piece ∷ pieces) = (is_fill fill piece.1 ≡ false) × refused piece.0 piece.1 ⊎ PieceRefused refused fill pieces

-- bytes are made whose length eight bytes cannot tell
abbrev pub IsLong : Option (List ℕ) → Type 0
IsLong made = (section : List ℕ) × (made ≡ Some section) × (is_short section ≡ false)

-- a caller's codec refuses what encoding the cells asks it to encode: in a shard what a subchunk's chain is asked, or the index of the subchunks' slices in a row; after a chain what this makes of the cells
abbrev pub CodecRefuses : Chain → Elements → List ℕ → List Cell → Type 0
CodecRefuses (bytes order) elements shape cells = ⊥
CodecRefuses (packbits padding first last) elements shape cells = ⊥
CodecRefuses (vlen index «data» width location) elements shape cells =
    let content = byte_cells (flat_map cell_bytes cells) in
    CodecRefuses index (zero_filled (integer unsigned width)) ((product shape + 1) ∷ []) (number_cells width (offsets_of cells))
    ⊎ SomeRefused content (CodecRefuses «data» (zero_filled uint8) (length content ∷ []) content)
CodecRefuses (optional mask values) elements shape cells =
    let found = filter_map present_cell cells in
    CodecRefuses mask (zero_filled bool) shape (map mask_cell cells)
    ⊎ SomeRefused found (CodecRefuses values (zero_filled (unwrap_or (inner_type elements.type) elements.type)) (length found ∷ []) found)
CodecRefuses (after_array_codec codec chain) elements shape cells = CodecRefuses chain elements (encoded_shape codec shape) (gather elements.fill cells (source_places codec shape))
CodecRefuses (then_bytes chain codec) elements shape cells =
    CodecRefuses chain elements shape cells ⊎ ((made : List ℕ) × (encoded chain elements shape cells ≡ Some made) × (codec.encode made ≡ None))
CodecRefuses (sharded subchunk inner index location) elements shape cells =
    let pieces = pieces_of elements.fill cells (parts_of shape subchunk) in
    let pairs_shape = index_shape shape subchunk in
    PieceRefused (CodecRefuses inner elements) elements.fill pieces
    ⊎ ((slices : List (Option (List ℕ))) × SlicesMade (IsMadeOf inner elements) elements.fill pieces slices
    × CodecRefuses index (zero_filled uint64) pairs_shape (pair_cells (pairs_from (base_of location (index_size index pairs_shape)) slices)))

-- an offset passes the numbers of its index, or a length those of eight bytes
abbrev pub PassesIndex : Chain → Elements → List ℕ → List Cell → Type 0
PassesIndex (bytes order) elements shape cells = ⊥
PassesIndex (packbits padding first last) elements shape cells = ⊥
PassesIndex (vlen index «data» width location) elements shape cells =
    let content = byte_cells (flat_map cell_bytes cells) in
    let offsets = zero_filled (integer unsigned width) in
    (2 ^ width ≤ last_number 0 (offsets_of cells))
    ⊎ IsLong (encoded index offsets ((product shape + 1) ∷ []) (number_cells width (offsets_of cells)))
    ⊎ PassesIndex index offsets ((product shape + 1) ∷ []) (number_cells width (offsets_of cells))
    ⊎ SomeRefused content (PassesIndex «data» (zero_filled uint8) (length content ∷ []) content)
PassesIndex (optional mask values) elements shape cells =
    let found = filter_map present_cell cells in
    let inner = zero_filled (unwrap_or (inner_type elements.type) elements.type) in
    IsLong (encoded mask (zero_filled bool) shape (map mask_cell cells))
    ⊎ IsLong (unless_none found (encoded values inner (length found ∷ []) found))
    ⊎ PassesIndex mask (zero_filled bool) shape (map mask_cell cells)
    ⊎ SomeRefused found (PassesIndex values inner (length found ∷ []) found)
PassesIndex (after_array_codec codec chain) elements shape cells = PassesIndex chain elements (encoded_shape codec shape) (gather elements.fill cells (source_places codec shape))
PassesIndex (then_bytes chain codec) elements shape cells = PassesIndex chain elements shape cells
PassesIndex (sharded subchunk inner index location) elements shape cells =
    let parts = parts_of shape subchunk in
    let pieces = pieces_of elements.fill cells parts in
    let pairs_shape = index_shape shape subchunk in
    PieceRefused (PassesIndex inner elements) elements.fill pieces
    ⊎ ((stored : List (Option (List ℕ))) × (stored_pieces (encoded inner elements) elements.fill pieces ≡ Some stored) × (2 ^ 64 - 1 ≤ base_of location (index_size index pairs_shape) + length (joined_slices stored)))
    ⊎ ((pairs : List Pair) × (length pairs ≡ length parts) × PassesIndex index (zero_filled uint64) pairs_shape (pair_cells pairs))

-- there is no third reason why a chain refuses to encode cells
abbrev pub EncodingRefused : Type 0
EncodingRefused = (chain : Chain) (elements : Elements) (shape : List ℕ) (cells : List Cell) → encoded chain elements shape cells ≡ None → CodecRefuses chain elements shape cells ⊎ PassesIndex chain elements shape cells
