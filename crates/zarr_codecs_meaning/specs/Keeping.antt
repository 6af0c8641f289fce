-- What a chain keeps of cells: all of them, but for the bits that a `packbits` drops.
use Rattle.std.specs.Prelude.{ℕ, ◌==◌, List, [], ◌∷◌, map, length, take, drop, get_or, unwrap_or, if◌then◌else◌, nat_lt, flat_map}
use Rattle.std.specs.List.{filter_map}
use Rattle.zarr_codecs_meaning.specs.Numbers.{number}
use Rattle.zarr_codecs_meaning.specs.Types.{uint8, components, Cell, of_bytes, absent, present, cell_bytes, inner_type, is_fill, Elements, zero_filled}
use Rattle.zarr_codecs_meaning.specs.Chains.{Chain}
use Rattle.zarr_codecs_meaning.specs.Chains.Chain.{bytes, packbits, vlen, optional, after_array_codec, then_bytes, sharded}
use Rattle.zarr_codecs_meaning.specs.Places.{gather, place_numbers, position_of, encoded_shape, source_places, undone_places, Part, parts_of}
use Rattle.zarr_codecs_meaning.specs.Encoding.{element_bits, element_of_bits, byte_cells, mask_cell, present_cell, Piece, piece_of}

-- elements of the lengths that these cells have, cut from their joined bytes
abbrev pub cut_again : List Cell → List ℕ → List Cell
cut_again [] «data» = []
cut_again (cell ∷ cells) «data» = of_bytes (take (length (cell_bytes cell)) «data») ∷ cut_again cells (drop (length (cell_bytes cell)) «data»)

-- cells that are present where the mask says one, in their order
abbrev pub spread : List Cell → List Cell → List Cell
spread [] found = []
spread (mask ∷ masks) [] = absent ∷ spread masks []
spread (mask ∷ masks) (cell ∷ cells) = if number 256 (cell_bytes mask) == 1 then present cell ∷ spread masks cells else absent ∷ spread masks (cell ∷ cells)

-- the cell of a whole at a place, from the cells of its parts: that of the first part that holds the place
abbrev pub arranged : Cell → List Part → List (List Cell) → ℕ → Cell
arranged fill [] pieces place = fill
arranged fill (part ∷ parts) [] place = fill
arranged fill (part ∷ parts) (cells ∷ pieces) place =
    if nat_lt (position_of place part.places) (length part.places) then get_or cells (position_of place part.places) fill else arranged fill parts pieces place

-- cells that are all fill are left out of a shard, and so kept
abbrev pub kept_piece : (List ℕ → List Cell → List Cell) → Cell → Piece → List Cell
kept_piece inner fill piece = if is_fill fill piece.1 then piece.1 else inner piece.0 piece.1

-- the cells that are left of an array's cells. Of indices and masks nothing is dropped here: a `packbits` that drops bits of an index makes what it writes unreadable
abbrev pub kept : Chain → Elements → List ℕ → List Cell → List Cell
kept (bytes order) elements shape cells = cells
kept (packbits padding first last) elements shape cells =
    map (λ cell. of_bytes (element_of_bits first last (components elements.type) (element_bits first last (components elements.type) (cell_bytes cell)))) cells
kept (vlen index «data» width location) elements shape cells =
    let content = byte_cells (flat_map cell_bytes cells) in
    cut_again cells (flat_map cell_bytes (kept «data» (zero_filled uint8) (length content ∷ []) content))
kept (optional mask values) elements shape cells =
    let found = filter_map present_cell cells in
    spread (map mask_cell cells) (kept values (zero_filled (unwrap_or (inner_type elements.type) elements.type)) (length found ∷ []) found)
kept (after_array_codec codec chain) elements shape cells =
    gather elements.fill (kept chain elements (encoded_shape codec shape) (gather elements.fill cells (source_places codec shape))) (undone_places codec shape)
kept (then_bytes chain codec) elements shape cells = kept chain elements shape cells
kept (sharded subchunk inner index location) elements shape cells =
    map (arranged elements.fill (parts_of shape subchunk) (map (λ (part : Part). kept_piece (kept inner elements) elements.fill (piece_of elements.fill cells part)) (parts_of shape subchunk))) (place_numbers shape)
