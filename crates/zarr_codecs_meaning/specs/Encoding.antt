-- What a chain makes of the cells of an array.
use Rattle.std.specs.Prelude.{ℕ, ◌+◌, ◌-◌, ◌*◌, ◌/◌, ◌%◌, ◌^◌, List, [], ◌∷◌, ◌++◌, map, length, reverse, take, drop, Option, Some, None, option_map, option_and_then, unwrap_or, Bool, ◌&&◌, if◌then◌else◌, nat_lt, flat_map}
use Rattle.std.specs.List.{filter_map, range_with_len}
use Rattle.zarr_grids_boxes.specs.Boxes.{product}
use Rattle.zarr_codecs_meaning.specs.Numbers.{digits, number, word}
use Rattle.zarr_codecs_meaning.specs.Types.{bool, integer, unsigned, uint8, uint64, Component, components, Cell, of_bytes, absent, present, cell_bytes, extended, inner_type, is_fill, Elements, zero_filled}
use Rattle.zarr_codecs_meaning.specs.Chains.{Chain, Endianness, Padding, Location}
use Rattle.zarr_codecs_meaning.specs.Chains.Chain.{bytes, packbits, vlen, optional, after_array_codec, then_bytes, sharded}
use Rattle.zarr_codecs_meaning.specs.Chains.Endianness.{little, big}
use Rattle.zarr_codecs_meaning.specs.Chains.Padding.{no_padding_byte, first_byte, last_byte}
use Rattle.zarr_codecs_meaning.specs.Chains.Location.{at_start, at_end}
use Rattle.zarr_codecs_meaning.specs.Places.{gather, encoded_shape, source_places, Part, parts_of, index_shape}
use Rattle.zarr_codecs_meaning.specs.Fits.{last_kept, kept_bits, size_of}

-- ---- `bytes`: the elements row-major, one after another

-- the bytes of a component in the stored order
abbrev pub in_order : Option Endianness → List ℕ → List ℕ
in_order None component = component
in_order (Some little) component = component
in_order (Some big) component = reverse component

-- each component's bytes in the stored order; the same function undoes it
abbrev pub ordered : Option Endianness → List Component → List ℕ → List ℕ
ordered order [] element = []
ordered order (c ∷ cs) element = in_order order (take c.byte_count element) ++ ordered order cs (drop c.byte_count element)

-- ---- `packbits`: the kept bits of all components of all elements, lowest first, as one list of bits

-- the kept bits of an element, component by component
abbrev pub element_bits : ℕ → Option ℕ → List Component → List ℕ → List ℕ
element_bits first last [] element = []
element_bits first last (c ∷ cs) element = digits 2 (kept_bits first last c) (number 256 (take c.byte_count element) / 2 ^ first) ++ element_bits first last cs (drop c.byte_count element)

-- eight bits a byte, the first bit lowest; zero bits fill the last byte
abbrev pub packed : List ℕ → List ℕ
packed bits = map (λ n. number 2 (take 8 (drop (8 * n) bits))) (range_with_len 0 ((length bits + 7) / 8))

-- how many zero bits fill the last byte
abbrev pub padding_bits : List ℕ → ℕ
padding_bits bits = (8 - length bits % 8) % 8

-- the bytes of bits, with the number of padding bits where it is told
abbrev pub with_padding : Padding → List ℕ → List ℕ
with_padding no_padding_byte bits = packed bits
with_padding first_byte bits = padding_bits bits ∷ packed bits
with_padding last_byte bits = packed bits ++ padding_bits bits ∷ []

-- an element whose kept bits are these: zeros below them, and above them zeros or copies of the last one
abbrev pub element_of_bits : ℕ → Option ℕ → List Component → List ℕ → List ℕ
element_of_bits first last [] bits = []
element_of_bits first last (c ∷ cs) bits =
    digits 256 c.byte_count (extended c.sign (last_kept last c + 1) c.byte_count (number 2 (take (kept_bits first last c) bits) * 2 ^ first))
    ++ element_of_bits first last cs (drop (kept_bits first last c) bits)

-- ---- `vlen`: an index of offsets, and the elements' bytes joined

-- where each element ends, from an offset on
abbrev pub ends_from : ℕ → List (List ℕ) → List ℕ
ends_from offset [] = []
ends_from offset (element ∷ others) = (offset + length element) ∷ ends_from (offset + length element) others

-- numbers of this width in bits as cells
abbrev pub number_cells : ℕ → List ℕ → List Cell
number_cells width ns = map (λ n. of_bytes (digits 256 ((width + 7) / 8) n)) ns

-- each byte as a cell
abbrev pub byte_cells : List ℕ → List Cell
byte_cells «data» = map (λ b. of_bytes (b ∷ [])) «data»

-- a length that eight bytes can tell
abbrev pub is_short : List ℕ → Bool
is_short section = nat_lt (length section) (2 ^ 64)

-- the index's length as eight bytes, the index and the data; or the data, the index and the length
abbrev pub sections : Location → List ℕ → List ℕ → List ℕ
sections at_start index «data» = word (length index) ++ (index ++ «data»)
sections at_end index «data» = «data» ++ (index ++ word (length index))

-- the index and the data, where eight bytes can tell the length of the index
abbrev pub with_index : Location → List ℕ → List ℕ → Option (List ℕ)
with_index location index «data» = if is_short index then Some (sections location index «data») else None

-- what encodes no elements is nothing
abbrev pub unless_none : List Cell → Option (List ℕ) → Option (List ℕ)
unless_none [] made = Some []
unless_none (cell ∷ cells) made = made

-- the last of some numbers, or another number where there is none
abbrev pub last_number : ℕ → List ℕ → ℕ
last_number n [] = n
last_number n (m ∷ ms) = last_number m ms

-- elements of variable length by a chain for their offsets, of so many bits, and a chain for their joined bytes
abbrev pub variable_encoded : (List Cell → Option (List ℕ)) → (List Cell → Option (List ℕ)) → ℕ → Location → List Cell → Option (List ℕ)
variable_encoded index «data» width location cells =
    let offsets = 0 ∷ ends_from 0 (map cell_bytes cells) in
    let content = byte_cells (flat_map cell_bytes cells) in
    if nat_lt (last_number 0 offsets) (2 ^ width)
    then option_and_then (λ front. option_and_then (with_index location front) (unless_none content («data» content))) (index (number_cells width offsets))
    else None

-- ---- `optional`: a mask, and the elements that are present

-- one for a cell that is present, else zero
abbrev pub mask_cell : Cell → Cell
mask_cell (of_bytes element) = of_bytes (0 ∷ [])
mask_cell absent = of_bytes (0 ∷ [])
mask_cell (present cell) = of_bytes (1 ∷ [])

-- the cell inside of one that is present
abbrev pub present_cell : Cell → Option Cell
present_cell (of_bytes element) = None
present_cell absent = None
present_cell (present cell) = Some cell

-- the lengths of the mask and of the data as eight bytes each, the mask and the data
abbrev pub with_mask : List ℕ → List ℕ → Option (List ℕ)
with_mask mask «data» = if is_short mask && is_short «data» then Some (word (length mask) ++ (word (length «data») ++ (mask ++ «data»))) else None

-- optional elements by a chain for the mask and a chain for those that are present
abbrev pub options_encoded : (List Cell → Option (List ℕ)) → (List Cell → Option (List ℕ)) → List Cell → Option (List ℕ)
options_encoded mask values cells =
    let found = filter_map present_cell cells in
    option_and_then (λ front. option_and_then (with_mask front) (unless_none found (values found))) (mask (map mask_cell cells))

-- ---- `sharded`: the subchunks' slices without gaps, and an index of where each stands

-- an offset from the shard's first byte and a length; both 2^64 - 1 for a subchunk that is absent
abbrev pub Pair : Type 0
Pair = ℕ × ℕ

-- the pair of a subchunk that is absent
abbrev pub absent_pair : Pair
absent_pair = (2 ^ 64 - 1, 2 ^ 64 - 1)

-- the shape of a subchunk and its cells
abbrev pub Piece : Type 0
Piece = List ℕ × List Cell

-- the piece of a subchunk
abbrev pub piece_of : Cell → List Cell → Part → Piece
piece_of fill cells part = (part.shape, gather fill cells part.places)

-- the pieces of all subchunks
abbrev pub pieces_of : Cell → List Cell → List Part → List Piece
pieces_of fill cells parts = map (piece_of fill cells) parts

-- what is stored of cells: nothing where all are the fill value, else their encoding; None where that is refused
abbrev pub stored_of : Cell → List Cell → Option (List ℕ) → Option (Option (List ℕ))
stored_of fill cells slice = if is_fill fill cells then Some None else option_map Some slice

-- what is stored of each piece; None where one is refused
abbrev pub stored_pieces : (List ℕ → List Cell → Option (List ℕ)) → Cell → List Piece → Option (List (Option (List ℕ)))
stored_pieces inner fill [] = Some []
stored_pieces inner fill (piece ∷ pieces) =
    option_and_then (λ first. option_map (λ others. first ∷ others) (stored_pieces inner fill pieces)) (stored_of fill piece.1 (inner piece.0 piece.1))

-- the slice of what is stored, empty where nothing is
abbrev pub slice_bytes : Option (List ℕ) → List ℕ
slice_bytes None = []
slice_bytes (Some slice) = slice

-- the pair of a slice that begins at an offset
abbrev pub pair_at : ℕ → Option (List ℕ) → Pair
pair_at offset None = absent_pair
pair_at offset (Some slice) = (offset, length slice)

-- the slices in a row
abbrev pub joined_slices : List (Option (List ℕ)) → List ℕ
joined_slices [] = []
joined_slices (stored ∷ others) = slice_bytes stored ++ joined_slices others

-- the pair of each slice, where the first begins at an offset
abbrev pub pairs_from : ℕ → List (Option (List ℕ)) → List Pair
pairs_from offset [] = []
pairs_from offset (stored ∷ others) = pair_at offset stored ∷ pairs_from (offset + length (slice_bytes stored)) others

-- pairs as cells: each offset and each length is a number of eight bytes
abbrev pub pair_cells : List Pair → List Cell
pair_cells [] = []
pair_cells (pair ∷ pairs) = of_bytes (word pair.0) ∷ of_bytes (word pair.1) ∷ pair_cells pairs

-- how long the encoded index of a shard is
abbrev pub index_size : Chain → List ℕ → ℕ
index_size index shape = unwrap_or (size_of index uint64 shape) 0

-- where the data part begins
abbrev pub base_of : Location → ℕ → ℕ
base_of at_start size = size
base_of at_end size = 0

-- the index before or behind the data
abbrev pub joined : Location → List ℕ → List ℕ → List ℕ
joined at_start index «data» = index ++ «data»
joined at_end index «data» = «data» ++ index

-- the shard of these slices, where every offset stays below the mark of an absent one
abbrev pub shard_of : (List Cell → Option (List ℕ)) → Location → ℕ → List (Option (List ℕ)) → Option (List ℕ)
shard_of index location size stored =
    if nat_lt (base_of location size + length (joined_slices stored)) (2 ^ 64 - 1)
    then option_map (λ index_bytes. joined location index_bytes (joined_slices stored)) (index (pair_cells (pairs_from (base_of location size) stored)))
    else None

-- ---- Encoding

-- what a chain makes of the cells of an array of this shape; None where a caller's codec refuses, or an offset or a length is too large for where it is written
abbrev pub encoded : Chain → Elements → List ℕ → List Cell → Option (List ℕ)
encoded (bytes order) elements shape cells = Some (flat_map (λ cell. ordered order (components elements.type) (cell_bytes cell)) cells)
encoded (packbits padding first last) elements shape cells = Some (with_padding padding (flat_map (λ cell. element_bits first last (components elements.type) (cell_bytes cell)) cells))
encoded (vlen index «data» width location) elements shape cells =
    variable_encoded (encoded index (zero_filled (integer unsigned width)) ((product shape + 1) ∷ [])) (λ content. encoded «data» (zero_filled uint8) (length content ∷ []) content) width location cells
encoded (optional mask values) elements shape cells =
    let inner = zero_filled (unwrap_or (inner_type elements.type) elements.type) in
    options_encoded (encoded mask (zero_filled bool) shape) (λ found. encoded values inner (length found ∷ []) found) cells
encoded (after_array_codec codec chain) elements shape cells = encoded chain elements (encoded_shape codec shape) (gather elements.fill cells (source_places codec shape))
encoded (then_bytes chain codec) elements shape cells = option_and_then codec.encode (encoded chain elements shape cells)
encoded (sharded subchunk inner index location) elements shape cells =
    let pairs_shape = index_shape shape subchunk in
    option_and_then (shard_of (encoded index (zero_filled uint64) pairs_shape) location (index_size index pairs_shape))
    (stored_pieces (encoded inner elements) elements.fill (pieces_of elements.fill cells (parts_of shape subchunk)))

-- what is stored for a chunk: no value where all cells are the fill value, else their encoding; None where that is refused
abbrev pub stored_chunk : Chain → Elements → List ℕ → List Cell → Option (Option (List ℕ))
stored_chunk chain elements shape cells = stored_of elements.fill cells (encoded chain elements shape cells)
