-- What stored bytes are decoded to, whole or at places alone. None is damage.
use Rattle.std.specs.Prelude.{ℕ, zero, suc, ◌+◌, ◌-◌, ◌*◌, ◌^◌, List, [], ◌∷◌, map, length, take, drop, replicate, slice_get, Option, Some, None, option_map, option_and_then, unwrap_or, is_some, Bool, true, false, ◌&&◌, if◌then◌else◌, ◌==◌, nat_le, nat_lt, flat_map}
use Rattle.std.specs.List.{filter}
use Rattle.zarr_grids_boxes.specs.Boxes.{product}
use Rattle.zarr_codecs_meaning.specs.Numbers.{digits, number}
use Rattle.zarr_codecs_meaning.specs.Types.{DataType, bool, integer, unsigned, uint8, uint64, components, bytes_in, inner_type, Cell, of_bytes, cell_bytes, is_value, Elements, zero_filled}
use Rattle.zarr_codecs_meaning.specs.Chains.{Chain, Endianness, Padding, Location}
use Rattle.zarr_codecs_meaning.specs.Chains.Chain.{bytes, packbits, vlen, optional, after_array_codec, then_bytes, sharded}
use Rattle.zarr_codecs_meaning.specs.Chains.Padding.{no_padding_byte, first_byte, last_byte}
use Rattle.zarr_codecs_meaning.specs.Chains.Location.{at_start, at_end}
use Rattle.zarr_codecs_meaning.specs.Places.{gather, place_numbers, position_of, encoded_shape, source_places, undone_places, Part, parts_of, index_shape}
use Rattle.zarr_codecs_meaning.specs.Fits.{bits_in, packed_size}
use Rattle.zarr_codecs_meaning.specs.Encoding.{ordered, element_of_bits, Pair, index_size, last_number}
use Rattle.zarr_codecs_meaning.specs.Keeping.{spread, arranged}

-- all of them, where each is there
abbrev pub all_there : {X : Type 0} → List (Option X) → Option (List X)
all_there [] = Some []
all_there (o ∷ os) = option_and_then (λ x. option_map (λ xs. x ∷ xs) (all_there os)) o

-- ---- `bytes`

-- the cell, where it is a value of the type
abbrev pub tested : DataType → Cell → Option Cell
tested type cell = if is_value type cell then Some cell else None

-- the element at a place
abbrev pub element_at : Option Endianness → DataType → List ℕ → ℕ → Option Cell
element_at order type encoded place =
    let width = bytes_in (components type) in
    tested type (of_bytes (ordered order (components type) (take width (drop (place * width) encoded))))

-- as many bytes as the elements take
abbrev pub is_whole : DataType → List ℕ → List ℕ → Bool
is_whole type shape encoded = length encoded == bytes_in (components type) * product shape

-- ---- `packbits`: each pattern of bits is a value, so only the length is tested

-- the bytes of the bits, without the byte that tells the padding; that byte is not tested
abbrev pub without_padding : Padding → List ℕ → List ℕ
without_padding no_padding_byte encoded = encoded
without_padding first_byte encoded = drop 1 encoded
without_padding last_byte encoded = take (length encoded - 1) encoded

-- the element at a place of a list of bits
abbrev pub unpacked : ℕ → Option ℕ → DataType → List ℕ → ℕ → Cell
unpacked first last type bits place =
    let width = bits_in first last (components type) in
    of_bytes (element_of_bits first last (components type) (take width (drop (place * width) bits)))

-- ---- `vlen`

-- the index and the data of a value that tells the index's length
abbrev pub sections_of : Location → List ℕ → Option (List ℕ × List ℕ)
sections_of at_start encoded =
    let long = number 256 (take 8 encoded) in
    if nat_le (8 + long) (length encoded) then Some (take long (drop 8 encoded), drop (8 + long) encoded) else None
sections_of at_end encoded =
    let long = number 256 (drop (length encoded - 8) encoded) in
    let front = length encoded - (8 + long) in
    if nat_le (8 + long) (length encoded) then Some (take long (drop front encoded), take front encoded) else None

-- the bytes from each offset to the next, up to the last one, which is where the bytes end
abbrev pub elements_between : ℕ → List ℕ → List ℕ → Option (List (List ℕ))
elements_between offset [] «data» = if length «data» == 0 then Some [] else None
elements_between offset (end ∷ ends) «data» =
    if nat_le offset end && nat_le (end - offset) (length «data»)
    then option_map (λ rest. take (end - offset) «data» ∷ rest) (elements_between end ends (drop (end - offset) «data»))
    else None

-- the elements of these offsets, which begin at 0, from the data as it is read at the length that the last offset says
abbrev pub elements_of : (ℕ → Option (List ℕ)) → List ℕ → Option (List (List ℕ))
elements_of read [] = None
elements_of read (first ∷ ends) = if first == 0 then option_and_then (elements_between 0 ends) (read (last_number 0 ends)) else None

-- no elements are decoded from nothing
abbrev pub read_unless_none : ℕ → List ℕ → (List ℕ → Option (List Cell)) → Option (List Cell)
read_unless_none zero encoded read = if length encoded == 0 then Some [] else None
read_unless_none (suc count) encoded read = read encoded

-- elements of variable length by a chain for their offsets and one for as many bytes as the last offset says
abbrev pub variable_decoded : (List ℕ → Option (List Cell)) → (ℕ → List ℕ → Option (List Cell)) → Location → List ℕ → Option (List Cell)
variable_decoded index «data» location value =
    option_and_then
    (λ (sections : List ℕ × List ℕ).
    let read = λ (long : ℕ). option_map (flat_map cell_bytes) (read_unless_none long sections.1 («data» long)) in
    option_and_then (λ offsets. option_map (map of_bytes) (elements_of read (map (λ offset. number 256 (cell_bytes offset)) offsets))) (index sections.0))
    (sections_of location value)

-- ---- `optional`

-- the mask and the data of a value that tells the length of each
abbrev pub masked_of : List ℕ → Option (List ℕ × List ℕ)
masked_of encoded =
    let long = number 256 (take 8 encoded) in
    let rest = number 256 (take 8 (drop 8 encoded)) in
    if nat_le 16 (length encoded) && (length encoded == 16 + long + rest) then Some (take long (drop 16 encoded), drop (16 + long) encoded) else None

-- how many ones a mask has
abbrev pub count_present : List Cell → ℕ
count_present masks = length (filter (λ mask. number 256 (cell_bytes mask) == 1) masks)

-- optional elements by a chain for the mask and one for as many elements as are present
abbrev pub options_decoded : (List ℕ → Option (List Cell)) → (ℕ → List ℕ → Option (List Cell)) → List ℕ → Option (List Cell)
options_decoded mask values value =
    option_and_then
    (λ (sections : List ℕ × List ℕ).
    option_and_then (λ masks. option_map (spread masks) (read_unless_none (count_present masks) sections.1 (values (count_present masks)))) (mask sections.0))
    (masked_of value)

-- ---- `sharded`

-- whether a pair is that of an absent subchunk
abbrev pub is_absent : Pair → Bool
is_absent pair = (pair.0 == 2 ^ 64 - 1) && (pair.1 == 2 ^ 64 - 1)

-- the bytes of a pair, where they end within the value
abbrev pub slice_at : List ℕ → Pair → Option (List ℕ)
slice_at value pair = if nat_le (pair.0 + pair.1) (length value) then Some (take pair.1 (drop pair.0 value)) else None

-- the numbers of the cells, in pairs
abbrev pub pairs_of_cells : List Cell → List Pair
pairs_of_cells [] = []
pairs_of_cells (first ∷ []) = []
pairs_of_cells (first ∷ second ∷ cells) = (number 256 (cell_bytes first), number 256 (cell_bytes second)) ∷ pairs_of_cells cells

-- the bytes of the index
abbrev pub index_bytes : Location → ℕ → List ℕ → List ℕ
index_bytes at_start size value = take size value
index_bytes at_end size value = drop (length value - size) value

-- the pairs of a shard whose index has this size and is read so
abbrev pub pairs_in : (List ℕ → Option (List Cell)) → Location → ℕ → List ℕ → Option (List Pair)
pairs_in index location size value = if nat_le size (length value) then option_map pairs_of_cells (index (index_bytes location size value)) else None

-- the cells of each subchunk: the fill value where it is absent, else what its slice is decoded to
abbrev pub pieces_decoded : (List ℕ → List ℕ → Option (List Cell)) → Cell → List ℕ → List Part → List Pair → Option (List (List Cell))
pieces_decoded inner fill value [] pairs = Some []
pieces_decoded inner fill value (part ∷ parts) [] = None
pieces_decoded inner fill value (part ∷ parts) (pair ∷ pairs) =
    option_and_then (λ cells. option_map (λ others. cells ∷ others) (pieces_decoded inner fill value parts pairs))
    (if is_absent pair then Some (replicate (product part.shape) fill) else option_and_then (inner part.shape) (slice_at value pair))

-- the cell of a subchunk at a place in it: the fill value where it is absent, else what is read of its slice
abbrev pub cell_of_pair : (List ℕ → List ℕ → ℕ → Option Cell) → Cell → List ℕ → (List ℕ → Pair → ℕ → Option Cell)
cell_of_pair inner fill value = λ shape pair n. if is_absent pair then Some fill else option_and_then (λ slice. inner shape slice n) (slice_at value pair)

-- the cell at a place: of the subchunks only the one that holds the place is met
abbrev pub cell_of_part : (List ℕ → Pair → ℕ → Option Cell) → ℕ → List Part → List Pair → Option Cell
cell_of_part read place [] pairs = None
cell_of_part read place (part ∷ parts) [] = None
cell_of_part read place (part ∷ parts) (pair ∷ pairs) =
    let n = position_of place part.places in
    elim (nat_lt n (length part.places)) [ true ↦ read part.shape pair n | false ↦ cell_of_part read place parts pairs ]

-- ---- Decoding

-- the cells of an array of this shape that a value is decoded to
abbrev pub decoded : Chain → Elements → List ℕ → List ℕ → Option (List Cell)
decoded (bytes order) elements shape value =
    elim (is_whole elements.type shape value) [ true ↦ all_there (map (element_at order elements.type value) (place_numbers shape)) | false ↦ None ]
decoded (packbits padding first last) elements shape value =
    elim (length value == packed_size padding first last (components elements.type) (product shape)) [
      | true ↦ Some (map (unpacked first last elements.type (flat_map (digits 2 8) (without_padding padding value))) (place_numbers shape))
      | false ↦ None
    ]
decoded (vlen index «data» width location) elements shape value =
    variable_decoded (decoded index (zero_filled (integer unsigned width)) ((product shape + 1) ∷ [])) (λ long. decoded «data» (zero_filled uint8) (long ∷ [])) location value
decoded (optional mask values) elements shape value =
    let inner = zero_filled (unwrap_or (inner_type elements.type) elements.type) in
    options_decoded (decoded mask (zero_filled bool) shape) (λ count. decoded values inner (count ∷ [])) value
decoded (after_array_codec codec chain) elements shape value =
    option_map (λ cells. gather elements.fill cells (undone_places codec shape)) (decoded chain elements (encoded_shape codec shape) value)
decoded (then_bytes chain codec) elements shape value = option_and_then (decoded chain elements shape) (codec.decode value)
decoded (sharded subchunk inner index location) elements shape value =
    let pairs_shape = index_shape shape subchunk in
    option_and_then
    (λ pairs. option_map (λ pieces. map (arranged elements.fill (parts_of shape subchunk) pieces) (place_numbers shape))
    (pieces_decoded (decoded inner elements) elements.fill value (parts_of shape subchunk) pairs))
    (pairs_in (decoded index (zero_filled uint64) pairs_shape) location (index_size index pairs_shape) value)

-- ---- Reading a part

-- the cell that a value has at a place: each place is read by itself. Of `bytes` that element alone is tested, of a shard only the place's pair is met;
-- of the other codecs it is the cell of the whole
abbrev pub cell_at : Chain → Elements → List ℕ → List ℕ → ℕ → Option Cell
cell_at (bytes order) elements shape value place = if is_whole elements.type shape value then element_at order elements.type value place else None
cell_at (packbits padding first last) elements shape value place = option_and_then (λ cells. slice_get cells place) (decoded (packbits padding first last) elements shape value)
cell_at (vlen index «data» width location) elements shape value place = option_and_then (λ cells. slice_get cells place) (decoded (vlen index «data» width location) elements shape value)
cell_at (optional mask values) elements shape value place = option_and_then (λ cells. slice_get cells place) (decoded (optional mask values) elements shape value)
cell_at (after_array_codec codec chain) elements shape value place = cell_at chain elements (encoded_shape codec shape) value (position_of place (source_places codec shape))
cell_at (then_bytes chain codec) elements shape value place = option_and_then (λ inside. cell_at chain elements shape inside place) (codec.decode value)
cell_at (sharded subchunk inner index location) elements shape value place =
    let pairs_shape = index_shape shape subchunk in
    option_and_then (cell_of_part (cell_of_pair (cell_at inner elements) elements.fill value) place (parts_of shape subchunk))
    (pairs_in (decoded index (zero_filled uint64) pairs_shape) location (index_size index pairs_shape) value)

-- whether places can be read at all, also where none is asked for: the bytes codecs undo the value, and its length or its index is right
abbrev pub opens : Chain → Elements → List ℕ → List ℕ → Bool
opens (bytes order) elements shape value = is_whole elements.type shape value
opens (packbits padding first last) elements shape value = is_some (decoded (packbits padding first last) elements shape value)
opens (vlen index «data» width location) elements shape value = is_some (decoded (vlen index «data» width location) elements shape value)
opens (optional mask values) elements shape value = is_some (decoded (optional mask values) elements shape value)
opens (after_array_codec codec chain) elements shape value = opens chain elements (encoded_shape codec shape) value
opens (then_bytes chain codec) elements shape value = elim (codec.decode value) [ None ↦ false | Some inside ↦ opens chain elements shape inside ]
opens (sharded subchunk inner index location) elements shape value =
    is_some (pairs_in (decoded index (zero_filled uint64) (index_shape shape subchunk)) location (index_size index (index_shape shape subchunk)) value)

-- the cells that a value has at these places, in their order
abbrev pub part_decoded : Chain → Elements → List ℕ → List ℕ → List ℕ → Option (List Cell)
part_decoded chain elements shape value places = if opens chain elements shape value then all_there (map (cell_at chain elements shape value) places) else None
