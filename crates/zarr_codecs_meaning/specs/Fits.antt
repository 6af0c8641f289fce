-- Which arrays a chain can encode, and what is known of the size of what it writes.
use Rattle.std.specs.Prelude.{ℕ, ◌+◌, ◌-◌, ◌*◌, ◌/◌, ◌%◌, ◌^◌, List, [], ◌∷◌, length, map, Option, Some, None, option_and_then, option_map, unwrap_or, is_some, Bool, true, false, not, ◌&&◌, ◌||◌, ◌==◌, nat_lt, nat_le}
use Rattle.std.specs.List.{list_all, list_any, range_with_len}
use Rattle.zarr_grids_boxes.specs.Boxes.{product}
use Rattle.zarr_codecs_meaning.specs.Types.{DataType, bool, integer, unsigned, uint8, uint64, Component, components, bytes_in, is_fixed, is_variable, inner_type}
use Rattle.zarr_codecs_meaning.specs.Chains.{Chain, BytesRepresentation, Endianness, Padding, ArrayCodec, ShapeEntry}
use Rattle.zarr_codecs_meaning.specs.Chains.BytesRepresentation.{fixed_size, bounded_size, unbounded_size}
use Rattle.zarr_codecs_meaning.specs.Chains.Chain.{bytes, packbits, vlen, optional, after_array_codec, then_bytes, sharded}
use Rattle.zarr_codecs_meaning.specs.Chains.Padding.{no_padding_byte, first_byte, last_byte}
use Rattle.zarr_codecs_meaning.specs.Chains.ArrayCodec.{transpose, reshape, squeeze}
use Rattle.zarr_codecs_meaning.specs.Chains.ShapeEntry.{size_entry, product_entry, left_over}
use Rattle.zarr_codecs_meaning.specs.Places.{encoded_shape, known_product, Part, parts_of, index_shape}

-- ---- Array codecs

-- the numbers of the list are those below its length, each of which stands in it
abbrev pub is_permutation : List ℕ → Bool
is_permutation order = list_all (λ d. nat_lt d (length order)) order && list_all (λ d. list_any (λ m. m == d) order) (range_with_len 0 (length order))

-- the dimensions that an entry names are there, and a size that is left over comes from a division
abbrev pub entry_fits : ℕ → ℕ → ShapeEntry → Bool
entry_fits known dimensions (size_entry size) = true
entry_fits known dimensions (product_entry named) = list_all (λ d. nat_lt d dimensions) named
entry_fits known dimensions left_over = nat_lt 0 known

-- `transpose`: as many dimensions as its order names; `reshape`: as many elements as before, fewer than 2^63 of them, each size below 2^64; `squeeze`: always
abbrev pub array_codec_fits : ArrayCodec → List ℕ → Bool
array_codec_fits (transpose order) shape = (length order == length shape) && is_permutation order
array_codec_fits (reshape entries) shape =
    list_all (entry_fits (known_product entries shape) (length shape)) entries && ((product (encoded_shape (reshape entries) shape) == product shape) && (nat_lt (product shape) (2 ^ 63) && list_all (λ size. nat_lt size (2 ^ 64)) (encoded_shape (reshape entries) shape)))
array_codec_fits squeeze shape = true

-- ---- `packbits`

-- the last bit that is kept of a component: where none is given, its highest
abbrev pub last_kept : Option ℕ → Component → ℕ
last_kept last c = unwrap_or last (c.width - 1)

-- how many bits are kept of a component, and of all components of an element
abbrev pub kept_bits : ℕ → Option ℕ → Component → ℕ
kept_bits first last c = last_kept last c + 1 - first

-- how many bits are kept of an element
abbrev pub bits_in : ℕ → Option ℕ → List Component → ℕ
bits_in first last [] = 0
bits_in first last (c ∷ cs) = kept_bits first last c + bits_in first last cs

-- how many bytes tell the padding
abbrev pub padding_size : Padding → ℕ
padding_size no_padding_byte = 0
padding_size first_byte = 1
padding_size last_byte = 1

-- how many bytes `packbits` makes of so many elements
abbrev pub packed_size : Padding → ℕ → Option ℕ → List Component → ℕ → ℕ
packed_size padding first last parts count = padding_size padding + (bits_in first last parts * count + 7) / 8

-- ---- Sizes

-- the size, where it is fixed
abbrev pub fixed_of : BytesRepresentation → Option ℕ
fixed_of (fixed_size n) = Some n
fixed_of (bounded_size n) = None
fixed_of unbounded_size = None

-- the most that the size can be, where there is a bound
abbrev pub bound_of : BytesRepresentation → Option ℕ
bound_of (fixed_size n) = Some n
bound_of (bounded_size n) = Some n
bound_of unbounded_size = None

-- no more than a bound, where there is one
abbrev pub at_most : Option ℕ → BytesRepresentation
at_most None = unbounded_size
at_most (Some n) = bounded_size n

-- the sum of some bounds, where each is there
abbrev pub sum_of_bounds : List (Option ℕ) → Option ℕ
sum_of_bounds [] = Some 0
sum_of_bounds (bound ∷ bounds) = option_and_then (λ n. option_map (λ m. n + m) (sum_of_bounds bounds)) bound

-- what the type and the shape tell of the size of what a chain writes: of elements of variable length nothing; of optional elements at most two lengths, the mask and the data
-- of all elements; of a shard at most the index and each subchunk
abbrev pub representation_of : Chain → DataType → List ℕ → BytesRepresentation
representation_of (bytes order) type shape = fixed_size (bytes_in (components type) * product shape)
representation_of (packbits padding first last) type shape = fixed_size (packed_size padding first last (components type) (product shape))
representation_of (vlen index «data» width location) type shape = unbounded_size
representation_of (optional mask values) type shape =
    let inner = unwrap_or (inner_type type) type in
    at_most (sum_of_bounds (Some 16 ∷ bound_of (representation_of mask bool shape) ∷ bound_of (representation_of values inner (product shape ∷ [])) ∷ []))
representation_of (after_array_codec codec chain) type shape = representation_of chain type (encoded_shape codec shape)
representation_of (then_bytes chain codec) type shape = codec.representation (representation_of chain type shape)
representation_of (sharded subchunk inner index location) type shape =
    at_most (sum_of_bounds (bound_of (representation_of index uint64 (index_shape shape subchunk)) ∷ map (λ (part : Part). bound_of (representation_of inner type part.shape)) (parts_of shape subchunk)))

-- how many bytes a chain writes, where the type and the shape decide it
abbrev pub size_of : Chain → DataType → List ℕ → Option ℕ
size_of chain type shape = fixed_of (representation_of chain type shape)

-- whether a size is as it is told
abbrev pub is_size_as : BytesRepresentation → ℕ → Bool
is_size_as (fixed_size n) size = size == n
is_size_as (bounded_size n) size = nat_le size n
is_size_as unbounded_size size = true

-- whether a bound lies within another one: no bound lies within a number, and each within no bound
abbrev pub is_bound_within : Option ℕ → Option ℕ → Bool
is_bound_within bound None = true
is_bound_within None (Some n) = false
is_bound_within (Some m) (Some n) = nat_le m n

-- there is a number, and it is below a bound
abbrev pub is_some_below : ℕ → Option ℕ → Bool
is_some_below bound None = false
is_some_below bound (Some n) = nat_lt n bound

-- whether a size is told, or the most that it can be, and that is 2^63 or more, which no value has
abbrev pub is_too_long : BytesRepresentation → Bool
is_too_long told = elim (bound_of told) [ None ↦ false | Some size ↦ nat_le (2 ^ 63) size ]

-- whether one of the codecs of a chain, or of the chains inside of it, tells such a size of an array
abbrev pub tells_too_long : Chain → DataType → List ℕ → Bool
tells_too_long (bytes order) type shape = is_too_long (representation_of (bytes order) type shape)
tells_too_long (packbits padding first last) type shape = is_too_long (representation_of (packbits padding first last) type shape)
tells_too_long (vlen index «data» width location) type shape = false
tells_too_long (optional mask values) type shape =
    tells_too_long mask bool shape || (tells_too_long values (unwrap_or (inner_type type) type) (product shape ∷ []) || is_too_long (representation_of (optional mask values) type shape))
tells_too_long (after_array_codec codec chain) type shape = tells_too_long chain type (encoded_shape codec shape)
tells_too_long (then_bytes chain codec) type shape = tells_too_long chain type shape || is_too_long (representation_of (then_bytes chain codec) type shape)
tells_too_long (sharded subchunk inner index location) type shape =
    tells_too_long index uint64 (index_shape shape subchunk) || (list_any (λ (part : Part). tells_too_long inner type part.shape) (parts_of shape subchunk) || is_too_long (representation_of (sharded subchunk inner index location) type shape))

-- whether a chain makes as many bytes of each index of a shape, fewer than 2^63, the index's numbers have fewer than 2^63 bytes too, which are eight for each, and no codec on the way tells 2^63 or more
abbrev pub has_index_size : Chain → List ℕ → Bool
has_index_size index shape = is_some_below (2 ^ 63) (size_of index uint64 shape) && (nat_lt (8 * product shape) (2 ^ 63) && not (tells_too_long index uint64 shape))

-- ---- Fits

-- a chain that holds neither array codecs nor shards does the same for each shape: the data chains of `vlen` and `optional` are given as many elements as there are
abbrev pub takes_each_shape : Chain → Bool
takes_each_shape (bytes order) = true
takes_each_shape (packbits padding first last) = true
takes_each_shape (vlen index «data» width location) = takes_each_shape index && takes_each_shape «data»
takes_each_shape (optional mask values) = takes_each_shape mask && takes_each_shape values
takes_each_shape (after_array_codec codec chain) = false
takes_each_shape (then_bytes chain codec) = takes_each_shape chain
takes_each_shape (sharded subchunk inner index location) = false

-- a shape can be cut into subchunks: one positive edge for each dimension
abbrev pub can_cut : List ℕ → List ℕ → Bool
can_cut [] [] = true
can_cut [] (edge ∷ edges) = false
can_cut (size ∷ sizes) [] = false
can_cut (size ∷ sizes) (edge ∷ edges) = nat_lt 0 edge && can_cut sizes edges

-- components of several bytes need an order
abbrev pub order_fits : Option Endianness → List Component → Bool
order_fits order parts = is_some order || list_all (λ (c : Component). nat_le c.byte_count 1) parts

-- the first bit isn't after the last one, and both are the component's own
abbrev pub bits_fit : ℕ → Option ℕ → Component → Bool
bits_fit first last c = nat_le first (last_kept last c) && nat_lt (last_kept last c) c.width

-- whether a chain can encode an array of this type and shape (this project's profile). The inner chain of a shard has to fit the shape of each subchunk, and so of none where the shard has no subchunk
abbrev pub fits : Chain → DataType → List ℕ → Bool
fits (bytes order) type shape = is_fixed type && order_fits order (components type)
fits (packbits padding first last) type shape = is_fixed type && list_all (bits_fit first last) (components type)
fits (vlen index «data» width location) type shape =
    is_variable type && (fits index (integer unsigned width) ((product shape + 1) ∷ []) && (takes_each_shape «data» && fits «data» uint8 (0 ∷ [])))
fits (optional mask values) type shape =
    elim (inner_type type) [ None ↦ false | Some inner ↦ fits mask bool shape && (takes_each_shape values && fits values inner (0 ∷ [])) ]
fits (after_array_codec codec chain) type shape = array_codec_fits codec shape && fits chain type (encoded_shape codec shape)
fits (then_bytes chain codec) type shape = fits chain type shape
fits (sharded subchunk inner index location) type shape =
    not (is_some (inner_type type)) && (can_cut shape subchunk && (list_all (λ (part : Part). fits inner type part.shape) (parts_of shape subchunk)
    && (fits index uint64 (index_shape shape subchunk) && has_index_size index (index_shape shape subchunk))))

-- ---- What is kept

-- whether each `packbits` of a chain keeps all bits of its components
abbrev pub is_lossless : Chain → DataType → Bool
is_lossless (bytes order) type = true
is_lossless (packbits padding first last) type = list_all (λ (c : Component). (first == 0) && (last_kept last c + 1 == c.width)) (components type)
is_lossless (vlen index «data» width location) type = is_lossless index (integer unsigned width) && is_lossless «data» uint8
is_lossless (optional mask values) type = is_lossless mask bool && elim (inner_type type) [ None ↦ true | Some inner ↦ is_lossless values inner ]
is_lossless (after_array_codec codec chain) type = is_lossless chain type
is_lossless (then_bytes chain codec) type = is_lossless chain type
is_lossless (sharded subchunk inner index location) type = is_lossless inner type && is_lossless index uint64

-- whether no bit of an index or a mask inside of a chain is dropped
abbrev pub keeps_indices : Chain → Bool
keeps_indices (bytes order) = true
keeps_indices (packbits padding first last) = true
keeps_indices (vlen index «data» width location) = is_lossless index (integer unsigned width) && keeps_indices «data»
keeps_indices (optional mask values) = keeps_indices mask && keeps_indices values
keeps_indices (after_array_codec codec chain) = keeps_indices chain
keeps_indices (then_bytes chain codec) = keeps_indices chain
keeps_indices (sharded subchunk inner index location) = keeps_indices inner && is_lossless index uint64

-- whether a chain makes no shard (inside `vlen` and `optional` none is taken)
abbrev pub is_plain : Chain → Bool
is_plain (bytes order) = true
is_plain (packbits padding first last) = true
is_plain (vlen index «data» width location) = true
is_plain (optional mask values) = true
is_plain (after_array_codec codec chain) = is_plain chain
is_plain (then_bytes chain codec) = is_plain chain
is_plain (sharded subchunk inner index location) = false
