-- What a chain tells of the size of what it writes is true, and how long a shard is.
use Rattle.std.proofs.Common.{◌≡◌, ℕ, ◌+◌, ◌*◌, ◌/◌, ◌≤◌, List, [], ◌∷◌, ◌++◌, length, map, ap, ◌∙◌, sym, refl, arith, Option, Some, true, ◌&&◌, option_and_then, unwrap_or, length-append, subst}
use Rattle.std.specs.List.{flat_map, filter_map}
use Rattle.std.proofs.lemmas.Bool.{eq-eqb, and_parts}
use Rattle.std.proofs.lemmas.Map.Views.{exact_unsigned_eq}
use Rattle.zarr_grids_boxes.specs.Boxes.{product}
use Rattle.zarr_codecs_meaning.specs.Numbers.{word}
use Rattle.zarr_codecs_meaning.specs.Types.{bool, uint64, Cell, cell_bytes, components, bytes_in, is_fixed, inner_type, Elements, zero_filled}
use Rattle.zarr_codecs_meaning.specs.Chains.{BytesRepresentation, Chain, Location}
use Rattle.zarr_codecs_meaning.specs.Chains.BytesRepresentation.{fixed_size, bounded_size, unbounded_size}
use Rattle.zarr_codecs_meaning.specs.Chains.Chain.{bytes, packbits, vlen, optional, after_array_codec, then_bytes, sharded}
use Rattle.zarr_codecs_meaning.specs.Places.{gather, encoded_shape, source_places, Part, parts_of, index_shape}
use Rattle.zarr_codecs_meaning.specs.Fits.{fits, takes_each_shape, size_of, fixed_of, bound_of, sum_of_bounds, representation_of, is_size_as, is_bound_within, array_codec_fits, bits_in, packed_size, padding_size, order_fits}
use Rattle.zarr_codecs_meaning.specs.Encoding.{encoded, element_bits, is_short, with_mask, unless_none, mask_cell, present_cell, pieces_of, stored_pieces, joined_slices, pairs_from, pair_cells, index_size, base_of, shard_of}
use Rattle.zarr_codecs_meaning.specs.Laws.{IsLawfulChain, AreCells}
use Rattle.zarr_codecs_meaning.proofs.Lists.{bind_some, if_some, some_same}
use Rattle.zarr_codecs_meaning.proofs.Bounds.{size_within, size_at_most, zero_within, within_again, plus, plus_within, options_within, slices_within, bounds_grow}
use Rattle.zarr_codecs_meaning.proofs.Sizes.{length-with_padding, cells_moved, bytes_length, bits_length}
use Rattle.zarr_codecs_meaning.proofs.Options.{length-found}
use Rattle.zarr_codecs_meaning.proofs.KeptOptions.{options_fit, are_options, found_cells, mask_cells}
use Rattle.zarr_codecs_meaning.proofs.Fitting.{Fitted, fitted, slices_stand, IsShard, shard_made, stored_count, length-joined}

-- of the elements that are present no more is told than of all
data_within : (chain : Chain) (elements : Elements) (found : List Cell) («data» : List ℕ) (most : ℕ) → IsLawfulChain chain → takes_each_shape chain ≡ true → length found ≤ most → unless_none found (encoded chain elements (length found ∷ []) found) ≡ Some «data»
    → (encoded chain elements (length found ∷ []) found ≡ Some «data» → is_size_as (representation_of chain elements.type (length found ∷ [])) (length «data») ≡ true)
    → is_bound_within (Some (length «data»)) (bound_of (representation_of chain elements.type (most ∷ []))) ≡ true
data_within chain elements [] «data» most lawful takes less h law =
    let bound = bound_of (representation_of chain elements.type (most ∷ [])) in
    let nothing : [] ≡ «data» = some_same h in
    subst (λ (ns : List ℕ). is_bound_within (Some (length ns)) bound ≡ true) nothing (zero_within bound)
data_within chain elements (cell ∷ cells) «data» most lawful takes less h law =
    let count = length (cell ∷ cells) in
    let known = representation_of chain elements.type (count ∷ []) in
    within_again (Some (length «data»)) (bound_of known) (bound_of (representation_of chain elements.type (most ∷ []))) (size_within known (length «data») (law h))
    (bounds_grow chain elements.type (count ∷ []) (most ∷ []) lawful takes (omega (arith, less)))

-- two lengths of eight bytes, the mask and the data
with_mask_long : (mask «data» value : List ℕ) → with_mask mask «data» ≡ Some value → length value ≡ 16 + (length mask + (length «data» + 0))
with_mask_long mask «data» value h =
    let told = if_some (is_short mask && is_short «data») (Some (word (length mask) ++ (word (length «data») ++ (mask ++ «data»)))) value h in
    let long : length (word (length mask) ++ (word (length «data») ++ (mask ++ «data»))) ≡ 16 + (length mask + (length «data» + 0)) =
    length-append (word (length mask)) (word (length «data») ++ (mask ++ «data»)) ∙ (ap (λ k. 8 + k) (length-append (word (length «data»)) (mask ++ «data») ∙ ap (λ k. 8 + k) (length-append mask «data»)) ∙ omega arith) in
    sym (ap length (some_same told.1)) ∙ long

-- the index and the slices of a shard
shard_long : (subchunk : List ℕ) (index : Chain) (location : Location) (shape value : List ℕ) (stored : List (Option (List ℕ))) (shard : IsShard subchunk index location shape value stored) → length value ≡ length shard.index_bytes + length (joined_slices stored)
shard_long subchunk index location shape value stored shard = sym (ap length shard.is) ∙ length-joined location shard.index_bytes (joined_slices stored)

pub encoded_size : (chain : Chain) (elements : Elements) (shape value : List ℕ) (cells : List Cell) → IsLawfulChain chain → fits chain elements.type shape ≡ true → AreCells elements shape cells
    → encoded chain elements shape cells ≡ Some value → is_size_as (representation_of chain elements.type shape) (length value) ≡ true
encoded_size (bytes order) elements shape value cells lawful fit are h =
    let parts = components elements.type in
    let fixed = (and_parts (is_fixed elements.type) (order_fits order parts) fit).0 in
    let long = bytes_length order elements cells fixed are.values in
    let whole : length cells * bytes_in parts ≡ product shape * bytes_in parts = ap (λ n. n * bytes_in parts) are.whole in
    let turned : product shape * bytes_in parts ≡ bytes_in parts * product shape = grind arith in
    eq-eqb (length value) (bytes_in parts * product shape) (sym (ap length (some_same h)) ∙ (long ∙ (whole ∙ turned)))
encoded_size (packbits padding first last) elements shape value cells lawful fit are h =
    let parts = components elements.type in
    let bits = flat_map (λ cell. element_bits first last parts (cell_bytes cell)) cells in
    let long = length-with_padding padding bits in
    let whole : length bits ≡ product shape * bits_in first last parts = bits_length first last elements cells ∙ ap (λ n. n * bits_in first last parts) are.whole in
    let turned : product shape * bits_in first last parts ≡ bits_in first last parts * product shape = grind arith in
    eq-eqb (length value) (packed_size padding first last parts (product shape)) (sym (ap length (some_same h)) ∙ (long ∙ ap (λ n. padding_size padding + (n + 7) / 8) (whole ∙ turned)))
encoded_size (vlen index «data» width location) elements shape value cells lawful fit are h = refl
encoded_size (optional mask values) elements shape value cells lawful fit are h =
    let type = elements.type in
    let f = options_fit mask values type shape fit in
    let bools = zero_filled bool in
    let inner = unwrap_or (inner_type type) type in
    let found = filter_map present_cell cells in
    let masks = map mask_cell cells in
    let data_bytes = unless_none found (encoded values (zero_filled inner) (length found ∷ []) found) in
    let next : List ℕ → Option (List ℕ) = λ (front : List ℕ). option_and_then (with_mask front) data_bytes in
    let made = bind_some next (encoded mask bools shape masks) value h in
    let data_ = bind_some (with_mask made.0) data_bytes value made.2 in
    let are_found = found_cells inner cells (are_options type inner cells f.is are.values) in
    let mask_known = representation_of mask bool shape in
    let one = size_within mask_known (length made.0) (encoded_size mask bools shape made.0 masks lawful.0 f.mask_fits (mask_cells shape cells are.whole) made.1) in
    let two = data_within values (zero_filled inner) found data_.0 (product shape) lawful.1 f.takes (omega (arith, length-found cells, are.whole)) data_.1
    (λ e. encoded_size values (zero_filled inner) (length found ∷ []) data_.0 found lawful.1 (f.values_fit (length found ∷ [])) are_found e) in
    options_within (length made.0) (length data_.0) (length value) (bound_of mask_known) (bound_of (representation_of values inner (product shape ∷ []))) one two (with_mask_long made.0 data_.0 value data_.2)
encoded_size (after_array_codec codec chain) elements shape value cells lawful fit are h =
    let both = and_parts (array_codec_fits codec shape) (fits chain elements.type (encoded_shape codec shape)) fit in
    encoded_size chain elements (encoded_shape codec shape) value (gather elements.fill cells (source_places codec shape)) lawful both.1 (cells_moved codec elements shape cells both.0 are) h
encoded_size (then_bytes chain codec) elements shape value cells lawful fit are h =
    let found = bind_some codec.encode (encoded chain elements shape cells) value h in
    lawful.1.honest (representation_of chain elements.type shape) found.0 value found.2 (encoded_size chain elements shape found.0 cells lawful.0 fit are found.1)
encoded_size (sharded subchunk inner index location) elements shape value cells lawful fit are h =
    let pairs_shape = index_shape shape subchunk in
    let parts = parts_of shape subchunk in
    let f = fitted subchunk inner index location elements shape fit in
    let found = bind_some (shard_of (encoded index (zero_filled uint64) pairs_shape) location (index_size index pairs_shape)) (stored_pieces (encoded inner elements) elements.fill (pieces_of elements.fill cells parts)) value h in
    let stored = found.0 in
    let shard = shard_made subchunk index location shape value stored (stored_count (encoded inner elements) elements.fill cells parts stored found.1) found.2 in
    let pairs = pair_cells (pairs_from (base_of location (index_size index pairs_shape)) stored) in
    let index_known = representation_of index uint64 pairs_shape in
    let one = size_within index_known (length shard.index_bytes) (encoded_size index (zero_filled uint64) pairs_shape shard.index_bytes pairs lawful.1 f.index_fits shard.pairs_are shard.is_index) in
    let bound : List ℕ → Option ℕ = λ (part : List ℕ). bound_of (representation_of inner elements.type part) in
    let «data» = slices_stand subchunk inner index elements shape cells stored (λ part slice found. is_bound_within (Some (length slice)) (bound part) ≡ true) f are
    (λ part slice found fit' are' e. size_within (representation_of inner elements.type part) (length slice) (encoded_size inner elements part slice found lawful.0 fit' are' e)) found.1 in
    let two = slices_within bound elements.fill cells parts stored «data» in
    let bounds = sum_of_bounds (map (λ (part : Part). bound part.shape) parts) in
    size_at_most (plus (bound_of index_known) bounds) (length value)
    (subst (λ n. is_bound_within (Some n) (plus (bound_of index_known) bounds) ≡ true) (sym (shard_long subchunk index location shape value stored shard))
    (plus_within (Some (length shard.index_bytes)) (Some (length (joined_slices stored))) (bound_of index_known) bounds one two))

fixed_long : (known : BytesRepresentation) (size long : ℕ) → is_size_as known long ≡ true → fixed_of known ≡ Some size → long ≡ size
fixed_long (fixed_size n) size long h is = exact_unsigned_eq long n h ∙ some_same is
fixed_long (bounded_size n) size long h is = cc
fixed_long unbounded_size size long h is = cc

-- what is encoded is as long as the type and the shape decide
pub encoded_length : (chain : Chain) (elements : Elements) (shape value : List ℕ) (cells : List Cell) (size : ℕ) → IsLawfulChain chain → fits chain elements.type shape ≡ true → AreCells elements shape cells
    → encoded chain elements shape cells ≡ Some value → size_of chain elements.type shape ≡ Some size → length value ≡ size
encoded_length chain elements shape value cells size lawful fit are h is = fixed_long (representation_of chain elements.type shape) size (length value) (encoded_size chain elements shape value cells lawful fit are h) is

-- the index of a shard is as long as it is told
pub index_long : (subchunk : List ℕ) (inner index : Chain) (location : Location) (elements : Elements) (shape value : List ℕ) (stored : List (Option (List ℕ))) → IsLawfulChain index → Fitted subchunk inner index elements shape
    → (shard : IsShard subchunk index location shape value stored) → length shard.index_bytes ≡ index_size index (index_shape shape subchunk)
index_long subchunk inner index location elements shape value stored lawful f shard =
    let pairs_shape = index_shape shape subchunk in
    let pairs = pair_cells (pairs_from (base_of location (index_size index pairs_shape)) stored) in
    encoded_length index (zero_filled uint64) pairs_shape shard.index_bytes pairs f.sized.0 lawful f.index_fits shard.pairs_are shard.is_index f.sized.1 ∙ sym (ap (λ (o : Option ℕ). unwrap_or o 0) f.sized.1)

pub shard_size : (subchunk : List ℕ) (inner index : Chain) (location : Location) (elements : Elements) (shape value : List ℕ) (cells : List Cell) (stored : List (Option (List ℕ))) → IsLawfulChain index → fits (sharded subchunk inner index location) elements.type shape ≡ true
    → stored_pieces (encoded inner elements) elements.fill (pieces_of elements.fill cells (parts_of shape subchunk)) ≡ Some stored → encoded (sharded subchunk inner index location) elements shape cells ≡ Some value
    → length value ≡ index_size index (index_shape shape subchunk) + length (joined_slices stored)
shard_size subchunk inner index location elements shape value cells stored lawful fit are_stored h =
    let pairs_shape = index_shape shape subchunk in
    let parts = parts_of shape subchunk in
    let made = sym (ap (option_and_then (shard_of (encoded index (zero_filled uint64) pairs_shape) location (index_size index pairs_shape))) are_stored) ∙ h in
    let shard = shard_made subchunk index location shape value stored (stored_count (encoded inner elements) elements.fill cells parts stored are_stored) made in
    shard_long subchunk index location shape value stored shard
    ∙ ap (λ n. n + length (joined_slices stored)) (index_long subchunk inner index location elements shape value stored lawful (fitted subchunk inner index location elements shape fit) shard)
