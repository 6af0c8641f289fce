-- What a chain keeps of cells: by recursion over chains.
use Rattle.std.proofs.Common.{◌≡◌, ℕ, ◌+◌, List, [], ◌∷◌, length, map, ap, ◌∙◌, sym, refl, arith, Option, Some, None, option_and_then, unwrap_or, Bool, true, ◌&&◌, ◌==◌}
use Rattle.std.specs.Prelude.{nat_lt, nat_le}
use Rattle.std.specs.List.{list_all, flat_map}
use Rattle.std.proofs.lemmas.Bool.{ltb-true, leb-true, and_parts}
use Rattle.std.proofs.lemmas.List.{length-map}
use Rattle.std.proofs.lemmas.List.FromFn.{length-range_with_len}
use Rattle.zarr_grids_boxes.specs.Boxes.{product}
use Rattle.zarr_codecs_meaning.specs.Types.{DataType, bool, integer, unsigned, uint8, uint64, components, inner_type, is_value, Cell, cell_bytes, Elements, zero_filled}
use Rattle.zarr_codecs_meaning.specs.Chains.{Chain, ArrayCodec}
use Rattle.zarr_codecs_meaning.specs.Chains.Chain.{bytes, packbits, vlen, optional, after_array_codec, then_bytes, sharded}
use Rattle.zarr_codecs_meaning.specs.Places.{gather, place_numbers, position_of, encoded_shape, source_places, undone_places, Part}
use Rattle.zarr_codecs_meaning.specs.Fits.{fits, takes_each_shape, array_codec_fits, bits_fit, last_kept, is_lossless, is_plain}
use Rattle.zarr_codecs_meaning.specs.Encoding.{encoded, mask_cell, with_padding}
use Rattle.zarr_codecs_meaning.specs.Keeping.{kept, cut_again, spread}
use Rattle.zarr_codecs_meaning.specs.Laws.{AreCells}
use Rattle.zarr_codecs_meaning.proofs.Lists.{Each, each_passes, each_weaker}
use Rattle.zarr_codecs_meaning.proofs.ArrayCodecs.{length-gather, values_gathered, array_codec_count}
use Rattle.zarr_codecs_meaning.proofs.Sizes.{cells_moved}
use Rattle.zarr_codecs_meaning.proofs.Elements.{KeepsAll, keeps_all, packbits_lossless}
use Rattle.zarr_codecs_meaning.proofs.Positions.{gathered_back}
use Rattle.zarr_codecs_meaning.proofs.Covers.{array_codec_covers}
use Rattle.zarr_codecs_meaning.proofs.Once.{gathered_again, array_codec_once}
use Rattle.zarr_codecs_meaning.proofs.Shards.{part_cells}
use Rattle.zarr_codecs_meaning.proofs.Fitting.{fitted, each_part}
use Rattle.zarr_codecs_meaning.proofs.Variable.{bytes_again}
use Rattle.zarr_codecs_meaning.proofs.Options.{spread_back}
use Rattle.zarr_codecs_meaning.proofs.KeptElements.{packs, packbits_cells, packbits_twice, packbits_bits}
use Rattle.zarr_codecs_meaning.proofs.KeptVariable.{content_of, vlen_fits, are_variable, content_cells, keeps_bytes, cut_back, vlen_cells, vlen_twice, vlen_encoded}
use Rattle.zarr_codecs_meaning.proofs.KeptOptions.{found_in, options_fit, are_options, found_cells, optional_cells, optional_twice, optional_encoded}
use Rattle.zarr_codecs_meaning.proofs.KeptShards.{kept_part, part_kept, shard_cells, shard_twice, shard_same}

-- cells put back from where an array codec took them
cells_put_back : (codec : ArrayCodec) (elements : Elements) (shape : List ℕ) (cells : List Cell) → AreCells elements (encoded_shape codec shape) cells → AreCells elements shape (gather elements.fill cells (undone_places codec shape))
cells_put_back codec elements shape cells are = record {
  fill = are.fill;
  values = values_gathered (is_value elements.type) elements.fill cells (undone_places codec shape) are.fill are.values;
  whole = length-gather elements.fill cells (undone_places codec shape) ∙ (length-map (place_numbers shape) (λ n. position_of n (source_places codec shape)) ∙ length-range_with_len 0 (product shape));
}

-- an array codec takes again what was put back
cells_taken_again : (codec : ArrayCodec) (elements : Elements) (shape : List ℕ) (cells : List Cell) → array_codec_fits codec shape ≡ true → AreCells elements (encoded_shape codec shape) cells
    → gather elements.fill (gather elements.fill cells (undone_places codec shape)) (source_places codec shape) ≡ cells
cells_taken_again codec elements shape cells fit are =
    gathered_again elements.fill cells (source_places codec shape) (product shape) (are.whole ∙ sym (array_codec_count codec shape fit)) (array_codec_once codec shape fit)

pub kept_cells : (chain : Chain) (elements : Elements) (shape : List ℕ) (cells : List Cell) → fits chain elements.type shape ≡ true → AreCells elements shape cells → AreCells elements shape (kept chain elements shape cells)
kept_cells (bytes order) elements shape cells fit are = are
kept_cells (packbits padding first last) elements shape cells fit are = packbits_cells padding first last elements shape cells (packs first last elements.type fit) are
kept_cells (vlen index «data» width location) elements shape cells fit are =
    let f = vlen_fits index «data» width location elements.type shape fit in
    let content = content_of cells in
    let keep = kept «data» (zero_filled uint8) (length content ∷ []) content in
    let inside = kept_cells «data» (zero_filled uint8) (length content ∷ []) content (f.data_fits (length content ∷ [])) (content_cells cells (are_variable elements.type cells f.variable are.values)) in
    vlen_cells elements shape cells keep f.variable are (keeps_bytes cells keep inside)
kept_cells (optional mask values) elements shape cells fit are =
    let f = options_fit mask values elements.type shape fit in
    let inner = unwrap_or (inner_type elements.type) elements.type in
    let found = found_in cells in
    let inside = kept_cells values (zero_filled inner) (length found ∷ []) found (f.values_fit (length found ∷ [])) (found_cells inner cells (are_options elements.type inner cells f.is are.values)) in
    optional_cells elements shape inner cells (kept values (zero_filled inner) (length found ∷ []) found) f.is are inside.values
kept_cells (after_array_codec codec chain) elements shape cells fit are =
    let both = and_parts (array_codec_fits codec shape) (fits chain elements.type (encoded_shape codec shape)) fit in
    let moved = gather elements.fill cells (source_places codec shape) in
    cells_put_back codec elements shape (kept chain elements (encoded_shape codec shape) moved) (kept_cells chain elements (encoded_shape codec shape) moved both.1 (cells_moved codec elements shape cells both.0 are))
kept_cells (then_bytes chain codec) elements shape cells fit are = kept_cells chain elements shape cells fit are
kept_cells (sharded subchunk inner index location) elements shape cells fit are =
    let f = fitted subchunk inner index location elements shape fit in
    shard_cells (kept inner elements) elements shape subchunk cells are.fill
    (each_part subchunk inner index elements shape cells (λ (part : Part). AreCells elements part.shape (kept_part (kept inner elements) elements.fill cells part)) f are
    (λ part one two. part_kept (kept inner elements) elements cells part two (kept_cells inner elements part.shape (part_cells elements.fill cells part) one two)))

pub kept_twice : (chain : Chain) (elements : Elements) (shape : List ℕ) (cells : List Cell) → fits chain elements.type shape ≡ true → AreCells elements shape cells → kept chain elements shape (kept chain elements shape cells) ≡ kept chain elements shape cells
kept_twice (bytes order) elements shape cells fit are = refl
kept_twice (packbits padding first last) elements shape cells fit are = packbits_twice first last elements.type cells (packs first last elements.type fit) (each_passes (is_value elements.type) cells are.values)
kept_twice (vlen index «data» width location) elements shape cells fit are =
    let f = vlen_fits index «data» width location elements.type shape fit in
    let content = content_of cells in
    let some = length content ∷ [] in
    let inside = content_cells cells (are_variable elements.type cells f.variable are.values) in
    vlen_twice (kept «data» (zero_filled uint8)) cells (keeps_bytes cells (kept «data» (zero_filled uint8) some content) (kept_cells «data» (zero_filled uint8) some content (f.data_fits some) inside))
    (kept_twice «data» (zero_filled uint8) some content (f.data_fits some) inside)
kept_twice (optional mask values) elements shape cells fit are =
    let f = options_fit mask values elements.type shape fit in
    let inner = unwrap_or (inner_type elements.type) elements.type in
    let found = found_in cells in
    let some = length found ∷ [] in
    let inside = found_cells inner cells (are_options elements.type inner cells f.is are.values) in
    let whole = (kept_cells values (zero_filled inner) some found (f.values_fit some) inside).whole in
    optional_twice (kept values (zero_filled inner)) cells (omega (arith, whole)) (kept_twice values (zero_filled inner) some found (f.values_fit some) inside)
kept_twice (after_array_codec codec chain) elements shape cells fit are =
    let both = and_parts (array_codec_fits codec shape) (fits chain elements.type (encoded_shape codec shape)) fit in
    let moved = gather elements.fill cells (source_places codec shape) in
    let inside = cells_moved codec elements shape cells both.0 are in
    ap (λ (xs : List Cell). gather elements.fill (kept chain elements (encoded_shape codec shape) xs) (undone_places codec shape))
    (cells_taken_again codec elements shape (kept chain elements (encoded_shape codec shape) moved) both.0 (kept_cells chain elements (encoded_shape codec shape) moved both.1 inside))
    ∙ ap (λ (xs : List Cell). gather elements.fill xs (undone_places codec shape)) (kept_twice chain elements (encoded_shape codec shape) moved both.1 inside)
kept_twice (then_bytes chain codec) elements shape cells fit are = kept_twice chain elements shape cells fit are
kept_twice (sharded subchunk inner index location) elements shape cells fit are =
    let f = fitted subchunk inner index location elements shape fit in
    let fill = elements.fill in
    shard_twice (kept inner elements) elements shape subchunk cells f.cuts
    (each_part subchunk inner index elements shape cells (λ (part : Part). AreCells elements part.shape (kept_part (kept inner elements) fill cells part)) f are
    (λ part one two. part_kept (kept inner elements) elements cells part two (kept_cells inner elements part.shape (part_cells fill cells part) one two)))
    (each_part subchunk inner index elements shape cells (λ (part : Part). kept inner elements part.shape (kept inner elements part.shape (part_cells fill cells part)) ≡ kept inner elements part.shape (part_cells fill cells part)) f are
    (λ part one two. kept_twice inner elements part.shape (part_cells fill cells part) one two))

-- ---- encoding

plain_where_taken : (chain : Chain) → takes_each_shape chain ≡ true → is_plain chain ≡ true
plain_where_taken (bytes order) h = refl
plain_where_taken (packbits padding first last) h = refl
plain_where_taken (vlen index «data» width location) h = refl
plain_where_taken (optional mask values) h = refl
plain_where_taken (after_array_codec codec chain) h = cc
plain_where_taken (then_bytes chain codec) h = plain_where_taken chain h
plain_where_taken (sharded subchunk inner index location) h = cc

pub kept_encoded : (chain : Chain) (elements : Elements) (shape : List ℕ) (cells : List Cell) → is_plain chain ≡ true → fits chain elements.type shape ≡ true → AreCells elements shape cells
    → encoded chain elements shape (kept chain elements shape cells) ≡ encoded chain elements shape cells
kept_encoded (bytes order) elements shape cells plain fit are = refl
kept_encoded (packbits padding first last) elements shape cells plain fit are =
    ap (λ bits. Some (with_padding padding bits)) (packbits_bits first last elements.type cells (packs first last elements.type fit) (each_passes (is_value elements.type) cells are.values))
kept_encoded (vlen index «data» width location) elements shape cells plain fit are =
    let f = vlen_fits index «data» width location elements.type shape fit in
    let content = content_of cells in
    let some = length content ∷ [] in
    let inside = content_cells cells (are_variable elements.type cells f.variable are.values) in
    let keep = kept «data» (zero_filled uint8) some content in
    vlen_encoded (encoded index (zero_filled (integer unsigned width)) ((product shape + 1) ∷ [])) (encoded «data» (zero_filled uint8)) width location cells keep
    (keeps_bytes cells keep (kept_cells «data» (zero_filled uint8) some content (f.data_fits some) inside)) (kept_encoded «data» (zero_filled uint8) some content (plain_where_taken «data» f.takes) (f.data_fits some) inside)
kept_encoded (optional mask values) elements shape cells plain fit are =
    let f = options_fit mask values elements.type shape fit in
    let inner = unwrap_or (inner_type elements.type) elements.type in
    let found = found_in cells in
    let some = length found ∷ [] in
    let inside = found_cells inner cells (are_options elements.type inner cells f.is are.values) in
    let whole = (kept_cells values (zero_filled inner) some found (f.values_fit some) inside).whole in
    optional_encoded (encoded mask (zero_filled bool) shape) (encoded values (zero_filled inner)) cells (kept values (zero_filled inner) some found) (omega (arith, whole))
    (kept_encoded values (zero_filled inner) some found (plain_where_taken values f.takes) (f.values_fit some) inside)
kept_encoded (after_array_codec codec chain) elements shape cells plain fit are =
    let both = and_parts (array_codec_fits codec shape) (fits chain elements.type (encoded_shape codec shape)) fit in
    let moved = gather elements.fill cells (source_places codec shape) in
    let inside = cells_moved codec elements shape cells both.0 are in
    ap (encoded chain elements (encoded_shape codec shape)) (cells_taken_again codec elements shape (kept chain elements (encoded_shape codec shape) moved) both.0 (kept_cells chain elements (encoded_shape codec shape) moved both.1 inside))
    ∙ kept_encoded chain elements (encoded_shape codec shape) moved plain both.1 inside
kept_encoded (then_bytes chain codec) elements shape cells plain fit are = ap (option_and_then codec.encode) (kept_encoded chain elements shape cells plain fit are)
kept_encoded (sharded subchunk inner index location) elements shape cells plain fit are = cc

-- ---- chains that keep all

-- of the present elements too no bit is dropped
pub inner_lossless : (values : Chain) (type : DataType) (t : Bool) (o : Option DataType) → (t && (elim o [ None ↦ true | Some inner ↦ is_lossless values inner ])) ≡ true → o ≡ Some (unwrap_or o type) → is_lossless values (unwrap_or o type) ≡ true
inner_lossless values type t None h e = cc
inner_lossless values type t (Some inner) h e = (and_parts t (is_lossless values inner) h).1

pub kept_lossless : (chain : Chain) (elements : Elements) (shape : List ℕ) (cells : List Cell) → is_lossless chain elements.type ≡ true → fits chain elements.type shape ≡ true → AreCells elements shape cells → kept chain elements shape cells ≡ cells
kept_lossless (bytes order) elements shape cells lossless fit are = refl
kept_lossless (packbits padding first last) elements shape cells lossless fit are =
    let parts = components elements.type in
    let keeps = each_weaker (λ c. ((first == 0) && (last_kept last c + 1 == c.width)) ≡ true) (KeepsAll first last) parts (keeps_all first last) (each_passes (λ c. (first == 0) && (last_kept last c + 1 == c.width)) parts lossless) in
    packbits_lossless first last elements.type cells (packs first last elements.type fit).fixed keeps (each_passes (is_value elements.type) cells are.values)
kept_lossless (vlen index «data» width location) elements shape cells lossless fit are =
    let f = vlen_fits index «data» width location elements.type shape fit in
    let content = content_of cells in
    let some = length content ∷ [] in
    let is = are_variable elements.type cells f.variable are.values in
    let l = and_parts (is_lossless index (integer unsigned width)) (is_lossless «data» uint8) lossless in
    ap (λ (xs : List Cell). cut_again cells (flat_map cell_bytes xs)) (kept_lossless «data» (zero_filled uint8) some content l.1 (f.data_fits some) (content_cells cells is))
    ∙ (ap (cut_again cells) (bytes_again (flat_map cell_bytes cells)) ∙ cut_back cells is)
kept_lossless (optional mask values) elements shape cells lossless fit are =
    let f = options_fit mask values elements.type shape fit in
    let inner = unwrap_or (inner_type elements.type) elements.type in
    let found = found_in cells in
    let some = length found ∷ [] in
    let options = are_options elements.type inner cells f.is are.values in
    let l : is_lossless values inner ≡ true = inner_lossless values elements.type (is_lossless mask bool) (inner_type elements.type) lossless f.is in
    ap (spread (map mask_cell cells)) (kept_lossless values (zero_filled inner) some found l (f.values_fit some) (found_cells inner cells options)) ∙ spread_back inner cells options
kept_lossless (after_array_codec codec chain) elements shape cells lossless fit are =
    let both = and_parts (array_codec_fits codec shape) (fits chain elements.type (encoded_shape codec shape)) fit in
    ap (λ (xs : List Cell). gather elements.fill xs (undone_places codec shape)) (kept_lossless chain elements (encoded_shape codec shape) (gather elements.fill cells (source_places codec shape)) lossless both.1 (cells_moved codec elements shape cells both.0 are))
    ∙ gathered_back elements.fill cells (source_places codec shape) _ are.whole (array_codec_covers codec shape both.0)
kept_lossless (then_bytes chain codec) elements shape cells lossless fit are = kept_lossless chain elements shape cells lossless fit are
kept_lossless (sharded subchunk inner index location) elements shape cells lossless fit are =
    let f = fitted subchunk inner index location elements shape fit in
    let l = and_parts (is_lossless inner elements.type) (is_lossless index uint64) lossless in
    shard_same (kept inner elements) elements.fill shape subchunk cells f.cuts are.whole
    (each_part subchunk inner index elements shape cells (λ (part : Part). kept inner elements part.shape (part_cells elements.fill cells part) ≡ part_cells elements.fill cells part) f are
    (λ part one two. kept_lossless inner elements part.shape (part_cells elements.fill cells part) l.0 one two))

-- of a component of one bit all is kept
one_bit : (first : ℕ) (last : Option ℕ) → list_all (bits_fit first last) (components bool) ≡ true → Each (KeepsAll first last) (components bool)
one_bit first last h =
    let top = last_kept last (record { width = 1; byte_count = 1; sign = unsigned }) in
    let both = and_parts (nat_le first top) (nat_lt top 1) (and_parts (nat_le first top && nat_lt top 1) true h).0 in
    let from = leb-true first top both.0 in
    let to = ltb-true top 1 both.1 in
    (record { from_zero = omega (arith, from, to); to_last = omega (arith, to) }, tt)

-- of a mask all is kept, by whichever chain
pub kept_mask : (chain : Chain) (shape : List ℕ) (cells : List Cell) → fits chain bool shape ≡ true → AreCells (zero_filled bool) shape cells → kept chain (zero_filled bool) shape cells ≡ cells
kept_mask (bytes order) shape cells fit are = refl
kept_mask (packbits padding first last) shape cells fit are = packbits_lossless first last bool cells refl (one_bit first last fit) (each_passes (is_value bool) cells are.values)
kept_mask (vlen index «data» width location) shape cells fit are = cc
kept_mask (optional mask values) shape cells fit are = cc
kept_mask (after_array_codec codec chain) shape cells fit are =
    let fill = (zero_filled bool).fill in
    let both = and_parts (array_codec_fits codec shape) (fits chain bool (encoded_shape codec shape)) fit in
    ap (λ (xs : List Cell). gather fill xs (undone_places codec shape)) (kept_mask chain (encoded_shape codec shape) (gather fill cells (source_places codec shape)) both.1 (cells_moved codec (zero_filled bool) shape cells both.0 are))
    ∙ gathered_back fill cells (source_places codec shape) _ are.whole (array_codec_covers codec shape both.0)
kept_mask (then_bytes chain codec) shape cells fit are = kept_mask chain shape cells fit are
kept_mask (sharded subchunk inner index location) shape cells fit are =
    let bools = zero_filled bool in
    let f = fitted subchunk inner index location bools shape fit in
    shard_same (kept inner bools) bools.fill shape subchunk cells f.cuts are.whole
    (each_part subchunk inner index bools shape cells (λ (part : Part). kept inner bools part.shape (part_cells bools.fill cells part) ≡ part_cells bools.fill cells part) f are
    (λ part one two. kept_mask inner part.shape (part_cells bools.fill cells part) one two))
