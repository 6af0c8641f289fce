-- What is encoded stands, and what stands is decoded to what is kept of it: by recursion over chains, both at once.
use Rattle.std.proofs.Common.{◌≡◌, ℕ, ◌+◌, ◌/◌, ◌^◌, ◌<◌, List, [], ◌∷◌, length, map, ap, ◌∙◌, sym, refl, arith, Option, Some, None, option_and_then, option_map, unwrap_or, Bool, true, false, ◌⊎◌, inl, inr}
use Rattle.std.proofs.lemmas.List.{length-map}
use Rattle.std.proofs.lemmas.Bool.{and_parts}
use Rattle.std.specs.Prelude.{MatchBool}
use Rattle.zarr_grids_boxes.specs.Boxes.{product}
use Rattle.zarr_codecs_meaning.specs.Numbers.{digits}
use Rattle.zarr_codecs_meaning.specs.Types.{DataType, bool, integer, unsigned, uint8, uint64, is_fixed, components, Elements, Cell, of_bytes, cell_bytes, inner_type, zero_filled}
use Rattle.zarr_codecs_meaning.specs.Chains.{Chain, Location}
use Rattle.zarr_codecs_meaning.specs.Chains.Chain.{bytes, packbits, vlen, optional, after_array_codec, then_bytes, sharded}
use Rattle.zarr_codecs_meaning.specs.Places.{gather, encoded_shape, source_places, undone_places, parts_of, index_shape}
use Rattle.zarr_codecs_meaning.specs.Fits.{fits, is_lossless, keeps_indices, is_plain, array_codec_fits, order_fits}
use Rattle.zarr_codecs_meaning.specs.Encoding.{encoded, ends_from, last_number, number_cells, mask_cell, piece_of, pieces_of, stored_pieces, shard_of, joined_slices, pairs_from, pair_cells, index_size, base_of}
use Rattle.zarr_codecs_meaning.specs.Keeping.{kept}
use Rattle.zarr_codecs_meaning.specs.Decoding.{decoded}
use Rattle.zarr_codecs_meaning.specs.Standing.{Stands, ShardStands, index_layout}
use Rattle.zarr_codecs_meaning.specs.Laws.{IsLawfulChain, AreCells}
use Rattle.zarr_codecs_meaning.proofs.Lists.{bind_some, some_same}
use Rattle.zarr_codecs_meaning.proofs.Sizes.{cells_moved}
use Rattle.zarr_codecs_meaning.proofs.Elements.{bytes_back, packbits_kept}
use Rattle.zarr_codecs_meaning.proofs.Shards.{SlicesStand, length-slices, put, part_cells}
use Rattle.zarr_codecs_meaning.proofs.Zeros.{zero_is_value}
use Rattle.zarr_codecs_meaning.proofs.Variable.{ends_below, length-ends, numbers_are_values}
use Rattle.zarr_codecs_meaning.proofs.Fitting.{Fitted, fitted, each_part, slices_stand, shard_made}
use Rattle.zarr_codecs_meaning.proofs.Representations.{index_long}
use Rattle.zarr_codecs_meaning.proofs.KeptVariable.{content_of, vlen_fits, are_variable, content_cells, keeps_bytes}
use Rattle.zarr_codecs_meaning.proofs.KeptOptions.{found_in, options_fit, are_options, found_cells, mask_cells}
use Rattle.zarr_codecs_meaning.proofs.KeptShards.{PartKeeps, shard_read}
use Rattle.zarr_codecs_meaning.proofs.KeptReading.{vlen_decoded, optional_decoded}
use Rattle.zarr_codecs_meaning.proofs.Kept.{kept_cells, inner_lossless, kept_lossless, kept_mask}

-- ---- which chains are read

-- a chain drops no bit at all, or at least none of an index
abbrev pub IsRead : Chain → DataType → Type 0
IsRead chain type = (is_lossless chain type ≡ true) ⊎ (keeps_indices chain ≡ true)

-- what that says of the chains inside of a chain
vlen_inside : (index «data» : Chain) (width : ℕ) (location : Location) (type : DataType) → IsRead (vlen index «data» width location) type → (is_lossless index (integer unsigned width) ≡ true) × IsRead «data» uint8
vlen_inside index «data» width location type (inl h) = let l = and_parts (is_lossless index (integer unsigned width)) (is_lossless «data» uint8) h in (l.0, inl l.1)
vlen_inside index «data» width location type (inr h) = let l = and_parts (is_lossless index (integer unsigned width)) (keeps_indices «data») h in (l.0, inr l.1)

optional_inside : (mask values : Chain) (type : DataType) → inner_type type ≡ Some (unwrap_or (inner_type type) type) → IsRead (optional mask values) type → IsRead mask bool × IsRead values (unwrap_or (inner_type type) type)
optional_inside mask values type is (inl h) =
    (inl (and_parts (is_lossless mask bool) (elim (inner_type type) [ None ↦ true | Some inner ↦ is_lossless values inner ]) h).0, inl (inner_lossless values type (is_lossless mask bool) (inner_type type) h is))
optional_inside mask values type is (inr h) = let l = and_parts (keeps_indices mask) (keeps_indices values) h in (inr l.0, inr l.1)

shard_inside : (subchunk : List ℕ) (inner index : Chain) (location : Location) (type : DataType) → IsRead (sharded subchunk inner index location) type → IsRead inner type × (is_lossless index uint64 ≡ true)
shard_inside subchunk inner index location type (inl h) = let l = and_parts (is_lossless inner type) (is_lossless index uint64) h in (inl l.0, l.1)
shard_inside subchunk inner index location type (inr h) = let l = and_parts (keeps_indices inner) (is_lossless index uint64) h in (inr l.0, l.1)

-- ---- what is shown of a chain

pub record Laws (chain : Chain) : Type 0 where
  pub stands : (elements : Elements) (shape value : List ℕ) (cells : List Cell) → fits chain elements.type shape ≡ true → IsRead chain elements.type → AreCells elements shape cells → encoded chain elements shape cells ≡ Some value → Stands chain elements shape value cells
  pub decodes : (elements : Elements) (shape value : List ℕ) (cells : List Cell) → fits chain elements.type shape ≡ true → IsRead chain elements.type → AreCells elements shape cells → Stands chain elements shape value cells
      → decoded chain elements shape value ≡ Some (kept chain elements shape cells)

-- what is written is decoded to what is kept
pub written_read : (chain : Chain) → Laws chain → (elements : Elements) (shape value : List ℕ) (cells : List Cell) → fits chain elements.type shape ≡ true → IsRead chain elements.type → AreCells elements shape cells
    → encoded chain elements shape cells ≡ Some value → decoded chain elements shape value ≡ Some (kept chain elements shape cells)
written_read chain laws elements shape value cells fit read are h = laws.decodes elements shape value cells fit read are (laws.stands elements shape value cells fit read are h)

-- what is written by a lossless chain is decoded whole
written_back : (chain : Chain) → Laws chain → (elements : Elements) (shape value : List ℕ) (cells : List Cell) → fits chain elements.type shape ≡ true → is_lossless chain elements.type ≡ true → AreCells elements shape cells
    → encoded chain elements shape cells ≡ Some value → decoded chain elements shape value ≡ Some cells
written_back chain laws elements shape value cells fit lossless are h = written_read chain laws elements shape value cells fit (inl lossless) are h ∙ ap Some (kept_lossless chain elements shape cells lossless fit are)

-- the shard of slices that stand for the pieces stands
pub stored_stands : (subchunk : List ℕ) (inner index : Chain) (location : Location) (elements : Elements) (shape value : List ℕ) (cells : List Cell) (slice : List ℕ → List ℕ → List Cell → Type 0) (stored : List (Option (List ℕ)))
    → IsLawfulChain index → Laws index → Fitted subchunk inner index elements shape → is_lossless index uint64 ≡ true → SlicesStand slice elements.fill (pieces_of elements.fill cells (parts_of shape subchunk)) stored
    → shard_of (encoded index (zero_filled uint64) (index_shape shape subchunk)) location (index_size index (index_shape shape subchunk)) stored ≡ Some value
    → ShardStands (index_layout index location (index_shape shape subchunk)) slice elements.fill (pieces_of elements.fill cells (parts_of shape subchunk)) value
stored_stands subchunk inner index location elements shape value cells slice stored lawful laws f lossless slices h =
    let pairs_shape = index_shape shape subchunk in
    let base = base_of location (index_size index pairs_shape) in
    let parts = parts_of shape subchunk in
    let pieces = pieces_of elements.fill cells parts in
    let shard = shard_made subchunk index location shape value stored (length-slices slice elements.fill pieces stored slices ∙ length-map parts (piece_of elements.fill cells)) h in
    let long = index_long subchunk inner index location elements shape value stored lawful f shard in
    let read = written_back index laws (zero_filled uint64) pairs_shape shard.index_bytes (pair_cells (pairs_from base stored)) f.index_fits lossless shard.pairs_are shard.is_index in
    (pairs_from base stored, joined_slices stored, record { index_bytes = shard.index_bytes; long = long; read = read; is = sym shard.is }, put slice elements.fill base (joined_slices stored) pieces stored [] base slices refl (omega arith) shard.short)

-- what is shown of a relation of slices: what encoding writes keeps it
pub shard_stands : (subchunk : List ℕ) (inner index : Chain) (location : Location) (elements : Elements) (shape value : List ℕ) (cells : List Cell) (slice : List ℕ → List ℕ → List Cell → Type 0) → IsLawfulChain index → Laws index
    → fits (sharded subchunk inner index location) elements.type shape ≡ true → is_lossless index uint64 ≡ true → AreCells elements shape cells
    → ((part : List ℕ) (made : List ℕ) (found : List Cell) → fits inner elements.type part ≡ true → AreCells elements part found → encoded inner elements part found ≡ Some made → slice part made found)
    → encoded (sharded subchunk inner index location) elements shape cells ≡ Some value
    → ShardStands (index_layout index location (index_shape shape subchunk)) slice elements.fill (pieces_of elements.fill cells (parts_of shape subchunk)) value
shard_stands subchunk inner index location elements shape value cells slice lawful laws fit lossless are law h =
    let pairs_shape = index_shape shape subchunk in
    let f = fitted subchunk inner index location elements shape fit in
    let found = bind_some (shard_of (encoded index (zero_filled uint64) pairs_shape) location (index_size index pairs_shape)) (stored_pieces (encoded inner elements) elements.fill (pieces_of elements.fill cells (parts_of shape subchunk))) value h in
    stored_stands subchunk inner index location elements shape value cells slice found.0 lawful laws f lossless (slices_stand subchunk inner index elements shape cells found.0 slice f are law found.1) found.2

-- offsets as the cells of an index
offset_cells : (width count : ℕ) (cells : List Cell) → length cells ≡ count → last_number 0 (ends_from 0 (map cell_bytes cells)) < 2 ^ width → AreCells (zero_filled (integer unsigned width)) ((count + 1) ∷ []) (number_cells width (0 ∷ ends_from 0 (map cell_bytes cells)))
offset_cells width count cells whole low =
    let offsets = 0 ∷ ends_from 0 (map cell_bytes cells) in
    let below = ends_below cells 0 (2 ^ width) low in record {
      fill = zero_is_value (integer unsigned width);
      values = numbers_are_values width offsets (below.0, below.1);
      whole = length-map offsets (λ n. of_bytes (digits 256 ((width + 7) / 8) n)) ∙ omega (arith, length-ends cells 0, whole);
    }

vlen_read : (index «data» : Chain) (width : ℕ) (location : Location) (elements : Elements) (shape value : List ℕ) (cells : List Cell) → Laws index → Laws «data»
    → fits (vlen index «data» width location) elements.type shape ≡ true → IsRead (vlen index «data» width location) elements.type → AreCells elements shape cells
    → encoded (vlen index «data» width location) elements shape cells ≡ Some value → decoded (vlen index «data» width location) elements shape value ≡ Some (kept (vlen index «data» width location) elements shape cells)
vlen_read index «data» width location elements shape value cells index_laws data_laws fit read are h =
    let f = vlen_fits index «data» width location elements.type shape fit in
    let k = vlen_inside index «data» width location elements.type read in
    let numbers = zero_filled (integer unsigned width) in
    let index_shape_ = (product shape + 1) ∷ [] in
    let offsets = number_cells width (0 ∷ ends_from 0 (map cell_bytes cells)) in
    let content = content_of cells in
    let some = length content ∷ [] in
    let inside = content_cells cells (are_variable elements.type cells f.variable are.values) in
    let keep = kept «data» (zero_filled uint8) some content in
    vlen_decoded (encoded index numbers index_shape_) (decoded index numbers index_shape_) (encoded «data» (zero_filled uint8)) (decoded «data» (zero_filled uint8)) width location cells keep value
    (keeps_bytes cells keep (kept_cells «data» (zero_filled uint8) some content (f.data_fits some) inside))
    (λ made low e. written_back index index_laws numbers index_shape_ made offsets f.index_fits k.0 (offset_cells width (product shape) cells are.whole low) e)
    (λ made e. written_read «data» data_laws (zero_filled uint8) some made content (f.data_fits some) k.1 inside e) h

optional_read : (mask values : Chain) (elements : Elements) (shape value : List ℕ) (cells : List Cell) → Laws mask → Laws values
    → fits (optional mask values) elements.type shape ≡ true → IsRead (optional mask values) elements.type → AreCells elements shape cells
    → encoded (optional mask values) elements shape cells ≡ Some value → decoded (optional mask values) elements shape value ≡ Some (kept (optional mask values) elements shape cells)
optional_read mask values elements shape value cells mask_laws values_laws fit read are h =
    let f = options_fit mask values elements.type shape fit in
    let k = optional_inside mask values elements.type f.is read in
    let bools = zero_filled bool in
    let inner = unwrap_or (inner_type elements.type) elements.type in
    let found = found_in cells in
    let some = length found ∷ [] in
    let inside = found_cells inner cells (are_options elements.type inner cells f.is are.values) in
    let masks = mask_cells shape cells are.whole in
    let whole = (kept_cells values (zero_filled inner) some found (f.values_fit some) inside).whole in
    optional_decoded (encoded mask bools shape) (decoded mask bools shape) (encoded values (zero_filled inner)) (decoded values (zero_filled inner)) cells (kept values (zero_filled inner) some found) value (omega (arith, whole))
    (λ made e. written_read mask mask_laws bools shape made (map mask_cell cells) f.mask_fits k.0 masks e ∙ ap Some (kept_mask mask shape (map mask_cell cells) f.mask_fits masks))
    (λ made e. written_read values values_laws (zero_filled inner) some made found (f.values_fit some) k.1 inside e) h

pub either : (b : Bool) (P Q : Type 0) → P → Q → MatchBool b P Q
either true P Q p q = p
either false P Q p q = q

one_of : (b : Bool) (P Q : Type 0) → MatchBool b P Q → P ⊎ Q
one_of true P Q h = inl h
one_of false P Q h = inr h

pub laws_of : (chain : Chain) → IsLawfulChain chain → Laws chain
laws_of (bytes order) lawful = record {
  stands = λ elements shape value cells fit read are h. h;
  decodes = λ elements shape value cells fit read are h.
      ap (decoded (bytes order) elements shape) (sym (some_same h)) ∙ bytes_back order elements shape cells (and_parts (is_fixed elements.type) (order_fits order (components elements.type)) fit).0 are;
}
laws_of (packbits padding first last) lawful = record {
  stands = λ elements shape value cells fit read are h. h;
  decodes = λ elements shape value cells fit read are h. ap (decoded (packbits padding first last) elements shape) (sym (some_same h)) ∙ packbits_kept padding first last elements shape cells are.whole;
}
laws_of (vlen index «data» width location) lawful =
    let first = laws_of index lawful.0 in
    let second = laws_of «data» lawful.1 in record {
      stands = λ elements shape value cells fit read are h. h;
      decodes = λ elements shape value cells fit read are h. vlen_read index «data» width location elements shape value cells first second fit read are h;
    }
laws_of (optional mask values) lawful =
    let first = laws_of mask lawful.0 in
    let second = laws_of values lawful.1 in record {
      stands = λ elements shape value cells fit read are h. h;
      decodes = λ elements shape value cells fit read are h. optional_read mask values elements shape value cells first second fit read are h;
    }
laws_of (after_array_codec codec chain) lawful =
    let rest = laws_of chain lawful in record {
      stands = λ elements shape value cells fit read are h.
          let both = and_parts (array_codec_fits codec shape) (fits chain elements.type (encoded_shape codec shape)) fit in
          rest.stands elements (encoded_shape codec shape) value (gather elements.fill cells (source_places codec shape)) both.1 read (cells_moved codec elements shape cells both.0 are) h;
      decodes = λ elements shape value cells fit read are h.
          let both = and_parts (array_codec_fits codec shape) (fits chain elements.type (encoded_shape codec shape)) fit in
          ap (option_map (λ (found : List Cell). gather elements.fill found (undone_places codec shape))) (rest.decodes elements (encoded_shape codec shape) value (gather elements.fill cells (source_places codec shape)) both.1 read (cells_moved codec elements shape cells both.0 are) h);
    }
laws_of (then_bytes chain codec) lawful =
    let rest = laws_of chain lawful.0 in record {
      stands = λ elements shape value cells fit read are h.
          let found = bind_some codec.encode (encoded chain elements shape cells) value h in
          either (is_plain chain) _ _ h (found.0, lawful.1.undoes found.0 value found.2, rest.stands elements shape found.0 cells fit read are found.1);
      decodes = λ elements shape value cells fit read are h.
          elim (one_of (is_plain chain) _ _ h) [
            | inl e ↦
                let found = bind_some codec.encode (encoded chain elements shape cells) value e in
                ap (option_and_then (decoded chain elements shape)) (lawful.1.undoes found.0 value found.2) ∙ written_read chain rest elements shape found.0 cells fit read are found.1
            | inr k ↦ ap (option_and_then (decoded chain elements shape)) k.1 ∙ rest.decodes elements shape k.0 cells fit read are k.2
          ];
    }
laws_of (sharded subchunk inner index location) lawful =
    let first = laws_of inner lawful.0 in
    let second = laws_of index lawful.1 in record {
      stands = λ elements shape value cells fit read are h.
          let both = shard_inside subchunk inner index location elements.type read in
          shard_stands subchunk inner index location elements shape value cells (Stands inner elements) lawful.1 second fit both.1 are (λ part made found one two e. first.stands elements part made found one both.0 two e) h;
      decodes = λ elements shape value cells fit read are h.
          let fill = elements.fill in
          let pairs_shape = index_shape shape subchunk in
          let inside = (shard_inside subchunk inner index location elements.type read).0 in
          shard_read (index_layout index location pairs_shape) (decoded inner elements) (kept inner elements) (Stands inner elements) fill cells shape subchunk value
          (each_part subchunk inner index elements shape cells (PartKeeps (decoded inner elements) (kept inner elements) (Stands inner elements) fill cells) (fitted subchunk inner index location elements shape fit) are
          (λ part one two. (two.whole, λ v st. first.decodes elements part.shape v (part_cells fill cells part) one inside two st))) h;
    }

-- what stands by a lossless chain is decoded whole
pub stands_decoded : (chain : Chain) (elements : Elements) (shape value : List ℕ) (cells : List Cell) → IsLawfulChain chain → fits chain elements.type shape ≡ true → is_lossless chain elements.type ≡ true → AreCells elements shape cells
    → Stands chain elements shape value cells → decoded chain elements shape value ≡ Some cells
stands_decoded chain elements shape value cells lawful fit lossless are h = (laws_of chain lawful).decodes elements shape value cells fit (inl lossless) are h ∙ ap Some (kept_lossless chain elements shape cells lossless fit are)
