-- An index whose bytes are stored as they stand in memory.
use Rattle.std.proofs.Common.{◌≡◌, ℕ, ◌*◌, ◌%◌, List, [], ◌∷◌, ◌++◌, length, map, ap, ◌∙◌, sym, refl, arith, inl, append_assoc, Option, Some, None, option_map, Bool, true, false}
use Rattle.std.specs.Prelude.{flat_map}
use Rattle.std.proofs.lemmas.Bool.{and_parts, ne_eqb}
use Rattle.zarr_grids_boxes.specs.Boxes.{product}
use Rattle.zarr_codecs_meaning.specs.Chains.{Chain, Endianness}
use Rattle.zarr_codecs_meaning.specs.Chains.Chain.{bytes, packbits, vlen, optional, after_array_codec, then_bytes, sharded}
use Rattle.zarr_codecs_meaning.specs.Chains.Endianness.{little, big}
use Rattle.zarr_codecs_meaning.specs.Decoding.{all_there, decoded, element_at, pairs_of_cells}
use Rattle.zarr_codecs_meaning.specs.Encoding.{Pair, encoded, index_size, ordered, pair_cells}
use Rattle.zarr_codecs_meaning.specs.Fits.{fits, has_index_size, representation_of}
use Rattle.zarr_codecs_meaning.specs.Laws.{AreCells}
use Rattle.zarr_codecs_meaning.specs.Numbers.{word}
use Rattle.zarr_codecs_meaning.specs.Payloads.{cells_in, fixed}
use Rattle.zarr_codecs_meaning.specs.Places.{place_numbers}
use Rattle.zarr_codecs_meaning.specs.Types.{cell_bytes, components, uint64, zero_filled}
use Rattle.zarr_codecs_meaning.proofs.Lists.{some_same}
use Rattle.zarr_codecs_meaning.proofs.Meaning.{laws_of, stands_decoded}
use Rattle.zarr_codecs_meaning.proofs.Representations.{encoded_size}
use Rattle.zarr_codecs_meaning.proofs.Shards.{length-pair_cells}
use Rattle.zarr_codecs_arrays.proofs.FixedCells.{fixed_in-some}
use Rattle.zarr_sharding_index.specs.Stored.{AreStoredAsIs, IsIndexRead, IsIndexWritten, index_fits}
use Rattle.zarr_sharding_index.specs.Views.{pairs_of_bytes}
use Rattle.zarr_codecs_traits.specs.Capabilities.{encodes_as_is}
use Rattle.zarr_sharding_index.proofs.PairBytes.{length-pairs_bytes, pairs_bytes}
use Rattle.zarr_sharding_index.proofs.StoredIndex.{fixed_long, index_below, pairs_are_values}

-- numbers that are stored in the order of memory are their bytes
in_memory_order : (order : Option Endianness) → encodes_as_is (bytes order) ≡ true → (pairs : List Pair)
    → flat_map (λ cell. ordered order (components uint64) (cell_bytes cell)) (pair_cells pairs) ≡ pairs_bytes pairs
in_memory_order (Some big) as_is pairs = cc
in_memory_order None as_is [] = refl
in_memory_order None as_is (pair ∷ pairs) =
    ap (λ (rest : List ℕ). word pair.0 ++ (word pair.1 ++ rest)) (in_memory_order None as_is pairs) ∙ sym (append_assoc (word pair.0) (word pair.1) (pairs_bytes pairs))
in_memory_order (Some little) as_is [] = refl
in_memory_order (Some little) as_is (pair ∷ pairs) =
    ap (λ (rest : List ℕ). word pair.0 ++ (word pair.1 ++ rest)) (in_memory_order (Some little) as_is pairs) ∙ sym (append_assoc (word pair.0) (word pair.1) (pairs_bytes pairs))

-- an index that such a chain encodes
written : (order : Option Endianness) (exact : Bool) (shape value : List ℕ) (pairs : List Pair) → value ≡ pairs_bytes pairs → encodes_as_is (bytes order) ≡ true → index_fits (bytes order) shape ≡ true
    → product shape ≡ 2 * length pairs → IsIndexWritten (bytes order) exact shape pairs value
written order exact shape value pairs is as_is fit many =
    let chain = bytes order in
    let fits_it = (and_parts (fits chain uint64 shape) (has_index_size chain shape) fit).0 in
    let are : AreCells (zero_filled uint64) shape (pair_cells pairs) = record { fill = refl; values = pairs_are_values pairs; whole = length-pair_cells pairs ∙ sym many } in
    let whole : encoded chain (zero_filled uint64) shape (pair_cells pairs) ≡ Some value = ap Some (in_memory_order order as_is pairs ∙ sym is) in
    record {
      made = whole;
      encodes = λ _. whole;
      reads_back = λ keeps. stands_decoded chain (zero_filled uint64) shape value (pair_cells pairs) tt fits_it keeps are ((laws_of chain tt).stands (zero_filled uint64) shape value (pair_cells pairs) fits_it (inl keeps) are whole);
      sized = fixed_long (representation_of chain uint64 shape) (index_size chain shape) (length value) (encoded_size chain (zero_filled uint64) shape value (pair_cells pairs) tt fits_it are whole) (index_below chain shape fit).0;
    }

-- the bytes of pairs
pub stored_as_is : (value : List ℕ) (pairs : List Pair) → value ≡ pairs_bytes pairs → AreStoredAsIs pairs value
stored_as_is value pairs is (bytes order) exact shape as_is fit many = written order exact shape value pairs is as_is fit many
stored_as_is value pairs is (packbits padding first last) exact shape as_is fit many = cc
stored_as_is value pairs is (vlen index «data» width location) exact shape as_is fit many = cc
stored_as_is value pairs is (optional mask values) exact shape as_is fit many = cc
stored_as_is value pairs is (after_array_codec codec chain) exact shape as_is fit many = cc
stored_as_is value pairs is (then_bytes chain codec) exact shape as_is fit many = cc
stored_as_is value pairs is (sharded subchunk inner index location) exact shape as_is fit many = cc

-- how many bytes such an index has
pub size_as_is : (index : Chain) (shape : List ℕ) (pairs : List Pair) → encodes_as_is index ≡ true → index_fits index shape ≡ true → product shape ≡ 2 * length pairs → index_size index shape ≡ 16 * length pairs
size_as_is index shape pairs as_is fit many = sym (stored_as_is (pairs_bytes pairs) pairs refl index true shape as_is fit many).sized ∙ length-pairs_bytes pairs

-- ---- read

-- the pairs of the numbers that bytes are
again : (value : List ℕ) → length value % 16 ≡ 0 → cells_in uint64 (fixed value) ≡ Some (pair_cells (pairs_of_bytes value)) → pairs_of_cells (pair_cells (pairs_of_bytes value)) ≡ pairs_of_bytes value
again value whole cells =
    let eights : length value % 8 ≡ 0 = omega (arith, whole) in
    ap pairs_of_cells (some_same (sym cells ∙ fixed_in-some 8 value (omega arith) eights))

-- as many bytes as the index has
pub read_as_is : (index : Chain) (shape value : List ℕ) → encodes_as_is index ≡ true → index_fits index shape ≡ true → length value % 16 ≡ 0 → product shape ≡ 2 * length (pairs_of_bytes value)
    → cells_in uint64 (fixed value) ≡ Some (pair_cells (pairs_of_bytes value)) → AreStoredAsIs (pairs_of_bytes value) value → IsIndexRead index shape value (pairs_of_bytes value)
read_as_is (bytes order) shape value as_is fit whole many cells stored =
    record {
      is = ap (option_map pairs_of_cells) ((stored (bytes order) true shape as_is fit many).reads_back refl) ∙ ap Some (again value whole cells);
      many = many;
    }
read_as_is (packbits padding first last) shape value as_is fit whole many cells stored = cc
read_as_is (vlen index «data» width location) shape value as_is fit whole many cells stored = cc
read_as_is (optional mask values) shape value as_is fit whole many cells stored = cc
read_as_is (after_array_codec codec chain) shape value as_is fit whole many cells stored = cc
read_as_is (then_bytes chain codec) shape value as_is fit whole many cells stored = cc
read_as_is (sharded subchunk inner index location) shape value as_is fit whole many cells stored = cc

-- more bytes, or fewer
pub not_as_is : (index : Chain) (shape value : List ℕ) → encodes_as_is index ≡ true → (length value ≡ 8 * product shape → ⊥) → decoded index (zero_filled uint64) shape value ≡ None
not_as_is (bytes order) shape value as_is other =
    ap (λ (whole : Bool). elim whole [ true ↦ all_there (map (element_at order uint64 value) (place_numbers shape)) | false ↦ None ]) (ne_eqb (length value) (8 * product shape) other)
not_as_is (packbits padding first last) shape value as_is other = cc
not_as_is (vlen index «data» width location) shape value as_is other = cc
not_as_is (optional mask values) shape value as_is other = cc
not_as_is (after_array_codec codec chain) shape value as_is other = cc
not_as_is (then_bytes chain codec) shape value as_is other = cc
not_as_is (sharded subchunk inner index location) shape value as_is other = cc
