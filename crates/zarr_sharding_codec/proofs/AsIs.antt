-- Slices that are the elements of their subchunks as they stand in memory.
use Rattle.std.proofs.Common.{◌≡◌, ◌∙◌, ℕ, zero, suc, ◌+◌, ◌*◌, ◌^◌, ◌<◌, ◌≤◌, arith, Bool, true, List, length, get_or, ap, sym, subst, Option, Some, None, option_and_then, if◌then◌else◌, Fits, w8}
use Rattle.std.specs.List.{list_all}
use Rattle.std.proofs.lemmas.Bool.{and_parts, lt-ltb}
use Rattle.zarr_grids_boxes.specs.Boxes.{product}
use Rattle.zarr_codecs_meaning.specs.Chains.{Chain, Endianness}
use Rattle.zarr_codecs_meaning.specs.Chains.Chain.{bytes, packbits, vlen, optional, after_array_codec, then_bytes, sharded}
use Rattle.zarr_codecs_meaning.specs.Chains.Endianness.{little, big}
use Rattle.zarr_codecs_meaning.specs.Decoding.{decoded}
use Rattle.zarr_codecs_meaning.specs.Fits.{fits, order_fits}
use Rattle.zarr_codecs_meaning.specs.Types.{Elements, byte_width, bytes_in, components, is_fixed, is_value}
use Rattle.zarr_codecs_meaning.specs.Payloads.{fixed_cells}
use Rattle.zarr_codecs_meaning.proofs.Lists.{some_same}
use Rattle.zarr_codecs_types.specs.Parts.{word_sized}
use Rattle.zarr_codecs_arrays.specs.Values.{takes_all_bytes}
use Rattle.zarr_codecs_arrays.proofs.ElementValues.{taken_values}
use Rattle.zarr_codecs_bytes.specs.Orders.{all_ordered}
use Rattle.zarr_codecs_bytes.proofs.Decoding.{IsRead, decoded_made, made_counted}
use Rattle.zarr_codecs_bytes.proofs.Orders.{all_ordered_same, little_leaves, none_leaves}
use Rattle.zarr_codecs_traits.specs.Capabilities.{encodes_as_is}
use Rattle.zarr_sharding_codec.specs.Reading.{AreBytes}

-- bytes in the order of memory stay
in_memory_order : (order : Option Endianness) (elements : Elements) (count : ℕ) (slice : List ℕ) → encodes_as_is (bytes order) ≡ true → 0 < bytes_in (components elements.type) → length slice ≡ count * bytes_in (components elements.type)
    → slice ≡ all_ordered order (components elements.type) slice
in_memory_order None elements count slice as_is some long = sym (all_ordered_same None (components elements.type) count slice (none_leaves (components elements.type)) some long)
in_memory_order (Some little) elements count slice as_is some long = sym (all_ordered_same (Some little) (components elements.type) count slice (little_leaves (components elements.type)) some long)
in_memory_order (Some big) elements count slice as_is some long = cc

-- an element is no longer than all of them
pub no_wider : (count width long : ℕ) → 0 < count → long ≡ count * width → width ≤ long
no_wider zero width long some is = absurd (omega (arith, some))
no_wider (suc count) width long some is =
    let more : suc count * width ≡ width + count * width = grind arith in
    omega (arith, is, more)

-- a slice that is as long as the elements, of which all bytes are values
pub read_as_is : (inner : Chain) (elements : Elements) (shape slice : List ℕ) (width : ℕ) → fits inner elements.type shape ≡ true → encodes_as_is inner ≡ true → takes_all_bytes elements.type ≡ true → 0 < width → width < 2 ^ 64 → byte_width elements.type ≡ Some width
    → length slice ≡ product shape * width → ((i : ℕ) → Fits w8 (get_or slice i 0)) → AreBytes elements (decoded inner elements shape slice) slice
read_as_is (bytes order) elements shape slice width fit as_is takes some low wide long each =
    let type = elements.type in
    let both = and_parts (is_fixed type) (order_fits order (components type)) fit in
    let same : bytes_in (components type) ≡ width = some_same (sym (ap (λ (b : Bool). if b then Some (bytes_in (components type)) else None) both.0) ∙ wide) in
    let positive = subst (λ n. 0 < n) (sym same) some in
    let whole : length slice ≡ product shape * bytes_in (components type) = long ∙ ap (λ n. product shape * n) (sym same) in
    let made : IsRead order type (product shape) slice slice = record { fit = fit; positive = positive; long = whole; is = in_memory_order order elements (product shape) slice as_is positive whole } in
    let counted = made_counted order type (product shape) slice slice made in
    let cells = fixed_cells (bytes_in (components type)) slice in
    let values : true ≡ list_all (is_value type) cells = taken_values type width slice cells takes (sym (ap (option_and_then word_sized) wide ∙ ap (λ (b : Bool). if b then Some width else None) (lt-ltb width (2 ^ 64) low))) each counted.lists in
    record {
      cells = cells;
      is = decoded_made order elements shape slice slice made ∙ ap (λ (b : Bool). if b then Some cells else None) (sym values);
      lists = counted.lists;
    }
read_as_is (packbits padding first last) elements shape slice width fit as_is takes some low wide long each = cc
read_as_is (vlen index «data» wide_by location) elements shape slice width fit as_is takes some low wide long each = cc
read_as_is (optional mask values) elements shape slice width fit as_is takes some low wide long each = cc
read_as_is (after_array_codec codec chain) elements shape slice width fit as_is takes some low wide long each = cc
read_as_is (then_bytes chain codec) elements shape slice width fit as_is takes some low wide long each = cc
read_as_is (sharded subchunk inner index location) elements shape slice width fit as_is takes some low wide long each = cc
