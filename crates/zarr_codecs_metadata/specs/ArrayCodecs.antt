-- The metadata of array to array codecs (Zarr core specification, "Transpose codec"; `reshape` and `squeeze` are this project's profile).
use Rattle.std.specs.Prelude.{ℕ, ℤ, negsuc, List, [], ◌∷◌, length, codes, bytes_eq, Bool, true, false, ◌||◌, ◌&&◌, nat_le, not, ◌==◌, if◌then◌else◌, Option, Some, None, option_map, option_and_then}
use Rattle.std.specs.List.{list_any, filter}
use Rattle.std.specs.Ordering.{int_eq}
use Rattle.serde_json.specs.Data.{Data, null, boolean, number, string, array, object, Num, Items, no_items, item, Members}
use Rattle.serde_json.specs.Find.{get_member, as_number, as_u64, as_i64, as_array}
use Rattle.zarr_grids_metadata.specs.ExtensionPoints.{ExtensionPoint, configuration_members}
use Rattle.zarr_grids_metadata.specs.Members.{has_only}
use Rattle.zarr_codecs_meaning.specs.Chains.{ArrayCodec, ShapeEntry}
use Rattle.zarr_codecs_meaning.specs.Chains.ArrayCodec.{transpose, reshape, squeeze}
use Rattle.zarr_codecs_meaning.specs.Chains.ShapeEntry.{size_entry, product_entry, left_over}
use Rattle.zarr_codecs_meaning.specs.Fits.{is_permutation}

-- the whole number from 0 to 2^64 - 1 that a JSON value is
abbrev pub natural_in : Data → Option ℕ
natural_in d = option_and_then as_u64 (as_number d)

-- the whole numbers that a JSON list says, where each of its values is one
abbrev pub naturals_of : Items → Option (List ℕ)
naturals_of no_items = Some []
naturals_of (item d ds) = option_and_then (λ n. option_map (λ ns. n ∷ ns) (naturals_of ds)) (natural_in d)

-- the member of this name, where a configuration has no other
abbrev pub only_member : List ℕ → Members → Option Data
only_member name ms = if has_only (name ∷ []) ms then get_member name ms else None

-- an order of dimensions, where it names each dimension below its length
abbrev pub permutation : List ℕ → Option (List ℕ)
permutation order = if is_permutation order then Some order else None

-- `transpose` with the order that its configuration gives
abbrev pub transpose_of : Members → Option ArrayCodec
transpose_of ms = option_map transpose (option_and_then permutation (option_and_then naturals_of (option_and_then as_array (only_member (codes "order") ms))))

-- whether an integer, where there is one, is -1
abbrev pub is_minus_one : Option ℤ → Bool
is_minus_one None = false
is_minus_one (Some z) = int_eq z (negsuc 0)

-- the entry of a new shape that a JSON number is: a size, or -1 for what is left over
abbrev pub entry_of_number : Num → Option ShapeEntry
entry_of_number n = elim (as_u64 n) [ None ↦ if is_minus_one (as_i64 n) then Some left_over else None | Some size ↦ Some (size_entry size) ]

-- the entry of a new shape that a JSON value is: a number, or a list of dimensions
abbrev pub entry_in : Data → Option ShapeEntry
entry_in null = None
entry_in (boolean b) = None
entry_in (number n) = entry_of_number n
entry_in (string s) = None
entry_in (array ds) = option_map product_entry (naturals_of ds)
entry_in (object ms) = None

-- the entries of a new shape that a JSON list says, where each of its values is one
abbrev pub entries_of : Items → Option (List ShapeEntry)
entries_of no_items = Some []
entries_of (item d ds) = option_and_then (λ entry. option_map (λ entries. entry ∷ entries) (entries_of ds)) (entry_in d)

-- whether an entry is a size of 0
abbrev pub is_zero_size : ShapeEntry → Bool
is_zero_size (size_entry size) = size == 0
is_zero_size (product_entry dimensions) = false
is_zero_size left_over = false

-- whether an entry stands for what is left over
abbrev pub is_left_over : ShapeEntry → Bool
is_left_over (size_entry size) = false
is_left_over (product_entry dimensions) = false
is_left_over left_over = true

-- whether entries are those of a new shape: no size is 0, and at most one entry is left over
abbrev pub is_new_shape : List ShapeEntry → Bool
is_new_shape entries = not (list_any is_zero_size entries) && nat_le (length (filter is_left_over entries)) 1

-- entries, where they are those of a new shape
abbrev pub new_shape : List ShapeEntry → Option (List ShapeEntry)
new_shape entries = if is_new_shape entries then Some entries else None

-- `reshape` with the shape that its configuration gives
abbrev pub reshape_of : Members → Option ArrayCodec
reshape_of ms = option_map reshape (option_and_then new_shape (option_and_then entries_of (option_and_then as_array (only_member (codes "shape") ms))))

-- `squeeze`, whose configuration is empty
abbrev pub squeeze_of : Members → Option ArrayCodec
squeeze_of ms = if has_only [] ms then Some squeeze else None

-- whether a name is that of `squeeze`
abbrev pub names_squeeze : List ℕ → Bool
names_squeeze name = bytes_eq name (codes "squeeze") || bytes_eq name (codes "zarrs.squeeze")

-- the array to array codec that an extension point is
abbrev pub array_codec_in : ExtensionPoint → Option ArrayCodec
array_codec_in point =
    if bytes_eq point.name (codes "transpose") then transpose_of (configuration_members point.configuration)
    else (if bytes_eq point.name (codes "reshape") then reshape_of (configuration_members point.configuration)
    else (if names_squeeze point.name then squeeze_of (configuration_members point.configuration) else None))
