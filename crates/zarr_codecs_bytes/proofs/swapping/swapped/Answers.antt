use Rattle.std.proofs.Common.{◌≡◌, ◌⊎◌, ◌<◌, ◌*◌, ◌/◌, ◌%◌, ℕ, List, refl, sym, ap, ◌∙◌, inl, inr, Some, [], ◌∷◌, length, map, reverse, Vec, Global, Result, IfOk}
use Rattle.std.specs.List.{flat_map}
use Rattle.std.specs.Simd.{first_chunks}
use Rattle.std.specs.declared.alloc.AllocError.{AllocError}
use Rattle.std.proofs.lemmas.Result.{IfOk-weaker}
use Rattle.zarr_codecs_meaning.specs.Chains.Endianness.{big}
use Rattle.zarr_codecs_meaning.specs.Types.{components, bytes_in, Component, Sign, signed, unsigned}
use Rattle.zarr_codecs_types.specs.Views.{type_of}
use Rattle.zarr_codecs_types.specs.declared.data_type.DataType.{DataType, Int16, Int32, Int64, UInt16, UInt32, UInt64}
use Rattle.zarr_codecs_arrays.proofs.FixedCells.{whole_length}
use Rattle.zarr_codecs_bytes.specs.Orders.{all_ordered}
use Rattle.zarr_codecs_bytes.proofs.Orders.{all_ordered_same}
use Rattle.zarr_codecs_bytes.proofs.Types.{stays, numbers_swapped}
use Rattle.zarr_codecs_bytes.proofs.swapping.swapped.Goals as goal

swapped_as : (t : DataType) (c : Component) (value given : List ℕ) (r : Result (Vec ℕ Global) AllocError) → components (type_of t) ≡ c ∷ [] → 0 < bytes_in (components (type_of t)) → length value % bytes_in (components (type_of t)) ≡ 0 → given ≡ value
    → IfOk r (λ v. v.items ≡ flat_map (λ ns. ns) (map reverse (first_chunks c.byte_count (length given / c.byte_count) given))) → IfOk r (λ v. v.items ≡ all_ordered (Some big) (components (type_of t)) value)
swapped_as t c value given r is positive whole same =
    IfOk-weaker r _ _ (λ v h. h ∙ (ap (λ ns. flat_map (λ (ms : List ℕ). ms) (map reverse (first_chunks c.byte_count (length ns / c.byte_count) ns))) same ∙ numbers_swapped t c value is positive whole))

abbrev word : ℕ → Sign → Component
word bytes sign = record { width = 8 * bytes; byte_count = bytes; sign = sign }

either : (t a b : DataType) (p q : Sign) (size : ℕ) → components (type_of a) ≡ word size p ∷ [] → components (type_of b) ≡ word size q ∷ [] → (t ≡ a) ⊎ (t ≡ b) → (sign : Sign) × (components (type_of t) ≡ word size sign ∷ [])
either t a b p q size one other (inl e) = (p, ap (λ (x : DataType). components (type_of x)) e ∙ one)
either t a b p q size one other (inr e) = (q, ap (λ (x : DataType). components (type_of x)) e ∙ other)

pub returns-in_default : goal.returns-in_default
returns-in_default c =
    let d = c.in_default in
    let parts = components (type_of c.args.data_type.now) in
    sym (all_ordered_same (Some big) parts _ c.args.bytes.items (stays c.args.data_type.now d.not-Int16 d.not-Int32 d.not-Int64 d.not-UInt16 d.not-UInt32 d.not-UInt64 d.not-Custom)
    c.requires.positive (whole_length (bytes_in parts) c.args.bytes.items c.requires.whole))

pub returns-in-Int16 : goal.returns-in-Int16
returns-in-Int16 c =
    let is = either c.args.data_type.now Int16 UInt16 signed unsigned 2 refl refl c.in-Int16.is in
    swapped_as c.args.data_type.now (word 2 is.0) c.args.bytes.items c.as_slice-in-Int16.result.now c.swapped_numbers-in-Int16.result is.1 c.requires.positive c.requires.whole c.as_slice-in-Int16.ensures.value c.swapped_numbers-in-Int16.ensures

pub returns-in-Int32 : goal.returns-in-Int32
returns-in-Int32 c =
    let is = either c.args.data_type.now Int32 UInt32 signed unsigned 4 refl refl c.in-Int32.is in
    swapped_as c.args.data_type.now (word 4 is.0) c.args.bytes.items c.as_slice-in-Int32.result.now c.swapped_numbers-in-Int32.result is.1 c.requires.positive c.requires.whole c.as_slice-in-Int32.ensures.value c.swapped_numbers-in-Int32.ensures

pub returns-in-Int64 : goal.returns-in-Int64
returns-in-Int64 c =
    let is = either c.args.data_type.now Int64 UInt64 signed unsigned 8 refl refl c.in-Int64.is in
    swapped_as c.args.data_type.now (word 8 is.0) c.args.bytes.items c.as_slice-in-Int64.result.now c.swapped_numbers.result is.1 c.requires.positive c.requires.whole c.as_slice-in-Int64.ensures.value c.swapped_numbers.ensures
