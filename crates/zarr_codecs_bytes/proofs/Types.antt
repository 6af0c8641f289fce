-- The components of data types.
use Rattle.std.proofs.Common.{◌≡◌, ◌≢◌, ℕ, ◌/◌, ◌%◌, ◌<◌, List, [], ◌∷◌, length, map, reverse, ap, ◌∙◌, sym, refl, arith, Some, Vec, Global}
use Rattle.std.specs.List.{flat_map}
use Rattle.std.specs.Simd.{first_chunks}
use Rattle.zarr_codecs_meaning.specs.Types.{Component, components, bytes_in, bool}
use Rattle.zarr_codecs_meaning.specs.Chains.Endianness.{big}
use Rattle.zarr_codecs_meaning.proofs.Lists.{Each}
use Rattle.zarr_codecs_types.specs.Views.{type_of}
use Rattle.zarr_codecs_types.specs.declared.data_type.DataType.{DataType, Bool, Int2, Int4, Int8, Int16, Int32, Int64, UInt2, UInt4, UInt8, UInt16, UInt32, UInt64, String, Bytes, Optional', Custom}
use Rattle.zarr_codecs_arrays.proofs.FixedCells.{whole_length}
use Rattle.zarr_codecs_bytes.specs.Orders.{all_ordered}
use Rattle.zarr_codecs_bytes.proofs.Orders.{Leaves, short_reversed, all_reversed}

-- one byte is the same the other way round
one_byte : Each (Leaves (Some big)) (components bool)
one_byte = (λ component long. short_reversed component (omega (arith, long)), tt)

-- the components of types that are no numbers of several bytes and no caller's types
pub stays : (t : DataType) → t ≢ Int16 → t ≢ Int32 → t ≢ Int64 → t ≢ UInt16 → t ≢ UInt32 → t ≢ UInt64 → ((parts : Vec _ Global) → t ≢ Custom parts) → Each (Leaves (Some big)) (components (type_of t))
stays Bool a b c d e f g = one_byte
stays Int2 a b c d e f g = one_byte
stays Int4 a b c d e f g = one_byte
stays Int8 a b c d e f g = one_byte
stays Int16 a b c d e f g = absurd (a refl)
stays Int32 a b c d e f g = absurd (b refl)
stays Int64 a b c d e f g = absurd (c refl)
stays UInt2 a b c d e f g = one_byte
stays UInt4 a b c d e f g = one_byte
stays UInt8 a b c d e f g = one_byte
stays UInt16 a b c d e f g = absurd (d refl)
stays UInt32 a b c d e f g = absurd (e refl)
stays UInt64 a b c d e f g = absurd (f refl)
stays String a b c d e f g = tt
stays Bytes a b c d e f g = tt
stays (Optional' p inner) a b c d e f g = tt
stays (Custom parts) a b c d e f g = absurd (g parts refl)

-- numbers of so many bytes, the other way round
pub numbers_swapped : (t : DataType) (c : Component) (value : List ℕ) → components (type_of t) ≡ c ∷ [] → 0 < bytes_in (components (type_of t)) → length value % bytes_in (components (type_of t)) ≡ 0
    → flat_map (λ ns. ns) (map reverse (first_chunks c.byte_count (length value / c.byte_count) value)) ≡ all_ordered (Some big) (components (type_of t)) value
numbers_swapped t c value is positive whole =
    let width : bytes_in (components (type_of t)) ≡ c.byte_count = ap bytes_in is ∙ omega arith in
    let exact : length value % c.byte_count ≡ 0 = ap (λ n. length value % n) (sym width) ∙ whole in
    all_reversed c.byte_count c (length value / c.byte_count) value refl (omega (arith, width, positive)) (whole_length c.byte_count value exact)
    ∙ ap (λ parts. all_ordered (Some big) parts value) (sym is)
