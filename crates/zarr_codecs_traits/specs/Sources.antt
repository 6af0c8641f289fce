-- What sources of bytes answer.
use Rattle.std.specs.Prelude.{◌≡◌, ◌⊎◌, ◌≤◌, ℕ, ◌+◌, ◌-◌, ◌^◌, min, map, List, Vec, flat_map, Bool, Option, None, Some, option_map, length, take, drop, false, nat_lt, IsTrue, IfErr, Result, Ok, Err, nat_le, sum_by}
use Rattle.std.specs.List.{list_any}
use Rattle.std.specs.Option.{option_map_or}
use Rattle.std.specs.declared.alloc.Global.{Global}
use Rattle.zarr_codecs_meaning.specs.Payloads.{Payload}
use Rattle.zarr_codecs_arrays.specs.declared.error.CodecError.{CodecError}
use Rattle.zarr_codecs_arrays.specs.declared.error.CodecError.TheVariants as error
use Rattle.zarr_codecs_traits.specs.declared.byte_range.ByteRange.{ByteRange}
use Rattle.zarr_codecs_traits.specs.declared.memory_source.MemorySource.{MemorySource}
use denote.Ref.{Bor}

-- the bytes of a value in a range
abbrev pub bytes_at : List ℕ → ByteRange → List ℕ
bytes_at value range = take range.length (drop range.offset value)

-- the bytes in each of the ranges, or none where there is no value
abbrev pub parts_of : Option (List ℕ) → List ByteRange → Option (List (List ℕ))
parts_of contents ranges = option_map (λ value. map (bytes_at value) ranges) contents

-- the bytes of a value in each of the ranges, one after another
abbrev pub bytes_in_ranges : List ℕ → List ByteRange → List ℕ
bytes_in_ranges value ranges = flat_map (bytes_at value) ranges

-- the bytes in each of the ranges, one after another, or none where there is no value
abbrev pub concat_of : Option (List ℕ) → List ByteRange → Option (List ℕ)
concat_of contents ranges = option_map (λ value. bytes_in_ranges value ranges) contents

-- whether a range ends past the end of a value
abbrev pub ends_past : List ℕ → ByteRange → Bool
ends_past value range = nat_lt (length value) (range.offset + range.length)

-- whether one of the ranges ends past the end of the value, if there is one
abbrev pub any_past_end : Option (List ℕ) → List ByteRange → Bool
any_past_end None ranges = false
any_past_end (Some value) ranges = list_any (ends_past value) ranges

-- the bytes of each part
abbrev pub part_bytes : List (Vec ℕ Global) → List (List ℕ)
part_bytes parts = map (λ (part : Vec ℕ Global). part.items) parts

-- the bytes of each part that was given, if any were
abbrev pub part_lists : Option (Vec (Vec ℕ Global) Global) → Option (List (List ℕ))
part_lists found = option_map (λ (parts : Vec (Vec ℕ Global) Global). part_bytes parts.items) found

-- the count of refused calls after a call: one more where the source refused (a count stands still at 2^128 - 1)
abbrev pub refused_after : {A : Type 0} → ℕ → Result A CodecError → ℕ
refused_after count (Ok value) = count
refused_after count (Err error.Source) = min (count + 1) (2 ^ 128 - 1)
refused_after count (Err e) = count

-- whether the second is the count of refused calls after a read: as before where it is done, and one more where the source refused. Any other refusal may come after a call that was refused: of what was read before, the first that isn't decoded decides
abbrev pub CountsRead : {A : Type 0} → ℕ → Result A CodecError → ℕ → Type 0
CountsRead count (Ok value) after = after ≡ count
CountsRead count (Err error.Source) after = after ≡ min (count + 1) (2 ^ 128 - 1)
CountsRead count (Err e) after = (after ≡ count) ⊎ (after ≡ min (count + 1) (2 ^ 128 - 1))

-- whether the second is the count of refused calls after elements were to be read and put into a target: as a read counts them; or as it was, where elements were read that the target doesn't take
abbrev pub IsRefusedAfter : {A : Type 0} → (Payload → Type 0) → (Payload → CodecError → Type 0) → ℕ → Result A CodecError → ℕ → Type 0
IsRefusedAfter reads misfits count result after = CountsRead count result after ⊎ ((after ≡ count) × IfErr result (λ e. (payload : Payload) × reads payload × misfits payload e))

-- how many bytes the parts have together that were given, or 0 where there are none
abbrev pub parts_length : Option (Vec (Vec ℕ Global) Global) → ℕ
parts_length found = option_map_or (λ parts. sum_by length parts) (part_lists found) 0

-- the count of bytes given after ranges were asked for: as many more as were given, and none where the source refused (a count stands still at 2^128 - 1)
abbrev pub given_after : ℕ → Result (Option (Vec (Vec ℕ Global) Global)) CodecError → ℕ
given_after count (Ok found) = min (count + parts_length found) (2 ^ 128 - 1)
given_after count (Err e) = count

-- how many bytes a value has, or 0 where there is none
abbrev pub value_length : Option (List ℕ) → ℕ
value_length contents = option_map_or length contents 0

-- the bytes of a value, if there is one
abbrev pub value_bytes : Option (Vec ℕ Global) → Option (List ℕ)
value_bytes value = option_map (λ (bytes : Vec ℕ Global). bytes.items) value

-- whether the second is the count of bytes given after ranges were asked for in one piece: as many more as were given, and none where the call was refused; but where memory ran out, bytes may have been given before (a count stands still at 2^128 - 1)
abbrev pub IsGivenAfter : ℕ → Result (Option (Vec ℕ Global)) CodecError → ℕ → Type 0
IsGivenAfter count (Ok found) after = after ≡ min (count + value_length (value_bytes found)) (2 ^ 128 - 1)
IsGivenAfter count (Err error.Memory) after = min count (2 ^ 128 - 1) ≤ after
IsGivenAfter count (Err e) after = after ≡ count

-- why a source is not read: it refuses, or memory ran out
abbrev pub ReadRefused : {A : Type 0} → Result A CodecError → Type 0
ReadRefused (Ok value) = Unit {0}
ReadRefused (Err error.Source) = Unit {0}
ReadRefused (Err error.Memory) = Unit {0}
ReadRefused (Err e) = ⊥

-- why ranges are not read: one ends past the value's end, or the source is not read
abbrev pub RangesRefused : {A : Type 0} → Option (List ℕ) → List ByteRange → Result A CodecError → Type 0
RangesRefused contents ranges (Err error.Damage) = IsTrue (any_past_end contents ranges)
RangesRefused contents ranges result = ReadRefused result

-- whether there is a value, and a range lies in it
abbrev pub has_range : Option (List ℕ) → ByteRange → Bool
has_range None range = false
has_range (Some value) range = nat_le (range.offset + range.length) (length value)

-- an honest source holds a value that a range lies in
abbrev pub HoldsRange : Bool → Option (List ℕ) → ByteRange → Type 0
HoldsRange honest contents range = IsTrue honest → IsTrue (has_range contents range)

-- the bytes of a value in a range, as a value of their own, or none where there is no value
abbrev pub interval_of : Option (List ℕ) → ByteRange → Option (List ℕ)
interval_of contents range = option_map (λ value. bytes_at value range) contents

-- whether a range of an interval ends past the end of the interval
abbrev pub is_outside : ByteRange → ByteRange → Bool
is_outside interval range = nat_lt interval.length (range.offset + range.length)

-- a range of an interval, as a range of the whole value
abbrev pub moved_range : ByteRange → ByteRange → ByteRange
moved_range interval range = record { offset = interval.offset + range.offset; length = range.length }

-- the bytes of a value that is lent, if one is
abbrev pub value_lent : Option (Bor (List ℕ)) → Option (List ℕ)
value_lent None = None
value_lent (Some value) = Some value.now

-- ---- the source in memory

-- the value that a source in memory holds, if it holds one
abbrev pub source_contents : MemorySource → Option (List ℕ)
source_contents source = value_bytes source.value

-- how many writing calls a source in memory accepted
abbrev pub source_accepted : MemorySource → ℕ
source_accepted source = source.accepted

-- how many bytes a source in memory gave
abbrev pub source_given : MemorySource → ℕ
source_given source = source.given

-- how many bytes the value has that a source in memory holds, or 0 where it holds none
abbrev pub source_length : MemorySource → ℕ
source_length source = value_length (source_contents source)
