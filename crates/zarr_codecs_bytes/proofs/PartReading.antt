-- The bytes of a part, read in ranges.
use Rattle.std.proofs.Common.{◌≡◌, ◌∙◌, ℕ, List, length, ap, sym, refl, Option, None, Some, option_map, false, Err, Vec, Global, Ok, Result, ◌+◌}
use Rattle.std.specs.Prelude.{nat_lt}
use Rattle.std.specs.List.{list_any}
use Rattle.std.proofs.lemmas.Bool.{false≢true}
use Rattle.zarr_codecs_meaning.specs.Chains.{Chain}
use Rattle.zarr_codecs_meaning.specs.Types.{Elements}
use Rattle.zarr_codecs_meaning.proofs.Lists.{some_same}
use Rattle.zarr_codecs_arrays.specs.declared.error.CodecError.{CodecError}
use Rattle.zarr_codecs_arrays.specs.declared.error.CodecError.TheVariants as error
use Rattle.zarr_codecs_traits.specs.Indexers.{Asked}
use Rattle.zarr_codecs_traits.specs.Arrays.{coded}
use Rattle.zarr_codecs_traits.specs.Outcomes.{DecodesPart}
use Rattle.zarr_codecs_traits.specs.Sources.{RangesRefused, ReadRefused, any_past_end, ends_past}
use Rattle.zarr_codecs_traits.specs.declared.byte_range.ByteRange.{ByteRange}
use Rattle.zarr_codecs_bytes.specs.Lines.{ends_after}

-- a source that has a size has a value of as many bytes
pub sized_value : (contents : Option (List ℕ)) (size : ℕ) → Some size ≡ option_map (λ (ns : List ℕ). length ns) contents → (value : List ℕ) × (contents ≡ Some value) × (length value ≡ size)
sized_value None size h = cc
sized_value (Some value) size h = (value, refl, some_same (sym h))

-- ranges that lie in the value are refused only by the source, or for want of memory
pub ranges_refused : {A : Type 0} (contents : Option (List ℕ)) (value : List ℕ) (ranges : List ByteRange) (result : Result A CodecError) → contents ≡ Some value → list_any (ends_past value) ranges ≡ false → RangesRefused contents ranges result → ReadRefused result
ranges_refused contents value ranges (Ok found) is within refused = tt
ranges_refused contents value ranges (Err error.Damage) is within past = absurd (false≢true (sym (ap (λ (stored : Option (List ℕ)). any_past_end stored ranges) is ∙ within) ∙ past))
ranges_refused contents value ranges (Err error.Source) is within refused = tt
ranges_refused contents value ranges (Err error.Memory) is within refused = tt
ranges_refused contents value ranges (Err e) is within refused = absurd refused

-- a part that is not read is not decoded
pub part_unread : (chain : Chain) (elements : Elements) (shape : List ℕ) (stored : Option (List ℕ)) (asked : Asked) (e : CodecError) → ReadRefused {A = Option (Vec ℕ Global)} (Err e) → DecodesPart (coded chain elements shape) stored asked (Err e)
part_unread chain elements shape stored asked error.Source refused = tt
part_unread chain elements shape stored asked error.Memory refused = tt
part_unread chain elements shape stored asked e refused = absurd refused

-- ranges that end in a value of so many bytes
pub ranges_within : (value : List ℕ) (size : ℕ) (ranges given : List ByteRange) → length value ≡ size → given ≡ ranges → list_any (ends_after size) ranges ≡ false → list_any (ends_past value) given ≡ false
ranges_within value size ranges given long same within = ap (list_any (ends_past value)) same ∙ (ap (λ n. list_any (λ (range : ByteRange). nat_lt n (range.offset + range.length)) ranges) long ∙ within)
