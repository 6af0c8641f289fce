-- Ranges of an interval of a value.
use Rattle.std.proofs.Common.{◌≡◌, ℕ, ◌+◌, ◌-◌, ◌≤◌, List, [], ◌∷◌, length, take, drop, map, ap, ◌∙◌, sym, refl, arith, Option, None, Some, Bool, true, false, ◌||◌, Result, Ok, Err, IsTrue, length-take, length-drop}
use Rattle.std.specs.Prelude.{OnOk, nat_lt}
use Rattle.std.specs.List.{flat_map, list_any}
use Rattle.std.proofs.lemmas.Bool.{false≢true, le-ltb, leb-true, ltb-false}
use Rattle.std.proofs.lemmas.List.{drop-drop, drop-take, take-take}
use Rattle.std.proofs.lemmas.List.Folds.{flat_map-map}
use Rattle.zarr_codecs_arrays.specs.declared.error.CodecError.{CodecError}
use Rattle.zarr_codecs_arrays.specs.declared.error.CodecError.TheVariants as error
use Rattle.zarr_codecs_traits.specs.Sources.{RangesRefused, any_past_end, bytes_at, concat_of, ends_past, has_range, interval_of, is_outside, moved_range, parts_of}
use Rattle.zarr_codecs_traits.specs.declared.byte_range.ByteRange.{ByteRange}

-- a part of an interval is a part of the whole
part_of_interval : (s n i m : ℕ) (xs : List ℕ) → i + m ≤ n → take m (drop (s + i) xs) ≡ take m (drop i (take n (drop s xs)))
part_of_interval s n i m xs h =
    let e : n ≡ i + (n - i) = omega arith in
    let fits : m ≤ n - i = omega arith in
    sym (ap (λ k. take m (drop i (take k (drop s xs)))) e ∙ (ap (take m) (drop-take i (n - i) (drop s xs)) ∙ (take-take m (n - i) (drop i (drop s xs)) fits ∙ ap (take m) (drop-drop i s xs))))

-- where no range of a list fails a test, the first one doesn't, and none of the others
none_first : (a b : Bool) → a || b ≡ false → (a ≡ false) × (b ≡ false)
none_first false b e = (refl, e)
none_first true b e = absurd (false≢true (sym e))

-- the bytes in ranges of an interval
interval_bytes : (value : List ℕ) (interval : ByteRange) (ranges : List ByteRange) → list_any (is_outside interval) ranges ≡ false → map (bytes_at value) (map (moved_range interval) ranges) ≡ map (bytes_at (bytes_at value interval)) ranges
interval_bytes value interval [] inside = refl
interval_bytes value interval (range ∷ ranges) inside =
    let both = none_first (is_outside interval range) (list_any (is_outside interval) ranges) inside in
    let ends : range.offset + range.length ≤ interval.length = ltb-false interval.length (range.offset + range.length) both.0 in
    ap (λ bytes. bytes ∷ map (bytes_at value) (map (moved_range interval) ranges)) (part_of_interval interval.offset interval.length range.offset range.length value ends)
    ∙ ap (λ parts. bytes_at (bytes_at value interval) range ∷ parts) (interval_bytes value interval ranges both.1)

pub interval_parts : (contents : Option (List ℕ)) (interval : ByteRange) (ranges : List ByteRange) → list_any (is_outside interval) ranges ≡ false → parts_of contents (map (moved_range interval) ranges) ≡ parts_of (interval_of contents interval) ranges
interval_parts None interval ranges inside = refl
interval_parts (Some value) interval ranges inside = ap Some (interval_bytes value interval ranges inside)

pub interval_concat : (contents : Option (List ℕ)) (interval : ByteRange) (ranges : List ByteRange) → list_any (is_outside interval) ranges ≡ false → concat_of contents (map (moved_range interval) ranges) ≡ concat_of (interval_of contents interval) ranges
interval_concat None interval ranges inside = refl
interval_concat (Some value) interval ranges inside =
    let part = λ (bytes : List ℕ). bytes in
    ap Some (sym (flat_map-map part (bytes_at value) (map (moved_range interval) ranges)) ∙ (ap (flat_map part) (interval_bytes value interval ranges inside) ∙ flat_map-map part (bytes_at (bytes_at value interval)) ranges))

-- ranges that lie in an interval of a value lie in the value
ranges_end : (value : List ℕ) (interval : ByteRange) (ranges : List ByteRange) → interval.offset + interval.length ≤ length value → list_any (is_outside interval) ranges ≡ false → list_any (ends_past value) (map (moved_range interval) ranges) ≡ false
ranges_end value interval [] within inside = refl
ranges_end value interval (range ∷ ranges) within inside =
    let both = none_first (is_outside interval range) (list_any (is_outside interval) ranges) inside in
    let ends : range.offset + range.length ≤ interval.length = ltb-false interval.length (range.offset + range.length) both.0 in
    let first : ends_past value (moved_range interval range) ≡ false = le-ltb (length value) ((interval.offset + range.offset) + range.length) (omega (arith, ends, within)) in
    ap (λ (b : Bool). b || list_any (ends_past value) (map (moved_range interval) ranges)) first ∙ ranges_end value interval ranges within both.1

pub inner_within : (contents : Option (List ℕ)) (interval : ByteRange) (ranges : List ByteRange) → IsTrue (has_range contents interval) → list_any (is_outside interval) ranges ≡ false → any_past_end contents (map (moved_range interval) ranges) ≡ false
inner_within None interval ranges has inside = refl
inner_within (Some value) interval ranges has inside = ranges_end value interval ranges (leb-true (interval.offset + interval.length) (length value) has) inside

-- an interval has as many bytes as its range
interval_long : (value : List ℕ) (interval : ByteRange) → interval.offset + interval.length ≤ length value → length (bytes_at value interval) ≡ interval.length
interval_long value interval within =
    let left = length-drop interval.offset value in
    let taken = length-take interval.length (drop interval.offset value) in
    omega (arith, left, taken, within)

pub within_interval : (contents : Option (List ℕ)) (interval : ByteRange) (ranges : List ByteRange) → IsTrue (has_range contents interval) → list_any (is_outside interval) ranges ≡ false → any_past_end (interval_of contents interval) ranges ≡ false
within_interval None interval ranges has inside = refl
within_interval (Some value) interval ranges has inside =
    let long = interval_long value interval (leb-true (interval.offset + interval.length) (length value) has) in
    ap (λ n. list_any (λ (range : ByteRange). nat_lt n (range.offset + range.length)) ranges) long ∙ inside

-- ranges that lie in both are refused of both alike
pub refused_alike : {A : Type 0} (inner outer : Option (List ℕ)) (moved ranges : List ByteRange) (result : Result A CodecError) → any_past_end inner moved ≡ false → RangesRefused inner moved result → RangesRefused outer ranges result
refused_alike inner outer moved ranges (Ok value) within refused = tt
refused_alike inner outer moved ranges (Err error.Damage) within past = absurd (false≢true (sym within ∙ past))
refused_alike inner outer moved ranges (Err error.Source) within refused = tt
refused_alike inner outer moved ranges (Err error.Memory) within refused = tt
refused_alike inner outer moved ranges (Err e) within refused = absurd refused

pub on_ok : {A E : Type 0} {P : Type 0} (result : Result A E) → P → OnOk result P
on_ok (Ok value) p = p
on_ok (Err e) p = tt
