-- Bytes written one after another, at places of their own.
use Rattle.std.proofs.Common.{◌≡◌, ◌∙◌, ℕ, ◌+◌, ◌-◌, ◌≤◌, Bool, true, false, ◌||◌, List, [], ◌∷◌, ◌++◌, length, take, drop, refl, sym, ap, arith, append_assoc, length-append, length-drop, take-append-drop}
use Rattle.std.specs.List.{range_with_len, flat_map, list_any}
use Rattle.std.proofs.lemmas.Bool.{ltb-false}
use Rattle.std.proofs.lemmas.List.{append-nil, drop-drop, length-take-le}
use Rattle.std.proofs.lemmas.List.FromFn.{length-range_with_len}
use Rattle.zarr_grids_boxes.proofs.Places.{range_with_len-append}
use Rattle.zarr_grids_overlay.proofs.Blocks.{take_front, drop_front, drop_front_more}
use Rattle.zarr_codecs_traits.specs.Patches.{overwritten}
use Rattle.zarr_codecs_traits.specs.declared.byte_range.ByteRange.{ByteRange}
use Rattle.zarr_codecs_traits.specs.Sources.{bytes_in_ranges}
use Rattle.zarr_codecs_bytes.specs.Lines.{ends_after, total_length}

-- ---- bytes over others

pub length-overwritten : (value : List ℕ) (offset : ℕ) (bytes : List ℕ) → offset + length bytes ≤ length value → length (overwritten value offset bytes) ≡ length value
length-overwritten value offset bytes within =
    let front = take offset value in
    let back = drop (offset + length bytes) value in
    length-append (front ++ bytes) back ∙ omega (arith, length-append front bytes, length-take-le offset value (omega (arith, within)), length-drop (offset + length bytes) value, within)

-- bytes over others, and more right after them
pub overwritten_twice : (value : List ℕ) (offset : ℕ) (bytes more : List ℕ) → offset + length bytes ≤ length value
    → overwritten (overwritten value offset bytes) (offset + length bytes) more ≡ overwritten value offset (bytes ++ more)
overwritten_twice value offset bytes more within =
    let front = take offset value in
    let end = offset + length bytes in
    let back = drop end value in
    let long : length (front ++ bytes) ≡ end = length-append front bytes ∙ ap (λ n. n + length bytes) (length-take-le offset value (omega (arith, within))) in
    let far : end + length more ≡ offset + length (bytes ++ more) = omega (arith, length-append bytes more) in
    ap (λ ns. ns ++ more ++ drop (end + length more) (front ++ bytes ++ back)) (take_front (front ++ bytes) back end long)
    ∙ (ap (λ ns. front ++ bytes ++ more ++ ns) (drop_front_more (front ++ bytes) back end (length more) long ∙ (drop-drop (length more) end value ∙ ap (λ n. drop n value) far))
    ∙ ap (λ ns. ns ++ drop (offset + length (bytes ++ more)) value) (append_assoc front bytes more))

-- ---- one byte at each place

-- a value after one byte after another was put at a place of its own
abbrev pub scatter : List ℕ → List ℕ → List ℕ → List ℕ
scatter value [] bytes = value
scatter value (p ∷ ps) [] = value
scatter value (p ∷ ps) (b ∷ bytes) = scatter (overwritten value p (b ∷ [])) ps bytes

pub scatter_range : (value : List ℕ) (offset : ℕ) (bytes : List ℕ) → offset + length bytes ≤ length value → scatter value (range_with_len offset (length bytes)) bytes ≡ overwritten value offset bytes
scatter_range value offset [] within =
    let start : offset + 0 ≡ offset = omega arith in
    sym (ap (λ ns. ns ++ drop (offset + 0) value) (append-nil (take offset value)) ∙ (ap (λ n. take offset value ++ drop n value) start ∙ take-append-drop offset value))
scatter_range value offset (b ∷ bytes) within =
    let once = length-overwritten value offset (b ∷ []) (omega (arith, within)) in
    scatter_range (overwritten value offset (b ∷ [])) (offset + 1) bytes (omega (arith, within, once)) ∙ overwritten_twice value offset (b ∷ []) bytes (omega (arith, within))

pub scatter_append : (value ps qs bytes more : List ℕ) → length ps ≡ length bytes → scatter value (ps ++ qs) (bytes ++ more) ≡ scatter (scatter value ps bytes) qs more
scatter_append value [] qs [] more same = refl
scatter_append value [] qs (b ∷ bytes) more same = absurd (omega arith)
scatter_append value (p ∷ ps) qs [] more same = absurd (omega arith)
scatter_append value (p ∷ ps) qs (b ∷ bytes) more same = scatter_append (overwritten value p (b ∷ [])) ps qs bytes more (omega arith)

-- ---- the bytes of ranges

-- a value after the bytes in ranges were replaced, in their order
abbrev pub replaced : List ℕ → List ByteRange → List ℕ → List ℕ
replaced value [] bytes = value
replaced value (range ∷ ranges) bytes = replaced (overwritten value range.offset (take range.length bytes)) ranges (drop range.length bytes)

-- the place of each byte of ranges
abbrev pub positions : List ByteRange → List ℕ
positions ranges = flat_map (λ (range : ByteRange). range_with_len range.offset range.length) ranges

pub length-positions : (ranges : List ByteRange) → length (positions ranges) ≡ total_length ranges
length-positions [] = refl
length-positions (range ∷ ranges) = length-append (range_with_len range.offset range.length) (positions ranges) ∙ omega (arith, length-range_with_len range.offset range.length, length-positions ranges)

pub neither : (a b : Bool) → (a || b) ≡ false → (a ≡ false) × (b ≡ false)
neither true b h = cc
neither false b h = (refl, h)

pub replaced_scatter : (size : ℕ) (value : List ℕ) (ranges : List ByteRange) (bytes : List ℕ) → length value ≡ size → list_any (ends_after size) ranges ≡ false → length bytes ≡ total_length ranges
    → replaced value ranges bytes ≡ scatter value (positions ranges) bytes
replaced_scatter size value [] bytes long within total = refl
replaced_scatter size value (range ∷ ranges) bytes long within total =
    let front = take range.length bytes in
    let back = drop range.length bytes in
    let apart = neither (ends_after size range) (list_any (ends_after size) ranges) within in
    let end = ltb-false size (range.offset + range.length) apart.0 in
    let enough : length front ≡ range.length = length-take-le range.length bytes (omega (arith, total)) in
    let rest : length back ≡ total_length ranges = length-drop range.length bytes ∙ omega (arith, total) in
    let inside : range.offset + length front ≤ length value = omega (arith, end, enough, long) in
    let here : scatter value (range_with_len range.offset range.length) front ≡ overwritten value range.offset front = ap (λ n. scatter value (range_with_len range.offset n) front) (sym enough) ∙ scatter_range value range.offset front inside in
    let same : length (range_with_len range.offset range.length) ≡ length front = length-range_with_len range.offset range.length ∙ sym enough in
    replaced_scatter size (overwritten value range.offset front) ranges back (length-overwritten value range.offset front inside ∙ long) apart.1 rest
    ∙ sym (ap (scatter value (positions (range ∷ ranges))) (sym (take-append-drop range.length bytes))
    ∙ (scatter_append value (range_with_len range.offset range.length) (positions ranges) front back same
    ∙ ap (λ ns. scatter ns (positions ranges) back) here))

-- ---- the places as bytes themselves

pub taken_range : (a n offset count : ℕ) → offset + count ≤ n → take count (drop offset (range_with_len a n)) ≡ range_with_len (a + offset) count
taken_range a n offset count within =
    let parts : n ≡ offset + (count + (n - (offset + count))) = omega arith in
    let back = range_with_len (a + offset) (count + (n - (offset + count))) in
    ap (λ k. take count (drop offset (range_with_len a k))) parts
    ∙ (ap (λ ns. take count (drop offset ns)) (range_with_len-append a offset (count + (n - (offset + count))))
    ∙ (ap (take count) (drop_front (range_with_len a offset) back offset (length-range_with_len a offset) ∙ range_with_len-append (a + offset) count (n - (offset + count)))
    ∙ take_front (range_with_len (a + offset) count) (range_with_len (a + offset + count) (n - (offset + count))) count (length-range_with_len (a + offset) count)))

-- of the value whose bytes are their own places, ranges have the places of their bytes
pub positions_read : (size : ℕ) (ranges : List ByteRange) → list_any (ends_after size) ranges ≡ false → bytes_in_ranges (range_with_len 0 size) ranges ≡ positions ranges
positions_read size [] within = refl
positions_read size (range ∷ ranges) within =
    let apart = neither (ends_after size range) (list_any (ends_after size) ranges) within in
    let end = ltb-false size (range.offset + range.length) apart.0 in
    let start : 0 + range.offset ≡ range.offset = omega arith in
    ap (λ ns. ns ++ bytes_in_ranges (range_with_len 0 size) ranges) (taken_range 0 size range.offset range.length (omega (arith, end)) ∙ ap (λ k. range_with_len k range.length) start)
    ∙ ap (λ ns. range_with_len range.offset range.length ++ ns) (positions_read size ranges apart.1)
