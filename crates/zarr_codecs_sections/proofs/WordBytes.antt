-- Numbers as bytes, little endian.
use Rattle.std.proofs.Common.{◌≡◌, ℕ, zero, suc, ◌+◌, ◌-◌, ◌/◌, ◌%◌, ◌^◌, ◌<◌, ◌≤◌, List, [], ◌∷◌, ◌++◌, length, get_or, take, drop, flat_map, ap, ◌∙◌, sym, refl, arith, pow-suc, append_assoc, take-append-drop, length-take}
use Rattle.std.specs.Int.{to_le_bytes, from_le_bytes, bytes_low_first, w32, w64}
use Rattle.std.proofs.lemmas.List.{take_more, flat_map_more}
use Rattle.std.proofs.Math.Nat.{div-div-eq-div-mul}
use native.Mathlib.Nat.{pow-zero}
use Rattle.zarr_codecs_meaning.specs.Numbers.{digits, number, word}
use Rattle.zarr_codecs_meaning.specs.Payloads.{fixed_cells}
use Rattle.zarr_codecs_arrays.proofs.FixedCells.{fixed_cells-cons}
use Rattle.zarr_codecs_sections.specs.Outcomes.{offsets_read}

-- ---- written

next_byte : (n i : ℕ) → n / 256 ^ suc i ≡ n / 256 ^ i / 256
next_byte n i = ap (λ p. n / p) (pow-suc 256 i) ∙ sym (div-div-eq-div-mul n (256 ^ i) 256)

low_bytes : (i k n : ℕ) → bytes_low_first i k n ≡ digits 256 k (n / 256 ^ i)
low_bytes i zero n = refl
low_bytes zero (suc k) n =
    let one = pow-zero 256 in
    let same : n / 256 ^ 0 ≡ n = omega arith in
    let next : n / 256 ^ 1 ≡ n / 256 = refl in
    ap (λ ns. n % 256 ∷ ns) (low_bytes 1 k n ∙ ap (digits 256 k) next) ∙ ap (digits 256 (suc k)) (sym same)
low_bytes (suc i) (suc k) n = ap (λ ns. n / 256 ^ suc i % 256 ∷ ns) (low_bytes (suc (suc i)) k n ∙ ap (digits 256 k) (next_byte n (suc i)))

digits_take : (k m n : ℕ) → k ≤ m → take k (digits 256 m n) ≡ digits 256 k n
digits_take zero m n h = refl
digits_take (suc k) zero n h = absurd (omega arith)
digits_take (suc k) (suc m) n h = ap (λ ns. n % 256 ∷ ns) (digits_take k m (n / 256) (omega arith))

word_front : (count n : ℕ) → count ≤ 8 → take count (to_le_bytes w64 n) ≡ digits 256 count n
word_front count n h = ap (take count) (low_bytes 0 8 n ∙ ap (digits 256 8) (omega (arith, pow-zero 256))) ∙ digits_take count 8 n h

-- one offset more
pub offset_step : (count first i n : ℕ) (offsets before written after : List ℕ) → count ≤ 8 → i < length offsets → n ≡ get_or offsets i 0 - first → written ≡ take count (to_le_bytes w64 n) → before ≡ flat_map (λ n. digits 256 count (n - first)) (take i offsets) → after ≡ before ++ written
    → after ≡ flat_map (λ n. digits 256 count (n - first)) (take (i + 1) offsets)
offset_step count first i n offsets before written after few less is word so_far more =
    let f = λ (n : ℕ). digits 256 count (n - first) in
    let front : written ≡ f (get_or offsets i 0) = word ∙ (word_front count n few ∙ ap (digits 256 count) is) in
    more ∙ (ap (λ ns. ns ++ written) so_far ∙ (ap (λ ns. flat_map f (take i offsets) ++ ns) front
    ∙ (flat_map_more f [] (take i offsets) (get_or offsets i 0) ∙ ap (flat_map f) (sym (take_more offsets i 0 less)))))

-- ---- read

eight_bytes : (bs : List ℕ) → length bs ≡ 8 → from_le_bytes w64 bs ≡ number 256 bs
eight_bytes (a ∷ b ∷ c ∷ d ∷ e ∷ f ∷ g ∷ h ∷ []) is = omega arith
eight_bytes [] is = absurd (omega arith)
eight_bytes (a ∷ []) is = absurd (omega arith)
eight_bytes (a ∷ b ∷ []) is = absurd (omega arith)
eight_bytes (a ∷ b ∷ c ∷ []) is = absurd (omega arith)
eight_bytes (a ∷ b ∷ c ∷ d ∷ []) is = absurd (omega arith)
eight_bytes (a ∷ b ∷ c ∷ d ∷ e ∷ []) is = absurd (omega arith)
eight_bytes (a ∷ b ∷ c ∷ d ∷ e ∷ f ∷ []) is = absurd (omega arith)
eight_bytes (a ∷ b ∷ c ∷ d ∷ e ∷ f ∷ g ∷ []) is = absurd (omega arith)
eight_bytes (a ∷ b ∷ c ∷ d ∷ e ∷ f ∷ g ∷ h ∷ i ∷ rest) is = absurd (omega arith)

four_bytes : (bs : List ℕ) → length bs ≡ 4 → from_le_bytes w32 bs ≡ number 256 bs
four_bytes (a ∷ b ∷ c ∷ d ∷ []) is = omega arith
four_bytes [] is = absurd (omega arith)
four_bytes (a ∷ []) is = absurd (omega arith)
four_bytes (a ∷ b ∷ []) is = absurd (omega arith)
four_bytes (a ∷ b ∷ c ∷ []) is = absurd (omega arith)
four_bytes (a ∷ b ∷ c ∷ d ∷ e ∷ rest) is = absurd (omega arith)

-- an element is read after those before it
read_step : (width n : ℕ) (all before after rest element others : List ℕ) → 0 < width → element ≡ take width rest → others ≡ drop width rest → length element ≡ width → n ≡ number 256 element → after ≡ before ++ n ∷ []
    → all ≡ before ++ offsets_read (fixed_cells width rest) → all ≡ after ++ offsets_read (fixed_cells width others)
read_step width n all before after rest element others some one two long told more so_far =
    let parts : rest ≡ element ++ others = sym (take-append-drop width rest) ∙ (ap (λ ns. ns ++ drop width rest) (sym one) ∙ ap (λ ns. element ++ ns) (sym two)) in
    let cells = ap (fixed_cells width) parts ∙ fixed_cells-cons width element others some long in
    let next : offsets_read (fixed_cells width rest) ≡ n ∷ offsets_read (fixed_cells width others) = ap offsets_read cells ∙ ap (λ k. k ∷ offsets_read (fixed_cells width others)) (sym told) in
    so_far ∙ (ap (λ ns. before ++ ns) next ∙ (sym (append_assoc before (n ∷ []) (offsets_read (fixed_cells width others))) ∙ ap (λ ns. ns ++ offsets_read (fixed_cells width others)) (sym more)))

pub narrow_step : (n : ℕ) (all before after rest element others : List ℕ) → element ≡ take 4 rest → others ≡ drop 4 rest → length others + 4 ≡ length rest → n ≡ from_le_bytes w32 element → after ≡ before ++ n ∷ []
    → all ≡ before ++ offsets_read (fixed_cells 4 rest) → all ≡ after ++ offsets_read (fixed_cells 4 others)
narrow_step n all before after rest element others one two long told more so_far =
    let wide : length element ≡ 4 = ap length one ∙ (length-take 4 rest ∙ omega (arith, long)) in
    read_step 4 n all before after rest element others (omega arith) one two wide (told ∙ four_bytes element wide) more so_far

pub wide_step : (n : ℕ) (all before after rest element others : List ℕ) → element ≡ take 8 rest → others ≡ drop 8 rest → length others + 8 ≡ length rest → n ≡ from_le_bytes w64 element → after ≡ before ++ n ∷ []
    → all ≡ before ++ offsets_read (fixed_cells 8 rest) → all ≡ after ++ offsets_read (fixed_cells 8 others)
wide_step n all before after rest element others one two long told more so_far =
    let wide : length element ≡ 8 = ap length one ∙ (length-take 8 rest ∙ omega (arith, long)) in
    read_step 8 n all before after rest element others (omega arith) one two wide (told ∙ eight_bytes element wide) more so_far
