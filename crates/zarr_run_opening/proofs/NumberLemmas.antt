-- Numbers with a separator before each are read from a text.
use Rattle.std.proofs.Common.{◌≡◌, ◌∙◌, ℕ, zero, suc, ◌+◌, ◌*◌, ◌-◌, ◌/◌, ◌%◌, ◌^◌, ◌<◌, ◌≤◌, min, true, cond, ◌==◌, List, [], ◌∷◌, ◌++◌, drop, refl, ap, arith, append_assoc, length}
use Rattle.std.specs.Fmt.{decimal}
use Rattle.std.proofs.lemmas.Bool.{ne_eqb}
use Rattle.std.proofs.lemmas.Fmt.{decimal_by_steps}
use Rattle.zarr_grids_boxes.specs.Boxes.{IsSmall}
use Rattle.zarr_grids_keys.specs.Keys.{numbers_after}

-- a number with one digit more, as far as it is below 2^64
abbrev pub with_digit : ℕ → ℕ → ℕ
with_digit number byte = min (min (number * 10) (2 ^ 64 - 1) + (byte - 48)) (2 ^ 64 - 1)

-- what is read: the numbers that are done, the number that is being read, and the text that is left
abbrev pub read_on : ℕ → List ℕ → ℕ → List ℕ → List ℕ
read_on separator numbers number [] = numbers ++ number ∷ []
read_on separator numbers number (x ∷ xs) = cond (x == separator) (read_on separator (numbers ++ number ∷ []) 0 xs) (read_on separator numbers (with_digit number x) xs)

read_digit : (separator : ℕ) (numbers : List ℕ) (number x : ℕ) (xs : List ℕ) → separator < 48 → 48 ≤ x → read_on separator numbers number (x ∷ xs) ≡ read_on separator numbers (with_digit number x) xs
read_digit separator numbers number x xs low high = ap (λ b. cond b (read_on separator (numbers ++ number ∷ []) 0 xs) (read_on separator numbers (with_digit number x) xs)) (ne_eqb x separator (λ e. omega (arith, e, low, high)))

-- a number is read from its digits
abbrev pub IsRead : ℕ → ℕ → List ℕ → Type 0
IsRead separator n ds = n < 2 ^ 64 → (numbers rest : List ℕ) → read_on separator numbers 0 (ds ++ rest) ≡ read_on separator numbers n rest

read_one : (separator : ℕ) → separator < 48 → (n : ℕ) → n < 10 → IsRead separator n ((48 + n) ∷ [])
read_one separator low n h small numbers rest =
    read_digit separator numbers 0 (48 + n) rest low (omega arith) ∙ ap (λ m. read_on separator numbers m rest) (omega (arith, h))

read_more : (separator : ℕ) → separator < 48 → (n : ℕ) (ds : List ℕ) → 10 ≤ n → IsRead separator (n / 10) ds → IsRead separator n (ds ++ ((48 + n % 10) ∷ []))
read_more separator low n ds h before small numbers rest =
    ap (read_on separator numbers 0) (append_assoc ds ((48 + n % 10) ∷ []) rest)
    ∙ before (omega (arith, small)) numbers ((48 + n % 10) ∷ rest)
    ∙ read_digit separator numbers (n / 10) (48 + n % 10) rest low (omega arith)
    ∙ ap (λ m. read_on separator numbers m rest) (omega (arith, small, h))

read_decimal : (separator : ℕ) → separator < 48 → (n : ℕ) → n < 2 ^ 64 → (numbers rest : List ℕ) → read_on separator numbers 0 (decimal n ++ rest) ≡ read_on separator numbers n rest
read_decimal separator low n small = decimal_by_steps (IsRead separator) (read_one separator low) (read_more separator low) n small small

-- the numbers that are left are read
read_left : (separator : ℕ) → separator < 48 → (chunk numbers : List ℕ) (number : ℕ) → IsSmall chunk → read_on separator numbers number (numbers_after separator chunk) ≡ numbers ++ number ∷ chunk
read_left separator low [] numbers number small = refl
read_left separator low (n ∷ ns) numbers number small =
    ap (λ b. cond b (read_on separator (numbers ++ number ∷ []) 0 (decimal n ++ numbers_after separator ns)) (read_on separator numbers (with_digit number separator) (decimal n ++ numbers_after separator ns))) (same separator)
    ∙ read_decimal separator low n (small 0 (omega arith)) (numbers ++ number ∷ []) (numbers_after separator ns)
    ∙ read_left separator low ns (numbers ++ number ∷ []) n (λ k h. small (suc k) (omega (arith, h)))
    ∙ append_assoc numbers (number ∷ []) (n ∷ ns) where
      same : (x : ℕ) → (x == x) ≡ true
      same x = search (arith)

-- all numbers are read
pub read_all : (separator : ℕ) (text chunk : List ℕ) → separator < 48 → IsSmall chunk → separator ∷ text ≡ numbers_after separator chunk → read_on separator [] 0 text ≡ chunk
read_all separator text [] low small e = absurd (cc)
read_all separator text (n ∷ ns) low small e =
    let f : text ≡ decimal n ++ numbers_after separator ns = cc in
    ap (read_on separator [] 0) f ∙ read_decimal separator low n (small 0 (omega arith)) [] (numbers_after separator ns) ∙ read_left separator low ns [] n (λ k h. small (suc k) (omega (arith, h)))

-- at the end of a text
pub read_end : (separator : ℕ) (numbers : List ℕ) (number : ℕ) (text : List ℕ) (k : ℕ) → length text ≤ k → read_on separator numbers number (drop k text) ≡ numbers ++ number ∷ []
read_end separator numbers number text k h = ap (read_on separator numbers number) (drop_all k text h) where
  drop_all : (k : ℕ) (xs : List ℕ) → length xs ≤ k → drop k xs ≡ []
  drop_all zero [] h = refl
  drop_all (suc k) [] h = refl
  drop_all zero (x ∷ xs) h = absurd (omega arith)
  drop_all (suc k) (x ∷ xs) h = drop_all k xs (omega (arith, h))
