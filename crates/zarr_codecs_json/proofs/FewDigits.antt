-- Numbers of few digits.
use Rattle.std.proofs.Common.{◌≡◌, ℕ, ◌+◌, ◌/◌, ◌%◌, ◌<◌, ◌≤◌, List, [], ◌∷◌, ◌++◌, refl, ap, sym, ◌∙◌, append_assoc, decimal, arith}
use Rattle.std.proofs.lemmas.Fmt.{decimal_digit, decimal_step}

-- the last digit of a number
abbrev pub digit : ℕ → ℕ
digit n = 48 + n % 10

pub one_digit : (n a : ℕ) → a ≡ digit n → n < 10 → a ∷ [] ≡ decimal n
one_digit n a is low =
    let e : a ≡ 48 + n = omega (arith, is, low) in
    ap (λ d. d ∷ []) e ∙ sym (decimal_digit n low)

-- one digit more
more : (n a : ℕ) (front : List ℕ) → a ≡ digit n → 10 ≤ n → n < 100000 → front ≡ decimal (n / 10) → front ++ a ∷ [] ≡ decimal n
more n a front is low high before = ap (λ d. front ++ d ∷ []) is ∙ (ap (λ ns. ns ++ digit n ∷ []) before ∙ sym (decimal_step n low (omega (arith, high))))

pub two_digits : (n a b : ℕ) → a ≡ digit (n / 10) → b ≡ digit n → 10 ≤ n → n < 100 → a ∷ b ∷ [] ≡ decimal n
two_digits n a b e f low high = more n b (a ∷ []) f low (omega (arith, high)) (one_digit (n / 10) a e (omega (arith, high)))

pub three_digits : (n a b c : ℕ) → a ≡ digit (n / 10 / 10) → b ≡ digit (n / 10) → c ≡ digit n → 100 ≤ n → n < 1000 → a ∷ b ∷ c ∷ [] ≡ decimal n
three_digits n a b c e f g low high = more n c (a ∷ b ∷ []) g (omega (arith, low)) (omega (arith, high)) (two_digits (n / 10) a b e f (omega (arith, low)) (omega (arith, high)))

pub four_digits : (n a b c d : ℕ) → a ≡ digit (n / 10 / 10 / 10) → b ≡ digit (n / 10 / 10) → c ≡ digit (n / 10) → d ≡ digit n → 1000 ≤ n → n < 10000 → a ∷ b ∷ c ∷ d ∷ [] ≡ decimal n
four_digits n a b c d e f g h low high = more n d (a ∷ b ∷ c ∷ []) h (omega (arith, low)) (omega (arith, high)) (three_digits (n / 10) a b c e f g (omega (arith, low)) (omega (arith, high)))

pub five_digits : (n a b c d x : ℕ) → a ≡ digit (n / 10 / 10 / 10 / 10) → b ≡ digit (n / 10 / 10 / 10) → c ≡ digit (n / 10 / 10) → d ≡ digit (n / 10) → x ≡ digit n → 10000 ≤ n → n < 100000 → a ∷ b ∷ c ∷ d ∷ x ∷ [] ≡ decimal n
five_digits n a b c d x e f g h i low high = more n x (a ∷ b ∷ c ∷ d ∷ []) i (omega (arith, low)) high (four_digits (n / 10) a b c d e f g h (omega (arith, low)) (omega (arith, high)))

-- ---- digits put after a text

pub only_digit : (n a : ℕ) (before text : List ℕ) → a ≡ digit n → n < 10 → text ≡ before ++ a ∷ [] → text ≡ before ++ decimal n
only_digit n a before text is low grew = grew ∙ ap (λ ds. before ++ ds) (one_digit n a is low)

pub last_digit : (n a : ℕ) (before front text : List ℕ) → a ≡ digit n → 10 ≤ n → n < 100000 → front ≡ before ++ decimal (n / 10) → text ≡ front ++ a ∷ [] → text ≡ before ++ decimal n
last_digit n a before front text is low high begun grew =
    grew ∙ (ap (λ ds. ds ++ a ∷ []) begun ∙ (append_assoc before (decimal (n / 10)) (a ∷ []) ∙ ap (λ ds. before ++ ds) (more n a (decimal (n / 10)) is low high refl)))
