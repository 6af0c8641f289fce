-- Where the numbers below a list's length stand in it, found from its end.
use Rattle.std.proofs.Common.{rules, ◌≡◌, ◌∙◌, ℕ, zero, suc, ◌+◌, ◌-◌, ◌<◌, ◌≤◌, List, [], ◌∷◌, length, map, drop, set, get_or, replicate, Bool, true, false, ◌==◌, ◌&&◌, ◌||◌, not, nat_lt, if◌then◌else◌, ap, sym, refl, arith}
use Rattle.std.specs.List.{list_all, list_any, range_with_len}
use Rattle.std.proofs.lemmas.Bool.Decides.{Decides-eqb}
use Rattle.zarr_codecs_meaning.specs.Places.{position_of}

-- where numbers stand in what is left of a list, counted from its beginning
abbrev pub positions_from : ℕ → List ℕ → ℕ → List ℕ
positions_from left rest count = map (λ d. left + position_of d rest) (range_with_len 0 count)

position_first : (d m : ℕ) (rest : List ℕ) → (m == d) ≡ true → position_of d (m ∷ rest) ≡ 0
position_first d m rest is = ap (λ (b : Bool). if not b then 1 + position_of d rest else 0) is

position_later : (d m : ℕ) (rest : List ℕ) → (m == d) ≡ false → position_of d (m ∷ rest) ≡ suc (position_of d rest)
position_later d m rest is = let e : position_of d (m ∷ rest) ≡ 1 + position_of d rest = ap (λ (b : Bool). if not b then 1 + position_of d rest else 0) is in omega (arith, e)

equal : (m : ℕ) → (m == m) ≡ true
equal m = search rules

other : (m d : ℕ) → (m ≡ d → ⊥) → (m == d) ≡ false
other m d h = at (m == d) refl where
  at : (b : Bool) → (m == d) ≡ b → (m == d) ≡ false
  at true e = absurd (h ((Decides-eqb m d).0 e))
  at false e = e

-- one step back: of a number that comes before the rest all other numbers stay where they are
step_other : (left d m : ℕ) (rest : List ℕ) → (m ≡ d → ⊥) → suc left + position_of d rest ≡ left + position_of d (m ∷ rest)
step_other left d m rest h = let e = position_later d m rest (other m d h) in omega (arith, e)

step_first : (left m : ℕ) (rest : List ℕ) → left ≡ left + position_of m (m ∷ rest)
step_first left m rest = let e = position_first m m rest (equal m) in omega (arith, e)

unchanged : (left m : ℕ) (rest : List ℕ) (start count : ℕ) → ((d : ℕ) → start ≤ d → d < start + count → m ≡ d → ⊥)
    → map (λ d. suc left + position_of d rest) (range_with_len start count) ≡ map (λ d. left + position_of d (m ∷ rest)) (range_with_len start count)
unchanged left m rest start zero h = refl
unchanged left m rest start (suc count) h =
    let one : suc left + position_of start rest ≡ left + position_of start (m ∷ rest) = step_other left start m rest (h start (omega arith) (omega arith)) in
    let more = unchanged left m rest (start + 1) count (λ d low high. h d (omega (arith, low)) (omega (arith, high))) in
    ap (λ (p : ℕ × List ℕ). p.0 ∷ p.1) (λ i. (one i, more i))

changed : (left m : ℕ) (rest : List ℕ) (start count k : ℕ) → m ≡ start + k → k < count
    → set (map (λ d. suc left + position_of d rest) (range_with_len start count)) k left ≡ map (λ d. left + position_of d (m ∷ rest)) (range_with_len start count)
changed left m rest start zero k is below = absurd (omega (arith, below))
changed left m rest start (suc count) zero is below =
    let same : m ≡ start = omega (arith, is) in
    let one : left ≡ left + position_of start (m ∷ rest) = step_first left m rest ∙ ap (λ d. left + position_of d (m ∷ rest)) same in
    let more = unchanged left m rest (start + 1) count (λ d low high e. omega (arith, low, e, same)) in
    ap (λ (p : ℕ × List ℕ). p.0 ∷ p.1) (λ i. (one i, more i))
changed left m rest start (suc count) (suc k) is below =
    let one : suc left + position_of start rest ≡ left + position_of start (m ∷ rest) = step_other left start m rest (λ e. omega (arith, e, is)) in
    let more = changed left m rest (start + 1) count k (omega (arith, is)) (omega (arith, below)) in
    ap (λ (p : ℕ × List ℕ). p.0 ∷ p.1) (λ i. (one i, more i))

-- a number below the count that comes before the rest stands right there
pub positions_put : (left m : ℕ) (rest : List ℕ) (count : ℕ) → m < count → set (positions_from (suc left) rest count) m left ≡ positions_from left (m ∷ rest) count
positions_put left m rest count below = changed left m rest 0 count m (omega arith) below

-- any other changes nothing
pub positions_kept : (left m : ℕ) (rest : List ℕ) (count : ℕ) → count ≤ m → positions_from (suc left) rest count ≡ positions_from left (m ∷ rest) count
positions_kept left m rest count above = unchanged left m rest 0 count (λ d low high e. omega (arith, above, high, e))

-- where nothing is left, no number stands anywhere
pub positions_none : (left count start : ℕ) → replicate count left ≡ map (λ d. left + position_of d []) (range_with_len start count)
positions_none left zero start = refl
positions_none left (suc count) start =
    let one : left ≡ left + 0 = omega arith in
    let more = positions_none left count (start + 1) in
    ap (λ (p : ℕ × List ℕ). p.0 ∷ p.1) (λ i. (one i, more i))

-- ---- which numbers stand in a list

nat_less : (a b : ℕ) → nat_lt (suc a) (suc b) ≡ nat_lt a b
nat_less a b = search rules

stands : (d : ℕ) (numbers : List ℕ) → nat_lt (position_of d numbers) (length numbers) ≡ list_any (λ m. m == d) numbers
stands d [] = search rules
stands d (m ∷ numbers) = at (m == d) refl (stands d numbers) where
  at : (b : Bool) → (m == d) ≡ b → nat_lt (position_of d numbers) (length numbers) ≡ list_any (λ m. m == d) numbers
      → nat_lt (position_of d (m ∷ numbers)) (length (m ∷ numbers)) ≡ (b || list_any (λ m. m == d) numbers)
  at true e rest = let p = position_first d m numbers e in search (rules, p)
  at false e rest = let p = position_later d m numbers e in ap (λ n. nat_lt n (suc (length numbers))) p ∙ (nat_less (position_of d numbers) (length numbers) ∙ rest)

-- each number below a count stands in a list where its position is below the list's length
pub all_stand : (numbers : List ℕ) (start count : ℕ) → list_all (λ n. nat_lt n (length numbers)) (map (λ d. position_of d numbers) (range_with_len start count)) ≡ list_all (λ d. list_any (λ m. m == d) numbers) (range_with_len start count)
all_stand numbers start zero = refl
all_stand numbers start (suc count) =
    let one = stands start numbers in
    let more = all_stand numbers (start + 1) count in
    ap (λ (p : Bool × Bool). p.0 && p.1) (λ i. (one i, more i))
