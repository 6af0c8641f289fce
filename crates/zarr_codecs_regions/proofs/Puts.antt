-- Elements that are put at some places of an array.
use Rattle.std.proofs.Common.{◌≡◌, ◌∙◌, ℕ, zero, suc, ◌+◌, ◌-◌, ◌<◌, ◌≤◌, Bool, true, ◌&&◌, List, [], ◌∷◌, ◌++◌, length, map, get_or, set, drop, refl, sym, ap, arith, length-append}
use Rattle.std.specs.Prelude.{nat_lt}
use Rattle.std.specs.List.{range_with_len}
use Rattle.std.proofs.Math.ListN.{get_or-append}
use Rattle.std.proofs.lemmas.Bool.{and_parts, ltb-true, lt-ltb}
use Rattle.std.proofs.lemmas.List.{drop_more, map-set, get_or-append-add}
use Rattle.zarr_codecs_meaning.specs.Types.{Cell}
use Rattle.zarr_codecs_meaning.specs.Places.{gather}
use Rattle.zarr_codecs_regions.specs.Updates.{put}
use Rattle.zarr_codecs_regions.proofs.Gathers.{are_below}

-- ---- numbers that are put

-- one number more
pub put_more : (numbers sources : List ℕ) (next i : ℕ) (whole : List ℕ) → i < length numbers → put (drop i numbers) (range_with_len next (length numbers - i)) sources ≡ whole
    → put (drop (i + 1) numbers) (range_with_len (next + 1) (length numbers - (i + 1))) (set sources (get_or numbers i 0) next) ≡ whole
put_more numbers sources next i whole less h =
    let left : length numbers - i ≡ suc (length numbers - (i + 1)) = omega (arith, less) in
    sym (ap (λ ns. put ns (range_with_len next (suc (length numbers - (i + 1)))) sources) (drop_more numbers i 0 less))
    ∙ (sym (ap (λ n. put (drop i numbers) (range_with_len next n) sources) left) ∙ h)

-- a number in the list is below the count
pub number_below : (count : ℕ) (numbers : List ℕ) (i : ℕ) → are_below count numbers ≡ true → i < length numbers → get_or numbers i 0 < count
number_below count [] i all less = absurd (omega (arith, less))
number_below count (n ∷ numbers) zero all less = ltb-true n count (and_parts (nat_lt n count) (are_below count numbers) all).0
number_below count (n ∷ numbers) (suc i) all less = number_below count numbers i (and_parts (nat_lt n count) (are_below count numbers) all).1 (omega (arith, less))

pub range_below : (count a n : ℕ) → a + n ≤ count → are_below count (range_with_len a n) ≡ true
range_below count a zero most = refl
range_below count a (suc n) most =
    ap (λ (b : Bool). b && are_below count (range_with_len (a + 1) n)) (lt-ltb a count (omega (arith, most))) ∙ range_below count (a + 1) n (omega (arith, most))

set_below : (count : ℕ) (xs : List ℕ) (i x : ℕ) → are_below count xs ≡ true → nat_lt x count ≡ true → are_below count (set xs i x) ≡ true
set_below count [] i x all is = refl
set_below count (y ∷ xs) zero x all is =
    ap (λ (b : Bool). b && are_below count xs) is ∙ (and_parts (nat_lt y count) (are_below count xs) all).1
set_below count (y ∷ xs) (suc i) x all is =
    let both = and_parts (nat_lt y count) (are_below count xs) all in
    ap (λ (b : Bool). b && are_below count (set xs i x)) both.0 ∙ set_below count xs i x both.1 is

put_below : (count : ℕ) (ns xs ys : List ℕ) → are_below count xs ≡ true → are_below count ys ≡ true → are_below count (put ns xs ys) ≡ true
put_below count [] xs ys new old = old
put_below count (n ∷ ns) [] ys new old = old
put_below count (n ∷ ns) (x ∷ xs) ys new old =
    let both = and_parts (nat_lt x count) (are_below count xs) new in
    put_below count ns xs (set ys n x) both.1 (set_below count ys n x old both.0)

-- ---- the elements with these numbers

pub map_put : {X Y : Type 0} (f : X → Y) (ns : List ℕ) (xs ys : List X) → map f (put ns xs ys) ≡ put ns (map f xs) (map f ys)
map_put f [] xs ys = refl
map_put f (n ∷ ns) [] ys = refl
map_put f (n ∷ ns) (x ∷ xs) ys = map_put f ns xs (set ys n x) ∙ ap (put ns (map f xs)) (map-set f ys n x)

pub read_part : (whole part : List Cell) (other : Cell) (a : ℕ) → ((i : ℕ) → i < length part → get_or whole (a + i) other ≡ get_or part i other) → gather other whole (range_with_len a (length part)) ≡ part
read_part whole [] other a law = refl
read_part whole (c ∷ part) other a law =
    let first : a ≡ a + 0 = omega arith in
    ap (λ d. d ∷ gather other whole (range_with_len (a + 1) (length part))) (ap (λ n. get_or whole n other) first ∙ law 0 (omega arith))
    ∙ ap (λ cs. c ∷ cs) (read_part whole part other (a + 1) (λ i less. let e : a + 1 + i ≡ a + suc i = omega arith in ap (λ n. get_or whole n other) e ∙ law (suc i) (omega (arith, less))))

-- of elements and others after them: those that were put in place of the others
pub put_gathered : (before given : List Cell) (other : Cell) (count : ℕ) (numbers : List ℕ) → length before ≡ count → length given ≡ length numbers
    → gather other (before ++ given) (put numbers (range_with_len count (length numbers)) (range_with_len 0 count)) ≡ put numbers given before
put_gathered before given other count numbers old new =
    let whole = before ++ given in
    let f : ℕ → Cell = λ n. get_or whole n other in
    let first : gather other whole (range_with_len 0 count) ≡ before =
    ap (λ n. gather other whole (range_with_len 0 n)) (sym old)
    ∙ read_part whole before other 0 (λ i less. let e : 0 + i ≡ i = omega arith in ap f e ∙ get_or-append before given other i less) in
    let second : gather other whole (range_with_len count (length numbers)) ≡ given =
    ap (λ n. gather other whole (range_with_len n (length numbers))) (sym old)
    ∙ (ap (λ n. gather other whole (range_with_len (length before) n)) (sym new)
    ∙ read_part whole given other (length before) (λ i less. get_or-append-add before given i other)) in
    map_put f numbers (range_with_len count (length numbers)) (range_with_len 0 count)
    ∙ (ap (λ xs. put numbers xs (gather other whole (range_with_len 0 count))) second ∙ ap (put numbers given) first)

-- their numbers are those of such elements
pub put_inside : (before given : List Cell) (count : ℕ) (numbers : List ℕ) → length before ≡ count → length given ≡ length numbers
    → are_below (length (before ++ given)) (put numbers (range_with_len count (length numbers)) (range_with_len 0 count)) ≡ true
put_inside before given count numbers old new =
    let all = length-append before given in
    put_below (length (before ++ given)) numbers (range_with_len count (length numbers)) (range_with_len 0 count)
    (range_below (length (before ++ given)) count (length numbers) (omega (arith, all, old, new)))
    (range_below (length (before ++ given)) 0 count (omega (arith, all, old)))
