-- A list so many times, one after another.
use Rattle.std.proofs.Common.{◌≡◌, ℕ, zero, suc, ◌+◌, ◌-◌, ◌*◌, ◌/◌, ◌%◌, List, [], ◌∷◌, ◌++◌, length, take, drop, replicate, ap, ◌∙◌, sym, refl, arith, true, ◌==◌, append_assoc, append-nil, length-drop, take-append-drop}
use Rattle.std.specs.Prelude.{Result, Ok, Err, IfOk, Vec}
use Rattle.std.specs.List.{repeat, list_all}
use Rattle.std.proofs.lemmas.Bool.{and_parts, eqb-true}
use Rattle.std.proofs.lemmas.List.{take_at, drop_at, nil_from_length, replicate-append-replicate}
use Rattle.std.proofs.lemmas.Nat.{div-add-mod'}
use Rattle.zarr_codecs_arrays.proofs.FixedCells.{length-repeat}

pub repeat_nothing : (count : ℕ) (xs : List ℕ) → length xs ≡ 0 → [] ≡ repeat count xs
repeat_nothing zero xs h = refl
repeat_nothing (suc count) xs h = repeat_nothing count xs h ∙ ap (λ ys. ys ++ repeat count xs) (sym (nil_from_length xs h))

pub repeat-add : (a b : ℕ) (xs : List ℕ) → repeat (a + b) xs ≡ repeat a xs ++ repeat b xs
repeat-add zero b xs = let e : zero + b ≡ b = omega arith in ap (λ n. repeat n xs) e
repeat-add (suc a) b xs =
    let e : suc a + b ≡ suc (a + b) = omega arith in
    ap (λ n. repeat n xs) e ∙ (ap (λ ys. xs ++ ys) (repeat-add a b xs) ∙ sym (append_assoc xs (repeat a xs) (repeat b xs)))

pub repeat_more : (count : ℕ) (xs : List ℕ) → repeat (count + 1) xs ≡ repeat count xs ++ xs
repeat_more count xs = repeat-add count 1 xs ∙ ap (λ ys. repeat count xs ++ ys) (append-nil xs)

pub repeat-repeat : (a b : ℕ) (xs : List ℕ) → repeat a (repeat b xs) ≡ repeat (a * b) xs
repeat-repeat zero b xs = let e : 0 ≡ zero * b = omega arith in ap (λ n. repeat n xs) e
repeat-repeat (suc a) b xs =
    let e : b + a * b ≡ suc a * b = grind arith in
    ap (λ ys. repeat b xs ++ ys) (repeat-repeat a b xs) ∙ (sym (repeat-add b (a * b) xs) ∙ ap (λ n. repeat n xs) e)

-- whole runs, and the rest one by one
pub repeat_runs : (count run : ℕ) (xs : List ℕ) → repeat (count / run) (repeat run xs) ++ repeat (count % run) xs ≡ repeat count xs
repeat_runs count run xs =
    ap (λ ys. ys ++ repeat (count % run) xs) (repeat-repeat (count / run) run xs)
    ∙ (sym (repeat-add (count / run * run) (count % run) xs) ∙ ap (λ n. repeat n xs) (div-add-mod' count run))

all_equal : (y : ℕ) (xs : List ℕ) → list_all (λ b. b == y) xs ≡ true → xs ≡ replicate (length xs) y
all_equal y [] h = refl
all_equal y (x ∷ xs) h =
    let both = and_parts (x == y) (list_all (λ b. b == y) xs) h in
    ap (λ n. n ∷ xs) (eqb-true x y both.0) ∙ ap (λ ns. y ∷ ns) (all_equal y xs both.1)

repeat_replicate : (count n y : ℕ) → repeat count (replicate n y) ≡ replicate (n * count) y
repeat_replicate zero n y = let e : 0 ≡ n * zero = omega arith in ap (λ k. replicate k y) e
repeat_replicate (suc count) n y =
    let e : n + n * count ≡ n * suc count = grind arith in
    ap (λ ys. replicate n y ++ ys) (repeat_replicate count n y) ∙ (replicate-append-replicate n (n * count) y ∙ ap (λ k. replicate k y) e)

-- equal bytes
pub repeat_equal : (count y : ℕ) (xs : List ℕ) → list_all (λ b. b == y) xs ≡ true → replicate (length xs * count) y ≡ repeat count xs
repeat_equal count y xs h = sym (ap (repeat count) (all_equal y xs h) ∙ repeat_replicate count (length xs) y)

-- ---- a list that is itself when shifted

shifted : (count width : ℕ) (xs rest : List ℕ) → length xs ≡ width → length rest ≡ count * width → rest ≡ take (count * width) (xs ++ rest) → rest ≡ repeat count xs
shifted zero width xs rest long all h = nil_from_length rest (all ∙ omega arith)
shifted (suc count) width xs rest long all h =
    let n = count * width in
    let sum : suc count * width ≡ width + n = grind arith in
    let back = drop width rest in
    let many : length back ≡ n = length-drop width rest ∙ omega (arith, all, sum) in
    let split : rest ≡ xs ++ take n rest = h ∙ (ap (λ k. take k (xs ++ rest)) sum ∙ take_past width n xs rest long) in
    let front : take width rest ≡ xs = ap (take width) split ∙ take_at xs (take n rest) width long in
    let again : rest ≡ xs ++ back = sym (take-append-drop width rest) ∙ ap (λ ys. ys ++ back) front in
    let moved : back ≡ take n (xs ++ back) = ap (drop width) split ∙ (drop_at xs (take n rest) width long ∙ ap (take n) again) in
    again ∙ ap (λ ys. xs ++ ys) (shifted count width xs back long many moved) where
      take_past : (m n : ℕ) (xs ys : List ℕ) → length xs ≡ m → take (m + n) (xs ++ ys) ≡ xs ++ take n ys
      take_past m n [] ys long = let e : m + n ≡ n = omega arith in ap (λ k. take k ys) e
      take_past m n (x ∷ xs) ys long =
          let e : m + n ≡ suc (length xs + n) = omega arith in
          ap (λ k. take k (x ∷ (xs ++ ys))) e ∙ ap (λ zs. x ∷ zs) (take_past (length xs) n xs ys refl)

pub repeat_from_shift : (count width : ℕ) (xs bytes : List ℕ) → length xs ≡ width → length bytes ≡ suc count * width → take width bytes ≡ xs → drop width bytes ≡ take (length bytes - width) bytes → bytes ≡ repeat (suc count) xs
repeat_from_shift count width xs bytes long all front back =
    let sum : suc count * width ≡ width + count * width = grind arith in
    let less : length bytes - width ≡ count * width = omega (arith, all, sum) in
    let split : bytes ≡ xs ++ drop width bytes = sym (take-append-drop width bytes) ∙ ap (λ ys. ys ++ drop width bytes) front in
    let many : length (drop width bytes) ≡ count * width = length-drop width bytes ∙ less in
    let moved : drop width bytes ≡ take (count * width) (xs ++ drop width bytes) = back ∙ (ap (λ k. take k bytes) less ∙ ap (take (count * width)) split) in
    split ∙ ap (λ ys. xs ++ ys) (shifted count width xs (drop width bytes) long many moved)

pub shift_of_repeat : (count width : ℕ) (xs bytes : List ℕ) → length xs ≡ width → bytes ≡ repeat (suc count) xs → (take width bytes ≡ xs) × (drop width bytes ≡ take (length bytes - width) bytes)
shift_of_repeat count width xs bytes long is =
    let sum : suc count * width ≡ width + count * width = grind arith in
    let all : length bytes ≡ suc count * width = ap length is ∙ (length-repeat (suc count) xs ∙ ap (λ n. suc count * n) long) in
    let less : length bytes - width ≡ count * width = omega (arith, all, sum) in
    let most : length (repeat count xs) ≡ count * width = length-repeat count xs ∙ ap (λ n. count * n) long in
    let one : suc count ≡ count + 1 = omega arith in
    let turned : bytes ≡ repeat count xs ++ xs = is ∙ (ap (λ n. repeat n xs) one ∙ repeat_more count xs) in
    let fronts : take (length bytes - width) bytes ≡ repeat count xs = ap (λ k. take k bytes) less ∙ (ap (take (count * width)) turned ∙ take_at (repeat count xs) xs (count * width) most) in
    (ap (take width) is ∙ take_at xs (repeat count xs) width long, ap (drop width) is ∙ (drop_at xs (repeat count xs) width long ∙ sym fronts))

-- what a vector of equal bytes is
pub filled : {A E : Type 0} (result : Result (Vec ℕ A) E) (y total count : ℕ) (xs : List ℕ) → list_all (λ b. b == y) xs ≡ true → total ≡ length xs * count
    → IfOk result (λ v. ((x : ℕ) → x ≡ y → x ≡ y) → v.items ≡ replicate total y) → IfOk result (λ v. v.items ≡ repeat count xs)
filled (Ok v) y total count xs all is h = h (λ x e. e) ∙ (ap (λ n. replicate n y) is ∙ repeat_equal count y xs all)
filled (Err e) y total count xs all is h = tt
