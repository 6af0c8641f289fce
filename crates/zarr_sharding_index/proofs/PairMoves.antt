-- Pairs that are moved as bytes.
use Rattle.std.proofs.Common.{◌≡◌, ◌∙◌, ℕ, zero, suc, ◌+◌, ◌-◌, ◌*◌, ◌%◌, ◌<◌, ◌≤◌, List, [], ◌∷◌, ◌++◌, length, set, take, drop, ap, sym, arith, append_assoc, append-nil, length-append, length-drop, length-take, take-append-drop}
use Rattle.std.specs.List.{copy_within, insert, remove}
use Rattle.std.proofs.Math.Seq.{drop-append_seam, take-append_seam}
use Rattle.std.proofs.lemmas.List.{drop_all, take_all}
use Rattle.std.proofs.lemmas.List.Edits.{drop-paste, take-paste}
use Rattle.zarr_codecs_meaning.specs.Encoding.{Pair}
use Rattle.zarr_codecs_meaning.specs.Numbers.{number}
use Rattle.zarr_sharding_index.specs.Views.{pairs_of_bytes}
use Rattle.zarr_sharding_index.proofs.PairBytes.{front_first, length-pairs_of_bytes, number_from, pair, pairs_cons, pairs_end}

-- ---- pairs of parts

pairs_joined : (count : ℕ) (front back : List ℕ) → length front ≡ 16 * count → pairs_of_bytes (front ++ back) ≡ pairs_of_bytes front ++ pairs_of_bytes back
pairs_joined zero [] back whole = ap (λ (ps : List Pair). ps ++ pairs_of_bytes back) (sym (pairs_end [] (omega arith)))
pairs_joined zero (byte ∷ front) back whole = absurd (omega (arith, whole))
pairs_joined (suc count) front back whole =
    let rest = drop 16 front in
    let first = pair (number 256 (take 8 front)) (number_from 8 front) in
    ap pairs_of_bytes (ap (λ bs. bs ++ back) (sym (take-append-drop 16 front)) ∙ append_assoc (take 16 front) rest back)
    ∙ (front_first front (rest ++ back) (omega (arith, whole))
    ∙ (ap (λ (ps : List Pair). first ∷ ps) (pairs_joined count rest back (length-drop 16 front ∙ omega (arith, whole)))
    ∙ ap (λ (ps : List Pair). ps ++ pairs_of_bytes back) (sym (pairs_cons front (omega (arith, whole))))))

pairs_cut : (n : ℕ) (bytes : List ℕ) → 16 * n ≤ length bytes → pairs_of_bytes bytes ≡ pairs_of_bytes (take (16 * n) bytes) ++ pairs_of_bytes (drop (16 * n) bytes)
pairs_cut n bytes low = ap pairs_of_bytes (sym (take-append-drop (16 * n) bytes)) ∙ pairs_joined n (take (16 * n) bytes) (drop (16 * n) bytes) (length-take (16 * n) bytes ∙ omega (arith, low))

front_count : (n : ℕ) (bytes : List ℕ) → 16 * n ≤ length bytes → length (pairs_of_bytes (take (16 * n) bytes)) ≡ n
front_count n bytes low =
    let count = length-pairs_of_bytes (take (16 * n) bytes) in
    let long = length-take (16 * n) bytes in
    omega (arith, count, long, low)

front_pairs : (n : ℕ) (bytes : List ℕ) → 16 * n ≤ length bytes → pairs_of_bytes (take (16 * n) bytes) ≡ take n (pairs_of_bytes bytes)
front_pairs n bytes low =
    let front = pairs_of_bytes (take (16 * n) bytes) in
    let back = pairs_of_bytes (drop (16 * n) bytes) in
    sym (ap (take n) (pairs_cut n bytes low) ∙ (ap (λ k. take k (front ++ back)) (sym (front_count n bytes low)) ∙ take-append_seam front back))

back_pairs : (n : ℕ) (bytes : List ℕ) → 16 * n ≤ length bytes → pairs_of_bytes (drop (16 * n) bytes) ≡ drop n (pairs_of_bytes bytes)
back_pairs n bytes low =
    let front = pairs_of_bytes (take (16 * n) bytes) in
    let back = pairs_of_bytes (drop (16 * n) bytes) in
    sym (ap (drop n) (pairs_cut n bytes low) ∙ (ap (λ k. drop k (front ++ back)) (sym (front_count n bytes low)) ∙ drop-append_seam front back))

-- ---- moves

-- the pairs from a number on, but for the last, stand one place further
pub moved_up : (n start end dest : ℕ) (bytes : List ℕ) → start ≡ 16 * n → end + 16 ≡ length bytes → dest ≡ start + 16 → n < length (pairs_of_bytes bytes) → length bytes % 16 ≡ 0
    → pairs_of_bytes (copy_within bytes start end dest) ≡ take (n + 1) (pairs_of_bytes bytes) ++ take (length (pairs_of_bytes bytes) - (n + 1)) (drop n (pairs_of_bytes bytes))
moved_up n start end dest bytes is ends to below whole =
    let count = length-pairs_of_bytes bytes in
    let m = length (pairs_of_bytes bytes) - (n + 1) in
    let given = drop start bytes in
    let long = length-drop start bytes in
    let made = copy_within bytes start end dest in
    let all : dest + (end - start) ≡ length bytes = omega (arith, is, ends, to, below, whole, count) in
    let enough : end - start ≤ length given = omega (arith, long, is, ends) in
    let within : dest ≤ length bytes = omega (arith, is, to, below, whole, count) in
    let front = take-paste bytes dest given (end - start) within enough in
    let past = drop-paste bytes dest given (end - start) within enough ∙ drop_all (dest + (end - start)) bytes (omega (arith, all)) in
    let parts : made ≡ take dest bytes ++ take (end - start) given =
    sym (take-append-drop (dest + (end - start)) made) ∙ (ap (λ bs. take (dest + (end - start)) made ++ bs) past ∙ (append-nil (take (dest + (end - start)) made) ∙ front)) in
    let first : dest ≡ 16 * (n + 1) = omega (arith, is, to) in
    let second : end - start ≡ 16 * m = omega (arith, is, ends, below, whole, count) in
    let rest : drop start bytes ≡ drop (16 * n) bytes = ap (λ k. drop k bytes) is in
    let low : 16 * (n + 1) ≤ length bytes = omega (arith, below, whole, count) in
    let tail = drop (16 * n) bytes in
    let tail_long = length-drop (16 * n) bytes in
    ap pairs_of_bytes (parts ∙ (ap (λ k. take k bytes ++ take (end - start) given) first ∙ (ap (λ k. take (16 * (n + 1)) bytes ++ take k given) second ∙ ap (λ bs. take (16 * (n + 1)) bytes ++ take (16 * m) bs) rest)))
    ∙ (pairs_joined (n + 1) (take (16 * (n + 1)) bytes) (take (16 * m) tail) (length-take (16 * (n + 1)) bytes ∙ omega (arith, low))
    ∙ (ap (λ (ps : List Pair). ps ++ pairs_of_bytes (take (16 * m) tail)) (front_pairs (n + 1) bytes low)
    ∙ ap (λ (ps : List Pair). take (n + 1) (pairs_of_bytes bytes) ++ ps) (front_pairs m tail (omega (arith, tail_long, below, whole, count)) ∙ ap (take m) (back_pairs n bytes (omega (arith, low))))))

-- those behind a number stand one place before
pub moved_down : (n start from size left : ℕ) (bytes : List ℕ) → start ≡ 16 * n → from ≡ start + 16 → size ≡ length bytes → left + 16 ≡ size → n < length (pairs_of_bytes bytes) → length bytes % 16 ≡ 0
    → pairs_of_bytes (take left (copy_within bytes from size start)) ≡ remove (pairs_of_bytes bytes) n
moved_down n start from size left bytes is begins all ends below whole =
    let count = length-pairs_of_bytes bytes in
    let given = drop from bytes in
    let long = length-drop from bytes in
    let low : 16 * (n + 1) ≤ length bytes = omega (arith, below, whole, count) in
    let sum : left ≡ start + (size - from) = omega (arith, is, begins, all, ends, low) in
    let front = take-paste bytes start given (size - from) (omega (arith, is, low)) (omega (arith, long, all)) in
    let whole_given = take_all (size - from) given (omega (arith, long, all)) in
    let first : from ≡ 16 * (n + 1) = omega (arith, is, begins) in
    let next : n + 1 ≡ suc n = omega arith in
    ap pairs_of_bytes (ap (λ k. take k (copy_within bytes from size start)) sum ∙ (front ∙ (ap (λ bs. take start bytes ++ bs) whole_given ∙ (ap (λ k. take k bytes ++ given) is ∙ ap (λ k. take (16 * n) bytes ++ drop k bytes) first))))
    ∙ (pairs_joined n (take (16 * n) bytes) (drop (16 * (n + 1)) bytes) (length-take (16 * n) bytes ∙ omega (arith, low))
    ∙ (ap (λ (ps : List Pair). ps ++ pairs_of_bytes (drop (16 * (n + 1)) bytes)) (front_pairs n bytes (omega (arith, low)))
    ∙ ap (λ (ps : List Pair). take n (pairs_of_bytes bytes) ++ ps) (back_pairs (n + 1) bytes low ∙ ap (λ k. drop k (pairs_of_bytes bytes)) next)))

-- a pair that was added behind all others, once these were moved on from its place
inserted_so : (P : List Pair) (n m : ℕ) (p : Pair) → n + m ≡ length P → set (take (suc n) (P ++ p ∷ []) ++ take m (drop n (P ++ p ∷ []))) n p ≡ insert P n p
inserted_so [] zero m p is = let none : m ≡ 0 = omega (arith, is) in ap (λ k. p ∷ take k (p ∷ [])) none
inserted_so (q ∷ P) zero m p is =
    let all : m ≡ length (q ∷ P) = omega (arith, is) in
    ap (λ k. p ∷ take k ((q ∷ P) ++ p ∷ [])) all ∙ ap (λ (ps : List Pair). p ∷ ps) (take-append_seam (q ∷ P) (p ∷ []))
inserted_so [] (suc n) m p is = absurd (omega (arith, is))
inserted_so (q ∷ P) (suc n) m p is = ap (λ (ps : List Pair). q ∷ ps) (inserted_so P n m p (omega (arith, is)))

pub inserted_moved : (P added moved : List Pair) (n : ℕ) (p : Pair) → n ≤ length P → added ≡ P ++ p ∷ [] → moved ≡ take (n + 1) added ++ take (length added - (n + 1)) (drop n added) → set moved n p ≡ insert P n p
inserted_moved P added moved n p low is to =
    let long : length added ≡ length P + 1 = ap (λ (ps : List Pair). length ps) is ∙ length-append P (p ∷ []) in
    let next : n + 1 ≡ suc n = omega arith in
    let m = length added - (n + 1) in
    ap (λ (ps : List Pair). set ps n p) (to ∙ (ap (λ (ps : List Pair). take (n + 1) ps ++ take m (drop n ps)) is ∙ ap (λ k. take k (P ++ p ∷ []) ++ take m (drop n (P ++ p ∷ []))) next))
    ∙ inserted_so P n m p (omega (arith, long, low))

-- bytes that were all written over
pub all_written : (len : ℕ) (before after : List ℕ) → length after ≡ length before → len ≡ length after → take len (after ++ drop (length after) before) ≡ after
all_written len before after same all =
    ap (λ bs. take len (after ++ bs)) (drop_all (length after) before (omega (arith, same))) ∙ (ap (take len) (append-nil after) ∙ take_all len after (omega (arith, all)))
