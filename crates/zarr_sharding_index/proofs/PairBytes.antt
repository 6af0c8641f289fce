-- Pairs as bytes, and bytes as pairs.
use Rattle.std.proofs.Common.{◌≡◌, ℕ, zero, suc, ◌+◌, ◌*◌, ◌/◌, ◌%◌, ◌^◌, ◌<◌, ◌≤◌, List, [], ◌∷◌, ◌++◌, length, get_or, replicate, take, drop, ap, ◌∙◌, sym, arith, refl, Some, append_assoc, length-append, length-take, length-drop, take-append-drop}
use Rattle.std.specs.Prelude.{slice_set, is_ok, if◌then◌else◌, Result, Ok, Err, OnOk}
use Rattle.std.specs.Int.{from_le_bytes, to_le_bytes, w64}
use Rattle.std.proofs.Math.Seq.{drop-drop, drop-nil, take-nil}
use Rattle.zarr_codecs_meaning.specs.Numbers.{digits, number, word}
use Rattle.zarr_codecs_meaning.specs.Types.{Cell, of_bytes, uint64}
use Rattle.zarr_codecs_meaning.specs.Encoding.{Pair, absent_pair, pair_cells}
use Rattle.zarr_codecs_meaning.specs.Decoding.{pairs_of_cells}
use Rattle.zarr_codecs_meaning.specs.Payloads.{cells_in, fixed, fixed_cells}
use Rattle.std.proofs.lemmas.List.{append-nil}
use Rattle.zarr_codecs_meaning.proofs.Values.{length-digits}
use Rattle.zarr_codecs_meaning.proofs.Digits.{digits_number, each-drop, each-take, number_digits}
use Rattle.zarr_codecs_meaning.proofs.Lists.{Each}
use Rattle.zarr_sharding_index.specs.Views.{pairs_of_bytes}
use Rattle.zarr_codecs_arrays.proofs.FixedCells.{length-fixed_cells, fixed_cells-nil, fixed_cells-cons, fixed_in-some}

-- the bytes of a pair
abbrev pub pair_bytes : Pair → List ℕ
pair_bytes pair = word pair.0 ++ word pair.1

-- the bytes of pairs, one after another
abbrev pub pairs_bytes : List Pair → List ℕ
pairs_bytes [] = []
pairs_bytes (pair ∷ pairs) = pair_bytes pair ++ pairs_bytes pairs

pub length-pairs_bytes : (pairs : List Pair) → length (pairs_bytes pairs) ≡ 16 * length pairs
length-pairs_bytes [] = refl
length-pairs_bytes (pair ∷ pairs) =
    let one = length-append (word pair.0) (word pair.1) in
    let all = length-append (pair_bytes pair) (pairs_bytes pairs) in
    let a = length-digits 256 8 pair.0 in
    let b = length-digits 256 8 pair.1 in
    let rest = length-pairs_bytes pairs in
    omega (arith, one, all, a, b, rest)

pub cells_of_pairs : (pairs : List Pair) → fixed_cells 8 (pairs_bytes pairs) ≡ pair_cells pairs
cells_of_pairs [] = fixed_cells-nil 8
cells_of_pairs (pair ∷ pairs) =
    ap (fixed_cells 8) (append_assoc (word pair.0) (word pair.1) (pairs_bytes pairs))
    ∙ (fixed_cells-cons 8 (word pair.0) (word pair.1 ++ pairs_bytes pairs) (omega arith) (length-digits 256 8 pair.0)
    ∙ ap (λ (cells : List Cell). of_bytes (word pair.0) ∷ cells) (fixed_cells-cons 8 (word pair.1) (pairs_bytes pairs) (omega arith) (length-digits 256 8 pair.1)
    ∙ ap (λ (cells : List Cell). of_bytes (word pair.1) ∷ cells) (cells_of_pairs pairs)))

pub pairs_are_numbers : (bytes : List ℕ) (pairs : List Pair) → bytes ≡ pairs_bytes pairs → cells_in uint64 (fixed bytes) ≡ Some (pair_cells pairs)
pairs_are_numbers bytes pairs is =
    let long = ap length is ∙ length-pairs_bytes pairs in
    let whole : length bytes % 8 ≡ 0 = omega (arith, long) in
    fixed_in-some 8 bytes (omega arith) whole ∙ (ap (λ bs. Some (fixed_cells 8 bs)) is ∙ ap Some (cells_of_pairs pairs))

-- the pair of the first sixteen bytes, and those of the others
pub pairs_step : (first second others bytes : List ℕ) → length first ≡ 8 → length second ≡ 8 → bytes ≡ first ++ (second ++ others)
    → pairs_of_cells (fixed_cells 8 bytes) ≡ (number 256 first, number 256 second) ∷ pairs_of_cells (fixed_cells 8 others)
pairs_step first second others bytes a b is =
    ap (λ bs. pairs_of_cells (fixed_cells 8 bs)) is
    ∙ ap pairs_of_cells (fixed_cells-cons 8 first (second ++ others) (omega arith) a ∙ ap (λ (cells : List Cell). of_bytes first ∷ cells) (fixed_cells-cons 8 second others (omega arith) b))

few : (cells : List Cell) → length cells < 2 → pairs_of_cells cells ≡ []
few [] h = refl
few (first ∷ []) h = refl
few (first ∷ second ∷ cells) h = absurd (omega arith)

pub pairs_end : (bytes : List ℕ) → length bytes < 16 → pairs_of_cells (fixed_cells 8 bytes) ≡ []
pairs_end bytes h =
    let count = length-fixed_cells 8 bytes in
    few (fixed_cells 8 bytes) (omega (arith, count))

abbrev pub pair : ℕ → ℕ → Pair
pair offset long = (offset, long)

pub pair_is : {a b c d : ℕ} → a ≡ b → c ≡ d → pair a c ≡ pair b d
pair_is {a} {b} {c} {d} one two = ap (λ (n : ℕ). pair n c) one ∙ ap (λ (n : ℕ). pair b n) two

-- the number of eight bytes from a place on
abbrev pub number_from : ℕ → List ℕ → ℕ
number_from start bytes = number 256 (take 8 (drop start bytes))

in_parts : (bytes : List ℕ) → bytes ≡ take 8 bytes ++ (take 8 (drop 8 bytes) ++ drop 16 bytes)
in_parts bytes =
    let past : drop 8 (drop 8 bytes) ≡ drop 16 bytes = drop-drop 8 8 bytes in
    sym (take-append-drop 8 bytes) ∙ ap (λ bs. take 8 bytes ++ bs) (sym (take-append-drop 8 (drop 8 bytes)) ∙ ap (λ bs. take 8 (drop 8 bytes) ++ bs) past)

-- the first pair, and those of the others
pub pairs_cons : (bytes : List ℕ) → 16 ≤ length bytes → pairs_of_bytes bytes ≡ pair (number 256 (take 8 bytes)) (number_from 8 bytes) ∷ pairs_of_bytes (drop 16 bytes)
pairs_cons bytes enough =
    let one : length (take 8 bytes) ≡ 8 = length-take 8 bytes ∙ omega (arith, enough) in
    let two : length (take 8 (drop 8 bytes)) ≡ 8 = length-take 8 (drop 8 bytes) ∙ omega (arith, enough, length-drop 8 bytes) in
    pairs_step (take 8 bytes) (take 8 (drop 8 bytes)) (drop 16 bytes) bytes one two (in_parts bytes)

pub no_pairs : (bytes : List ℕ) → length bytes < 16 → pairs_of_bytes bytes ≡ []
no_pairs bytes h = pairs_end bytes h

pairs_counted : (count : ℕ) (bytes : List ℕ) → 16 * count ≤ length bytes → length bytes < 16 * count + 16 → length (pairs_of_bytes bytes) ≡ count
pairs_counted zero bytes low high = ap length (pairs_end bytes (omega (arith, high)))
pairs_counted (suc count) bytes low high =
    let rest = length-drop 16 bytes in
    ap length (pairs_cons bytes (omega (arith, low))) ∙ ap suc (pairs_counted count (drop 16 bytes) (omega (arith, low, rest)) (omega (arith, low, high, rest)))

-- a pair for sixteen bytes
pub length-pairs_of_bytes : (bytes : List ℕ) → length (pairs_of_bytes bytes) ≡ length bytes / 16
length-pairs_of_bytes bytes = pairs_counted (length bytes / 16) bytes (omega arith) (omega arith)

-- one part past another
past_by : (i j n : ℕ) (xs : List ℕ) → n ≡ j + i → drop i (drop j xs) ≡ drop n xs
past_by i zero n xs is = let same : i ≡ n = omega (arith, is) in ap (λ k. drop k xs) same
past_by i (suc j) n [] is = drop-nil i ∙ sym (drop-nil n)
past_by i (suc j) zero (x ∷ xs) is = absurd (omega (arith, is))
past_by i (suc j) (suc n) (x ∷ xs) is = past_by i j n xs (omega (arith, is))

-- the pair with a number
pub pair_found : (n : ℕ) (bytes : List ℕ) → 16 * n + 16 ≤ length bytes → get_or (pairs_of_bytes bytes) n absent_pair ≡ pair (number_from (16 * n) bytes) (number_from (16 * n + 8) bytes)
pair_found zero bytes enough = ap (λ (ps : List Pair). get_or ps 0 absent_pair) (pairs_cons bytes (omega (arith, enough)))
pair_found (suc n) bytes enough =
    let one : drop (16 * n) (drop 16 bytes) ≡ drop (16 * suc n) bytes = past_by (16 * n) 16 (16 * suc n) bytes (omega arith) in
    let two : drop (16 * n + 8) (drop 16 bytes) ≡ drop (16 * suc n + 8) bytes = past_by (16 * n + 8) 16 (16 * suc n + 8) bytes (omega arith) in
    ap (λ (ps : List Pair). get_or ps (suc n) absent_pair) (pairs_cons bytes (omega (arith, enough)))
    ∙ (pair_found n (drop 16 bytes) (omega (arith, enough, length-drop 16 bytes)) ∙ pair_is (ap (λ bs. number 256 (take 8 bs)) one) (ap (λ bs. number 256 (take 8 bs)) two))

word_again : (n : ℕ) → n < 2 ^ 64 → number 256 (word n) ≡ n
word_again n small = number_digits 256 8 n (omega arith) ∙ omega (arith, small)

-- the pair that two words begin with
words_first : (a b : ℕ) (others : List ℕ) → a < 2 ^ 64 → b < 2 ^ 64 → pairs_of_bytes ((word a ++ word b) ++ others) ≡ pair a b ∷ pairs_of_bytes others
words_first a b others one two =
    pairs_step (word a) (word b) others ((word a ++ word b) ++ others) (length-digits 256 8 a) (length-digits 256 8 b) (append_assoc (word a) (word b) others)
    ∙ ap (λ (p : Pair). p ∷ pairs_of_bytes others) (pair_is (word_again a one) (word_again b two))

-- one part after another
take_more : (i j n : ℕ) (xs : List ℕ) → n ≡ i + j → take n xs ≡ take i xs ++ take j (drop i xs)
take_more zero j n xs is = let same : n ≡ j = omega (arith, is) in ap (λ k. take k xs) same
take_more (suc i) j n [] is = take-nil n ∙ sym (take-nil j)
take_more (suc i) j zero (x ∷ xs) is = absurd (omega (arith, is))
take_more (suc i) j (suc n) (x ∷ xs) is = ap (λ ys. x ∷ ys) (take_more i j n xs (omega (arith, is)))

sixteen : (bytes : List ℕ) → take 16 bytes ≡ take 8 bytes ++ take 8 (drop 8 bytes)
sixteen bytes = take_more 8 8 16 bytes refl

-- bytes that begin with the same sixteen
pub front_first : (bytes others : List ℕ) → 16 ≤ length bytes → pairs_of_bytes (take 16 bytes ++ others) ≡ pair (number 256 (take 8 bytes)) (number_from 8 bytes) ∷ pairs_of_bytes others
front_first bytes others enough =
    let one : length (take 8 bytes) ≡ 8 = length-take 8 bytes ∙ omega (arith, enough) in
    let two : length (take 8 (drop 8 bytes)) ≡ 8 = length-take 8 (drop 8 bytes) ∙ omega (arith, enough, length-drop 8 bytes) in
    let front : take 16 bytes ≡ take 8 bytes ++ take 8 (drop 8 bytes) = sixteen bytes in
    pairs_step (take 8 bytes) (take 8 (drop 8 bytes)) others (take 16 bytes ++ others) one two (ap (λ bs. bs ++ others) front ∙ append_assoc (take 8 bytes) (take 8 (drop 8 bytes)) others)

-- after a pair was put in the place of another
pub pair_put : (n : ℕ) (bytes : List ℕ) (a b : ℕ) → 16 * n + 16 ≤ length bytes → a < 2 ^ 64 → b < 2 ^ 64
    → pairs_of_bytes (take (16 * n) bytes ++ ((word a ++ word b) ++ drop (16 * n + 16) bytes)) ≡ slice_set (pairs_of_bytes bytes) n (pair a b)
pair_put zero bytes a b enough one two =
    words_first a b (drop 16 bytes) one two ∙ ap (λ (ps : List Pair). slice_set ps 0 (pair a b)) (sym (pairs_cons bytes (omega (arith, enough))))
pair_put (suc n) bytes a b enough one two =
    let rest = drop 16 bytes in
    let past : drop (16 * suc n + 16) bytes ≡ drop (16 * n + 16) rest = sym (past_by (16 * n + 16) 16 (16 * suc n + 16) bytes (omega arith)) in
    let front : take (16 * suc n) bytes ≡ take 16 bytes ++ take (16 * n) rest = take_more 16 (16 * n) (16 * suc n) bytes (omega arith) in
    ap pairs_of_bytes (ap (λ bs. bs ++ ((word a ++ word b) ++ drop (16 * suc n + 16) bytes)) front
    ∙ (append_assoc (take 16 bytes) (take (16 * n) rest) ((word a ++ word b) ++ drop (16 * suc n + 16) bytes) ∙ ap (λ bs. take 16 bytes ++ (take (16 * n) rest ++ ((word a ++ word b) ++ bs))) past))
    ∙ (front_first bytes (take (16 * n) rest ++ ((word a ++ word b) ++ drop (16 * n + 16) rest)) (omega (arith, enough))
    ∙ (ap (λ (ps : List Pair). pair (number 256 (take 8 bytes)) (number_from 8 bytes) ∷ ps) (pair_put n rest a b (omega (arith, enough, length-drop 16 bytes)) one two)
    ∙ ap (λ (ps : List Pair). slice_set ps (suc n) (pair a b)) (sym (pairs_cons bytes (omega (arith, enough))))))

-- the same, where the parts are told by their bounds
pub pair_put_within : (n start long : ℕ) (bytes made : List ℕ) (a b : ℕ) → start ≡ 16 * n → start + 16 ≤ length bytes → long ≡ 16 → a < 2 ^ 64 → b < 2 ^ 64 → made ≡ word a ++ word b
    → pairs_of_bytes (take start bytes ++ (made ++ drop long (drop start bytes))) ≡ slice_set (pairs_of_bytes bytes) n (pair a b)
pair_put_within n start long bytes made a b is enough sixteen one two new =
    let past : drop long (drop start bytes) ≡ drop (16 * n + 16) bytes = past_by long start (16 * n + 16) bytes (omega (arith, is, sixteen)) in
    ap (λ (bs : List ℕ). pairs_of_bytes (take start bytes ++ (bs ++ drop long (drop start bytes)))) new
    ∙ (ap (λ (k : ℕ). pairs_of_bytes (take k bytes ++ ((word a ++ word b) ++ drop long (drop start bytes)))) is
    ∙ (ap (λ (bs : List ℕ). pairs_of_bytes (take (16 * n) bytes ++ ((word a ++ word b) ++ bs))) past
    ∙ pair_put n bytes a b (omega (arith, is, enough)) one two))

pub pair_found_within : (n start one two : ℕ) (bytes : List ℕ) (x y : ℕ) → start ≡ 16 * n → start + 16 ≤ length bytes → one ≡ 8 → two ≡ 8 → x ≡ number 256 (take one (drop start bytes)) → y ≡ number 256 (take two (drop (start + 8) bytes))
    → pair x y ≡ get_or (pairs_of_bytes bytes) n absent_pair
pair_found_within n start one two bytes x y is enough a b first second =
    let front : start ≡ 16 * n = is in
    let back : start + 8 ≡ 16 * n + 8 = omega (arith, is) in
    pair_is (first ∙ (ap (λ (k : ℕ). number 256 (take k (drop start bytes))) a ∙ ap (λ (k : ℕ). number_from k bytes) front))
    (second ∙ (ap (λ (k : ℕ). number 256 (take k (drop (start + 8) bytes))) b ∙ ap (λ (k : ℕ). number_from k bytes) back))
    ∙ sym (pair_found n bytes (omega (arith, is, enough)))

-- after a pair was added
pub pair_added : (count : ℕ) (bytes : List ℕ) (a b : ℕ) → length bytes ≡ 16 * count → a < 2 ^ 64 → b < 2 ^ 64 → pairs_of_bytes (bytes ++ (word a ++ word b)) ≡ pairs_of_bytes bytes ++ pair a b ∷ []
pair_added zero [] a b whole one two =
    ap pairs_of_bytes (sym (append-nil (word a ++ word b))) ∙ (words_first a b [] one two ∙ ap (λ (ps : List Pair). pair a b ∷ ps) (pairs_end [] (omega arith)) ∙ ap (λ (ps : List Pair). ps ++ pair a b ∷ []) (sym (pairs_end [] (omega arith))))
pair_added zero (byte ∷ bytes) a b whole one two = absurd (omega (arith, whole))
pair_added (suc count) bytes a b whole one two =
    let rest = drop 16 bytes in
    let first = pair (number 256 (take 8 bytes)) (number_from 8 bytes) in
    ap pairs_of_bytes (ap (λ bs. bs ++ (word a ++ word b)) (sym (take-append-drop 16 bytes)) ∙ append_assoc (take 16 bytes) rest (word a ++ word b))
    ∙ (front_first bytes (rest ++ (word a ++ word b)) (omega (arith, whole))
    ∙ (ap (λ (ps : List Pair). first ∷ ps) (pair_added count rest a b (length-drop 16 bytes ∙ omega (arith, whole)) one two)
    ∙ ap (λ (ps : List Pair). ps ++ pair a b ∷ []) (sym (pairs_cons bytes (omega (arith, whole))))))

-- bytes that are all 255
pub pairs_absent : (count n : ℕ) → n ≡ count * 16 → pairs_of_bytes (replicate n 255) ≡ replicate count absent_pair
pairs_absent zero n is = let none : n ≡ 0 = omega (arith, is) in ap (λ k. pairs_of_bytes (replicate k 255)) none ∙ pairs_end [] (omega arith)
pairs_absent (suc count) n is =
    let others = count * 16 in
    let more : n ≡ suc (suc (suc (suc (suc (suc (suc (suc (suc (suc (suc (suc (suc (suc (suc (suc others))))))))))))))) = omega (arith, is) in
    pairs_step (replicate 8 255) (replicate 8 255) (replicate others 255) (replicate n 255) refl refl (ap (λ k. replicate k 255) more) ∙ ap (λ (ps : List Pair). absent_pair ∷ ps) (pairs_absent count others refl)

-- the number that eight bytes are read as
pub eight_read : (bs : List ℕ) → length bs ≡ 8
    → from_le_bytes w64 (get_or bs 0 0 ∷ get_or bs 1 0 ∷ get_or bs 2 0 ∷ get_or bs 3 0 ∷ get_or bs 4 0 ∷ get_or bs 5 0 ∷ get_or bs 6 0 ∷ get_or bs 7 0 ∷ []) ≡ number 256 bs
eight_read (a ∷ b ∷ c ∷ d ∷ e ∷ f ∷ g ∷ h ∷ []) is = omega arith
eight_read [] is = absurd (omega arith)
eight_read (a ∷ []) is = absurd (omega arith)
eight_read (a ∷ b ∷ []) is = absurd (omega arith)
eight_read (a ∷ b ∷ c ∷ []) is = absurd (omega arith)
eight_read (a ∷ b ∷ c ∷ d ∷ []) is = absurd (omega arith)
eight_read (a ∷ b ∷ c ∷ d ∷ e ∷ []) is = absurd (omega arith)
eight_read (a ∷ b ∷ c ∷ d ∷ e ∷ f ∷ []) is = absurd (omega arith)
eight_read (a ∷ b ∷ c ∷ d ∷ e ∷ f ∷ g ∷ []) is = absurd (omega arith)
eight_read (a ∷ b ∷ c ∷ d ∷ e ∷ f ∷ g ∷ h ∷ i ∷ rest) is = absurd (omega arith)

-- eight bytes before others
pub eight_before : (bs others : List ℕ) → length bs ≡ 8
    → get_or bs 0 0 ∷ get_or bs 1 0 ∷ get_or bs 2 0 ∷ get_or bs 3 0 ∷ get_or bs 4 0 ∷ get_or bs 5 0 ∷ get_or bs 6 0 ∷ get_or bs 7 0 ∷ others ≡ bs ++ others
eight_before (a ∷ b ∷ c ∷ d ∷ e ∷ f ∷ g ∷ h ∷ []) others is = refl
eight_before [] others is = absurd (omega arith)
eight_before (a ∷ []) others is = absurd (omega arith)
eight_before (a ∷ b ∷ []) others is = absurd (omega arith)
eight_before (a ∷ b ∷ c ∷ []) others is = absurd (omega arith)
eight_before (a ∷ b ∷ c ∷ d ∷ []) others is = absurd (omega arith)
eight_before (a ∷ b ∷ c ∷ d ∷ e ∷ []) others is = absurd (omega arith)
eight_before (a ∷ b ∷ c ∷ d ∷ e ∷ f ∷ []) others is = absurd (omega arith)
eight_before (a ∷ b ∷ c ∷ d ∷ e ∷ f ∷ g ∷ []) others is = absurd (omega arith)
eight_before (a ∷ b ∷ c ∷ d ∷ e ∷ f ∷ g ∷ h ∷ i ∷ rest) others is = absurd (omega arith)

bytes_again : (bytes : List ℕ) → length bytes ≡ 8 → Each (λ b. b < 256) bytes → word (number 256 bytes) ≡ bytes
bytes_again bytes long below = ap (λ k. digits 256 k (number 256 bytes)) (sym long) ∙ digits_number 256 bytes below

-- bytes are those of their pairs
pub bytes_of_pairs : (count : ℕ) (bytes : List ℕ) → length bytes ≡ 16 * count → Each (λ b. b < 256) bytes → bytes ≡ pairs_bytes (pairs_of_bytes bytes)
bytes_of_pairs zero [] whole below = ap pairs_bytes (sym (pairs_end [] (omega arith)))
bytes_of_pairs zero (byte ∷ bytes) whole below = absurd (omega (arith, whole))
bytes_of_pairs (suc count) bytes whole below =
    let first = take 8 bytes in
    let second = take 8 (drop 8 bytes) in
    let rest = drop 16 bytes in
    let one : length first ≡ 8 = length-take 8 bytes ∙ omega (arith, whole) in
    let two : length second ≡ 8 = length-take 8 (drop 8 bytes) ∙ omega (arith, whole, length-drop 8 bytes) in
    let a = bytes_again first one (each-take (λ b. b < 256) 8 bytes below) in
    let b = bytes_again second two (each-take (λ b. b < 256) 8 (drop 8 bytes) (each-drop (λ b. b < 256) 8 bytes below)) in
    let others = bytes_of_pairs count rest (length-drop 16 bytes ∙ omega (arith, whole)) (each-drop (λ b. b < 256) 16 bytes below) in
    in_parts bytes
    ∙ (ap (λ bs. bs ++ (second ++ rest)) (sym a) ∙ (ap (λ bs. word (number 256 first) ++ (bs ++ rest)) (sym b) ∙ (ap (λ bs. word (number 256 first) ++ (word (number 256 second) ++ bs)) others
    ∙ (sym (append_assoc (word (number 256 first)) (word (number 256 second)) (pairs_bytes (pairs_of_bytes rest))) ∙ ap pairs_bytes (sym (pairs_cons bytes (omega (arith, whole))))))))

pub pair_more : {A E : Type 0} (result : Result A E) (bytes made added : List ℕ) (a b : ℕ) → made ≡ (if is_ok result then bytes ++ added else bytes) → added ≡ word a ++ word b → length bytes % 16 ≡ 0 → a < 2 ^ 64 → b < 2 ^ 64
    → OnOk result (pairs_of_bytes made ≡ pairs_of_bytes bytes ++ pair a b ∷ [])
pair_more (Ok x) bytes made added a b is new whole one two = ap pairs_of_bytes (is ∙ ap (λ bs. bytes ++ bs) new) ∙ pair_added (length bytes / 16) bytes a b (omega (arith, whole)) one two
pair_more (Err e) bytes made added a b is new whole one two = tt

-- the bytes of two words, one by one
pub words_listed : (u v : List ℕ) (a b : ℕ) → u ≡ word a → v ≡ word b
    → get_or u 0 0 ∷ get_or u 1 0 ∷ get_or u 2 0 ∷ get_or u 3 0 ∷ get_or u 4 0 ∷ get_or u 5 0 ∷ get_or u 6 0 ∷ get_or u 7 0 ∷ get_or v 0 0 ∷ get_or v 1 0 ∷ get_or v 2 0 ∷ get_or v 3 0 ∷ get_or v 4 0 ∷ get_or v 5 0 ∷ get_or v 6 0 ∷ get_or v 7 0 ∷ [] ≡ word a ++ word b
words_listed u v a b one two =
    let p : length u ≡ 8 = ap length one ∙ length-digits 256 8 a in
    let q : length v ≡ 8 = ap length two ∙ length-digits 256 8 b in
    eight_before u (get_or v 0 0 ∷ get_or v 1 0 ∷ get_or v 2 0 ∷ get_or v 3 0 ∷ get_or v 4 0 ∷ get_or v 5 0 ∷ get_or v 6 0 ∷ get_or v 7 0 ∷ []) p
    ∙ (ap (λ bs. u ++ bs) (eight_before v [] q ∙ append-nil v) ∙ (ap (λ bs. bs ++ v) one ∙ ap (λ bs. word a ++ bs) two))

-- the bytes of a number
pub le_word : (n : ℕ) → to_le_bytes w64 n ≡ word n
le_word n =
    let two : n / 65536 ≡ n / 256 / 256 = omega arith in
    let three : n / 16777216 ≡ n / 256 / 256 / 256 = omega arith in
    let four : n / 4294967296 ≡ n / 256 / 256 / 256 / 256 = omega arith in
    let five : n / 1099511627776 ≡ n / 256 / 256 / 256 / 256 / 256 = omega arith in
    let six : n / 281474976710656 ≡ n / 256 / 256 / 256 / 256 / 256 / 256 = omega arith in
    let seven : n / 72057594037927936 ≡ n / 256 / 256 / 256 / 256 / 256 / 256 / 256 = omega arith in
    λ i. n % 256 ∷ n / 256 % 256 ∷ two i % 256 ∷ three i % 256 ∷ four i % 256 ∷ five i % 256 ∷ six i % 256 ∷ seven i % 256 ∷ []
