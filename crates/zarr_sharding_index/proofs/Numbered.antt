-- Numbers of subchunks and pairs for them, side by side.
use Rattle.std.proofs.Common.{◌≡◌, ◌∙◌, ℕ, zero, suc, ◌+◌, ◌<◌, ◌≤◌, List, [], ◌∷◌, ◌++◌, ◌&&◌, length, get_or, set, map, ap, sym, refl, subst, arith, Bool, true, false, not, cond, append-nil}
use Rattle.std.specs.Prelude.{nat_lt}
use Rattle.std.specs.List.{filter, insert, list_all, range_with_len, remove}
use Rattle.std.proofs.lemmas.Bool.{and_from, and_parts, lt-ltb}
use Rattle.std.proofs.lemmas.List.{ext_get_or, length-map, map-append}
use Rattle.std.proofs.lemmas.List.Elements.{filter-append}
use Rattle.std.proofs.lemmas.List.FromFn.{get_or-map-range_with_len, length-range_with_len}
use Rattle.zarr_codecs_meaning.specs.Decoding.{is_absent}
use Rattle.zarr_codecs_meaning.specs.Encoding.{Pair, absent_pair}
use Rattle.zarr_codecs_traits.specs.declared.byte_range.ByteRange.{ByteRange}
use Rattle.zarr_sharding_index.specs.Listed.{IsListedAt, full_list, numbered, pair_listed, present_numbers}
use Rattle.zarr_sharding_index.specs.Views.{pair_of}
use Rattle.zarr_sharding_index.specs.declared.pair.PresentPair.{PresentPair}
use Rattle.zarr_sharding_index.proofs.Listed.{AreListed, ListsFirst, found_at, later_from, listed_lower, lists_absent, lists_none, lists_present, pair_here}

-- a number and a pair
abbrev pub one : ℕ → Pair → PresentPair
one n pair = record { number = n; range = record { offset = pair.0; length = pair.1 } }

pub length-numbered : (ns : List ℕ) (ps : List Pair) → length ns ≡ length ps → length (numbered ns ps) ≡ length ns
length-numbered [] ps is = refl
length-numbered (n ∷ ns) [] is = absurd (omega (arith, is))
length-numbered (n ∷ ns) (p ∷ ps) is = ap suc (length-numbered ns ps (omega (arith, is)))

pub at_numbered : (ns : List ℕ) (ps : List Pair) (i m : ℕ) (p : Pair) (d : PresentPair) → length ns ≡ length ps → i < length ns → get_or (numbered ns ps) i d ≡ one (get_or ns i m) (get_or ps i p)
at_numbered [] ps i m p d is low = absurd (omega (arith, low))
at_numbered (n ∷ ns) [] i m p d is low = absurd (omega (arith, is))
at_numbered (n ∷ ns) (q ∷ ps) zero m p d is low = refl
at_numbered (n ∷ ns) (q ∷ ps) (suc i) m p d is low = at_numbered ns ps i m p d (omega (arith, is)) (omega (arith, low))

-- ---- edits of both

pub set_numbered : (ns : List ℕ) (ps : List Pair) (i m : ℕ) (p : Pair) → numbered ns (set ps i p) ≡ set (numbered ns ps) i (one (get_or ns i m) p)
set_numbered [] ps i m p = refl
set_numbered (n ∷ ns) [] i m p = refl
set_numbered (n ∷ ns) (q ∷ ps) zero m p = refl
set_numbered (n ∷ ns) (q ∷ ps) (suc i) m p = ap (λ qs. one n q ∷ qs) (set_numbered ns ps i m p)

pub insert_numbered : (ns : List ℕ) (ps : List Pair) (i n : ℕ) (p : Pair) → length ns ≡ length ps → numbered (insert ns i n) (insert ps i p) ≡ insert (numbered ns ps) i (one n p)
insert_numbered [] [] zero n p is = refl
insert_numbered [] [] (suc i) n p is = refl
insert_numbered [] (q ∷ ps) i n p is = absurd (omega (arith, is))
insert_numbered (m ∷ ns) [] i n p is = absurd (omega (arith, is))
insert_numbered (m ∷ ns) (q ∷ ps) zero n p is = refl
insert_numbered (m ∷ ns) (q ∷ ps) (suc i) n p is = ap (λ qs. one m q ∷ qs) (insert_numbered ns ps i n p (omega (arith, is)))

pub remove_numbered : (ns : List ℕ) (ps : List Pair) (i : ℕ) → length ns ≡ length ps → numbered (remove ns i) (remove ps i) ≡ remove (numbered ns ps) i
remove_numbered [] [] zero is = refl
remove_numbered [] [] (suc i) is = refl
remove_numbered [] (q ∷ ps) i is = absurd (omega (arith, is))
remove_numbered (m ∷ ns) [] i is = absurd (omega (arith, is))
remove_numbered (m ∷ ns) (q ∷ ps) zero is = refl
remove_numbered (m ∷ ns) (q ∷ ps) (suc i) is = ap (λ qs. one m q ∷ qs) (remove_numbered ns ps i (omega (arith, is)))

push_numbered : (ns : List ℕ) (ps : List Pair) (n : ℕ) (p : Pair) → length ns ≡ length ps → numbered (ns ++ n ∷ []) (ps ++ p ∷ []) ≡ numbered ns ps ++ one n p ∷ []
push_numbered [] [] n p is = refl
push_numbered [] (q ∷ ps) n p is = absurd (omega (arith, is))
push_numbered (m ∷ ns) [] n p is = absurd (omega (arith, is))
push_numbered (m ∷ ns) (q ∷ ps) n p is = ap (λ qs. one m q ∷ qs) (push_numbered ns ps n p (omega (arith, is)))

-- what is taken away again
pub inserted_again : {X : Type 0} (ns : List X) (i : ℕ) (n : X) → i ≤ length ns → remove (insert ns i n) i ≡ ns
inserted_again [] zero n low = refl
inserted_again [] (suc i) n low = absurd (omega (arith, low))
inserted_again (m ∷ ns) zero n low = refl
inserted_again (m ∷ ns) (suc i) n low = ap (λ ms. m ∷ ms) (inserted_again ns i n (omega (arith, low)))

-- ---- a list of all pairs

-- numbers that rise from one on leave room for so many
listed_room : (from count : ℕ) (ps : List PresentPair) → from ≤ count → AreListed from count ps → from + length ps ≤ count
listed_room from count [] le h = omega (arith, le)
listed_room from count (p ∷ ps) le h =
    let first = h.0 in
    let below = h.1 in
    let rest = listed_room (p.number + 1) count ps (omega (arith, below)) h.3 in
    omega (arith, first, rest)

-- as many as there is room for are all of them
pub full_numbered : (from count : ℕ) (ns : List ℕ) (ps : List Pair) → length ns ≡ length ps → AreListed from count (numbered ns ps) → from + length ns ≡ count → map (pair_listed (numbered ns ps)) (range_with_len from (length ns)) ≡ ps
full_numbered from count [] [] is h all = refl
full_numbered from count [] (p ∷ ps) is h all = absurd (omega (arith, is))
full_numbered from count (n ∷ ns) [] is h all = absurd (omega (arith, is))
full_numbered from count (n ∷ ns) (p ∷ ps) is h all =
    let qs = numbered ns ps in
    let first = h.0 in
    let below = h.1 in
    let long = length-numbered ns ps (omega (arith, is)) in
    let room = listed_room (n + 1) count qs (omega (arith, below)) h.3 in
    let here : n ≡ from = omega (arith, first, room, long, all) in
    let rest = later_from (one n p) qs (from + 1) (length ns) (omega (arith, here)) in
    let next = full_numbered (from + 1) count ns ps (omega (arith, is)) (listed_lower (n + 1) (from + 1) count qs (omega (arith, here)) h.3) (omega (arith, all)) in
    ap (λ (q : Pair). q ∷ map (pair_listed (one n p ∷ qs)) (range_with_len (from + 1) (length ns))) (pair_here (one n p) qs from here) ∙ ap (λ (qs : List Pair). p ∷ qs) (rest ∙ next)

-- ---- the numbers of present subchunks

-- the pair with a number
abbrev pub at : List Pair → ℕ → Pair
at pairs n = get_or pairs n absent_pair

-- whether the subchunk with a number is present
abbrev pub there : List Pair → ℕ → Bool
there pairs n = not (is_absent (at pairs n))

-- the numbers of present subchunks below one
abbrev pub present_below : List Pair → ℕ → List ℕ
present_below pairs n = filter (there pairs) (range_with_len 0 n)

range_more : (a n : ℕ) → range_with_len a (suc n) ≡ range_with_len a n ++ (a + n) ∷ []
range_more a zero = let same : a ≡ a + 0 = omega arith in ap (λ k. k ∷ []) same
range_more a (suc n) = let next : a + 1 + n ≡ a + suc n = omega arith in ap (λ ns. a ∷ ns) (range_more (a + 1) n ∙ ap (λ k. range_with_len (a + 1) n ++ k ∷ []) next)

below_more : (pairs : List Pair) (n : ℕ) → present_below pairs (suc n) ≡ present_below pairs n ++ filter (there pairs) (n ∷ [])
below_more pairs n =
    let next : 0 + n ≡ n = omega arith in
    ap (filter (there pairs)) (range_more 0 n ∙ ap (λ k. range_with_len 0 n ++ k ∷ []) next) ∙ filter-append (there pairs) (range_with_len 0 n) (n ∷ [])

below_absent : (pairs : List Pair) (n : ℕ) → is_absent (at pairs n) ≡ true → present_below pairs (suc n) ≡ present_below pairs n
below_absent pairs n gone = below_more pairs n ∙ (ap (λ (b : Bool). present_below pairs n ++ cond (not b) (n ∷ []) []) gone ∙ append-nil (present_below pairs n))

below_present : (pairs : List Pair) (n : ℕ) → is_absent (at pairs n) ≡ false → present_below pairs (suc n) ≡ present_below pairs n ++ n ∷ []
below_present pairs n present = below_more pairs n ∙ ap (λ (b : Bool). present_below pairs n ++ cond (not b) (n ∷ []) []) present

-- the same, as a loop counts
pub more_absent : (pairs : List Pair) (n : ℕ) → is_absent (at pairs n) ≡ true → present_below pairs (n + 1) ≡ present_below pairs n
more_absent pairs n gone = let next : n + 1 ≡ suc n = omega arith in ap (present_below pairs) next ∙ below_absent pairs n gone

pub more_present : (pairs : List Pair) (n : ℕ) → is_absent (at pairs n) ≡ false → present_below pairs (n + 1) ≡ present_below pairs n ++ n ∷ []
more_present pairs n present = let next : n + 1 ≡ suc n = omega arith in ap (present_below pairs) next ∙ below_present pairs n present

-- numbers beside the pairs that they have
abbrev pub listed_of : List Pair → List ℕ → List PresentPair
listed_of pairs ns = numbered ns (map (at pairs) ns)

lists_next : (pairs : List Pair) (n : ℕ) (b : Bool) → is_absent (at pairs n) ≡ b → ListsFirst n pairs (listed_of pairs (present_below pairs n)) → ListsFirst (n + 1) pairs (listed_of pairs (present_below pairs (suc n)))
lists_next pairs n true gone h = subst (λ ns. ListsFirst (n + 1) pairs (listed_of pairs ns)) (sym (below_absent pairs n gone)) (lists_absent n pairs (listed_of pairs (present_below pairs n)) h gone)
lists_next pairs n false present h =
    let ns = present_below pairs n in
    let pushed = ap (numbered (ns ++ n ∷ [])) (map-append (at pairs) ns (n ∷ [])) ∙ push_numbered ns (map (at pairs) ns) n (at pairs n) (sym (length-map ns (at pairs))) in
    subst (λ ms. ListsFirst (n + 1) pairs (listed_of pairs ms)) (sym (below_present pairs n present))
    (subst (λ ps. ListsFirst (n + 1) pairs ps) (sym pushed) (lists_present n pairs (listed_of pairs ns) (one n (at pairs n)) h refl refl present))

pub lists_below : (pairs : List Pair) (n : ℕ) → ListsFirst n pairs (listed_of pairs (present_below pairs n))
lists_below pairs zero = lists_none pairs
lists_below pairs (suc n) =
    let next : n + 1 ≡ suc n = omega arith in
    subst (λ k. ListsFirst k pairs (listed_of pairs (present_below pairs (suc n)))) next (lists_next pairs n (is_absent (at pairs n)) refl (lists_below pairs n))

-- one number more
pub one_more : (n : ℕ) → range_with_len 0 (n + 1) ≡ range_with_len 0 n ++ n ∷ []
one_more n =
    let next : n + 1 ≡ suc n = omega arith in
    let here : 0 + n ≡ n = omega arith in
    ap (range_with_len 0) next ∙ (range_more 0 n ∙ ap (λ k. range_with_len 0 n ++ k ∷ []) here)

-- what holds of a number and of others holds of the others, with the number or without it
all_if : (q : ℕ → Bool) (b : Bool) (n : ℕ) (ns : List ℕ) → q n ≡ true → list_all q ns ≡ true → list_all q (cond b (n ∷ ns) ns) ≡ true
all_if q true n ns here rest = and_from (q n) (list_all q ns) here rest
all_if q false n ns here rest = rest

-- they are below the count of all
pub are_below : (p : ℕ → Bool) (a n count : ℕ) → a + n ≤ count → list_all (λ k. nat_lt k count) (filter p (range_with_len a n)) ≡ true
are_below p a zero count low = refl
are_below p a (suc n) count low = all_if (λ k. nat_lt k count) (p a) a (filter p (range_with_len (a + 1) n)) (lt-ltb a count (omega (arith, low))) (are_below p (a + 1) n count (omega (arith, low)))

-- where as many are present as there are, all are
short_if : (b : Bool) (n : ℕ) (ns : List ℕ) (long : ℕ) → length ns ≤ long → length (cond b (n ∷ ns) ns) ≤ suc long
short_if true n ns long h = omega (arith, h)
short_if false n ns long h = omega (arith, h)

filter_short : (p : ℕ → Bool) (ns : List ℕ) → length (filter p ns) ≤ length ns
filter_short p [] = omega arith
filter_short p (n ∷ ns) = short_if (p n) n (filter p ns) (length ns) (filter_short p ns)

whole_if : (b : Bool) (n : ℕ) (some ns : List ℕ) → length some ≤ length ns → (length some ≡ length ns → some ≡ ns) → length (cond b (n ∷ some) some) ≡ suc (length ns) → cond b (n ∷ some) some ≡ n ∷ ns
whole_if true n some ns short same all = ap (λ ms. n ∷ ms) (same (omega (arith, all)))
whole_if false n some ns short same all = absurd (omega (arith, all, short))

filter_whole : (p : ℕ → Bool) (ns : List ℕ) → length (filter p ns) ≡ length ns → filter p ns ≡ ns
filter_whole p [] is = refl
filter_whole p (n ∷ ns) is = whole_if (p n) n (filter p ns) ns (filter_short p ns) (filter_whole p ns) is

pairs_again : (pairs : List Pair) → map (at pairs) (range_with_len 0 (length pairs)) ≡ pairs
pairs_again pairs =
    let ns = range_with_len 0 (length pairs) in
    let long : length (map (at pairs) ns) ≡ length pairs = length-map ns (at pairs) ∙ length-range_with_len 0 (length pairs) in
    ext_get_or absent_pair (map (at pairs) ns) pairs long (λ k low. get_or-map-range_with_len (at pairs) 0 (length pairs) k k absent_pair (omega (arith, low, long)) (omega arith))

pub all_present : (pairs : List Pair) → length (present_numbers pairs) ≡ length pairs → map (at pairs) (present_numbers pairs) ≡ pairs
all_present pairs is =
    let ns = range_with_len 0 (length pairs) in
    ap (map (at pairs)) (filter_whole (there pairs) ns (is ∙ sym (length-range_with_len 0 (length pairs)))) ∙ pairs_again pairs

filter_all : (p : ℕ → Bool) (ns : List ℕ) → list_all p ns ≡ true → filter p ns ≡ ns
filter_all p [] all = refl
filter_all p (n ∷ ns) all =
    let both = and_parts (p n) (list_all p ns) all in
    ap (λ (b : Bool). cond b (n ∷ filter p ns) (filter p ns)) both.0 ∙ ap (λ ms. n ∷ ms) (filter_all p ns both.1)

all_mapped : (q : Pair → Bool) (f : ℕ → Pair) (ns : List ℕ) → list_all q (map f ns) ≡ list_all (λ n. q (f n)) ns
all_mapped q f [] = refl
all_mapped q f (n ∷ ns) = ap (λ b. q (f n) && b) (all_mapped q f ns)

-- where each subchunk is present, their numbers are all
all_numbers : (pairs : List Pair) → list_all (λ pair. not (is_absent pair)) pairs ≡ true → present_numbers pairs ≡ range_with_len 0 (length pairs)
all_numbers pairs all =
    let present : Pair → Bool = λ pair. not (is_absent pair) in
    let ns = range_with_len 0 (length pairs) in
    filter_all (there pairs) ns (sym (all_mapped present (at pairs) ns) ∙ (ap (list_all present) (pairs_again pairs) ∙ all))

-- the full list is made of all numbers and all pairs
pub record IsFull (count : ℕ) (pairs : List Pair) : Type 0 where
  pub numbers : range_with_len 0 count ≡ present_numbers pairs
  pub all : pairs ≡ map (at pairs) (present_numbers pairs)

pub full_made : (count : ℕ) (pairs : List Pair) → count ≡ length pairs → list_all (λ pair. not (is_absent pair)) pairs ≡ true → IsFull count pairs
full_made count pairs long all =
    let are = all_numbers pairs all in
    record { numbers = ap (range_with_len 0) long ∙ sym are; all = sym (pairs_again pairs) ∙ ap (map (at pairs)) (sym are) }

-- what holds of all holds of each
pub each_of : (p : ℕ → Bool) (ns : List ℕ) (i d : ℕ) → list_all p ns ≡ true → i < length ns → p (get_or ns i d) ≡ true
each_of p [] i d h low = absurd (omega (arith, low))
each_of p (n ∷ ns) zero d h low = (and_parts (p n) (list_all p ns) h).0
each_of p (n ∷ ns) (suc i) d h low = each_of p ns i d (and_parts (p n) (list_all p ns) h).1 (omega (arith, low))

-- a number and a pair, as they are read
pub one_is : {n m : ℕ} {range : ByteRange} {p : Pair} → n ≡ m → pair_of range ≡ p → record { number = n; range = range } ≡ one m p
one_is {n} {m} {range} {p} here there = ap (λ k. record { number = k; range = range }) here ∙ ap (λ (q : Pair). one m q) there

-- the pair that is found for a number
pub pair_numbered : (count n i : ℕ) (ns : List ℕ) (ps : List Pair) → length ns ≡ length ps → AreListed 0 count (numbered ns ps) → n < count → IsListedAt (numbered ns ps) n i → get_or ps i absent_pair ≡ get_or (full_list count (numbered ns ps)) n absent_pair
pair_numbered count n i ns ps is h low at =
    let no : PresentPair = one 0 absent_pair in
    let long = length-numbered ns ps is in
    let within = at.within in
    sym (ap (λ (p : PresentPair). pair_of p.range) (at_numbered ns ps i 0 absent_pair no is (omega (arith, within, long)))) ∙ found_at count n i (numbered ns ps) no h low at
