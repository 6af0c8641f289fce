-- Pairs of present subchunks that are listed by the numbers of these, and the full list that they stand for.
use Rattle.std.proofs.Common.{◌≡◌, ℕ, zero, suc, ◌+◌, ◌<◌, ◌≤◌, List, [], ◌∷◌, ◌++◌, length, get_or, set, take, map, replicate, ap, ◌∙◌, sym, refl, subst, arith, inl, inr, Bool, true, false, not, ◌&&◌, ◌==◌, cond, ◌-◌, ◌^◌, if◌then◌else◌, zero-add, length-take, get_or-set_other, get_or-set_same}
use Rattle.std.specs.Prelude.{nat_le, nat_lt}
use Rattle.std.specs.List.{filter, insert, list_all, range_with_len, remove}
use Rattle.std.proofs.lemmas.Bool.{and_from, and_left, and_parts, cases_eq, cases_lt, eq-eqb, eqb-true, le-leb, leb-true, lt-ltb, ltb-true, ne_eqb, not-true, true≢false}
use Rattle.std.proofs.lemmas.List.{ext_get_or, get_or_default, get_or_past, get_or-map, get_or-take, length-map, length-set, take_more}
use Rattle.zarr_codecs_meaning.specs.Decoding.{is_absent}
use Rattle.zarr_codecs_meaning.specs.Encoding.{Pair, absent_pair}
use Rattle.zarr_sharding_index.specs.Listed.{IsGapFor, IsListedAt, are_present, count_present, full_list, pair_listed}
use Rattle.zarr_sharding_index.specs.Views.{pair_of}
use Rattle.zarr_sharding_index.specs.declared.pair.PresentPair.{PresentPair}
use Rattle.zarr_sharding_index.proofs.PairBytes.{pair_is}

-- ---- what is listed, part by part

-- the numbers rise from one on and stay below a count, and each pair is that of a present subchunk
abbrev pub AreListed : ℕ → ℕ → List PresentPair → Type 0
AreListed from count [] = Unit {0}
AreListed from count (p ∷ ps) = (from ≤ p.number) × (p.number < count) × (is_absent (pair_of p.range) ≡ false) × AreListed (p.number + 1) count ps

pub are_listed : (from count : ℕ) (ps : List PresentPair) → are_present from count ps ≡ true → AreListed from count ps
are_listed from count [] h = tt
are_listed from count (p ∷ ps) h =
    let there = not (is_absent (pair_of p.range)) in
    let all = and_parts (nat_le from p.number && nat_lt p.number count && there) (are_present (p.number + 1) count ps) h in
    let first = and_parts (nat_le from p.number && nat_lt p.number count) there all.0 in
    let ends = and_parts (nat_le from p.number) (nat_lt p.number count) first.0 in
    (leb-true from p.number ends.0, ltb-true p.number count ends.1, not-true (is_absent (pair_of p.range)) first.1, are_listed (p.number + 1) count ps all.1)

pub are_told : (from count : ℕ) (ps : List PresentPair) → AreListed from count ps → are_present from count ps ≡ true
are_told from count [] h = refl
are_told from count (p ∷ ps) h =
    let there = not (is_absent (pair_of p.range)) in
    let ends = and_from (nat_le from p.number) (nat_lt p.number count) (le-leb from p.number h.0) (lt-ltb p.number count h.1) in
    let first = and_from (nat_le from p.number && nat_lt p.number count) there ends (ap not h.2) in
    and_from (nat_le from p.number && nat_lt p.number count && there) (are_present (p.number + 1) count ps) first (are_told (p.number + 1) count ps h.3)

-- the same from a lower number on
pub listed_lower : (from low count : ℕ) (ps : List PresentPair) → low ≤ from → AreListed from count ps → AreListed low count ps
listed_lower from low count [] le h = tt
listed_lower from low count (p ∷ ps) le h = let first = h.0 in (omega (arith, le, first), h.1, h.2, h.3)

-- the same below a greater count
listed_wider : (from count wide : ℕ) (ps : List PresentPair) → count ≤ wide → AreListed from count ps → AreListed from wide ps
listed_wider from count wide [] le h = tt
listed_wider from count wide (p ∷ ps) le h = let below = h.1 in (h.0, omega (arith, le, below), h.2, listed_wider (p.number + 1) count wide ps le h.3)

number_from : (from count : ℕ) (ps : List PresentPair) (i : ℕ) (d : PresentPair) → AreListed from count ps → i < length ps → from ≤ (get_or ps i d).number
number_from from count [] i d h low = absurd (omega (arith, low))
number_from from count (p ∷ ps) zero d h low = h.0
number_from from count (p ∷ ps) (suc i) d h low =
    let first = h.0 in
    let next = number_from (p.number + 1) count ps i d h.3 (omega (arith, low)) in
    omega (arith, first, next)

pub number_below : (from count : ℕ) (ps : List PresentPair) (i : ℕ) (d : PresentPair) → AreListed from count ps → i < length ps → (get_or ps i d).number < count
number_below from count [] i d h low = absurd (omega (arith, low))
number_below from count (p ∷ ps) zero d h low = h.1
number_below from count (p ∷ ps) (suc i) d h low = number_below (p.number + 1) count ps i d h.3 (omega (arith, low))

pub numbers_rise : (from count : ℕ) (ps : List PresentPair) (i j : ℕ) (d : PresentPair) → AreListed from count ps → i < j → j < length ps → (get_or ps i d).number < (get_or ps j d).number
numbers_rise from count [] i j d h lt low = absurd (omega (arith, low))
numbers_rise from count (p ∷ ps) i zero d h lt low = absurd (omega (arith, lt))
numbers_rise from count (p ∷ ps) zero (suc j) d h lt low = let next = number_from (p.number + 1) count ps j d h.3 (omega (arith, low)) in omega (arith, next)
numbers_rise from count (p ∷ ps) (suc i) (suc j) d h lt low = numbers_rise (p.number + 1) count ps i j d h.3 (omega (arith, lt)) (omega (arith, low))

-- ---- the pair of a subchunk

pub pair_here : (p : PresentPair) (ps : List PresentPair) (n : ℕ) → p.number ≡ n → pair_listed (p ∷ ps) n ≡ pair_of p.range
pair_here p ps n is = ap (λ (b : Bool). if b then pair_of p.range else pair_listed ps n) (eq-eqb p.number n is)

pair_later : (p : PresentPair) (ps : List PresentPair) (n : ℕ) → (p.number ≡ n → ⊥) → pair_listed (p ∷ ps) n ≡ pair_listed ps n
pair_later p ps n differs = ap (λ (b : Bool). if b then pair_of p.range else pair_listed ps n) (ne_eqb p.number n differs)

-- no pair is listed for a number below the first
pair_before : (from count n : ℕ) (ps : List PresentPair) → AreListed from count ps → n < from → pair_listed ps n ≡ absent_pair
pair_before from count n [] h low = refl
pair_before from count n (p ∷ ps) h low =
    let first = h.0 in
    pair_later p ps n (λ e. omega (arith, e, first, low)) ∙ pair_before (p.number + 1) count n ps h.3 (omega (arith, first, low))

-- none of the first pairs has a number
abbrev pub HasNoneBefore : List PresentPair → ℕ → ℕ → Type 0
HasNoneBefore ps n i = (j : ℕ) (d : PresentPair) → j < i → (get_or ps j d).number ≡ n → ⊥

none_later : (p : PresentPair) (ps : List PresentPair) (n i : ℕ) → HasNoneBefore (p ∷ ps) n (suc i) → HasNoneBefore ps n i
none_later p ps n i none j d lt = none (suc j) d (omega (arith, lt))

pair_missing : (n : ℕ) (ps : List PresentPair) → HasNoneBefore ps n (length ps) → pair_listed ps n ≡ absent_pair
pair_missing n [] none = refl
pair_missing n (p ∷ ps) none = pair_later p ps n (none 0 p (omega arith)) ∙ pair_missing n ps (none_later p ps n (length ps) none)

-- the pair at a place
pub pair_at_place : (n : ℕ) (ps : List PresentPair) (i : ℕ) (d : PresentPair) → HasNoneBefore ps n i → i < length ps → (get_or ps i d).number ≡ n → pair_listed ps n ≡ pair_of (get_or ps i d).range
pair_at_place n [] i d none low is = absurd (omega (arith, low))
pair_at_place n (p ∷ ps) zero d none low is = pair_here p ps n is
pair_at_place n (p ∷ ps) (suc i) d none low is = pair_later p ps n (none 0 p (omega arith)) ∙ pair_at_place n ps i d (none_later p ps n i none) (omega (arith, low)) is

-- ---- one pair that is replaced

-- the pair of one subchunk is another, and all others stay
abbrev pub IsReplaced : List PresentPair → List PresentPair → ℕ → Pair → Type 0
IsReplaced ps qs n pair = (k : ℕ) → pair_listed qs k ≡ (if n == k then pair else pair_listed ps k)

at_number : (n k : ℕ) (x y : Pair) → n ≡ k → (if n == k then x else y) ≡ x
at_number n k x y is = ap (λ (b : Bool). if b then x else y) (eq-eqb n k is)

past_number : (n k : ℕ) (x y : Pair) → (n ≡ k → ⊥) → (if n == k then x else y) ≡ y
past_number n k x y differs = ap (λ (b : Bool). if b then x else y) (ne_eqb n k differs)

-- in front of all others
in_front : (q : PresentPair) (ps : List PresentPair) (n : ℕ) → q.number ≡ n → IsReplaced ps (q ∷ ps) n (pair_of q.range)
in_front q ps n is k = ap (λ m. if m == k then pair_of q.range else pair_listed ps k) is

-- behind a pair of another number
behind : (p : PresentPair) (ps qs : List PresentPair) (n : ℕ) (pair : Pair) → (p.number ≡ n → ⊥) → IsReplaced ps qs n pair → IsReplaced (p ∷ ps) (p ∷ qs) n pair
behind p ps qs n pair differs same k = elim (cases_eq p.number k) [
  | inl e ↦ pair_here p qs k e ∙ (sym (pair_here p ps k e) ∙ sym (past_number n k pair (pair_listed (p ∷ ps) k) (λ is. differs (e ∙ sym is))))
  | inr ne ↦ pair_later p qs k ne ∙ (same k ∙ ap (λ (x : Pair). if n == k then pair else x) (sym (pair_later p ps k ne)))
]

-- in the place of a pair of the same number
in_place : (p : PresentPair) (ps qs : List PresentPair) (n : ℕ) (pair : Pair) → p.number ≡ n → IsReplaced ps qs n pair → IsReplaced (p ∷ ps) qs n pair
in_place p ps qs n pair is same k = elim (cases_eq n k) [
  | inl e ↦ same k ∙ (at_number n k pair (pair_listed ps k) e ∙ sym (at_number n k pair (pair_listed (p ∷ ps) k) e))
  | inr ne ↦ same k ∙ (past_number n k pair (pair_listed ps k) ne ∙ (sym (pair_later p ps k (λ e. ne (sym is ∙ e))) ∙ sym (past_number n k pair (pair_listed (p ∷ ps) k) ne)))
]

-- where it was absent, and stays so
stays_absent : (ps : List PresentPair) (n : ℕ) → pair_listed ps n ≡ absent_pair → IsReplaced ps ps n absent_pair
stays_absent ps n none k = elim (cases_eq n k) [
  | inl e ↦ ap (pair_listed ps) (sym e) ∙ (none ∙ sym (at_number n k absent_pair (pair_listed ps k) e))
  | inr ne ↦ sym (past_number n k absent_pair (pair_listed ps k) ne)
]

pair_set : (n i : ℕ) (ps : List PresentPair) (q : PresentPair) → HasNoneBefore ps n i → i < length ps → ((d : PresentPair) → (get_or ps i d).number ≡ n) → q.number ≡ n → IsReplaced ps (set ps i q) n (pair_of q.range)
pair_set n i [] q none low here is = absurd (omega (arith, low))
pair_set n zero (p ∷ ps) q none low here is = in_place p ps (q ∷ ps) n (pair_of q.range) (here p) (in_front q ps n is)
pair_set n (suc i) (p ∷ ps) q none low here is = behind p ps (set ps i q) n (pair_of q.range) (none 0 p (omega arith)) (pair_set n i ps q (none_later p ps n i none) (omega (arith, low)) here is)

pair_inserted : (n i : ℕ) (ps : List PresentPair) (q : PresentPair) → HasNoneBefore ps n i → i ≤ length ps → q.number ≡ n → IsReplaced ps (insert ps i q) n (pair_of q.range)
pair_inserted n zero ps q none low is = in_front q ps n is
pair_inserted n (suc i) [] q none low is = absurd (omega (arith, low))
pair_inserted n (suc i) (p ∷ ps) q none low is = behind p ps (insert ps i q) n (pair_of q.range) (none 0 p (omega arith)) (pair_inserted n i ps q (none_later p ps n i none) (omega (arith, low)) is)

pair_removed : (from count n i : ℕ) (ps : List PresentPair) → AreListed from count ps → HasNoneBefore ps n i → i < length ps → ((d : PresentPair) → (get_or ps i d).number ≡ n) → IsReplaced ps (remove ps i) n absent_pair
pair_removed from count n i [] h none low here = absurd (omega (arith, low))
pair_removed from count n zero (p ∷ ps) h none low here =
    let is : p.number ≡ n = here p in
    in_place p ps ps n absent_pair is (stays_absent ps n (pair_before (p.number + 1) count n ps h.3 (omega (arith, is))))
pair_removed from count n (suc i) (p ∷ ps) h none low here =
    behind p ps (remove ps i) n absent_pair (none 0 p (omega arith)) (pair_removed (p.number + 1) count n i ps h.3 (none_later p ps n i none) (omega (arith, low)) here)

pair_pushed : (n : ℕ) (ps : List PresentPair) (q : PresentPair) → HasNoneBefore ps n (length ps) → q.number ≡ n → IsReplaced ps (ps ++ q ∷ []) n (pair_of q.range)
pair_pushed n [] q none is = in_front q [] n is
pair_pushed n (p ∷ ps) q none is = behind p ps (ps ++ q ∷ []) n (pair_of q.range) (none 0 p (omega arith)) (pair_pushed n ps q (none_later p ps n (length ps) none) is)

-- ---- what is listed after an edit

listed_set : (from count i : ℕ) (ps : List PresentPair) (q : PresentPair) → AreListed from count ps → i < length ps → ((d : PresentPair) → (get_or ps i d).number ≡ q.number) → is_absent (pair_of q.range) ≡ false → AreListed from count (set ps i q)
listed_set from count i [] q h low here there = absurd (omega (arith, low))
listed_set from count zero (p ∷ ps) q h low here there =
    let is : p.number ≡ q.number = here p in
    let first = h.0 in
    let below = h.1 in
    (omega (arith, is, first), omega (arith, is, below), there, listed_lower (p.number + 1) (q.number + 1) count ps (omega (arith, is)) h.3)
listed_set from count (suc i) (p ∷ ps) q h low here there = (h.0, h.1, h.2, listed_set (p.number + 1) count i ps q h.3 (omega (arith, low)) here there)

listed_inserted : (from count i : ℕ) (ps : List PresentPair) (q : PresentPair) → AreListed from count ps → from ≤ q.number → q.number < count → is_absent (pair_of q.range) ≡ false → IsGapFor ps q.number i → AreListed from count (insert ps i q)
listed_inserted from count zero [] q h first below there gap = (first, below, there, tt)
listed_inserted from count zero (p ∷ ps) q h first below there gap =
    let next = gap.after 0 p (omega arith) (omega arith) in
    (first, below, there, (omega (arith, next), h.1, h.2, h.3))
listed_inserted from count (suc i) [] q h first below there gap = let within = gap.within in absurd (omega (arith, within))
listed_inserted from count (suc i) (p ∷ ps) q h first below there gap =
    let last = gap.before 0 p (omega arith) in
    let within = gap.within in
    let rest : IsGapFor ps q.number i = record {
      within = omega (arith, within);
      before = λ j d lt. gap.before (suc j) d (omega (arith, lt));
      after = λ j d le lt. gap.after (suc j) d (omega (arith, le)) (omega (arith, lt));
    } in
    (h.0, h.1, h.2, listed_inserted (p.number + 1) count i ps q h.3 (omega (arith, last)) below there rest)

listed_removed : (from count i : ℕ) (ps : List PresentPair) → AreListed from count ps → i < length ps → AreListed from count (remove ps i)
listed_removed from count i [] h low = absurd (omega (arith, low))
listed_removed from count zero (p ∷ ps) h low = let first = h.0 in listed_lower (p.number + 1) from count ps (omega (arith, first)) h.3
listed_removed from count (suc i) (p ∷ ps) h low = (h.0, h.1, h.2, listed_removed (p.number + 1) count i ps h.3 (omega (arith, low)))

listed_pushed : (from n : ℕ) (ps : List PresentPair) (q : PresentPair) → AreListed from n ps → from ≤ n → q.number ≡ n → is_absent (pair_of q.range) ≡ false → AreListed from (n + 1) (ps ++ q ∷ [])
listed_pushed from n [] q h first is there = (omega (arith, first, is), omega (arith, is), there, tt)
listed_pushed from n (p ∷ ps) q h first is there =
    let below = h.1 in
    (h.0, omega (arith, below), h.2, listed_pushed (p.number + 1) n ps q h.3 (omega (arith, below)) is there)

-- ---- the full list

range_length : (a m : ℕ) → length (range_with_len a m) ≡ m
range_length a zero = refl
range_length a (suc m) = ap suc (range_length (a + 1) m)

range_at : (a m k : ℕ) → k < m → get_or (range_with_len a m) k 0 ≡ a + k
range_at a zero k low = absurd (omega (arith, low))
range_at a (suc m) zero low = omega arith
range_at a (suc m) (suc k) low = let rest = range_at (a + 1) m k (omega (arith, low)) in omega (arith, rest)

pub full_length : (count : ℕ) (ps : List PresentPair) → length (full_list count ps) ≡ count
full_length count ps = length-map (range_with_len 0 count) (pair_listed ps) ∙ range_length 0 count

pub full_at : (count k : ℕ) (ps : List PresentPair) → k < count → get_or (full_list count ps) k absent_pair ≡ pair_listed ps k
full_at count k ps low =
    let long = range_length 0 count in
    let is : get_or (range_with_len 0 count) k 0 ≡ k = range_at 0 count k low ∙ zero-add k in
    get_or-map (pair_listed ps) (range_with_len 0 count) k 0 absent_pair (omega (arith, low, long)) ∙ ap (pair_listed ps) is

full_replaced : (count n : ℕ) (pair : Pair) (ps qs : List PresentPair) → IsReplaced ps qs n pair → full_list count qs ≡ set (full_list count ps) n pair
full_replaced count n pair ps qs same =
    let all = full_list count ps in
    let long = full_length count ps in
    let new = full_length count qs in
    ext_get_or absent_pair (full_list count qs) (set all n pair) (new ∙ sym (length-set all n pair ∙ long)) (λ k low.
    let below : k < count = omega (arith, low, new) in
    full_at count k qs below ∙ (same k ∙ (elim (cases_eq k n) [
      | inl e ↦ at_number n k pair (pair_listed ps k) (sym e) ∙ sym (ap (λ j. get_or (set all n pair) j absent_pair) e ∙ get_or-set_same all n pair absent_pair (omega (arith, e, below, long)))
      | inr ne ↦ past_number n k pair (pair_listed ps k) (λ e. ne (sym e)) ∙ sym (get_or-set_other all n k pair absent_pair ne ∙ full_at count k ps below)
    ])))

absent_from : (a m : ℕ) → map (pair_listed []) (range_with_len a m) ≡ replicate m absent_pair
absent_from a zero = refl
absent_from a (suc m) = ap (λ (ps : List Pair). absent_pair ∷ ps) (absent_from (a + 1) m)

pub full_absent : (count : ℕ) → full_list count [] ≡ replicate count absent_pair
full_absent count = absent_from 0 count

-- ---- look-ups and edits, by the place of a number

none_before : (count n i : ℕ) (ps : List PresentPair) → AreListed 0 count ps → IsListedAt ps n i → HasNoneBefore ps n i
none_before count n i ps h at j d lt is =
    let rise = numbers_rise 0 count ps j i d h lt at.within in
    let here = at.number d in
    omega (arith, rise, here, is)

none_in_gap : (n i : ℕ) (ps : List PresentPair) → IsGapFor ps n i → HasNoneBefore ps n i
none_in_gap n i ps gap j d lt is = let less = gap.before j d lt in omega (arith, less, is)

-- a number that has a gap is none of all
gap_absent : (n i : ℕ) (ps : List PresentPair) → IsGapFor ps n i → pair_listed ps n ≡ absent_pair
gap_absent n i ps gap = pair_missing n ps (λ j d lt is. elim (cases_lt j i) [
  | inl l ↦ let less = gap.before j d l in omega (arith, less, is)
  | inr l ↦ let more = gap.after j d l lt in omega (arith, more, is)
])

pub found_at : (count n i : ℕ) (ps : List PresentPair) (d : PresentPair) → AreListed 0 count ps → n < count → IsListedAt ps n i → pair_of (get_or ps i d).range ≡ get_or (full_list count ps) n absent_pair
found_at count n i ps d h low at = sym (full_at count n ps low ∙ pair_at_place n ps i d (none_before count n i ps h at) at.within (at.number d))

pub missing_in_gap : (count n i : ℕ) (ps : List PresentPair) → n < count → IsGapFor ps n i → absent_pair ≡ get_or (full_list count ps) n absent_pair
missing_in_gap count n i ps low gap = sym (full_at count n ps low ∙ gap_absent n i ps gap)

-- a number that is past the last subchunk, or has a gap, isn't that of a present one
pub gap_not_present : (count n i : ℕ) (ps : List PresentPair) → IsGapFor ps n i → is_absent (get_or (full_list count ps) n absent_pair) ≡ false → ⊥
gap_not_present count n i ps gap there = elim (cases_lt n count) [
  | inl l ↦ let gone = ap is_absent (missing_in_gap count n i ps l gap) ∙ there in true≢false gone
  | inr l ↦
      let long = full_length count ps in
      let gone = ap is_absent (sym (get_or_past (full_list count ps) n absent_pair (omega (arith, l, long)))) ∙ there in
      true≢false gone
]

pub full_set : (count n i : ℕ) (ps : List PresentPair) (q : PresentPair) → AreListed 0 count ps → IsListedAt ps n i → q.number ≡ n → full_list count (set ps i q) ≡ set (full_list count ps) n (pair_of q.range)
full_set count n i ps q h at is = full_replaced count n (pair_of q.range) ps (set ps i q) (pair_set n i ps q (none_before count n i ps h at) at.within at.number is)

pub full_inserted : (count n i : ℕ) (ps : List PresentPair) (q : PresentPair) → IsGapFor ps n i → q.number ≡ n → full_list count (insert ps i q) ≡ set (full_list count ps) n (pair_of q.range)
full_inserted count n i ps q gap is = full_replaced count n (pair_of q.range) ps (insert ps i q) (pair_inserted n i ps q (none_in_gap n i ps gap) gap.within is)

pub full_removed : (count n i : ℕ) (ps : List PresentPair) → AreListed 0 count ps → IsListedAt ps n i → full_list count (remove ps i) ≡ set (full_list count ps) n absent_pair
full_removed count n i ps h at = full_replaced count n absent_pair ps (remove ps i) (pair_removed 0 count n i ps h (none_before count n i ps h at) at.within at.number)

pub full_kept : (count n i : ℕ) (ps : List PresentPair) → IsGapFor ps n i → full_list count ps ≡ set (full_list count ps) n absent_pair
full_kept count n i ps gap = full_replaced count n absent_pair ps ps (stays_absent ps n (gap_absent n i ps gap))

-- and what is listed then
pub present_set : (count i : ℕ) (ps : List PresentPair) (q : PresentPair) → are_present 0 count ps ≡ true → IsListedAt ps q.number i → is_absent (pair_of q.range) ≡ false → are_present 0 count (set ps i q) ≡ true
present_set count i ps q h at there = are_told 0 count (set ps i q) (listed_set 0 count i ps q (are_listed 0 count ps h) at.within at.number there)

pub present_inserted : (count i : ℕ) (ps : List PresentPair) (q : PresentPair) → are_present 0 count ps ≡ true → q.number < count → IsGapFor ps q.number i → is_absent (pair_of q.range) ≡ false → are_present 0 count (insert ps i q) ≡ true
present_inserted count i ps q h below gap there = are_told 0 count (insert ps i q) (listed_inserted 0 count i ps q (are_listed 0 count ps h) (omega arith) below there gap)

pub present_removed : (count i : ℕ) (ps : List PresentPair) → are_present 0 count ps ≡ true → i < length ps → are_present 0 count (remove ps i) ≡ true
present_removed count i ps h low = are_told 0 count (remove ps i) (listed_removed 0 count i ps (are_listed 0 count ps h) low)

-- of two lists
pub present_either : (count : ℕ) (b : Bool) (ps qs : List PresentPair) → are_present 0 count ps ≡ true → are_present 0 count qs ≡ true → are_present 0 count (if b then ps else qs) ≡ true
present_either count true ps qs h k = h
present_either count false ps qs h k = k

-- ---- a list made of all pairs, one after another

-- the pairs of the first subchunks are listed, as far as they are present
pub record ListsFirst (n : ℕ) (pairs : List Pair) (ps : List PresentPair) : Type 0 where
  pub are : AreListed 0 n ps
  pub same : (k : ℕ) → k < n → pair_listed ps k ≡ get_or pairs k absent_pair

pub lists_none : (pairs : List Pair) → ListsFirst 0 pairs []
lists_none pairs = record { are = tt; same = λ k low. absurd (omega (arith, low)) }

pub absent_is : (pair : Pair) → is_absent pair ≡ true → pair ≡ absent_pair
absent_is (m, n) gone =
    let both = and_parts (m == 2 ^ 64 - 1) (n == 2 ^ 64 - 1) gone in
    pair_is (eqb-true m (2 ^ 64 - 1) both.0) (eqb-true n (2 ^ 64 - 1) both.1)

-- what holds of each number below the next one
below_next : (P : ℕ → Type 0) (n : ℕ) → ((k : ℕ) → k < n → P k) → P n → (k : ℕ) → k < n + 1 → P k
below_next P n each here k low = elim (cases_lt k n) [
  | inl l ↦ each k l
  | inr l ↦ let is : n ≡ k = omega (arith, l, low) in subst P is here
]

none_listed : (n : ℕ) (ps : List PresentPair) → AreListed 0 n ps → HasNoneBefore ps n (length ps)
none_listed n ps h j d lt is = let below = number_below 0 n ps j d h lt in omega (arith, below, is)

pub lists_absent : (n : ℕ) (pairs : List Pair) (ps : List PresentPair) → ListsFirst n pairs ps → is_absent (get_or pairs n absent_pair) ≡ true → ListsFirst (n + 1) pairs ps
lists_absent n pairs ps h gone = record {
  are = listed_wider 0 n (n + 1) ps (omega arith) h.are;
  same = below_next (λ k. pair_listed ps k ≡ get_or pairs k absent_pair) n h.same (pair_missing n ps (none_listed n ps h.are) ∙ sym (absent_is (get_or pairs n absent_pair) gone));
}

pub lists_present : (n : ℕ) (pairs : List Pair) (ps : List PresentPair) (q : PresentPair) → ListsFirst n pairs ps → q.number ≡ n → pair_of q.range ≡ get_or pairs n absent_pair → is_absent (pair_of q.range) ≡ false → ListsFirst (n + 1) pairs (ps ++ q ∷ [])
lists_present n pairs ps q h is pair there =
    let new = pair_pushed n ps q (none_listed n ps h.are) is in
    record {
      are = listed_pushed 0 n ps q h.are (omega arith) is there;
      same = below_next (λ k. pair_listed (ps ++ q ∷ []) k ≡ get_or pairs k absent_pair) n
          (λ k low. new k ∙ (past_number n k (pair_of q.range) (pair_listed ps k) (λ e. omega (arith, e, low)) ∙ h.same k low))
          (new n ∙ (at_number n n (pair_of q.range) (pair_listed ps n) refl ∙ pair));
    }

pub lists_all : (count : ℕ) (pairs : List Pair) (ps : List PresentPair) → count ≡ length pairs → ListsFirst count pairs ps → full_list count ps ≡ pairs
lists_all count pairs ps long h =
    let new = full_length count ps in
    ext_get_or absent_pair (full_list count ps) pairs (new ∙ long) (λ k low. let below : k < count = omega (arith, low, new) in full_at count k ps below ∙ h.same k below)

-- ---- the full list made of what is listed, one pair after another

pub full_more : (count i : ℕ) (ps : List PresentPair) (d : PresentPair) → AreListed 0 count ps → i < length ps
    → full_list count (take (i + 1) ps) ≡ set (full_list count (take i ps)) (get_or ps i d).number (pair_of (get_or ps i d).range)
full_more count i ps d h low =
    let q = get_or ps i d in
    let front = take i ps in
    let long = length-take i ps in
    let none : HasNoneBefore front q.number (length front) = λ j e lt is.
    let lower : j < i = omega (arith, lt, long) in
    let rise = numbers_rise 0 count ps j i d h lower low in
    let same = get_or-take i ps j d lower in
    let there = get_or_default front j e d lt in
    let number = ap (λ (p : PresentPair). p.number) (there ∙ same) in
    omega (arith, rise, number, is) in
    ap (full_list count) (take_more ps i d low) ∙ full_replaced count q.number (pair_of q.range) front (front ++ q ∷ []) (pair_pushed q.number front q none refl)

-- ---- tests of all pairs

-- behind the number of the first pair
pub later_from : (p : PresentPair) (ps : List PresentPair) (a m : ℕ) → p.number < a → map (pair_listed (p ∷ ps)) (range_with_len a m) ≡ map (pair_listed ps) (range_with_len a m)
later_from p ps a zero low = refl
later_from p ps a (suc m) low =
    let first = pair_later p ps a (λ e. omega (arith, e, low)) in
    let rest = later_from p ps (a + 1) m (omega (arith, low)) in
    λ i. first i ∷ rest i

-- a function of all pairs that passes over absent ones is one of those listed
module _ {A : Type 0} (all : List Pair → A) (some : List PresentPair → A) (none : all [] ≡ some []) (absent : (pairs : List Pair) → all (absent_pair ∷ pairs) ≡ all pairs)
    (more : (p : PresentPair) (ps : List PresentPair) (pairs : List Pair) → is_absent (pair_of p.range) ≡ false → all pairs ≡ some ps → all (pair_of p.range ∷ pairs) ≡ some (p ∷ ps)) where
  over_from : (a m count : ℕ) (ps : List PresentPair) → a + m ≡ count → AreListed a count ps → all (map (pair_listed ps) (range_with_len a m)) ≡ some ps
  over_from a zero count [] is h = none
  over_from a zero count (p ∷ ps) is h = let first = h.0 in let below = h.1 in absurd (omega (arith, is, first, below))
  over_from a (suc m) count [] is h = absent (map (pair_listed []) (range_with_len (a + 1) m)) ∙ over_from (a + 1) m count [] (omega (arith, is)) tt
  over_from a (suc m) count (p ∷ ps) is h =
      let first = h.0 in
      let rest = map (pair_listed (p ∷ ps)) (range_with_len (a + 1) m) in
      elim (cases_eq p.number a) [
        | inl e ↦
            let others = later_from p ps (a + 1) m (omega (arith, e)) in
            let next = over_from (a + 1) m count ps (omega (arith, is)) (listed_lower (p.number + 1) (a + 1) count ps (omega (arith, e)) h.3) in
            ap (λ (pair : Pair). all (pair ∷ rest)) (pair_here p ps a e) ∙ more p ps rest h.2 (ap all others ∙ next)
        | inr ne ↦
            let listed : AreListed (a + 1) count (p ∷ ps) = (omega (arith, first, ne), h.1, h.2, h.3) in
            ap (λ (pair : Pair). all (pair ∷ rest)) (pair_before (a + 1) count a (p ∷ ps) listed (omega arith)) ∙ (absent rest ∙ over_from (a + 1) m count (p ∷ ps) (omega (arith, is)) listed)
      ]

-- as many are present as are listed
pub full_count : (count : ℕ) (ps : List PresentPair) → AreListed 0 count ps → count_present (full_list count ps) ≡ length ps
full_count count ps h =
    let there : Pair → Bool = λ pair. not (is_absent pair) in
    over_from count_present (λ (ps : List PresentPair). length ps) refl (λ pairs. refl)
    (λ p ps pairs present same. ap (λ (b : Bool). length (cond (not b) (pair_of p.range ∷ filter there pairs) (filter there pairs))) present ∙ ap suc same) 0 count count ps (zero-add count) h

-- a test that an absent pair passes
pub full_all : (test : Pair → Bool) (count : ℕ) (ps : List PresentPair) → test absent_pair ≡ true → AreListed 0 count ps → list_all test (full_list count ps) ≡ list_all (λ (p : PresentPair). test (pair_of p.range)) ps
full_all test count ps passes h =
    over_from (list_all test) (list_all (λ (p : PresentPair). test (pair_of p.range))) refl (λ pairs. ap (λ (b : Bool). b && list_all test pairs) passes)
    (λ p ps pairs there same. ap (λ (b : Bool). test (pair_of p.range) && b) same) 0 count count ps (zero-add count) h

-- where none is listed, all are absent
pub none_present : (from count : ℕ) (ps : List PresentPair) → AreListed from count ps → list_all (λ (p : PresentPair). is_absent (pair_of p.range)) ps ≡ (length ps == 0)
none_present from count [] h = refl
none_present from count (p ∷ ps) h = and_left (is_absent (pair_of p.range)) (list_all (λ (p : PresentPair). is_absent (pair_of p.range)) ps) h.2 ∙ sym (ne_eqb (length (p ∷ ps)) 0 (λ e. omega (arith, e)))
