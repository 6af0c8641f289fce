-- What a search finds among the numbers of present subchunks.
use Rattle.std.proofs.Common.{◌≡◌, ℕ, zero, suc, ◌+◌, ◌≤◌, ◌<◌, ◌∙◌, List, [], ◌∷◌, length, get_or, ap, sym, refl, subst, arith, inl, inr, zero-add, true, false, Option, Some, None, Result, Ok, Err, IfOk, IfErr}
use Rattle.std.specs.Prelude.{Vec, is_some}
use Rattle.std.specs.declared.alloc.Global.{Global}
use Rattle.std.specs.List.{range_with_len}
use Rattle.std.specs.List.Sorted.{IsBinarySearchResult, IsNonDecreasingBy, IsSearchInRange}
use Rattle.std.specs.Ordering.{nat_cmp, ordering_index}
use Rattle.std.proofs.lemmas.Bool.{cases_lt}
use Rattle.std.proofs.lemmas.Bool.Decides.{nat_tests}
use Rattle.std.proofs.lemmas.Cmp.{ranked}
use Rattle.std.proofs.lemmas.List.FromFn.{get_or-range_with_len, length-range_with_len}
use Rattle.zarr_codecs_meaning.specs.Decoding.{is_absent}
use Rattle.zarr_codecs_meaning.specs.Encoding.{Pair, absent_pair}
use Rattle.zarr_sharding_index.specs.Listed.{IsGapFor, IsListedAt, numbered}
use Rattle.zarr_sharding_index.specs.Views.{numbers_or_all, pair_of}
use Rattle.zarr_sharding_index.specs.declared.pair.PresentPair.{PresentPair}
use Rattle.zarr_sharding_index.proofs.Listed.{AreListed, numbers_rise}
use Rattle.zarr_sharding_index.proofs.Numbered.{at_numbered, length-numbered}

-- the number at a place
number_at : (ns : List ℕ) (ps : List Pair) (i m : ℕ) (d : PresentPair) → length ns ≡ length ps → i < length ns → (get_or (numbered ns ps) i d).number ≡ get_or ns i m
number_at ns ps i m d is low = ap (λ (p : PresentPair). p.number) (at_numbered ns ps i m absent_pair d is low)

-- the comparisons with a number rise along the list
comparisons_rise : (count n : ℕ) (ns : List ℕ) (ps : List Pair) → length ns ≡ length ps → AreListed 0 count (numbered ns ps) → IsNonDecreasingBy (λ m. ordering_index (nat_cmp m n)) ns
comparisons_rise count n ns ps is h i j d le low =
    let no : PresentPair = record { number = 0; range = record { offset = 0; length = 0 } } in
    let long = length-numbered ns ps is in
    let rise : get_or ns i d ≤ get_or ns j d = elim (cases_lt i j) [
      | inl l ↦
          let less = numbers_rise 0 count (numbered ns ps) i j no h l (omega (arith, low, long)) in
          let a = number_at ns ps i d no is (omega (arith, l, low)) in
          let b = number_at ns ps j d no is low in
          omega (arith, less, a, b)
      | inr l ↦ let same : i ≡ j = omega (arith, le, l) in let e = ap (λ k. get_or ns k d) same in omega (arith, e)
    ] in
    grind (arith, nat_tests)

pub found_place : (count n : ℕ) (ns lent : List ℕ) (ps : List Pair) (r : Result ℕ ℕ) → lent ≡ ns → length ns ≡ length ps → AreListed 0 count (numbered ns ps) → IsSearchInRange r (length lent) → IsBinarySearchResult (λ m. nat_cmp m n) lent r → IfOk r (IsListedAt (numbered ns ps) n)
found_place count n ns lent ps r same is h range found =
    by_case r (subst (λ ms. IsSearchInRange r (length ms)) same range) (subst (λ ms. IsBinarySearchResult (λ m. nat_cmp m n) ms r) same found) where
      by_case : (r : Result ℕ ℕ) → IsSearchInRange r (length ns) → IsBinarySearchResult (λ m. nat_cmp m n) ns r → IfOk r (IsListedAt (numbered ns ps) n)
      by_case (Ok at) range equal =
          let long = length-numbered ns ps is in
          record { within = omega (arith, range, long); number = λ d. number_at ns ps at 0 d is range ∙ ranked _ n _ (sym (equal 0)) }
      by_case (Err at) range parted = tt

pub gap_place : (count n : ℕ) (ns lent : List ℕ) (ps : List Pair) (r : Result ℕ ℕ) → lent ≡ ns → length ns ≡ length ps → AreListed 0 count (numbered ns ps) → IsSearchInRange r (length lent) → IsBinarySearchResult (λ m. nat_cmp m n) lent r → IfErr r (IsGapFor (numbered ns ps) n)
gap_place count n ns lent ps r same is h range found =
    by_case r (subst (λ ms. IsSearchInRange r (length ms)) same range) (subst (λ ms. IsBinarySearchResult (λ m. nat_cmp m n) ms r) same found) where
      by_case : (r : Result ℕ ℕ) → IsSearchInRange r (length ns) → IsBinarySearchResult (λ m. nat_cmp m n) ns r → IfErr r (IsGapFor (numbered ns ps) n)
      by_case (Ok at) range equal = tt
      by_case (Err at) range parted =
          let parts = parted (comparisons_rise count n ns ps is h) in
          let long = length-numbered ns ps is in
          record {
            within = omega (arith, range, long);
            before = λ j d lt.
                let less = ranked _ n _ (sym (parts.0 j 0 (omega (arith, lt, range)) lt)) in
                let here = number_at ns ps j 0 d is (omega (arith, lt, range)) in
                omega (arith, less, here);
            after = λ j d le lt.
                let more = ranked _ n _ (sym (parts.1 j 0 le (omega (arith, lt, long)))) in
                let here = number_at ns ps j 0 d is (omega (arith, lt, long)) in
                omega (arith, more, here);
          }

-- ---- among all numbers below a count

number_among : (count k : ℕ) (ps : List Pair) (d : PresentPair) → length (range_with_len 0 count) ≡ length ps → k < count → (get_or (numbered (range_with_len 0 count) ps) k d).number ≡ k
number_among count k ps d is low =
    let long = length-range_with_len 0 count in
    number_at (range_with_len 0 count) ps k 0 d is (omega (arith, low, long)) ∙ (get_or-range_with_len 0 count k 0 low ∙ zero-add k)

found_among : (count n : ℕ) (ps : List Pair) → length (range_with_len 0 count) ≡ length ps → n < count → IsListedAt (numbered (range_with_len 0 count) ps) n n
found_among count n ps is low =
    let long = length-range_with_len 0 count in
    let many = length-numbered (range_with_len 0 count) ps is in
    record { within = omega (arith, low, long, many); number = λ d. number_among count n ps d is low }

gap_behind : (count n : ℕ) (ps : List Pair) → length (range_with_len 0 count) ≡ length ps → count ≤ n → IsGapFor (numbered (range_with_len 0 count) ps) n count
gap_behind count n ps is past =
    let long = length-range_with_len 0 count in
    let many = length-numbered (range_with_len 0 count) ps is in
    record {
      within = omega (arith, long, many);
      before = λ j d lt. let here = number_among count j ps d is lt in omega (arith, here, lt, past);
      after = λ j d le lt. absurd (omega (arith, le, lt, long, many));
    }

-- the same of kept numbers that aren't listed
pub found_unlisted : (count n : ℕ) (numbers : Option (Vec ℕ Global)) (ps : List Pair) → numbers ≡ None → length (numbers_or_all count numbers) ≡ length ps → n < count → IsListedAt (numbered (numbers_or_all count numbers) ps) n n
found_unlisted count n None ps none is low = found_among count n ps is low
found_unlisted count n (Some listed) ps none is low = cc

pub gap_past : (count n : ℕ) (numbers : Option (Vec ℕ Global)) (ps : List Pair) → numbers ≡ None → length (numbers_or_all count numbers) ≡ length ps → count ≤ n → IsGapFor (numbered (numbers_or_all count numbers) ps) n count
gap_past count n None ps none is past = gap_behind count n ps is past
gap_past count n (Some listed) ps none is past = cc

-- a number that has a gap isn't listed
gap_unlisted : (n i j : ℕ) (ps : List PresentPair) → IsGapFor ps n i → IsListedAt ps n j → ⊥
gap_unlisted n i j ps gap at =
    let no : PresentPair = record { number = 0; range = record { offset = 0; length = 0 } } in
    let here = at.number no in
    let within = at.within in
    elim (cases_lt j i) [
      | inl l ↦ let less = gap.before j no l in omega (arith, less, here)
      | inr l ↦ let more = gap.after j no l within in omega (arith, more, here)
    ]

-- so where one has a gap, the numbers are listed
pub gap_listed : (count n i : ℕ) (numbers : Option (Vec ℕ Global)) (ps : List Pair) → length (numbers_or_all count numbers) ≡ length ps → n < count → IsGapFor (numbered (numbers_or_all count numbers) ps) n i → is_some numbers ≡ true
gap_listed count n i None ps is low gap = absurd (gap_unlisted n i n (numbered (range_with_len 0 count) ps) gap (found_among count n ps is low))
gap_listed count n i (Some listed) ps is low gap = refl

-- and a number that is listed has the pair of a present subchunk
present_at : (from count i : ℕ) (ps : List PresentPair) (d : PresentPair) → AreListed from count ps → i < length ps → is_absent (pair_of (get_or ps i d).range) ≡ false
present_at from count i [] d h low = absurd (omega (arith, low))
present_at from count zero (p ∷ ps) d h low = h.2
present_at from count (suc i) (p ∷ ps) d h low = present_at (p.number + 1) count i ps d h.3 (omega (arith, low))

pub pair_there : (count n i : ℕ) (ns : List ℕ) (ps : List Pair) → length ns ≡ length ps → AreListed 0 count (numbered ns ps) → IsListedAt (numbered ns ps) n i → is_absent (get_or ps i absent_pair) ≡ false
pair_there count n i ns ps is h at =
    let no : PresentPair = record { number = 0; range = record { offset = 0; length = 0 } } in
    let long = length-numbered ns ps is in
    let within = at.within in
    ap (λ (p : PresentPair). is_absent (pair_of p.range)) (sym (at_numbered ns ps i 0 absent_pair no is (omega (arith, within, long)))) ∙ present_at 0 count i (numbered ns ps) no h within
