-- What is kept of an index after an edit: the numbers and the pairs, side by side.
use Rattle.std.proofs.Common.{◌≡◌, ◌∙◌, ℕ, ◌<◌, List, length, get_or, set, map, ap, sym, refl, arith, not, true, false}
use Rattle.std.specs.List.{insert, list_all, range_with_len, remove}
use Rattle.std.proofs.lemmas.List.{length-map, length-set}
use Rattle.std.proofs.lemmas.List.Edits.{length-insert, length-remove}
use Rattle.zarr_codecs_meaning.specs.Decoding.{is_absent}
use Rattle.zarr_codecs_meaning.specs.Encoding.{Pair, absent_pair}
use Rattle.zarr_sharding_index.specs.Listed.{IsGapFor, IsListedAt, are_present, full_list, numbered, present_numbers}
use Rattle.zarr_sharding_index.specs.declared.pair.PresentPair.{PresentPair}
use Rattle.zarr_sharding_index.proofs.Listed.{are_listed, are_told, full_inserted, full_removed, full_set, lists_all, present_inserted, present_removed, present_set}
use Rattle.zarr_sharding_index.proofs.Numbered.{at, at_numbered, full_made, insert_numbered, length-numbered, listed_of, lists_below, one, remove_numbered, set_numbered}

-- what always holds of what is kept
pub record IsKept (count : ℕ) (ns : List ℕ) (ps : List Pair) : Type 0 where
  pub listed : are_present 0 count (numbered ns ps) ≡ true
  pub alike : length ns ≡ length ps

-- the number that stands at a place
number_there : (n i : ℕ) (ns : List ℕ) (ps : List Pair) → length ns ≡ length ps → IsListedAt (numbered ns ps) n i → get_or ns i 0 ≡ n
number_there n i ns ps is at =
    let no : PresentPair = one 0 absent_pair in
    let long = length-numbered ns ps is in
    let within = at.within in
    sym (ap (λ (p : PresentPair). p.number) (at_numbered ns ps i 0 absent_pair no is (omega (arith, within, long)))) ∙ at.number no

set_so : (n i : ℕ) (ns : List ℕ) (ps : List Pair) (p : Pair) → length ns ≡ length ps → IsListedAt (numbered ns ps) n i → numbered ns (set ps i p) ≡ set (numbered ns ps) i (one n p)
set_so n i ns ps p is at = set_numbered ns ps i 0 p ∙ ap (λ m. set (numbered ns ps) i (one m p)) (number_there n i ns ps is at)

pub kept_put : (count n i : ℕ) (ns : List ℕ) (ps qs : List Pair) (p : Pair) → length ns ≡ length ps → are_present 0 count (numbered ns ps) ≡ true → IsListedAt (numbered ns ps) n i → is_absent p ≡ false → qs ≡ set ps i p → IsKept count ns qs
kept_put count n i ns ps qs p is h at there new =
    let made = ap (numbered ns) new ∙ set_so n i ns ps p is at in
    record {
      listed = ap (are_present 0 count) made ∙ present_set count i (numbered ns ps) (one n p) h at there;
      alike = is ∙ sym (ap (λ (ps : List Pair). length ps) new ∙ length-set ps i p);
    }

pub put_full : (count n i : ℕ) (ns : List ℕ) (ps qs : List Pair) (p : Pair) → length ns ≡ length ps → are_present 0 count (numbered ns ps) ≡ true → IsListedAt (numbered ns ps) n i → qs ≡ set ps i p → full_list count (numbered ns qs) ≡ set (full_list count (numbered ns ps)) n p
put_full count n i ns ps qs p is h at new =
    ap (full_list count) (ap (numbered ns) new ∙ set_so n i ns ps p is at) ∙ full_set count n i (numbered ns ps) (one n p) (are_listed 0 count (numbered ns ps) h) at refl

pub kept_removed : (count n i : ℕ) (ns ms : List ℕ) (ps qs : List Pair) → length ns ≡ length ps → are_present 0 count (numbered ns ps) ≡ true → IsListedAt (numbered ns ps) n i → ms ≡ remove ns i → qs ≡ remove ps i → IsKept count ms qs
kept_removed count n i ns ms ps qs is h at numbers pairs =
    let made = ap (λ ks. numbered ks qs) numbers ∙ (ap (numbered (remove ns i)) pairs ∙ remove_numbered ns ps i is) in
    let long = length-numbered ns ps is in
    let within = at.within in
    let a = length-remove ns i (omega (arith, within, long)) in
    let b = length-remove ps i (omega (arith, within, long, is)) in
    record {
      listed = ap (are_present 0 count) made ∙ present_removed count i (numbered ns ps) h within;
      alike = ap length numbers ∙ (omega (arith, a, b, is) ∙ sym (ap (λ (ps : List Pair). length ps) pairs));
    }

pub removed_full : (count n i : ℕ) (ns ms : List ℕ) (ps qs : List Pair) → length ns ≡ length ps → are_present 0 count (numbered ns ps) ≡ true → IsListedAt (numbered ns ps) n i → ms ≡ remove ns i → qs ≡ remove ps i → full_list count (numbered ms qs) ≡ set (full_list count (numbered ns ps)) n absent_pair
removed_full count n i ns ms ps qs is h at numbers pairs =
    let made = ap (λ ks. numbered ks qs) numbers ∙ (ap (numbered (remove ns i)) pairs ∙ remove_numbered ns ps i is) in
    ap (full_list count) made ∙ full_removed count n i (numbered ns ps) (are_listed 0 count (numbered ns ps) h) at

pub kept_inserted : (count i : ℕ) (ns ms : List ℕ) (ps qs : List Pair) (n : ℕ) (p : Pair) → length ns ≡ length ps → are_present 0 count (numbered ns ps) ≡ true → IsGapFor (numbered ns ps) n i → n < count → is_absent p ≡ false → ms ≡ insert ns i n → qs ≡ insert ps i p → IsKept count ms qs
kept_inserted count i ns ms ps qs n p is h gap below there numbers pairs =
    let made = ap (λ ks. numbered ks qs) numbers ∙ (ap (numbered (insert ns i n)) pairs ∙ insert_numbered ns ps i n p is) in
    let long = length-numbered ns ps is in
    let within = gap.within in
    let a = length-insert ns i n (omega (arith, within, long)) in
    let b = length-insert ps i p (omega (arith, within, long, is)) in
    record {
      listed = ap (are_present 0 count) made ∙ present_inserted count i (numbered ns ps) (one n p) h below gap there;
      alike = ap length numbers ∙ (omega (arith, a, b, is) ∙ sym (ap (λ (ps : List Pair). length ps) pairs));
    }

pub inserted_full : (count i : ℕ) (ns ms : List ℕ) (ps qs : List Pair) (n : ℕ) (p : Pair) → length ns ≡ length ps → IsGapFor (numbered ns ps) n i → ms ≡ insert ns i n → qs ≡ insert ps i p → full_list count (numbered ms qs) ≡ set (full_list count (numbered ns ps)) n p
inserted_full count i ns ms ps qs n p is gap numbers pairs =
    let made = ap (λ ks. numbered ks qs) numbers ∙ (ap (numbered (insert ns i n)) pairs ∙ insert_numbered ns ps i n p is) in
    ap (full_list count) made ∙ full_inserted count n i (numbered ns ps) (one n p) gap refl

-- the numbers and the pairs of the present subchunks of an index
pub made_of : (P : List Pair) (count : ℕ) (ns : List ℕ) (ps : List Pair) → count ≡ length P → ns ≡ present_numbers P → ps ≡ map (at P) (present_numbers P) → IsKept count ns ps × (full_list count (numbered ns ps) ≡ P)
made_of P count ns ps long is pairs =
    let all = listed_of P (present_numbers P) in
    let made : numbered ns ps ≡ all = ap (λ ks. numbered ks ps) is ∙ ap (numbered (present_numbers P)) pairs in
    let first = lists_below P (length P) in (
      record {
        listed = ap (are_present 0 count) made ∙ (ap (λ n. are_present 0 n all) long ∙ are_told 0 (length P) all first.are);
        alike = ap length is ∙ sym (ap (λ (qs : List Pair). length qs) pairs ∙ length-map (present_numbers P) (at P));
      },
      ap (full_list count) made ∙ (ap (λ n. full_list n all) long ∙ lists_all (length P) P all refl first),
    )

-- and of an index whose subchunks are all present
pub made_full : (pairs : List Pair) (count : ℕ) → count ≡ length pairs → list_all (λ pair. not (is_absent pair)) pairs ≡ true → IsKept count (range_with_len 0 count) pairs × (full_list count (numbered (range_with_len 0 count) pairs) ≡ pairs)
made_full pairs count long all =
    let full = full_made count pairs long all in
    made_of pairs count (range_with_len 0 count) pairs long full.numbers full.all

-- the same numbers and pairs once more
pub kept_again : (count : ℕ) (ns ms : List ℕ) (ps qs : List Pair) → length ns ≡ length ps → are_present 0 count (numbered ns ps) ≡ true → ms ≡ ns → qs ≡ ps → IsKept count ms qs
kept_again count ns ms ps qs is h numbers pairs = record {
  listed = ap (λ ks. are_present 0 count (numbered ks qs)) numbers ∙ (ap (λ (rs : List Pair). are_present 0 count (numbered ns rs)) pairs ∙ h);
  alike = ap length numbers ∙ (is ∙ sym (ap (λ (rs : List Pair). length rs) pairs));
}

pub full_again : (count : ℕ) (ns ms : List ℕ) (ps qs : List Pair) → ms ≡ ns → qs ≡ ps → full_list count (numbered ms qs) ≡ full_list count (numbered ns ps)
full_again count ns ms ps qs numbers pairs = ap (λ ks. full_list count (numbered ks qs)) numbers ∙ ap (λ (rs : List Pair). full_list count (numbered ns rs)) pairs
