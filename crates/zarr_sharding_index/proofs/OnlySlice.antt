-- One slice that replaces a subchunk's.
use Rattle.std.proofs.Common.{◌≡◌, ◌∙◌, ℕ, zero, suc, ◌-◌, ◌^◌, ◌<◌, List, [], ◌∷◌, length, get_or, get_or-set_same, set, ap, arith, refl, Some, None, true, false}
use Rattle.std.specs.Prelude.{◌==◌}
use Rattle.std.specs.List.{list_all}
use Rattle.std.proofs.lemmas.Bool.{and_left, and_parts, and_right, ltb-true, ne_eqb}
use Rattle.zarr_codecs_meaning.specs.Decoding.{is_absent}
use Rattle.zarr_codecs_meaning.specs.Encoding.{Pair, absent_pair}
use Rattle.zarr_sharding_changes.specs.Changes.{Change}
use Rattle.zarr_sharding_index.specs.Held.{are_absent}
use Rattle.zarr_sharding_index.specs.SliceChanges.{changes_of, is_below}
use Rattle.zarr_sharding_index.specs.declared.slice_changes.SliceChange.{SliceChange}

-- where a slice is put, a subchunk is present
pub present_after : (pairs : List Pair) (n offset size : ℕ) → n < length pairs → offset < 2 ^ 64 - 1 → are_absent (set pairs n (offset, size)) ≡ false
present_after [] n offset size low small = absurd (omega (arith, low))
present_after (p ∷ ps) zero offset size low small =
    and_left (is_absent (offset, size)) (list_all is_absent ps) (and_left (offset == 2 ^ 64 - 1) (size == 2 ^ 64 - 1) (ne_eqb offset (2 ^ 64 - 1) (λ e. omega (arith, small, e))))
present_after (p ∷ ps) (suc n) offset size low small = and_right (is_absent p) (are_absent (set ps n (offset, size))) (present_after ps n offset size (omega (arith, low)) small)

-- so is that subchunk
pub present_there : (pairs : List Pair) (n offset size : ℕ) → n < length pairs → offset < 2 ^ 64 - 1 → is_absent (get_or (set pairs n (offset, size)) n absent_pair) ≡ false
present_there pairs n offset size low small =
    ap is_absent (get_or-set_same pairs n (offset, size) absent_pair low) ∙ and_left (offset == 2 ^ 64 - 1) (size == 2 ^ 64 - 1) (ne_eqb offset (2 ^ 64 - 1) (λ e. omega (arith, small, e)))

-- the only change is of a subchunk that is there
pub only_below : (count n : ℕ) (slice : List ℕ) (changes : List SliceChange) → changes_of changes ≡ (n, Some slice) ∷ [] → list_all (is_below count) changes ≡ true → n < count
only_below count n slice [] is below = absurd (omega (arith, ap (λ (cs : List Change). length cs) is))
only_below count n slice (change ∷ changes) is below =
    let number : change.number ≡ n = ap (λ (cs : List Change). (get_or cs 0 (0, None)).0) is in
    let low = ltb-true change.number count (and_parts (is_below count change) (list_all (is_below count) changes) below).0 in
    omega (arith, number, low)

-- a pair that was replaced is put back
pub put_back : (pairs : List Pair) (n : ℕ) (pair other : Pair) → n < length pairs → set (set pairs n pair) n (get_or pairs n other) ≡ pairs
put_back [] n pair other low = absurd (omega (arith, low))
put_back (p ∷ ps) zero pair other low = refl
put_back (p ∷ ps) (suc n) pair other low = ap (λ (qs : List Pair). p ∷ qs) (put_back ps n pair other (omega (arith, low)))
