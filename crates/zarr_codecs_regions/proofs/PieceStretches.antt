-- Elements of variable length that stand one after another, taken together.
use Rattle.std.proofs.Common.{◌≡◌, ◌∙◌, ℕ, zero, suc, ◌+◌, ◌-◌, ◌<◌, ◌≤◌, true, List, [], ◌∷◌, ◌++◌, length, map, slice_index, take, drop, flat_map, sym, ap, subst, arith, append_assoc, append-nil, length-append}
use Rattle.std.specs.Prelude.{nat_le}
use Rattle.std.specs.List.{range_with_len}
use Rattle.std.proofs.lemmas.Bool.{and_parts, leb-true}
use Rattle.std.proofs.lemmas.Grind.{flat_map-append}
use Rattle.zarr_codecs_arrays.specs.Offsets.{are_rising}
use Rattle.zarr_codecs_regions.specs.Pieces.{piece_of, ends_of}
use Rattle.zarr_codecs_regions.specs.Taken.{IsTaken}
use Rattle.zarr_codecs_regions.specs.declared.taken.Taken.{Taken}
use Rattle.zarr_codecs_regions.proofs.GatheredStretches.{joined}

-- ---- the bytes

-- no offset is less than the one before it
next_rises : (ns : List ℕ) (k : ℕ) → are_rising ns ≡ true → k + 1 < length ns → slice_index ns k ≤ slice_index ns (k + 1)
next_rises [] k h less = absurd (omega (arith, less))
next_rises (n ∷ []) k h less = absurd (omega (arith, less))
next_rises (n ∷ m ∷ ns) zero h less = leb-true n m (and_parts (nat_le n m) (are_rising (m ∷ ns)) h).0
next_rises (n ∷ m ∷ ns) (suc k) h less =
    let e : suc (k + 1) ≡ suc k + 1 = omega arith in
    subst (λ (j : ℕ). slice_index (m ∷ ns) k ≤ slice_index (n ∷ m ∷ ns) j) e (next_rises (m ∷ ns) k (and_parts (nat_le n m) (are_rising (m ∷ ns)) h).1 (omega (arith, less)))

later_rises : (ns : List ℕ) (k n : ℕ) → are_rising ns ≡ true → k + n < length ns → slice_index ns k ≤ slice_index ns (k + n)
later_rises ns k zero h less = let e : k ≡ k + 0 = omega arith in let same = ap (slice_index ns) e in omega (arith, same)
later_rises ns k (suc n) h less =
    let e : k + 1 + n ≡ k + suc n = omega arith in
    let same = ap (slice_index ns) e in
    let one = next_rises ns k h (omega (arith, less)) in
    let rest = later_rises ns (k + 1) n h (omega (arith, less)) in
    omega (arith, same, one, rest)

-- those of elements that stand one after another
pub stretch_pieces : (offsets bytes : List ℕ) (first n : ℕ) → are_rising offsets ≡ true → first + n < length offsets
    → take (slice_index offsets (first + n) - slice_index offsets first) (drop (slice_index offsets first) bytes) ≡ flat_map (λ piece. piece) (map (piece_of offsets bytes) (range_with_len first n))
stretch_pieces offsets bytes first zero h less =
    let e : first + 0 ≡ first = omega arith in
    let none : slice_index offsets first - slice_index offsets first ≡ 0 = omega arith in
    ap (λ k. take (slice_index offsets k - slice_index offsets first) (drop (slice_index offsets first) bytes)) e ∙ ap (λ k. take k (drop (slice_index offsets first) bytes)) none
stretch_pieces offsets bytes first (suc n) h less =
    let at = slice_index offsets in
    let e : first + suc n ≡ first + 1 + n = omega arith in
    ap (λ k. take (at k - at first) (drop (at first) bytes)) e
    ∙ (sym (joined bytes (at first) (at (first + 1)) (at (first + 1 + n)) (next_rises offsets first h (omega (arith, less))) (later_rises offsets (first + 1) n h (omega (arith, less))))
    ∙ ap (λ ps. piece_of offsets bytes first ++ ps) (stretch_pieces offsets bytes (first + 1) n h (omega (arith, less))))

-- ---- where they end

-- one more
pub ends_more : (f : ℕ → List ℕ) (ends pushed whole : List ℕ) (end next number last : ℕ) → number < last → next ≡ end + length (f number) → pushed ≡ ends ++ next ∷ []
    → ends ++ ends_of end (map f (range_with_len number (last - number))) ≡ whole → pushed ++ ends_of next (map f (range_with_len (number + 1) (last - (number + 1)))) ≡ whole
ends_more f ends pushed whole end next number last less e p h =
    let left : last - number ≡ suc (last - (number + 1)) = omega (arith, less) in
    let rest = map f (range_with_len (number + 1) (last - (number + 1))) in
    ap (λ ns. ns ++ ends_of next rest) p
    ∙ (append_assoc ends (next ∷ []) (ends_of next rest)
    ∙ (ap (λ (n : ℕ). ends ++ (n ∷ ends_of n rest)) e
    ∙ (sym (ap (λ n. ends ++ ends_of end (map f (range_with_len number n))) left) ∙ h)))

-- no more
pub ends_done : (f : ℕ → List ℕ) (ends whole : List ℕ) (end number last : ℕ) → last ≤ number → ends ++ ends_of end (map f (range_with_len number (last - number))) ≡ whole → ends ≡ whole
ends_done f ends whole end number last done h =
    let none : last - number ≡ 0 = omega (arith, done) in
    sym (append-nil ends) ∙ (sym (ap (λ n. ends ++ ends_of end (map f (range_with_len number n))) none) ∙ h)

pub ends_append : (start : ℕ) (ps qs : List (List ℕ)) → ends_of start (ps ++ qs) ≡ ends_of start ps ++ ends_of (start + length (flat_map (λ piece. piece) ps)) qs
ends_append start [] qs = let e : start ≡ start + 0 = omega arith in ap (λ k. ends_of k qs) e
ends_append start (p ∷ ps) qs =
    let all = length-append p (flat_map (λ piece. piece) ps) in
    let e : start + length p + length (flat_map (λ piece. piece) ps) ≡ start + length (p ++ flat_map (λ piece. piece) ps) = omega (arith, all) in
    ap (λ ns. (start + length p) ∷ ns) (ends_append (start + length p) ps qs ∙ ap (λ k. ends_of (start + length p) ps ++ ends_of k qs) e)

-- ---- what is taken

pub more_taken : (pieces more : List (List ℕ)) (old new : Taken) → IsTaken pieces old → new.bytes.items ≡ old.bytes.items ++ flat_map (λ piece. piece) more → new.ends.items ≡ old.ends.items ++ ends_of (length old.bytes.items) more → IsTaken (pieces ++ more) new
more_taken pieces more old new h bs es = record {
  bytes_are = bs ∙ (ap (λ ns. ns ++ flat_map (λ piece. piece) more) h.bytes_are ∙ sym (flat_map-append (λ piece. piece) pieces more));
  ends_are = es
      ∙ (ap (λ ns. ns ++ ends_of (length old.bytes.items) more) h.ends_are
      ∙ ap (λ ns. 0 ∷ ns) (ap (λ ns. ends_of 0 pieces ++ ends_of (length ns) more) h.bytes_are ∙ (ap (λ k. ends_of 0 pieces ++ ends_of k more) (let e : length (flat_map (λ piece. piece) pieces) ≡ 0 + length (flat_map (λ piece. piece) pieces) = omega arith in e) ∙ sym (ends_append 0 pieces more))));
}
