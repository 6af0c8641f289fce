use Rattle.std.proofs.Common.{◌≡◌, ◌∙◌, List, ℕ, true, refl, sym, subst, arith, [], ◌∷◌, ◌++◌, length, length-append, take, replicate, get_or, ap, Option, Some, None, unwrap_or}
use Rattle.std.proofs.Math.Seq.{take-append_seam}
use Rattle.std.proofs.lemmas.Bool.{false≢true}
use Rattle.zarr_codecs_meaning.specs.Chains.Location.{at_end}
use Rattle.zarr_codecs_meaning.specs.Encoding.{Pair, absent_pair, byte_cells, encoded}
use Rattle.zarr_codecs_meaning.specs.Making.{ArePairsOf, IsShardOf, none_overlap}
use Rattle.zarr_codecs_meaning.specs.Standing.{HasSlice}
use Rattle.zarr_codecs_meaning.specs.Types.{uint8, zero_filled}
use Rattle.zarr_codecs_meaning.specs.WorkedMaking.{second_first, shard_left}
use Rattle.zarr_codecs_meaning.proofs.laws.making_rows.Goals as goal

abbrev two_bytes : ℕ → ℕ → List ℕ
two_bytes first second = first ∷ second ∷ []

-- the first bytes differ
other_first : Some (two_bytes 1 2) ≡ Some (two_bytes 2 1) → ⊥
other_first h = let e : 1 ≡ 2 = ap (λ (made : Option (List ℕ)). get_or (unwrap_or made []) 0 0) h in absurd (omega (arith, e))

not_row_major : encoded shard_left (zero_filled uint8) (4 ∷ []) (byte_cells (1 ∷ 2 ∷ 3 ∷ 4 ∷ [])) ≡ Some second_first → ⊥
not_row_major h = let e : 1 ≡ 3 = ap (λ (made : Option (List ℕ)). get_or (unwrap_or made []) 0 0) h in absurd (omega (arith, e))

-- ---- two slices of the same bytes

abbrev one_and_gap : List ℕ
one_and_gap = 1 ∷ 2 ∷ 9 ∷ 9 ∷ []

-- the slice stands at the first byte alone
first_only : (before after : List ℕ) → one_and_gap ≡ before ++ (1 ∷ 2 ∷ after) → length before ≡ 0
first_only [] after is = refl
first_only (a ∷ []) after is = let e : 2 ≡ 1 = ap (λ (bytes : List ℕ). get_or bytes 1 0) is in absurd (omega (arith, e))
first_only (a ∷ b ∷ []) after is = let e : 9 ≡ 1 = ap (λ (bytes : List ℕ). get_or bytes 2 0) is in absurd (omega (arith, e))
first_only (a ∷ b ∷ c ∷ []) after is = let e : 9 ≡ 1 = ap (λ (bytes : List ℕ). get_or bytes 3 0) is in absurd (omega (arith, e))
first_only (a ∷ b ∷ c ∷ d ∷ more) after is =
    let e = ap (λ (bytes : List ℕ). length bytes) is in
    let count = length-append more (1 ∷ 2 ∷ after) in
    absurd (omega (arith, e, count))

only_pair : (pair : Pair) → HasSlice 0 (1 ∷ 2 ∷ 9 ∷ 9 ∷ []) pair (1 ∷ 2 ∷ []) → pair ≡ (0, 2)
only_pair pair has =
    let first = first_only has.before has.after has.is in
    let begins = has.begins in
    let at_first : pair.0 ≡ 0 = omega (arith, begins, first) in
    ap (λ (n : ℕ). (n, pair.1)) at_first ∙ ap (λ (n : ℕ). (0, n)) has.long

-- so two pairs of it share its bytes
one_twice : (pairs : List Pair) → ArePairsOf 0 (1 ∷ 2 ∷ 9 ∷ 9 ∷ []) (Some (1 ∷ 2 ∷ []) ∷ Some (1 ∷ 2 ∷ []) ∷ []) pairs → none_overlap pairs ≡ true → ⊥
one_twice [] are apart = absurd are
one_twice (first ∷ []) are apart = absurd are.1
one_twice (first ∷ second ∷ []) are apart =
    let both : first ∷ second ∷ [] ≡ (0, 2) ∷ (0, 2) ∷ [] = ap (λ (p : Pair). p ∷ second ∷ []) (only_pair first are.0) ∙ ap (λ (p : Pair). (0, 2) ∷ p ∷ []) (only_pair second are.1.0) in
    false≢true (ap none_overlap (sym both) ∙ apart)
one_twice (first ∷ second ∷ third ∷ others) are apart = absurd are.1.1

-- the data part is all of these bytes
all_data : (content index_bytes : List ℕ) → length content ≡ 4 → one_and_gap ≡ content ++ index_bytes → content ≡ one_and_gap
all_data content index_bytes long is = sym (ap (take 4) is ∙ (ap (λ n. take n (content ++ index_bytes)) (sym long) ∙ take-append_seam content index_bytes))

shared_slice : IsShardOf (λ cells made. Unit {0}) at_end 0 (Some (1 ∷ 2 ∷ []) ∷ Some (1 ∷ 2 ∷ []) ∷ []) (1 ∷ 2 ∷ 9 ∷ 9 ∷ []) → ⊥
shared_slice h =
    let content = all_data h.«data» h.index_bytes h.whole h.is in
    one_twice h.pairs (subst (λ (bytes : List ℕ). ArePairsOf 0 bytes (Some (1 ∷ 2 ∷ []) ∷ Some (1 ∷ 2 ∷ []) ∷ []) h.pairs) content h.are) h.apart

pub returns : goal.returns
returns c = record {
  other_order = (
    Some (1 ∷ 2 ∷ []) ∷ Some (3 ∷ 4 ∷ []) ∷ [],
    ((refl, refl), ((refl, refl), tt)),
    record {
      pairs = (2, 2) ∷ (0, 2) ∷ [];
      «data» = 3 ∷ 4 ∷ 1 ∷ 2 ∷ [];
      index_bytes = (2 ∷ 0 ∷ 0 ∷ 0 ∷ 0 ∷ 0 ∷ 0 ∷ 0 ∷ 2 ∷ 0 ∷ 0 ∷ 0 ∷ 0 ∷ 0 ∷ 0 ∷ 0 ∷ []) ++ (0 ∷ 0 ∷ 0 ∷ 0 ∷ 0 ∷ 0 ∷ 0 ∷ 0 ∷ 2 ∷ 0 ∷ 0 ∷ 0 ∷ 0 ∷ 0 ∷ 0 ∷ 0 ∷ []);
      are = (record { before = 3 ∷ 4 ∷ []; after = []; is = refl; begins = refl; long = refl; low = omega arith }, (record { before = []; after = 1 ∷ 2 ∷ []; is = refl; begins = refl; long = refl; low = omega arith }, tt));
      apart = refl;
      whole = refl;
      written = refl;
      is = refl;
    },
  );
  row_major_inside = not_row_major;
  fill_left_out = (
    Some (1 ∷ 2 ∷ []) ∷ None ∷ [],
    ((refl, refl), (refl, tt)),
    record {
      pairs = (0, 2) ∷ absent_pair ∷ [];
      «data» = 1 ∷ 2 ∷ [];
      index_bytes = (0 ∷ 0 ∷ 0 ∷ 0 ∷ 0 ∷ 0 ∷ 0 ∷ 0 ∷ 2 ∷ 0 ∷ 0 ∷ 0 ∷ 0 ∷ 0 ∷ 0 ∷ 0 ∷ []) ++ replicate 16 255;
      are = (record { before = []; after = []; is = refl; begins = refl; long = refl; low = omega arith }, (refl, tt));
      apart = refl;
      whole = refl;
      written = refl;
      is = refl;
    },
  );
  one_without_shards = other_first;
  one_for_two = shared_slice;
  sharing = refl;
  apart = refl;
}
