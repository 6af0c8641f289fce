-- Whether all pairs lie in a data part is told by those that are listed.
use Rattle.std.proofs.Common.{◌≡◌, ◌∙◌, ◌+◌, ◌-◌, ◌^◌, ◌<◌, ◌&&◌, ◌==◌, ℕ, suc, List, [], ◌∷◌, length, get_or, drop, ap, arith, refl, sym, not, Bool, true, false}
use Rattle.std.proofs.lemmas.Bool.{and_from, and_parts, eqb-true, leb-true, or_right}
use Rattle.std.specs.Prelude.{nat_le}
use Rattle.std.proofs.Math.Seq.{drop-cons}
use Rattle.std.specs.List.{list_all}
use Rattle.zarr_codecs_meaning.specs.Decoding.{is_absent}
use Rattle.zarr_codecs_meaning.specs.Encoding.{Pair}
use Rattle.zarr_sharding_index.specs.Listed.{are_present, full_list}
use Rattle.zarr_sharding_index.specs.Views.{pair_of}
use Rattle.zarr_sharding_index.specs.declared.pair.PresentPair.{PresentPair}
use Rattle.zarr_sharding_index.proofs.Listed.{are_listed, full_all}
use Rattle.zarr_sharding_index.specs.Held.{lies_between, lies_within}

pub listed_lie : (base end : ℕ) (pairs : List Pair) (ps : List PresentPair) → full_list (length pairs) ps ≡ pairs → are_present 0 (length pairs) ps ≡ true
    → list_all (lies_between base end) pairs ≡ list_all (λ (p : PresentPair). lies_between base end (pair_of p.range)) ps
listed_lie base end pairs ps all there = ap (list_all (lies_between base end)) (sym all) ∙ full_all (lies_between base end) (length pairs) ps refl (are_listed 0 (length pairs) ps there)

-- the test of the pairs from one on, where that one passes or not
pub lies_next : {X : Type 0} (lies : X → Bool) (ps : List X) (k : ℕ) (p : X) (b : Bool) → k < length ps → ((d : X) → p ≡ get_or ps k d) → b ≡ lies p → list_all lies (drop k ps) ≡ (b && list_all lies (drop (k + 1) ps))
lies_next lies ps k p b low is told =
    let next : suc k ≡ k + 1 = omega arith in
    ap (list_all lies) (drop-cons ps k p low)
    ∙ (ap (λ q. lies q && list_all lies (drop (suc k) ps)) (sym (is p)) ∙ (ap (λ c. c && list_all lies (drop (suc k) ps)) (sym told) ∙ ap (λ n. b && list_all lies (drop n ps)) next))

-- a pair that lies in a data part is that of a present subchunk
within_present : (base end : ℕ) (pair : Pair) → end < 2 ^ 64 → lies_within base end pair ≡ true → not (is_absent pair) ≡ true
within_present base end pair low lies = by_case (is_absent pair) refl where
  by_case : (b : Bool) → is_absent pair ≡ b → not (is_absent pair) ≡ true
  by_case false there = ap not there
  by_case true gone =
      let ends = leb-true (pair.0 + pair.1) end (and_parts (nat_le base pair.0) (nat_le (pair.0 + pair.1) end) lies).1 in
      let first = eqb-true pair.0 (2 ^ 64 - 1) (and_parts (pair.0 == 2 ^ 64 - 1) (pair.1 == 2 ^ 64 - 1) gone).0 in
      let second = eqb-true pair.1 (2 ^ 64 - 1) (and_parts (pair.0 == 2 ^ 64 - 1) (pair.1 == 2 ^ 64 - 1) gone).1 in
      absurd (omega (arith, ends, first, second, low))

-- where each pair lies there, each subchunk is present
pub all_within_present : (base end : ℕ) (pairs : List Pair) → end < 2 ^ 64 → list_all (lies_within base end) pairs ≡ true → list_all (λ pair. not (is_absent pair)) pairs ≡ true
all_within_present base end [] low lie = refl
all_within_present base end (pair ∷ pairs) low lie =
    let both = and_parts (lies_within base end pair) (list_all (lies_within base end) pairs) lie in
    and_from (not (is_absent pair)) (list_all (λ pair. not (is_absent pair)) pairs) (within_present base end pair low both.0) (all_within_present base end pairs low both.1)

-- and each present one lies there
pub all_within_lie : (base end : ℕ) (pairs : List Pair) → list_all (lies_within base end) pairs ≡ true → list_all (lies_between base end) pairs ≡ true
all_within_lie base end [] lie = refl
all_within_lie base end (pair ∷ pairs) lie =
    let both = and_parts (lies_within base end pair) (list_all (lies_within base end) pairs) lie in
    and_from (lies_between base end pair) (list_all (lies_between base end) pairs) (or_right (is_absent pair) (lies_within base end pair) both.0) (all_within_lie base end pairs both.1)
