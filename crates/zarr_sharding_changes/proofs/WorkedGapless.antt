-- Values with gaps.
use Rattle.std.proofs.Common.{◌≡◌, ◌∙◌, ℕ, List, [], ◌∷◌, ◌++◌, ap, sym, subst, refl, Some, Bool, true, false}
use Rattle.std.proofs.lemmas.Bool.{false≢true}
use Rattle.zarr_codecs_meaning.specs.Encoding.{Pair}
use Rattle.zarr_codecs_meaning.specs.Making.{none_overlap}
use Rattle.zarr_codecs_meaning.proofs.Lists.{some_same}
use Rattle.zarr_sharding_changes.specs.Compactions.{compacted_to, nothing_to_gain}
use Rattle.zarr_sharding_changes.specs.Gapless.{AreGapless, IsGapless}
use Rattle.zarr_sharding_changes.specs.WorkedCompactions.{shard_of_twos}
use Rattle.zarr_sharding_changes.specs.WorkedGapless.{first_two, first_two_and_gap, nested_twos}

compacts : (made : List ℕ) → compacted_to made ≡ nothing_to_gain → ⊥
compacts made h = cc

-- compaction makes the value without the gap of this
pub gap_found : IsGapless shard_of_twos (4 ∷ []) first_two_and_gap → ⊥
gap_found h = compacts first_two (h refl).0

-- the pairs that a value has are those that its index says
overlap_found : (found pairs : List Pair) → none_overlap found ≡ false → Some found ≡ Some pairs → none_overlap pairs ≡ true → ⊥
overlap_found found pairs none is apart = false≢true (sym none ∙ (ap none_overlap (some_same is) ∙ apart))

pub slices_overlap : IsGapless shard_of_twos (4 ∷ []) ((1 ∷ 2 ∷ 3 ∷ 9 ∷ []) ++ (0 ∷ 0 ∷ 0 ∷ 0 ∷ 0 ∷ 0 ∷ 0 ∷ 0 ∷ 2 ∷ 0 ∷ 0 ∷ 0 ∷ 0 ∷ 0 ∷ 0 ∷ 0 ∷ []) ++ (1 ∷ 0 ∷ 0 ∷ 0 ∷ 0 ∷ 0 ∷ 0 ∷ 0 ∷ 2 ∷ 0 ∷ 0 ∷ 0 ∷ 0 ∷ 0 ∷ 0 ∷ 0 ∷ [])) → ⊥
slices_overlap h = let held = (h refl).1 in overlap_found ((0, 2) ∷ (1, 2) ∷ []) held.0 refl held.1 held.2

-- the slice of the only subchunk has the gap
pub inner_gap_found : IsGapless nested_twos (4 ∷ []) (first_two_and_gap ++ (0 ∷ 0 ∷ 0 ∷ 0 ∷ 0 ∷ 0 ∷ 0 ∷ 0 ∷ 36 ∷ 0 ∷ 0 ∷ 0 ∷ 0 ∷ 0 ∷ 0 ∷ 0 ∷ [])) → ⊥
inner_gap_found h =
    let held = (h refl).1 in
    let pairs : (0, 36) ∷ [] ≡ held.0 = some_same held.1 in
    let value = first_two_and_gap ++ (0 ∷ 0 ∷ 0 ∷ 0 ∷ 0 ∷ 0 ∷ 0 ∷ 0 ∷ 36 ∷ 0 ∷ 0 ∷ 0 ∷ 0 ∷ 0 ∷ 0 ∷ 0 ∷ []) in
    let gapless = subst (λ (ps : List Pair). AreGapless (IsGapless shard_of_twos) value (record { shape = 4 ∷ []; places = 0 ∷ 1 ∷ 2 ∷ 3 ∷ [] } ∷ []) ps) (sym pairs) held.3 in
    gap_found gapless.0
