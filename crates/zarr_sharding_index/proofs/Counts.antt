-- How many pairs there are.
use Rattle.std.proofs.Common.{◌≡◌, ℕ, ◌+◌, List, [], ◌∷◌, length, set, refl, ◌∙◌}
use Rattle.std.proofs.lemmas.List.{length-set}
use Rattle.zarr_codecs_meaning.specs.Encoding.{Pair, pair_at, slice_bytes}
use Rattle.zarr_sharding_changes.specs.Changes.{Change, pairs_after}

-- changes leave as many pairs
pub changed_count : (offset : ℕ) (changes : List Change) (pairs : List Pair) → length (pairs_after offset changes pairs) ≡ length pairs
changed_count offset [] pairs = refl
changed_count offset (change ∷ changes) pairs =
    changed_count (offset + length (slice_bytes change.1)) changes (set pairs change.0 (pair_at offset change.1)) ∙ length-set pairs change.0 (pair_at offset change.1)

-- one pair in the place of another leaves as many
pub put_count : (pairs : List Pair) (n : ℕ) (pair : Pair) → length (set pairs n pair) ≡ length pairs
put_count pairs n pair = length-set pairs n pair
