-- What a write in part leaves as it was.
use Rattle.std.proofs.Common.{◌≡◌, ◌∙◌, ℕ, suc, ◌+◌, ◌<◌, List, [], ◌∷◌, length, get_or, sym, refl, arith, None}
use Rattle.std.specs.Prelude.{slice_set}
use Rattle.std.proofs.lemmas.List.{get_or-set_other}
use Rattle.zarr_codecs_meaning.specs.Encoding.{Pair, absent_pair, pair_at, slice_bytes}
use Rattle.zarr_sharding_changes.specs.Changes.{Change, appended, pairs_after}
use Rattle.zarr_sharding_changes.specs.Laws.{UnmetKept}

pairs_kept : (offset k : ℕ) (changes : List Change) (pairs : List Pair) → ((i : ℕ) → i < length changes → (get_or changes i (0, None)).0 ≡ k → ⊥) → get_or (pairs_after offset changes pairs) k absent_pair ≡ get_or pairs k absent_pair
pairs_kept offset k [] pairs none = refl
pairs_kept offset k (change ∷ changes) pairs none =
    pairs_kept (offset + length (slice_bytes change.1)) k changes (slice_set pairs change.0 (pair_at offset change.1)) (λ i below. none (suc i) (omega (arith, below)))
    ∙ get_or-set_other pairs change.0 k (pair_at offset change.1) absent_pair (λ same. none 0 (omega arith) (sym same))

pub unmet_kept : UnmetKept
unmet_kept base k changes held none = (pairs_kept (base + length held.content) k changes held.pairs none, (appended changes, refl))
