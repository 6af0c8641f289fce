-- Calls of a store that a command on one array makes, by those of the array.
use Rattle.std.proofs.Common.{◌≡◌, ◌∙◌, ℕ, List, true, length, refl, sym, ap, subst, Result, Ok, Err, arith}
use Rattle.zarr_grids_boxes.specs.Boxes.{Region}
use Rattle.zarr_grids_chunks.specs.Grids.{IsInGrid, intersecting}
use Rattle.zarr_grids_dimensions.specs.Lookups.{are_dimensions}
use Rattle.zarr_grids_dimensions.proofs.Declared.{always_dimensions}
use Rattle.zarr_grids_chunk_grids.specs.Grids.{grid_of_chunks}
use Rattle.zarr_grids_chunk_grids.specs.declared.chunk_grid.ChunkGrid.{ChunkGrid}
use Rattle.zarr_grids_chunk_grids.specs.declared.chunk_grid.ChunkGrid.TheVariants.{Regular, RegularBounded, Rectangular, Rectilinear}
use Rattle.zarr_grids_cover.proofs.ChunkLaws.{IsInGrid-intersecting}
use Rattle.zarr_array_meaning.specs.StoreMaps.{CountsUpTo}
use Rattle.zarr_array_storage.specs.declared.traits.ReadableStorageTraits as stores
use Rattle.zarr_array_core.specs.Calls.{Calls}
use Rattle.zarr_array_core.specs.Outcomes as outcomes
use Rattle.zarr_array_core.specs.declared.error.ChunkError.{ChunkError}
use Rattle.zarr_array_core.specs.declared.error.ChunkError.TheVariants as error
use Rattle.zarr_array_core.specs.declared.error.ManyError.{ManyError}
use Rattle.zarr_run_meaning.specs.Steps.{refused_after}
use Rattle.zarr_run_meaning.specs.declared.cause.Cause.{Cause}
use Rattle.zarr_run_boxes.specs.Calls.{CalledMany}
use Rattle.zarr_run_boxes.specs.Outcomes.{cause_of}
use Rattle.zarr_run_boxes.specs.declared.refusal.Refusal.{Refusal}

-- where no writing call was made, and then up to n, up to n were made in all
pub counts_after_none : (a b c n : ℕ) → CountsUpTo 0 a b → CountsUpTo n b c → CountsUpTo n a c
counts_after_none a b c n none then = let (low, high) = none in let (lower, higher) = then in (omega arith, omega arith)

-- an error is counted as its cause is
counted_alike : (e : ChunkError) (count : ℕ) → outcomes.refused_with e count ≡ refused_after (cause_of e) count
counted_alike error.Fit count = refl
counted_alike (error.Storage e) count = refl
counted_alike error.Damage count = refl
counted_alike error.Codec count = refl
counted_alike error.Size count = refl
counted_alike error.Memory count = refl

-- an error over one chunk, as the refusal of a command
pub called_err : {S : Type 0} (s : stores.Ghosts S) (old new : S) (e : ChunkError) (c : Cause) → c ≡ cause_of e → Calls s old new (outcomes.refused_with e (s.refused_calls old)) 0 → Calls s old new (refused_after c (s.refused_calls old)) 0
called_err s old new e c is called = record {
  honest = called.honest;
  refused = called.refused ∙ counted_alike e (s.refused_calls old) ∙ ap (λ c. refused_after c (s.refused_calls old)) (sym is);
  counts = called.counts;
}

-- an error over several chunks, as the refusal of a command
pub many_err : {S : Type 0} (s : stores.Ghosts S) (old new : S) (stopped : ManyError) (refusal : Refusal) → refusal ≡ record { cause = cause_of stopped.error; applied = stopped.applied }
    → Calls s old new (outcomes.refused_with stopped.error (s.refused_calls old)) stopped.applied → Calls s old new (refused_after refusal.cause (s.refused_calls old)) refusal.applied
many_err s old new stopped refusal is called = record {
  honest = called.honest;
  refused = called.refused ∙ counted_alike stopped.error (s.refused_calls old) ∙ ap (λ (r : Refusal). refused_after r.cause (s.refused_calls old)) (sym is);
  counts = subst (λ (r : Refusal). CountsUpTo r.applied (s.accepted_writes old) (s.accepted_writes new)) (sym is) called.counts;
}

-- a store was read, and then called over chunks
module _ {S : Type 0} (s : stores.Ghosts S) (old mid new : S) (first : Calls s old mid (s.refused_calls old) 0) where
  pub many_done : (n k : ℕ) → k ≡ n → Calls s mid new (s.refused_calls mid) k → Calls s old new (s.refused_calls old) n
  many_done n k same then = record {
    honest = then.honest ∙ first.honest;
    refused = then.refused ∙ first.refused;
    counts = counts_after_none (s.accepted_writes old) (s.accepted_writes mid) (s.accepted_writes new) n first.counts (subst (λ k. CountsUpTo k (s.accepted_writes mid) (s.accepted_writes new)) same then.counts);
  }

  pub many_stopped : (stopped : ManyError) (refusal : Refusal) → refusal ≡ record { cause = cause_of stopped.error; applied = stopped.applied } → Calls s mid new (outcomes.refused_with stopped.error (s.refused_calls mid)) stopped.applied
      → Calls s old new (refused_after refusal.cause (s.refused_calls old)) refusal.applied
  many_stopped stopped refusal is then = many_err s old new stopped refusal is (record {
    honest = then.honest ∙ first.honest;
    refused = then.refused ∙ ap (outcomes.refused_with stopped.error) first.refused;
    counts = counts_after_none (s.accepted_writes old) (s.accepted_writes mid) (s.accepted_writes new) stopped.applied first.counts then.counts;
  })

-- ---- the box of one chunk

dimensions_of : (grid : ChunkGrid) → are_dimensions (grid_of_chunks grid) ≡ true
dimensions_of (Regular grid) = always_dimensions grid.dimensions.items
dimensions_of (RegularBounded grid) = always_dimensions grid.dimensions.items
dimensions_of (Rectangular grid) = always_dimensions grid.dimensions.items
dimensions_of (Rectilinear grid) = always_dimensions grid.dimensions.items

-- the box of a chunk intersects that chunk alone, so it is written by one call
pub chunk_called : {S A : Type 0} (s : stores.Ghosts S) (made : ChunkGrid) (chunk : List ℕ) (box : Region) (old new : S) (result : Result A Refusal) → IsInGrid (grid_of_chunks made) chunk box
    → CalledMany s (length (intersecting (grid_of_chunks made) box)) old new result → CalledMany s 1 old new result
chunk_called s made chunk box old new result below called =
    subst (λ (chunks : List (List ℕ)). CalledMany s (length chunks) old new result) (IsInGrid-intersecting (grid_of_chunks made) chunk box (dimensions_of made) below) called
