-- What a rewrite of one array answers and leaves.
use Rattle.std.specs.Prelude.{◌≡◌, ◌⊎◌, Bool, take}
use Rattle.zarr_array_meaning.specs.Arrays.{Array}
use Rattle.zarr_array_meaning.specs.Rewriting.{RewroteChunks, HasTooLargeKeyed, keyed_chunks}
use Rattle.zarr_array_meaning.specs.StoreMaps.{StoreMap}
use Rattle.zarr_run_meaning.specs.declared.cause.Cause.{Cause}
use Rattle.zarr_run_meaning.specs.declared.cause.Cause.TheVariants as cause
use Rattle.zarr_run_meaning.specs.Causes.{RewriteRefuses, RewriteStopsAt}
use Rattle.zarr_run_boxes.specs.Outcomes.{IsUntouched}
use Rattle.zarr_run_boxes.specs.declared.refusal.Refusal.{Refusal}

-- each chunk in the grid that had a key was stored anew
pub record RewritesTarget (array : Array) (store_empty : Bool) (old new : StoreMap) : Type 0 where
  pub small : ¬ HasTooLargeKeyed array old
  pub rewrote : RewroteChunks array store_empty (keyed_chunks array old) old new

-- a rewrite stopped: of the chunks that had a key exactly the first were stored anew
pub record RewroteFirst (array : Array) (store_empty : Bool) (old new : StoreMap) (refusal : Refusal) : Type 0 where
  pub small : ¬ HasTooLargeKeyed array old
  pub stops : RewriteStopsAt array old store_empty refusal.applied refusal.cause
  pub rewrote : RewroteChunks array store_empty (take refusal.applied (keyed_chunks array old)) old new

-- a rewrite is refused before a chunk is stored anew, or memory is short
abbrev pub WholeRefused : Array → Cause → StoreMap → Type 0
WholeRefused array c store = RewriteRefuses array store c ⊎ (c ≡ cause.Memory)

-- a rewrite was refused: before a chunk was stored anew, or after some were
abbrev pub RewriteRefused : Array → Bool → Refusal → StoreMap → StoreMap → Type 0
RewriteRefused array store_empty refusal old new =
    (IsUntouched refusal old new × WholeRefused array refusal.cause old) ⊎ RewroteFirst array store_empty old new refusal
