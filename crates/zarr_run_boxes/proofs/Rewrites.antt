-- Arrays that are rewritten: why they are not, as causes.
use Rattle.std.proofs.Common.{◌≡◌, ◌∙◌, ◌<◌, ◌^◌, ℕ, List, length, Bool, false, Option, Some, None, is_some, sym, ap, subst, inl, inr, arith}
use Rattle.std.specs.Option.{SomeIff}
use Rattle.zarr_grids_boxes.specs.Boxes.{Region, product}
use Rattle.zarr_grids_boxes.proofs.InBox.{length-places}
use Rattle.zarr_grids_chunks.specs.Grids.{Grid}
use Rattle.zarr_grids_cover.specs.Boxed.{AreBoxed, boxed_chunks}
use Rattle.zarr_codecs_meaning.specs.Types.{IsTooLarge}
use Rattle.zarr_array_core.specs.Rewriting.{RewritingStops, NotRewritten, WalkStops, RewriteStops}
use Rattle.zarr_array_core.specs.declared.error.ChunkError.{ChunkError}
use Rattle.zarr_array_core.specs.declared.error.ChunkError.TheVariants as error
use Rattle.zarr_array_core.specs.declared.error.ManyError.{ManyError}
use Rattle.zarr_array_meaning.specs.Arrays.{Array}
use Rattle.zarr_array_meaning.specs.Documents.{Document}
use Rattle.zarr_array_meaning.specs.Rewriting.{IsLargeKeyed, HasTooLargeKeyed}
use Rattle.zarr_array_meaning.specs.StoreMaps.{StoreMap}
use Rattle.zarr_run_meaning.specs.Causes.{RewrittenRefuses, IsNotRewritten, RewriteStopsAt}
use Rattle.zarr_run_boxes.specs.Outcomes.{cause_of}
use Rattle.zarr_run_boxes.specs.Rewriting.{RewriteRefused}
use Rattle.zarr_run_boxes.specs.declared.refusal.Refusal.{Refusal}

-- ---- the chunks that are walked over

pub boxed_count : (grid : Grid) (chunks : Region) → length chunks.start ≡ length chunks.shape → AreBoxed grid chunks → length (boxed_chunks grid) ≡ product chunks.shape
boxed_count grid chunks same are = ap (λ (cs : List (List ℕ)). length cs) (sym are.listed) ∙ length-places chunks.start chunks.shape same

-- where there is no value, that of which it would tell doesn't hold
pub none_holds : (o : Option ℕ) (P : Type 0) (v : ℕ) → SomeIff o P v → is_some o ≡ false → P → ⊥
none_holds None P v tells none p = tells p
none_holds (Some x) P v tells none p = absurd (cc)

-- too many chunks
pub many_large : (array : Array) (store : StoreMap) (chunks : Region) → length chunks.start ≡ length chunks.shape → AreBoxed array.document.grid chunks → (product chunks.shape < 2 ^ 63 → ⊥) → HasTooLargeKeyed array store
many_large array store chunks same are many = let count = boxed_count array.document.grid chunks same are in inl (omega arith)

-- not too many chunks, and none that has a key is too large
pub none_large : (array : Array) (store : StoreMap) (chunks : Region) → length chunks.start ≡ length chunks.shape → AreBoxed array.document.grid chunks → product chunks.shape < 2 ^ 63 → (IsLargeKeyed array store → ⊥) → HasTooLargeKeyed array store → ⊥
none_large array store chunks same are few none (inl many) = let count = boxed_count array.document.grid chunks same are in absurd (omega arith)
none_large array store chunks same are few none (inr large) = none large

-- ---- a rewrite that stops at a chunk

value_refuses : (document : Document) (store_empty : Bool) (shape value : List ℕ) (e : ChunkError) → (IsTooLarge document.elements.type (product shape) → ⊥) → RewritingStops document store_empty shape value e → RewrittenRefuses document store_empty shape value (cause_of e)
value_refuses document store_empty shape value error.Fit small stops = stops
value_refuses document store_empty shape value (error.Storage e) small stops = absurd stops
value_refuses document store_empty shape value error.Damage small stops = stops
value_refuses document store_empty shape value error.Codec small n = record { fit = n.fit; cells = n.cells; decodes = n.decodes; called = n.stops.0; is = n.stops.1 }
value_refuses document store_empty shape value error.Size small (inl large) = absurd (small large)
value_refuses document store_empty shape value error.Size small (inr n) = record { fit = n.fit; cells = n.cells; decodes = n.decodes; called = n.stops.0; is = n.stops.1 }
value_refuses document store_empty shape value error.Memory small stops = absurd stops

not_rewritten : (array : Array) (store : StoreMap) (store_empty : Bool) (n : ℕ) (e : ChunkError) → (HasTooLargeKeyed array store → ⊥) → NotRewritten array store_empty (record { applied = n; error = e }) store → IsNotRewritten array store store_empty n (cause_of e)
not_rewritten array store store_empty n e small r = record {
  chunk = r.chunk;
  nth = r.nth;
  box = r.box;
  below = r.below;
  value = r.value;
  stored = r.stored;
  refuses = value_refuses array.document store_empty r.box.shape r.value e (λ large. small (inr (r.chunk, r.box, r.below, ap is_some r.stored, large))) r.stops;
}

walk_stops : (array : Array) (store : StoreMap) (store_empty : Bool) (n : ℕ) (e : ChunkError) → (HasTooLargeKeyed array store → ⊥) → WalkStops array store_empty (record { applied = n; error = e }) store e → RewriteStopsAt array store store_empty n (cause_of e)
walk_stops array store store_empty n error.Fit small stops = not_rewritten array store store_empty n error.Fit small stops
walk_stops array store store_empty n (error.Storage e) small stops = stops.0
walk_stops array store store_empty n error.Damage small stops = not_rewritten array store store_empty n error.Damage small stops
walk_stops array store store_empty n error.Codec small stops = not_rewritten array store store_empty n error.Codec small stops
walk_stops array store store_empty n error.Size small stops = not_rewritten array store store_empty n error.Size small stops
walk_stops array store store_empty n error.Memory small stops = stops

-- why a rewrite of chunks that are not too large stopped
pub rewrite_stopped : (array : Array) (store_empty : Bool) (old new : StoreMap) (stopped : ManyError) (refusal : Refusal) → (HasTooLargeKeyed array old → ⊥) → RewriteStops array store_empty stopped old new
    → refusal ≡ record { cause = cause_of stopped.error; applied = stopped.applied } → RewriteRefused array store_empty refusal old new
rewrite_stopped array store_empty old new stopped refusal small stops is =
    subst (λ (r : Refusal). RewriteRefused array store_empty r old new) (sym is)
    (inr (record { small = small; stops = walk_stops array old store_empty stopped.applied stopped.error small stops.stops; rewrote = stops.rewrote }))
