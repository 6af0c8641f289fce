-- Reads of boxes: how many calls of the store were refused, and how many bytes it gave.
use Rattle.std.proofs.Common.{◌≡◌, ℕ, ◌+◌, ◌≤◌, List, refl, sym, subst, inl, inr, IfErr, Result, Ok, Err}
use Rattle.zarr_grids_boxes.specs.Boxes.{Region}
use Rattle.zarr_array_core.specs.Outcomes.{ReadStops}
use Rattle.zarr_array_core.specs.declared.error.ChunkError.{ChunkError}
use Rattle.zarr_array_core.specs.declared.error.ChunkError.TheVariants as error
use Rattle.zarr_array_meaning.specs.Documents.{Document}
use Rattle.zarr_array_meaning.specs.StoreMaps.{StoreMap}
use Rattle.zarr_run_meaning.specs.Counts.{most_refused}
use Rattle.zarr_run_meaning.specs.Steps.{CountsRefusal}
use Rattle.zarr_run_meaning.specs.declared.cause.Cause.{Cause}
use Rattle.zarr_run_meaning.specs.declared.cause.Cause.TheVariants as cause
use Rattle.zarr_run_boxes.specs.Outcomes.{ChunkRefused, ChunksRefused, CountsRead, cause_of}

-- ---- reads that are refused before the store is called

-- a cause that counts nothing
as_before : (c d : Cause) (n : ℕ) → CountsRefusal d n n → c ≡ d → CountsRefusal c n n
as_before c d n counts is = subst (λ (c : Cause). CountsRefusal c n n) (sym is) counts

no_chunk : (document : Document) (chunk : List ℕ) (c : Cause) (n : ℕ) → ChunkRefused document chunk c → CountsRefusal c n n
no_chunk document chunk c n (inl is) = as_before c cause.Memory n (inl refl) is
no_chunk document chunk c n (inr is) = as_before c cause.Region n (inl refl) is.0

no_chunks : (document : Document) (region : Region) (c : Cause) (n : ℕ) → ChunksRefused document region c → CountsRefusal c n n
no_chunks document region c n (inl is) = as_before c cause.Memory n (inl refl) is
no_chunks document region c n (inr is) = as_before c cause.Size n (inl refl) is.0

-- for want of memory
pub reads_nothing : {A : Type 0} (result : Result A Cause) (n : ℕ) → IfErr result (λ c. c ≡ cause.Memory) → CountsRead result n n
reads_nothing (Ok value) n why = refl
reads_nothing (Err c) n why = as_before c cause.Memory n (inl refl) why

-- since a chunk has no box
pub reads_no_chunk : {A : Type 0} (document : Document) (chunk : List ℕ) (result : Result A Cause) (n : ℕ) → IfErr result (ChunkRefused document chunk) → CountsRead result n n
reads_no_chunk document chunk (Ok value) n why = refl
reads_no_chunk document chunk (Err c) n why = no_chunk document chunk c n why

-- since a box or one of its chunks is too large
pub reads_no_chunks : {A : Type 0} (document : Document) (region : Region) (result : Result A Cause) (n : ℕ) → IfErr result (ChunksRefused document region) → CountsRead result n n
reads_no_chunks document region (Ok value) n why = refl
reads_no_chunks document region (Err c) n why = no_chunks document region c n why

-- ---- reads that end at a chunk

-- these are refused for another cause than their region or a size
pub stop_taken : (path : List ℕ) (document : Document) (store : StoreMap) (region : Region) (e : ChunkError) (most before after : ℕ) → ReadStops path document store region e → after ≤ before + most → after ≤ before + most_refused (cause_of e) most
stop_taken path document store region error.Fit most before after why few = few
stop_taken path document store region (error.Storage e) most before after why few = few
stop_taken path document store region error.Damage most before after why few = few
stop_taken path document store region error.Memory most before after why few = few
stop_taken path document store region error.Codec most before after why few = absurd why
stop_taken path document store region error.Size most before after why few = absurd why
