-- The chunks that have a key have their turns one after another.
use Rattle.std.proofs.Common.{◌≡◌, ◌∙◌, ℕ, ◌+◌, ◌<◌, ◌≤◌, Bool, true, false, List, [], ◌∷◌, take, Some, None, Ok, refl, sym, subst, append-nil}
use Rattle.std.specs.Prelude.{MatchBool}
use Rattle.zarr_grids_boxes.specs.Boxes.{Region, product, place_at}
use Rattle.zarr_grids_chunks.specs.Grids.{IsInGrid}
use Rattle.zarr_array_meaning.specs.Arrays.{Array}
use Rattle.zarr_array_meaning.specs.Rewriting.{RewroteChunks, keyed_chunks}
use Rattle.zarr_array_meaning.specs.StoreMaps.{CountsUpTo}
use Rattle.zarr_array_storage.specs.declared.traits.ReadableStorageTraits as stores
use Rattle.zarr_array_core.specs.Calls.{calls_of}
use Rattle.zarr_array_core.specs.Rewriting.{IsAbsentAt}
use Rattle.zarr_array_core.specs.Turns.{InTurn, IsUnwritten}
use Rattle.zarr_array_core.specs.declared.error.ChunkError.{ChunkError}
use Rattle.zarr_array_core.proofs.Listed.{one_listed}
use Rattle.zarr_array_core.proofs.Rewritten.{IsRewrite, SoFar, all_keyed, first_keyed, next_keyed, taken_keyed}
use Rattle.zarr_array_core.proofs.Turns.{in_turn_more, in_turn_still}

-- a chunk more, if it has a key
pub keyed_turn_next : {S : Type 0} (s : stores.Ghosts S) (array : Array) (store_empty : Bool) (chunks : Region) (n applied : ℕ) (chunk : List ℕ) (box : Region) (had : Bool) (old mid new : S) → IsRewrite array chunks → n < product chunks.shape
    → chunk ≡ place_at chunks.start chunks.shape n → IsInGrid array.document.grid chunk box → s.is_honest new ≡ s.is_honest mid → CountsUpTo (calls_of {E = ChunkError} (Ok had)) (s.accepted_writes mid) (s.accepted_writes new)
    → MatchBool had (RewroteChunks array store_empty (chunk ∷ []) (s.held mid) (s.held new)) (IsAbsentAt array chunk (s.held mid) (s.held new)) → SoFar array store_empty chunks n applied (s.held old) (s.held mid)
    → InTurn s array (first_keyed array (s.held old) chunks n) old mid → InTurn s array (first_keyed array (s.held old) chunks (n + 1)) old new
keyed_turn_next s array store_empty chunks n applied chunk box true old mid new walk below at here honest counts one first turns =
    let had = one.each chunk box here (one_listed chunk chunk refl) in
    let keyed = next_keyed array store_empty chunks n chunk box (Some had.0) (s.held old) (s.held mid) walk below at here had.1 first.rewrote in
    subst (λ (cs : List (List ℕ)). InTurn s array cs old new) (sym keyed) (in_turn_more s array (first_keyed array (s.held old) chunks n) chunk old mid new turns (record { honest = honest; once = counts; others = one.others }))
keyed_turn_next s array store_empty chunks n applied chunk box false old mid new walk below at here honest counts one first turns =
    let keyed = next_keyed array store_empty chunks n chunk box None (s.held old) (s.held mid) walk below at here one.0 first.rewrote ∙ append-nil (first_keyed array (s.held old) chunks n) in
    subst (λ (cs : List (List ℕ)). InTurn s array cs old new) (sym keyed) (in_turn_still s array (first_keyed array (s.held old) chunks n) old mid new turns (record { honest = honest; counts = counts; held = one.1 }))

-- all of them
pub keyed_turns_all : {S : Type 0} (s : stores.Ghosts S) (array : Array) (chunks : Region) (n : ℕ) (old new : S) → IsRewrite array chunks → n ≡ product chunks.shape
    → InTurn s array (first_keyed array (s.held old) chunks n) old new → InTurn s array (keyed_chunks array (s.held old)) old new
keyed_turns_all s array chunks n old new walk end turns = subst (λ (cs : List (List ℕ)). InTurn s array cs old new) (all_keyed array (s.held old) chunks n walk end) turns

-- the first of them, where the walk stops
pub keyed_turns_stop : {S : Type 0} (s : stores.Ghosts S) (array : Array) (store_empty : Bool) (chunks : Region) (n applied : ℕ) (old mid new : S) → IsRewrite array chunks → n ≤ product chunks.shape → SoFar array store_empty chunks n applied (s.held old) (s.held mid)
    → IsUnwritten s mid new → InTurn s array (first_keyed array (s.held old) chunks n) old mid → InTurn s array (take applied (keyed_chunks array (s.held old))) old new
keyed_turns_stop s array store_empty chunks n applied old mid new walk h first still turns =
    subst (λ (cs : List (List ℕ)). InTurn s array cs old new) (sym (taken_keyed array store_empty chunks n applied (s.held old) (s.held mid) walk h first)) (in_turn_still s array (first_keyed array (s.held old) chunks n) old mid new turns still)
