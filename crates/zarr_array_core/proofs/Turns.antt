-- Chunks that have their turns one after another.
use Rattle.std.proofs.Common.{◌≡◌, ◌∙◌, ℕ, ◌+◌, ◌≤◌, List, [], ◌∷◌, ◌++◌, length, take, Option, refl, sym, ap, subst, arith}
use Rattle.std.specs.FinMap.{get}
use Rattle.zarr_grids_boxes.specs.Boxes.{Region, product, places, place_at}
use Rattle.zarr_grids_keys.specs.Keys.{chunk_key}
use Rattle.zarr_array_meaning.specs.Arrays.{Array}
use Rattle.zarr_array_meaning.specs.StoreMaps.{CountsUpTo, StoreMap}
use Rattle.zarr_array_storage.specs.declared.traits.ReadableStorageTraits as stores
use Rattle.zarr_array_core.specs.ChunkValues.{with_value}
use Rattle.zarr_array_core.specs.Turns.{InTurn, IsUnwritten, OnceAt}
use Rattle.zarr_array_core.proofs.ChunkWritten.{value_other}
use Rattle.zarr_array_core.proofs.Listed.{one_listed}
use Rattle.zarr_array_core.proofs.NthChunks.{first_chunks, first_chunks-more, first_chunks-places, first_chunks-taken}

pub counts_none : (n : ℕ) → CountsUpTo 0 n n
counts_none n = (omega arith, omega arith)

-- what is accepted after nothing was
counts_then : (m old mid new : ℕ) → CountsUpTo 0 old mid → CountsUpTo m mid new → CountsUpTo m old new
counts_then m old mid new first next = (omega (arith, first.0, next.0), omega (arith, first.1, next.1))

-- ---- one turn

pub no_turn : {S : Type 0} (s : stores.Ghosts S) (store : S) → IsUnwritten s store store
no_turn s store = record { honest = refl; counts = counts_none (s.accepted_writes store); held = refl }

-- a chunk got a value, or lost the one that it had
pub once_at : {S : Type 0} (s : stores.Ghosts S) (array : Array) (chunk : List ℕ) (made : Option (List ℕ)) (old new : S) → s.is_honest new ≡ s.is_honest old → CountsUpTo 1 (s.accepted_writes old) (s.accepted_writes new)
    → s.held new ≡ with_value (s.held old) (chunk_key array.path array.document.keys chunk) made → OnceAt s array chunk old new
once_at s array chunk made old new honest once is = record {
  honest = honest;
  once = once;
  others = λ key ne. ap (λ (m : StoreMap). get m key) is ∙ value_other (s.held old) (chunk_key array.path array.document.keys chunk) key made (ne chunk (one_listed chunk chunk refl));
}

-- after nothing was written
unwritten_then : {S : Type 0} (s : stores.Ghosts S) (old mid new : S) → IsUnwritten s old mid → IsUnwritten s mid new → IsUnwritten s old new
unwritten_then s old mid new first next = record {
  honest = next.honest ∙ first.honest;
  counts = counts_then 0 (s.accepted_writes old) (s.accepted_writes mid) (s.accepted_writes new) first.counts next.counts;
  held = next.held ∙ first.held;
}

once_then : {S : Type 0} (s : stores.Ghosts S) (array : Array) (chunk : List ℕ) (old mid new : S) → IsUnwritten s old mid → OnceAt s array chunk mid new → OnceAt s array chunk old new
once_then s array chunk old mid new first next = record {
  honest = next.honest ∙ first.honest;
  once = counts_then 1 (s.accepted_writes old) (s.accepted_writes mid) (s.accepted_writes new) first.counts next.once;
  others = λ key ne. next.others key ne ∙ ap (λ (m : StoreMap). get m key) first.held;
}

-- ---- one more

pub in_turn_more : {S : Type 0} (s : stores.Ghosts S) (array : Array) (chunks : List (List ℕ)) (chunk : List ℕ) (old mid new : S) → InTurn s array chunks old mid → OnceAt s array chunk mid new → InTurn s array (chunks ++ chunk ∷ []) old new
in_turn_more s array [] chunk old mid new first next = (new, once_then s array chunk old mid new first next, no_turn s new)
in_turn_more s array (c ∷ chunks) chunk old mid new first next = (first.0, first.1, in_turn_more s array chunks chunk first.0 mid new first.2 next)

pub in_turn_still : {S : Type 0} (s : stores.Ghosts S) (array : Array) (chunks : List (List ℕ)) (old mid new : S) → InTurn s array chunks old mid → IsUnwritten s mid new → InTurn s array chunks old new
in_turn_still s array [] old mid new first next = unwritten_then s old mid new first next
in_turn_still s array (c ∷ chunks) old mid new first next = (first.0, first.1, in_turn_still s array chunks first.0 mid new first.2 next)

pub turns_none : {S : Type 0} (s : stores.Ghosts S) (array : Array) (old : S) → InTurn s array [] old old
turns_none s array old = record { honest = refl; counts = counts_none (s.accepted_writes old); held = refl }

-- ---- the chunks of a box of chunk indices

pub turn_next : {S : Type 0} (s : stores.Ghosts S) (array : Array) (chunks : Region) (n : ℕ) (chunk : List ℕ) (old mid new : S) → chunk ≡ place_at chunks.start chunks.shape n → OnceAt s array chunk mid new
    → InTurn s array (first_chunks chunks n) old mid → InTurn s array (first_chunks chunks (n + 1)) old new
turn_next s array chunks n chunk old mid new e next first =
    let listed : first_chunks chunks n ++ chunk ∷ [] ≡ first_chunks chunks (n + 1) = ap (λ k. first_chunks chunks n ++ k ∷ []) e ∙ sym (first_chunks-more chunks n) in
    subst (λ (cs : List (List ℕ)). InTurn s array cs old new) listed (in_turn_more s array (first_chunks chunks n) chunk old mid new first next)

-- all chunks of the box
pub turns_all : {S : Type 0} (s : stores.Ghosts S) (array : Array) (chunks : Region) (n : ℕ) (old new : S) → length chunks.start ≡ length chunks.shape → n ≡ product chunks.shape
    → InTurn s array (first_chunks chunks n) old new → InTurn s array (places chunks.start chunks.shape) old new
turns_all s array chunks n old new l end turns = subst (λ (cs : List (List ℕ)). InTurn s array cs old new) (first_chunks-places chunks n l end) turns

-- the first chunks of the box, where the next one stops
pub turns_stop : {S : Type 0} (s : stores.Ghosts S) (array : Array) (chunks : Region) (n : ℕ) (old mid new : S) → length chunks.start ≡ length chunks.shape → n ≤ product chunks.shape → IsUnwritten s mid new
    → InTurn s array (first_chunks chunks n) old mid → InTurn s array (take n (places chunks.start chunks.shape)) old new
turns_stop s array chunks n old mid new l h still turns =
    subst (λ (cs : List (List ℕ)). InTurn s array cs old new) (first_chunks-taken chunks n l h) (in_turn_still s array (first_chunks chunks n) old mid new turns still)
