-- The chunks that a call goes through, one after another.
use Rattle.std.specs.Prelude.{◌≡◌, List, [], ◌∷◌, ℕ, take, IsTrue, Result, Ok, Err}
use Rattle.zarr_grids_boxes.specs.Boxes.{Region, places}
use Rattle.zarr_grids_chunks.specs.Grids.{intersecting}
use Rattle.zarr_codecs_traits.specs.declared.array_to_bytes.ArrayToBytesCodecTraits as codecs
use Rattle.zarr_array_meaning.specs.Arrays.{Array}
use Rattle.zarr_array_meaning.specs.Chunks.{KeepsOtherKeys}
use Rattle.zarr_array_meaning.specs.Rewriting.{keyed_chunks}
use Rattle.zarr_array_meaning.specs.StoreMaps.{CountsUpTo, StoreMap}
use Rattle.zarr_array_storage.specs.declared.traits.ReadableStorageTraits as stores
use Rattle.zarr_array_core.specs.Arrays.{array_of}
use Rattle.zarr_array_core.specs.declared.array_core.ArrayCore.{ArrayCore}
use Rattle.zarr_array_core.specs.declared.error.ManyError.{ManyError}

-- nothing was written: a store accepted no writing call, holds what it held, and stays as honest as it was
pub record IsUnwritten {S : Type 0} (s : stores.Ghosts S) (old new : S) : Type 0 where
  pub honest : s.is_honest new ≡ s.is_honest old
  pub counts : CountsUpTo 0 (s.accepted_writes old) (s.accepted_writes new)
  pub held : s.held new ≡ s.held old

-- the turn of a chunk: a store accepted at most one writing call, no key but the chunk's changed, and the store stays as honest as it was
pub record OnceAt {S : Type 0} (s : stores.Ghosts S) (array : Array) (chunk : List ℕ) (old new : S) : Type 0 where
  pub honest : s.is_honest new ≡ s.is_honest old
  pub once : CountsUpTo 1 (s.accepted_writes old) (s.accepted_writes new)
  pub others : KeepsOtherKeys array.path array.document (chunk ∷ []) (s.held old) (s.held new)

-- each of these chunks had its turn, one after another, and nothing else was written
abbrev pub InTurn : {S : Type 0} → stores.Ghosts S → Array → List (List ℕ) → S → S → Type 0
InTurn {S = S} s array [] old new = IsUnwritten s old new
InTurn {S = S} s array (chunk ∷ chunks) old new = (mid : S) × OnceAt s array chunk old mid × InTurn s array chunks mid new

-- ---- calls over chunks

-- chunks of an array, in the order in which a call goes through them
pub record ChunkWalk : Type 0 where
  pub array : Array
  pub chunks : List (List ℕ)

-- the chunks in a box of chunk indices, row-major
abbrev pub box_walk : {C : Type 0} → codecs.Ghosts C → ArrayCore C → Region → ChunkWalk
box_walk c array chunks = record { array = array_of c array; chunks = places chunks.start chunks.shape }

-- the chunks that a region intersects, row-major
abbrev pub region_walk : {C : Type 0} → codecs.Ghosts C → ArrayCore C → Region → ChunkWalk
region_walk c array region = record { array = array_of c array; chunks = intersecting (array_of c array).document.grid region }

-- the chunks that have a key in a store, row-major
abbrev pub keyed_walk : {C : Type 0} → codecs.Ghosts C → ArrayCore C → StoreMap → ChunkWalk
keyed_walk c array store = record { array = array_of c array; chunks = keyed_chunks (array_of c array) store }

-- of the chunks of a walk a call went through all, or through those before its error
abbrev pub gone_through : {A : Type 0} → List (List ℕ) → Result A ManyError → List (List ℕ)
gone_through chunks (Ok x) = chunks
gone_through chunks (Err stopped) = take stopped.applied chunks

-- over an honest store, each chunk that a call went through had its turn: at most one writing call for each, chunk after chunk
abbrev pub HadTurns : {S A : Type 0} → stores.Ghosts S → ChunkWalk → S → S → Result A ManyError → Type 0
HadTurns s walk old new result = IsTrue (s.is_honest old) → InTurn s walk.array (gone_through walk.chunks result) old new
