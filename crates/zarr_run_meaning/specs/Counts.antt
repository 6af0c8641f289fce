-- How many writing calls of the store a command may make: one for each text of a document that it stores, and one for each chunk that it writes or erases; and how many bytes a read may take of it.
use Rattle.std.specs.Prelude.{ℕ, ◌+◌, ◌≤◌, List, length, Bool, true, if◌then◌else◌}
use Rattle.std.specs.Option.{option_map_or}
use Rattle.zarr_grids_boxes.specs.Boxes.{Region, product}
use Rattle.zarr_grids_chunks.specs.Grids.{Grid, chunk_box, intersecting}
use Rattle.zarr_array_v2.specs.Versions.{is_version_2}
use Rattle.zarr_array_meaning.specs.Documents.{Document}
use Rattle.zarr_array_meaning.specs.ReadBytes.{box_read, most_of_box}
use Rattle.zarr_array_meaning.specs.Rewriting.{keyed_chunks}
use Rattle.zarr_array_meaning.specs.StoreMaps.{CountsUpTo, StoreMap}
use Rattle.zarr_run_meaning.specs.declared.cause.Cause.{Cause}
use Rattle.zarr_run_meaning.specs.declared.cause.Cause.TheVariants as cause
use Rattle.zarr_run_meaning.specs.Requests.{Target, in_box, in_chunk, Request, create, write, read, erase, compact, rewrite, Answer, done, compacted, refused}
use Rattle.zarr_run_meaning.specs.Worlds.{Held, World, array_of, held_at}

-- how many chunks a target means: those that its box intersects, which are none where the box is empty, or one
abbrev pub chunks_meant : Grid → Target → ℕ
chunks_meant grid (in_box region) = length (intersecting grid region)
chunks_meant grid (in_chunk chunk) = 1

-- how many writing calls a command that is answered so makes at most: one for each text of a document that it stores, or chunk that it writes or erases. One that is refused makes at most as many as `applied` says; a create of a document of version 2 may have stored its attributes where the store, or memory, refused it
abbrev pub most_writes : World → Request → Answer → ℕ
most_writes world (create path document order) done = if is_version_2 document then 2 else 1
most_writes world (create path document order) (refused cause.Store n) = if is_version_2 document then 1 else 0
most_writes world (create path document order) (refused cause.Memory n) = if is_version_2 document then 1 else 0
most_writes world (write path target given options) done = option_map_or (λ (h : Held). chunks_meant h.document.grid target) (held_at path world.arrays) 0
most_writes world (write path target given options) (refused c n) = n
most_writes world (erase path chunks) done = product chunks.shape
most_writes world (erase path chunks) (refused c n) = n
most_writes world (compact path chunk options) (compacted true) = 1
most_writes world (rewrite path options) done = option_map_or (λ (h : Held). length (keyed_chunks (array_of h) world.store)) (held_at path world.arrays) 0
most_writes world (rewrite path options) (refused c n) = n
most_writes world request answer = 0

-- the count of accepted writing calls rises by at most so many
abbrev pub WritesAtMost : World → Request → Answer → ℕ → ℕ → Type 0
WritesAtMost world request answer before after = CountsUpTo (most_writes world request answer) before after

-- how many bytes are taken at most of what a store holds, for a read of the cells that a target means, with workers or without; for a chunk without a box none
abbrev pub most_of_target : List ℕ → Document → StoreMap → Target → Bool → ℕ
most_of_target path document store (in_box region) workers = most_of_box (box_read path document store region workers)
most_of_target path document store (in_chunk chunk) workers = option_map_or (λ (region : Region). most_of_box (box_read path document store region workers)) (chunk_box document.grid chunk) 0

-- how many bytes a read takes that is refused for this cause, of at most so many: none where its region or a size is refused, which is before the store is asked
abbrev pub most_refused : Cause → ℕ → ℕ
most_refused cause.Region most = 0
most_refused cause.Size most = 0
most_refused c most = most

-- how many bytes a read takes that is answered so, of at most so many
abbrev pub most_answered : Answer → ℕ → ℕ
most_answered (refused c n) most = most_refused c most
most_answered answer most = most

-- where a command is a read that is answered so, the count of bytes that the store gave rises at most by what its target takes of the array that is held at its path, and not at all where none is held, or the region or a size is refused
abbrev pub ReadsAtMost : World → Request → Answer → ℕ → ℕ → Type 0
ReadsAtMost world (read path target options) answer before after = after ≤ before + most_answered answer (option_map_or (λ (h : Held). most_of_target h.path h.document world.store target options.workers) (held_at path world.arrays) 0)
ReadsAtMost world request answer before after = Unit {0}
