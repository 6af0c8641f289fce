-- What commands change.
use Rattle.std.specs.Prelude.{◌≡◌, ℕ, Bool, List, [], ◌∷◌, ◌++◌, map, true, false, Some, None, Ok}
use Rattle.serde_json.specs.Data.{Data}
use Rattle.zarr_grids_boxes.specs.Boxes.{Region, places}
use Rattle.zarr_grids_chunks.specs.Grids.{intersecting}
use Rattle.zarr_grids_keys.specs.Paths.{is_node_path}
use Rattle.zarr_grids_metadata.specs.Trees.{SameTree}
use Rattle.zarr_codecs_meaning.specs.Types.{Cell}
use Rattle.zarr_codecs_meaning.specs.Payloads.{Payload, cells_in}
use Rattle.zarr_codecs_metadata.specs.Chains.{ReadsCodecs}
use Rattle.zarr_codecs_options.specs.declared.codec_options.CodecOptions.{CodecOptions}
use Rattle.zarr_codecs_options.specs.declared.subchunk_write_order.SubchunkWriteOrder.{SubchunkWriteOrder}
use Rattle.zarr_array_meaning.specs.Boxes.{IsRead}
use Rattle.zarr_array_meaning.specs.Compacting.{CompactsChunk}
use Rattle.zarr_array_meaning.specs.Documents.{Document, read_document}
use Rattle.zarr_array_meaning.specs.Rewriting.{RewroteChunks, HasTooLargeKeyed, keyed_chunks}
use Rattle.zarr_array_meaning.specs.Standing.{IsLossless}
use Rattle.zarr_array_meaning.specs.Texts.{HasDocument, HasNoDocument, StoresDocument}
use Rattle.zarr_array_meaning.specs.Writes.{Write, write_to}
use Rattle.zarr_array_meaning.specs.Writing.{WroteChunks, ErasedChunks}
use Rattle.zarr_array_meaning.specs.Written.{written_document}
use Rattle.zarr_run_meaning.specs.Causes.{IsTarget, AreTargets, IsGiven, HasTooLarge, HasTooLargeChunk, IsTooLargeChunk, IsFoundIn}
use Rattle.zarr_run_meaning.specs.Requests.{Target, WriteAsked, Creation}
use Rattle.zarr_run_meaning.specs.Tables.{Table, cell, updated, changes, changes_in, fills}
use Rattle.zarr_run_meaning.specs.Worlds.{Held, World, array_of, held_at, is_taken, with_order, IsTableAt, WithTable}

-- an array begins to be held: its table has the cells that its stored chunks show
pub record Begins (h : Held) (old new : World) : Type 0 where
  pub free : held_at h.path old.arrays ≡ None
  pub shows : IsTableAt h.path h.document old.store h.table
  pub holds : new.arrays ≡ old.arrays ++ h ∷ []

-- a create that is done: the path was free, and the document is written, of version 2 in its two parts; no other key changed
pub record Creates (reads : ReadsCodecs) (given : Creation) (old new : World) : Type 0 where
  pub node : is_node_path given.path ≡ true
  pub free : is_taken given.path old.arrays ≡ false
  pub fresh : HasNoDocument given.path old.store
  pub meaning : Document
  pub opens : read_document reads given.document ≡ Ok meaning
  pub table : Table
  pub begins : Begins (record { path = given.path; tree = written_document given.document; document = meaning; order = given.order; table = table }) old new
  pub stores : StoresDocument given.path (written_document given.document) old.store new.store

-- an array that is held gets a write order: the tree that is stored is the one that was written or opened
pub record Reopens (path : List ℕ) (order : SubchunkWriteOrder) (old new : World) : Type 0 where
  pub node : is_node_path path ≡ true
  pub held : Held
  pub found : held_at path old.arrays ≡ Some held
  pub tree : Data
  pub stored : HasDocument path tree old.store
  pub same : SameTree tree held.tree
  pub updates : new.arrays ≡ with_order path order old.arrays
  pub stores : new.store ≡ old.store

-- an array that was not held is opened from the document that its path has
pub record Opens (reads : ReadsCodecs) (path : List ℕ) (order : SubchunkWriteOrder) (old new : World) : Type 0 where
  pub node : is_node_path path ≡ true
  pub tree : Data
  pub found : IsFoundIn old.arrays path tree old.store
  pub meaning : Document
  pub opens : read_document reads tree ≡ Ok meaning
  pub table : Table
  pub begins : Begins (record { path = path; tree = tree; document = meaning; order = order; table = table }) old new
  pub stores : new.store ≡ old.store

-- the cells of a box are given to some of the chunks that it intersects: the table has them, and the store; where values depend on cells alone, that of each of these chunks is what encoding makes of its new cells, if the box holds the whole chunk or the chunk was decoded before
pub record WritesChunks (h : Held) (write : Write) (chunks : List (List ℕ)) (old new : World) : Type 0 where
  pub table : Table
  pub is : table ≡ updated h.document.elements.fill h.table (changes_in h.document.grid chunks (changes write.region write.cells))
  pub updates : WithTable h.path table new.store old.arrays new.arrays
  pub stores : WroteChunks write chunks old.store new.store

-- a write that is done
pub record Writes (path : List ℕ) (asked : WriteAsked) (old new : World) : Type 0 where
  pub node : is_node_path path ≡ true
  pub held : Held
  pub found : held_at path old.arrays ≡ Some held
  pub box : Region
  pub values : List Cell
  pub is : IsGiven held.document asked.target asked.cells box values
  pub small : ¬ HasTooLarge held.document box
  pub writes : WritesChunks held (write_to (array_of held) box values asked.options) (intersecting held.document.grid box) old new

-- a payload is the cells of a box: those that are read from the store, which are the table's where the chain keeps every bit
pub record Reads (path : List ℕ) (target : Target) (payload : Payload) (old : World) : Type 0 where
  pub node : is_node_path path ≡ true
  pub held : Held
  pub found : held_at path old.arrays ≡ Some held
  pub box : Region
  pub is : IsTarget held.document.grid target box
  pub small : ¬ HasTooLarge held.document box
  pub values : List Cell
  pub lists : cells_in held.document.elements.type payload ≡ Some values
  pub read : IsRead held.path held.document old.store box values
  pub table : IsLossless held.document → values ≡ map (cell held.document.elements.fill held.table) (places box.start box.shape)

-- some chunks are erased: their cells are the fill value
pub record ErasesChunks (h : Held) (chunks : List (List ℕ)) (old new : World) : Type 0 where
  pub table : Table
  pub is : table ≡ updated h.document.elements.fill h.table (fills h.document.grid h.document.elements.fill chunks)
  pub updates : WithTable h.path table new.store old.arrays new.arrays
  pub stores : ErasedChunks h.path h.document chunks old.store new.store

-- an erasure that is done
pub record Erases (path : List ℕ) (chunks : Region) (old new : World) : Type 0 where
  pub node : is_node_path path ≡ true
  pub held : Held
  pub found : held_at path old.arrays ≡ Some held
  pub below : AreTargets held.document.grid chunks
  pub small : ¬ HasTooLargeChunk held.document chunks
  pub erases : ErasesChunks held (places chunks.start chunks.shape) old new

-- a compaction that is done: a shard is written anew without gaps, or stays. The array keeps its table
pub record Compacts (path chunk : List ℕ) (changed : Bool) (old new : World) : Type 0 where
  pub node : is_node_path path ≡ true
  pub held : Held
  pub found : held_at path old.arrays ≡ Some held
  pub small : ¬ IsTooLargeChunk held.document chunk
  pub updates : WithTable held.path held.table new.store old.arrays new.arrays
  pub stores : CompactsChunk (array_of held) chunk changed old.store new.store

-- some chunks that have a key are stored anew. The array keeps its table
pub record RewritesChunks (h : Held) (options : CodecOptions) (chunks : List (List ℕ)) (old new : World) : Type 0 where
  pub updates : WithTable h.path h.table new.store old.arrays new.arrays
  pub stores : RewroteChunks (array_of h) options.store_empty_chunks chunks old.store new.store

-- a rewrite that is done: each chunk in the grid that has a key is stored anew
pub record Rewrites (path : List ℕ) (options : CodecOptions) (old new : World) : Type 0 where
  pub node : is_node_path path ≡ true
  pub held : Held
  pub found : held_at path old.arrays ≡ Some held
  pub small : ¬ HasTooLargeKeyed (array_of held) old.store
  pub rewrites : RewritesChunks held options (keyed_chunks (array_of held) old.store) old new
