-- How many bytes of what a store holds are taken for a read of a box.
use Rattle.std.specs.Prelude.{ℕ, List, Bool, Option, max, sum_by, ◌&&◌, if◌then◌else◌}
use Rattle.std.specs.Option.{option_map_or}
use Rattle.zarr_grids_boxes.specs.Boxes.{Region}
use Rattle.zarr_grids_chunks.specs.Grids.{chunk_box, intersecting}
use Rattle.zarr_codecs_traits.specs.Indexers.{in_box}
use Rattle.zarr_codecs_traits.specs.ReadBytes.{most_of_numbers, most_read}
use Rattle.zarr_codecs_traits.specs.Sources.{value_length}
use Rattle.zarr_array_meaning.specs.Chunks.{holds_box, stored_at}
use Rattle.zarr_array_meaning.specs.Documents.{Document}
use Rattle.zarr_array_meaning.specs.StoreMaps.{StoreMap}
use Rattle.zarr_array_meaning.specs.Writing.{shared_numbers}

-- a read of a region of an array, by the array's path and document, of what a store holds: with workers, or without
pub record BoxRead : Type 0 where
  pub path : List ℕ
  pub document : Document
  pub store : StoreMap
  pub region : Region
  pub workers : Bool

-- the same, put together
abbrev pub box_read : List ℕ → Document → StoreMap → Region → Bool → BoxRead
box_read path document store region workers = record { path = path; document = document; store = store; region = region; workers = workers }

-- how many bytes the codecs take at most of what is stored for a chunk of this shape, for the places of a box of it
abbrev pub most_of_part : Document → List ℕ → Option (List ℕ) → Region → ℕ
most_of_part document shape stored part = most_read document.chain document.elements.type shape stored (in_box part)

-- how many they take at most of what is stored for a chunk with this box, for the places that it shares with a region: of a shard that stands alone, its index and the slices that these places lie in
abbrev pub most_of_shared : Document → Region → Region → Option (List ℕ) → ℕ
most_of_shared document region box stored = most_of_numbers document.chain document.elements.type box.shape stored (shared_numbers region box)

-- how many bytes are taken at most of what is stored for a chunk with this box: those of the places that the read's region shares with it. With workers, what is stored for a chunk that lies in the region may be taken as a whole
abbrev pub most_of_chunk : BoxRead → Region → Option (List ℕ) → ℕ
most_of_chunk read box stored =
    let shared = most_of_shared read.document read.region box stored in
    if read.workers && holds_box read.region box then max shared (value_length stored) else shared

-- how many are taken at most of what the store holds for a chunk; of a chunk without a box none
abbrev pub most_at : BoxRead → List ℕ → ℕ
most_at read chunk = option_map_or (λ (box : Region). most_of_chunk read box (stored_at read.path read.document read.store chunk)) (chunk_box read.document.grid chunk) 0

-- how many are taken at most for the whole read: those of each chunk that its region intersects, once
abbrev pub most_of_box : BoxRead → ℕ
most_of_box read = sum_by (most_at read) (intersecting read.document.grid read.region)
