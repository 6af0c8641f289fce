-- What walks over chunks have left.
use Rattle.std.specs.Prelude.{◌≡◌, ℕ, List, [], ◌∷◌, ◌++◌, drop, cond, true, Option, MatchOption, is_none}
use Rattle.std.specs.List.{list_all}
use Rattle.zarr_grids_chunks.specs.Grids.{Grid, chunk_box}
use Rattle.zarr_grids_boxes.specs.Boxes.{places}
use Rattle.zarr_grids_boxes.specs.Subsets.{region_of}
use Rattle.zarr_grids_boxes.specs.Walks.{number_in}
use Rattle.zarr_grids_dimensions.specs.declared.dimension.Dimension.{Dimension}
use Rattle.zarr_grids_chunk_grids.specs.declared.walks.ChunkIndices.{ChunkIndices}
use Rattle.zarr_grids_chunk_grids.specs.declared.box_walks.ChunkSubsets.{ChunkSubsets}
use Rattle.zarr_grids_chunk_grids.specs.declared.box_walks.ChunkIndicesAndSubsets.{ChunkIndicesAndSubsets}

-- the chunks that a walk has left
abbrev pub chunks_left : ChunkIndices → List (List ℕ)
chunks_left walk =
    let box = region_of walk.chunks in
    cond walk.more (drop (number_in box walk.next.items) (places box.start box.shape)) []

-- a walk went over chunks that have no box
pub record PassesOver (grid : Grid) (old new : List (List ℕ)) : Type 0 where
  pub passed : List (List ℕ)
  pub split : old ≡ passed ++ new
  pub without : list_all (λ chunk. is_none (chunk_box grid chunk)) passed ≡ true

-- a walk over chunks that have a box gives the next of them, or nothing where none is left
abbrev pub GivesNext : {X : Type 0} → Grid → List (List ℕ) → List (List ℕ) → (List ℕ → X → Type 0) → Option X → Type 0
GivesNext grid old new Is given = MatchOption given (PassesOver grid old [] × (new ≡ [])) (λ item. (chunk : List ℕ) × PassesOver grid old (chunk ∷ new) × Is chunk item)

-- the chunks that a walk over their boxes has left
abbrev pub subsets_left : ChunkSubsets → List (List ℕ)
subsets_left walk = chunks_left walk.chunks

-- the dimensions of the grid whose boxes a walk gives
abbrev pub dimensions_of_subsets : ChunkSubsets → List Dimension
dimensions_of_subsets walk = walk.grid.now

-- the chunks that a walk over chunks and their boxes has left
abbrev pub pairs_left : ChunkIndicesAndSubsets → List (List ℕ)
pairs_left walk = chunks_left walk.chunks

-- the dimensions of the grid whose chunks and boxes a walk gives
abbrev pub dimensions_of_pairs : ChunkIndicesAndSubsets → List Dimension
dimensions_of_pairs walk = walk.grid.now
