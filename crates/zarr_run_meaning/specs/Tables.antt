-- The table of an array: a finite map from places to the cells that differ from the fill value.
use Rattle.std.specs.Prelude.{ℕ, List, [], ◌∷◌, map, if◌then◌else◌, unwrap_or}
use Rattle.std.specs.List.{filter, flat_map, list_any, zip}
use Rattle.std.specs.Option.{option_map_or}
use Rattle.std.specs.Ordering.{nat_cmp}
use Rattle.std.specs.Cmp.Lexicographic.{slice_cmp}
use Rattle.std.specs.FinMap.{FinMap, get, insert, remove}
use Rattle.zarr_grids_boxes.specs.Boxes.{Region, places}
use Rattle.zarr_grids_chunks.specs.Grids.{Grid, chunk_box, lies_in_chunk}
use Rattle.zarr_codecs_meaning.specs.Types.{Cell, same_cell}

-- the table of an array: a finite map from places to the cells that differ from the fill value
abbrev pub Table : Type 0
Table = FinMap (slice_cmp nat_cmp) Cell

-- the cell at a place: the entry, or else the fill value
abbrev pub cell : Cell → Table → List ℕ → Cell
cell fill table place = unwrap_or (get table place) fill

-- one cell replaced: the fill value takes the entry away
abbrev pub with_cell : Cell → Table → List ℕ → Cell → Table
with_cell fill table place value = if same_cell value fill then remove table place else insert table place value

-- several cells replaced, one after another
abbrev pub updated : Cell → Table → List (List ℕ × Cell) → Table
updated fill table [] = table
updated fill table (e ∷ es) = updated fill (with_cell fill table e.0 e.1) es

-- the places of a box with their cells, row-major
abbrev pub changes : Region → List Cell → List (List ℕ × Cell)
changes region cells = zip (places region.start region.shape) cells

-- those changes that lie in one of these chunks
abbrev pub changes_in : Grid → List (List ℕ) → List (List ℕ × Cell) → List (List ℕ × Cell)
changes_in grid chunks all = filter (λ e. list_any (lies_in_chunk grid e.0) chunks) all

-- the fill value at each place of these chunks
abbrev pub fills : Grid → Cell → List (List ℕ) → List (List ℕ × Cell)
fills grid fill chunks = flat_map (λ chunk. option_map_or (λ box. map (λ place. (place, fill)) (places box.start box.shape)) (chunk_box grid chunk) []) chunks
