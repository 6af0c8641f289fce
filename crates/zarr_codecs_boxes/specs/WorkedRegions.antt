-- The definitions computed on small examples: the expected values were worked out by hand.
use Rattle.std.specs.Prelude.{◌≡◌, ℕ, List, [], ◌∷◌, Some, None}
use Rattle.zarr_grids_boxes.specs.Boxes.{Region}
use Rattle.zarr_codecs_meaning.specs.Types.{Cell, of_bytes}
use Rattle.zarr_codecs_meaning.specs.Chains.ArrayCodec.{transpose, reshape, squeeze}
use Rattle.zarr_codecs_meaning.specs.Chains.ShapeEntry.{size_entry}
use Rattle.zarr_codecs_meaning.specs.Places.{gather, source_places}
use Rattle.zarr_codecs_meaning.specs.Encoding.{byte_cells}
use Rattle.zarr_codecs_boxes.specs.Regions.{encoded_region}
use Rattle.zarr_codecs_boxes.specs.Updates.{Update, updated, encoded_update}

-- the cell of the byte 0
abbrev pub nil_cell : Cell
nil_cell = of_bytes (0 ∷ [])

-- a box
abbrev pub box : List ℕ → List ℕ → Region
box start shape = record { start = start; shape = shape }

-- new cells of one byte each for a box
abbrev pub change : List ℕ → List ℕ → List ℕ → Update
change start shape bytes = record { region = box start shape; cells = byte_cells bytes }

-- which box a box becomes, and what new cells make of an array and of the encoded one
pub record RegionRows : Type 0 where
  -- the middle column of two rows of three
  pub column : updated (2 ∷ 3 ∷ []) (change (0 ∷ 1 ∷ []) (2 ∷ 1 ∷ []) (7 ∷ 8 ∷ [])) (byte_cells (1 ∷ 2 ∷ 3 ∷ 4 ∷ 5 ∷ 6 ∷ [])) ≡ byte_cells (1 ∷ 7 ∷ 3 ∷ 4 ∷ 8 ∷ 6 ∷ [])
  -- becomes the middle row of three rows of two
  pub column_turned : encoded_update nil_cell (transpose (1 ∷ 0 ∷ [])) (2 ∷ 3 ∷ []) (change (0 ∷ 1 ∷ []) (2 ∷ 1 ∷ []) (7 ∷ 8 ∷ [])) ≡ Some (change (1 ∷ 0 ∷ []) (1 ∷ 2 ∷ []) (7 ∷ 8 ∷ []))
  pub column_encoded : gather nil_cell (byte_cells (1 ∷ 7 ∷ 3 ∷ 4 ∷ 8 ∷ 6 ∷ [])) (source_places (transpose (1 ∷ 0 ∷ [])) (2 ∷ 3 ∷ [])) ≡ byte_cells (1 ∷ 4 ∷ 7 ∷ 8 ∷ 3 ∷ 6 ∷ [])
  pub row : updated (3 ∷ 2 ∷ []) (change (1 ∷ 0 ∷ []) (1 ∷ 2 ∷ []) (7 ∷ 8 ∷ [])) (byte_cells (1 ∷ 4 ∷ 2 ∷ 5 ∷ 3 ∷ 6 ∷ [])) ≡ byte_cells (1 ∷ 4 ∷ 7 ∷ 8 ∷ 3 ∷ 6 ∷ [])
  -- of two rows and the last two columns, new cells by rows become those by columns
  pub square_turned : encoded_update nil_cell (transpose (1 ∷ 0 ∷ [])) (2 ∷ 3 ∷ []) (change (0 ∷ 1 ∷ []) (2 ∷ 2 ∷ []) (10 ∷ 20 ∷ 30 ∷ 40 ∷ [])) ≡ Some (change (1 ∷ 0 ∷ []) (2 ∷ 2 ∷ []) (10 ∷ 30 ∷ 20 ∷ 40 ∷ []))
  -- an order that does not undo itself: the last dimension comes first
  pub three_dimensions : encoded_region (transpose (2 ∷ 0 ∷ 1 ∷ [])) (4 ∷ 5 ∷ 6 ∷ []) (box (1 ∷ 2 ∷ 3 ∷ []) (3 ∷ 2 ∷ 1 ∷ [])) ≡ Some (box (3 ∷ 1 ∷ 2 ∷ []) (1 ∷ 3 ∷ 2 ∷ []))
  -- a dimension of size two stays, where the box has one place of it
  pub squeezed_box : encoded_update nil_cell squeeze (1 ∷ 3 ∷ 1 ∷ 2 ∷ []) (change (0 ∷ 1 ∷ 0 ∷ 1 ∷ []) (1 ∷ 2 ∷ 1 ∷ 1 ∷ []) (7 ∷ 8 ∷ [])) ≡ Some (change (1 ∷ 1 ∷ []) (2 ∷ 1 ∷ []) (7 ∷ 8 ∷ []))
  pub all_of_size_one : encoded_region squeeze (1 ∷ 1 ∷ []) (box (0 ∷ 0 ∷ []) (1 ∷ 1 ∷ [])) ≡ Some (box (0 ∷ []) (1 ∷ []))
  pub no_dimensions : encoded_region squeeze [] (box [] []) ≡ Some (box (0 ∷ []) (1 ∷ []))
  -- no place of the dimension of size one: no place at all
  pub empty_box : encoded_region squeeze (1 ∷ 3 ∷ []) (box (0 ∷ 0 ∷ []) (0 ∷ 3 ∷ [])) ≡ Some (box (0 ∷ []) (0 ∷ []))
  pub reshaped : encoded_region (reshape (size_entry 6 ∷ [])) (2 ∷ 3 ∷ []) (box (0 ∷ 1 ∷ []) (2 ∷ 1 ∷ [])) ≡ None
