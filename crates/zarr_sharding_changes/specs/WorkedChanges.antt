-- The definitions computed on small examples: the expected values were worked out by hand.
use Rattle.std.specs.Prelude.{◌≡◌, [], ◌∷◌, Some, None}
use Rattle.zarr_codecs_meaning.specs.Types.{of_bytes}
use Rattle.zarr_codecs_meaning.specs.Encoding.{byte_cells}
use Rattle.zarr_sharding_changes.specs.Changes.{appended, pairs_after, pieces_after}
use Rattle.zarr_sharding_changes.specs.Regions.{whole, overlaid}

-- what changes make of pairs, of a data part and of subchunks, and what a region makes of a box
pub record ChangeRows : Type 0 where
  -- four bytes were stored: the first slice begins at 4, the next one behind its three bytes
  pub two_slices : appended ((1, Some (7 ∷ 8 ∷ 9 ∷ [])) ∷ (0, Some (5 ∷ [])) ∷ []) ≡ 7 ∷ 8 ∷ 9 ∷ 5 ∷ []
  pub two_pairs : pairs_after 4 ((1, Some (7 ∷ 8 ∷ 9 ∷ [])) ∷ (0, Some (5 ∷ [])) ∷ []) ((0, 2) ∷ (2, 2) ∷ (9, 9) ∷ []) ≡ (7, 1) ∷ (4, 3) ∷ (9, 9) ∷ []
  -- a subchunk that became all fill takes no bytes, and both its numbers become 2^64 - 1
  pub fill_slice : appended ((0, None) ∷ (1, Some (6 ∷ [])) ∷ []) ≡ 6 ∷ []
  pub fill_pair : pairs_after 4 ((0, None) ∷ (1, Some (6 ∷ [])) ∷ []) ((0, 2) ∷ (2, 2) ∷ []) ≡ (18446744073709551615, 18446744073709551615) ∷ (4, 1) ∷ []
  -- an index of 16 bytes and one byte of data come before; the last slice of a subchunk counts, and the earlier one stays as a gap
  pub changed_twice : pairs_after 17 ((0, Some (1 ∷ 2 ∷ [])) ∷ (0, Some (3 ∷ [])) ∷ []) ((16, 1) ∷ []) ≡ (19, 1) ∷ []
  pub wanted_twice : pieces_after ((2 ∷ [], byte_cells (3 ∷ 4 ∷ [])) ∷ []) ((0, Some (3 ∷ 4 ∷ [])) ∷ (0, Some (3 ∷ 4 ∷ [])) ∷ []) ((2 ∷ [], byte_cells (1 ∷ 2 ∷ [])) ∷ []) ≡ (2 ∷ [], byte_cells (3 ∷ 4 ∷ [])) ∷ []
  -- subchunk 0 is wanted otherwise too, but isn't changed
  pub other_kept : pieces_after ((1 ∷ [], byte_cells (8 ∷ [])) ∷ (1 ∷ [], byte_cells (9 ∷ [])) ∷ []) ((1, Some (9 ∷ [])) ∷ []) ((1 ∷ [], byte_cells (1 ∷ [])) ∷ (1 ∷ [], byte_cells (2 ∷ [])) ∷ []) ≡ (1 ∷ [], byte_cells (1 ∷ [])) ∷ (1 ∷ [], byte_cells (9 ∷ [])) ∷ []
  -- the middle column of two rows of three
  pub middle_column : overlaid (of_bytes (0 ∷ [])) (whole (2 ∷ 3 ∷ [])) (record { start = 0 ∷ 1 ∷ []; shape = 2 ∷ 1 ∷ [] }) (byte_cells (7 ∷ 8 ∷ [])) (byte_cells (1 ∷ 2 ∷ 3 ∷ 4 ∷ 5 ∷ 6 ∷ [])) ≡ byte_cells (1 ∷ 7 ∷ 3 ∷ 4 ∷ 8 ∷ 6 ∷ [])
  -- of rows 1 and 2 and columns 1 to 3, the box of rows 2 and 3 and columns 2 and 3 meets the last two of the second row
  pub corner : overlaid (of_bytes (0 ∷ [])) (record { start = 2 ∷ 2 ∷ []; shape = 2 ∷ 2 ∷ [] }) (record { start = 1 ∷ 1 ∷ []; shape = 2 ∷ 3 ∷ [] }) (byte_cells (1 ∷ 2 ∷ 3 ∷ 4 ∷ 5 ∷ 6 ∷ [])) (byte_cells (20 ∷ 21 ∷ 22 ∷ 23 ∷ [])) ≡ byte_cells (5 ∷ 6 ∷ 22 ∷ 23 ∷ [])
  -- places 1 to 4 put over places 2 and 3
  pub past_both_ends : overlaid (of_bytes (0 ∷ [])) (record { start = 2 ∷ []; shape = 2 ∷ [] }) (record { start = 1 ∷ []; shape = 4 ∷ [] }) (byte_cells (11 ∷ 12 ∷ 13 ∷ 14 ∷ [])) (byte_cells (20 ∷ 21 ∷ [])) ≡ byte_cells (12 ∷ 13 ∷ [])
  pub beside : overlaid (of_bytes (0 ∷ [])) (record { start = 2 ∷ []; shape = 2 ∷ [] }) (record { start = 0 ∷ []; shape = 2 ∷ [] }) (byte_cells (11 ∷ 12 ∷ [])) (byte_cells (20 ∷ 21 ∷ [])) ≡ byte_cells (20 ∷ 21 ∷ [])
  pub empty_region : overlaid (of_bytes (0 ∷ [])) (whole (2 ∷ 2 ∷ [])) (record { start = 0 ∷ 1 ∷ []; shape = 2 ∷ 0 ∷ [] }) [] (byte_cells (1 ∷ 2 ∷ 3 ∷ 4 ∷ [])) ≡ byte_cells (1 ∷ 2 ∷ 3 ∷ 4 ∷ [])
  -- an array without dimensions has one place, and so has a region of it
  pub no_dimensions : overlaid (of_bytes (0 ∷ [])) (whole []) (record { start = []; shape = [] }) (byte_cells (9 ∷ [])) (byte_cells (1 ∷ [])) ≡ byte_cells (9 ∷ [])
  -- a region of fewer dimensions has no place of the box
  pub fewer_dimensions : overlaid (of_bytes (0 ∷ [])) (whole (1 ∷ 2 ∷ [])) (record { start = 0 ∷ []; shape = 1 ∷ [] }) (byte_cells (9 ∷ [])) (byte_cells (1 ∷ 2 ∷ [])) ≡ byte_cells (1 ∷ 2 ∷ [])
