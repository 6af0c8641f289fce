-- Whether a chunk number or a place lies in the grid, along one dimension.
use Rattle.std.specs.Prelude.{ℕ, Bool, ◌&&◌, nat_lt, is_some, option_and_then}
use Rattle.std.specs.List.{range_with_len, list_any}
use Rattle.zarr_grids_chunks.specs.Grids.{Dimension, interval, addressable, chunk_count}
use Rattle.zarr_grids_dimensions.specs.Lookups.{interval_has}

-- whether a chunk number lies below the count of chunks, and its interval ends at most at 2^64 - 1
abbrev pub is_number_in_grid : Dimension → ℕ → Bool
is_number_in_grid d k = nat_lt k (chunk_count d) && is_some (option_and_then addressable (interval d k))

-- whether a place lies in the interval of such a chunk number
abbrev pub is_place_covered : Dimension → ℕ → Bool
is_place_covered d p = list_any (λ k. is_number_in_grid d k && interval_has d k p) (range_with_len 0 (chunk_count d))
