use Rattle.std.proofs.Common.{◌≡◌, ℕ, ◌≤◌, length, get_or, take, drop}
use Rattle.zarr_grids_dimensions.specs.Dimensions.{grid_of}
use Rattle.zarr_grids_dimensions.proofs.PlaceWalk.{FoundSoFar}
use Rattle.zarr_grids_dimensions.proofs.lookups.into_chunk.Given as goal

-- the chunks of the place are those that go on from what was found
abbrev pub invariant-loop-k : goal.invariant-loop-k
invariant-loop-k l = record {
  found : FoundSoFar (grid_of l.grid) l.fn.place.items (take l.k l.place.items) (grid_of (drop l.k l.grid)) (drop l.k l.fn.place.items);
  len : length l.place.items ≡ length l.fn.place.items;
  same : (j : ℕ) → l.k ≤ j → get_or l.place.items j 0 ≡ get_or l.fn.place.items j 0;
}
