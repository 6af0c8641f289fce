use Rattle.std.proofs.Common.{◌≡◌, length, take}
use Rattle.zarr_grids_dimensions.proofs.varying.near_places_of.Given as goal

-- each place so far was taken over
abbrev pub invariant-loop-place : goal.invariant-loop-place
invariant-loop-place l = record {
  near : l.near.items ≡ take l.place-index l.places;
  taken : length l.near.items ≡ l.place-index;
}
