use Rattle.std.proofs.Common.{◌≡◌, map}
use Rattle.std.specs.List.{range_with_len}
use Rattle.zarr_sharding_places.specs.Locating.{asked_place}
use Rattle.zarr_sharding_places.proofs.locating.locate_all.Given as goal

-- the places so far
abbrev pub invariant-loop-position : goal.invariant-loop-position
invariant-loop-position l = l.places.items ≡ map (asked_place l.shape l.edges l.numbers) (range_with_len 0 l.position)
