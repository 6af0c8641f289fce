use Rattle.std.proofs.Common.{◌≡◌, ℕ, ◌<◌, ◌≤◌, ◌-◌, length, get_or}
use Rattle.zarr_sharding_places.specs.Groups.{no_place}
use Rattle.zarr_sharding_places.proofs.groups.leading_count.Given as goal

abbrev pub invariant-loop-n : goal.invariant-loop-n
invariant-loop-n l = record {
  some : 0 < l.n;
  within : l.n ≤ length l.places;
  one : (m : ℕ) → m < l.n → (get_or l.places m no_place).subchunk ≡ (get_or l.places 0 no_place).subchunk;
}

abbrev pub decreases-loop-n : goal.decreases-loop-n
decreases-loop-n l = length l.places - l.n
