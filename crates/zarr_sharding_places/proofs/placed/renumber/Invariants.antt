use Rattle.std.proofs.Common.{◌≡◌, ◌+◌, ◌-◌, length, drop}
use Rattle.std.specs.List.{range_with_len}
use Rattle.zarr_codecs_regions.specs.Updates.{put}
use Rattle.zarr_sharding_places.proofs.placed.renumber.Given as goal

-- what is left to put, and what comes of it
abbrev pub invariant-loop-place : goal.invariant-loop-place
invariant-loop-place l =
    (put (drop l.place-index l.at) (range_with_len l.next (length l.at - l.place-index)) l.made.items ≡ put l.at (range_with_len l.first (length l.at)) l.fn.numbers.items)
    × (l.next ≡ l.first + l.place-index)
