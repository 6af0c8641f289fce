use Rattle.std.proofs.Common.{◌≡◌, ◌+◌, ◌-◌, length, drop}
use Rattle.std.specs.List.{range_with_len}
use Rattle.zarr_codecs_regions.specs.Updates.{put}
use Rattle.zarr_codecs_regions.proofs.putting.put_numbers.Given as goal

-- what is left to put, and what comes of it
abbrev pub invariant-loop-number : goal.invariant-loop-number
invariant-loop-number l =
    (put (drop l.number-index l.numbers) (range_with_len l.next (length l.numbers - l.number-index)) l.sources.items ≡ put l.numbers (range_with_len l.count (length l.numbers)) (range_with_len 0 l.count))
    × ((l.next ≡ l.count + l.number-index) × (length l.sources.items ≡ l.count))
