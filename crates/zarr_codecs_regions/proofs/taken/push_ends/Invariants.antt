use Rattle.std.proofs.Common.{◌≡◌, ◌++◌, ◌-◌}
use Rattle.std.specs.List.{range_with_len}
use Rattle.zarr_codecs_regions.specs.Pieces.{ends_of}
use Rattle.zarr_codecs_regions.specs.Taken.{pieces_at}
use Rattle.zarr_codecs_regions.proofs.taken.push_ends.Given as goal

-- the ends so far, and those of what is left
abbrev pub invariant-loop-number : goal.invariant-loop-number
invariant-loop-number l =
    l.ends.items ++ ends_of l.end (pieces_at l.from (range_with_len l.number (l.last - l.number))) ≡ l.initial.ends.items ++ ends_of l.base (pieces_at l.from (range_with_len l.first (l.last - l.first)))
