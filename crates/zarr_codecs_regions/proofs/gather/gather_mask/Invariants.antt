use Rattle.std.proofs.Common.{◌≡◌, map, take, slice_index}
use Rattle.zarr_codecs_regions.proofs.gather.gather_mask.Given as goal

-- the numbers so far
abbrev pub invariant-loop-number : goal.invariant-loop-number
invariant-loop-number l = l.gathered.items ≡ map (slice_index l.mask) (take l.number-index l.numbers)
