use Rattle.std.proofs.Common.{◌≡◌, ◌*◌, flat_map, take, drop}
use Rattle.zarr_codecs_regions.proofs.gather.gather_fixed.Given as goal

-- the elements so far
abbrev pub invariant-loop-number : goal.invariant-loop-number
invariant-loop-number l = l.gathered.items ≡ flat_map (λ n. take l.width (drop (n * l.width) l.bytes)) (take l.number-index l.numbers)
