use Rattle.std.proofs.Common.{◌≡◌, flat_map, take}
use Rattle.std.specs.List.{range_with_len}
use Rattle.zarr_codecs_regions.proofs.asked.numbers_of_lines.Given as goal

-- the lines so far
abbrev pub invariant-loop-first : goal.invariant-loop-first
invariant-loop-first l = l.numbers.items ≡ flat_map (λ n. range_with_len n l.length) (take l.first-index l.firsts)
