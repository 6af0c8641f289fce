use Rattle.std.proofs.Common.{◌≡◌, ◌/◌, ◌++◌, length, map, reverse, flat_map}
use Rattle.std.specs.Simd.{first_chunks}
use Rattle.zarr_codecs_bytes.proofs.swapping.swapped_numbers.Given as goal

-- what is put the other way round so far, and what is left, are all
abbrev pub invariant-loop-rest : goal.invariant-loop-rest
invariant-loop-rest g l = l.out.items ++ flat_map (λ ns. ns) (map reverse l.rest) ≡ flat_map (λ ns. ns) (map reverse (first_chunks g.row.W (length l.bytes / g.row.W) l.bytes))

abbrev pub decreases-loop-rest : goal.decreases-loop-rest
decreases-loop-rest g l = length l.rest
