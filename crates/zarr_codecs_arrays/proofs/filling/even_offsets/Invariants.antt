use Rattle.std.proofs.Common.{◌≡◌, ◌+◌, ◌*◌, map}
use Rattle.std.specs.List.{range_with_len}
use Rattle.zarr_codecs_arrays.proofs.filling.even_offsets.Given as goal

abbrev pub invariant-loop-element : goal.invariant-loop-element
invariant-loop-element l = (l.offsets.items ≡ map (λ n. n * l.size) (range_with_len 0 (l._element + 1))) × (l.end ≡ l._element * l.size)
