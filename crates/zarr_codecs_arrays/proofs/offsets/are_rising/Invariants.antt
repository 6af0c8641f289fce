use Rattle.std.proofs.Common.{◌≡◌, ◌∷◌, drop}
use Rattle.zarr_codecs_arrays.specs.Offsets.{are_rising}
use Rattle.zarr_codecs_arrays.proofs.offsets.are_rising.Given as goal

abbrev pub invariant-loop-offset : goal.invariant-loop-offset
invariant-loop-offset l = are_rising l.offsets ≡ are_rising (l.last ∷ drop l.offset-index l.rest)
