use Rattle.std.proofs.Common.{◌≡◌, ◌++◌, length}
use Rattle.zarr_codecs_meaning.specs.Encoding.{packed}
use Rattle.zarr_codecs_packbits.specs.Packing.{bits_from}
use Rattle.zarr_codecs_packbits.proofs.eights.push_bytes.Given as goal

-- what is packed so far, and what the bytes that are left are packed to, are all
abbrev pub invariant-loop-eight : goal.invariant-loop-eight
invariant-loop-eight l = l.value.items ++ packed (bits_from l.kept.first l.kept.count l.rest) ≡ l.initial.value.items ++ packed (bits_from l.kept.first l.kept.count l.bytes)

abbrev pub decreases-loop-eight : goal.decreases-loop-eight
decreases-loop-eight l = length l.rest
