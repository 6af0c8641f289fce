use Rattle.std.proofs.Common.{◌≡◌, ◌++◌, ◌*◌, take, drop, replicate}
use Rattle.zarr_codecs_packbits.specs.Turning.{bits_of}
use Rattle.zarr_codecs_packbits.proofs.bits.put_shifted.Given as goal

-- the bits so far
abbrev pub invariant-loop-index : goal.invariant-loop-index
invariant-loop-index l = bits_of l.made.items ≡ take (8 * l.index) (drop l.skip (bits_of l.bytes ++ replicate l.skip 0))
