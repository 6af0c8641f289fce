use Rattle.std.proofs.Common.{◌≡◌, flat_map, take}
use Rattle.zarr_codecs_meaning.specs.Numbers.{digits}
use Rattle.zarr_codecs_packbits.proofs.bits.put_bits.Given as goal

-- the bits of the bytes so far
abbrev pub invariant-loop-byte : goal.invariant-loop-byte
invariant-loop-byte l = l.bits.items ≡ flat_map (digits 2 8) (take l.byte-index l.bytes)
