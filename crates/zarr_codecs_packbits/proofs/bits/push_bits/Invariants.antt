use Rattle.std.proofs.Common.{◌≡◌, ◌++◌, ◌-◌}
use Rattle.zarr_codecs_meaning.specs.Numbers.{digits}
use Rattle.zarr_codecs_packbits.proofs.bits.push_bits.Given as goal

-- the bits so far, and before those that are left
abbrev pub invariant-loop-bit : goal.invariant-loop-bit
invariant-loop-bit l = l.bits.items ++ digits 2 (8 - l._bit) l.rest ≡ l.initial.bits.items ++ digits 2 8 l.byte
