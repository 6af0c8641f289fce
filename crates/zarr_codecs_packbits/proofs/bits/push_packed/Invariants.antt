use Rattle.std.proofs.Common.{◌≡◌, ◌++◌, ◌*◌, map, take, drop}
use Rattle.std.specs.List.{range_with_len}
use Rattle.zarr_codecs_meaning.specs.Numbers.{number}
use Rattle.zarr_codecs_packbits.proofs.bits.push_packed.Given as goal

-- the bytes of the bits so far
abbrev pub invariant-loop-n : goal.invariant-loop-n
invariant-loop-n l = l.bytes.items ≡ l.initial.bytes.items ++ map (λ n. number 2 (take 8 (drop (8 * n) l.bits))) (range_with_len 0 l.n)
