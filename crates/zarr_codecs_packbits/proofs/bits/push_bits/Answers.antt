use Rattle.std.proofs.Common.{◌++◌, ◌-◌, ◌+◌, ◌/◌, ◌%◌, ◌∙◌, ◌∷◌, [], ap, sym, append_assoc}
use Rattle.zarr_codecs_meaning.specs.Numbers.{digits}
use Rattle.zarr_codecs_packbits.proofs.BitLists.{next_digit}
use Rattle.zarr_codecs_packbits.proofs.bits.push_bits.Goals as goal

pub loop-bit-preserved : goal.loop-bit-preserved
loop-bit-preserved c =
    let n = c.loop-bit._bit in
    let rest = c.loop-bit.rest in
    let bits = c.loop-bit.bits.items in
    let left = digits 2 (8 - (n + 1)) (rest / 2) in
    ap (λ ns. ns ++ left) c.in_ok-push.ensures.items
    ∙ (append_assoc bits (rest % 2 ∷ []) left ∙ (ap (λ ns. bits ++ ns) (sym (next_digit n rest c.loop-bit-test.true)) ∙ c.loop-bit.invariant))
