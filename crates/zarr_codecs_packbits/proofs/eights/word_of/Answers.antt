use Rattle.std.proofs.Common.{arith, ap, ◌∙◌, ◌≡◌, ◌+◌, ◌*◌, ◌^◌}
use Rattle.zarr_codecs_packbits.proofs.PackedWords.{next_byte}
use Rattle.zarr_codecs_packbits.proofs.eights.word_of.Goals as goal

pub overflow_mul-word : goal.overflow_mul-word
overflow_mul-word c =
    let next = next_byte c.args.kept.first c.args.kept.count c.loop-i.i c.loop-i.word c.number_of-low.result c.args.bytes.now (omega (arith, c.args.kept.inside)) c.requires (omega arith) c.loop-i.invariant c.number_of-low.ensures in
    let product : c.loop-i.word * c.scale-scale.result ≡ c.loop-i.word * 2 ^ c.args.kept.count = ap (λ n. c.loop-i.word * n) c.scale-scale.ensures.value in
    omega (arith, next.small, product)

pub overflow_add-word : goal.overflow_add-word
overflow_add-word c =
    let next = next_byte c.args.kept.first c.args.kept.count c.loop-i.i c.loop-i.word c.number_of-low.result c.args.bytes.now (omega (arith, c.args.kept.inside)) c.requires (omega arith) c.loop-i.invariant c.number_of-low.ensures in
    let product : c.loop-i.word * c.scale-scale.result ≡ c.loop-i.word * 2 ^ c.args.kept.count = ap (λ n. c.loop-i.word * n) c.scale-scale.ensures.value in
    omega (arith, next.small, product)

pub loop-i-preserved : goal.loop-i-preserved
loop-i-preserved c =
    let next = next_byte c.args.kept.first c.args.kept.count c.loop-i.i c.loop-i.word c.number_of-low.result c.args.bytes.now (omega (arith, c.args.kept.inside)) c.requires (omega arith) c.loop-i.invariant c.number_of-low.ensures in
    ap (λ n. c.loop-i.word * n + c.number_of-low.result) c.scale-scale.ensures.value ∙ next.is
