use Rattle.std.proofs.Common.{arith, refl, ◌/◌, ◌<◌}
use Rattle.zarr_codecs_packbits.proofs.Singles.{push_more}
use Rattle.zarr_codecs_packbits.proofs.restoring.push_restored.Goals as goal

pub loop-n-preserved : goal.loop-n-preserved
loop-n-preserved c =
    let less : c.loop-n.n < c.args.count = omega arith in
    push_more c.args.kept c.args.count c.loop-n.n c.loop-n.rest c.byte_of.result (c.loop-n.rest / c.scale-scale.result) c.scale-scale.result c.loop-n.bytes.items c.push.new.self.items _ less c.scale-scale.ensures.value c.byte_of.ensures refl c.in_ok-push.ensures.items c.loop-n.invariant
