use Rattle.std.proofs.Common.{arith}
use Rattle.zarr_codecs_packbits.proofs.Shifted.{moved_more}
use Rattle.zarr_codecs_packbits.proofs.bits.put_shifted.Goals as goal

pub loop-index-preserved : goal.loop-index-preserved
loop-index-preserved c =
    let below = c.loop-index-test.true in
    moved_more c.args.skip c.loop-index.index c.first_shifted.result c.args.bytes.now c.split_at.result.1.now c.loop-index.made.items c.push.new.self.items (omega (arith, below, c.requires.count)) c.split_at.ensures.back c.first_shifted.ensures c.in_ok-push.ensures.items c.loop-index.invariant
