use Rattle.zarr_codecs_arrays.proofs.Joined.{ends_more}
use Rattle.zarr_codecs_arrays.proofs.offsets.push_ends.Goals as goal

pub loop-end-preserved : goal.loop-end-preserved
loop-end-preserved c =
    let inv = c.loop-end.invariant in
    ends_more c.args.offsets.now.items c.loop-end.offsets.items c.push.new.self.items c.args.ends.now c.args.base c.args.start c.loop-end.before c.loop-end.end-index c.in-Some.next
    c.loop-end-test.true inv.0 inv.1 inv.2 inv.3 c.if-end-before.false (c.in-Some.ensures.1) c.in_ok-push.ensures.items
