use Rattle.zarr_codecs_packbits.proofs.Singles.{round, round_more, round_left}
use Rattle.zarr_codecs_packbits.proofs.restoring.unpack_bytes.Goals as goal

pub loop-left-preserved : goal.loop-left-preserved
loop-left-preserved c =
    let kept = c.args.kept in
    let left = c.loop-left.left in
    let n = c.min-some.result in
    let f = c.min.result in
    let rest = c.loop-left.rest.now in
    let front = c.split_at.result.0.now in
    let others = c.split_at.result.1.now in
    let r = round kept left n f rest c.loop-left.invariant.enough c.min-some.ensures c.min.ensures in
    record {
      enough = round_left kept left n f rest others c.loop-left.invariant.enough r c.split_at.ensures.back;
      written = round_more kept left n f c.word_in.result rest front others c.loop-left.bytes.items c.push_restored.new.bytes.items _ r c.split_at.ensures.front c.split_at.ensures.back c.word_in.ensures c.in_ok-push_restored.ensures c.loop-left.invariant.written;
    }
