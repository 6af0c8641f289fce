use Rattle.std.proofs.Common.{arith}
use Rattle.zarr_codecs_regions.proofs.Puts.{put_more}
use Rattle.zarr_sharding_places.proofs.placed.renumber.Goals as goal

pub loop-place-preserved : goal.loop-place-preserved
loop-place-preserved c =
    let before = c.loop-place.invariant in
    let next = before.1 in (put_more c.args.at.now c.loop-place.made.items c.loop-place.next c.loop-place.place-index _ c.loop-place-test.true before.0, omega (arith, next))
