use Rattle.std.proofs.Common.{◌<◌, ◌≤◌, length, refl, arith}
use Rattle.zarr_grids_dimensions.specs.Lookups.{place_inbounds}
use Rattle.zarr_grids_dimensions.proofs.AllWalk.{all-step, all-end}
use Rattle.zarr_grids_dimensions.proofs.lookups.are_places_inbounds.Goals as goal

pub loop-k-preserved : goal.loop-k-preserved
loop-k-preserved c =
    let l : c.loop-k.k < length c.args.place.now = omega arith in
    all-step place_inbounds _ _ _ _ c.index-grid-k.result _ c.loop-k-test.true l c.index-grid-k.is refl (cc) c.loop-k.invariant

pub returns : goal.returns
returns c = let l : length c.args.place.now ≤ c.loop-k.k = omega arith in all-end place_inbounds _ _ _ _ c.loop-k-test.false l c.loop-k.invariant
