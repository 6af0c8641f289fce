use Rattle.std.proofs.Common.{◌<◌, length, arith}
use Rattle.zarr_grids_configurations.specs.Views.{given_view}
use Rattle.zarr_grids_configurations.proofs.MakingWalk.{made-step, none-at, refused-at}
use Rattle.zarr_grids_configurations.proofs.dimensions.each_dimension.Goals as goal

pub loop-k-preserved : goal.loop-k-preserved
loop-k-preserved c =
    let l : c.loop-k.k < length (given_view c.args.given) = omega arith in
    made-step _ _ _ _ _ _ c.loop-k-test.true l c.in-Ok-push.ensures.items c.in-Ok.ensures.made c.loop-k.invariant

pub returns-in-Err-clause-none : goal.returns-in-Err-clause-none
returns-in-Err-clause-none c = λ n.
    let l : c.loop-k.k < length (given_view c.args.given) = omega arith in
    none-at _ _ _ _ _ c.loop-k-test.true l n c.in-Err.ensures.refused c.loop-k.invariant

pub returns-in-Err-clause-refused : goal.returns-in-Err-clause-refused
returns-in-Err-clause-refused c = refused-at _ _ _ _ _ c.loop-k-test.true c.requires c.in-Err.ensures.refused c.loop-k.invariant
