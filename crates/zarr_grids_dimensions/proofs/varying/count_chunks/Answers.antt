use Rattle.std.proofs.Common.{◌≡◌, ◌≤◌, length, ap, arith, drop}
use Rattle.std.specs.Prelude.{sum}
use Rattle.std.proofs.Math.ListN.{drop_of_length-le}
use Rattle.zarr_grids_dimensions.specs.RepeatedEdges.{counts}
use Rattle.zarr_grids_dimensions.proofs.varying.count_chunks.Goals as goal

pub returns : goal.returns
returns c =
    let past : length c.args.repeats.now ≤ c.loop-repeat.repeat-index = omega arith in
    let z : sum (counts (drop c.loop-repeat.repeat-index c.args.repeats.now)) ≡ 0 = ap (λ rs. sum (counts rs)) (drop_of_length-le c.args.repeats.now past) in
    let i = c.loop-repeat.invariant.total in
    let f = c.loop-repeat.invariant.few in
    (omega arith, omega arith)
