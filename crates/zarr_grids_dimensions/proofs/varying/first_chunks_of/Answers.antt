use Rattle.std.proofs.Common.{arith}
use Rattle.zarr_grids_dimensions.specs.declared.repeat.RepeatedEdge.{RepeatedEdge}
use Rattle.zarr_grids_dimensions.proofs.Running.{running-step, running-end, sum-step}
use Rattle.zarr_grids_dimensions.proofs.varying.first_chunks_of.Goals as goal

pub overflow_add-next : goal.overflow_add-next
overflow_add-next c =
    let s = sum-step (λ (r : RepeatedEdge). r.count) c.args.repeats.now c.loop-repeat.repeat-index (record { edge = 0; count = 0 }) c.loop-repeat-test.true in
    omega arith

pub loop-repeat-preserved : goal.loop-repeat-preserved
loop-repeat-preserved c =
    let s = sum-step (λ (r : RepeatedEdge). r.count) c.args.repeats.now c.loop-repeat.repeat-index (record { edge = 0; count = 0 }) c.loop-repeat-test.true in
    record {
      running = running-step (λ (r : RepeatedEdge). r.count) _ _ _ _ _ _ c.loop-repeat-test.true c.in_ok-push.ensures.items c.loop-repeat.invariant.running;
      total = omega arith;
    }

pub returns : goal.returns
returns c = running-end (λ (r : RepeatedEdge). r.count) _ _ _ _ _ c.loop-repeat-test.false c.in_ok-push-2.ensures.items c.loop-repeat.invariant.running
