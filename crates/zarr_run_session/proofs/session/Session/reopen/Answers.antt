use Rattle.zarr_run_commands.specs.Commands.{answered}
use Rattle.zarr_run_session.proofs.Bounds.{reopen_bound}
use Rattle.zarr_run_session.proofs.Counts.{outcome_counts}
use Rattle.zarr_run_session.proofs.session.Session.reopen.Goals as goal

pub returns : goal.returns
returns g c = record {
  steps = rw c.reply_to.ensures c.reopen.ensures.steps;
  writes = λ honest world is. reopen_bound world c.args.path.now c.args.order c.reopen.result (answered c.reply_to.result) _ _ c.reply_to.ensures c.reopen.ensures.accepted;
  given = λ honest world is. tt;
  honest = c.reopen.ensures.honest;
  refused = outcome_counts c.reopen.result _ _ _ c.reply_to.ensures c.reopen.ensures.calls;
}
