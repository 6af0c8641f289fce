use Rattle.zarr_run_session.proofs.Counts.{outcome_counts}
use Rattle.zarr_run_session.proofs.session.Session.create.Goals as goal

pub returns : goal.returns
returns g c = record {
  steps = rw c.reply_to.ensures c.create.ensures.steps;
  writes = λ honest world is. rw c.reply_to.ensures (c.create.ensures.writes honest world);
  given = λ honest world is. tt;
  honest = c.create.ensures.honest;
  refused = outcome_counts c.create.result _ _ _ c.reply_to.ensures c.create.ensures.calls;
}
