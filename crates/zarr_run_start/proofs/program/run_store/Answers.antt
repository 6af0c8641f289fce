use Rattle.std.proofs.Common.{IsTrue, subst, sym}
use Rattle.zarr_run_meaning.specs.Runs.{world_over}
use Rattle.zarr_run_start.proofs.program.run_store.Goals as goal

pub returns : goal.returns
returns g c = λ honest.
    let ran = c.in_ok-run_lines.ensures.ok (subst (λ store. IsTrue (g.S.ReadableStorageTraits.is_honest store)) (sym c.new-session.ensures.store) honest)
    (world_over (g.S.ReadableStorageTraits.held c.args.store) (g.S.ReadableStorageTraits.refused_calls c.args.store)) c.new-session.ensures.begins in
    (ran.0, ran.2)
