use Rattle.zarr_run_lines.proofs.CommandLemmas.{on-fault}
use Rattle.zarr_run_lines.proofs.ProgressLemmas.{all-written, some-written, stands-all, both-ok}
use Rattle.zarr_run_lines.proofs.lines.run_lines.Goals as goal

pub returns-in-Ok-clause-ok : goal.returns-in-Ok-clause-ok
returns-in-Ok-clause-ok g c honest =
    both-ok c.write_pending.result c.write_pending.ensures.kept c.write_pending.ensures.empty (λ kept empty old is.
    let ran = c.in-Ok.ensures.ok honest old is in
    (ran.0, ran.1, all-written _ _ _ _ _ _ _ _ _ ran.2 kept empty))

pub returns-in-Ok-clause-err : goal.returns-in-Ok-clause-err
returns-in-Ok-clause-err g c honest = on-fault g.B.BytesToBytesCodecTraits.meaning _ _ _ _ _ (λ old is. let ran = c.in-Ok.ensures.ok honest old is in (ran.0, ran.1, stands-all _ _ _ _ _ _ ran.2))

pub returns : goal.returns
returns g c = record {
  ok = λ honest. tt;
  limits = tt;
  err = c.in-Err.ensures.err;
  read = λ honest is_read old is.
      let ran = c.in-Err.ensures.read honest is_read old is in
      (ran.0, ran.1, some-written _ _ _ _ _ _ _ _ _ ran.2 c.in_ok-write_pending-in-Err.ensures.kept c.in_ok-write_pending-in-Err.ensures.empty);
  honest = c.in-Err.ensures.honest;
}
