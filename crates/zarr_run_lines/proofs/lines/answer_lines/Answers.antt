use Rattle.std.proofs.Common.{rules, ◌≡◌, ◌∙◌, IsTrue, [], ◌∷◌, ◌++◌, Some, false, refl, subst, sym}
use Rattle.zarr_run_lines.specs.Lines.{output, Answers, Leaves}
use Rattle.zarr_run_lines.proofs.CommandLemmas.{none-run, on-fault, on-read}
use Rattle.zarr_run_lines.proofs.ProgressLemmas.{read-start, read-line, read-limits, run-start, run-line, stands-before, stands-in, runs-some, runs-all, answers-leave}
use Rattle.zarr_run_lines.proofs.lines.answer_lines.Goals as goal

pub returns-in_err-reader-clause-err : goal.returns-in_err-reader-clause-err
returns-in_err-reader-clause-err g c honest = on-fault g.B.BytesToBytesCodecTraits.meaning _ _ _ _ _ (none-run g.B.BytesToBytesCodecTraits.meaning (g.B.BytesToBytesCodecTraits.reads, g.S.WritableStorageTraits.supports_set_partial) _ _)

pub loop-line-init : goal.loop-line-init
loop-line-init g c = (
  [],
  read-start _ _ _ _ c.new-limits.ensures.bytes c.new-limits.ensures.lines c.in_ok-reader.ensures.ok,
  refl,
  λ honest old is. (old, is, run-start _ _ _ old c.requires),
)

pub returns-in_err-next_line-clause-err : goal.returns-in_err-next_line-clause-err
returns-in_err-next_line-clause-err g c honest =
    let now = c.loop-line.invariant in
    on-fault g.B.BytesToBytesCodecTraits.meaning _ _ _ _ _ (λ old is. let ran = now.3 honest old is in (ran.0, ran.1, stands-before _ _ _ _ _ _ now.0 _ _ now.1 ran.2))

pub returns-in_err-next_line-clause-read : goal.returns-in_err-next_line-clause-read
returns-in_err-next_line-clause-read g c honest =
    let now = c.loop-line.invariant in
    on-read g.B.BytesToBytesCodecTraits.meaning _ _ _ _ _ (λ old is. let ran = now.3 honest old is in (ran.0, ran.1, runs-some _ _ _ _ _ _ now.0 _ _ now.1 ran.2))

pub returns-in_err-next_line-clause-honest : goal.returns-in_err-next_line-clause-honest
returns-in_err-next_line-clause-honest g c = c.loop-line.invariant.2

pub returns-in_err-answer_line-clause-err : goal.returns-in_err-answer_line-clause-err
returns-in_err-answer_line-clause-err g c honest =
    let more : IsTrue c.in_ok-next_line.field-0 = search rules in
    let now = c.loop-line.invariant in
    on-fault g.B.BytesToBytesCodecTraits.meaning _ _ _ _ _ (λ old is.
    let ran = now.3 honest old is in
    let left = c.in_err-answer_line.ensures.err (subst IsTrue (sym now.2) honest) ran.0 ran.1 in
    let leaves : Leaves (g.B.BytesToBytesCodecTraits.reads, g.S.WritableStorageTraits.supports_set_partial) ran.0 c.next_line.new.line.items left.0 = left.2 in
    (left.0, left.1, stands-in _ _ _ _ _ _ _ _ now.0 _ _ _ _ now.1 (c.in_ok-next_line.ensures.line more) (c.in_ok-next_line.ensures.lines more) ran.2 leaves))

pub returns-in_err-answer_line-clause-honest : goal.returns-in_err-answer_line-clause-honest
returns-in_err-answer_line-clause-honest g c = c.answer_line.ensures.honest ∙ c.loop-line.invariant.2

pub loop-line-preserved : goal.loop-line-preserved
loop-line-preserved g c =
    let more : IsTrue c.in_ok-next_line.field-0 = search rules in
    let now = c.loop-line.invariant in (
      now.0 ++ c.next_line.new.line.items ∷ [],
      read-line _ _ _ _ _ now.0 _ now.1 (c.in_ok-next_line.ensures.line more) (c.in_ok-next_line.ensures.lines more),
      c.answer_line.ensures.honest ∙ now.2,
      λ honest old is.
          let ran = now.3 honest old is in
          let done = c.in_ok-answer_line.ensures.ok (subst IsTrue (sym now.2) honest) ran.0 ran.1 in
          let answers : Answers (g.B.BytesToBytesCodecTraits.reads, g.S.WritableStorageTraits.supports_set_partial) c.next_line.new.line.items (output (Some c.loop-line.pending.items) (Some c.answer_line.new.pending.items)) ran.0 done.0 = done.2 in
          (done.0, done.1, run-line _ now.0 _ _ _ _ _ _ _ _ _ _ ran.2 answers c.in_ok-write_before_wait.ensures.kept),
    )

pub returns-in_err-write_before_wait-clause-err : goal.returns-in_err-write_before_wait-clause-err
returns-in_err-write_before_wait-clause-err g c honest =
    let more : IsTrue c.in_ok-next_line.field-0 = search rules in
    let now = c.loop-line.invariant in
    on-fault g.B.BytesToBytesCodecTraits.meaning _ _ _ _ _ (λ old is.
    let ran = now.3 honest old is in
    let done = c.in_ok-answer_line.ensures.ok (subst IsTrue (sym now.2) honest) ran.0 ran.1 in
    let answers : Answers (g.B.BytesToBytesCodecTraits.reads, g.S.WritableStorageTraits.supports_set_partial) c.next_line.new.line.items (output (Some c.loop-line.pending.items) (Some c.answer_line.new.pending.items)) ran.0 done.0 = done.2 in
    (done.0, done.1, stands-in _ _ _ _ _ _ _ _ now.0 _ _ _ _ now.1 (c.in_ok-next_line.ensures.line more) (c.in_ok-next_line.ensures.lines more) ran.2 (answers-leave _ _ _ _ _ _ answers)))

pub returns-in_err-write_before_wait-clause-honest : goal.returns-in_err-write_before_wait-clause-honest
returns-in_err-write_before_wait-clause-honest g c = c.answer_line.ensures.honest ∙ c.loop-line.invariant.2

pub returns-clause-ok : goal.returns-clause-ok
returns-clause-ok g c honest old is =
    let none : c.in_ok-next_line.field-0 ≡ false = search rules in
    let now = c.loop-line.invariant in
    let ran = now.3 honest old is in
    (ran.0, ran.1, runs-all _ _ _ _ _ _ now.0 _ _ now.1 (c.in_ok-next_line.ensures.end none) ran.2)

pub returns-clause-limits : goal.returns-clause-limits
returns-clause-limits g c =
    let none : c.in_ok-next_line.field-0 ≡ false = search rules in
    let now = c.loop-line.invariant in
    read-limits _ _ _ now.0 now.1 (c.in_ok-next_line.ensures.end none)

pub returns-clause-honest : goal.returns-clause-honest
returns-clause-honest g c = c.loop-line.invariant.2
