use Rattle.std.proofs.Common.{rules, inr}
use Rattle.zarr_run_commands.specs.Commands.{asked}
use Rattle.zarr_run_lines.proofs.CommandLemmas.{same-type, step-line, left-alone, no-command, on-fault}
use Rattle.zarr_run_lines.proofs.answers.run_command.Goals as goal

pub returns-in_err-command-clause-err : goal.returns-in_err-command-clause-err
returns-in_err-command-clause-err g c honest = on-fault g.B.BytesToBytesCodecTraits.meaning _ _ _ _ _ (left-alone g.B.BytesToBytesCodecTraits.meaning (g.B.BytesToBytesCodecTraits.reads, g.S.WritableStorageTraits.supports_set_partial) _ _)

pub returns-in_default-clause-ok : goal.returns-in_default-clause-ok
returns-in_default-clause-ok g c honest = no-command g.B.BytesToBytesCodecTraits.meaning (g.B.BytesToBytesCodecTraits.reads, g.S.WritableStorageTraits.supports_set_partial) _ _ c.args.commands.now.workers c.args.line.now.items _ _ (search rules) c.extend_from_slice.ensures.items

pub returns-in_default-clause-err : goal.returns-in_default-clause-err
returns-in_default-clause-err g c honest = on-fault g.B.BytesToBytesCodecTraits.meaning _ _ _ _ _ (left-alone g.B.BytesToBytesCodecTraits.meaning (g.B.BytesToBytesCodecTraits.reads, g.S.WritableStorageTraits.supports_set_partial) _ _)

pub returns-in-Ok-clause-ok : goal.returns-in-Ok-clause-ok
returns-in-Ok-clause-ok g c honest old is =
    let stepped = c.step-reply.ensures.steps honest old is in
    let same = same-type g.B.BytesToBytesCodecTraits.meaning _ _ stepped.0 (asked c.in-Some.command) _ _ stepped.2 c.path.ensures c.data_type_at-data_type.ensures in
    (stepped.0, stepped.2, (_, step-line c.args.commands.now.workers (g.B.BytesToBytesCodecTraits.reads, g.S.WritableStorageTraits.supports_set_partial) _ (asked c.in-Some.command) _ _ _ _ (search rules) stepped.1 same, c.in-Ok.ensures))

pub returns-clause-err : goal.returns-clause-err
returns-clause-err g c honest old is =
    let stepped = c.step-reply.ensures.steps honest old is in
    let same = same-type g.B.BytesToBytesCodecTraits.meaning _ _ stepped.0 (asked c.in-Some.command) _ _ stepped.2 c.path.ensures c.data_type_at-data_type.ensures in
    (stepped.0, stepped.2, inr (_, step-line c.args.commands.now.workers (g.B.BytesToBytesCodecTraits.reads, g.S.WritableStorageTraits.supports_set_partial) _ (asked c.in-Some.command) _ _ _ _ (search rules) stepped.1 same))
