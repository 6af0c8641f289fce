use Rattle.std.proofs.Common.{◌∙◌, ap}
use Rattle.zarr_run_meaning.proofs.GoodDocuments.{lawful_good}
use Rattle.zarr_run_session.specs.Commands.{exchanges_over}
use Rattle.zarr_run_session.specs.Sessions.{state_of}
use Rattle.zarr_run_session.proofs.HeadlineStates.{tables_over, alone_over}
use Rattle.zarr_run_session.proofs.RunSteps.{runs_over}
use Rattle.zarr_run_session.proofs.runs.run.Goals as goal

pub returns-in-Ok-clause-runs : goal.returns-in-Ok-clause-runs
returns-in-Ok-clause-runs g c = λ honest.
    let held = g.S.ReadableStorageTraits.held in
    let calls = g.S.ReadableStorageTraits.refused_calls in
    rw c.close.ensures
    (runs_over g.row.B.Denot g.B.BytesToBytesCodecTraits.meaning g.B.BytesToBytesCodecTraits.reads (state_of held calls c.new-session.result) (state_of held calls c.run_on.new.session)
    (held c.args.store, calls c.args.store) (exchanges_over g.S.WritableStorageTraits.supports_set_partial c.args.commands.now c.in-Ok.replies.items) c.new-session.ensures.begins
    (c.in-Ok.ensures.runs (ap g.S.ReadableStorageTraits.is_honest c.new-session.ensures.store ∙ honest)))

pub returns-in-Ok-clause-tables : goal.returns-in-Ok-clause-tables
returns-in-Ok-clause-tables g c = λ honest.
    let codec = g.B.BytesToBytesCodecTraits in
    let readable = g.S.ReadableStorageTraits in
    tables_over codec.reads (lawful_good codec.reads (g.met.B.BytesToBytesCodecTraits g.world.𝓛 g.world.𝓜 g.world.𝓡 ((λ s x. x), (λ x. x), (λ x. x), λ x. x)).reads_lawful)
    (readable.held c.args.store, readable.refused_calls c.args.store) (readable.held c.close.result, readable.refused_calls c.close.result)
    (exchanges_over g.S.WritableStorageTraits.supports_set_partial c.args.commands.now c.in-Ok.replies.items) (returns-in-Ok-clause-runs g c honest)

pub returns-in-Ok-clause-alone : goal.returns-in-Ok-clause-alone
returns-in-Ok-clause-alone g c = λ honest.
    let codec = g.B.BytesToBytesCodecTraits in
    let readable = g.S.ReadableStorageTraits in
    alone_over codec.reads (lawful_good codec.reads (g.met.B.BytesToBytesCodecTraits g.world.𝓛 g.world.𝓜 g.world.𝓡 ((λ s x. x), (λ x. x), (λ x. x), λ x. x)).reads_lawful)
    (readable.held c.args.store, readable.refused_calls c.args.store) (readable.held c.close.result, readable.refused_calls c.close.result)
    (exchanges_over g.S.WritableStorageTraits.supports_set_partial c.args.commands.now c.in-Ok.replies.items) (returns-in-Ok-clause-runs g c honest)
