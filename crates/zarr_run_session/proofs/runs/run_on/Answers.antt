use Rattle.std.proofs.Common.{◌∙◌, rules, refl, subst}
use Rattle.std.proofs.lemmas.List.{take_all}
use Rattle.zarr_run_commands.specs.Commands.{answered}
use Rattle.zarr_run_commands.specs.declared.command.Command.{Command}
use Rattle.zarr_run_opening.specs.Sessions.{StepsFrom}
use Rattle.zarr_run_meaning.proofs.GoodDocuments.{lawful_good}
use Rattle.zarr_run_session.specs.Commands.{asked_over, exchanges_over}
use Rattle.zarr_run_session.specs.Sessions.{state_of}
use Rattle.zarr_run_session.proofs.HeadlineStates.{tables_from, alone_from}
use Rattle.zarr_run_session.proofs.RunSteps.{runs_none, runs_more}
use Rattle.zarr_run_session.proofs.runs.run_on.Goals as goal

pub loop-command-init : goal.loop-command-init
loop-command-init g c = record {
  ran = λ honest. rw c.in_ok-replies.ensures.items (runs_none g.row.B.Denot g.B.BytesToBytesCodecTraits.meaning g.B.BytesToBytesCodecTraits.reads (state_of g.S.ReadableStorageTraits.held g.S.ReadableStorageTraits.refused_calls c.args.session.now));
  honest = refl;
  room = search rules;
  count = search rules;
}

pub loop-command-preserved : goal.loop-command-preserved
loop-command-preserved g c = record {
  ran = λ honest.
      let meaning = g.B.BytesToBytesCodecTraits.meaning in
      let reads = g.B.BytesToBytesCodecTraits.reads in
      let old = state_of g.S.ReadableStorageTraits.held g.S.ReadableStorageTraits.refused_calls c.args.session.now in
      let mid = state_of g.S.ReadableStorageTraits.held g.S.ReadableStorageTraits.refused_calls c.loop-command.session in
      let new = state_of g.S.ReadableStorageTraits.held g.S.ReadableStorageTraits.refused_calls c.step-reply.new.self in
      let asks = asked_over g.S.WritableStorageTraits.supports_set_partial in
      let P : Command → Type 0 = λ d. StepsFrom (meaning, reads) mid (asks d, answered c.step-reply.result) new in
      rw c.enter.ensures.items
      (runs_more g.row.B.Denot meaning reads old asks mid new c.args.commands.now c.loop-command.command-index c.command-item.result c.loop-command.replies.items c.step-reply.result c.loop-command-test.true
      (c.loop-command.invariant.ran honest) (subst P c.command-item.is (c.step-reply.ensures.steps (c.loop-command.invariant.honest ∙ honest))));
  honest = search rules;
  room = search rules;
  count = search rules;
}

pub returns-clause-runs : goal.returns-clause-runs
returns-clause-runs g c = λ honest. rw (take_all c.loop-command.command-index c.args.commands.now c.loop-command-test.false) at (c.loop-command.invariant.ran honest)

pub returns-clause-tables : goal.returns-clause-tables
returns-clause-tables g c = λ honest.
    let codec = g.B.BytesToBytesCodecTraits in
    let readable = g.S.ReadableStorageTraits in
    tables_from g.row.B.Denot (codec.meaning, codec.reads) (lawful_good codec.reads (g.met.B.BytesToBytesCodecTraits g.world.𝓛 g.world.𝓜 g.world.𝓡 ((λ s x. x), (λ x. x), (λ x. x), λ x. x)).reads_lawful)
    (state_of readable.held readable.refused_calls c.args.session.now) (state_of readable.held readable.refused_calls c.loop-command.session)
    (exchanges_over g.S.WritableStorageTraits.supports_set_partial c.args.commands.now c.loop-command.replies.items) (returns-clause-runs g c honest)

pub returns-clause-alone : goal.returns-clause-alone
returns-clause-alone g c = λ honest.
    let codec = g.B.BytesToBytesCodecTraits in
    let readable = g.S.ReadableStorageTraits in
    alone_from g.row.B.Denot (codec.meaning, codec.reads) (lawful_good codec.reads (g.met.B.BytesToBytesCodecTraits g.world.𝓛 g.world.𝓜 g.world.𝓡 ((λ s x. x), (λ x. x), (λ x. x), λ x. x)).reads_lawful)
    (state_of readable.held readable.refused_calls c.args.session.now) (state_of readable.held readable.refused_calls c.loop-command.session)
    (exchanges_over g.S.WritableStorageTraits.supports_set_partial c.args.commands.now c.loop-command.replies.items) (returns-clause-runs g c honest)
