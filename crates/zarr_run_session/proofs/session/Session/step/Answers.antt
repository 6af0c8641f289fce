use Rattle.zarr_run_meaning.proofs.GoodDocuments.{lawful_good}
use Rattle.zarr_run_session.specs.Commands.{exchange_over}
use Rattle.zarr_run_session.specs.Sessions.{state_of}
use Rattle.zarr_run_session.proofs.HeadlineStates.{keeps_tables, keeps_alone, rewrites_afresh, keeps_tight}
use Rattle.zarr_run_session.proofs.session.Session.step.Goals as goal

pub returns-clause-steps : goal.returns-clause-steps
returns-clause-steps g c = c.answer.ensures.steps

pub returns-clause-tables : goal.returns-clause-tables
returns-clause-tables g c = λ honest.
    let codec = g.B.BytesToBytesCodecTraits in
    let readable = g.S.ReadableStorageTraits in
    keeps_tables g.row.B.Denot (codec.meaning, codec.reads) (lawful_good codec.reads (g.met.B.BytesToBytesCodecTraits g.world.𝓛 g.world.𝓜 g.world.𝓡 ((λ s x. x), (λ x. x), (λ x. x), λ x. x)).reads_lawful)
    (state_of readable.held readable.refused_calls c.args.self.now) (state_of readable.held readable.refused_calls c.answer.new.self)
    (exchange_over g.S.WritableStorageTraits.supports_set_partial c.args.command.now c.answer.result) (c.answer.ensures.steps honest)

pub returns-clause-alone : goal.returns-clause-alone
returns-clause-alone g c = λ honest.
    let codec = g.B.BytesToBytesCodecTraits in
    let readable = g.S.ReadableStorageTraits in
    keeps_alone g.row.B.Denot (codec.meaning, codec.reads) (lawful_good codec.reads (g.met.B.BytesToBytesCodecTraits g.world.𝓛 g.world.𝓜 g.world.𝓡 ((λ s x. x), (λ x. x), (λ x. x), λ x. x)).reads_lawful)
    (state_of readable.held readable.refused_calls c.args.self.now) (state_of readable.held readable.refused_calls c.answer.new.self)
    (exchange_over g.S.WritableStorageTraits.supports_set_partial c.args.command.now c.answer.result) (c.answer.ensures.steps honest)

pub returns-clause-canon : goal.returns-clause-canon
returns-clause-canon g c = λ honest.
    let codec = g.B.BytesToBytesCodecTraits in
    let readable = g.S.ReadableStorageTraits in
    rewrites_afresh g.row.B.Denot (codec.meaning, codec.reads) (lawful_good codec.reads (g.met.B.BytesToBytesCodecTraits g.world.𝓛 g.world.𝓜 g.world.𝓡 ((λ s x. x), (λ x. x), (λ x. x), λ x. x)).reads_lawful)
    (state_of readable.held readable.refused_calls c.args.self.now) (state_of readable.held readable.refused_calls c.answer.new.self)
    (exchange_over g.S.WritableStorageTraits.supports_set_partial c.args.command.now c.answer.result) (c.answer.ensures.steps honest)

pub returns-clause-tight : goal.returns-clause-tight
returns-clause-tight g c = λ honest.
    let codec = g.B.BytesToBytesCodecTraits in
    let readable = g.S.ReadableStorageTraits in
    keeps_tight g.row.B.Denot (codec.meaning, codec.reads) (lawful_good codec.reads (g.met.B.BytesToBytesCodecTraits g.world.𝓛 g.world.𝓜 g.world.𝓡 ((λ s x. x), (λ x. x), (λ x. x), λ x. x)).reads_lawful)
    (state_of readable.held readable.refused_calls c.args.self.now) (state_of readable.held readable.refused_calls c.answer.new.self)
    (exchange_over g.S.WritableStorageTraits.supports_set_partial c.args.command.now c.answer.result) (c.answer.ensures.steps honest)

pub returns-clause-writes : goal.returns-clause-writes
returns-clause-writes g c = c.answer.ensures.writes

pub returns-clause-given : goal.returns-clause-given
returns-clause-given g c = c.answer.ensures.given

pub returns-clause-honest : goal.returns-clause-honest
returns-clause-honest g c = c.answer.ensures.honest

pub returns-clause-refused : goal.returns-clause-refused
returns-clause-refused g c = c.answer.ensures.refused
