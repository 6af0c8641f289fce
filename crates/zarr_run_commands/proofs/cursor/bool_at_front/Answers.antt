use Rattle.std.proofs.Common.{codes}
use Rattle.std.proofs.lemmas.Bool.Decides.{Decides-eqb}
use Rattle.std.proofs.lemmas.Slice.Eq.{starts_is}
use Rattle.zarr_run_commands.proofs.cursor.bool_at_front.Goals as goal

pub returns-then-starts_with-clause-word : goal.returns-then-starts_with-clause-word
returns-then-starts_with-clause-word c = (starts_is Decides-eqb c.args.bytes.now (codes "true") _ c.starts_with.ensures.value).0 c.if-starts_with.true

pub returns-then-starts_with-2-clause-word : goal.returns-then-starts_with-2-clause-word
returns-then-starts_with-2-clause-word c = (starts_is Decides-eqb c.args.bytes.now (codes "false") _ c.starts_with-2.ensures.value).0 c.if-starts_with-2.true
