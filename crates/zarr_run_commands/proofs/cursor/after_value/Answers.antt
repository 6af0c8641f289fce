use Rattle.zarr_run_commands.proofs.Cursors.{brace_plain, bracket_plain, comma_plain}
use Rattle.zarr_run_commands.proofs.cursor.after_value.Goals as goal

pub returns-then-is_here-clause-plain : goal.returns-then-is_here-clause-plain
returns-then-is_here-clause-plain c = comma_plain _ _ (c.is_here.ensures.byte c.if-is_here.true)

pub returns-then-is_here-2-clause-plain : goal.returns-then-is_here-2-clause-plain
returns-then-is_here-2-clause-plain c = bracket_plain _ _ (c.is_here-2.ensures.byte c.if-is_here-2.true)

pub returns-then-is_here-3-clause-plain : goal.returns-then-is_here-3-clause-plain
returns-then-is_here-3-clause-plain c = brace_plain _ _ (c.is_here-3.ensures.byte c.if-is_here-3.true)
