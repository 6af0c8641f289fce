use Rattle.std.proofs.Common.{◌≡◌, ◌-◌, length, drop}
use Rattle.json.specs.Lex.{lex, between}
use Rattle.zarr_run_commands.proofs.cursor.skip_blanks.Given as goal

abbrev pub invariant-loop-next : goal.invariant-loop-next
invariant-loop-next l = lex between (drop l.next l.text) ≡ lex between (drop l.at l.text)

abbrev pub decreases-loop-next : goal.decreases-loop-next
decreases-loop-next l = length l.text - l.next
