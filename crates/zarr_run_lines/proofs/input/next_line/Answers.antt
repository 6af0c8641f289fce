use Rattle.std.proofs.Common.{rules, arith}
use Rattle.zarr_run_lines.proofs.ReadingLemmas.{takes-line}
use Rattle.zarr_run_lines.proofs.input.next_line.Goals as goal

pub returns-clause-line : goal.returns-clause-line
returns-clause-line g c more rest left =
    takes-line _ _ _ _ c.read_piece.new.line.items _ c.in_ok-count.ensures.count (search rules) (omega (arith, c.if-count-limits.false)) c.in_ok-count.ensures.bytes c.in_ok-count.ensures.rest c.strip_feed.ensures rest left
