use Rattle.zarr_run_lines.proofs.Runs.{through_run}
use Rattle.zarr_run_lines.proofs.input.read_piece.Goals as goal

pub returns-in-Ok-clause-bytes : goal.returns-in-Ok-clause-bytes
returns-in-Ok-clause-bytes g c =
    (through_run (g.B.Read.remaining c.args.reader.now) (g.B.Read.remaining c.append_runs.new.reader) (g.B.Read.remaining c.read_until.new.self) c.append_runs.new.line.items c.read_until.new.buf.items
    c.in_ok-append_runs.ensures.read c.in_ok-append_runs.ensures.run c.in-Ok.ensures.bytes c.in-Ok.ensures.rest).0

pub returns-in-Ok-clause-rest : goal.returns-in-Ok-clause-rest
returns-in-Ok-clause-rest g c =
    (through_run (g.B.Read.remaining c.args.reader.now) (g.B.Read.remaining c.append_runs.new.reader) (g.B.Read.remaining c.read_until.new.self) c.append_runs.new.line.items c.read_until.new.buf.items
    c.in_ok-append_runs.ensures.read c.in_ok-append_runs.ensures.run c.in-Ok.ensures.bytes c.in-Ok.ensures.rest).1
