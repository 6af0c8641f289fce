use Rattle.std.proofs.Common.{◌≢◌, All}
use Rattle.std.specs.Io.KnownBytes.{Consumes}
use Rattle.zarr_run_lines.proofs.input.append_runs.Given as goal

-- the line so far has no line feed, and is what was read
abbrev pub invariant-runs : goal.invariant-runs
invariant-runs g l = Consumes (g.B.Read.remaining l.initial.reader) (g.B.Read.remaining l.reader) l.line.items × All (λ x. x ≢ 10) l.line.items
