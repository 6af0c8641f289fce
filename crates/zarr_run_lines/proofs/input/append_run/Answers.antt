use Rattle.std.proofs.Common.{◌≡◌, [], take, sym, append-nil, arith, subst}
use Rattle.std.specs.Io.BufRead.{FillKeeps}
use Rattle.std.proofs.KnownBytes.{Consumes-nil, Consumes-kept}
use Rattle.std.proofs.BufReadLemmas.{Consumes_shown}
use Rattle.zarr_run_lines.proofs.input.append_run.Goals as goal

pub returns : goal.returns
returns g c =
    let end = c.run_len-end in
    let rested = c.fill_buf.follows.lender-at-none in
    let filled = subst (FillKeeps _ (g.B.Read.remaining rested) (g.B.BufRead.consumable_len rested)) c.in-Ok.is c.fill_buf.follows.holds-at-none in
    let moved = Consumes_shown _ _ _ _ c.in-Ok.available.now end.result end.ensures.bound c.in-Ok.ensures.front c.in-Ok.ensures.end filled.0 filled.1 c.consume.ensures.bytes in
    (take end.result c.in-Ok.available.now, c.in_ok-extend_from_slice.ensures.items, moved.0, end.ensures.plain)
