use Rattle.std.proofs.Common.{◌≡◌, Some, sym, ap, ◌∙◌, arith}
use Rattle.json.specs.Json.{after_end_array}
use Rattle.zarr_run_commands.proofs.Saying.{interval_read}
use Rattle.zarr_run_commands.proofs.tokens.read_interval.Goals as goal

pub returns-clause-ok : goal.returns-clause-ok
returns-clause-ok c =
    let ts0 = c.begin_array.new.reader in
    let ts1 = c.next_number.new.reader in
    let ts2 = c.next_number-2.new.reader in
    let r = c.take_end_array.new.self in
    let start = c.in_ok-start.ensures in
    let end = c.in_ok-end.ensures in
    let closed : after_end_array ts2 ≡ Some r = grind arith in
    interval_read c.args.reader.now ts0 ts1 ts2 r c.in_ok-start.start c.in_ok-end.end c.in_ok-begin_array.ensures (start.ok 124) (end.ok 124) closed start.shorter end.shorter
    ∙ ap (λ n. Some ((c.in_ok-start.start, n), r)) (sym c.saturating_sub.ensures)
