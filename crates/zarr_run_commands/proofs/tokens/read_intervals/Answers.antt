use Rattle.std.proofs.Common.{◌≡◌, ◌+◌, ◌-◌, ◌<◌, [], ◌∷◌, ◌++◌, length, length-append, option_and_then, sym, ap, ◌∙◌, subst, arith}
use Rattle.json.specs.Json.{parse_map, items, value}
use Rattle.zarr_grids_boxes.specs.Boxes.{EndsFit}
use Rattle.serde_json.specs.Read.{of_json}
use Rattle.zarr_run_commands.specs.Lines.{interval_in}
use Rattle.zarr_run_commands.proofs.Turns.{goes_on}
use Rattle.zarr_run_commands.proofs.Pairs.{after, fit_more}
use Rattle.zarr_run_commands.proofs.Saying.{regions, region_read, one_more_interval, regions_over}
use Rattle.zarr_run_commands.proofs.tokens.read_intervals.Goals as goal

pub pairs-preserved : goal.pairs-preserved
pairs-preserved c =
    let p = value 125 in
    let l = c.pairs in
    let n = l.invariant.0 in
    let start = l.start.items in
    let shape = l.shape.items in
    let kept : c.take_end_array.new.self ≡ l.reader = grind arith in
    let done = c.in_ok-first.ensures in
    let going = goes_on (λ j. option_and_then interval_in (of_json j)) 125 l.reader (c.in_ok-first.first, c.in_ok-first.size) c.read_interval.new.reader (rw (← kept) done.ok) in
    let s = c.in_ok-first.first in
    let e = c.in_ok-first.size in
    let r = c.read_interval.new.reader in
    let less : length r < length l.reader = rw (← kept) done.shorter in
    let turn = region_read p n l.reader r (s, e) (omega (arith, l.invariant.1)) going (rw (← kept) done.ok) in
    let rest = regions (items p (n - 1) r) in
    let longer : c.push.new.self.items ≡ start ++ s ∷ [] = c.in_ok-push.ensures.items in
    let wider : c.push-in-pairs.new.self.items ≡ shape ++ e ∷ [] = c.in_ok-push-2.ensures.items in
    let same = length-append shape (e ∷ []) ∙ (ap (λ k. k + 1) l.invariant.4 ∙ sym (length-append start (s ∷ []))) in
    let fit = fit_more start shape s e l.invariant.4 l.invariant.5 done.fits in (
      n - 1,
      omega (arith, l.invariant.1),
      l.invariant.2 ∙ ap (parse_map (after start shape)) turn ∙ one_more_interval start shape (s, e) rest
          ∙ ap (λ xs. parse_map (after xs (shape ++ e ∷ [])) rest) (sym longer) ∙ ap (λ xs. parse_map (after c.push.new.self.items xs) rest) (sym wider),
      omega (arith, l.invariant.3),
      ap length wider ∙ (same ∙ sym (ap length longer)),
      subst (λ xs. EndsFit xs c.push-in-pairs.new.self.items) (sym longer) (subst (λ xs. EndsFit (start ++ s ∷ []) xs) (sym wider) fit),
    )

pub returns-clause-ok : goal.returns-clause-ok
returns-clause-ok c =
    let l = c.pairs in
    l.invariant.2 ∙ regions_over (value 125) l.invariant.0 l.reader c.take_end_array.new.self l.start.items l.shape.items l.invariant.1 (grind arith)
