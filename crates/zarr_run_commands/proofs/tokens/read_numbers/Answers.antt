use Rattle.std.proofs.Common.{◌≡◌, ◌-◌, ◌<◌, length, Some, sym, ap, ◌∙◌, arith}
use Rattle.json.specs.Json.{parse_map, items, value}
use Rattle.serde_json.specs.Data.{number, unsigned}
use Rattle.serde_json.specs.Read.{of_items, of_json, converted}
use Rattle.zarr_run_commands.proofs.Turns.{goes_on, item_read, items_over, none_before, numbers_before, numbers_before-no_items, one_more_number}
use Rattle.zarr_run_commands.proofs.tokens.read_numbers.Goals as goal

pub items-init : goal.items-init
items-init c =
    let all = converted of_items (items (value 125) (length c.args.reader.now) c.args.reader.now) in
    (length c.args.reader.now, omega arith, none_before all ∙ ap (λ ns. parse_map (numbers_before ns) all) (sym c.in_ok-found.ensures.items), omega arith)

pub items-preserved : goal.items-preserved
items-preserved c =
    let p = value 125 in
    let l = c.items in
    let n = l.invariant.0 in
    let kept : c.take_end_array.new.self ≡ l.reader = grind arith in
    let done = c.in_ok-number.ensures in
    let going = goes_on of_json 125 l.reader (number (unsigned c.in_ok-number.number)) c.next_number.new.reader (rw (← kept) (done.ok 125)) in
    let x = c.in_ok-number.number in
    let r = c.next_number.new.reader in
    let less : length r < length l.reader = rw (← kept) done.shorter in
    let turn = item_read p n l.reader r (number (unsigned x)) (omega (arith, l.invariant.1)) going (rw (← kept) (done.ok 125)) in (
      n - 1,
      omega (arith, l.invariant.1),
      l.invariant.2 ∙ ap (parse_map (numbers_before l.found.items)) turn ∙ one_more_number l.found.items x _
          ∙ ap (λ ns. parse_map (numbers_before ns) (converted of_items (items p (n - 1) r))) (sym c.in_ok-push.ensures.items),
      omega (arith, l.invariant.3),
    )

pub returns-clause-ok : goal.returns-clause-ok
returns-clause-ok c =
    let p = value 125 in
    let l = c.items in
    let n = l.invariant.0 in
    let r = c.take_end_array.new.self in
    l.invariant.2 ∙ ap (parse_map (numbers_before l.found.items)) (items_over p n l.reader r l.invariant.1 (grind arith)) ∙ ap (λ ds. Some (ds, r)) (numbers_before-no_items l.found.items)
