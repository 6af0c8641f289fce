use Rattle.std.proofs.Common.{◌≡◌, ◌+◌, ◌-◌, ◌*◌, ◌<◌, ◌≤◌, length, get_or, take, sym, ◌∙◌, arith}
use Rattle.std.proofs.lemmas.Int.Digits.{digits_more, digits_value_more}
use Rattle.std.proofs.lemmas.Str.{digit_value_digit}
use Rattle.std.specs.Char.{digit_value}
use Rattle.std.specs.Str.Parse.{digits_value}
use Rattle.zarr_run_commands.proofs.Digits.{few_below}
use Rattle.zarr_run_commands.proofs.cursor.digits_at_front.Goals as goal

pub overflow_mul-number : goal.overflow_mul-number
overflow_mul-number c =
    let l = c.loop-count in
    let less : l.count < c.if-bytes-lt-FEW_DIGITS.stop = grind arith in
    let low = few_below c.args.bytes.now l.count l.number (omega (arith, less, l.invariant.4)) l.invariant.0 l.invariant.1 in
    omega (arith, low)

pub overflow_add-number : goal.overflow_add-number
overflow_add-number c =
    let l = c.loop-count in
    let less : l.count < c.if-bytes-lt-FEW_DIGITS.stop = grind arith in
    let low = few_below c.args.bytes.now l.count l.number (omega (arith, less, l.invariant.4)) l.invariant.0 l.invariant.1 in
    let d = get_or c.args.bytes.now l.count 0 in
    let high : d ≤ 57 = grind arith in
    omega (arith, low, high)

pub loop-count-preserved : goal.loop-count-preserved
loop-count-preserved c =
    let bs = c.args.bytes.now in
    let l = c.loop-count in
    let k = l.count in
    let d = get_or bs k 0 in
    let within : k < c.if-bytes-lt-FEW_DIGITS.stop = grind arith in
    let less : k < length bs = omega (arith, within, l.invariant.3) in
    let before = l.invariant in
    let low : 48 ≤ d = grind arith in
    let high : d ≤ 57 = grind arith in
    let plus = digit_value_digit d (low, high) in
    let sum : l.number * 10 + (d - 48) ≡ digits_value 10 (take k bs) * 10 + digit_value d = omega (arith, before.1, plus, low) in
    (digits_more 10 bs k less before.0 (omega (arith, plus, high)), sum ∙ sym (digits_value_more 10 bs k less), omega (arith, within), before.3, before.4)
