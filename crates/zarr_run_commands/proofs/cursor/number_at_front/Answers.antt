use Rattle.std.proofs.Common.{◌≡◌, ◌<◌, ◌^◌, length, take, get_or, arith}
use Rattle.std.proofs.lemmas.List.{get_or-take, length-take-le}
use Rattle.zarr_run_commands.proofs.Digits.{digits_number, number_of_all_digits}
use Rattle.zarr_run_commands.proofs.cursor.number_at_front.Goals.{else-count-gt1-via-then-count-gt1+else-bytes-eq48, else-count-gt1-via-else-count-gt1}
use Rattle.zarr_run_commands.proofs.cursor.number_at_front.Goals as goal

pub returns-clause-number : goal.returns-clause-number
returns-clause-number c =
    let found = c.digits_at_front-number in
    let bs = c.args.bytes.now in
    let s = take found.result.1 bs in
    let long = length-take-le found.result.1 bs found.ensures.count in
    let some : 0 < length s = grind (arith, long) in
    let same : get_or s 0 0 ≡ get_or bs 0 0 = get_or-take found.result.1 bs 0 0 (omega (arith, some, long)) in
    digits_number s found.ensures.digits some (λ zero.
    elim c.else-count-gt1.branch [ else-count-gt1-via-then-count-gt1+else-bytes-eq48 w ↦ grind (arith, long, zero, same) | else-count-gt1-via-else-count-gt1 w ↦ grind (arith, long) ])

pub returns-clause-value : goal.returns-clause-value
returns-clause-value c =
    let found = c.digits_at_front-number in
    let bs = c.args.bytes.now in
    let s = take found.result.1 bs in
    let long = length-take-le found.result.1 bs found.ensures.count in
    let some : 0 < length s = grind (arith, long) in
    let small : found.result.0 < 2 ^ 64 = grind arith in
    number_of_all_digits s found.result.0 found.ensures.digits some found.ensures.value small
