use Rattle.std.proofs.Common.{◌≡◌, ◌+◌, ◌/◌, pos, true, false, nat_lt, Some, get_or, refl, ap, ◌∙◌, arith}
use Rattle.zarr_codecs_meaning.specs.Types.{integer}
use Rattle.zarr_codecs_types.specs.FillMetadata.{integer_fits}
use Rattle.zarr_codecs_types.specs.Integers.{integer_bytes}
use Rattle.zarr_codecs_types.specs.Views.{sign_of}
use Rattle.zarr_codecs_json.specs.Inside.{cell_inside}
use Rattle.zarr_codecs_json.proofs.ReadLists.{length-integer_bytes}
use Rattle.zarr_codecs_json.proofs.NumberLists.{number_not_read, number_read, numbers_end}
use Rattle.zarr_codecs_json.proofs.WholeNumbers.{no_cell, whole_cell}
use Rattle.zarr_codecs_json.proofs.whole_numbers.integers_of.Goals as goal

pub loop-number-preserved : goal.loop-number-preserved
loop-number-preserved c =
    let width = c.args.width in
    let sign = sign_of c.args.sign in
    let says = cell_inside (integer sign width) 0 in
    let count = (width + 7) / 8 in
    let some = c.requires.some in
    let n = get_or c.args.numbers.now c.loop-number.number-index 0 in
    let below : nat_lt n c.limit_of-limit.result ≡ true = grind arith in
    let fits : integer_fits sign width (pos n) ≡ true = c.limit_of-limit.ensures n ∙ below in
    let element = integer_bytes count (pos n) in
    number_read says count c.loop-number.bytes.items c.push_bytes.new.bytes.items element c.args.numbers.now c.loop-number.number-index n 0 (omega arith) (length-integer_bytes count (pos n))
    (whole_cell sign width n fits) c.loop-number-test.true refl c.in_ok-push_bytes.ensures c.loop-number.invariant

pub returns-then-number-limit-clause-none : goal.returns-then-number-limit-clause-none
returns-then-number-limit-clause-none c =
    let width = c.args.width in
    let sign = sign_of c.args.sign in
    let n = get_or c.args.numbers.now c.loop-number.number-index 0 in
    let above : nat_lt n c.limit_of-limit.result ≡ false = grind arith in
    let large : integer_fits sign width (pos n) ≡ false = c.limit_of-limit.ensures n ∙ above in
    number_not_read (integer sign width) ((width + 7) / 8) c.loop-number.bytes.items c.args.numbers.now c.loop-number.number-index n 0 (no_cell sign width n large) c.loop-number-test.true refl c.loop-number.invariant

pub returns-clause-some : goal.returns-clause-some
returns-clause-some c =
    let some = c.requires.some in
    numbers_end (integer (sign_of c.args.sign) c.args.width) ((c.args.width + 7) / 8) c.loop-number.bytes.items c.args.numbers.now c.loop-number.number-index (omega arith) (ap Some (omega arith)) (omega arith) c.loop-number.invariant
