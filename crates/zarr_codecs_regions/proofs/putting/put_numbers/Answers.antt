use Rattle.std.proofs.Common.{◌≡◌, ◌∙◌, ◌+◌, ◌-◌, ap, arith, length}
use Rattle.std.specs.List.{range_with_len}
use Rattle.std.proofs.lemmas.List.{length-set}
use Rattle.std.proofs.lemmas.List.FromFn.{length-range_with_len}
use Rattle.zarr_codecs_regions.specs.Updates.{put}
use Rattle.zarr_codecs_regions.proofs.Puts.{put_more}
use Rattle.zarr_codecs_regions.proofs.putting.put_numbers.Goals as goal

pub loop-number-init : goal.loop-number-init
loop-number-init c =
    let numbers = c.args.numbers.now in
    let count = c.args.count in
    let sources = c.in_ok-sources.sources.items in
    let all : length numbers - 0 ≡ length numbers = omega arith in (
      ap (λ n. put numbers (range_with_len count n) sources) all ∙ ap (put numbers (range_with_len count (length numbers))) c.in_ok-sources.ensures,
      (let none : count ≡ count + 0 = omega arith in none, ap length c.in_ok-sources.ensures ∙ length-range_with_len 0 count),
    )

pub loop-number-preserved : goal.loop-number-preserved
loop-number-preserved c =
    let before = c.loop-number.invariant in
    let next = before.1.0 in (
      put_more c.args.numbers.now c.loop-number.sources.items c.loop-number.next c.loop-number.number-index _ c.loop-number-test.true before.0,
      (omega (arith, next), length-set c.loop-number.sources.items _ _ ∙ before.1.1),
    )
