use Rattle.std.proofs.Common.{◌≡◌, ◌++◌, ◌∷◌, [], arith, rules}
use Rattle.zarr_codecs_regions.proofs.BoxLines.{line_more}
use Rattle.zarr_codecs_regions.proofs.asked.push_line.Goals as goal

pub loop-number-preserved : goal.loop-number-preserved
loop-number-preserved c =
    let number = c.loop-number.number in
    let pushed : c.push.new.self.items ≡ c.loop-number.numbers.items ++ number ∷ [] = search rules in
    let low = c.loop-number.invariant.1 in (
      line_more c.args.first number c.loop-number.numbers.items c.push.new.self.items c.args.numbers.now.items low c.loop-number.invariant.0 pushed,
      omega (arith, low),
    )
