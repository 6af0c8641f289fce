use Rattle.std.proofs.Common.{◌≡◌, ◌∙◌, ◌++◌, ◌∷◌, [], ap, arith, sym}
use Rattle.std.specs.List.{range_with_len}
use Rattle.zarr_sharding_index.proofs.Numbered.{one_more}
use Rattle.zarr_sharding_index.proofs.present.numbers_below.Goals as goal

pub loop-n-init : goal.loop-n-init
loop-n-init c = c.in_ok-numbers.ensures.items

pub loop-n-preserved : goal.loop-n-preserved
loop-n-preserved c = c.in_ok-push.ensures.items ∙ (ap (λ ns. ns ++ c.loop-n.n ∷ []) c.loop-n.invariant ∙ sym (one_more c.loop-n.n))

pub returns : goal.returns
returns c =
    let end : c.loop-n.n ≡ c.args.count = omega (arith, c.loop-n-test.false, c.loop-n.auto.n-end) in
    c.loop-n.invariant ∙ ap (range_with_len 0) end
