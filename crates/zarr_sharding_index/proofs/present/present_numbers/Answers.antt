use Rattle.std.proofs.Common.{◌≡◌, ◌∙◌, ◌++◌, ◌∷◌, [], ap, arith, false, true, sym}
use Rattle.zarr_codecs_meaning.specs.Decoding.{is_absent}
use Rattle.zarr_sharding_index.specs.Views.{pairs_of}
use Rattle.zarr_sharding_index.proofs.Numbered.{at, more_absent, more_present, present_below}
use Rattle.zarr_sharding_index.proofs.present.present_numbers.Goals as goal
use Rattle.zarr_sharding_index.proofs.present.present_numbers.Goals.{else-not-is_absent, then-not-is_absent+in_ok-push}

pub loop-number-init : goal.loop-number-init
loop-number-init c = c.in_ok-numbers.ensures.items

pub loop-number-preserved : goal.loop-number-preserved
loop-number-preserved c =
    let n = c.loop-number.number in
    let pairs = pairs_of c.args.index.now in
    let here = c.get.ensures in
    let told = c.is_absent.ensures in
    elim c.if-not-is_absent.branch [
      | then-not-is_absent+in_ok-push w ↦
          let t = w.if-not-is_absent.true in
          let there : is_absent (at pairs n) ≡ false = ap is_absent (sym here) ∙ grind (arith, told, t) in
          rw w.numbers-is (w.in_ok-push.ensures.items ∙ (ap (λ ns. ns ++ n ∷ []) c.loop-number.invariant ∙ sym (more_present pairs n there)))
      | else-not-is_absent w ↦
          let f = w.if-not-is_absent.false in
          let gone : is_absent (at pairs n) ≡ true = ap is_absent (sym here) ∙ grind (arith, told, f) in
          rw w.numbers-is (c.loop-number.invariant ∙ sym (more_absent pairs n gone))
    ]

pub returns : goal.returns
returns c =
    let end : c.loop-number.number ≡ c.len-number-end.result = omega (arith, c.loop-number-test.false, c.loop-number.auto.number-end) in
    c.shrink_to_fit.ensures.items ∙ (c.loop-number.invariant ∙ ap (present_below (pairs_of c.args.index.now)) (end ∙ c.len-number-end.ensures))
