use Rattle.std.proofs.Common.{rules, ◌≡◌, ◌∙◌, ℕ, suc, ◌+◌, ◌-◌, ◌<◌, ◌≤◌, List, [], ◌∷◌, length, drop, map, set, get_or, replicate, ap, sym, arith}
use Rattle.std.proofs.Math.Seq.{drop-length}
use Rattle.std.proofs.lemmas.List.{drop_more}
use Rattle.zarr_codecs_array_to_array.proofs.Inverses.{positions_from, positions_kept, positions_none, positions_put}
use Rattle.zarr_codecs_array_to_array.proofs.walks.inverse.Goals.{then-number-count, else-number-count}
use Rattle.zarr_codecs_array_to_array.proofs.walks.inverse.Goals as goal

pub loop-step-init : goal.loop-step-init
loop-step-init c =
    let order = c.args.order.now in
    let n = length order in
    let items : c.in_ok-positions.positions.items ≡ replicate n n = search rules in
    let all : n ≡ n - 0 = omega arith in
    items ∙ (positions_none n n 0 ∙ (ap (λ rest. positions_from n rest n) (sym (drop-length order)) ∙ ap (λ k. positions_from k (drop k order) n) all))

pub loop-step-preserved : goal.loop-step-preserved
loop-step-preserved c =
    let order = c.args.order.now in
    let n = length order in
    let step = c.loop-step.step in
    let left = n - 1 - step in
    let below : step < n = search (rules, c.loop-step-test.true) in
    let before : n - step ≡ suc left = omega (arith, below) in
    let now : left ≡ n - (step + 1) = omega (arith, below) in
    let m = get_or order left 0 in
    let rest = drop (suc left) order in
    let one : left + 1 ≡ suc left = omega arith in
    let split : drop left order ≡ m ∷ rest = drop_more order left 0 (omega (arith, below)) ∙ ap (λ k. m ∷ drop k order) one in
    let old : c.loop-step.positions.items ≡ positions_from (suc left) rest n = c.loop-step.invariant ∙ ap (λ k. positions_from k (drop k order) n) before in
    let back : positions_from left (m ∷ rest) n ≡ positions_from (n - (step + 1)) (drop (n - (step + 1)) order) n = ap (λ ns. positions_from left ns n) (sym split) ∙ ap (λ k. positions_from k (drop k order) n) now in
    elim c.if-number-count.branch [
      | then-number-count w ↦ let few : m < n = search rules in
          let put = ap (λ ns. set ns m left) old ∙ (positions_put left m rest n few ∙ back) in search (rules, put)
      | else-number-count w ↦ let many : n ≤ m = search rules in
          let kept = old ∙ (positions_kept left m rest n many ∙ back) in search (rules, kept)
    ]
