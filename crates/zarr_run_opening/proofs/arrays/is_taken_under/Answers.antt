use Rattle.std.proofs.Common.{sym, ◌∙◌, ◌≢◌, codes}
use Rattle.std.proofs.lemmas.Bool.{false≢true}
use Rattle.std.proofs.lemmas.Slice.Eq.{bytes_eq-Decides}
use Rattle.zarr_run_opening.proofs.TakenLemmas.{forward, taken_first, free_first, taken_root, not_empty}
use Rattle.zarr_run_opening.proofs.arrays.is_taken_under.Goals as goal

pub returns-then-eq-clause-taken : goal.returns-then-eq-clause-taken
returns-then-eq-clause-taken g c = λ t. taken_root c.args.arrays.now c.args.path.now ((bytes_eq-Decides _ _).0 (sym c.eq.ensures ∙ c.if-eq.true)) (not_empty c.args.arrays.now c.is_empty.result c.is_empty.ensures t)

pub range-requires : goal.range-requires
range-requires g c = forward c.args.path.now c.in_ok-first.first c.in_ok-end.end c.in_ok-first.ensures c.in_ok-end.ensures

pub returns-clause-taken : goal.returns-clause-taken
returns-clause-taken g c = λ t.
    let ne : c.args.path.now ≢ codes "/" = λ e. false≢true (sym (sym c.eq.ensures ∙ c.if-eq.false) ∙ (bytes_eq-Decides _ _).1 e) in
    taken_first c.args.arrays.now c.args.path.now c.in_ok-first.first c.in_ok-end.end _ c.range.result _ c.next.result c.in_ok-first.ensures c.in_ok-end.ensures ne (c.range.ensures.in_range tt) c.next.ensures.steps (sym c.is_some.ensures ∙ t)

pub returns-clause-free : goal.returns-clause-free
returns-clause-free g c = λ t.
    let ne : c.args.path.now ≢ codes "/" = λ e. false≢true (sym (sym c.eq.ensures ∙ c.if-eq.false) ∙ (bytes_eq-Decides _ _).1 e) in
    free_first c.args.arrays.now c.args.path.now c.in_ok-first.first c.in_ok-end.end _ c.range.result _ c.next.result c.in_ok-first.ensures c.in_ok-end.ensures ne (c.range.ensures.in_range tt) c.next.ensures.steps (sym c.is_some.ensures ∙ t)
