use Rattle.std.proofs.Common.{rules, sym, ◌∙◌}
use Rattle.zarr_run_opening.proofs.TakenLemmas.{IsHeldAt, reached_parent, not_held, taken_parent, free_above}
use Rattle.zarr_run_opening.proofs.arrays.is_taken_above.Goals as goal

pub returns-then-contains_key-clause-taken : goal.returns-then-contains_key-clause-taken
returns-then-contains_key-clause-taken g c = λ t. taken_parent c.args.arrays.now c.args.path.now c.loop-parent.lower.now c.in-Some.parent.now c.loop-parent.invariant.1 c.in-Some.ensures.value c.in-Some.ensures.node_path (sym c.contains_key.ensures ∙ c.if-contains_key.true)

pub loop-parent-preserved : goal.loop-parent-preserved
loop-parent-preserved g c = (search rules, reached_parent (IsHeldAt c.args.arrays.now) c.args.path.now c.loop-parent.lower.now c.in-Some.parent.now c.loop-parent.invariant.1 c.in-Some.ensures.value c.in-Some.ensures.node_path (not_held c.args.arrays.now c.in-Some.parent.now (sym c.contains_key.ensures ∙ c.if-contains_key.false)))

pub returns-clause-free : goal.returns-clause-free
returns-clause-free g c = λ t. free_above c.args.arrays.now c.args.path.now c.loop-parent.lower.now c.loop-parent.invariant.1 c.in_default.ensures.value
