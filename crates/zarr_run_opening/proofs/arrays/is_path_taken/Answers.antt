use Rattle.std.proofs.Common.{sym, ◌∙◌, refl}
use Rattle.zarr_run_opening.proofs.TakenLemmas.{taken_at, related_same, free_result}
use Rattle.zarr_run_opening.proofs.arrays.is_path_taken.Goals as goal

pub returns-then-contains_key-clause-taken : goal.returns-then-contains_key-clause-taken
returns-then-contains_key-clause-taken g c = λ t. taken_at c.args.arrays.now c.args.path.now c.args.path.now (sym c.contains_key.ensures ∙ c.if-contains_key.true) (related_same c.args.path.now c.args.path.now refl)

pub returns-clause-free : goal.returns-clause-free
returns-clause-free g c = free_result c.args.arrays.now c.args.path.now c.is_taken_under.result (sym c.contains_key.ensures ∙ c.if-contains_key.false) (c.is_taken_above.ensures.free c.if-is_taken_above.false) c.is_taken_under.ensures.free
