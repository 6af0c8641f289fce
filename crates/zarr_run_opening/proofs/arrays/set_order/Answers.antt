use Rattle.std.proofs.Common.{rules, refl, ◌∙◌}
use Rattle.std.proofs.lemmas.Map.Text.{btree_map_updates_text}
use Rattle.zarr_run_opening.specs.declared.held.HeldArray.{HeldArray}
use Rattle.zarr_run_opening.proofs.ArrayLemmas.{at_path, at_others, reordered_same}
use Rattle.zarr_run_opening.proofs.arrays.set_order.Goals as goal

pub returns-in-Some-clause-ordered : goal.returns-in-Some-clause-ordered
returns-in-Some-clause-ordered g c = λ array found.
    let new : HeldArray g.row.B.Denot = record c.in-Some.array.now { core = c.set_write_order.new.array; order = c.args.order } in
    let set = c.set_write_order.ensures in (
      new,
      at_path _ _ _ _ (btree_map_updates_text c.args.path.now c.args.arrays.now (c.get_mut.follows.lender _) _ ((c.get_mut.follows.holds _).3 (search rules))),
      reordered_same g.B.BytesToBytesCodecTraits.meaning c.args.order c.in-Some.array.now array new (c.in-Some.ensures.value ∙ found)
          (record { path = set.path; tree = refl; document = set.document; order_is = refl; exact = set.exact }),
    )

pub returns-in-Some-clause-others : goal.returns-in-Some-clause-others
returns-in-Some-clause-others g c = at_others _ _ _ _ (btree_map_updates_text c.args.path.now c.args.arrays.now (c.get_mut.follows.lender _) _ ((c.get_mut.follows.holds _).3 (search rules)))
