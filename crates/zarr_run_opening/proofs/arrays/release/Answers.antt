use Rattle.std.proofs.lemmas.Map.Text.{btree_map_updates_text}
use Rattle.zarr_run_opening.proofs.ArrayLemmas.{at_others}
use Rattle.zarr_run_opening.proofs.arrays.release.Goals as goal

pub returns-clause-others : goal.returns-clause-others
returns-clause-others g c = at_others _ _ _ _ (btree_map_updates_text c.args.path.now c.args.arrays.now c.remove.new.self _ c.remove.ensures.updates)
