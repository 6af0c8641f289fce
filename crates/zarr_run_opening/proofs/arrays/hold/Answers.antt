use Rattle.std.proofs.Common.{string_bytes}
use Rattle.std.proofs.lemmas.Map.Text.{btree_map_updates_text}
use Rattle.zarr_run_opening.proofs.ArrayLemmas.{at_others}
use Rattle.zarr_run_opening.proofs.arrays.hold.Goals as goal

pub returns-in-Ok-clause-others : goal.returns-in-Ok-clause-others
returns-in-Ok-clause-others g c = at_others _ _ _ _ (btree_map_updates_text (string_bytes c.args.path) c.args.arrays.now c.insert.new.self _ c.in-Ok.ensures.updates)
