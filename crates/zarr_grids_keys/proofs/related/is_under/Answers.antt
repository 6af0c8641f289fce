use Rattle.std.proofs.Common.{◌∙◌, rules}
use Rattle.zarr_grids_keys.proofs.RelatedLemmas.{is_under-after, is_under-other}
use Rattle.zarr_grids_keys.proofs.related.is_under.Goals as goal

pub returns-in-Some : goal.returns-in-Some
returns-in-Some c = c.begins_with_slash.ensures ∙ is_under-after c.args.path.now c.args.other.now c.in-Some.rest.now (search rules) (search rules) (search rules)

pub returns-in-None : goal.returns-in-None
returns-in-None c = is_under-other c.args.path.now c.args.other.now (search rules) (search rules)
