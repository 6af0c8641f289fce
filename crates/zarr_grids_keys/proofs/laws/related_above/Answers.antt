use Rattle.zarr_grids_keys.proofs.RelatedLemmas.{is_related-above}
use Rattle.zarr_grids_keys.proofs.laws.related_above.Goals as goal

pub returns : goal.returns
returns c = is_related-above
