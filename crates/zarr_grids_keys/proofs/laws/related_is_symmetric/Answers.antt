use Rattle.zarr_grids_keys.proofs.RelatedLemmas.{is_related-comm}
use Rattle.zarr_grids_keys.proofs.laws.related_is_symmetric.Goals as goal

pub returns : goal.returns
returns c = is_related-comm
