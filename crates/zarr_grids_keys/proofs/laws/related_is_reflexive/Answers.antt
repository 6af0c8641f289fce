use Rattle.zarr_grids_keys.proofs.RelatedLemmas.{is_related-refl}
use Rattle.zarr_grids_keys.proofs.laws.related_is_reflexive.Goals as goal

pub returns : goal.returns
returns c = is_related-refl
