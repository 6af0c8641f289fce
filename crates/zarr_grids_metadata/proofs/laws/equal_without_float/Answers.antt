use Rattle.zarr_grids_metadata.specs.EqualEquivalence as lemma
use Rattle.zarr_grids_metadata.proofs.laws.equal_without_float.Goals as goal

pub returns : goal.returns
returns c = lemma.equal_points_decides
