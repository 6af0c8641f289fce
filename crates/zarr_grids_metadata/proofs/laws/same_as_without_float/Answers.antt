use Rattle.zarr_grids_metadata.proofs.TreeLemmas as lemma
use Rattle.zarr_grids_metadata.proofs.laws.same_as_without_float.Goals as goal

pub returns : goal.returns
returns c = lemma.same_as_without_float
