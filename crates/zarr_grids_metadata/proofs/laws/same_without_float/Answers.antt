use Rattle.zarr_grids_metadata.proofs.TreeLemmas as lemma
use Rattle.zarr_grids_metadata.proofs.laws.same_without_float.Goals as goal

pub returns : goal.returns
returns c = lemma.same_without_float
