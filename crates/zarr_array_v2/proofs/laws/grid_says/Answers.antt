use Rattle.zarr_array_v2.proofs.Read as lemma
use Rattle.zarr_array_v2.proofs.laws.grid_says.Goals as goal

pub returns : goal.returns
returns c = lemma.grid_says
