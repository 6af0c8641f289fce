use Rattle.zarr_array_v2.proofs.Named as lemma
use Rattle.zarr_array_v2.proofs.laws.reads_by_name.Goals as goal

pub returns : goal.returns
returns c = lemma.reads
