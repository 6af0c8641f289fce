use Rattle.zarr_array_v2.proofs.Named as lemma
use Rattle.zarr_array_v2.proofs.laws.reads_only_names.Goals as goal

pub returns : goal.returns
returns c = lemma.same_fields
