use Rattle.zarr_codecs_types.proofs.FillBack as lemma
use Rattle.zarr_codecs_types.proofs.laws.fill_reads_back.Goals as goal

pub returns : goal.returns
returns c = λ type cell d is. lemma.fill_back cell type d is
