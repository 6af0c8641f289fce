use Rattle.zarr_codecs_types.proofs.FillValues as lemma
use Rattle.zarr_codecs_types.proofs.laws.fill_is_value.Goals as goal

pub returns : goal.returns
returns c = lemma.fill_is_value
