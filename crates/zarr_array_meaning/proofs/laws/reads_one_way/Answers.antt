use Rattle.zarr_array_meaning.proofs.OneAnswer.{reads_one_way}
use Rattle.zarr_array_meaning.proofs.laws.reads_one_way.Goals as goal

pub returns : goal.returns
returns c = reads_one_way
