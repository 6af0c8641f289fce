use Rattle.zarr_array_meaning.proofs.OneAnswer.{written_undamaged}
use Rattle.zarr_array_meaning.proofs.laws.written_undamaged.Goals as goal

pub returns : goal.returns
returns c = written_undamaged
