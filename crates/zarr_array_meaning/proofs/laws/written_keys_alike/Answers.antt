use Rattle.zarr_array_meaning.proofs.OneAnswer.{written_keys_alike}
use Rattle.zarr_array_meaning.proofs.laws.written_keys_alike.Goals as goal

pub returns : goal.returns
returns c = written_keys_alike
