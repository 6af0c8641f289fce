use Rattle.zarr_array_meaning.proofs.OneAnswer.{rewritten_alike}
use Rattle.zarr_array_meaning.proofs.laws.rewritten_alike.Goals as goal

pub returns : goal.returns
returns c = rewritten_alike
