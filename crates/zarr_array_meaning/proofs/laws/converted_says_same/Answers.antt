use Rattle.zarr_array_meaning.proofs.ConvertedSame.{converted_says_same}
use Rattle.zarr_array_meaning.proofs.laws.converted_says_same.Goals as goal

pub returns : goal.returns
returns c = converted_says_same
