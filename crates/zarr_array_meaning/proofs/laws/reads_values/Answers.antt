use Rattle.zarr_array_meaning.proofs.ShownValues.{reads_values}
use Rattle.zarr_array_meaning.proofs.laws.reads_values.Goals as goal

pub returns : goal.returns
returns c = reads_values
